-- All literals pass the test of each.
use Rattle.std.proofs.Common.{◌≡◌, ◌&&◌, List, [], ◌∷◌, ℤ, refl, ap}
use Rattle.std.specs.List.{list_all}
use Rattle.cnf.specs.Clauses.{literal_formed, literals_formed}

pub formed_all : (ls : List ℤ) → list_all literal_formed ls ≡ literals_formed ls
formed_all [] = refl
formed_all (l ∷ ls) = ap (λ b. literal_formed l && b) (formed_all ls)
