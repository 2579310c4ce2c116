-- The clauses that say that one of some literals or parts holds are satisfied just where one does, and name no more
-- than these name.
use Rattle.std.proofs.Common.{◌≡◌, ℕ, ◌+◌, ◌<◌, ◌≤◌, Bool, true, false, not, ◌&&◌, ◌||◌, List, [], ◌∷◌, ◌++◌, length}
use Rattle.std.proofs.Common.{ℤ, nat_abs, sym, refl, ap, ◌∙◌, arith, length-append}
use mathlib.Core.Bool.{and-true, or-true, or-false, or_assoc}
use Rattle.std.specs.List.{AllByRecursion}
use Rattle.pb.specs.Meaning.{Assignment, holds}
use Rattle.pb.proofs.Settling.{variable_of_complement, complement_holds}
use Rattle.cnf.specs.declared.clause.TheConstants.{MOST_LITERALS}
use Rattle.cnf.specs.Clauses.{Clause, some_holds, satisfies_all, literals_within}
use Rattle.cnf.proofs.Satisfying.{satisfies_append}
use Rattle.encode.specs.declared.part.Part.{Part}
use Rattle.encode.specs.declared.part.Part.TheVariants.{Literal, Always, Never}
use Rattle.encode.specs.Parts.{opposite, disjunction, clause_after, clause_of}
use Rattle.encode.proofs.ShortClauses.{AreShortWithin, within_push}

pub disjunction_satisfied : (v : Assignment) (ls : List ℤ) → satisfies_all v (disjunction ls) ≡ some_holds v ls
disjunction_satisfied v ls = and-true (some_holds v ls)

pub disjunction_short : (p : ℕ → Bool) (ls : List ℤ)
    → literals_within p ls ≡ true → length ls ≤ MOST_LITERALS → AreShortWithin p (disjunction ls)
disjunction_short p ls h few = (record { within = h; short = few }, tt)

-- whether a part holds, and whether one of some parts does
abbrev pub worth : Assignment → Part → Bool
worth v (Literal l) = holds v l
worth v Always = true
worth v Never = false

abbrev pub some_worth : Assignment → List Part → Bool
some_worth v [] = false
some_worth v (p ∷ ps) = worth v p || some_worth v ps

some_holds_push : (v : Assignment) (ls : List ℤ) (l : ℤ) (b : Bool)
    → (some_holds v (ls ++ l ∷ []) || b) ≡ (some_holds v ls || (holds v l || b))
some_holds_push v [] l b = ap (λ x. x || b) (or-false (holds v l))
some_holds_push v (x ∷ ls) l b =
    or_assoc (holds v x) (some_holds v (ls ++ l ∷ [])) b
    ∙ ap (λ y. holds v x || y) (some_holds_push v ls l b)
    ∙ sym (or_assoc (holds v x) (some_holds v ls) (holds v l || b))

satisfied_after : (v : Assignment) (done : List ℤ) (ps : List Part)
    → satisfies_all v (clause_after done ps) ≡ (some_holds v done || some_worth v ps)
satisfied_after v done [] = disjunction_satisfied v done ∙ sym (or-false (some_holds v done))
satisfied_after v done (Literal l ∷ ps) =
    satisfied_after v (done ++ l ∷ []) ps ∙ some_holds_push v done l (some_worth v ps)
satisfied_after v done (Always ∷ ps) = sym (or-true (some_holds v done))
satisfied_after v done (Never ∷ ps) = satisfied_after v done ps

pub clause_of_satisfied : (v : Assignment) (ps : List Part) → satisfies_all v (clause_of ps) ≡ some_worth v ps
clause_of_satisfied v ps = satisfied_after v [] ps

pub clause_of_first : (v : Assignment) (ps : List Part) (cs : List Clause)
    → satisfies_all v (clause_of ps ++ cs) ≡ (some_worth v ps && satisfies_all v cs)
clause_of_first v ps cs =
    satisfies_append v (clause_of ps) cs ∙ ap (λ b. b && satisfies_all v cs) (clause_of_satisfied v ps)

-- a part that names a variable, if it names any
abbrev pub NamesVariable : Part → Type 0
NamesVariable (Literal l) = 0 < nat_abs l
NamesVariable Always = Unit {0}
NamesVariable Never = Unit {0}

-- the opposite of such a part holds where the part does not
pub worth_opposite : (v : Assignment) (p : Part) → NamesVariable p → worth v (opposite p) ≡ not (worth v p)
worth_opposite v (Literal l) h = complement_holds v l h
worth_opposite v Always h = refl
worth_opposite v Never h = refl

-- a part whose variable, if it has one, passes a test
abbrev pub IsWithin : (ℕ → Bool) → Part → Type 0
IsWithin p (Literal l) = p (nat_abs l) ≡ true
IsWithin p Always = Unit {0}
IsWithin p Never = Unit {0}

pub opposite_within : (p : ℕ → Bool) (q : Part) → IsWithin p q → IsWithin p (opposite q)
opposite_within p (Literal l) h = ap p (variable_of_complement l) ∙ h
opposite_within p Always h = tt
opposite_within p Never h = tt

short_after : (p : ℕ → Bool) (done : List ℤ) (ps : List Part)
    → literals_within p done ≡ true → length done + length ps ≤ MOST_LITERALS → AllByRecursion (IsWithin p) ps
    → AreShortWithin p (clause_after done ps)
short_after p done [] h few all = disjunction_short p done h (omega arith)
short_after p done (Literal l ∷ ps) h few all =
    short_after p (done ++ l ∷ []) ps (within_push p done l h all.0) (simp length-append (omega arith)) all.1
short_after p done (Always ∷ ps) h few all = tt
short_after p done (Never ∷ ps) h few all = short_after p done ps h (omega arith) all.1

pub clause_of_short : (p : ℕ → Bool) (ps : List Part)
    → length ps ≤ MOST_LITERALS → AllByRecursion (IsWithin p) ps → AreShortWithin p (clause_of ps)
clause_of_short p ps few all = short_after p [] ps refl (omega arith) all
