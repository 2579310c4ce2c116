-- What a change in place leaves in a lent table: the wanted terms in front, and the rest as it was.
use Rattle.std.specs.Prelude.{◌≡◌, ℕ, ◌≤◌, List, length, take, drop}
use Rattle.pb.specs.declared.working.WorkingHead.{WorkingHead}
use Rattle.pb.specs.declared.working.WorkingTerm.{WorkingTerm}
use Rattle.pb.specs.Lines.{Working, line_in}

-- the first of the table's entries, as many as counted, are the wanted terms; the others are as before
pub record HoldsTerms (wanted : List WorkingTerm) (count : ℕ) (before after : List WorkingTerm) : Type 0 where
  pub front : wanted ≡ take count after
  pub within : count ≤ length after
  pub rest : drop count after ≡ drop count before

-- the head over the table is the wanted line, and the entries past it are as before: all, where it has no terms
pub record HoldsLine (wanted : Working) (h : WorkingHead) (before after : List WorkingTerm) : Type 0 where
  pub line : wanted ≡ line_in h after
  pub within : h.count ≤ length after
  pub rest : drop h.count after ≡ drop h.count before

-- a term with its weight changed
abbrev pub reweighed : (ℕ → ℕ) → WorkingTerm → WorkingTerm
reweighed f t = record { weight = f t.weight; literal = t.literal }
