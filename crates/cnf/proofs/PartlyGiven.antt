-- Lists given one after another: what is left to give to a sheet, up to the end or the first refusal.
use Rattle.std.proofs.Common.{◌≡◌, List, [], ◌++◌, IsErrAnd, Ok, Err, Result, sym, refl, ap, ◌∙◌}
use Rattle.std.proofs.lemmas.Result.{err_from_is_err_and}
use Rattle.cnf.specs.declared.sheet_fault.SheetFault.{SheetFault}
use Rattle.cnf.specs.declared.sheet.Sheet.{Ghosts}
use Rattle.cnf.specs.Calls.{each_answer, each_held}
use Rattle.cnf.specs.Clauses.{Clause}
use Rattle.cnf.proofs.GivingEach.{LeftToGive, left_all, left_same, left_list_given, left_refused, left_none}
use Rattle.cnf.specs.Sheets.{GivenEach}

-- of the clauses `all` that are given to s, those `left` are still to give to t
pub record PartlyGiven {S : Type 0} (sheet : Ghosts S) (s t : S) (all left : List Clause) : Type 0 where
  pub rule : sheet.fits t ≡ sheet.fits s
  pub same : sheet.loan t ≡ sheet.loan s
  pub rest : LeftToGive (sheet.fits s) (sheet.held s) all (sheet.held t) left

module _ {S : Type 0} {sheet : Ghosts S} where
  pub partly_start : (s : S) (all : List Clause) → PartlyGiven sheet s s all all
  partly_start s all = record { rule = refl; same = refl; rest = left_all (sheet.fits s) (sheet.held s) all }

  pub partly_same : {s t : S} {all left rest : List Clause} → left ≡ rest → PartlyGiven sheet s t all left
      → PartlyGiven sheet s t all rest
  partly_same e w = record { rule = w.rule; same = w.same; rest = left_same e w.rest }

  -- what a list that comes next answers and leaves, by the rule at the start
  module _ {s t u : S} {all left : List Clause} {r : Result (Unit {0}) SheetFault} (cs : List Clause)
      (w : PartlyGiven sheet s t all left) (p : GivenEach sheet t u r cs) where
    answer_by : r ≡ each_answer (sheet.fits s) (sheet.held t) cs
    answer_by = p.answer ∙ ap (λ f. each_answer f (sheet.held t) cs) w.rule

    after_by : sheet.held u ≡ each_held (sheet.fits s) (sheet.held t) cs
    after_by = p.after ∙ ap (λ f. each_held f (sheet.held t) cs) w.rule

  pub partly_on : {s t u : S} {all left : List Clause} (cs : List Clause) → PartlyGiven sheet s t all (cs ++ left)
      → GivenEach sheet t u (Ok tt) cs → PartlyGiven sheet s u all left
  partly_on cs w p =
      record {
        rule = p.rule ∙ w.rule;
        same = p.same ∙ w.same;
        rest = left_list_given cs (answer_by cs w p) (after_by cs w p) w.rest;
      }

  -- the exit of a `?`: the refusal of one list is that of all
  pub partly_exits : {s t u : S} {all : List Clause} {r : Result (Unit {0}) SheetFault} (cs left : List Clause)
      (e : SheetFault)
      → PartlyGiven sheet s t all (cs ++ left) → GivenEach sheet t u (Err e) cs → IsErrAnd r (λ x. x ≡ e)
      → GivenEach sheet s u r all
  partly_exits {r = r} cs left e w p h =
      let x = err_from_is_err_and r h in
      let q = left_refused cs left e (answer_by cs w p) (after_by cs w p) w.rest in
      record { rule = p.rule ∙ w.rule; same = p.same ∙ w.same; answer = x.1 ∙ ap Err x.2 ∙ q.0; after = q.1 }

  -- the last list, however it ends
  pub partly_last : {s t u : S} {all : List Clause} {r : Result (Unit {0}) SheetFault} (cs : List Clause)
      → PartlyGiven sheet s t all cs → GivenEach sheet t u r cs → GivenEach sheet s u r all
  partly_last cs w p =
      record {
        rule = p.rule ∙ w.rule;
        same = p.same ∙ w.same;
        answer = answer_by cs w p ∙ sym w.rest.answer;
        after = after_by cs w p ∙ sym w.rest.held;
      }

  pub partly_ends : {s t : S} {all : List Clause} → PartlyGiven sheet s t all [] → GivenEach sheet s t (Ok tt) all
  partly_ends w = let q = left_none w.rest in record { rule = w.rule; same = w.same; answer = q.0; after = q.1 }
