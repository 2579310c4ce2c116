-- All or nothing, from what was given one after another: the whole list is there, or the sheet was cut back.
use Rattle.std.proofs.Common.{◌≡◌, ℕ, ◌+◌, List, length, MatchResult, Ok, Err, Result, ap, ◌∙◌, sym, refl, arith}
use Rattle.std.proofs.lemmas.Result.{err_from_is_err_and}
use Rattle.cnf.specs.declared.sheet_fault.SheetFault.{SheetFault}
use Rattle.cnf.specs.declared.sheet.Sheet.{Ghosts}
use Rattle.cnf.specs.Calls.{refusal_of, all_answer, all_held, each_held}
use Rattle.cnf.specs.Clauses.{Clause}
use Rattle.cnf.specs.Sheets.{SameSheet, AllGiven, TakenBack, GivenAll}
use Rattle.cnf.proofs.GivingEach.{cut_back, each_longer, all_taken, all_refused, all_whole, all_whole_held}

module _ {S : Type 0} {sheet : Ghosts S} (s t : S) (cs : List Clause) (stays : SameSheet sheet s t) where
  -- the answer and what is held, as giving all has them
  all_from : {r : Result ℕ SheetFault} → r ≡ all_answer (sheet.fits s) (sheet.held s) cs
      → sheet.held t ≡ all_held (sheet.fits s) (sheet.held s) cs → GivenAll sheet s t r cs
  all_from answer after =
      let begins = sheet.begins s in
      let sound = sheet.sound s in
      record {
        rule = stays.rule;
        same = stays.same;
        answer = answer;
        after = after;
        whole = λ formed. answer ∙ all_whole (sheet.fits s) (sheet.held s) cs begins sound formed;
        whole_after = λ formed. after ∙ all_whole_held (sheet.fits s) (sheet.held s) cs begins sound formed;
      }

  pub given_all : (r : Result ℕ SheetFault)
      → MatchResult r (λ more. AllGiven sheet s t more cs) (λ fault. TakenBack sheet s t fault cs)
      → GivenAll sheet s t r cs
  given_all (Ok more) grown =
      let held = each_held (sheet.fits s) (sheet.held s) cs in
      let longer = each_longer (sheet.fits s) (sheet.held s) cs in
      let n : more + length (sheet.held s) ≡ length held =
      omega (arith, grown.counted, ap length grown.after, longer) in
      let all = all_taken (sheet.fits s) (sheet.held s) cs more (sym grown.answer) n in
      all_from all.0 (grown.after ∙ all.1)
  given_all (Err fault) taken =
      let held = sheet.held s in
      let first = err_from_is_err_and _ taken.answer in
      let all = all_refused (sheet.fits s) held cs first.0 (sym first.1) in
      let counting : ℕ → SheetFault = λ n. record { cause = fault.cause; count = n } in
      let same = ap (λ n. Err (counting n)) taken.counted ∙ ap (λ cause. Err (refusal_of cause held)) (sym first.2) in
      let back = taken.after ∙ cut_back (sheet.fits s) held cs _ (length held) refl refl in
      all_from (same ∙ all.0) (back ∙ all.1)
