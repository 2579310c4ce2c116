-- By an encoder's law a line's clauses are well-formed, and so they go on a sheet as a whole list or not at all.
use Rattle.std.proofs.Common.{◌≡◌, ℕ, true, cond, List, Err, Result, sym, ap, ◌∙◌}
use Rattle.cnf.specs.declared.sheet.Sheet.{Ghosts}
use Rattle.cnf.specs.declared.sheet_fault.SheetFault.{SheetFault}
use Rattle.cnf.specs.Calls.{all_answer, all_held}
use Rattle.cnf.specs.Clauses.{Clause}
use Rattle.cnf.specs.Sheets.{GivenAll}
use Rattle.cnf.proofs.GivingEach.{all_whole, all_whole_held}
use Rattle.encode.specs.declared.encode_fault.EncodeFault.{EncodeFault}
use Rattle.encode.specs.declared.encode_fault.EncodeFault.TheVariants.{Reach}
use Rattle.encode.specs.Calls.{or_sheet, encode_answer, encode_held, Encoded}
use Rattle.encode.specs.Law.{Encoding, Lawful}
use Rattle.pb.specs.Lines.{Working}

module _ {S : Type 0} (sheet : Ghosts S) (s t : S) (r : Result ℕ EncodeFault)
    (e : Encoding) (w : Working) (first : ℕ) where
  -- what a call has to show that encodes a line by a lawful encoding
  pub encoded : Lawful e → sheet.fits t ≡ sheet.fits s → sheet.loan t ≡ sheet.loan s
      → r ≡ encode_answer e (sheet.fits s) (sheet.held s) w first
      → sheet.held t ≡ encode_held e (sheet.fits s) (sheet.held s) w first
      → Encoded sheet s t r e w first
  encoded law rule same answer after =
      let fits = sheet.fits s in
      let cs = sheet.held s in
      let ds = e.clauses w first in
      record {
        rule = rule;
        same = same;
        answer = answer;
        after = after;
        whole_list = λ n in_reach.
            let formed = law.formed n first w in_reach in
            let whole = all_whole fits cs ds (sheet.begins s) (sheet.sound s) formed in
            let held = all_whole_held fits cs ds (sheet.begins s) (sheet.sound s) formed in (
              answer
                  ∙ ap (λ b. cond b (or_sheet (all_answer fits cs ds)) (Err Reach)) in_reach.reached
                  ∙ ap or_sheet whole,
              after ∙ ap (λ b. cond b (all_held fits cs ds) cs) in_reach.reached ∙ held,
            );
      }

  -- and what it has to show that gives the list of a line in reach, all or nothing
  pub encoded_given : (q : Result ℕ SheetFault) (ds : List Clause) → Lawful e → e.reach w first ≡ true
      → ds ≡ e.clauses w first → GivenAll sheet s t q ds → r ≡ or_sheet q → Encoded sheet s t r e w first
  encoded_given q ds law reached listed given answers =
      let fits = sheet.fits s in
      let cs = sheet.held s in
      let all = e.clauses w first in
      encoded law given.rule given.same
      (answers
      ∙ ap or_sheet (given.answer ∙ ap (all_answer fits cs) listed)
      ∙ ap (λ b. cond b (or_sheet (all_answer fits cs all)) (Err Reach)) (sym reached))
      (given.after
      ∙ ap (all_held fits cs) listed
      ∙ ap (λ b. cond b (all_held fits cs all) cs) (sym reached))
