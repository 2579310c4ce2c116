-- What the clauses of one line mean carries over to those of a whole file: the next line's auxiliaries are new, so
-- what extends to a model of the lines before extends further, and in one way.
use Rattle.std.proofs.Common.{◌≡◌, ℕ, suc, ◌+◌, ◌-◌, ◌<◌, ◌≤◌, Bool, true, ◌&&◌, cond, leb, ◌⊎◌, List, [], ◌∷◌, ◌++◌}
use Rattle.std.proofs.Common.{ℤ, nat_abs, Ok, Err, Result, sym, refl, ap, ◌∙◌, subst, inl, inr, append-nil}
use Rattle.std.proofs.Common.{append_assoc, arith}
use Rattle.std.proofs.lemmas.Bool.{leb-true, ltb-true, le-leb, lt-leb, lt-ltb, and_parts, and_from, or_cases}
use Rattle.std.proofs.lemmas.Bool.{cond-true, cond-false, cases_lt}
use Rattle.std.specs.List.{AllByRecursion}
use Rattle.std.specs.Result.{IfOk, MatchResult}
use Rattle.fault.specs.declared.refusal.Refusal.{Refusal}
use Rattle.cnf.specs.Calls.{Rule}
use Rattle.cnf.specs.Clauses.{Clause, satisfies_all, literals_within, names_within}
use Rattle.cnf.proofs.Satisfying.{satisfaction}
use Rattle.cnf.specs.declared.clause.TheConstants.{LAST_NUMBER}
use Rattle.encode.specs.Law.{Encoding, InReach, Lawful}
use Rattle.encode.specs.Extending.{Extending}
use Rattle.encode.proofs.Together.{lines_together}
use Rattle.pb.specs.Checks.{PassesChecks}
use Rattle.schedule.proofs.Steps.{bind_ok}
use Rattle.pb.specs.Lines.{Line, Working}
use Rattle.pb.specs.Meaning.{Assignment, meets, met, meets_each}
use Rattle.translate.specs.declared.header.Header.{Header}
use Rattle.pb.specs.Tightened.{working_form}
use Rattle.translate.specs.Translation.{Progress, write_by, lines_written, write_schedule, or_refusal}
use Rattle.translate.specs.Translation.{Done}
use Rattle.translate.specs.Solutions.{Meant}
use Rattle.pb.proofs.Forms.{forms_keep}
use Rattle.translate.proofs.Whole.{IsCount, written_ok, in_reach, or_refusal_ok, entered_within}

-- what was written from one place in a file to another, and what it means
record Written (n : ℕ) (p q : Progress) (wanted : Assignment → Bool) : Type 0 where
  clauses : List Clause
  after : q.held ≡ p.held ++ clauses
  extending : Extending n p.numbers q.numbers wanted clauses

none_written : (n : ℕ) (p : Progress) → n ≤ p.numbers → Written n p p (λ _. true)
none_written n p known = record {
  clauses = [];
  after = sym (append-nil p.held);
  extending = lines_together.nothing n p.numbers known;
}

both_written : (n : ℕ) (p m q : Progress) (first next : Assignment → Bool) → Written n p m first → Written n m q next
    → Written n p q (λ a. first a && next a)
both_written n p m q first next d e = record {
  clauses = d.clauses ++ e.clauses;
  after = e.after ∙ ap (λ cs. cs ++ e.clauses) d.after ∙ append_assoc p.held d.clauses e.clauses;
  extending =
      lines_together.further n p.numbers m.numbers q.numbers first next d.clauses e.clauses d.extending e.extending;
}

module _ (e : Encoding) (law : Lawful e) (fits : Rule) (n : ℕ) (count : IsCount n) where
  line_written : (number : ℕ) (p q : Progress) (l : Line) → PassesChecks n l → n ≤ p.numbers
      → write_by e fits number p (working_form n l) ≡ Ok q → Written n p q (λ a. meets a l)
  line_written number p q l sound known h =
      let w = working_form n l in
      let ds = e.clauses w (suc p.numbers) in
      let takes = e.takes w (suc p.numbers) in
      let is = written_ok (e.reach w (suc p.numbers)) (leb (p.numbers + takes) LAST_NUMBER) p q takes ds _ _ _ h in
      let reached = in_reach e n p.numbers l count sound known is.0 is.1 in
      let form = lines_together.line e law n p.numbers w reached in
      let keeps = (forms_keep n l sound).1 in
      let here = lines_together.alike n p.numbers (p.numbers + takes) (λ a. met a w) (λ a. meets a l) ds keeps form in
      subst (λ r. Written n p r (λ a. meets a l)) (sym is.3)
      (record { clauses = ds; after = refl; extending = here })

  all_written : (ls : List Line) (number : ℕ) (p q : Progress) → AllByRecursion (PassesChecks n) ls → n ≤ p.numbers
      → lines_written e fits n number p ls ≡ Ok q → Written n p q (λ a. meets_each a ls)
  all_written [] number p q checked known h =
      let same : p ≡ q = cc in subst (λ r. Written n p r (λ _. true)) same (none_written n p known)
  all_written (l ∷ ls) number p q checked known h =
      let next = bind_ok (write_by e fits number p (working_form n l)) _ q h in
      let first = line_written number p next.0 l checked.0 known next.1 in
      let grown = first.extending.grows in
      both_written n p next.0 q _ _ first (all_written ls (suc number) next.0 q checked.1 (omega arith) next.2)

-- a file that was translated means what its schedule does
file_meant : (e : Encoding) → Lawful e → (fits : Rule) (input : List ℕ) (cs held : List Clause) (h : Header)
    → Done e fits input cs held h → Meant input cs held h
file_meant e law fits input cs held h done =
    let read = bind_ok (or_refusal _) (write_schedule e fits cs) _ done.written in
    let s = read.0 in
    let reads = or_refusal_ok _ s read.1 in
    let within = entered_within input s reads in
    let all = all_written e law fits s.variables (within.some, within.few) s.lines 1 _ _ within.lines_pass
    (omega arith) read.2 in
    record {
      schedule = s;
      reads = reads;
      clauses = all.clauses;
      after = all.after;
      solutions =
          lines_together.solutions s.variables h.variables (λ a. meets_each a s.lines) all.clauses all.extending;
    }

pub if_meant : (e : Encoding) → Lawful e
    → (fits : Rule) (input : List ℕ) (cs held : List Clause) (r : Result Header Refusal) (Q : Refusal → Type 0)
    → MatchResult r (λ h. Done e fits input cs held h) Q → IfOk r (λ h. Meant input cs held h)
if_meant e law fits input cs held (Ok h) Q done = file_meant e law fits input cs held h done
if_meant e law fits input cs held (Err x) Q undone = tt
