-- A translation under a limit is the same translation by any rule, bytes and clauses that equal those that it had,
-- and means the same.
use Rattle.std.proofs.Common.{◌≡◌, ℕ, ◌-◌, List, take, length, min, Ok, Err, Result, IfOk, MatchResult, ap, ◌∙◌, arith}
use Rattle.std.proofs.lemmas.List.{take_min}
use Rattle.fault.specs.declared.refusal.Refusal.{Refusal}
use Rattle.cnf.specs.Calls.{Rule}
use Rattle.cnf.specs.Clauses.{Clause}
use Rattle.translate.specs.declared.header.Header.{Header}
use Rattle.translate.specs.Solutions.{Meant}
use Rattle.translate.specs.Translation.{Done, Undone, encoding, translation}

-- the first bytes, as they are taken
pub first_bytes : (n k : ℕ) (file : List ℕ) → k ≡ min n (length file) → take (k - 0) file ≡ take n file
first_bytes n k file e =
    let whole : k - 0 ≡ min n (length file) = omega (arith, e) in
    ap (λ m. take m file) whole ∙ take_min n file

pub same_outcome : {f k : Rule} {i j : List ℕ} {bs cs ds es : List Clause} (r : Result Header Refusal)
    → f ≡ k → i ≡ j → bs ≡ cs → ds ≡ es
    → MatchResult r (λ h. Done encoding f i bs ds h) (λ x. Undone encoding f i bs ds x)
    → MatchResult r (λ h. Done encoding k j cs es h) (λ x. translation encoding k cs j ≡ Err x)
same_outcome (Ok h) rule input before after done =
    record { written = rw (← rule, ← input, ← before, ← after) done.written; clauses = rw (← after) done.clauses }
same_outcome (Err x) rule input before after undone = rw (← rule, ← input, ← before) undone.refusal

pub same_meaning : {i j : List ℕ} {bs cs ds es : List Clause} (r : Result Header Refusal) → i ≡ j → bs ≡ cs → ds ≡ es
    → IfOk r (λ h. Meant i bs ds h) → IfOk r (λ h. Meant j cs es h)
same_meaning (Ok h) input before after m =
    record {
      schedule = m.schedule;
      reads = rw (← input) m.reads;
      clauses = m.clauses;
      after = rw (← before, ← after) m.after;
      solutions = m.solutions;
    }
same_meaning (Err x) input before after m = tt
