-- Reading line by line: what the next line, its end or its fault makes of what is read from here on. There are always
-- bytes enough to go on.
use Rattle.std.proofs.Common.{◌≡◌, ℕ, zero, suc, ◌+◌, ◌≤◌, List, [], ◌∷◌, length, drop, Some, None, Ok, Err, Option}
use Rattle.std.proofs.Common.{Result, sym, refl, ap, ◌∙◌, arith, length-drop}
use Rattle.fault.specs.declared.file.FileFault.{FileFault}
use Rattle.fault.specs.declared.file.FileFault.TheVariants.{Short}
use Rattle.pb.specs.Lines.{Line}
use Rattle.schedule.specs.Records.{}
use Rattle.schedule.specs.Reading.{◌>>=◌, next_line, line_size, LinesRead, lines_after, with_line, read_lines}
use Rattle.schedule.specs.Reading.{lines_from}

-- two steps that did not fail are each a step that did not
pub bind_ok : {X Y E : Type 0} (r : Result X E) (f : X → Result Y E) (y : Y)
    → (r >>= f) ≡ Ok y → (x : X) × (r ≡ Ok x) × (f x ≡ Ok y)
bind_ok (Ok x) f y h = (x, refl, h)
bind_ok (Err e) f y h = cc

-- more bytes than there are make no difference
same_after : (at : ℕ) (f g : Line → LinesRead) (r : Result (Option Line) FileFault)
    → ((l : Line) → r ≡ Ok (Some l) → f l ≡ g l) → lines_after at f r ≡ lines_after at g r
same_after at f g (Err e) h = refl
same_after at f g (Ok None) h = refl
same_after at f g (Ok (Some l)) h = ap (with_line (record { offset = at; line = l })) (h l refl)

cut_there : (k n at : ℕ) → read_lines k n at [] ≡ record { lines = []; fault = Some (Short at) }
cut_there zero n at = refl
cut_there (suc k) n at = refl

both_enough : (j k n at : ℕ) (rest : List ℕ) → length rest ≤ j → length rest ≤ k
    → read_lines j n at rest ≡ read_lines k n at rest
both_enough j k n at [] p q = cut_there j n at ∙ sym (cut_there k n at)
both_enough zero k n at (x ∷ xs) p q = absurd (omega arith)
both_enough (suc j) zero n at (x ∷ xs) p q = absurd (omega arith)
both_enough (suc j) (suc k) n at (x ∷ xs) p q =
    same_after at _ _ (next_line n at (x ∷ xs)) (λ l is.
    let left = length-drop (line_size l) (x ∷ xs) in
    both_enough j k n (at + line_size l) (drop (line_size l) (x ∷ xs)) (omega arith) (omega arith))

pub lines_from-step : (n at : ℕ) (rest : List ℕ)
    → lines_from n at rest
    ≡ lines_after at (λ l. lines_from n (at + line_size l) (drop (line_size l) rest)) (next_line n at rest)
lines_from-step n at [] = refl
lines_from-step n at (x ∷ xs) =
    same_after at _ _ (next_line n at (x ∷ xs)) (λ l is.
    let left = length-drop (line_size l) (x ∷ xs) in
    both_enough (length xs) _ n (at + line_size l) (drop (line_size l) (x ∷ xs)) (omega arith) (omega arith))

-- the next line, the end, and a fault
pub line_read : (n at : ℕ) (rest : List ℕ) (l : Line) → next_line n at rest ≡ Ok (Some l)
    → lines_from n at rest
    ≡ with_line (record { offset = at; line = l }) (lines_from n (at + line_size l) (drop (line_size l) rest))
line_read n at rest l h = lines_from-step n at rest ∙ ap (lines_after at _) h

pub end_read : (n at : ℕ) (rest : List ℕ) → next_line n at rest ≡ Ok None
    → lines_from n at rest ≡ record { lines = []; fault = None }
end_read n at rest h = lines_from-step n at rest ∙ ap (lines_after at _) h

pub fault_read : (n at : ℕ) (rest : List ℕ) (e : FileFault) → next_line n at rest ≡ Err e
    → lines_from n at rest ≡ record { lines = []; fault = Some e }
fault_read n at rest e h = lines_from-step n at rest ∙ ap (lines_after at _) h
