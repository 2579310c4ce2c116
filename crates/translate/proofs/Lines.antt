-- One line more: reading it, entering it and writing it moves what comes of the lines still to be read.
use Rattle.std.proofs.Common.{◌≡◌, ℕ, suc, ◌+◌, ◌-◌, ◌<◌, ◌≤◌, ◌&&◌, false, leb, ltb, ◌⊎◌, List, []}
use Rattle.std.proofs.Common.{◌∷◌, length, drop, Some, None, Ok, Err, Option, Result, sym, refl, ap, ◌∙◌, inl, inr}
use Rattle.std.proofs.lemmas.Bool.{le-leb, lt-leb, lt-ltb, le-ltb, and_left, and_right}
use Rattle.fault.specs.declared.book.BookFault.TheVariants.{Full}
use Rattle.fault.specs.declared.file.FileFault.{FileFault}
use Rattle.fault.specs.declared.file.FileFault.TheVariants.{Book as BookAt}
use Rattle.fault.specs.declared.refusal.Refusal.{Refusal}
use Rattle.pb.specs.declared.line_fault.LineFault.{LineFault}
use Rattle.pb.specs.Lines.{Line}
use Rattle.pb.specs.Checks.{line_check}
use Rattle.schedule.specs.Reading.{◌>>=◌, read_line, next_line, judged, line_or_fault, line_fault}
use Rattle.schedule.specs.Reading.{lines_from, line_size}
use Rattle.schedule.proofs.LinesPass.{read_check}
use Rattle.schedule.proofs.Steps.{line_read, end_read, fault_read}
use Rattle.cnf.specs.Calls.{Rule}
use Rattle.encode.specs.Law.{Encoding}
use Rattle.translate.specs.Books.{enter_lines}
use Rattle.pb.specs.Tightened.{working_form}
use Rattle.translate.specs.Translation.{Progress, write_by}
use Rattle.translate.specs.Streaming.{outcome}

-- writing is as good as delayed until the rest is read
pub outcome_more : (e : Encoding) (fits : Rule) (n k : ℕ) (st : Result Progress Refusal) (l : Line)
    (r : Result (List Line) FileFault)
    → outcome e fits n k st (r >>= λ ls. Ok (l ∷ ls))
    ≡ outcome e fits n (suc k) (st >>= λ p. write_by e fits k p (working_form n l)) r
outcome_more e fits n k (Ok p) l (Ok ls) = refl
outcome_more e fits n k (Err x) l (Ok ls) = refl
outcome_more e fits n k (Ok p) l (Err x) = refl
outcome_more e fits n k (Err y) l (Err x) = refl

-- what comes of the next line once it is read
next_is : (n at : ℕ) (rest : List ℕ) (o : Option Line) → read_line at rest ≡ Ok o → next_line n at rest ≡ judged n at o
next_is n at rest o h = ap (λ r. r >>= judged n at) h

next_judged : (n at : ℕ) (rest : List ℕ) (l : Line) (o : Option LineFault) → read_line at rest ≡ Ok (Some l)
    → line_check n l ≡ o
    → next_line n at rest ≡ line_or_fault at l o
next_judged n at rest l o h k =
    next_is n at rest (Some l) h ∙ ap (line_or_fault at l) (sym (read_check n at rest l h) ∙ k)

module _ (most held free n at : ℕ) (rest : List ℕ) where
  -- the lines end, or stop at a fault of the file
  pub lines_end : read_line at rest ≡ Ok None → enter_lines most held free (lines_from n at rest) ≡ Ok []
  lines_end h = ap (enter_lines most held free) (end_read n at rest (next_is n at rest None h))

  lines_stop : (e : FileFault) → next_line n at rest ≡ Err e
      → enter_lines most held free (lines_from n at rest) ≡ Err e
  lines_stop e h = ap (enter_lines most held free) (fault_read n at rest e h)

  pub lines_fault : (e : FileFault) → read_line at rest ≡ Err e
      → enter_lines most held free (lines_from n at rest) ≡ Err e
  lines_fault e h = lines_stop e (ap (λ r. r >>= judged n at) h)

  module _ (l : Line) (read : read_line at rest ≡ Ok (Some l)) where
    -- a line whose terms are at fault
    pub terms_stop : (e : LineFault) → line_check n l ≡ Some e
        → enter_lines most held free (lines_from n at rest) ≡ line_fault at e
    terms_stop e wrong = lines_stop _ (next_judged n at rest l (Some e) read wrong)

    -- a line that the book takes, and one that it does not
    next : line_check n l ≡ None → lines_from n at rest ≡ record {
      lines = record { offset = at; line = l } ∷ (lines_from n (at + line_size l) (drop (line_size l) rest)).lines;
      fault = (lines_from n (at + line_size l) (drop (line_size l) rest)).fault;
    }
    next fine = line_read n at rest l (next_judged n at rest l None read fine)

    pub lines_taken : line_check n l ≡ None → held < most → length l.terms ≤ free
        → enter_lines most held free (lines_from n at rest)
        ≡ (enter_lines most (suc held) (free - length l.terms)
        (lines_from n (at + line_size l) (drop (line_size l) rest)) >>= λ ls. Ok (l ∷ ls))
    lines_taken fine line_free terms_free =
        ap (enter_lines most held free) (next fine)
        ∙ rw (lt-ltb held most line_free, le-leb (length l.terms) free terms_free) refl

    no_room : (most ≤ held) ⊎ (free < length l.terms) → (ltb held most && leb (length l.terms) free) ≡ false
    no_room (inl full) = and_left _ _ (le-ltb held most full)
    no_room (inr over) = and_right (ltb held most) _ (lt-leb (length l.terms) free over)

    pub lines_full : line_check n l ≡ None → (most ≤ held) ⊎ (free < length l.terms)
        → enter_lines most held free (lines_from n at rest) ≡ Err (BookAt at (Full held))
    lines_full fine full = ap (enter_lines most held free) (next fine) ∙ rw (no_room full) refl
