-- How many bytes records take, and where they end.
use Rattle.std.proofs.Common.{◌≡◌, ℕ, ◌*◌, List, [], ◌∷◌, ◌++◌, length, drop, refl, arith}
use Rattle.std.specs.List.{flat_map}
use Rattle.std.proofs.lemmas.List.{drop_at}
use Rattle.pb.specs.declared.term.Term.{Term}
use Rattle.pb.specs.Lines.{Line}
use Rattle.schedule.specs.declared.mark.Mark.TheVariants.{Term as TermMark}
use Rattle.schedule.specs.Records.{record_size}
use Rattle.schedule.specs.Reading.{line_size}
use Rattle.schedule.specs.Writing.{term_record, line_records}

pub length-terms : (ts : List Term) → length (flat_map term_record ts) ≡ record_size TermMark * length ts
length-terms [] = refl
length-terms (t ∷ ts) = omega (arith, length-terms ts)

pub length-line : (l : Line) → length (line_records l) ≡ line_size l
length-line l = omega (arith, length-terms l.terms)

pub past_line : (l : Line) (rest : List ℕ) → drop (line_size l) (line_records l ++ rest) ≡ rest
past_line l rest = drop_at (line_records l) rest (line_size l) (length-line l)
