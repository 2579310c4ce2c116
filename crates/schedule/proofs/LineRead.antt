-- Once a line's first record is there and in order, the line is as its terms are: read, or refused.
use Rattle.std.proofs.Common.{◌≡◌, ℕ, ◌+◌, List, drop, Some, Ok}
use Rattle.std.proofs.lemmas.List.{drop-drop}
use Rattle.pb.specs.declared.relation.Relation.{Relation}
use Rattle.pb.specs.Checks.{checked_head}
use Rattle.schedule.specs.declared.mark.Mark.TheVariants.{Line as LineMark}
use Rattle.schedule.specs.Records.{line_body, record_size, relation_in, terms_in, bound_in}
use Rattle.schedule.specs.Reading.{◌>>=◌, read_line, read_terms}

pub line_as_terms : (at : ℕ) (input body : List ℕ) (r : Relation)
    → line_body at (drop at input) ≡ Ok (Some body)
    → checked_head (relation_in body) (bound_in body) (terms_in body) ≡ Ok r
    → read_line at (drop at input)
    ≡ read_terms (terms_in body) (at + record_size LineMark) (drop (at + record_size LineMark) input)
    >>= λ ts. Ok (Some (record { relation = r; bound = bound_in body; terms = ts }))
line_as_terms at input body r first head = rw (first, head, drop-drop)
