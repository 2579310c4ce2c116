-- What is left to read, put behind the terms read so far, is what there was to read.
use Rattle.std.proofs.Common.{◌≡◌, ◌-◌, ◌*◌, length, take}
use Rattle.schedule.specs.declared.mark.Mark.TheVariants.{Term as TermMark}
use Rattle.schedule.specs.Place.{offset_of, rest_of, ReadOn}
use Rattle.schedule.specs.Records.{record_size}
use Rattle.schedule.specs.Reading.{read_terms}
use Rattle.schedule.proofs.Terms.{behind}
use Rattle.schedule.proofs.reader.Reader.take_terms.Given as goal

abbrev pub invariant-loop-term : goal.invariant-loop-term
invariant-loop-term l = record {
  so_far : behind
      (take l.term-index l.terms)
      (read_terms (length l.terms - l.term-index) (offset_of l.self) (rest_of l.self))
      ≡ read_terms (length l.terms) (offset_of l.initial.self) (rest_of l.initial.self);
  on : ReadOn l.initial.self l.self (record_size TermMark * l.term-index);
}
