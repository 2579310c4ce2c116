-- A term that is read goes behind those before it.
use Rattle.std.proofs.Common.{length, take, sym, ◌∙◌, arith}
use Rattle.std.proofs.lemmas.List.{take_more_set, length-set}
use Rattle.schedule.specs.Place.{input_of, offset_of}
use Rattle.schedule.proofs.Terms.{term_more}
use Rattle.schedule.proofs.reader.Reader.take_terms.Goals as goal

pub loop-term-preserved : goal.loop-term-preserved
loop-term-preserved c =
    let l = c.loop-term in
    let met = c.in_ok-record.ensures.cases in
    let before = take l.term-index l.terms in
    let grown = take_more_set l.terms l.term-index c.term_in.result (omega arith) in
    let more = term_more (length l.terms) (offset_of l.self) l.term-index (input_of l.self) before
    (omega arith) _ met.0 in
    record {
      so_far = rw (grown, length-set, c.term_in.ensures, c.bytes.ensures, met.3.same_file, met.3.moved)
          (sym more ∙ l.invariant.so_far);
      on = record { same_file = met.3.same_file ∙ l.invariant.on.same_file; moved = omega arith };
    }
