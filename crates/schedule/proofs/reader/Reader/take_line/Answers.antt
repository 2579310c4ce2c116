-- A line's terms are read after its first record, which was in order.
use Rattle.std.proofs.Common.{◌≡◌, length, Some, Ok, sym, ◌∙◌, arith, w32, SFits, to_z, of_z, rules}
use Rattle.std.proofs.lemmas.Grind.{common_steps}
use Rattle.std.proofs.lemmas.List.{take_at}
use Rattle.std.proofs.lemmas.Result.{err_from_is_err_and}
use Rattle.std.proofs.lemmas.Option.{MatchOption-at_some}
use Rattle.std.proofs.lemmas.Int.{to_z-of_z}
use Rattle.pb.specs.Checks.{checked_head}
use Rattle.schedule.specs.Place.{offset_of, rest_of}
use Rattle.schedule.specs.Records.{relation_in, bound_in, terms_in}
use Rattle.schedule.specs.Reading.{◌>>=◌, read_line, read_terms}
use Rattle.schedule.proofs.LineRead.{line_as_terms}
use Rattle.schedule.proofs.reader.Reader.take_line.Goals as goal
use Rattle.schedule.proofs.reader.Reader.take_line.Goals.{In_ok-relation}

as_terms : (c : In_ok-relation) → read_line (offset_of c.args.self.now) (rest_of c.args.self.now)
    ≡ read_terms c.from-header.result.terms (offset_of c.line_or_end.new.self) (rest_of c.line_or_end.new.self)
    >>= λ ts. Ok (Some (record {
      relation = c.in_ok-relation.relation;
      bound = to_z w32 (of_z w32 c.from-header.result.bound);
      terms = ts;
    }))
as_terms c =
    let fits : SFits w32 c.from-header.result.bound = search rules in
    let same = to_z-of_z w32 _ fits in
    let first = MatchOption-at_some _ _ c.in-Some.record c.in-Some.is c.in_ok-record.ensures.cases in
    let body = c.in-Some.record.body.now in
    let head : checked_head (relation_in body) (bound_in body) (terms_in body)
    ≡ Ok c.in_ok-relation.relation = grind (arith, common_steps) in
    let held = rw c.bytes.ensures at c.from-header.ensures in
    rw (first.3.moved, first.3.same_file, same, held.1, held.2) (line_as_terms _ _ body _ first.0 head)

pub returns-in_err-take_terms : goal.returns-in_err-take_terms
returns-in_err-take_terms c =
    let p = err_from_is_err_and c.from_residual-in_err-take_terms.result c.from_residual-in_err-take_terms.ensures.1 in
    let met = c.in_err-take_terms.ensures.cases in
    let few : length c.take_terms.new.terms ≡ c.from-header.result.terms = search rules in
    let first = MatchOption-at_some _ _ c.in-Some.record c.in-Some.is c.in_ok-record.ensures.cases in
    let read = as_terms (goal.at.returns-in_err-take_terms c).In_ok-relation in
    record { cases = rw (p.1, p.2) (read ∙ rw (sym few, met.0), met.1 ∙ first.3.same_file) }

pub returns : goal.returns
returns c =
    let first = MatchOption-at_some _ _ c.in-Some.record c.in-Some.is c.in_ok-record.ensures.cases in
    let met = c.in_ok-take_terms.ensures.cases in
    let few : length c.take_terms.new.terms ≡ c.from-header.result.terms = search rules in
    let read = as_terms (goal.at.returns c).In_ok-relation in
    record {
      cases = (
        read ∙ rw (take_at, sym few, met.0),
        first.2,
        record { same_file = met.1.same_file ∙ first.3.same_file; moved = rw take_at (omega arith) },
      );
    }
