-- What comes of the rest of the file, from where the run has come, is what came of all of it; the sheet only grows,
-- and no number is above the last.
use Rattle.std.proofs.Common.{◌≡◌, ◌-◌, ◌≤◌, length}
use Rattle.std.specs.Result.{IfOk}
use Rattle.cnf.specs.declared.clause.TheConstants.{LAST_NUMBER}
use Rattle.schedule.specs.Place.{input_of, offset_of, rest_of}
use Rattle.translate.specs.Streaming.{fresh, coming, OnlyAppends}
use Rattle.translate.proofs.write_lines.Given as goal

abbrev pub invariant-loop-line : goal.invariant-loop-line
invariant-loop-line g l =
    let e = g.E.Encoder.meaning l.encoder in
    let fits = g.S.Sheet.fits l.initial.sheet in
    let start = l.initial.reader in
    record {
      comes : coming e fits l.run (g.S.Sheet.held l.sheet) (offset_of l.reader) (rest_of l.reader)
          ≡ coming e fits (fresh l.fn.variables) (g.S.Sheet.held l.initial.sheet) (offset_of start) (rest_of start);
      appends : OnlyAppends g.S.Sheet l.initial.sheet l.sheet;
      input : input_of l.reader ≡ input_of start;
      low : IfOk l.run.written (λ last. last ≤ LAST_NUMBER);
    }

abbrev pub decreases-loop-line : goal.decreases-loop-line
decreases-loop-line g l = length (input_of l.reader) - offset_of l.reader
