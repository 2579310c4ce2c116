-- Which line was read.
use Rattle.std.specs.Prelude.{take}
use Rattle.pb.specs.Lines.{Line}
use Rattle.schedule.specs.declared.line.ReadLine.{ReadLine}

-- of the array, only the first terms are the line's
abbrev pub line_of : ReadLine → Line
line_of h = record { relation = h.relation; bound = h.bound; terms = take h.count h.terms }
