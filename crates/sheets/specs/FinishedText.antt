-- What a finished text has: its bytes, and those that lie past them in the memory lent.
use Rattle.std.specs.Prelude.{ℕ, List}
use Rattle.sheets.specs.declared.finished.FinishedText.{FinishedText}

abbrev pub text_in : FinishedText → List ℕ
text_in t = t.bytes.now

abbrev pub rest_in : FinishedText → List ℕ
rest_in t = t.rest.now
