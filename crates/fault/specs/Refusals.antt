-- The table of refusals: for each cause its number, the layer that refuses and the place, and the line that is printed.
use Rattle.std.specs.Prelude.{ℕ, List, ◌++◌, codes, decimal}
use Rattle.pb.specs.declared.line_fault.LineFault.{LineFault}
use Rattle.pb.specs.declared.line_fault.LineFault.TheVariants.{Relation, Bound, Terms, Literal, Weight}
use Rattle.cnf.specs.declared.sheet_fault.SheetCause.{SheetCause}
use Rattle.cnf.specs.declared.sheet_fault.SheetCause.TheVariants.{Malformed, Full as SheetFull, Cut}
use Rattle.cnf.specs.declared.sheet_fault.SheetFault.{SheetFault}
use Rattle.encode.specs.declared.encode_fault.EncodeFault.{EncodeFault}
use Rattle.encode.specs.declared.encode_fault.EncodeFault.TheVariants.{Reach as OutOfReach, Sheet as OfSheet}
use Rattle.fault.specs.declared.book.BookFault.{BookFault}
use Rattle.fault.specs.declared.book.BookFault.TheVariants.{
  Variables,
  Full,
  NoLine,
  Written,
  Reach,
  Auxiliary,
  Withdraw,
  Open,
}
use Rattle.fault.specs.declared.file.FileFault.{FileFault}
use Rattle.fault.specs.declared.file.FileFault.TheVariants.{Short, Mark, Trailing, Line, Book}
use Rattle.fault.specs.declared.job.JobFault.{JobFault}
use Rattle.fault.specs.declared.job.JobFault.TheVariants.{Line as JobLine, Book as JobBook, Sheet as JobSheet}
use Rattle.fault.specs.declared.layer.Layer.{Layer}
use Rattle.fault.specs.declared.layer.Layer.TheVariants.{
  Book as InBook,
  Lines as InLines,
  Sheet as InSheet,
  File as InFile,
}
use Rattle.fault.specs.declared.refusal.Refusal.{Refusal}

abbrev pub line_refusal : LineFault → ℕ → Refusal
line_refusal Relation at = record { number = 2; layer = InLines; place = 0; offset = at }
line_refusal Bound at = record { number = 3; layer = InLines; place = 0; offset = at }
line_refusal Terms at = record { number = 4; layer = InLines; place = 0; offset = at }
line_refusal (Literal term) at = record { number = 5; layer = InLines; place = term; offset = at }
line_refusal (Weight term) at = record { number = 6; layer = InLines; place = term; offset = at }

abbrev pub book_refusal : BookFault → ℕ → Refusal
book_refusal Variables at = record { number = 1; layer = InBook; place = 0; offset = at }
book_refusal (Full held) at = record { number = 7; layer = InBook; place = held; offset = at }
book_refusal (NoLine line) at = record { number = 8; layer = InBook; place = line; offset = at }
book_refusal (Written line) at = record { number = 9; layer = InBook; place = line; offset = at }
book_refusal (Reach line) at = record { number = 10; layer = InBook; place = line; offset = at }
book_refusal (Auxiliary line) at = record { number = 11; layer = InBook; place = line; offset = at }
book_refusal Withdraw at = record { number = 12; layer = InBook; place = 0; offset = at }
book_refusal (Open place) at = record { number = 13; layer = InBook; place = place; offset = at }

abbrev pub sheet_number : SheetCause → ℕ
sheet_number Malformed = 14
sheet_number SheetFull = 15
sheet_number Cut = 16

-- outside any file
abbrev pub sheet_refusal : SheetFault → Refusal
sheet_refusal f = record { number = sheet_number f.cause; layer = InSheet; place = f.count; offset = 0 }

abbrev pub job_refusal : JobFault → Refusal
job_refusal (JobLine e) = line_refusal e 0
job_refusal (JobBook e) = book_refusal e 0
job_refusal (JobSheet f) = sheet_refusal f

-- a fault of the file's form has its place for an offset
abbrev pub file_refusal : FileFault → Refusal
file_refusal (Short at) = record { number = 17; layer = InFile; place = at; offset = at }
file_refusal (Mark at) = record { number = 18; layer = InFile; place = at; offset = at }
file_refusal (Trailing at) = record { number = 19; layer = InFile; place = at; offset = at }
file_refusal (Line at e) = line_refusal e at
file_refusal (Book at e) = book_refusal e at

-- an encoder's refusal, once the number of the line is known that was to be written
abbrev pub write_fault : ℕ → EncodeFault → JobFault
write_fault line OutOfReach = JobBook (Reach line)
write_fault line (OfSheet f) = JobSheet f

abbrev pub layer_name : Layer → List ℕ
layer_name InBook = codes "book"
layer_name InLines = codes "lines"
layer_name InSheet = codes "sheet"
layer_name InFile = codes "file"

-- "refused", number, layer, place and offset, with single spaces between
abbrev pub refusal_text : Refusal → List ℕ
refusal_text r =
    codes "refused " ++ (decimal r.number ++ (codes " " ++ (layer_name r.layer
    ++ (codes " " ++ (decimal r.place ++ (codes " " ++ decimal r.offset))))))
