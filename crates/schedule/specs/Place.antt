-- Where a reader stands in its file.
use Rattle.std.specs.Prelude.{◌≡◌, ℕ, ◌+◌, List, drop}
use Rattle.schedule.specs.declared.reader.Reader.{Reader}

-- the whole file
abbrev pub input_of : Reader → List ℕ
input_of r = r.input.now

-- where the next record begins, in bytes from the file's first
abbrev pub offset_of : Reader → ℕ
offset_of r = r.offset

-- what is still to be read
abbrev pub rest_of : Reader → List ℕ
rest_of r = drop r.offset r.input.now

-- the same file, read so many bytes further
pub record ReadOn (before after : Reader) (size : ℕ) : Type 0 where
  pub same_file : input_of after ≡ input_of before
  pub moved : offset_of after ≡ offset_of before + size
