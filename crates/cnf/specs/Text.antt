-- Clauses as DIMACS text: a row for each clause, which ends in 0 and a line feed; before these its literals in decimal,
-- with a space after each. A clause without literals is 0 alone. And how a text is read: as numbers with spaces and
-- line feeds between them, of which each 0 ends a clause.
use Rattle.std.specs.Prelude.{◌≡◌, ℕ, ◌+◌, ◌-◌, ◌*◌, Bool, true, false, cond, ◌&&◌, ◌||◌, List, [], ◌∷◌, ◌++◌, ℤ, pos}
use Rattle.std.specs.Prelude.{neg_ℤ, Some, None, Option, ◌==◌, nat_le}
use Rattle.std.specs.Fmt.{signed_decimal}
use Rattle.cnf.specs.Clauses.{Clause, all_well_formed}
use Rattle.cnf.specs.Cells.{clauses_in}
use Rattle.cnf.specs.Layouts.{Layout, written}

abbrev pub row_of : List ℤ → List ℕ
row_of [] = 48 ∷ 10 ∷ []
row_of (l ∷ ls) = signed_decimal l ++ (32 ∷ row_of ls)

abbrev pub row : Clause → List ℕ
row c = row_of c.literals

abbrev pub is_feed : ℕ → Bool
is_feed b = b == 10

abbrev pub is_space : ℕ → Bool
is_space b = b == 32

-- a text is read byte by byte. Of the number that is being read there are: whether a minus came, and the value of the
-- digits that came, if any
abbrev pub with_digit : Option ℕ → ℕ → ℕ
with_digit None d = d
with_digit (Some n) d = 10 * n + d

abbrev pub signed_by : Bool → ℕ → ℤ
signed_by true n = neg_ℤ (pos n)
signed_by false n = pos n

abbrev pub with_number : ℤ → Option (List ℤ) → Option (List ℤ)
with_number z None = None
with_number z (Some zs) = Some (z ∷ zs)

-- the number stands before the others, if there is one; a minus alone is none, and the text is no list of numbers
abbrev pub with_read_number : Bool → Option ℕ → Option (List ℤ) → Option (List ℤ)
with_read_number minus (Some n) rest = with_number (signed_by minus n) rest
with_read_number true None rest = None
with_read_number false None rest = rest

-- a minus may come before the first digit, once
abbrev pub may_sign : Bool → Option ℕ → Bool
may_sign false None = true
may_sign false (Some n) = false
may_sign true digits = false

abbrev pub numbers_from : Bool → Option ℕ → List ℕ → Option (List ℤ)
numbers_from minus digits [] = with_read_number minus digits (Some [])
numbers_from minus digits (b ∷ bs) =
    cond (is_space b || is_feed b) (with_read_number minus digits (numbers_from false None bs))
    (cond (nat_le 48 b && nat_le b 57) (numbers_from minus (Some (with_digit digits (b - 48))) bs)
    (cond (b == 45 && may_sign minus digits) (numbers_from true None bs) None))

abbrev pub numbers : List ℕ → Option (List ℤ)
numbers text = numbers_from false None text

-- the clauses of a text, or nothing where it is no list of numbers
abbrev pub clauses_of : Option (List ℤ) → Option (List Clause)
clauses_of None = None
clauses_of (Some zs) = Some (clauses_in zs)

abbrev pub read_text : List ℕ → Option (List Clause)
read_text text = clauses_of (numbers text)

abbrev pub or_none : Option (List Clause) → List Clause
or_none None = []
or_none (Some cs) = cs

abbrev pub clauses_shown : List ℕ → List Clause
clauses_shown text = or_none (read_text text)

abbrev pub text_layout : Layout ℕ
text_layout = record { write = row; mark = is_feed; read = clauses_shown }

abbrev pub text_of : List Clause → List ℕ
text_of cs = written text_layout cs

-- the text of well-formed clauses reads back as exactly these, so that two lists have never one text
pub record TextReadsBack : Type 0 where
  pub back : (cs : List Clause) → all_well_formed cs ≡ true → read_text (text_of cs) ≡ Some cs
  pub apart : (cs ds : List Clause) → all_well_formed cs ≡ true → all_well_formed ds ≡ true → text_of cs ≡ text_of ds
      → cs ≡ ds
