-- One encoder for the lines of few terms, and another for the rest: together an encoder.
use Rattle.std.specs.Prelude.{ℕ, cond, length, nat_le}
use Rattle.encode.specs.Law.{Encoding}
use Rattle.pb.specs.Lines.{Working}

abbrev pub chosen_for : ℕ → Encoding → Encoding → Working → Encoding
chosen_for most few many w = cond (nat_le (length w.terms) most) few many

abbrev pub up_to : ℕ → Encoding → Encoding → Encoding
up_to most few many =
    record {
      reach = λ w first. (chosen_for most few many w).reach w first;
      takes = λ w first. (chosen_for most few many w).takes w first;
      clauses = λ w first. (chosen_for most few many w).clauses w first;
      value = λ w first. (chosen_for most few many w).value w first;
    }
