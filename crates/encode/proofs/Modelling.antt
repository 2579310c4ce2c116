-- From an encoder's law alone: give every auxiliary its value, and the assignment satisfies the clauses; no other
-- does.
use Rattle.std.proofs.Common.{◌≡◌, ℕ, ◌+◌, ◌-◌, ◌<◌, cond, leb, sym, ap, ◌∙◌, arith}
use Rattle.std.proofs.lemmas.Bool.{le-leb, lt-leb, cond-true, cond-false}
use Rattle.encode.specs.Law.{Encoding, Lawful, AgreeUpTo}
use Rattle.encode.specs.Models.{ModelsExtend}
use Rattle.pb.specs.Meaning.{Assignment}

module _ (n first : ℕ) (above : n < first) (a value : Assignment) where
  -- a on the variables, and the values from `first` on
  extended : Assignment
  extended x = cond (leb x n) (a x) (value (x - first))

  extended_agrees : AgreeUpTo n extended a
  unfolding extended
  extended_agrees x h = cond-true (leb x n) (a x) (value (x - first)) (le-leb x n h)

  extended_value : (j : ℕ) → extended (first + j) ≡ value j
  unfolding extended
  extended_value j =
      cond-false (leb (first + j) n) (a (first + j)) (value (first + j - first)) (lt-leb (first + j) n (omega arith))
      ∙ ap value (let e : first + j - first ≡ j = omega arith in e)

pub models_extend : (e : Encoding) → Lawful e → ModelsExtend e
models_extend e law n first w r a =
    let values = e.value w first a in
    let v = extended n first r.above a values in
    let agrees = extended_agrees n first r.above a values in
    let has_values = λ (j : ℕ) (h : j < e.takes w first). extended_value n first r.above a values j in
    record {
      some = λ met.
          let satisfied = (law.means n first w r a v agrees).1 (met, has_values) in
          (v, record { agrees = agrees; satisfied = satisfied });
      only = λ u m. ((law.means n first w r a u m.agrees).0 m.satisfied).0;
      one = λ t u p q j h.
          ((law.means n first w r a t p.agrees).0 p.satisfied).1 j h
          ∙ sym (((law.means n first w r a u q.agrees).0 q.satisfied).1 j h);
    }
