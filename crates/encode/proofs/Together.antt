-- What clauses come to that extend what was taken before, where that is the variables alone: their solutions, said of
-- assignments and of settings.
use Rattle.std.proofs.Common.{◌≡◌, ℕ, suc, ◌+◌, ◌-◌, ◌<◌, Bool, true, false, leb, List, map}
use Rattle.std.proofs.Common.{get_or, sym, refl, ap, ◌∙◌, inl, inr, arith}
use Rattle.std.specs.List.{range_with_len}
use Rattle.std.proofs.lemmas.Bool.{le-leb, lt-leb, cond-true, cond-false, cases_lt}
use Rattle.std.proofs.lemmas.List.{ext_get_or}
use Rattle.std.proofs.lemmas.List.FromFn.{length-map-range_with_len, get_or-map-range_with_len}
use Rattle.cnf.specs.Clauses.{Clause}
use Rattle.encode.specs.Law.{AgreeUpTo}
use Rattle.encode.specs.Extending.{Extending, LinesTogether}
use Rattle.encode.specs.Solutions.{Solutions, Setting, with_setting, Satisfies, SettingSolutions}
use Rattle.encode.proofs.Extending.{satisfied_alike, nothing_extending, variables_extending, line_extending}
use Rattle.encode.proofs.Extending.{further_extending, alike_extending}
use Rattle.pb.specs.Meaning.{Assignment}

extending_solutions : (n last : ℕ) (wanted : Assignment → Bool) (ds : List Clause)
    → Extending n n last wanted ds → Solutions n last wanted ds
extending_solutions n last wanted ds d =
    record {
      variables = d.grows;
      names = d.names;
      some = λ a h. let v = d.some a a (λ x k. refl) h in (v.0, record { agrees = v.1; satisfied = v.2 });
      only = λ a v m. d.only a v m.agrees m.satisfied;
      one = λ a u v p q. d.one u v (λ x k. p.agrees x k ∙ sym (q.agrees x k)) p.satisfied q.satisfied;
    }

-- what an assignment with a setting has on the variables, and after them
with_setting_low : (n : ℕ) (a : Assignment) (s : Setting) → AgreeUpTo n (with_setting n a s) a
with_setting_low n a s x h = cond-true (leb x n) (a x) _ (le-leb x n h)

with_setting_high : (n : ℕ) (a : Assignment) (s : Setting) (x : ℕ)
    → n < x → with_setting n a s x ≡ get_or s (x - suc n) false
with_setting_high n a s x h = cond-false (leb x n) (a x) _ (lt-leb x n h)

-- the setting that an assignment of all numbers has
abbrev setting_of : ℕ → ℕ → Assignment → Setting
setting_of n takes u = map (λ j. u (suc n + j)) (range_with_len 0 takes)

setting_agrees : (n takes : ℕ) (a u : Assignment) → AgreeUpTo n u a
    → AgreeUpTo (n + takes) (with_setting n a (setting_of n takes u)) u
setting_agrees n takes a u agrees x h = elim (cases_lt n x) [
  | inl far ↦
      let j = x - suc n in
      let here : suc n + j ≡ x = omega arith in
      with_setting_high n a (setting_of n takes u) x far
      ∙ get_or-map-range_with_len (λ (i : ℕ). u (suc n + i)) 0 takes j j false (omega arith) (omega arith)
      ∙ ap u here
  | inr near ↦ with_setting_low n a (setting_of n takes u) x near ∙ sym (agrees x near)
]

module _ (n takes : ℕ) (wanted : Assignment → Bool) (ds : List Clause) (d : Extending n n (n + takes) wanted ds) where
  setting_some : (a : Assignment) → wanted a ≡ true → (s : Setting) × Satisfies n takes ds a s
  setting_some a h =
      let u = d.some a a (λ x k. refl) h in
      let s = setting_of n takes u.0 in
      let same = setting_agrees n takes a u.0 u.1 in (
        s,
        record {
          size = length-map-range_with_len (λ (j : ℕ). u.0 (suc n + j)) 0 takes;
          satisfied = satisfied_alike (n + takes) ds d.names (with_setting n a s) u.0 same ∙ u.2;
        },
      )

  setting_one : (a : Assignment) (s r : Setting) → Satisfies n takes ds a s → Satisfies n takes ds a r → s ≡ r
  setting_one a s r p q =
      let u = with_setting n a s in
      let v = with_setting n a r in
      let low : AgreeUpTo n u v = λ x k. with_setting_low n a s x k ∙ sym (with_setting_low n a r x k) in
      let same = d.one u v low p.satisfied q.satisfied in
      ext_get_or false s r (p.size ∙ sym q.size) (λ i h.
      let x = suc n + i in
      let here : x - suc n ≡ i = omega arith in
      let of_s = with_setting_high n a s x (omega arith) ∙ ap (λ j. get_or s j false) here in
      let of_r = with_setting_high n a r x (omega arith) ∙ ap (λ j. get_or r j false) here in
      sym of_s ∙ same x (omega (arith, p.size)) ∙ of_r)

  extending_settings : SettingSolutions n takes wanted ds
  extending_settings =
      record {
        exactly = λ a. (setting_some a, λ q. d.only a (with_setting n a q.0) (with_setting_low n a q.0) q.1.satisfied);
        one = setting_one;
      }

pub lines_together : LinesTogether
lines_together =
    record {
      nothing = nothing_extending;
      variables = variables_extending;
      line = line_extending;
      further = further_extending;
      alike = alike_extending;
      solutions = extending_solutions;
      settings = extending_settings;
    }
