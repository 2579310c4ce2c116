-- The text of a number is text, and parses back.
use Rattle.std.proofs.Common.{◌≡◌, ◌≤◌, ℤ, pos, negsuc, nat_abs, IsUtf8, ℕ, refl, Some, None, Ok, Err, Result, ap, ◌∙◌}
use Rattle.std.proofs.Common.{arith, w32, SFits}
use lib.Signed.{mag}
use Rattle.std.proofs.lemmas.Fmt.{parse-signed_decimal, IsAscii-signed}
use Rattle.std.proofs.lemmas.Str.{IsUtf8-from_ascii}
use Rattle.std.specs.Result.{result_ok}
use Rattle.std.specs.Fmt.{signed_decimal}
use Rattle.cnf.specs.declared.clause.TheConstants.{LAST_NUMBER}
use Rattle.sheets.proofs.reading.number_in.Goals as goal

small_size : (l : ℤ) → nat_abs l ≤ LAST_NUMBER → mag l ≤ LAST_NUMBER
small_size (pos n) h = h
small_size (negsuc n) h = omega arith

-- what `ok` keeps, and what it drops
kept : {A E : Type 0} (r : Result A E) (x : A) → Some x ≡ result_ok r → r ≡ Ok x
kept (Ok y) x e = cc
kept (Err y) x e = cc

dropped : {A E : Type 0} (r : Result A E) → None ≡ result_ok r → (y : E) × (r ≡ Err y)
dropped {A} (Ok x) e = absurd (let z : ◌≡◌ {A = ℕ} 0 1 = cc in omega arith)
dropped (Err y) e = (y, refl)

pub returns-in_err-ok : goal.returns-in_err-ok
returns-in_err-ok c l e small =
    let m = small_size l small in
    let text : IsUtf8 c.args.word.now = rw e (IsUtf8-from_ascii (signed_decimal l) (IsAscii-signed l (omega arith))) in
    let is = dropped c.from_utf8.result c.in_err-ok.ensures.value in
    absurd ((rw is.1 at c.from_utf8.ensures.cases).0 text)

pub returns : goal.returns
returns c l e small =
    let m = small_size l small in
    let f : SFits w32 l = record { sfits = omega arith } in
    let is = kept c.from_utf8.result c.in_ok-ok.field-0 c.in_ok-ok.ensures.value in
    let text : c.in_ok-ok.field-0.now ≡ signed_decimal l = (rw is at c.from_utf8.ensures.cases).0 ∙ e in
    c.ok-2.ensures.value
    ∙ ap result_ok
    (parse-signed_decimal w32 l c.in_ok-ok.field-0.now c.parse.result f (omega arith) text c.parse.ensures.value.0)
