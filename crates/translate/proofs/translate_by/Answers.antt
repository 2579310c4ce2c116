-- What the lines were written to is the answer, or is taken back to what the sheet held; and the laws are those of
-- every encoder, from which it follows what the clauses mean.
use Rattle.encode.proofs.Modelling.{models_extend}
use Rattle.translate.proofs.Books.{enters_what_fits}
use Rattle.pb.proofs.Forms.{forms_keep}
use Rattle.translate.proofs.Solutions.{if_meant}
use Rattle.translate.proofs.Whole.{whole_lists}
use Rattle.translate.proofs.translate_by.Goals as goal

pub returns-then-is_err-clause-enters : goal.returns-then-is_err-clause-enters
returns-then-is_err-clause-enters g c = enters_what_fits

pub returns-else-is_err-clause-enters : goal.returns-else-is_err-clause-enters
returns-else-is_err-clause-enters g c = enters_what_fits

pub returns-then-is_err-clause-forms : goal.returns-then-is_err-clause-forms
returns-then-is_err-clause-forms g c = forms_keep

pub returns-then-is_err-clause-models : goal.returns-then-is_err-clause-models
returns-then-is_err-clause-models g c =
    models_extend (g.E.Encoder.meaning c.args.encoder.now) (g.E.Encoder.lawful c.args.encoder.now)

pub returns-else-is_err-clause-forms : goal.returns-else-is_err-clause-forms
returns-else-is_err-clause-forms g c = forms_keep

pub returns-else-is_err-clause-models : goal.returns-else-is_err-clause-models
returns-else-is_err-clause-models g c =
    models_extend (g.E.Encoder.meaning c.args.encoder.now) (g.E.Encoder.lawful c.args.encoder.now)

pub returns-then-is_err-clause-whole : goal.returns-then-is_err-clause-whole
returns-then-is_err-clause-whole g c =
    let s = c.args.sheet.now in
    whole_lists (g.E.Encoder.meaning c.args.encoder.now) (g.S.Sheet.fits s) (g.S.Sheet.held s) c.args.input.now
    (g.E.Encoder.lawful c.args.encoder.now) (g.S.Sheet.begins s) (g.S.Sheet.sound s)

pub returns-else-is_err-clause-whole : goal.returns-else-is_err-clause-whole
returns-else-is_err-clause-whole g c =
    let s = c.args.sheet.now in
    whole_lists (g.E.Encoder.meaning c.args.encoder.now) (g.S.Sheet.fits s) (g.S.Sheet.held s) c.args.input.now
    (g.E.Encoder.lawful c.args.encoder.now) (g.S.Sheet.begins s) (g.S.Sheet.sound s)

pub returns-else-is_err-clause-means : goal.returns-else-is_err-clause-means
returns-else-is_err-clause-means g c =
    let s = c.args.sheet.now in
    let wrote = c.write_file-outcome in
    if_meant (g.E.Encoder.meaning c.args.encoder.now) (g.E.Encoder.lawful c.args.encoder.now) (g.S.Sheet.fits s)
    c.args.input.now (g.S.Sheet.held s) (g.S.Sheet.held wrote.new.sheet) wrote.result _ wrote.ensures.cases
