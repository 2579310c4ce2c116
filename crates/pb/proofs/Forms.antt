-- The form that a line is written in is in normal form, and met by just the assignments that meet the line: by the
-- laws of its two steps alone.
use Rattle.std.proofs.Common.{◌∙◌}
use Rattle.pb.specs.Laws.{FormsKeep}
use Rattle.pb.specs.Meaning.{Assignment}
use Rattle.pb.specs.Normal.{normal}
use Rattle.pb.proofs.NormalMeaning.{normal_keeps}
use Rattle.pb.proofs.Normalizing.{normal_is_normal}
use Rattle.pb.proofs.Tightening.{tighten_keeps, tighten_is_normal}

pub forms_keep : FormsKeep
forms_keep n l passes =
    let is_normal = (normal_is_normal n l passes).0 in
    let meaning = λ (a : Assignment). tighten_keeps n (normal n l) is_normal a ∙ normal_keeps n l passes a in
    ((tighten_is_normal n (normal n l) is_normal).0, meaning)
