-- The form that a line is written in: where it stands.
use Rattle.std.proofs.Common.{◌≡◌, ℕ, ◌-◌, List, take, ap, ◌∙◌, arith}
use Rattle.pb.specs.declared.working.WorkingHead.{WorkingHead}
use Rattle.pb.specs.declared.working.WorkingTerm.{WorkingTerm}
use Rattle.pb.specs.Lines.{Line, line_in}
use Rattle.pb.specs.Normal.{normal}
use Rattle.pb.specs.Tightened.{tightened, working_form}

-- what is written is the tightened normal form, and stands in the front of the table
pub front : (n : ℕ) (l : Line) (f g : WorkingHead) (form tight : List WorkingTerm)
    → normal n l ≡ line_in f form → tightened (line_in f form) ≡ line_in g tight
    → working_form n l ≡ record { sense = g.sense; bound = g.bound; terms = take (g.count - 0) tight }
front n l f g form tight e t =
    let whole : g.count ≡ g.count - 0 = omega arith in
    ap tightened e ∙ t ∙ ap (λ k. record { sense = g.sense; bound = g.bound; terms = take k tight }) whole
