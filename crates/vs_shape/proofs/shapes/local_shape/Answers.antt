use Rattle.std.proofs.Common.{false, sym, ap, ◌∙◌}
use Rattle.vs_design.specs.Expressions as E
use Rattle.vs_shape.specs.declared.shape.Shape.{Shape}
use Rattle.vs_shape.specs.Shapes.{shape_of}
use Rattle.vs_shape.proofs.shapes.local_shape.Goals as goal

pub returns : goal.returns
returns c =
    ap (λ w. let s : Shape = record { width = w; signed = c.local_of-s.result.now.signed; constant = false } in s) c.signal_width.ensures
    ∙ ap (λ (s : E.Signal). shape_of (E.Name s)) (sym c.local_of-s.ensures.is)
