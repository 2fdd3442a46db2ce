use Rattle.std.proofs.Common.{sym, ap, ◌∙◌}
use Rattle.vs_scope.specs.Frames.{value_or}
use Rattle.vs_scope.proofs.Viewing.{view_turns}
use Rattle.vs_scope.proofs.places.View.turn.Goals as goal

pub returns : goal.returns
returns c =
    let v = c.args.self.now in
    c.value_or.ensures ∙ ap (value_or v.inside c.args.genvar) c.turn.ensures ∙ sym (view_turns v c.args.genvar)
