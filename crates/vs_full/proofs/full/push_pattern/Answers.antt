use Rattle.std.proofs.Common.{◌++◌, List, sym, ap, ◌∙◌, append-nil}
use Rattle.vs_design.specs.Covers.{Pattern}
use Rattle.vs_full.proofs.full.push_pattern.Goals as goal

pub returns-in_ok-push-in-Some : goal.returns-in_ok-push-in-Some
returns-in_ok-push-in-Some c = c.in_ok-push-in-Some.ensures.items ∙ ap (λ (ps : List Pattern). c.args.patterns.now.items ++ ps) c.in-Some.ensures

pub returns-in-None : goal.returns-in-None
returns-in-None c = sym (append-nil c.args.patterns.now.items) ∙ ap (λ (ps : List Pattern). c.args.patterns.now.items ++ ps) c.in-None.ensures
