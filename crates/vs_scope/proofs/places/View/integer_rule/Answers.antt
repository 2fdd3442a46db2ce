use Rattle.std.proofs.Common.{Bool, Some, sym, ap, ◌∙◌}
use Rattle.vs_elaborated.specs.Environments.{integer_rule}
use Rattle.vs_scope.proofs.Viewing.{view_in}
use Rattle.vs_scope.proofs.places.View.integer_rule.Goals as goal

pub returns-then-self : goal.returns-then-self
returns-then-self c = λ scope. sym (ap (λ (b : Bool). integer_rule b (Some scope)) (view_in c.args.self.now ∙ c.if-self.true))

pub returns-else-self : goal.returns-else-self
returns-else-self c = λ scope. sym (ap (λ (b : Bool). integer_rule b (Some scope)) (view_in c.args.self.now ∙ c.if-self.false))
