use Rattle.std.proofs.Common.{Some, None, sym, ap, ◌∙◌}
use Rattle.vs_scope.specs.Frames.{view_env}
use Rattle.vs_scope.specs.Views.{evaluated}
use Rattle.vs_scope.proofs.Meant.{late_means, value_means}
use Rattle.vs_scope.proofs.places.View.parameter.Goals as goal

pub returns-then-is_late : goal.returns-then-is_late
returns-then-is_late c = late_means (view_env c.args.self.now) c.args.place c.args.value (sym c.is_late.ensures ∙ c.if-is_late.true)

pub returns-in-Value : goal.returns-in-Value
returns-in-Value c =
    let p = c.in-Value.p in
    value_means (view_env c.args.self.now) c.args.place (Some (record { bits = p.value.bits; signed = p.value.signed })) (Some p.range) c.args.value (ap evaluated c.in-Value.is) (sym c.is_late.ensures ∙ c.if-is_late.false)

pub returns-in-Undefined : goal.returns-in-Undefined
returns-in-Undefined c = value_means (view_env c.args.self.now) c.args.place None c.in-Undefined.range c.args.value (ap evaluated c.in-Undefined.is) (sym c.is_late.ensures ∙ c.if-is_late.false)
