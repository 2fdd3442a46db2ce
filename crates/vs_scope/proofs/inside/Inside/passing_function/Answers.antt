use Rattle.std.proofs.Common.{sym, ◌∙◌}
use Rattle.vs_elaborated.specs.Environments.{named}
use Rattle.vs_scope.specs.Frames.{view_env}
use Rattle.vs_scope.specs.Locals.{input_of}
use Rattle.vs_scope.proofs.HandedOn.{function_barred, function_passing}
use Rattle.vs_scope.proofs.inside.Inside.passing_function.Goals as goal

pub returns-then-hands_on : goal.returns-then-hands_on
returns-then-hands_on c = λ h.
    let i = c.args.self.now in
    function_passing (input_of i.locals) c.args.f (named (view_env i.here) c.args.name.now) h (λ g k many. sym (c.hands_on.ensures g k many) ∙ c.if-hands_on.true)

pub returns-else-hands_on : goal.returns-else-hands_on
returns-else-hands_on c = λ h.
    let i = c.args.self.now in
    function_barred (input_of i.locals) c.args.f (named (view_env i.here) c.args.name.now) h (λ g k many. sym (c.hands_on.ensures g k many) ∙ c.if-hands_on.false)
