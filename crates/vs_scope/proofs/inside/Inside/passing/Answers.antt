use Rattle.std.proofs.Common.{subst}
use Rattle.vs_const.specs.Meanings.{Means}
use Rattle.vs_const.specs.declared.names.Named.{Named}
use Rattle.vs_elaborated.specs.Environments.{named}
use Rattle.vs_scope.specs.Frames.{view_env}
use Rattle.vs_scope.specs.Locals.{input_of}
use Rattle.vs_scope.proofs.HandedOn.{memory_barred, other_passing}
use Rattle.vs_scope.proofs.inside.Inside.passing.Goals as goal

pub returns-in-Signal : goal.returns-in-Signal
returns-in-Signal c = λ h.
    let m = named (view_env c.args.self.now.here) c.args.name.now in
    c.passing_signal.ensures m (subst (λ (x : Named). Means x m) c.in-Signal.is h)

pub returns-in-Memory : goal.returns-in-Memory
returns-in-Memory c = λ h.
    let i = c.args.self.now in
    let m = named (view_env i.here) c.args.name.now in
    memory_barred (input_of i.locals) c.in-Memory.field-0 m (subst (λ (x : Named). Means x m) c.in-Memory.is h)

pub returns-in-Function : goal.returns-in-Function
returns-in-Function c = λ h.
    let m = named (view_env c.args.self.now.here) c.args.name.now in
    c.passing_function.ensures (subst (λ (x : Named). Means x m) c.in-Function.is h)

pub returns-in_default : goal.returns-in_default
returns-in_default c = λ h.
    let i = c.args.self.now in
    other_passing (input_of i.locals) c.args.found (named (view_env i.here) c.args.name.now) h c.in_default.not-Signal c.in_default.not-Memory c.in_default.not-Function
