use Rattle.std.proofs.Common.{Bool, sym, if◌then◌else◌, subst}
use Rattle.vs_const.specs.Meanings.{Means}
use Rattle.vs_elaborated.specs.Environments.{named}
use Rattle.vs_elaborated.specs.Functions.{passed_meaning}
use Rattle.vs_scope.specs.Frames.{view_env}
use Rattle.vs_scope.specs.Locals.{input_of}
use Rattle.vs_scope.proofs.inside.Inside.outer.Goals as goal

pub returns-then-self : goal.returns-then-self
returns-then-self c =
    let i = c.args.self.now in
    let m = named (view_env i.here) c.args.name.now in
    subst (λ (b : Bool). Means c.passing.result (if b then passed_meaning (input_of i.locals) m else m)) (sym c.if-self.true) (c.passing.ensures c.find-found.ensures)

pub returns-else-self : goal.returns-else-self
returns-else-self c =
    let i = c.args.self.now in
    let m = named (view_env i.here) c.args.name.now in
    subst (λ (b : Bool). Means c.find-found.result (if b then passed_meaning (input_of i.locals) m else m)) (sym c.if-self.false) c.find-found.ensures
