use Rattle.std.proofs.Common.{ap}
use Rattle.vs_scope.specs.Counts.{counted}
use Rattle.vs_scope.specs.Frames.{around_env}
use Rattle.vs_scope.specs.Signalled.{start_of}
use Rattle.vs_scope.proofs.WholeSurveys.{scope_shaped, as_module, as_block}
use Rattle.vs_scope.proofs.whole.declare_contents.Goals as goal

pub declare_scope-requires-clause-shaped : goal.declare_scope-requires-clause-shaped
declare_scope-requires-clause-shaped c = scope_shaped c.args.contents c.requires.shaped

pub returns-in_ok-said-in-Module : goal.returns-in_ok-said-in-Module
returns-in_ok-said-in-Module c =
    let e = c.in_ok-said-in-Module.ensures in
    record {
      declared = as_module c.in_ok-said-in-Module.said (around_env c.args.around) (start_of c.args.start) (counted c.args.counts) c.args.around.frames.now c.args.overrides.now c.args.contents _ c.in-Module.is
          (e.complete, e.kept, e.plain, e.functions, e.counts, e.signals, e.fault, e.next, e.scope, ap counted e.before, e.entries);
    }

pub declare_scope-requires-in-Block-clause-shaped : goal.declare_scope-requires-in-Block-clause-shaped
declare_scope-requires-in-Block-clause-shaped c = scope_shaped c.args.contents c.requires.shaped

pub returns-in_ok-said-in-Block : goal.returns-in_ok-said-in-Block
returns-in_ok-said-in-Block c =
    let e = c.in_ok-said-in-Block.ensures in
    record {
      declared = as_block c.in_ok-said-in-Block.said (around_env c.args.around) (start_of c.args.start) (counted c.args.counts) c.args.around.frames.now c.args.overrides.now c.new-none.result c.args.contents _ c.in-Block.is c.new-none.ensures
          (e.complete, e.kept, e.plain, e.functions, e.counts, e.signals, e.fault, e.next, e.scope, ap counted e.before, e.entries);
    }
