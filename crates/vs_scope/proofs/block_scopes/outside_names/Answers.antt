use Rattle.std.proofs.Common.{map}
use Rattle.vs_elaborated.specs.NamedBlocks as spec
use Rattle.vs_scope.specs.Made.{block_name}
use Rattle.vs_scope.specs.NamedBlocks.{named}
use Rattle.vs_scope.proofs.Steps.{flat_more, flat_end}
use Rattle.vs_scope.proofs.block_scopes.outside_names.Goals as goal

pub loop-b-preserved : goal.loop-b-preserved
loop-b-preserved c =
    flat_more spec.name_outside named c.args.blocks.now c.loop-b.b-index c.b-item.result (map block_name c.loop-b.names.items) (map block_name c.push_outside.new.names.items) (spec.names_outside (map named c.args.blocks.now))
    c.loop-b-test.true c.b-item.is c.in_ok-push_outside.ensures c.loop-b.invariant

pub returns : goal.returns
returns c = flat_end spec.name_outside named c.args.blocks.now c.loop-b.b-index (map block_name c.loop-b.names.items) (spec.names_outside (map named c.args.blocks.now)) c.loop-b-test.false c.loop-b.invariant
