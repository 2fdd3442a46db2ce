use Rattle.vs_build.specs.Growth.{draft}
use Rattle.vs_elab.proofs.ScopedParts.{scopes_nothing, scopes_more, scopes_end, next_within}
use Rattle.vs_elab.proofs.scoped.add_blocks.Goals as goal

pub loop-b-init : goal.loop-b-init
loop-b-init c = scopes_nothing (draft c.args.builder.now)

pub add_scope-requires : goal.add_scope-requires
add_scope-requires c =
    next_within c.args.around c.args.first (draft c.args.builder.now) (draft c.loop-b.builder) c.args.blocks.now c.loop-b.b-index c.b-item.result c.in_ok-parent.parent c.loop-b-test.true c.b-item.is c.requires.first c.requires.around c.requires.before c.loop-b.invariant c.in_ok-parent.ensures

pub loop-b-preserved : goal.loop-b-preserved
loop-b-preserved c =
    scopes_more c.args.around c.args.first (draft c.args.builder.now) (draft c.loop-b.builder) (draft c.add_scope.new.builder) c.args.blocks.now c.loop-b.b-index c.b-item.result c.as_slice.result.now c.in_ok-parent.parent c.loop-b-test.true c.b-item.is c.as_slice.ensures c.in_ok-parent.ensures
    c.loop-b.invariant c.in_ok-add_scope.ensures

pub returns : goal.returns
returns c = scopes_end c.args.around c.args.first (draft c.args.builder.now) (draft c.loop-b.builder) c.args.blocks.now c.loop-b.b-index c.loop-b-test.false c.loop-b.invariant
