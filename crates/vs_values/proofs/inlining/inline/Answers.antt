use Rattle.std.proofs.Common.{◌≡◌, ◌∙◌, ℕ, Vec, Global, length, map, ap, arith}
use Rattle.std.proofs.lemmas.Result.{IfOk-weaker}
use Rattle.vs_values.specs.Calling.{IsInlinedTo}
use Rattle.vs_values.specs.Templates.{names_at_call, renamed}
use Rattle.vs_values.proofs.Inlined.{first_none, first_more, next_is, next_named, next_few, all_inlined}
use Rattle.vs_values.proofs.inlining.inline.Goals as goal

pub loop-n-init : goal.loop-n-init
loop-n-init c = first_none c.args.template.now c.in_ok-renaming.renaming.names.items c.in_ok-renaming.renaming.first c.args.code.now

pub op-requires-in-loop-n : goal.op-requires-in-loop-n
op-requires-in-loop-n c =
    next_named c.args.template.now c.args.code.now c.args.slots.now c.in_ok-renaming.renaming.names.items c.in_ok-renaming.renaming.first c.loop-n.n c.in_ok-op.op
    c.in_ok-renaming.ensures.names (c.in_ok-renaming.ensures.first ∙ c.next.ensures) c.requires c.in_ok-op.ensures

pub add-requires-clause-is : goal.add-requires-clause-is
add-requires-clause-is c =
    next_is c.args.template.now c.args.code.now c.args.slots.now c.in_ok-renaming.renaming.names.items c.in_ok-renaming.renaming.first c.loop-n.n c.in_ok-op.op c.in_ok-op-2.field-0
    c.in_ok-renaming.ensures.names (c.in_ok-renaming.ensures.first ∙ c.next.ensures) c.requires c.in_ok-op.ensures c.in_ok-op-2.ensures

pub add-requires-clause-few : goal.add-requires-clause-few
add-requires-clause-few c =
    next_few c.args.template.now c.args.code.now c.loop-n.code c.args.slots.now c.in_ok-renaming.renaming.names.items c.in_ok-renaming.renaming.first c.loop-n.n c.in_ok-op.op c.in_ok-op-2.field-0
    c.requires c.loop-n.invariant c.in_ok-op.ensures c.in_ok-op-2.ensures

pub loop-n-preserved : goal.loop-n-preserved
loop-n-preserved c =
    first_more c.args.template.now c.in_ok-renaming.renaming.names.items c.in_ok-renaming.renaming.first c.loop-n.n c.args.code.now c.loop-n.code c.add.new.self c.in_ok-op.op c.in_ok-op-2.field-0
    c.in_ok-op.ensures c.in_ok-op-2.ensures c.in_ok-add.ensures.ok c.loop-n.invariant

pub take-requires : goal.take-requires
take-requires c =
    let long : length c.in_ok-renaming.renaming.names.items ≡ length (names_at_call c.args.slots.now) = ap length c.in_ok-renaming.ensures.names in
    omega (arith, c.loop-n.invariant.next, c.len.ensures, long, c.requires.room)

pub returns : goal.returns
returns c =
    let t = c.args.template.now in
    let names = c.in_ok-renaming.renaming.names.items in
    let first = c.in_ok-renaming.renaming.first in
    IfOk-weaker c.slots.result
    (λ (to : Vec ℕ Global). to.items ≡ map (renamed names first) c.as_slice.result.now)
    (λ (to : Vec ℕ Global). IsInlinedTo t c.args.slots.now c.args.code.now c.take.new.self to.items)
    (λ to h. all_inlined t c.args.code.now c.loop-n.code c.take.new.self c.args.slots.now names first c.loop-n.n c.len.result c.as_slice.result.now to.items c.in_ok-renaming.ensures.names (c.in_ok-renaming.ensures.first ∙ c.next.ensures) c.requires
    c.loop-n.invariant (omega (arith, c.loop-n-test.false, c.len-n-end.ensures)) (omega (arith, c.len.ensures)) c.take.ensures c.as_slice.ensures h)
    c.slots.ensures
