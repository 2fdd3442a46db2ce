use Rattle.std.proofs.Common.{ℕ, drop, sym, subst, add-one}
use Rattle.vs_scope.proofs.BlockNames.{AreRepeating, texts_of, repeating_start, repeating_more, repeating_end}
use Rattle.vs_scope.proofs.block_scopes.repeated_fault.Goals as goal

pub loop-b-init : goal.loop-b-init
loop-b-init c = repeating_start (texts_of c.args.locals.now) c.in_ok-known.known c.args.blocks.now c.in_ok-known.ensures

pub loop-b-preserved : goal.loop-b-preserved
loop-b-preserved c =
    let all = c.args.blocks.now in
    let before = texts_of c.args.locals.now in
    subst (λ (n : ℕ). AreRepeating before c.add_outside.new.known c.first_of-fault.result (drop n all) all) (sym (add-one c.loop-b.b-index))
    (repeating_more before c.loop-b.known c.add_outside.new.known c.loop-b.fault c.in_ok-again.again c.first_of-fault.result all c.loop-b.b-index c.b-item.result c.loop-b-test.true c.b-item.is
    (λ names h. c.in_ok-again.ensures.fault names h) (λ names h. c.in_ok-again.ensures.known names h) c.first_of-fault.ensures c.loop-b.invariant)

pub returns : goal.returns
returns c = repeating_end (texts_of c.args.locals.now) c.loop-b.known c.loop-b.fault c.args.blocks.now c.loop-b.b-index c.loop-b-test.false c.loop-b.invariant
