use Rattle.std.proofs.Common.{◌+◌, length, if◌then◌else◌, refl, sym, ap, ◌∙◌, arith}
use Rattle.vs_design.specs.Expressions as E
use Rattle.vs_flat.specs.Arena.{Arena}
use Rattle.vs_flat.specs.Trees.{signal_at}
use Rattle.vs_flat.specs.DesignOf.{arena_signals}
use Rattle.vs_typed.specs.Weights.{capped}
use Rattle.vs_typed.proofs.SizeSteps.{input_step}
use Rattle.vs_typed.proofs.sizes.add_inputs.Goals as goal

pub loop-n-preserved : goal.loop-n-preserved
loop-n-preserved c =
    let a = c.args.shapes.now in
    let n = c.loop-n.n in
    let counts = c.trees_law.ensures.counts a in
    let same = ap (λ (y : Arena). length y.signals) c.flat-flat.ensures.same in
    let is = ap (λ (s : E.Signal). if s.input then E.signal_length s else 0) (c.trees_law.ensures.signals a n c.signal.result.now (rw c.flat-flat.ensures.same at c.signal.ensures)) in
    input_step (arena_signals a) n c.args.total c.loop-n.sum c.plus-sum.result (signal_at (arena_signals a) n) (omega (arith, c.loop-n-test.true, c.signal_count-n-end.ensures.count, counts.signals, same)) refl c.loop-n.invariant
    (c.plus-sum.ensures ∙ ap (λ m. capped (c.loop-n.sum + m)) (c.input_bits.ensures ∙ sym is))
