use Rattle.std.proofs.Common.{◌≡◌, ◌+◌, ◌*◌, ◌≤◌, length, ℕ}
use Rattle.vs_flat.specs.DesignOf.{design_of}
use Rattle.vs_queue.specs.Levelled.{GoesTo}
use Rattle.vs_queue.specs.Runs.{IsCopied}
use Rattle.vs_queue.specs.Sweeps.{IsCalm}
use Rattle.vs_queue.specs.Whole.{AreWhole}
use Rattle.vs_queue.proofs.plain.plain_run.Given as goal

abbrev pub invariant-loop-k : goal.invariant-loop-k
invariant-loop-k l =
    let d = design_of l.typed in
    let clocks = l.clocks.bits in
    record {
      copied : IsCopied d clocks l.run.events l.run.shadow.items;
      calm : IsCalm l.run.events;
      goes : GoesTo d clocks l.order l.vectors l.k l.run.events l.run.ends;
      whole : (slots : ℕ) × (slots + 1 ≡ 2 * l.k) × AreWhole d clocks slots l.run.ends;
      within : l.k ≤ length l.vectors;
    }
