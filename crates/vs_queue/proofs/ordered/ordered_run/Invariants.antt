use Rattle.std.proofs.Common.{◌≡◌, ◌+◌, ◌*◌, ◌≤◌, length, ℕ}
use Rattle.vs_flat.specs.DesignOf.{design_of}
use Rattle.vs_queue.specs.Coming.{ComesTo}
use Rattle.vs_queue.specs.Runs.{IsCopied, IsEnded}
use Rattle.vs_queue.specs.Whole.{AreWhole}
use Rattle.vs_queue.proofs.ordered.ordered_run.Given as goal

abbrev pub invariant-loop-k : goal.invariant-loop-k
invariant-loop-k l =
    let d = design_of l.typed in
    let clocks = l.clocks.bits in
    record {
      copied : IsCopied d clocks l.run.events l.run.shadow.items;
      ended : IsEnded d clocks l.run.events;
      come : ComesTo d clocks l.order l.vectors l.k l.run.events l.run.seed l.run.ends l.run.steps;
      whole : (slots : ℕ) × (slots + 1 ≡ 2 * l.k) × AreWhole d clocks slots l.run.ends;
      within : l.k ≤ length l.vectors;
    }
