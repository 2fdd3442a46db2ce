use Rattle.std.proofs.Common.{◌+◌, ◌<◌, List, ℕ, ◌++◌, length, take, sym, ap, ◌∙◌, subst, arith}
use Rattle.vs_design.specs.Sizes.{register_bits}
use Rattle.vs_assemble.specs.Flags.{AreFlags}
use Rattle.vs_assemble.proofs.Flags.{same_flags}
use Rattle.vs_assemble.proofs.Planned.{registers_more, registers_same}
use Rattle.vs_assemble.proofs.planning.set_registers.Goals as goal
use Rattle.vs_assemble.proofs.planning.set_registers.Goals.{then-is_clocked, else-is_clocked}

pub loop-process-preserved : goal.loop-process-preserved
loop-process-preserved g c =
    let d = g.T.Processes.design c.args.lowering.now in
    let n : ℕ = c.loop-process.process in
    let there : c.loop-process.process < length d.processes = omega (arith, c.loop-process-test.true, c.process_count-process-end.ensures) in
    elim c.if-is_clocked.branch [
      | then-is_clocked w ↦ record {
        count = ap length w.flags-is ∙ w.set_all.ensures.count ∙ c.loop-process.invariant.count;
        set = λ none.
            subst (λ fs. AreFlags fs (register_bits (take (n + 1) d.processes))) (sym w.flags-is)
            (same_flags w.set_all.new.flags (w.writes.result.now ++ register_bits (take n d.processes)) (register_bits (take (n + 1) d.processes))
            (registers_more d n w.writes.result.now there (sym c.is_clocked.ensures ∙ w.if-is_clocked.true) w.writes.ensures.same)
            (w.set_all.ensures.set (register_bits (take n d.processes)) (c.loop-process.invariant.set none)));
      }
      | else-is_clocked w ↦ record {
        count = ap length w.flags-is ∙ c.loop-process.invariant.count;
        set = λ none.
            subst (λ fs. AreFlags fs (register_bits (take (n + 1) d.processes))) (sym w.flags-is)
            (subst (λ (bs : List ℕ). AreFlags c.loop-process.flags bs) (sym (registers_same d n there (sym c.is_clocked.ensures ∙ w.if-is_clocked.false))) (c.loop-process.invariant.set none));
      }
    ]
