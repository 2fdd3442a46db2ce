use Rattle.std.proofs.Common.{◌≡◌, ℕ, true, false, List, [], ◌∷◌, ◌++◌, length, get_or, sym, ap, ◌∙◌, subst}
use Rattle.vs_design.specs.Designs.{Design}
use Rattle.vs_design.specs.Footprints.{contains}
use Rattle.vs_cone.specs.Cones.{is_touched, needs_at, writes_at}
use Rattle.vs_program.specs.declared.compiled.Run.{Run}
use Rattle.vs_program.specs.Lowered.{Layout}
use Rattle.vs_assemble.specs.Flags.{AreFlags}
use Rattle.vs_assemble.specs.Runs.{AreRunsOf}
use Rattle.vs_assemble.proofs.Lists.{same_any}
use Rattle.vs_assemble.proofs.Flags.{same_flags, same_more}
use Rattle.vs_assemble.proofs.Reaching.{taken, passed}
use Rattle.vs_assemble.proofs.Running.{run_at, run_is, runs_push}
use Rattle.vs_assemble.proofs.cones.cone.Goals as goal
use Rattle.vs_assemble.proofs.cones.cone.Goals.{then-is_set+in_ok-push, else-is_set}

pub loop-n-preserved : goal.loop-n-preserved
loop-n-preserved g c =
    let d : Design = g.T.Processes.design c.args.lowering.now in
    let lay : Layout = g.T.Lowering.layout c.args.lowering.now in
    let n : ℕ = c.loop-n.n in
    let p : ℕ = get_or c.args.order.now n 0 in
    elim c.if-is_set.branch [
      | then-is_set+in_ok-push w ↦ record {
        count = ap length w.flags-is ∙ w.set_all.ensures.count ∙ c.loop-n.invariant.count;
        so_far = λ calls bits flags runs.
            let inv = c.loop-n.invariant.so_far calls bits flags runs in
            let touched : is_touched d inv.0 p ≡ true =
            sym (same_any (contains inv.0) c.needs.result.now (needs_at d p) c.needs.ensures.same) ∙ sym (c.is_set.ensures inv.0 inv.2) ∙ w.if-is_set.true in
            let set : AreFlags c.if-is_set.flags (w.writes.result.now ++ inv.0) =
            subst (λ fs. AreFlags fs (w.writes.result.now ++ inv.0)) (sym w.flags-is) (w.set_all.ensures.set inv.0 inv.2) in
            let items : c.if-is_set.reached.items ≡ c.loop-n.reached.items ++ run_at c.args.runs.now n ∷ [] = cc (w.reached-is, w.in_ok-push.ensures.items) in (
              writes_at d p ++ inv.0,
              inv.1 ++ p ∷ [],
              same_flags c.if-is_set.flags (w.writes.result.now ++ inv.0) (writes_at d p ++ inv.0) (same_more w.writes.result.now (writes_at d p) inv.0 w.writes.ensures.same) set,
              subst (λ (rs : List Run). AreRunsOf d lay calls (inv.1 ++ p ∷ []) rs) (sym items)
                  (runs_push d lay calls inv.1 c.loop-n.reached.items p (run_at c.args.runs.now n) inv.3 (run_is d lay calls c.args.order.now c.args.runs.now n c.loop-n-test.true runs)),
              taken d inv.0 c.args.order.now inv.1 n c.loop-n-test.true touched ∙ inv.4,
            );
      }
      | else-is_set w ↦ record {
        count = ap length w.flags-is ∙ c.loop-n.invariant.count;
        so_far = λ calls bits flags runs.
            let inv = c.loop-n.invariant.so_far calls bits flags runs in
            let touched : is_touched d inv.0 p ≡ false =
            sym (same_any (contains inv.0) c.needs.result.now (needs_at d p) c.needs.ensures.same) ∙ sym (c.is_set.ensures inv.0 inv.2) ∙ w.if-is_set.false in
            let items : c.if-is_set.reached.items ≡ c.loop-n.reached.items = cc (w.reached-is) in (
              inv.0,
              inv.1,
              subst (λ fs. AreFlags fs inv.0) (sym w.flags-is) inv.2,
              subst (λ (rs : List Run). AreRunsOf d lay calls inv.1 rs) (sym items) inv.3,
              passed d inv.0 c.args.order.now inv.1 n c.loop-n-test.true touched ∙ inv.4,
            );
      }
    ]
