use Rattle.std.proofs.Common.{◌≡◌, ◌+◌, ℕ, List, Vec, Global, Option, Some, None, length, sym, ap, ◌∙◌, subst, arith}
use Rattle.std.proofs.lemmas.List.{length_push}
use Rattle.vs_flat.specs.Arena.{Arena}
use Rattle.vs_flat.specs.DesignOf.{design_of}
use Rattle.vs_clock.specs.declared.resets.Reset.{Reset}
use Rattle.vs_clock.specs.declared.resets.BlockReset.{BlockReset}
use Rattle.vs_clock.specs.Found.{other_form, IsBlockReset}
use Rattle.vs_clock.specs.Nets.{AreNets}
use Rattle.vs_reads.proofs.Numbered.{process_there}
use Rattle.vs_reads.proofs.Told.{there}
use Rattle.vs_clock.proofs.Ruled.{first_is}
use Rattle.vs_clock.proofs.Resetting.{AreBefore, one_more, all_resets}
use Rattle.vs_clock.proofs.resets.resets_of.Goals as goal
use Rattle.vs_clock.proofs.resets.resets_of.Goals.{in-Absent+in_ok-push-in-Absent, in-Present+in_ok-push-in-Present}

pub returns-in-Formless : goal.returns-in-Formless
returns-in-Formless c = λ n a.
    let d = design_of c.args.typed.now in
    let x = process_there d.processes c.loop-p.p (there (there c.loop-p-test.true c.process_count-p-end.ensures.count) (ap (λ (a : Arena). length a.processes) c.flat.ensures.same ∙ sym (c.trees_law.ensures.counts c.args.typed.now).processes)) in
    first_is d (other_form c.args.typed.now n) c.loop-p.p x.0 x.1 (subst (λ (r : BlockReset). IsBlockReset c.args.typed.now n x.0 r) c.in-Formless.is (c.block_reset.ensures n a x.0 x.1)) ((c.loop-p.invariant.1 n a).formed)

pub loop-p-preserved : goal.loop-p-preserved
loop-p-preserved c =
    let a = c.args.typed.now in
    let d = design_of a in
    let x = process_there d.processes c.loop-p.p (there (there c.loop-p-test.true c.process_count-p-end.ensures.count) (ap (λ (a : Arena). length a.processes) c.flat.ensures.same ∙ sym (c.trees_law.ensures.counts a).processes)) in
    let P : List (Option Reset) → Type 0 = λ rs. (length rs ≡ c.loop-p.p + 1) × ((n : List ℕ) → AreNets d n c.args.nets.now → AreBefore a n (c.loop-p.p + 1) rs) in
    elim c.match-block_reset.branch [
      | in-Absent+in_ok-push-in-Absent w ↦
          subst P (sym (ap (λ (v : Vec (Option Reset) Global). v.items) w.resets-is ∙ w.in_ok-push-in-Absent.ensures.items)) (
            length_push c.loop-p.resets.items None ∙ ap (λ n. n + 1) c.loop-p.invariant.0,
            λ n h. let k = subst (λ (r : BlockReset). IsBlockReset a n x.0 r) w.in-Absent.is (c.block_reset.ensures n h x.0 x.1) in one_more a n c.loop-p.p c.loop-p.resets.items None x.0 c.loop-p.invariant.0 x.1 k.0 k.1 (c.loop-p.invariant.1 n h),
          )
      | in-Present+in_ok-push-in-Present w ↦
          subst P (sym (ap (λ (v : Vec (Option Reset) Global). v.items) w.resets-is ∙ w.in_ok-push-in-Present.ensures.items)) (
            length_push c.loop-p.resets.items (Some w.in-Present.reset) ∙ ap (λ n. n + 1) c.loop-p.invariant.0,
            λ n h. let k = subst (λ (r : BlockReset). IsBlockReset a n x.0 r) w.in-Present.is (c.block_reset.ensures n h x.0 x.1) in one_more a n c.loop-p.p c.loop-p.resets.items (Some w.in-Present.reset) x.0 c.loop-p.invariant.0 x.1 k.0 k.1 (c.loop-p.invariant.1 n h),
          )
    ]

pub returns : goal.returns
returns c = λ n a.
    all_resets c.args.typed.now n c.loop-p.p c.loop-p.resets.items c.loop-p.invariant.0 (omega (arith, c.loop-p-test.false, c.loop-p.auto.p-end, c.process_count-p-end.ensures.count, ap (λ (a : Arena). length a.processes) c.flat.ensures.same, (c.trees_law.ensures.counts c.args.typed.now).processes)) (c.loop-p.invariant.1 n a)
