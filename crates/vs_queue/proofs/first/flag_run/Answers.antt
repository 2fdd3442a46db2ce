use Rattle.std.proofs.Common.{◌≡◌, ◌+◌, ◌||◌, List, Bool, ℕ, refl, sym, ap, ◌∙◌, subst, arith}
use Rattle.vs_design.specs.Footprints.{contains}
use Rattle.vs_design.specs.Values.{count_from}
use Rattle.vs_queue.specs.First.{flag_at}
use Rattle.vs_queue.proofs.Flags.{AreRun, none_run, run_more}
use Rattle.vs_queue.proofs.first.flag_run.Goals as goal

pub loop-k-init : goal.loop-k-init
loop-k-init c = none_run c.args.first c.args.flags.now.items

pub set_flag-requires : goal.set_flag-requires
set_flag-requires c =
    let m = c.loop-k.invariant.long in
    let h = c.requires in
    let l = c.loop-k-test.true in
    omega (arith, m, h, l)

pub loop-k-preserved : goal.loop-k-preserved
loop-k-preserved c =
    let m = c.loop-k.invariant.long in
    let h = c.requires in
    let l = c.loop-k-test.true in
    subst (λ (fs : List Bool). AreRun c.args.first c.args.flags.now.items fs (c.loop-k.k + 1)) (sym c.set_flag.ensures)
    (run_more c.args.first c.args.flags.now.items c.loop-k.flags.items c.loop-k.k (c.args.first + c.loop-k.k) refl (omega (arith, m, h, l)) c.loop-k.invariant)

pub returns-clause-count : goal.returns-clause-count
returns-clause-count c = c.loop-k.invariant.long

pub returns-clause-flags : goal.returns-clause-flags
returns-clause-flags c = λ b.
    let l = c.loop-k-test.false in
    let m = c.loop-k.auto.k-end in
    c.loop-k.invariant.told b ∙ ap (λ (n : ℕ). flag_at c.args.flags.now.items b || contains (count_from c.args.first n) b) (let e : c.loop-k.k ≡ c.args.count = omega (arith, l, m) in e)
