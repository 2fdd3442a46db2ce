use Rattle.std.proofs.Common.{◌≡◌, ◌+◌, ◌<◌, ℕ, List, Vec, Global, take, length, sym, ap, ◌∙◌, subst, arith}
use Rattle.std.specs.List.{filter_map}
use Rattle.vs_flat.specs.DesignOf.{arena_signals}
use Rattle.vs_reads.proofs.Told.{there}
use Rattle.vs_clock.specs.Dead.{unmarked_bit}
use Rattle.vs_clock.proofs.Marking.{kept_more, kept_less, kept_all}
use Rattle.vs_clock.proofs.dead.unmarked_bits.Goals as goal
use Rattle.vs_clock.proofs.dead.unmarked_bits.Goals.{in-Some+in_ok-push-in-Some, in-None}

pub loop-signal-preserved : goal.loop-signal-preserved
loop-signal-preserved c =
    let ss = arena_signals c.args.flat.now in
    let g = unmarked_bit c.args.marks.now in
    let n = c.loop-signal.signal in
    let l : n < length ss = there (there c.loop-signal-test.true c.signal_count-signal-end.ensures.count) (sym (c.trees_law.ensures.counts c.args.flat.now).signals) in
    let P : List ℕ → Type 0 = λ bits. bits ≡ filter_map g (take (n + 1) ss) in
    elim c.match-unmarked_bit.branch [
      | in-Some+in_ok-push-in-Some w ↦ subst P (sym (ap (λ (v : Vec ℕ Global). v.items) w.bits-is ∙ w.in_ok-push-in-Some.ensures.items)) (kept_more g ss n _ c.loop-signal.bits.items l c.loop-signal.invariant w.in-Some.ensures)
      | in-None w ↦ subst P (sym (ap (λ (v : Vec ℕ Global). v.items) w.bits-is)) (kept_less g ss n c.loop-signal.bits.items l c.loop-signal.invariant w.in-None.ensures)
    ]

pub returns : goal.returns
returns c =
    let l = c.loop-signal-test.false in
    let m = c.signal_count-signal-end.ensures.count in
    let k = (c.trees_law.ensures.counts c.args.flat.now).signals in
    kept_all (unmarked_bit c.args.marks.now) (arena_signals c.args.flat.now) c.loop-signal.signal c.loop-signal.bits.items (omega (arith, l, m, k)) c.loop-signal.invariant
