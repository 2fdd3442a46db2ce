use Rattle.std.proofs.Common.{◌≡◌, ◌+◌, ◌||◌, List, Bool, length, sym, ap, ◌∙◌, subst, arith, Some}
use Rattle.std.specs.Prelude.{slice_get}
use Rattle.vs_design.specs.Designs.{bit_count}
use Rattle.vs_design.specs.Footprints.{contains}
use Rattle.vs_design.specs.Values.{count_from}
use Rattle.vs_flat.specs.Arena.{Arena}
use Rattle.vs_flat.specs.Arena as A
use Rattle.vs_flat.specs.DesignOf.{design_of}
use Rattle.vs_queue.specs.First.{flag_at}
use Rattle.vs_queue.proofs.Flags.{AreNets, no_nets, all_nets}
use Rattle.vs_queue.proofs.Signals.{signal_inside, net_next, other_next}
use Rattle.vs_queue.proofs.first.net_flags.Goals as goal
use Rattle.vs_queue.proofs.first.net_flags.Goals.{then-is_net, else-is_net}

pub loop-n-init : goal.loop-n-init
loop-n-init c = no_nets (design_of c.args.typed.now).signals c.in_ok-flags.flags.items (bit_count (design_of c.args.typed.now)) c.count_bits.result (c.in_ok-flags.ensures.items_if_clones_equal (λ y e. e)) (c.count_bits.ensures ∙ ap (λ (z : Arena). A.bit_count z.signals) c.flat-flat.ensures.same ∙ sym (c.trees_law.ensures.counts c.args.typed.now).bits)

pub bits_of-requires : goal.bits_of-requires
bits_of-requires c =
    let a = c.args.typed.now in
    let at = subst (λ (z : Arena). slice_get z.signals c.loop-n.n ≡ Some c.signal-signal.result.now) c.flat-flat.ensures.same c.signal-signal.ensures in
    let l = c.lawful_law.ensures.design a c.flat-flat.ensures.lawful in
    let h = signal_inside c.trees_law.ensures.signals c.trees_law.ensures.counts a c.loop-n.n c.signal-signal.result.now at l in
    let f = l.few_bits in
    omega (arith, h, f)

pub flag_run-requires : goal.flag_run-requires
flag_run-requires c =
    let a = c.args.typed.now in
    let at = subst (λ (z : Arena). slice_get z.signals c.loop-n.n ≡ Some c.signal-signal.result.now) c.flat-flat.ensures.same c.signal-signal.ensures in
    let l = c.lawful_law.ensures.design a c.flat-flat.ensures.lawful in
    let h = signal_inside c.trees_law.ensures.signals c.trees_law.ensures.counts a c.loop-n.n c.signal-signal.result.now at l in
    let b = c.bits_of.ensures in
    let m = c.loop-n.invariant.long in
    omega (arith, h, b, m)

pub loop-n-preserved : goal.loop-n-preserved
loop-n-preserved c =
    let a = c.args.typed.now in
    let n = c.loop-n.n in
    let s = c.signal-signal.result.now in
    let at = subst (λ (z : Arena). slice_get z.signals n ≡ Some s) c.flat-flat.ensures.same c.signal-signal.ensures in
    let count = bit_count (design_of a) in
    elim c.if-is_net.branch [
      | then-is_net w ↦ subst (λ (fs : List Bool). AreNets (design_of a).signals fs count (n + 1)) (cc w.flags-is)
          (net_next c.trees_law.ensures.signals c.trees_law.ensures.counts a n s at c.loop-n.flags.items w.flag_run.new.flags.items count (sym c.is_net.ensures ∙ w.if-is_net.true) w.flag_run.ensures.count
          (λ b. w.flag_run.ensures.flags b ∙ ap (λ k. flag_at c.loop-n.flags.items b || contains (count_from s.first_bit k) b) w.bits_of.ensures) c.loop-n.invariant)
      | else-is_net w ↦ subst (λ (fs : List Bool). AreNets (design_of a).signals fs count (n + 1)) (cc w.flags-is)
          (other_next c.trees_law.ensures.signals c.trees_law.ensures.counts a n s at c.loop-n.flags.items count (sym c.is_net.ensures ∙ w.if-is_net.false) c.loop-n.invariant)
    ]

pub returns : goal.returns
returns c =
    let a = c.args.typed.now in
    let l = c.loop-n-test.false in
    let m = c.signal_count-n-end.ensures.count in
    let n = ap (λ (z : Arena). length z.signals) c.flat-flat.ensures.same in
    let k = (c.trees_law.ensures.counts a).signals in
    record { count = c.loop-n.invariant.long; flags = all_nets (design_of a).signals c.loop-n.flags.items (bit_count (design_of a)) c.loop-n.n (omega (arith, l, m, n, k)) c.loop-n.invariant }
