use Rattle.std.proofs.Common.{length, refl, sym, ap, ◌∙◌, arith}
use Rattle.vs_design.specs.Footprints.{contains}
use Rattle.vs_flat.specs.Arena.{Arena}
use Rattle.vs_flat.specs.DesignOf.{design_of}
use Rattle.vs_queue.specs.First.{flag_at}
use Rattle.vs_queue.proofs.Alone.{all_below, alone_is, one_alone, none_alone, all_accompanied}
use Rattle.vs_queue.proofs.starts.has_keeper.Goals as goal

pub loop-k-init : goal.loop-k-init
loop-k-init c = refl

pub has_unflagged-requires : goal.has_unflagged-requires
has_unflagged-requires c =
    all_below c.as_slice-in-loop-k.result.now (length c.as_slice.result.now) (λ b h.
    let below = c.in_ok-bits.ensures.below b (ap (λ bs. contains bs b) (sym c.as_slice-in-loop-k.ensures.value) ∙ h) in
    let long = ap length c.as_slice.ensures.value ∙ c.in_ok-written.ensures.count in
    omega (arith, below, long))

pub returns-then-has_unflagged : goal.returns-then-has_unflagged
returns-then-has_unflagged c =
    let d = design_of c.args.typed.now in
    let l = c.loop-k-test.true in
    let m = c.initial_count-k-end.ensures.count in
    let n = ap (λ (z : Arena). length z.initials) c.flat-flat.ensures.same in
    let k = (c.trees_law.ensures.counts c.args.typed.now).initials in
    one_alone d c.loop-k.k (omega (arith, l, m, n, k))
    (λ i at.
    sym (alone_is d c.as_slice.result.now c.as_slice-in-loop-k.result.now i (λ b. ap (λ fs. flag_at fs b) c.as_slice.ensures.value ∙ c.in_ok-written.ensures.flags b) (c.as_slice-in-loop-k.ensures.value ∙ c.in_ok-bits.ensures.bits i at))
    ∙ sym c.has_unflagged.ensures ∙ c.if-has_unflagged.true)

pub loop-k-preserved : goal.loop-k-preserved
loop-k-preserved c =
    let d = design_of c.args.typed.now in
    let l = c.loop-k-test.true in
    let m = c.initial_count-k-end.ensures.count in
    let n = ap (λ (z : Arena). length z.initials) c.flat-flat.ensures.same in
    let k = (c.trees_law.ensures.counts c.args.typed.now).initials in
    none_alone d c.loop-k.k (omega (arith, l, m, n, k))
    (λ i at.
    sym (alone_is d c.as_slice.result.now c.as_slice-in-loop-k.result.now i (λ b. ap (λ fs. flag_at fs b) c.as_slice.ensures.value ∙ c.in_ok-written.ensures.flags b) (c.as_slice-in-loop-k.ensures.value ∙ c.in_ok-bits.ensures.bits i at))
    ∙ sym c.has_unflagged.ensures ∙ c.if-has_unflagged.false) c.loop-k.invariant

pub returns : goal.returns
returns c =
    let l = c.loop-k-test.false in
    let m = c.initial_count-k-end.ensures.count in
    let n = ap (λ (z : Arena). length z.initials) c.flat-flat.ensures.same in
    let k = (c.trees_law.ensures.counts c.args.typed.now).initials in
    all_accompanied (design_of c.args.typed.now) c.loop-k.k (omega (arith, l, m, n, k)) c.loop-k.invariant
