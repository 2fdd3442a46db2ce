use Rattle.std.proofs.Common.{ℕ, ◌+◌, ◌<◌, List, [], ◌∷◌, ◌++◌, Option, Vec, Global, take, get_or, sym, ap, ◌∙◌, subst}
use Rattle.vs_clock.specs.Spread.{label_at, Labels}
use Rattle.vs_reads.proofs.Tests.{member_at}
use Rattle.vs_clock.proofs.Spreading.{label_had, label_got, none_by, some_by}
use Rattle.vs_clock.proofs.spread.label_all.Goals as goal
use Rattle.vs_clock.proofs.spread.label_all.Goals.{then-is_none+in_ok-push, else-is_none}

pub bounds-labels-bit : goal.bounds-labels-bit
bounds-labels-bit c = subst (λ m. get_or c.args.bits.now c.loop-bit.bit-index 0 < m) (sym c.loop-bit.auto.labels) (c.requires _ (member_at c.args.bits.now c.loop-bit.bit-index c.loop-bit-test.true))

pub bounds-labels-bit-then-is_none : goal.bounds-labels-bit-then-is_none
bounds-labels-bit-then-is_none c = subst (λ m. get_or c.args.bits.now c.loop-bit.bit-index 0 < m) (sym c.loop-bit.auto.labels) (c.requires _ (member_at c.args.bits.now c.loop-bit.bit-index c.loop-bit-test.true))

pub loop-bit-preserved : goal.loop-bit-preserved
loop-bit-preserved c =
    let bit : ℕ = get_or c.args.bits.now c.loop-bit.bit-index 0 in
    let Q : List (Option ℕ) → List ℕ → Type 0 = λ ls zs. Labels (take (c.loop-bit.bit-index + 1) c.args.bits.now) c.args.root c.args.labels.now ls c.args.pending.now.items zs in
    elim c.if-is_none.branch [
      | then-is_none+in_ok-push w ↦
          subst (Q c.if-is_none.labels) (sym (ap (λ (v : Vec ℕ Global). v.items) w.pending-is ∙ w.in_ok-push.ensures.items)) (subst (λ ls. Q ls (c.loop-bit.pending.items ++ bit ∷ [])) (sym w.labels-is)
          (label_got c.args.bits.now c.loop-bit.bit-index c.args.root c.args.labels.now c.loop-bit.labels c.args.pending.now.items c.loop-bit.pending.items c.loop-bit-test.true
          (subst (λ m. bit < m) (sym c.loop-bit.auto.labels) (c.requires _ (member_at c.args.bits.now c.loop-bit.bit-index c.loop-bit-test.true)))
          (none_by (label_at c.loop-bit.labels bit) c.is_none.result c.is_none.ensures w.if-is_none.true) c.loop-bit.invariant))
      | else-is_none w ↦
          subst (Q c.if-is_none.labels) (sym (ap (λ (v : Vec ℕ Global). v.items) w.pending-is)) (subst (λ ls. Q ls c.loop-bit.pending.items) (sym w.labels-is)
          (label_had c.args.bits.now c.loop-bit.bit-index c.args.root c.args.labels.now c.loop-bit.labels c.args.pending.now.items c.loop-bit.pending.items c.loop-bit-test.true
          (some_by (label_at c.loop-bit.labels bit) c.is_none.result c.is_none.ensures w.if-is_none.false) c.loop-bit.invariant))
    ]
