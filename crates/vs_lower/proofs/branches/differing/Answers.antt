use Rattle.std.proofs.Common.{◌≡◌, ◌∙◌, ◌++◌, ℕ, List, [], ◌∷◌, Vec, Global, slice_index, length, sym, ap, arith}
use Rattle.vs_lower.proofs.Differing.{bits_more, bits_same, bits_all}
use Rattle.vs_lower.proofs.branches.differing.Goals.{then-first-n+in_ok-push, else-first-n}
use Rattle.vs_lower.proofs.branches.differing.Goals as goal

pub loop-n-preserved : goal.loop-n-preserved
loop-n-preserved c =
    let bits = c.args.bits.now in
    let first = c.args.first.now in
    let env = c.args.env.now in
    let n = c.loop-n.n in
    elim c.if-first-n.branch [
      | then-first-n+in_ok-push w ↦
          ap (λ (v : Vec ℕ Global). v.items) w.those-is ∙ w.in_ok-push.ensures.items ∙ ap (λ (xs : List ℕ). xs ++ slice_index bits n ∷ []) c.loop-n.invariant
          ∙ bits_more bits first env n c.loop-n-test.true c.requires.alike (λ e. w.if-first-n.true (e ∙ sym c.slot.ensures))
      | else-first-n w ↦
          ap (λ (v : Vec ℕ Global). v.items) w.those-is ∙ c.loop-n.invariant ∙ bits_same bits first env n c.loop-n-test.true c.requires.alike (w.if-first-n.false ∙ c.slot.ensures)
    ]

pub returns : goal.returns
returns c =
    let end : c.loop-n.n ≡ length c.args.bits.now = omega (arith, c.loop-n.auto.n-end, c.loop-n-test.false) in
    c.loop-n.invariant ∙ bits_all c.args.bits.now c.args.first.now c.args.env.now c.loop-n.n end c.requires.alike
