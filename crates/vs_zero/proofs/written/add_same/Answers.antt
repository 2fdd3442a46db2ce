use Rattle.std.proofs.Common.{◌≡◌, ◌++◌, ◌<◌, ℕ, Bool, length, get_or, ap, ap₂, sym, ◌∙◌, arith}
use Rattle.std.proofs.lemmas.Grind.{common_steps}
use Rattle.std.proofs.lemmas.List.{take_all}
use Rattle.std.specs.List.{filter}
use Rattle.vs_four.specs.declared.Bit4.TheVariants.{X, Zero}
use Rattle.vs_four.specs.Tables.{same as are_same}
use Rattle.vs_zero.specs.States.{state_of}
use Rattle.vs_zero.proofs.Valued.{any_bit}
use Rattle.vs_zero.proofs.Updating.{kept, dropped}
use Rattle.vs_zero.proofs.written.add_same.Goals as goal
use Rattle.vs_zero.proofs.written.add_same.Goals.{then-are_same+in_ok-push, else-are_same}

pub loop-i-preserved : goal.loop-i-preserved
loop-i-preserved c =
    let bits = c.args.bits.now in
    let i = c.loop-i.i in
    let b = get_or bits i 0 in
    let test : ℕ → Bool = λ b. are_same (state_of c.args.from_x.now b) (state_of c.args.from_zero.now b) in
    let in_x : b < length c.args.from_x.now = grind (arith, common_steps, c.requires.within) in
    let in_zero : b < length c.args.from_zero.now = omega (arith, in_x, c.requires.count) in
    let value : c.are_same.result ≡ test b = c.are_same.ensures ∙ ap₂ are_same (any_bit c.args.from_x.now b Zero X in_x) (any_bit c.args.from_zero.now b Zero X in_zero) in
    elim c.if-are_same.branch [
      | then-are_same+in_ok-push w ↦ kept test c.args.to.now.items c.loop-i.to.items _ bits i c.loop-i-test.true c.loop-i.invariant (sym value ∙ w.if-are_same.true) (cc (w.to-is, w.in_ok-push.ensures.items))
      | else-are_same w ↦ dropped test c.args.to.now.items c.loop-i.to.items _ bits i c.loop-i-test.true c.loop-i.invariant (sym value ∙ w.if-are_same.false) (cc w.to-is)
    ]

pub returns : goal.returns
returns c =
    let test : ℕ → Bool = λ b. are_same (state_of c.args.from_x.now b) (state_of c.args.from_zero.now b) in
    c.loop-i.invariant ∙ ap (λ bs. c.args.to.now.items ++ filter test bs) (take_all c.loop-i.i c.args.bits.now c.loop-i-test.false)
