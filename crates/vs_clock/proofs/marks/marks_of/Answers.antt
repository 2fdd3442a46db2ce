use Rattle.std.proofs.Common.{◌≡◌, ◌+◌, ℕ, List, Bool, Vec, Global, false, length, take, sym, ap, subst}
use Rattle.std.specs.Prelude.{slice_index_or}
use Rattle.vs_clock.specs.Resets.{has_input}
use Rattle.vs_clock.proofs.Resetting.{input_here, input_marked, none_marked}
use Rattle.vs_clock.proofs.marks.marks_of.Goals as goal
use Rattle.vs_clock.proofs.marks.marks_of.Goals.{in-Some, in-None}

pub loop-reset-preserved : goal.loop-reset-preserved
loop-reset-preserved c =
    let P : List Bool → Type 0 = λ ms. (length ms ≡ c.args.bits) × ((b : ℕ) → slice_index_or ms b false ≡ has_input (take (c.loop-reset.reset-index + 1) c.args.resets.now) b) in
    elim c.match-reset.branch [
      | in-Some w ↦ subst P (sym (ap (λ (v : Vec Bool Global). v.items) w.marks-is)) (input_marked c.args.bits c.loop-reset.marks.items c.args.resets.now c.loop-reset.reset-index w.in-Some.reset c.loop-reset-test.true w.in-Some.is
          (input_here c.args.bits c.args.resets.now c.loop-reset.reset-index w.in-Some.reset c.requires c.loop-reset-test.true w.in-Some.is) c.loop-reset.invariant.0 c.loop-reset.invariant.1)
      | in-None w ↦ subst P (sym (ap (λ (v : Vec Bool Global). v.items) w.marks-is)) (c.loop-reset.invariant.0, none_marked c.loop-reset.marks.items c.args.resets.now c.loop-reset.reset-index c.loop-reset-test.true w.in-None.is c.loop-reset.invariant.1)
    ]
