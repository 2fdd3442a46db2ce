use Rattle.std.proofs.Common.{◌≡◌, ℕ, ◌<◌, Bool, not, if◌then◌else◌, [], ◌∷◌, length, refl, sym, ap, ap₂, ◌∙◌, arith}
use Rattle.vs_four.specs.declared.Bit4.{Bit4}
use Rattle.vs_four.specs.Tables.{is_one}
use Rattle.vs_four.specs.Logic.{BitList, map2, truth}
use Rattle.vs_plane.specs.Kernels.{lane_bits, ternary}
use Rattle.vs_kern_select.specs.Matches.{chosen_bit}
use Rattle.vs_kern_select.specs.Operators.{branch}
use Rattle.vs_kern_select.proofs.ChoiceLaws.{chosen_bits, branched_is}
use Rattle.vs_kern_select.proofs.choices.branch.Goals as goal

pub returns-clause-computes : goal.returns-clause-computes
returns-clause-computes g c =
    let law = c.filling_law.ensures in
    let lane = g.W.Word.lane in
    let lanes = g.W.Word.LANES in
    let before = c.args.file.now in
    let to = c.args.to.now in
    let p : ℕ → BitList = lane_bits lane before c.args.p.now in
    let q : ℕ → BitList = lane_bits lane before c.args.q.now in
    let t : ℕ → Bit4 = λ i. truth (lane_bits lane before c.args.c.now i) in
    let as_long : (i : ℕ) → length (p i) ≡ length (q i) = λ i. omega (arith, law.long before c.args.p.now i, law.long before c.args.q.now i) in
    let taken : (i : ℕ) → i < lanes → lane c.one-taken.result i ≡ is_one (t i) = λ i h. c.one-taken.ensures.lanes i h ∙ ap is_one (c.truth.ensures i h) in
    let is : (i : ℕ) → i < lanes → map2 (chosen_bit (lane c.one-taken.result i) (lane c.not.result i)) (p i) (q i) ≡ (if is_one (t i) then p i else q i) = λ i h.
    ap₂ (λ (u v : Bool). map2 (chosen_bit u v) (p i) (q i)) (taken i h) (c.not.ensures i h ∙ ap not (taken i h))
    ∙ branched_is (t i) (p i) (q i) (as_long i) in
    law.ends (ternary branch) (c.args.c.now ∷ c.args.p.now ∷ c.args.q.now ∷ []) to c.args.scratch.now (length to) before c.choose_bits.new.file
    (λ i h. ap length (sym (branched_is (t i) (p i) (q i) (as_long i)))
    ∙ law.pair_long (chosen_bit (is_one (t i)) (not (is_one (t i)))) (p i) (q i) (as_long i)
    ∙ law.long before c.args.p.now i ∙ c.requires.p_length)
    refl
    (law.same (chosen_bits lane (λ i. chosen_bit (lane c.one-taken.result i) (lane c.not.result i)) before c.args.p.now c.args.q.now) (λ i. if is_one (t i) then p i else q i) to (length to) before c.choose_bits.new.file is c.choose_bits.ensures.fills)
