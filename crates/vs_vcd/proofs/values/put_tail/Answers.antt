use Rattle.std.proofs.Common.{◌≡◌, ◌+◌, ◌-◌, ◌++◌, ◌≤◌, ℕ, length, take, drop, sym, ap, ◌∙◌, arith}
use Rattle.std.proofs.Math.Seq.{take-append-add}
use Rattle.std.proofs.lemmas.List.{length-take-le, length-take, length-drop, take-append-le}
use Rattle.vs_vcd.proofs.values.put_tail.Goals as goal

pub returns-clause-text : goal.returns-clause-text
returns-clause-text c =
    let at = c.args.at in
    let block = c.args.block.now in
    let part = c.copy_from_slice.new.self in
    let n = c.tail.inside.len in
    let start : length (take at block) ≡ at = length-take-le at block (omega (arith, c.requires.room)) in
    let long : n ≤ length part = omega (arith, c.tail.invariant, c.copy_from_slice.ensures.len, length-take (at + 8 - at) (drop at block), length-drop at block, c.requires.room) in
    ap (λ (m : ℕ). take (m + n) (take at block ++ (part ++ drop (at + 8 - at) (drop at block)))) (sym start)
    ∙ take-append-add (take at block) (part ++ drop (at + 8 - at) (drop at block)) n
    ∙ ap (λ t. take at block ++ t) (take-append-le n part (drop (at + 8 - at) (drop at block)) long ∙ ap (take n) c.copy_from_slice.ensures.after ∙ c.tail.view_is)
