use Rattle.std.proofs.Common.{◌∙◌, ◌<◌, length, slice_index, ◌+◌, ℕ, List, ◌++◌, [], ◌∷◌, map, take, set, get_or, Some, sym, ap, arith}
use Rattle.std.proofs.lemmas.List.{take_more, length-take}
use Rattle.vs_values.specs.Environments.{placed}
use Rattle.vs_values.proofs.Environments.{placed_more, placed_length}
use Rattle.vs_values.proofs.environment.place.Goals as goal

pub loop-n-preserved : goal.loop-n-preserved
loop-n-preserved c =
    let n = c.loop-n.n in
    let bits = c.args.bits.now in
    let to = c.args.to.now in
    let b = get_or bits n 0 in
    let t = get_or to n 0 in
    c.in_ok-set.ensures
    ∙ ap (λ (x : List ℕ). set x b t) c.loop-n.invariant
    ∙ sym (placed_more c.args.env.now (take n bits) (take n to) b t (omega (arith, length-take n bits, length-take n to, c.requires.alike)))
    ∙ ap (λ (x : List ℕ). placed c.args.env.now (map Some x) (take n to ++ t ∷ [])) (sym (take_more bits n 0 (omega arith)))
    ∙ ap (λ (x : List ℕ). placed c.args.env.now (map Some (take (n + 1) bits)) x) (sym (take_more to n 0 (omega (arith, c.requires.alike))))

pub set-requires : goal.set-requires
set-requires c =
    let n = c.loop-n.n in
    let inside : slice_index c.args.bits.now n < length c.args.env.now = c.requires.inside n 0 c.loop-n-test.true in
    omega (arith, inside, ap length c.loop-n.invariant, placed_length c.args.env.now (map Some (take n c.args.bits.now)) (take n c.args.to.now))
