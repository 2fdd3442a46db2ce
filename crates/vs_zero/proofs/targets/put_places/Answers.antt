use Rattle.std.proofs.Common.{◌+◌, ◌<◌, ◌≤◌, length, drop, sym, ◌∙◌, ap, arith}
use Rattle.vs_four.specs.declared.Bit4.TheVariants.{X, Zero}
use Rattle.vs_sets.specs.Tables.{bits_from}
use Rattle.vs_sets.proofs.Families.{any_default}
use Rattle.vs_zero.specs.States.{state_of, written}
use Rattle.vs_zero.proofs.Writing.{place_none, place_some, places_done}
use Rattle.vs_zero.proofs.targets.put_places.Goals as goal
use Rattle.vs_zero.proofs.targets.put_places.Goals.{in-Some, in_default}

pub loop-k-preserved : goal.loop-k-preserved
loop-k-preserved c =
    let first = c.args.first in
    let ps = c.args.places.now in
    let vs = c.args.value.now in
    let k = c.loop-k.k in
    let t = c.loop-k.state in
    let some : k < length ps = omega (arith, c.len-k-end.ensures.value) in
    let values : k < length vs = omega (arith, c.requires.same_length) in
    elim c.match-get.branch [
      | in-Some w ↦
          (let inside : first + w.in-Some.n < length t = omega (arith, c.requires.inside k w.in-Some.n (sym w.in-Some.ensures), c.loop-k.auto.state) in
          ap (λ u. written (bits_from first (drop (k + 1) ps)) (drop (k + 1) vs) (state_of u)) w.state-is
          ∙ place_some first ps vs k w.in-Some.n t _ some values (sym w.in-Some.ensures) inside (any_default vs k Zero X values)
          ∙ c.loop-k.invariant)
      | in_default w ↦
          ap (λ u. written (bits_from first (drop (k + 1) ps)) (drop (k + 1) vs) (state_of u)) w.state-is
          ∙ place_none first ps vs k t some values (sym w.in_default.ensures)
          ∙ c.loop-k.invariant
    ]

pub returns : goal.returns
returns c =
    let all : length c.args.places.now ≤ c.loop-k.k = omega (arith, c.len-k-end.ensures.value, c.loop-k-test.false) in
    sym (places_done c.args.first c.args.places.now c.args.value.now c.loop-k.k (state_of c.loop-k.state) all) ∙ c.loop-k.invariant
