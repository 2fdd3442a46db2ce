use Rattle.std.proofs.Common.{◌+◌, ◌<◌, length, drop, sym, ◌∙◌, ap, arith}
use Rattle.vs_design.specs.LiftedBodies.{put_each}
use Rattle.vs_sets.specs.Tables.{family_of, bits_from}
use Rattle.vs_sets.proofs.Families.{place_none, place_some}
use Rattle.vs_sets.proofs.table.put_places.Goals as goal
use Rattle.vs_sets.proofs.table.put_places.Goals.{in-Some, in_default}

pub loop-k-preserved : goal.loop-k-preserved
loop-k-preserved c =
    let first = c.args.first in
    let ps = c.args.places.now in
    let ss = c.args.sets.now in
    let k = c.loop-k.k in
    let t = c.loop-k.table in
    let some : k < length ps = omega (arith, c.len-k-end.ensures.value) in
    let sets : k < length ss = omega (arith, c.requires.same_length) in
    elim c.match-get.branch [
      | in-Some w ↦
          (let inside : first + w.in-Some.n < length t = omega (arith, c.requires.inside k w.in-Some.n (sym w.in-Some.ensures), c.loop-k.auto.table) in
          ap (λ u. put_each (bits_from first (drop (k + 1) ps)) (drop (k + 1) ss) (family_of u)) w.table-is
          ∙ place_some first ps ss k w.in-Some.n t w.index-sets-k.result some sets (sym w.in-Some.ensures) inside w.index-sets-k.is
          ∙ c.loop-k.invariant)
      | in_default w ↦
          ap (λ u. put_each (bits_from first (drop (k + 1) ps)) (drop (k + 1) ss) (family_of u)) w.table-is
          ∙ place_none first ps ss k t some sets (sym w.in_default.ensures)
          ∙ c.loop-k.invariant
    ]
