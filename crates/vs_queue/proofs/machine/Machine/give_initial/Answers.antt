use Rattle.std.proofs.Common.{length, sym, ap, ◌∙◌, subst, arith}
use Rattle.std.proofs.lemmas.List.{length-replicate}
use Rattle.vs_four.specs.declared.Bit4.TheVariants.{X}
use Rattle.vs_flat.specs.DesignOf.{design_of}
use Rattle.vs_queue.specs.Initially.{AreOwners}
use Rattle.vs_queue.proofs.machine.Machine.give_initial.Goals as goal

pub give_to-requires-clause-owners : goal.give_to-requires-clause-owners
give_to-requires-clause-owners c = subst (AreOwners (design_of c.args.self.now.typed.now) c.args.self.now.clocks.now.bits) (sym c.as_slice.ensures.value) c.in_ok-owners.ensures

pub give_to-requires-clause-values : goal.give_to-requires-clause-values
give_to-requires-clause-values c =
    let long = ap length (c.as_mut_slice.ensures.value ∙ c.in_ok-values.ensures.items_if_clones_equal (λ y e. e)) ∙ length-replicate c.len.result X in
    let many = c.len.ensures in
    let count = c.in_ok-owners.ensures.count in
    let same = ap length c.as_slice.ensures.value in
    let size = c.as_slice.ensures.len in
    omega (arith, long, many, count, same, size)
