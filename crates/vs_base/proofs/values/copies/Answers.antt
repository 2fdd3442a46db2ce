use Rattle.std.proofs.Common.{◌+◌, ◌≤◌, length, subst, sym}
use Rattle.vs_base.proofs.Lengths.{more_copies}
use Rattle.vs_base.proofs.values.copies.Goals as goal

pub join-whole-requires : goal.join-whole-requires
join-whole-requires c = record { at_most_64 = subst (λ xs. length xs + length c.args.a ≤ 64) (sym c.loop-made.invariant.2) (more_copies c.loop-made.made c.args.count c.args.a c.loop-made-test.true c.requires.most) }
