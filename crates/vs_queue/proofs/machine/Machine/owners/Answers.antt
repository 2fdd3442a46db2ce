use Rattle.std.proofs.Common.{ℕ, List, length, sym, ap, ap₂, ◌∙◌, subst}
use Rattle.vs_flat.specs.Arena.{Arena}
use Rattle.vs_flat.specs.Lawful.{IsLawful}
use Rattle.vs_flat.specs.DesignOf.{design_of}
use Rattle.vs_queue.specs.Initially.{AreKept, AreOwners}
use Rattle.vs_queue.specs.Spare.{keeper_at}
use Rattle.vs_queue.proofs.Giving.{if_ok2}
use Rattle.vs_queue.proofs.Owners.{are_owners}
use Rattle.vs_queue.proofs.Told.{bits_are, few_spares}
use Rattle.vs_queue.proofs.machine.Machine.owners.Goals as goal

pub keeper_at-keeper-requires-clause-lawful : goal.keeper_at-keeper-requires-clause-lawful
keeper_at-keeper-requires-clause-lawful c = subst IsLawful (sym c.flat.ensures.same) c.flat.ensures.lawful

pub keeper_at-keeper-requires-clause-one : goal.keeper_at-keeper-requires-clause-one
keeper_at-keeper-requires-clause-one c = rw (c.flat.ensures.same, c.bits.ensures) (few_spares (design_of c.args.self.now.typed.now) c.args.self.now.clocks.now c.requires.machine.accepted)

pub returns : goal.returns
returns c =
    let d = design_of c.args.self.now.typed.now in
    let k = c.args.self.now.clocks.now in
    let b = c.requires.machine.accepted in
    let number = c.keeper_at-keeper.ensures.is ∙ ap₂ (λ (z : Arena) (m : List ℕ). keeper_at (design_of z) m) c.flat.ensures.same c.bits.ensures ∙ ap (keeper_at d) (bits_are d k b) in
    if_ok2 c.block_owners.result c.block_owners.ensures.count c.block_owners.ensures.kept (λ v long kept.
    subst (λ m. AreOwners d m v.items) (sym (bits_are d k b)) (are_owners d b.names b.accepted v.items long (subst (λ m. AreKept d (length d.processes) m v.items) number kept)))
