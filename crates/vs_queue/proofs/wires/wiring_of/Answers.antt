use Rattle.std.proofs.Common.{List, ◌<◌, ℕ, [], replicate, length, sym, ap, ap₂, ◌∙◌, subst}
use Rattle.std.proofs.lemmas.List.{length-replicate}
use Rattle.vs_design.specs.Clocks.{first_clock}
use Rattle.vs_design.specs.Designs.{bit_count}
use Rattle.vs_flat.specs.Arena.{Arena}
use Rattle.vs_flat.specs.DesignOf.{design_of}
use Rattle.vs_flat.specs.Lawful.{IsLawful}
use Rattle.vs_queue.specs.Spare.{value_count, keeper_at}
use Rattle.vs_queue.specs.Listens.{listens_from}
use Rattle.vs_queue.proofs.Listened.{listens_length}
use Rattle.vs_queue.proofs.Listening.{keeper_listened, keeper_unheard}
use Rattle.vs_queue.proofs.Told.{bits_are, few_spares}
use Rattle.vs_queue.proofs.Wirings.{clock_there}
use Rattle.vs_queue.proofs.wires.wiring_of.Goals as goal

pub keeper_at-process-requires-clause-lawful : goal.keeper_at-process-requires-clause-lawful
keeper_at-process-requires-clause-lawful c = subst IsLawful (sym c.flat.ensures.same) c.flat.ensures.lawful

pub keeper_at-process-requires-clause-one : goal.keeper_at-process-requires-clause-one
keeper_at-process-requires-clause-one c = rw (c.flat.ensures.same, c.bits-then-keeper.ensures) (few_spares (design_of c.args.typed.now) c.args.clocks.now c.requires.accepted)

pub listen-requires : goal.listen-requires
listen-requires c =
    let d = design_of c.args.typed.now in
    let clocks = c.args.clocks.now.bits in
    let b = c.requires.accepted in
    let there = subst (λ k. first_clock k < value_count d k) (sym (bits_are d c.args.clocks.now b)) (clock_there c.footprint_law.ensures.bits c.footprint_law.ensures.ascending c.within_law.ensures.expressions d b.names b.accepted) in
    let long = ap length c.in_ok-wiring.ensures ∙ listens_length (listens_from (bit_count d) 0 d.processes) (replicate (value_count d clocks) []) ∙ length-replicate (value_count d clocks) [] in
    subst (λ k. c.first_clock-bit.result < k) (sym long) (subst (λ k. k < value_count d clocks) (sym (c.first_clock-bit.ensures ∙ ap first_clock c.bits.ensures)) there)

pub returns-then-keeper : goal.returns-then-keeper
returns-then-keeper c =
    let d = design_of c.args.typed.now in
    let clocks = c.args.clocks.now.bits in
    let process = c.keeper_at-process.ensures.is ∙ ap₂ (λ (z : Arena) (k : List ℕ). keeper_at (design_of z) k) c.flat.ensures.same c.bits-then-keeper.ensures in
    keeper_listened d clocks c.in_ok-wiring.wiring c.listen.new.self c.args.keeper c.first_clock-bit.result c.keeper_at-process.result c.requires.keeper c.if-keeper.true (c.first_clock-bit.ensures ∙ ap first_clock c.bits.ensures) process c.in_ok-wiring.ensures c.in_ok-listen.ensures

pub returns : goal.returns
returns c = keeper_unheard (design_of c.args.typed.now) c.args.clocks.now.bits c.in_ok-wiring.wiring c.args.keeper c.requires.keeper c.if-keeper.false c.in_ok-wiring.ensures
