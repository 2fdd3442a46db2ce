use Rattle.vs_flat.specs.DesignOf.{design_of}
use Rattle.vs_compile.proofs.Accepted.{accepted_at, are_facts}
use Rattle.vs_compile.proofs.compiling.compile.Goals as goal

pub of-requires : goal.of-requires
of-requires c = are_facts c.args.typed.now c.args.footprints.now c.args.clocks.now c.requires.accepted c.requires.footprints c.requires.resets

pub nets_of-requires-clause-accepted : goal.nets_of-requires-clause-accepted
nets_of-requires-clause-accepted c = accepted_at (design_of c.args.typed.now) c.args.clocks.now c.requires.accepted

pub frame-requires-clause-lawful : goal.frame-requires-clause-lawful
frame-requires-clause-lawful c = rw c.flat.ensures.same c.flat.ensures.lawful

pub frame-requires-clause-nets : goal.frame-requires-clause-nets
frame-requires-clause-nets c = rw (c.flat.ensures.same, c.bits.ensures) c.in_ok-nets.ensures

pub start_values-requires : goal.start_values-requires
start_values-requires c =
    let h = c.requires.accepted in ((c.accepted_law.ensures.exactly (design_of c.args.typed.now) h.names h.accepted.lawful).0 h.accepted).blocks

pub frame-requires-clause-starts : goal.frame-requires-clause-starts
frame-requires-clause-starts c = rw (c.flat.ensures.same, c.as_slice.ensures.value) (record { count = c.in_ok-starts.ensures.count; values = c.in_ok-starts.ensures.values })

pub assemble-requires-clause-accepted : goal.assemble-requires-clause-accepted
assemble-requires-clause-accepted c = rw (c.in_ok-lowerer.ensures.same, c.in_ok-facts.ensures, c.bits-2.ensures) (accepted_at (design_of c.args.typed.now) c.args.clocks.now c.requires.accepted)

pub assemble-requires-clause-order : goal.assemble-requires-clause-order
assemble-requires-clause-order c = rw (c.in_ok-lowerer.ensures.same, c.in_ok-facts.ensures, c.list.ensures) c.requires.order

pub assemble-requires-clause-frame : goal.assemble-requires-clause-frame
assemble-requires-clause-frame c =
    rw (c.in_ok-lowerer.ensures.same, c.in_ok-facts.ensures, c.bits-2.ensures) (rw (c.flat.ensures.same, c.bits.ensures) at c.in_ok-frame.ensures)

pub returns : goal.returns
returns c = rw (c.in_ok-lowerer.ensures.same, c.in_ok-facts.ensures, c.bits-2.ensures) at c.assemble.ensures
