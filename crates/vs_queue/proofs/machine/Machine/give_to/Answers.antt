use Rattle.std.proofs.Common.{List, Bool, map, length, ap, ◌∙◌, arith}
use Rattle.vs_design.specs.Initials.{initial_writes}
use Rattle.vs_flat.specs.DesignOf.{design_of}
use Rattle.vs_events.specs.Held.{Events, after_activate}
use Rattle.vs_events.specs.Beginning.{after_drives}
use Rattle.std.specs.List.{flat_map}
use Rattle.vs_design.specs.Initials.{initial_updates}
use Rattle.vs_queue.specs.Initially.{parts_of}
use Rattle.vs_queue.proofs.Executed.{on_ok}
use Rattle.vs_queue.proofs.Giving.{assigns_stay, have_begun}
use Rattle.vs_queue.proofs.machine.Machine.give_to.Goals as goal

pub drive_lates-requires-clause-values : goal.drive_lates-requires-clause-values
drive_lates-requires-clause-values c = let l = c.requires.values in let m = c.drive_firsts.auto.values in omega (arith, l, m)

pub drive_lates-requires-clause-held : goal.drive_lates-requires-clause-held
drive_lates-requires-clause-held c =
    let d = design_of c.args.self.now.typed.now in
    ap (λ (e : Events). length e.assigns) (c.activate.ensures ∙ ap after_activate c.in_ok-drive_firsts.ensures)
    ∙ ap (λ (fs : List Bool). length fs) (assigns_stay (parts_of c.args.owners.now (map initial_writes d.initials)) c.args.events.now) ∙ c.requires.held

pub returns : goal.returns
returns c =
    let d = design_of c.args.self.now.typed.now in
    let b = c.requires.machine.accepted in
    on_ok c.drive_lates.result c.drive_lates.ensures (λ h.
    have_begun d b.names b.accepted c.args.self.now.clocks.now.bits c.args.owners.now c.requires.owners c.args.events.now c.drive_firsts.new.events c.drive_lates.new.events c.in_ok-drive_firsts.ensures
    (h ∙ ap (λ (e : Events). after_drives e (parts_of c.args.owners.now (flat_map initial_updates d.initials))) c.activate.ensures))
