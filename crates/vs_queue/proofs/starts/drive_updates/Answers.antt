use Rattle.std.proofs.Common.{◌<◌, List, Bool, length, refl, sym, ap, ◌∙◌, subst}
use Rattle.std.specs.List.{All}
use Rattle.std.proofs.lemmas.List.{drop_all}
use Rattle.vs_net.specs.Network.{Write, Update}
use Rattle.vs_events.specs.Held.{Events}
use Rattle.vs_events.specs.Beginning.{after_drives}
use Rattle.vs_queue.specs.Initially.{owner, parts, parts_of}
use Rattle.vs_queue.proofs.Giving.{assigns_stay, updates_next}
use Rattle.vs_queue.proofs.starts.drive_updates.Goals as goal

pub loop-update-init : goal.loop-update-init
loop-update-init c = (refl, refl)

pub drive_parts-requires-clause-inside : goal.drive_parts-requires-clause-inside
drive_parts-requires-clause-inside c =
    let u = c.update-item.result in
    subst (All (λ (w : Write). w.bit < length c.args.owners.now)) (sym (c.as_slice.ensures ∙ c.update-item.is)) (c.requires.inside c.loop-update.update-index u c.loop-update-test.true)

pub drive_parts-requires-clause-there : goal.drive_parts-requires-clause-there
drive_parts-requires-clause-there c =
    let u = c.update-item.result in
    subst (λ (flags : List Bool). All (λ (w : Write). owner c.args.owners.now w.bit < length flags) c.as_slice.result.now) (sym c.loop-update.invariant.0)
    (subst (All (λ (w : Write). owner c.args.owners.now w.bit < length c.args.events.now.assigns)) (sym (c.as_slice.ensures ∙ c.update-item.is)) (c.requires.there c.loop-update.update-index u c.loop-update-test.true))

pub loop-update-preserved : goal.loop-update-preserved
loop-update-preserved c =
    let owners = c.args.owners.now in
    let u = c.update-item.result in (
      ap (λ (e : Events). e.assigns) c.in_ok-drive_parts.ensures ∙ assigns_stay (parts owners c.as_slice.result.now c.as_slice.result.now) c.loop-update.events ∙ c.loop-update.invariant.0,
      updates_next owners c.args.updates.now c.loop-update.update-index u c.loop-update.events c.drive_parts.new.events _ c.update-item.is c.loop-update-test.true
          (c.in_ok-drive_parts.ensures ∙ ap (λ (ws : List Write). after_drives c.loop-update.events (parts owners ws ws)) c.as_slice.ensures) c.loop-update.invariant.1,
    )

pub returns : goal.returns
returns c = ap (λ (us : List Update). after_drives c.loop-update.events (parts_of c.args.owners.now us)) (sym (drop_all c.loop-update.update-index c.args.updates.now c.loop-update-test.false)) ∙ c.loop-update.invariant.1
