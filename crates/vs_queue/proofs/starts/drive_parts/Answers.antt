use Rattle.std.proofs.Common.{◌<◌, List, Bool, length, refl, sym, ap, ◌∙◌, subst}
use Rattle.std.specs.List.{All}
use Rattle.std.proofs.lemmas.List.{drop_all}
use Rattle.vs_net.specs.Network.{Write}
use Rattle.vs_events.specs.Beginning.{after_drives}
use Rattle.vs_queue.specs.Initially.{owner, parts}
use Rattle.vs_queue.proofs.starts.drive_parts.Goals as goal

pub loop-n-init : goal.loop-n-init
loop-n-init c = (refl, refl)

pub drive_part-requires-clause-there : goal.drive_part-requires-clause-there
drive_part-requires-clause-there c = subst (λ (flags : List Bool). All (λ (w : Write). owner c.args.owners.now w.bit < length flags) c.args.writes.now) (sym c.loop-n.invariant.0) c.requires.there

pub loop-n-preserved : goal.loop-n-preserved
loop-n-preserved c = (c.in_ok-drive_part.ensures.assigns ∙ c.loop-n.invariant.0, c.in_ok-drive_part.ensures.driven ∙ c.loop-n.invariant.1)

pub returns : goal.returns
returns c = ap (λ (ws : List Write). after_drives c.loop-n.events (parts c.args.owners.now c.args.writes.now ws)) (sym (drop_all c.loop-n.n c.args.writes.now c.loop-n-test.false)) ∙ c.loop-n.invariant.1
