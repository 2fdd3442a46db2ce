use Rattle.std.proofs.Common.{◌<◌, ◌+◌, length, sym, ap, ◌∙◌, subst}
use Rattle.std.specs.List.{All, list_any}
use Rattle.vs_net.specs.Network.{Write}
use Rattle.vs_queue.specs.Initially.{owner, is_own_write}
use Rattle.vs_queue.proofs.Executed.{on_ok}
use Rattle.vs_queue.proofs.Giving.{all_drop, rest_is, owner_is, part_after, part_none}
use Rattle.vs_queue.proofs.starts.drive_part.Goals as goal

pub has_own-requires : goal.has_own-requires
has_own-requires c = subst (All (λ (w : Write). w.bit < length c.args.owners.now)) (sym (rest_is c.args.writes.now (c.args.n + 1))) (all_drop (λ (w : Write). w.bit < length c.args.owners.now) c.args.writes.now (c.args.n + 1) c.requires.inside)

pub drive-requires : goal.drive-requires
drive-requires c =
    let w = c.index-writes-n.result in
    let q = owner c.args.owners.now c.bit.result in
    let is = owner_is c.args.owners.now c.args.writes.now c.args.n c.bit.result w c.index-writes-n.is c.bit.ensures in
    subst (λ k. k < length c.args.events.now.assigns) (sym is) (c.requires.there c.args.n w c.requires.within)

pub returns-then-has_own-clause-driven : goal.returns-then-has_own-clause-driven
returns-then-has_own-clause-driven c =
    let w = c.index-writes-n.result in
    let q = owner c.args.owners.now c.bit.result in
    let is = owner_is c.args.owners.now c.args.writes.now c.args.n c.bit.result w c.index-writes-n.is c.bit.ensures in
    part_none c.args.owners.now c.args.writes.now c.args.events.now c.args.n q w c.requires.within is c.has_own.result (c.has_own.ensures ∙ ap (list_any (is_own_write c.args.owners.now q)) (rest_is c.args.writes.now (c.args.n + 1))) c.if-has_own.true

pub returns-clause-driven : goal.returns-clause-driven
returns-clause-driven c =
    let w = c.index-writes-n.result in
    let q = owner c.args.owners.now c.bit.result in
    let is = owner_is c.args.owners.now c.args.writes.now c.args.n c.bit.result w c.index-writes-n.is c.bit.ensures in
    on_ok c.drive.result c.drive.ensures (λ h.
    part_after c.args.owners.now c.args.writes.now c.args.events.now c.args.n q w c.requires.within is c.drive.new.self c.in_ok-own.own c.has_own.result (c.has_own.ensures ∙ ap (list_any (is_own_write c.args.owners.now q)) (rest_is c.args.writes.now (c.args.n + 1))) c.if-has_own.false c.in_ok-own.ensures h)
