use Rattle.std.proofs.Common.{◌<◌, ℕ, length, sym, ap, ap₂, ◌∙◌, subst}
use Rattle.vs_design.specs.Expressions.{Signal}
use Rattle.vs_events.specs.declared.listener.Change.{Change}
use Rattle.vs_events.specs.Wired.{after_listen}
use Rattle.vs_queue.proofs.Executed.{on_ok}
use Rattle.vs_queue.proofs.wires.listen_to_event.Goals as goal

pub listen-requires : goal.listen-requires
listen-requires c =
    subst (λ b. b < length c.args.wiring.now) (ap (λ (s : Signal). s.first) (c.trees_law.ensures.signals c.args.flat.now c.args.event.signal c.signal.result.now c.signal.ensures)) c.requires.there

pub returns : goal.returns
returns c =
    let first = ap (λ (s : Signal). s.first) (c.trees_law.ensures.signals c.args.flat.now c.args.event.signal c.signal.result.now c.signal.ensures) in
    on_ok c.listen.result c.listen.ensures (λ h.
    h ∙ ap₂ (λ (b : ℕ) (change : Change). after_listen c.args.wiring.now (record { bit = b; listener = record { process = c.args.p; change = change } })) (sym first) c.change_of-change.ensures)
