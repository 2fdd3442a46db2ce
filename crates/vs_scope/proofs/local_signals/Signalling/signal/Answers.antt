use Rattle.std.proofs.Common.{◌≡◌, ◌&&◌, Bool, sym, ap, ◌∙◌}
use Rattle.vs_elaborated.specs.Functions as spec
use Rattle.vs_scope.specs.Frames.{view_env}
use Rattle.vs_scope.specs.Locals.{local, local_start}
use Rattle.vs_scope.specs.Signalled.{Placed}
use Rattle.vs_scope.proofs.LocalLists.{signed_one}
use Rattle.vs_scope.proofs.local_signals.Signalling.signal.Goals.{then-self, else-self}
use Rattle.vs_scope.proofs.local_signals.Signalling.signal.Goals as goal

pub returns-clause-signed : goal.returns-clause-signed
returns-clause-signed c =
    let old = c.args.self.now in
    let one = c.in_ok-one.one in
    let s = spec.local_signal (view_env c.args.here.now) (local_start old.next) c.args.role c.args.input (local c.args.v) in
    let known : c.if-self.self ≡ (old.known && one.signal.known) = elim c.if-self.branch [
      | then-self w ↦ w.self-is ∙ sym (ap (λ (b : Bool). b && one.signal.known) w.if-self.true)
      | else-self w ↦ w.self-is ∙ w.if-self.false ∙ sym (ap (λ (b : Bool). b && one.signal.known) w.if-self.false)
    ] in
    signed_one old _ one s c.in_ok-one.ensures c.in_ok-push.ensures.items (c.in_ok-self.ensures s (ap (λ (p : Placed). p.meaning) c.in_ok-one.ensures.placed_is)) c.first_of-self.ensures known
