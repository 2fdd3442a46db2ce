use Rattle.std.proofs.Common.{◌==◌, ◌||◌, ◌&&◌, Bool, is_some, sym, ap, ◌∙◌}
use Rattle.vs_maps.specs.Places.{found_at}
use Rattle.vs_maps.specs.PlaceViews.{placed}
use Rattle.vs_bodies.proofs.MentionSteps.{noted_not, noted_now}
use Rattle.vs_bodies.proofs.reads.note_named.Goals as goal

pub returns-in_ok-add : goal.returns-in_ok-add
returns-in_ok-add c = λ n.
    let m = c.args.m.now in
    let old = is_some (found_at n (placed c.args.named.now)) in
    noted_now c.args.named.now c.add.new.self m.signal.number n tt (c.in_ok-add.ensures n) ∙ ap (λ (b : Bool). old || (b && (m.signal.number == n))) (sym (sym c.is_outside.ensures ∙ c.if-is_outside.true))

pub returns-else-is_outside : goal.returns-else-is_outside
returns-else-is_outside c = λ n.
    let m = c.args.m.now in
    let old = is_some (found_at n (placed c.args.named.now)) in
    noted_not old (m.signal.number == n) ∙ ap (λ (b : Bool). old || (b && (m.signal.number == n))) (sym (sym c.is_outside.ensures ∙ c.if-is_outside.false))
