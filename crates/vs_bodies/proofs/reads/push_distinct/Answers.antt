use Rattle.std.proofs.Common.{Bool, [], ◌∷◌, ◌++◌, if◌then◌else◌, sym, ap, ◌∙◌}
use Rattle.vs_bodies.proofs.MentionSteps.{noted_again, noted_now}
use Rattle.vs_bodies.proofs.reads.push_distinct.Goals as goal

pub returns-then-is_in-clause-seen : goal.returns-then-is_in-clause-seen
returns-then-is_in-clause-seen c = λ n. noted_again c.args.seen.now c.args.signal.number n (sym c.is_in.ensures ∙ c.if-is_in.true)

pub returns-then-is_in-clause-signals : goal.returns-then-is_in-clause-signals
returns-then-is_in-clause-signals c =
    let ss = c.args.signals.now.items in
    sym (ap (λ (b : Bool). if b then ss else ss ++ c.args.signal ∷ []) (sym c.is_in.ensures ∙ c.if-is_in.true))

pub returns-clause-seen : goal.returns-clause-seen
returns-clause-seen c = λ n. noted_now c.args.seen.now c.add.new.self c.args.signal.number n tt (c.in_ok-add.ensures n)

pub returns-clause-signals : goal.returns-clause-signals
returns-clause-signals c =
    let ss = c.args.signals.now.items in
    c.in_ok-push.ensures.items ∙ sym (ap (λ (b : Bool). if b then ss else ss ++ c.args.signal ∷ []) (sym c.is_in.ensures ∙ c.if-is_in.false))
