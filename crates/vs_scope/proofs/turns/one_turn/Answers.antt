use Rattle.std.proofs.Common.{◌==◌, ℕ, Bool, true, false, not, List, length, nat_le, ◌≡◌, refl, ap, ◌∙◌, subst}
use Rattle.std.specs.List.{list_any}
use Rattle.vs_ast.specs.Views as view
use Rattle.vs_elaborated.specs.Limits.{the_limits}
use Rattle.vs_scope.specs.Frames.{view_env}
use Rattle.vs_scope.specs.Turns.{IsTurned, turned}
use Rattle.vs_scope.proofs.turns.one_turn.Goals as goal

not_not : (b : Bool) → not (not b) ≡ b
not_not true = refl
not_not false = refl

pub returns-clause-seen : goal.returns-clause-seen
returns-clause-seen c = c.in_ok-is_new.ensures.keys

pub returns-clause-values : goal.returns-clause-values
returns-clause-values c = c.in_ok-push_if.ensures

pub returns-clause-turned : goal.returns-clause-turned
returns-clause-turned c =
    let head = view.loop_head c.args.head.now in
    let env = view_env c.args.inside.now in
    let again : not c.in_ok-is_new.is_new ≡ list_any (λ (u : ℕ). c.args.v == u) c.args.seen.now.keys =
    ap not c.in_ok-is_new.ensures.added ∙ not_not (list_any (λ (u : ℕ). c.args.v == u) c.args.seen.now.keys) in
    let last : nat_le the_limits.turns (length c.as_slice.result.now) ≡ nat_le the_limits.turns (length c.args.values.now.items) =
    ap (λ (x : List ℕ). nat_le the_limits.turns (length x)) c.as_slice.ensures.value in
    subst (λ (a : Bool). IsTurned c.in_ok-t.t (turned a (nat_le the_limits.turns (length c.args.values.now.items)) head c.args.is_same env c.args.total)) again
    (subst (λ (l : Bool). IsTurned c.in_ok-t.t (turned (not c.in_ok-is_new.is_new) l head c.args.is_same env c.args.total)) last c.in_ok-t.ensures)
