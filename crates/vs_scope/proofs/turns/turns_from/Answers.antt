use Rattle.std.proofs.Common.{◌≡◌, ◌==◌, ◌<◌, ℕ, Bool, List, [], ◌∷◌, length, nat_le, Option, Some, None, refl, sym, subst}
use Rattle.std.specs.List.{list_any}
use Rattle.vs_ast.specs.Views as view
use Rattle.vs_elaborated.specs.Environments.{Env}
use Rattle.vs_scope.specs.Frames.{view_env}
use Rattle.vs_scope.specs.Turns.{IsTurned, turned}
use Rattle.vs_scope.proofs.TurnSteps.{IsTurning, whole, turns_left, turn_falls, turning_start, turning_more, turning_end}
use Rattle.vs_scope.proofs.turns.turns_from.Goals as goal

nothing : (xs : List ℕ) → length xs ≡ 0 → xs ≡ []
nothing [] h = refl
nothing (x ∷ xs) h = cc

pub loop-next-init : goal.loop-next-init
loop-next-init c =
    let head = view.loop_head c.args.head.now in
    let env = view_env c.args.here.now in
    let all = whole head c.args.is_same c.args.genvar env c.args.total c.args.first in
    let none : c.new-seen.result.keys ≡ [] = nothing c.new-seen.result.keys c.new-seen.ensures.len in
    subst (λ (x : List ℕ). IsTurning head c.args.is_same c.args.genvar env all x c.new-seen.result.keys None c.args.total (Some c.args.first)) (sym c.new-values.ensures.items)
    (subst (λ (x : List ℕ). IsTurning head c.args.is_same c.args.genvar env all [] x None c.args.total (Some c.args.first)) (sym none) (turning_start head c.args.is_same c.args.genvar env c.args.total c.args.first))

pub loop-next-preserved : goal.loop-next-preserved
loop-next-preserved c =
    let head = view.loop_head c.args.head.now in
    let env = view_env c.args.here.now in
    let all = whole head c.args.is_same c.args.genvar env c.args.total c.args.first in
    let again : Bool = list_any (λ (u : ℕ). c.in-Some.v == u) c.loop-next.seen.keys in
    let is_last : Bool = nat_le 4096 (length c.loop-next.values.items) in
    turning_more head c.args.is_same c.args.genvar env all c.loop-next.values.items c.loop-next.seen.keys c.one_turn.new.values.items c.one_turn.new.seen.keys c.loop-next.fault c.first_of-fault.result c.loop-next.count c.in-Some.v c.in_ok-t.t again is_last
    (subst (λ (x : Option ℕ). IsTurning head c.args.is_same c.args.genvar env all c.loop-next.values.items c.loop-next.seen.keys c.loop-next.fault c.loop-next.count x) c.in-Some.is c.loop-next.invariant)
    refl refl
    (subst (λ (x : Env). IsTurned c.in_ok-t.t (turned again is_last head c.args.is_same x c.loop-next.count)) c.inside_of-inside.ensures c.in_ok-t.ensures.turned)
    c.in_ok-t.ensures.values c.in_ok-t.ensures.seen c.first_of-fault.ensures

pub loop-next-smaller : goal.loop-next-smaller
loop-next-smaller c =
    let head = view.loop_head c.args.head.now in
    let again : Bool = list_any (λ (u : ℕ). c.in-Some.v == u) c.loop-next.seen.keys in
    let is_last : Bool = nat_le 4096 (length c.loop-next.values.items) in
    subst (λ (x : Option ℕ). turns_left (length c.one_turn.new.values.items) c.in_ok-t.t.next < turns_left (length c.loop-next.values.items) x) (sym c.in-Some.is)
    (turn_falls c.loop-next.values.items c.one_turn.new.values.items c.in-Some.v c.in_ok-t.t again is_last head c.args.is_same (view_env c.inside_of-inside.result) c.loop-next.count refl c.in_ok-t.ensures.turned c.in_ok-t.ensures.values)

pub returns : goal.returns
returns c =
    let head = view.loop_head c.args.head.now in
    let env = view_env c.args.here.now in
    let all = whole head c.args.is_same c.args.genvar env c.args.total c.args.first in
    let e = turning_end head c.args.is_same c.args.genvar env all c.loop-next.values.items c.loop-next.seen.keys c.loop-next.fault c.loop-next.count
    (subst (λ (x : Option ℕ). IsTurning head c.args.is_same c.args.genvar env all c.loop-next.values.items c.loop-next.seen.keys c.loop-next.fault c.loop-next.count x) c.in_default.is c.loop-next.invariant) in
    record { values = e.0; fault = e.1; count = e.2 }
