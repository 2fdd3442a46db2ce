-- The signals of a scope come behind those of a design.
use Rattle.std.proofs.Common.{ℕ, ◌+◌, ◌<◌, ◌≤◌, ◌^◌, List, [], ◌∷◌, subst, sym, arith}
use Rattle.std.specs.Prelude.{sum_by}
use Rattle.std.proofs.lemmas.List.Sums.{sum_by-cons}
use Rattle.vs_design.specs.Expressions.{Signal, signal_length}
use Rattle.vs_elaborated.specs.Sound.{AreCounted}
use Rattle.vs_elab.specs.Opening.{Follow}

pub counted_follow : (scopes scope n b : ℕ) (ss : List Signal) → AreCounted scope n b ss → scope < scopes → b + sum_by signal_length ss ≤ 2 ^ 20 → Follow scopes n b ss
counted_follow scopes scope n b [] c h k = tt
counted_follow scopes scope n b (s ∷ ss) c h k =
    let e = sum_by-cons signal_length s ss in
    (c.0, c.1, subst (λ m. m < scopes) (sym c.2) h, omega (arith, e, k), counted_follow scopes scope (n + 1) (b + signal_length s) ss c.3 h (omega (arith, e, k)))
