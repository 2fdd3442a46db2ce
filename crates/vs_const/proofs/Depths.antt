-- How deep calls nest, where an expression begins.
use Rattle.std.proofs.Common.{◌≡◌, ℕ, refl}
use Rattle.vs_design.specs.Expressions.{Expression}
use Rattle.vs_const.specs.CallDepths.{call_depth}
use Rattle.vs_const.specs.Typed.{begins_at}
use Rattle.vs_const.proofs.Formed.{begins_same}

-- where it begins is no matter
pub begins_depth : (place : ℕ) (e : Expression) → call_depth (begins_at place e) ≡ call_depth e
begins_depth place e = begins_same call_depth (λ p x. refl) place e
