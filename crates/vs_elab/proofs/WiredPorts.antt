-- The ports of an instance that is connected without a fault can be built.
use Rattle.std.proofs.Common.{◌≡◌, ℕ, ◌+◌, Bool, true, false, List, [], ◌∷◌, ◌++◌, length, length-append, Option, Some, None, refl, ap, ◌∙◌, subst, arith}
use Rattle.vs_design.specs.Designs.{Design}
use Rattle.vs_grammar.specs.Trees as tree
use Rattle.vs_grammar.specs.Trees.{expr_place}
use Rattle.vs_grammar.specs.Shapes.{Each}
use Rattle.vs_ast.specs.Views as view
use Rattle.vs_const.specs.declared.faults.Fault.{Fault}
use Rattle.vs_const.specs.Faults.{fault}
use Rattle.vs_const.specs.declared.rules.Rule.{Rule}
use Rattle.vs_const.specs.declared.rules.Rule.TheVariants.{WrongKind}
use Rattle.vs_const.specs.Sound.{AreSound}
use Rattle.vs_elaborated.specs.Numbers.{AreNumbered}
use Rattle.vs_const.specs.Expressions.{typed}
use Rattle.vs_elaborated.specs.Environments.{Entry, Env, named}
use Rattle.vs_elaborated.specs.Targets.{as_target}
use Rattle.vs_elaborated.specs.Instances.{directed, output_target, connection_name}
use Rattle.vs_elaborated.specs.Pieces as pieces
use Rattle.vs_elaborated.specs.Sound.{MeansSignal}
use Rattle.vs_items.specs.declared.connections.Connection.{Connection}
use Rattle.vs_items.specs.Connections.{said, said_one}
use Rattle.vs_items.specs.Fine.{IsFineConnected}
use Rattle.vs_elab.specs.Wiring.{AreWirable}
use Rattle.vs_elab.proofs.WirablePorts.{wirable}

-- ---- each connection is one

-- one connection of this name
pub record IsOne (name : List ℕ) (cs : List pieces.Connection) : Type 0 where
  pub one : pieces.Connection
  pub is : cs ≡ one ∷ []
  pub name_is : connection_name one ≡ name

fault_some : (n : Rule) (place : ℕ) (fs : List Fault) → (let all : List Fault = fault n place ++ fs in all) ≡ [] → ⊥
fault_some n place fs h = cc

output_one : (name : List ℕ) (e : tree.Expr) (env : Env) (t : Option tree.Target) → (output_target name e env t).faults ≡ [] → IsOne name (output_target name e env t).connections
output_one name e env None h = absurd (fault_some WrongKind (expr_place e) (typed e (named env) false).faults h)
output_one name e env (Some t) h = record { one = _; is = refl; name_is = refl }

directed_one : (name : List ℕ) (b : Bool) (e : tree.Expr) (env : Env) → (directed name (Some b) e env).faults ≡ [] → IsOne name (directed name (Some b) e env).connections
directed_one name true e env h = record { one = _; is = refl; name_is = refl }
directed_one name false e env h = output_one name e env (as_target e) h

said_is_one : (env : Env) (c : Connection) → IsFineConnected env c → IsOne c.name.now (said_one env c)
said_is_one env c h = directed_one c.name.now c.input (view.expr c.e.now) env h.clean

-- as many are said as there are
pub said_count : (env : Env) (cs : List Connection) → Each (IsFineConnected env) cs → length (said env cs) ≡ length cs
said_count env [] h = refl
said_count env (c ∷ cs) h =
    let o = said_is_one env c h.0 in
    length-append (said_one env c) (said env cs) ∙ ap (λ (xs : List pieces.Connection). length xs + length (said env cs)) o.is ∙ ap (λ n. 1 + n) (said_count env cs h.1) ∙ omega arith

-- ---- they can be built

first_means : (P : pieces.Connection → Type 0) (one : pieces.Connection) (xs ys : List pieces.Connection) → xs ≡ one ∷ [] → Each P (xs ++ ys) → P one × Each P ys
first_means P one xs ys e h = subst (λ (zs : List pieces.Connection). Each P (zs ++ ys)) e h

pub wired : (d : Design) (env : Env) (es : List Entry) (cs : List Connection) → AreSound d false (named env) → AreNumbered d (named env) → Each (IsFineConnected env) cs
    → Each (λ (c : pieces.Connection). MeansSignal d es (connection_name c)) (said env cs) → AreWirable d (named env) es cs
wired d env es [] s k h m = tt
wired d env es (c ∷ cs) s k h m =
    let o = said_is_one env c h.0 in
    let r = first_means (λ (x : pieces.Connection). MeansSignal d es (connection_name x)) o.one (said_one env c) (said env cs) o.is m in (
      wirable d env es c s k h.0.shaped (omega (arith, h.0.shallow)) h.0.clean (subst (λ (name : List ℕ). MeansSignal d es name) o.name_is r.0),
      wired d env es cs s k h.1 r.1,
    )
