-- What the code finds of a generate case (IEEE 1364-2005, 12.4.2).
use Rattle.std.specs.Prelude.{◌≡◌, ◌≤◌, ℕ, Bool, true, false, ◌&&◌, List, ◌++◌, min, flat_map}
use Rattle.std.specs.List.{list_any, list_all}
use Rattle.vs_four.specs.Logic.{BitList}
use Rattle.vs_grammar.specs.Trees as tree
use Rattle.vs_grammar.specs.Shapes.{Each, IsExpr}
use Rattle.vs_const.specs.declared.faults.Fault.{Fault}
use Rattle.vs_const.specs.Faults.{least}
use Rattle.vs_const.specs.Expressions.{constant, is_clean}
use Rattle.vs_elaborated.specs.Environments.{Env, named}
use Rattle.vs_elaborated.specs.Constructs as spec
use Rattle.vs_elaborated.specs.Constructs.{Label, length_or_none, widest, all_signed, own_unknown, unknown_in, in_context, same_bits, arm_of, no_case, label_of}
use Rattle.vs_scope.specs.declared.cases.Labels.{Labels}
use Rattle.vs_scope.specs.declared.cases.SaidCase.{SaidCase}

-- the faults of all labels
abbrev pub label_faults : List Label → List Fault
label_faults ls = flat_map (λ (l : Label). l.typed.faults) ls

-- those of them with x or z by themselves
abbrev pub own_faults : List Label → List Fault
own_faults ls = flat_map own_unknown ls

-- whether all have values
abbrev pub all_good : List Label → Bool
all_good ls = list_all (λ (l : Label). l.typed.good) ls

-- what is kept of labels
pub record AreLabels (c : Labels) (ls : List Label) : Type 0 where
  pub good : c.good ≡ all_good ls
  pub width : c.width ≡ min 65 (widest ls)
  pub signed : c.signed ≡ all_signed ls
  pub fault : c.fault ≡ least (label_faults ls)
  pub unknown : c.unknown ≡ least (own_faults ls)

-- a constant with a value of at most this length
pub record IsFit (w : ℕ) (env : Env) (e : tree.Expr) : Type 0 where
  pub shaped : IsExpr e
  pub good : (constant e (named env)).good ≡ true
  pub fits : length_or_none (constant e (named env)).length ≤ w

-- of all labels of arms
abbrev pub AreFitArms : ℕ → Env → tree.GenerateArms → Type 0
AreFitArms w env tree.NoGenerateArm = Unit {0}
AreFitArms w env (tree.AndGenerateArm labels block rest) = Each (IsFit w env) labels × AreFitArms w env rest

-- whether one of these labels has a value
abbrev pub has_value : (BitList → Bool) → ℕ → Bool → Env → List tree.Expr → Bool
has_value is_value w s env es = list_any (λ e. is_value (in_context w s (constant e (named env)))) es

-- a case whose expression and labels all have values
abbrev pub good_case : Env → tree.Expr → tree.GenerateArms → List Label → spec.SaidCase
good_case env subject arms ls =
    let w = widest ls in
    let s = all_signed ls in
    let faults = label_faults ls ++ own_faults ls in
    elim (is_clean (own_faults ls) && is_clean (flat_map (unknown_in w s) ls)) [
      | true ↦ record { defined = true; arm = arm_of (same_bits (in_context w s (label_of env subject).typed)) w s env arms; faults = faults }
      | false ↦ no_case (faults ++ flat_map (unknown_in w s) ls)
    ]

-- which arm is taken
pub record IsSaidCase (c : SaidCase) (s : spec.SaidCase) : Type 0 where
  pub defined : c.defined ≡ s.defined
  pub arm : c.arm ≡ s.arm
  pub fault : c.fault ≡ least s.faults
