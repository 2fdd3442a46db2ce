-- What the lowering of an assignment needs and gives.
use Rattle.std.specs.Prelude.{◌≡◌, ◌⊎◌, ℕ, ◌+◌, ◌<◌, ◌≤◌, ◌^◌, max, Bool, true, List, [], ◌∷◌, ◌++◌, length, All, sum_by, if◌then◌else◌}
use Rattle.std.specs.List.{range_with_len}
use Rattle.vs_net.specs.Network as N
use Rattle.vs_design.specs.Expressions.{Expression, width}
use Rattle.vs_design.specs.Values.{assigned_value}
use Rattle.vs_design.specs.Statements.{Target, target_width}
use Rattle.vs_design.specs.Fits.{fits_target, is_fit}
use Rattle.vs_design.specs.Footprints.{read_bits}
use Rattle.vs_design.specs.Within.{names_within, target_within}
use Rattle.vs_design.specs.Sizes.{weight, target_weight}
use Rattle.vs_kern_logic.specs.declared.costs.Kernel.TheVariants as L
use Rattle.vs_code.specs.declared.kernels.AnyKernel.TheVariants.{Logic}
use Rattle.vs_code.specs.Calls.{Call, length_of}
use Rattle.vs_values.specs.Added.{IsEnv, AreValues}
use Rattle.vs_values.specs.Coded.{Coding, with_call}
use Rattle.vs_lower.specs.Done.{IsDone, index_values}
use Rattle.vs_lower.specs.Leaves.{leaves_of}
use Rattle.vs_values.specs.Made.{IsWithout}
use Rattle.vs_values.specs.Valued.{IsSource}
use Rattle.vs_lower.specs.Written.{AreIndexed, index_weight}

-- what is added for a right side: the slots of its value for a target of this length
pub record AddsAssigned (env : List ℕ) (old new : Coding) (e : Expression) (long : ℕ) (tv : List ℕ) : Type 0 where
  pub calls : List Call
  pub is : new.calls ≡ old.calls ++ calls
  pub values : AreValues env old.next calls (tv ∷ []) new.next (weight e (max (width e) long)) (λ state. assigned_value e long state ∷ [])
  pub wide : length tv ≡ long
  pub sources : All (IsSource env old.next (read_bits e)) tv

-- each is a constant's slot or a new one
abbrev pub AreNew : ℕ → List ℕ → Type 0
AreNew mark slots = All (λ slot. (slot < 4) ⊎ (mark ≤ slot)) slots

-- a value in slots that are no bit's: as it is, or copied
pub record IsCopied (mark long : ℕ) (value : List ℕ) (old new : Coding) (to : List ℕ) : Type 0 where
  pub others : AreNew mark value → ⊥
  pub call : new ≡ with_call old (Logic L.Copy) (value ∷ []) long
  pub are : to ≡ range_with_len old.next long

abbrev pub IsOwned : ℕ → ℕ → List ℕ → Coding → Coding → List ℕ → Type 0
IsOwned mark long value old new to = (AreNew mark value × IsWithout old new to value) ⊎ IsCopied mark long value old new to

-- the stores of an assignment: an update isn't copied
abbrev pub assign_most : Bool → Target → Expression → ℕ
assign_most later target e = (if later then 0 else target_width target) + (target_weight target + weight e (max (width e) (target_width target)))

abbrev pub operands_weight : Target → Expression → ℕ
operands_weight target e = sum_by index_weight (leaves_of target) + weight e (max (width e) (target_width target))

-- what is added for the slots of an assignment's value and of its target's indices
pub record AddsOperands (env : List ℕ) (old new : Coding) (target : Target) (e : Expression) (most : ℕ) (tis : List (List ℕ)) (tv : List ℕ) : Type 0 where
  pub calls : List Call
  pub is : new.calls ≡ old.calls ++ calls
  pub values : AreValues env old.next calls (tv ∷ tis) new.next most (λ state. assigned_value e (target_width target) state ∷ index_values target state)
  pub indexed : AreIndexed (leaves_of target) tis
  pub wide : length tv ≡ target_width target

-- what a call of the lowering of an assignment needs, where there are so many bits
pub record IsAssignReady (bits : ℕ) (now ahead : List ℕ) (code : Coding) (later : Bool) (target : Target) (e : Expression) : Type 0 where
  pub now_env : IsEnv now code.next
  pub later_env : IsEnv ahead code.next
  pub now_bits : length now ≡ bits
  pub later_bits : length ahead ≡ bits
  pub target_names : target_within bits target ≡ true
  pub names : names_within bits e ≡ true
  pub target_fits : fits_target target ≡ true
  pub fit : is_fit e ≡ true
  pub light : assign_most later target e ≤ 16777216
  pub slots : code.next + assign_most later target e < 2 ^ 32
  pub few : length_of code.calls + assign_most later target e ≤ 2 ^ 32

-- what is added for a run with these effects
pub record AddsRun (now ahead : List ℕ) (old new : Coding) (run : N.State → N.Effect) (at_once updated : List ℕ) (most : ℕ) (now_after ahead_after : List ℕ) : Type 0 where
  pub calls : List Call
  pub is : new.calls ≡ old.calls ++ calls
  pub done : IsDone now ahead [] (λ state. []) old.next run at_once updated most calls now_after ahead_after new.next
