-- The bits whose slots differ after the branches of an `if`.
use Rattle.std.specs.Prelude.{◌≡◌, ◌⊎◌, ℕ, ◌==◌, List, [], ◌∷◌, map, length, slice_index, if◌then◌else◌, Some}
use Rattle.std.specs.List.{range_with_len}
use Rattle.vs_kern_select.specs.declared.costs.Kernel.TheVariants as S
use Rattle.vs_code.specs.declared.kernels.AnyKernel.TheVariants.{Select}
use Rattle.vs_values.specs.Coded.{Coding, with_call}
use Rattle.vs_values.specs.Environments.{placed}
use Rattle.vs_values.specs.Made.{IsCallable}

-- those of these bits whose slots in the first list aren't those of the environment
abbrev pub differing_bits : List ℕ → List ℕ → List ℕ → List ℕ
differing_bits [] first env = []
differing_bits (b ∷ bs) [] env = []
differing_bits (b ∷ bs) (t ∷ ts) env = if t == slice_index env b then differing_bits bs ts env else (b ∷ differing_bits bs ts env)

-- and those slots
abbrev pub differing_slots : List ℕ → List ℕ → List ℕ → List ℕ
differing_slots [] first env = []
differing_slots (b ∷ bs) [] env = []
differing_slots (b ∷ bs) (t ∷ ts) env = if t == slice_index env b then differing_slots bs ts env else (t ∷ differing_slots bs ts env)

-- the arguments of the join: the condition, the slots after the first branch, and those after the other one
abbrev pub join_args : List ℕ → List ℕ → List ℕ → List ℕ → List (List ℕ)
join_args condition bits first env = condition ∷ differing_slots bits first env ∷ map (slice_index env) (differing_bits bits first env) ∷ []

pub record IsJoinCalled (condition bits first env after : List ℕ) (old new : Coding) : Type 0 where
  pub some : differing_bits bits first env ≡ [] → ⊥
  pub call : new ≡ with_call old (Select S.Branch) (join_args condition bits first env) (length (differing_bits bits first env))
  pub slots : after ≡ placed env (map Some (differing_bits bits first env)) (range_with_len old.next (length (differing_bits bits first env)))

pub record IsNotJoined (bits first env after : List ℕ) (old new : Coding) : Type 0 where
  pub none : differing_bits bits first env ≡ []
  pub same : new ≡ old
  pub slots : after ≡ env

abbrev pub IsJoined : List ℕ → List ℕ → List ℕ → List ℕ → List ℕ → Coding → Coding → Type 0
IsJoined condition bits first env after old new = IsNotJoined bits first env after old new ⊎ IsJoinCalled condition bits first env after old new

-- where some differ, the join may be called
abbrev pub IsJoinable : List ℕ → List ℕ → List ℕ → List ℕ → Coding → Type 0
IsJoinable condition bits first env code = (differing_bits bits first env ≡ [] → ⊥) → IsCallable code (Select S.Branch) (join_args condition bits first env) (length (differing_bits bits first env))

-- ---- in both environments: first in that of the values now, and then in that of the values ahead

pub record AreJoinable (condition bits first_now first_later now later : List ℕ) (code : Coding) : Type 0 where
  pub now_call : IsJoinable condition bits first_now now code
  pub later_call : (now_after : List ℕ) (mid : Coding) → IsJoined condition bits first_now now now_after code mid → IsJoinable condition bits first_later later mid

pub record AreJoined (condition bits first_now first_later now later now_after later_after : List ℕ) (old new : Coding) : Type 0 where
  pub mid : Coding
  pub now_joined : IsJoined condition bits first_now now now_after old mid
  pub later_joined : IsJoined condition bits first_later later later_after mid new
