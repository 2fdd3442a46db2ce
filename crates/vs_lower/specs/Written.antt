-- What the lowering of the parts of a target needs and gives.
use Rattle.std.specs.Prelude.{◌≡◌, ℕ, ◌+◌, ◌*◌, ◌<◌, ◌≤◌, ◌^◌, true, List, [], ◌∷◌, ◌++◌, length, map, take, drop, All, sum_by, if◌then◌else◌}
use Rattle.std.specs.List.{flat_map}
use Rattle.vs_four.specs.Selects.{range_length}
use Rattle.vs_design.specs.Expressions.{Expression, width, sign, is_constant}
use Rattle.vs_design.specs.Values.{constant_value}
use Rattle.vs_design.specs.Statements.{Target, PartOf, WordOf, WordPartOf, Both, target_width}
use Rattle.vs_design.specs.Fits.{fits_target, is_fit}
use Rattle.vs_design.specs.Footprints.{target_bits}
use Rattle.vs_design.specs.Sizes.{weight, address_weight}
use Rattle.vs_design.specs.Within.{names_within, target_within}
use Rattle.vs_code.specs.Calls.{Call, length_of}
use Rattle.vs_values.specs.Added.{IsEnv, AreValues}
use Rattle.vs_values.specs.Coded.{Coding}
use Rattle.vs_values.specs.Constants.{AreConstant, constant_bits}
use Rattle.vs_values.specs.Templates.{Templated}
use Rattle.vs_values.specs.Valued.{AddsValue}
use Rattle.vs_lower.specs.Done.{index_values, IsWritten}
use Rattle.vs_lower.specs.declared.leaves.Leaf.{Leaf}
use Rattle.vs_lower.specs.Leaves.{leaf_target, IsInside}

-- the slots of the bits are known, and there is room for calls of this weight
pub record HasRoom (env : List ℕ) (code : Coding) (w : ℕ) : Type 0 where
  pub is_env : IsEnv env code.next
  pub light : w ≤ 16777216
  pub slots : code.next + w < 2 ^ 32
  pub few : length_of code.calls + w ≤ 2 ^ 32

-- ---- indices

-- the slots of an index: of a constant one they hold its value
pub record IsIndex (index : Expression) (ti : List ℕ) : Type 0 where
  pub long : length ti ≡ width index
  pub constant : is_constant index ≡ true → AreConstant ti
  pub fixed : is_constant index ≡ true → constant_bits ti ≡ constant_value index

-- of a part of a target that is no concatenation; a whole signal has no index
abbrev pub IsIndexed : Target → List ℕ → Type 0
IsIndexed (PartOf signal part index) ti = IsIndex index ti
IsIndexed (WordOf signal index) ti = IsIndex index ti
IsIndexed (WordPartOf signal address part index) ti = IsIndex address (take (width address) ti) × IsIndex index (drop (width address) ti)
IsIndexed target ti = Unit {0}

abbrev pub AreIndexed : List Target → List (List ℕ) → Type 0
AreIndexed [] [] = Unit {0}
AreIndexed (t ∷ ts) (ti ∷ tis) = IsIndexed t ti × AreIndexed ts tis
AreIndexed ts tis = ⊥

abbrev pub index_weight : Target → ℕ
index_weight (PartOf signal part index) = weight index (width index)
index_weight (WordOf signal index) = weight index (width index)
index_weight (WordPartOf signal address part index) = weight address (width address) + weight index (width index)
index_weight target = 0

-- what is added for these slots of a part's index
pub record AddsIndex (env : List ℕ) (old new : Coding) (target : Target) (ti : List ℕ) : Type 0 where
  pub calls : List Call
  pub is : new.calls ≡ old.calls ++ calls
  pub values : AreValues env old.next calls (ti ∷ []) new.next (index_weight target) (λ state. index_values target state)
  pub indexed : IsIndexed target ti

-- two expressions may be lowered, one after the other
pub record AreReady (env : List ℕ) (code : Coding) (address index : Expression) : Type 0 where
  pub address_fit : is_fit address ≡ true
  pub address_most : width address ≤ 64
  pub address_names : names_within (length env) address ≡ true
  pub index_fit : is_fit index ≡ true
  pub index_most : width index ≤ 64
  pub index_names : names_within (length env) index ≡ true
  pub room : HasRoom env code (weight address (width address) + weight index (width index))

-- and were: their slots, one after the other
pub record AddsBoth (env : List ℕ) (old new : Coding) (address index : Expression) (ti : List ℕ) : Type 0 where
  pub middle : Coding
  pub ta : List ℕ
  pub tb : List ℕ
  pub is : ti ≡ ta ++ tb
  pub first : AddsValue env old.calls old.next middle.calls middle.next address (width address) (sign address) ta
  pub second : AddsValue env middle.calls middle.next new.calls new.next index (width index) (sign index) tb

-- and for those of the indices of several parts
pub record AddsIndices (env : List ℕ) (old new : Coding) (targets : List Target) (tis : List (List ℕ)) : Type 0 where
  pub calls : List Call
  pub is : new.calls ≡ old.calls ++ calls
  pub values : AreValues env old.next calls tis new.next (sum_by index_weight targets) (λ state. flat_map (λ t. index_values t state) targets)
  pub indexed : AreIndexed targets tis

-- ---- writes

-- what the write of a part weighs besides its index
abbrev pub write_weight : Target → ℕ
write_weight (PartOf signal part index) = if is_constant index then 0 else part.width * (range_length part.range * (width index + 1))
write_weight (WordOf signal index) = if is_constant index then 0 else address_weight signal (width index)
write_weight (WordPartOf signal address part index) =
    (if is_constant address then 0 else address_weight signal (width address)) + (if is_constant index then 0 else part.width * (range_length part.range * (width index + 1)))
write_weight target = 0

-- what a call of the write of a value, in the slots `value`, to the parts of a target needs
pub record IsWriteReady (t : Templated) (env : List ℕ) (code : Coding) (leaves : List Leaf) (indices : List (List ℕ)) (value : List ℕ) : Type 0 where
  pub some : 1 ≤ length leaves
  pub inside : All (IsInside t) leaves
  pub names : All (λ leaf. target_within (length env) (leaf_target t.arena leaf) ≡ true) leaves
  pub fit : All (λ leaf. fits_target (leaf_target t.arena leaf) ≡ true) leaves
  pub room : HasRoom env code (sum_by write_weight (map (leaf_target t.arena) leaves))
  pub long : length value ≡ sum_by target_width (map (leaf_target t.arena) leaves)
  pub value_below : All (λ slot. slot < code.next) value
  pub indices_below : All (λ ti. All (λ slot. slot < code.next) ti) indices
  pub indexed : AreIndexed (map (leaf_target t.arena) leaves) indices

-- A part of a word whose address and index are both in slots that aren't all constants': the write reads the word, and weighs too little for a store more for each bit of the memory. Of concatenations nothing is said.
abbrev pub IsVariedPart : Target → List (List ℕ) → Type 0
IsVariedPart (WordPartOf signal address part index) (ti ∷ []) = (AreConstant (take (width address) ti) → ⊥) × (AreConstant (drop (width address) ti) → ⊥)
IsVariedPart (Both high low) tis = Unit {0}
IsVariedPart target tis = ⊥

-- what is added for the write of a value, in the slots `tv`, to a target whose indices are in the slots `tis`
pub record AddsWrites (env env_after : List ℕ) (old new : Coding) (target : Target) (tis : List (List ℕ)) (tv : List ℕ) (most : ℕ) : Type 0 where
  pub calls : List Call
  pub is : new.calls ≡ old.calls ++ calls
  pub written : IsWritten env old.next target tis tv most calls env_after new.next
  -- a store more for each bit of the target is no more than its length and this weight
  pub few : (IsVariedPart target tis → ⊥) → length_of calls + length (target_bits target) ≤ target_width target + most
