-- Numbers in groups, linked from one of a group to the next.
use Rattle.std.specs.Prelude.{◌≡◌, ◌≤◌, ◌<◌, ◌==◌, ℕ, suc, Bool, true, false, List, [], ◌∷◌, length, drop, slice_get, slice_index_or, Option, None, Some}

abbrev pub is_in : ℕ → Option ℕ → Bool
is_in group None = false
is_in group (Some g) = g == group

-- the first number in the group, where the first of these keys is that of number n; a key is a group, if there is one
unfoldable pub first_in : ℕ → ℕ → List (Option ℕ) → Option ℕ
first_in group n [] = None
first_in group n (key ∷ keys) = elim (is_in group key) [ true ↦ Some n | false ↦ first_in group (suc n) keys ]

-- of the numbers from `place` on, the first one of each of so many groups, and the next one of its group after each
pub record AreLinkedFrom (place groups : ℕ) (keys first next : List (Option ℕ)) : Type 0 where
  pub groups_long : length first ≡ groups
  pub numbers_long : length next ≡ length keys
  pub first_is : (g : ℕ) → g < groups → slice_index_or first g None ≡ first_in g place (drop place keys)
  pub next_is : (n g : ℕ) → place ≤ n → g < groups → slice_get keys n ≡ Some (Some g) → slice_index_or next n None ≡ first_in g (suc n) (drop (suc n) keys)

abbrev pub AreLinked : ℕ → List (Option ℕ) → List (Option ℕ) → List (Option ℕ) → Type 0
AreLinked groups keys first next = AreLinkedFrom 0 groups keys first next
