-- How labels spread from a bit along assigns that copy it.
use Rattle.std.specs.Prelude.{◌≡◌, ℕ, ◌+◌, ◌*◌, ◌≤◌, Bool, true, false, ◌&&◌, ◌||◌, List, [], length, sum_by, slice_index_or, is_some, is_none, Option, Some, None}
use Rattle.vs_design.specs.Footprints.{contains}

abbrev pub targets_at : List (List ℕ) → ℕ → List ℕ
targets_at targets b = slice_index_or targets b []

abbrev pub label_at : List (Option ℕ) → ℕ → Option ℕ
label_at labels b = slice_index_or labels b None

abbrev pub has_label : List (Option ℕ) → ℕ → Bool
has_label labels b = is_some (label_at labels b)

-- the set has with each bit all that it is copied to
abbrev pub IsClosedSet : List (List ℕ) → (ℕ → Bool) → Type 0
IsClosedSet targets set = (b t : ℕ) → set b ≡ true → contains (targets_at targets b) t ≡ true → set t ≡ true

-- how many bits have no label
abbrev pub is_free : Option ℕ → ℕ
is_free None = 1
is_free (Some v) = 0

abbrev pub effort : List (Option ℕ) → List ℕ → ℕ
effort labels pending = 2 * sum_by is_free labels + length pending

-- these bits were labelled, those that had no label are pending now
pub record Labels (bits : List ℕ) (root : ℕ) (old new : List (Option ℕ)) (before after : List ℕ) : Type 0 where
  pub kept : (b v : ℕ) → label_at old b ≡ Some v → label_at new b ≡ Some v
  pub fresh : (b : ℕ) → label_at old b ≡ None → has_label new b ≡ true → (contains bits b ≡ true) × (label_at new b ≡ Some root)
  pub all : (b : ℕ) → contains bits b ≡ true → has_label new b ≡ true
  pub pending : (b : ℕ) → contains after b ≡ (contains before b || (is_none (label_at old b) && has_label new b))
  pub less : effort new after ≤ effort old before

-- the labels spread from the root; what the pending bits are copied to may have none yet
pub record Spreads (targets : List (List ℕ)) (root : ℕ) (old new : List (Option ℕ)) (pending : List ℕ) : Type 0 where
  pub kept : (b v : ℕ) → label_at old b ≡ Some v → label_at new b ≡ Some v
  pub fresh : (b v : ℕ) → label_at old b ≡ None → label_at new b ≡ Some v → v ≡ root
  pub rooted : has_label new root ≡ true
  pub reached : (set : ℕ → Bool) → IsClosedSet targets set → set root ≡ true → (b : ℕ) → label_at old b ≡ None → has_label new b ≡ true → set b ≡ true
  pub waiting : (b : ℕ) → contains pending b ≡ true → (label_at old b ≡ None) × (has_label new b ≡ true)
  pub closed : (b t : ℕ) → has_label new b ≡ true → contains pending b ≡ false → contains (targets_at targets b) t ≡ true → has_label new t ≡ true
