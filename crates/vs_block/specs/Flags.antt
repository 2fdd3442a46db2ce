-- Flags of the bits that a block writes.
use Rattle.std.specs.Prelude.{◌≡◌, ◌<◌, ◌==◌, ℕ, Bool, true, false, not, ◌&&◌, ◌||◌, List, length, slice_index_or, if◌then◌else◌, Option, Some, None}
use Rattle.vs_design.specs.Footprints.{contains}

-- the bit of this number among those of the block
abbrev pub bit_at : List ℕ → ℕ → ℕ
bit_at own k = slice_index_or own k 0

-- its flag
abbrev pub is_set : List Bool → ℕ → Bool
is_set flags k = slice_index_or flags k false

-- where a bit stands among those of the block
abbrev pub is_at : Option ℕ → ℕ → Bool
is_at None k = false
is_at (Some j) k = k == j

abbrev pub IsThere : ℕ → Option ℕ → Type 0
IsThere n None = Unit {0}
IsThere n (Some j) = j < n

abbrev pub IsIndexOf : List ℕ → ℕ → Option ℕ → Type 0
IsIndexOf own bit o = (k : ℕ) → k < length own → (bit_at own k == bit) ≡ is_at o k

-- none has its flag
abbrev pub AreUnset : List ℕ → List Bool → Type 0
AreUnset own flags = (k : ℕ) → k < length own → is_set flags k ≡ false

-- these bits have this flag now, and all others the one that they had
abbrev pub AreSet : List ℕ → List ℕ → Bool → List Bool → List Bool → Type 0
AreSet own bits to before after = (k : ℕ) → k < length own → is_set after k ≡ (if contains bits (bit_at own k) then to else is_set before k)

-- of these bits those that aren't assigned are noted as read
abbrev pub AreNoted : List ℕ → List ℕ → List Bool → List Bool → List Bool → Type 0
AreNoted own bits assigned before after = (k : ℕ) → k < length own → is_set after k ≡ (is_set before k || (contains bits (bit_at own k) && not (is_set assigned k)))

-- of the bits those that have this flag
abbrev pub AreFlagged : List ℕ → List ℕ → List Bool → Bool → List ℕ → Type 0
AreFlagged own bits flags flag found = (k : ℕ) → k < length own → contains found (bit_at own k) ≡ (contains bits (bit_at own k) && (if flag then is_set flags k else not (is_set flags k)))

-- the bits of the second list that are assigned or in the first one
abbrev pub AreShared : List ℕ → List ℕ → List ℕ → List Bool → List ℕ → Type 0
AreShared own first second assigned found = (k : ℕ) → k < length own → contains found (bit_at own k) ≡ (contains second (bit_at own k) && (is_set assigned k || contains first (bit_at own k)))

-- none of these is assigned
abbrev pub AreFresh : List ℕ → List Bool → List ℕ → Type 0
AreFresh own assigned found = (k : ℕ) → k < length own → contains found (bit_at own k) ≡ true → is_set assigned k ≡ false
