-- Classes of signals as links: each signal links to itself or to an earlier one of its class.
use Rattle.std.specs.Prelude.{◌≡◌, ℕ, ◌<◌, ◌≤◌, List, length, slice_index}

abbrev pub LinkBack : List ℕ → Type 0
LinkBack links = (n : ℕ) → n < length links → slice_index links n ≤ n

-- a link leads to a signal of the same code, and one that links to itself has its number for a code
pub record AreLinks (code : ℕ → ℕ) (links : List ℕ) : Type 0 where
  pub same : (n : ℕ) → n < length links → code (slice_index links n) ≡ code n
  pub first : (n : ℕ) → n < length links → slice_index links n ≡ n → code n ≡ n

-- whatever the codes are that the links had, they have them still
abbrev pub KeepsLinks : List ℕ → List ℕ → Type 0
KeepsLinks old new = (code : ℕ → ℕ) → AreLinks code old → AreLinks code new
