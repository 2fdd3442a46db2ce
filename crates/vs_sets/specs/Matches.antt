-- Whether an arm of a case may be taken.
use Rattle.std.specs.Prelude.{◌≡◌, ℕ, zero, suc, Bool, List, [], ◌∷◌, map, nat_le, Option, Some, ◌⊎◌, slice_get}
use Rattle.std.specs.List.{list_all}
use Rattle.vs_design.specs.Expressions.{Expression, width}
use Rattle.vs_design.specs.Statements.{Statement}
use Rattle.vs_design.specs.Sleepers.{at_once}
use Rattle.vs_flat.specs.declared.statements.Arm.{Arm}
use Rattle.vs_flat.specs.Trees.{branch}

-- each expression has at most so many bits
abbrev pub are_within : ℕ → List Expression → Bool
are_within w es = list_all (λ e. nat_le (width e) w) es

-- the branches with these numbers, by what the statements are, each `<=` taken as a `=`
abbrev pub branches_of : (ℕ → Statement) → List (Option ℕ) → List Statement
branches_of st bs = map (λ b. at_once (branch st b)) bs

-- the items of arm k
abbrev pub items_at : List Arm → ℕ → List ℕ
items_at [] k = []
items_at (arm ∷ arms) zero = arm.items
items_at (arm ∷ arms) (suc k) = items_at arms k

-- the branch is that of an arm, or the other one
abbrev pub IsOneOf : List Arm → Option ℕ → Option ℕ → Type 0
IsOneOf arms other b = (b ≡ other) ⊎ ((k : ℕ) × (arm : Arm) × (slice_get arms k ≡ Some arm) × (b ≡ Some arm.statement))

abbrev pub IsEither : ℕ → Option ℕ → Option ℕ → Type 0
IsEither taken other b = (b ≡ Some taken) ⊎ (b ≡ other)
