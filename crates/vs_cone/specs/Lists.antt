-- Lists that have each number once.
use Rattle.std.specs.Prelude.{◌≡◌, ℕ, ◌<◌, ◌≤◌, true, List, length}
use Rattle.vs_design.specs.Footprints.{contains, ascending}
use Rattle.vs_design.specs.Sizes.{distinct}
use Rattle.vs_design.specs.Cycles.{AreApart}

-- the list has the numbers of another one, and each of them once
pub record HasEachOnce (all list : List ℕ) : Type 0 where
  pub has : (b : ℕ) → contains list b ≡ contains all b
  pub once : AreApart list

-- a list that has no number twice, and none but those of another one, is no longer than that has different numbers
abbrev pub FewAreApart : Type 0
FewAreApart = (all list : List ℕ) → AreApart list → ((b : ℕ) → contains list b ≡ true → contains all b ≡ true) → length list ≤ distinct all

-- the ascending list of numbers below a count has each of them once
abbrev pub AscendingIsOnce : Type 0
AscendingIsOnce = (count : ℕ) (all : List ℕ) → ((b : ℕ) → contains all b ≡ true → b < count) → HasEachOnce all (ascending count all)
