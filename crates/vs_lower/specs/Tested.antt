-- What the lowering of the tests of a case's arm needs and gives.
use Rattle.std.specs.Prelude.{◌≡◌, ℕ, ◌+◌, ◌<◌, ◌≤◌, ◌^◌, Bool, true, List, ◌++◌, length, All}
use Rattle.vs_four.specs.Logic.{BitList}
use Rattle.vs_net.specs.Network as N
use Rattle.vs_design.specs.Expressions.{Expression, items_of, width}
use Rattle.vs_design.specs.Fits.{is_fit}
use Rattle.vs_design.specs.Sizes.{items_weight}
use Rattle.vs_design.specs.Statements.{CaseKind}
use Rattle.vs_design.specs.Within.{names_within}
use Rattle.vs_code.specs.Calls.{Call, length_of}
use Rattle.vs_values.specs.Added.{IsEnv}
use Rattle.vs_values.specs.Coded.{Coding}
use Rattle.vs_lower.specs.Done.{IsCondition}
use Rattle.vs_lower.specs.Cases.{matches_of}

-- the items name bits that are there, they fit into the context that they share with the case's expression, whose slots these are, and there is room
pub record AreTestsReady (env subject : List ℕ) (code : Coding) (items : List Expression) (w : ℕ) : Type 0 where
  pub is_env : IsEnv env code.next
  pub long : length subject ≡ w
  pub below : All (λ slot. slot < code.next) subject
  pub some : 1 ≤ w
  pub at_most_64 : w ≤ 64
  pub fit : All (λ e. is_fit e ≡ true) items
  pub wide : All (λ e. width e ≤ w) items
  pub names : All (λ e. names_within (length env) e ≡ true) items
  pub light : items_weight (items_of items) w ≤ 16777216
  pub slots : code.next + items_weight (items_of items) w < 2 ^ 32
  pub few : length_of code.calls + items_weight (items_of items) w ≤ 2 ^ 32

-- what is added for the matches of these items, in whatever value the case's expression has
pub record AddsTests (env subject : List ℕ) (old new : Coding) (kind : CaseKind) (w : ℕ) (s : Bool) (items : List Expression) (ms : List ℕ) : Type 0 where
  pub calls : List Call
  pub is : new.calls ≡ old.calls ++ calls
  -- a store more for each item is no more than they weigh
  pub few : length_of calls + length items ≤ items_weight (items_of items) w
  pub condition : (sv : N.State → BitList) → IsCondition env subject sv old.next calls ms new.next (items_weight (items_of items) w) (λ state. matches_of kind w s (sv state) items state)
