-- A cycle of assigns and combinational blocks: the rule Cycle.
use Rattle.std.specs.Prelude.{◌≡◌, ℕ, ◌≤◌, true, false, List, [], ◌∷◌, slice_get, Some, ◌++◌, ◌↔◌}
use Rattle.vs_design.specs.Designs.{Process, is_clocked, Design}
use Rattle.vs_design.specs.Footprints.{contains}
use Rattle.vs_design.specs.Levels.{feeds, is_level_order, has_no_cycle}

-- p and q are assigns or combinational blocks of the design, and p writes a bit that q reads or waits on
pub record Feeds (d : Design) (p q : ℕ) : Type 0 where
  pub from : Process
  pub to : Process
  pub from_is : slice_get d.processes p ≡ Some from
  pub to_is : slice_get d.processes q ≡ Some to
  pub from_settles : is_clocked from ≡ false
  pub to_settles : is_clocked to ≡ false
  pub fed : feeds from to ≡ true

-- each feeds the next one, and the last one this
abbrev pub IsChain : Design → List ℕ → ℕ → Type 0
IsChain d [] last = Unit {0}
IsChain d (p ∷ []) last = Feeds d p last
IsChain d (p ∷ q ∷ ps) last = Feeds d p q × IsChain d (q ∷ ps) last

-- no process is there twice
abbrev pub AreApart : List ℕ → Type 0
AreApart [] = Unit {0}
AreApart (p ∷ ps) = (contains ps p ≡ false) × AreApart ps

abbrev pub AreAtLeast : ℕ → List ℕ → Type 0
AreAtLeast first [] = Unit {0}
AreAtLeast first (p ∷ ps) = (first ≤ p) × AreAtLeast first ps

-- the rule Cycle: the list isn't empty and has no process twice, each writes a bit that the next one reads or waits on, the last one for the first, and the least comes first
abbrev pub IsCycle : Design → List ℕ → Type 0
IsCycle d [] = ⊥
IsCycle d (p ∷ ps) = IsChain d (p ∷ ps) p × AreApart (p ∷ ps) × AreAtLeast p ps

-- where the computed level order isn't one there is a cycle, and where there is any level order there is none
pub record IsDecided (d : Design) : Type 0 where
  pub found : has_no_cycle d ≡ false → (ps : List ℕ) × IsCycle d ps
  pub none : (order : List ℕ) → is_level_order d order ≡ true → (ps : List ℕ) → IsCycle d ps → ⊥

-- a level order has each assign and combinational block once, and nothing else, and each stands after all that feed it
pub record IsOrder (d : Design) (order : List ℕ) : Type 0 where
  pub once : AreApart order
  pub members : (p : ℕ) → (contains order p ≡ true) ↔ ((process : Process) × (slice_get d.processes p ≡ Some process) × (is_clocked process ≡ false))
  pub after : (earlier : List ℕ) (p : ℕ) (later : List ℕ) → order ≡ earlier ++ p ∷ later → (q : ℕ) → Feeds d q p → contains earlier q ≡ true
