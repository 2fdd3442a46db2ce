-- A run of the queue in level order: the order in which a levelised simulator evaluates.
use Rattle.std.specs.Prelude.{ℕ, zero, suc, Bool, true, false, List, [], ◌∷◌, ◌++◌, map, if◌then◌else◌}
use Rattle.std.specs.List.{list_any}
use Rattle.vs_net.specs.Network.{Network, Kind, AnAssign, AComb, AClocked, kind, made, Update}
use Rattle.vs_net.specs.Queue.{Mode, Unstarted, Due, Queue, Slot, Choice, Start, Evaluate, Apply, Run, Take, Activate, Next, after, is_held}

-- the queue after these steps
abbrev pub after_all : Network → Queue → List Choice → Queue
after_all n q [] = q
after_all n q (c ∷ cs) = after_all n (after n q c) cs

-- the steps of one process after another, each on what those before it left
abbrev pub each_in : (Queue → ℕ → List Choice) → Network → Queue → List ℕ → List Choice
each_in turn n q [] = []
each_in turn n q (p ∷ ps) = turn q p ++ each_in turn n (after_all n q (turn q p)) ps

-- 0 to count - 1
abbrev pub below : ℕ → List ℕ
below zero = []
below (suc k) = below k ++ k ∷ []

-- a block that hasn't been started is
abbrev pub starting : Mode → ℕ → List Choice
starting Unstarted p = Start p ∷ []
starting _ p = []

-- a due assign is evaluated, and applied where it has a value to write; a due combinational block is run
abbrev pub settling : Mode → Kind → Bool → ℕ → List Choice
settling Due AnAssign held p = Evaluate p ∷ (if held then [] else Apply p ∷ [])
settling Due AComb held p = Run p ∷ []
settling _ _ _ p = []

-- a due clocked block is run
abbrev pub running : Mode → Kind → ℕ → List Choice
running Due AClocked p = Run p ∷ []
running _ _ p = []

abbrev pub is_empty : List Update → Bool
is_empty [] = true
is_empty _ = false

-- The parts of a slot: the next slot begins, each block starts, a pass over the level order, the activation, the active updates, the due clocked blocks. A pass after these settles what they write at once.
-- Starts, updates and runs go by number: in the network of a design the inputs have the last numbers, so the updates of its clocked blocks come before theirs.
pub data Sweep : Type 0 where
  Begins Starts Pass Activates Takes Runs : Sweep

-- the steps of one part, on this queue
abbrev pub sweep : Network → List ℕ → Queue → Sweep → List Choice
sweep n order q Begins = Next ∷ []
sweep n order q Starts = each_in (λ r p. starting (r.mode p) p) n q (below n.count)
sweep n order q Pass = each_in (λ r p. settling (r.mode p) (kind (n.process p)) (is_held r.now (made (n.process p) r.now)) p) n q order
sweep n order q Activates = if list_any (λ p. if is_empty (q.waiting p) then false else true) (below n.count) then Activate ∷ [] else []
sweep n order q Takes = each_in (λ r p. map (λ u. Take p) (r.active p)) n q (below n.count)
sweep n order q Runs = each_in (λ r p. running (r.mode p) (kind (n.process p)) p) n q (below n.count)

-- the steps of these parts, one after the other
abbrev pub sweeps : Network → List ℕ → Queue → List Sweep → List Choice
sweeps n order q [] = []
sweeps n order q (s ∷ ss) = sweep n order q s ++ sweeps n order (after_all n q (sweep n order q s)) ss

-- the slots after slot 0
abbrev pub slot_sweeps : List Slot → List Sweep
slot_sweeps [] = []
slot_sweeps (slot ∷ slots) = Begins ∷ Activates ∷ Takes ∷ Pass ∷ Runs ∷ Pass ∷ Activates ∷ Takes ∷ Pass ∷ slot_sweeps slots

-- the whole run: slot 0, where initial processes write first, and then the others
abbrev pub level_run : Network → List ℕ → Queue → List Choice
level_run n order q = sweeps n order q (Starts ∷ Takes ∷ Pass ∷ Activates ∷ Takes ∷ Pass ∷ Runs ∷ Pass ∷ Activates ∷ Takes ∷ Pass ∷ slot_sweeps q.slots)
