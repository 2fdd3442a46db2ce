-- The theorems on all runs of a lawful network.
use Rattle.std.specs.Prelude.{◌≡◌, ◌≤◌, ℕ, Bool, true, false, not, ◌||◌, ◌==◌, ◌↔◌, List, [], ◌∷◌, ◌++◌, length, Some}
use Rattle.std.specs.List.{list_any}
use Rattle.vs_net.specs.Network.{Reset, reset_of, Sleeper, State, write_all, Network, AnInput, kind, writes, made}
use Rattle.vs_net.specs.Queue.{Slot, Fall, Rise, Choice, Run, Next, start, slots_of, IsFirst, IsCompleted, ends}
use Rattle.vs_net.specs.Solution.{all_x, beginning, IsSolution, IsSlotEnd}
use Rattle.vs_net.specs.Settle.{settle, IsFed}
use Rattle.vs_net.specs.LevelRun.{level_run}
use Rattle.vs_net.specs.Bound.{IsWeighed, bound, IsPartOfRun, HasNoNext}
use Rattle.vs_net.specs.Lawful.{IsLawful, IsKnown, IsLevelOrder, IsOnce}

-- the vector has no x and no z in a data input
abbrev pub IsKnownVector : Network → State → Type 0
IsKnownVector n v = (p b : ℕ) → kind (n.process p) ≡ AnInput → writes (n.process p) b ≡ true → IsKnown (v b)

-- the vector has no x and no z in the input of a reset
abbrev pub HasKnownResets : Network → State → Type 0
HasKnownResets n v = (p : ℕ) (r : Reset) → reset_of (n.process p) ≡ Some r → IsKnown (v r.input)

-- and so have all of these
abbrev pub AreKnownResets : Network → List State → Type 0
AreKnownResets n [] = Unit {0}
AreKnownResets n (v ∷ vs) = HasKnownResets n v × AreKnownResets n vs

-- Every completed run, in whatever order of its steps, ends its slots with the solution (11.4.2).
-- The driven nets begin with x or z, each by itself; the first vector is known, and so are the inputs of resets in all vectors.
abbrev pub EveryOrder : Type 0
EveryOrder =
    (n : Network) → IsLawful n → (first v : State) (vs : List State) → IsFirst n first → IsKnownVector n v → AreKnownResets n vs
    → (choices : List Choice) → IsCompleted n (start n first v vs) choices
    → IsSolution n (beginning n) (slots_of (v ∷ vs)) (ends n (start n first v vs) choices)

-- the values have no x and no z in a select net that is a data input's
abbrev pub HasKnownSelects : (n : Network) → IsLawful n → State → Type 0
HasKnownSelects n L v = (p b : ℕ) → kind (n.process p) ≡ AnInput → writes (n.process p) b ≡ true → L.selects b ≡ true → IsKnown (v b)

-- and so have all vectors of these slots, and the values before them where the first is a rise
abbrev pub AreKnownSelects : (n : Network) → IsLawful n → State → List Slot → Type 0
AreKnownSelects n L before [] = Unit {0}
AreKnownSelects n L before (Fall v ∷ slots) = HasKnownSelects n L v × AreKnownSelects n L v slots
AreKnownSelects n L before (Rise ∷ slots) = HasKnownSelects n L before × AreKnownSelects n L before slots

-- the equations have no second solution
abbrev pub OneSolution : Type 0
OneSolution =
    (n : Network) → (L : IsLawful n) → (before : State) (slots : List Slot) (xs ys : List State) → AreKnownSelects n L before slots
    → IsSolution n before slots xs → IsSolution n before slots ys → xs ≡ ys

-- in each level order the level run is a completed run, and its ends are the solution
abbrev pub LevelRunIsOne : Type 0
LevelRunIsOne =
    (n : Network) → IsLawful n → (order : List ℕ) → IsLevelOrder n order
    → (first v : State) (vs : List State) → IsFirst n first → IsKnownVector n v → AreKnownResets n vs
    → let q = start n first v vs in IsCompleted n q (level_run n order q) × IsSolution n (beginning n) (slots_of (v ∷ vs)) (ends n q (level_run n order q))

-- between two beginnings of slots, before the first and after the last, there are at most `bound` steps, in any order
abbrev pub SlotsEnd : Type 0
SlotsEnd =
    (n : Network) → IsLawful n → (feeds : ℕ → ℕ → Bool) (size w r : ℕ → ℕ) → IsWeighed n feeds size w r
    → (first v : State) (vs : List State) → IsFirst n first → IsKnownVector n v → AreKnownResets n vs
    → (earlier steps : List Choice) → IsPartOfRun n (start n first v vs) (earlier ++ steps) → HasNoNext steps
    → length steps ≤ bound n w r

-- every run can be continued to a completed one
abbrev pub RunsEnd : Type 0
RunsEnd =
    (n : Network) → IsLawful n → (feeds : ℕ → ℕ → Bool) (size w r : ℕ → ℕ) → IsWeighed n feeds size w r
    → (first v : State) (vs : List State) → IsFirst n first → IsKnownVector n v → AreKnownResets n vs
    → (earlier : List Choice) → IsPartOfRun n (start n first v vs) earlier
    → (later : List Choice) × IsCompleted n (start n first v vs) (earlier ++ later)

-- where inputs and registers have their values, one pass over a level order that has each process once gives the values at the slot's end
abbrev pub OnePassSettles : Type 0
OnePassSettles =
    (n : Network) → IsLawful n → (order : List ℕ) → IsLevelOrder n order → IsOnce (λ p. ⊥) order
    → (before : State) (slot : Slot) (s : State) → IsFed n before slot s → IsSlotEnd n before slot (settle n before order s)

-- what a block that may sleep has at the end of a slot: what its statement gives, where it has been woken, else x
abbrev pub HasAsTold : Network → ℕ → Sleeper → Bool → State → Type 0
HasAsTold n p x true s = write_all s (made (n.process p) s) ≡ s
HasAsTold n p x false s = all_x s x.bits ≡ true

-- slot by slot: it has been woken where some bit that it waits on wasn't x in this slot or one before it
abbrev pub IsAsTold : Network → ℕ → Sleeper → Bool → List State → Type 0
IsAsTold n p x woken [] = Unit {0}
IsAsTold n p x woken (s ∷ ss) = HasAsTold n p x (woken || not (all_x s x.on)) s × IsAsTold n p x (woken || not (all_x s x.on)) ss

-- A solution remembers by its values which blocks have been woken: it is as if each slot knew all slots before it.
abbrev pub HistoryIsInValues : Type 0
HistoryIsInValues =
    (n : Network) → IsLawful n → (slots : List Slot) (ss : List State) → IsSolution n (beginning n) slots ss
    → (p : ℕ) (x : Sleeper) → n.sleeper p ≡ Some x → IsAsTold n p x false ss

-- the block has run
abbrev pub has_run : ℕ → List Choice → Bool
has_run p [] = false
has_run p (Run r ∷ cs) = (p == r) || has_run p cs
has_run p (c ∷ cs) = has_run p cs

-- what follows a slot's end
abbrev pub IsAfterSlot : List Choice → Type 0
IsAfterSlot [] = Unit {0}
IsAfterSlot (Next ∷ cs) = Unit {0}
IsAfterSlot (c ∷ cs) = ⊥

-- In every completed run, at the end of each slot, a block that may sleep has run exactly where a bit that it waits on wasn't x at the end of that slot or one before it.
abbrev pub SleepersWake : Type 0
SleepersWake =
    (n : Network) → IsLawful n → (first v : State) (vs : List State) → IsFirst n first → IsKnownVector n v → AreKnownResets n vs
    → (earlier later : List Choice) → IsCompleted n (start n first v vs) (earlier ++ later) → IsAfterSlot later
    → (p : ℕ) (x : Sleeper) → n.sleeper p ≡ Some x
    → (has_run p earlier ≡ true) ↔ (list_any (λ s. not (all_x s x.on)) (ends n (start n first v vs) earlier) ≡ true)
