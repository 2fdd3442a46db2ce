-- The equations of a design, slot by slot: the values at the end of each slot, with no queue.
use Rattle.std.specs.Prelude.{◌≡◌, ℕ, zero, suc, Bool, true, false, List, [], ◌∷◌, ◌++◌, ◌&&◌, ◌⊎◌, map, Option, Some, None, if◌then◌else◌}
use Rattle.vs_four.specs.declared.Bit4.{Bit4}
use Rattle.vs_four.specs.declared.Bit4.TheVariants.{Zero, One, X}
use Rattle.vs_four.specs.Tables.{same}
use Rattle.vs_net.specs.Network.{Sleeper, State, Write, Update, write_all, flatten, Reset, branch, to_value, Process, Clocked, Network, is_selector, Kind, AnInput, TheClock, AnAssign, AComb, AClocked, kind, writes, made, effects}
use Rattle.vs_net.specs.Queue.{Slot, Fall, Rise, drive}

-- a writer: an input, which writes by nonblocking updates (9.2.2), or a clocked block, which may write at once too (9.2.1)
abbrev pub IsWriter : Kind → Type 0
IsWriter AnInput = Unit {0}
IsWriter TheClock = Unit {0}
IsWriter AClocked = Unit {0}
IsWriter _ = ⊥

-- the values after these updates of the processes below a number
abbrev pub after_initial : (ℕ → List Update) → ℕ → State → State
after_initial initial zero s = s
after_initial initial (suc k) s = write_all (after_initial initial k s) (flatten (initial k))

-- the values before the first activation: a bit is idle, or has what initial processes write to it at once
abbrev pub at_first : Network → State
at_first n = after_initial n.initial n.count n.idle

-- all that initial processes write, in the order in which it takes effect
abbrev pub all_initial : Network → ℕ → List Update
all_initial n p = n.initial p ++ n.initial_updates p

-- the values before slot 0: a bit is idle, or has what initial processes leave in it
abbrev pub beginning : Network → State
beginning n = after_initial (all_initial n) n.count n.idle

-- an assign or a combinational block
abbrev pub Settles : Kind → Type 0
Settles AnAssign = Unit {0}
Settles AComb = Unit {0}
Settles _ = ⊥

-- what the reset branch gives, where the vector has the reset input active
abbrev pub reset_effects : Option Reset → State → List Update
reset_effects None vector = []
reset_effects (Some r) vector = if same (vector r.input) (to_value r.edge) then branch r else []

-- What a clocked block gives, its blocking writes and then its updates: where the clock rises that of its run, on the values at the end of the slot before, and where it falls that of its reset.
abbrev pub clocked_effects : Process → Slot → State → List Update
clocked_effects (Clocked clock reset targets run) Rise before = effects (Clocked clock reset targets run) before
clocked_effects (Clocked clock reset targets run) (Fall vector) before = reset_effects reset vector
clocked_effects _ _ _ = []

-- the values after all that a writer writes in a slot, in its order
abbrev pub driven : Process → Slot → State → State
driven process slot before = write_all before (flatten (drive process slot ++ clocked_effects process slot before))

-- each of these bits is x
abbrev pub all_x : State → List ℕ → Bool
all_x s [] = true
all_x s (b ∷ bs) = same (s b) X && all_x s bs

-- These values before a slot are those of a block that sleeps, and in the slot what it waits on stays x.
-- A block that has been woken may have such values too; then its statement gives x from x, and it is no matter whether it sleeps.
abbrev pub is_asleep : Option Sleeper → State → State → Bool
is_asleep None before s = false
is_asleep (Some x) before s = all_x before x.on && all_x before x.bits && all_x s x.on

-- x to each bit that is written
abbrev pub blank : List Write → List Write
blank ws = map (λ w. record { bit = w.bit; value = X }) ws

-- what a process gives its bits in a slot: x where it sleeps on, else what it makes of these values
abbrev pub given : Network → State → ℕ → State → List Write
given n before p s = if is_asleep (n.sleeper p) before s then blank (made (n.process p) s) else made (n.process p) s

-- 0 or 1
abbrev pub IsKnown : Bit4 → Type 0
IsKnown v = (v ≡ Zero) ⊎ (v ≡ One)

-- a process surely assigns all its bits: its selectors, where it has any, are known
abbrev pub IsSure : Network → ℕ → State → Type 0
IsSure n p s = (b : ℕ) → is_selector n p b ≡ true → IsKnown (s b)

-- s are the values at the end of the slot, where those at its beginning were before
pub record IsSlotEnd (n : Network) (before : State) (slot : Slot) (s : State) : Type 0 where
  -- Each assign's target has the value of its right side (6.1), and each combinational block's bits have what its statement gives from what it reads, or x as long as it sleeps. Nothing is said of a block that has an unknown selector: what it leaves as it was may depend on the order.
  pub settled : (p : ℕ) → Settles (kind (n.process p)) → IsSure n p s → write_all s (given n before p s) ≡ s
  -- inputs have the drive's last values, and registers what the run of their block gives
  pub updated : (p b : ℕ) → IsWriter (kind (n.process p)) → writes (n.process p) b ≡ true → s b ≡ driven (n.process p) slot before b
  -- a bit that no process writes stays: z in a net, x in a variable (4.2)
  pub kept : (b : ℕ) → ((p : ℕ) → writes (n.process p) b ≡ false) → s b ≡ before b

-- one list of values for each slot, each the end of the one before it
abbrev pub IsSolution : Network → State → List Slot → List State → Type 0
IsSolution n before [] [] = Unit {0}
IsSolution n before (slot ∷ slots) (s ∷ ss) = IsSlotEnd n before slot s × IsSolution n s slots ss
IsSolution n before [] (s ∷ ss) = ⊥
IsSolution n before (slot ∷ slots) [] = ⊥
