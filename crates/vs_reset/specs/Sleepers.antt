-- The calls of a sleeping block.
use Rattle.std.specs.Prelude.{◌≡◌, ℕ, ◌+◌, ◌<◌, ◌≤◌, ◌^◌, ◌⊎◌, true, List, [], ◌∷◌, ◌++◌, map, length, All, Some, slice_get, Option}
use Rattle.vs_net.specs.Network as N
use Rattle.vs_design.specs.Designs.{Process, Design}
use Rattle.vs_design.specs.Footprints.{contains, writes_of, waits_of}
use Rattle.vs_design.specs.Sleepers.{is_sleeping}
use Rattle.vs_design.specs.Cycles.{AreApart}
use Rattle.vs_design.specs.Sizes.{process_weight, size}
use Rattle.vs_design.specs.Accepted.{IsAcceptedDesign}
use Rattle.vs_cone.specs.Lists.{HasEachOnce}
use Rattle.vs_kern_logic.specs.declared.costs.Kernel.TheVariants.{Copy, CaseNotEqual}
use Rattle.vs_kern_select.specs.declared.costs.Kernel.TheVariants.{Branch}
use Rattle.vs_code.specs.declared.kernels.AnyKernel.TheVariants.{Logic, Select}
use Rattle.vs_code.specs.Calls.{Call, State, IsCall, AreCalled, length_of, slots_of}
use Rattle.vs_program.specs.Lowered.{Layout, home, made_of, process_stores, HasConstants}
use Rattle.vs_program.specs.Layouts.{IsLayoutOf, mask_of}
use Rattle.vs_program.specs.Made.{IsLoweredAt}

-- the slot of x for each of these
abbrev pub x_slots : List ℕ → List ℕ
x_slots bs = map (λ b. 2) bs

-- whether the mask differs from 0, or one of these bits from x
abbrev pub compare_call : ℕ → ℕ → List ℕ → Call
compare_call mask spare on = record { kernel = Logic CaseNotEqual; args = (mask ∷ map home on) ∷ (0 ∷ x_slots on) ∷ []; to = spare ∷ []; scratch = [] }

-- what was found to the mask
abbrev pub mask_call : ℕ → ℕ → Call
mask_call mask spare = record { kernel = Logic Copy; args = (spare ∷ []) ∷ []; to = mask ∷ []; scratch = [] }

-- where the mask is 1 the block's values to its bits, else x
abbrev pub finish_call : ℕ → List ℕ → List ℕ → Call
finish_call mask bits now = record { kernel = Select Branch; args = (mask ∷ []) ∷ now ∷ x_slots bits ∷ []; to = map home bits; scratch = [] }

-- the mask is 1 from then on where some bit that the block waits on isn't x; where it waits on none the mask stays
abbrev pub wake_calls : ℕ → ℕ → List ℕ → List Call
wake_calls mask spare [] = []
wake_calls mask spare (b ∷ on) = compare_call mask spare (b ∷ on) ∷ mask_call mask spare ∷ []

-- the mask, then the block's statement, and then what the statement gives, or x, to its bits
abbrev pub sleeper_calls : ℕ → ℕ → List ℕ → List ℕ → List ℕ → List Call → List Call
sleeper_calls mask spare on bits now body = wake_calls mask spare on ++ (body ++ finish_call mask bits now ∷ [])

-- ---- which of them are calls

-- the mask stands between so many bits and the temporaries, which begin at this slot
pub record IsMask (count first mask : ℕ) : Type 0 where
  pub above : home count ≤ mask
  pub below : mask < first

-- these are bits of so many, and no more than a call may name beside one slot
pub record AreBits (count : ℕ) (bits : List ℕ) : Type 0 where
  pub below : (b : ℕ) → contains bits b ≡ true → b < count
  pub few : length bits + 1 < 2 ^ 32

-- each of these slots is a constant's, or one of the temporaries, which begin at this slot
pub record AreOwn (first : ℕ) (now : List ℕ) : Type 0 where
  pub own : (slot : ℕ) → contains now slot ≡ true → (slot < 4) ⊎ (first ≤ slot)
  pub below : (slot : ℕ) → contains now slot ≡ true → slot < 2 ^ 32

-- the calls for the mask, where the spare slot is a temporary
abbrev pub WakeIsCalls : Type 0
WakeIsCalls = (count first mask spare : ℕ) (on : List ℕ) → IsMask count first mask → first ≤ spare → spare < 2 ^ 32 → AreBits count on → All IsCall (wake_calls mask spare on)

-- the last one, for some bits, each of them once, and as many slots
abbrev pub FinishIsCall : Type 0
FinishIsCall =
    (count first mask : ℕ) (bits now : List ℕ) → IsMask count first mask → first ≤ 2 ^ 32 → AreBits count bits → AreApart bits → 1 ≤ length bits
    → length now ≡ length bits → AreOwn first now → IsCall (finish_call mask bits now)

-- a sleeping block writes some bit
abbrev pub SleepersWrite : Type 0
SleepersWrite = (d : Design) (x : Process) → is_sleeping d x ≡ true → (b : ℕ) × (contains (writes_of x) b ≡ true)

-- ---- what they are

-- what calls of the block's statement do to slots that hold this state: these slots have what the block's bits have after it, and nothing below the temporaries is written
pub record IsBodyRun (l : Layout) (p : Process) (state : N.State) (bits now : List ℕ) (before after : State) : Type 0 where
  pub values : map after now ≡ map (λ b. N.write_all state (made_of p state) b) bits
  pub kept : (slot : ℕ) → slot < l.first_temp → after slot ≡ before slot

-- these are calls of the block's statement, after which these slots, one for each of its bits, have what the bits have: constants' or temporaries
pub record IsBody (l : Layout) (p : Process) (bits now : List ℕ) (calls : List Call) : Type 0 where
  pub are_calls : All IsCall calls
  pub stores : length_of calls ≤ process_stores p
  pub slots : All (λ slot. slot < l.first_temp + process_weight p) (slots_of calls)
  pub long : length now ≡ length bits
  pub own : (slot : ℕ) → contains now slot ≡ true → (slot < 4) ⊎ (l.first_temp ≤ slot)
  pub below : (slot : ℕ) → contains now slot ≡ true → slot < l.first_temp + process_weight p
  pub run : (before after : State) (state : N.State) → HasConstants before → ((b : ℕ) → b < l.bits → before (home b) ≡ state b) → AreCalled calls before after
      → IsBodyRun l p state bits now before after

-- they are calls of the block as one that sleeps, by lists of the bits that it waits on and of those that it writes, each once, and where all slots can be numbered. The mask is found in the first temporary, before the statement needs it
abbrev pub SleeperCallsAre : Type 0
SleeperCallsAre =
    (d : Design) (names : List (List ℕ)) (a : IsAcceptedDesign d names) (l : Layout) → IsLayoutOf d l → l.first_temp + size d ≤ 2 ^ 32
    → (p : ℕ) (x : Process) → slice_get d.processes p ≡ Some x → is_sleeping d x ≡ true
    → (on bits : List ℕ) → HasEachOnce (waits_of x) on → HasEachOnce (writes_of x) bits
    → (now : List ℕ) (body : List Call) → IsBody l x bits now body
    → IsLoweredAt d l p (sleeper_calls (mask_of d p) l.first_temp on bits now body)
