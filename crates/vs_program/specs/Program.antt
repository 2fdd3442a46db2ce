-- Straight programs over slots, and the slots of a lane as values of the design's bits.
use Rattle.vs_design.specs.Footprints.{contains}
use Rattle.std.specs.Prelude.{◌≡◌, ℕ, ◌+◌, ◌<◌, ◌≤◌, ◌^◌, Bool, true, ◌&&◌, List, length, nat_lt, nat_le, ◌==◌, if◌then◌else◌, slice_index_or, All}
use Rattle.std.specs.List.{list_all}
use Rattle.vs_four.specs.declared.Bit4.{Bit4}
use Rattle.vs_four.specs.declared.Bit4.TheVariants.{X}
use Rattle.vs_net.specs.Network as N
use Rattle.vs_code.specs.Calls.{Call, State, length_of, slots_of}
use Rattle.vs_program.specs.declared.compiled.Span.{Span}
use Rattle.vs_program.specs.declared.compiled.Phase.{Phase}
use Rattle.vs_program.specs.declared.compiled.Phase.TheVariants.{First, Fall, Next, Rise}
use Rattle.vs_program.specs.Lowered.{home}

-- what contracts see of a compiled design
pub record Program : Type 0 where
  -- how many bits the design has
  pub bits : ℕ
  -- the clocks' bits; where the design has no clock it is one, which is none of these
  pub clocks : List ℕ
  -- the bits of the data inputs
  pub inputs : List ℕ
  -- the clocks' bits, where they are some of the design's, and those of the nets that copy them
  pub nets : List ℕ
  -- what each slot begins with
  pub initial : List Bit4
  -- the bits of each signal that a waveform shows, in their order: of all but memories
  pub signals : List Span
  -- the calls that settle a first slot, in which the clocks fall, and those that settle a later one
  pub first : List Call
  pub fall : List Call
  -- where the clocks rise, the calls that give the registers their next values, and those that then settle the slot
  pub next : List Call
  pub rise : List Call

-- the calls of a phase
abbrev pub calls_at : Program → Phase → List Call
calls_at p First = p.first
calls_at p Fall = p.fall
calls_at p Next = p.next
calls_at p Rise = p.rise

-- what a bit has that isn't one of the design's: x, but a clock the clocks' level
abbrev pub beyond : List ℕ → Bit4 → ℕ → Bit4
beyond clocks level b = if contains clocks b then level else X

-- the values of the design's bits that a lane's slots hold. No slot holds the clock that isn't one of them
abbrev pub values : ℕ → List ℕ → Bit4 → State → N.State
values bits clocks level slots b = if nat_lt b bits then slots (home b) else beyond clocks level b

-- the slots at the beginning
abbrev pub initial_slots : Program → State
initial_slots p slot = slice_index_or p.initial slot X

-- the number is one of the first so many
abbrev pub is_below : ℕ → ℕ → Bool
is_below count n = nat_lt n count

-- the span has 1 to 64 bits, all of them among the first so many
abbrev pub spans : ℕ → Span → Bool
spans count s = nat_le 1 s.length && nat_le s.length 64 && nat_le (s.first + s.length) count

-- all slots that these calls name are there
abbrev pub AreIn : ℕ → List Call → Type 0
AreIn count calls = All (λ slot. slot < count) (slots_of calls)

-- how many stores it makes in a first slot, in which the clocks fall
abbrev pub first_stores : Program → ℕ
first_stores p = length p.inputs + length p.nets + length_of p.first

-- in a later one in which they fall
abbrev pub fall_stores : Program → ℕ
fall_stores p = length p.inputs + length p.nets + length_of p.fall

-- in one in which they rise
abbrev pub rise_stores : Program → ℕ
rise_stores p = length p.nets + length_of p.next + length_of p.rise

-- all numbers are of slots and bits that are there, and all stores can be counted
pub record IsInRange (p : Program) : Type 0 where
  pub count : length p.initial < 2 ^ 32
  pub bits : home p.bits ≤ length p.initial
  pub inputs : list_all (is_below p.bits) p.inputs ≡ true
  pub nets : list_all (is_below p.bits) p.nets ≡ true
  pub signals : list_all (spans p.bits) p.signals ≡ true
  pub first : AreIn (length p.initial) p.first
  pub fall : AreIn (length p.initial) p.fall
  pub next : AreIn (length p.initial) p.next
  pub rise : AreIn (length p.initial) p.rise
  pub few_first : first_stores p < 2 ^ 32
  pub few_fall : fall_stores p < 2 ^ 32
  pub few_rise : rise_stores p < 2 ^ 32
