-- Which slot holds the value of each bit.
use Rattle.std.specs.Prelude.{ℕ, List, [], ◌∷◌, ◌++◌, map, replicate, set, unwrap_or, nat_lt, if◌then◌else◌, Option, Some, None}
use Rattle.std.specs.List.{range_with_len}
use Rattle.std.specs.Ordering.{nat_cmp}
use Rattle.std.specs.BTreeMap.{BTreeMap, get}
use Rattle.vs_program.specs.Lowered.{home}

-- the slot of a bit that wasn't moved: the first bits are at home, and all others have the slot of x
abbrev pub first_slot : ℕ → ℕ → ℕ
first_slot housed b = if nat_lt b housed then home b else 2

-- that which the bit was given last, or its first one
abbrev pub slot_in : ℕ → BTreeMap ℕ ℕ → ℕ → ℕ
slot_in housed moved b = unwrap_or (get nat_cmp moved b) (first_slot housed b)

-- the slots of all bits, by their numbers
abbrev pub slots_in : ℕ → ℕ → BTreeMap ℕ ℕ → List ℕ
slots_in bits housed moved = map (slot_in housed moved) (range_with_len 0 bits)

-- where each bit is before a process
abbrev pub homes : ℕ → List ℕ
homes bits = range_with_len 4 bits

-- where the local bits of a function are before its statement: those of the inputs at home, and all others in the slot of x
abbrev pub local_slots : ℕ → ℕ → List ℕ
local_slots inputs others = homes inputs ++ replicate others 2

-- the slots of the bits after a write: these bits have these slots, one after the other; what is no bit is left out
abbrev pub placed : List ℕ → List (Option ℕ) → List ℕ → List ℕ
placed env [] to = env
placed env (p ∷ ps) [] = env
placed env (None ∷ ps) (t ∷ ts) = placed env ps ts
placed env (Some b ∷ ps) (t ∷ ts) = placed (set env b t) ps ts

-- the slots of the bits after one of them, if it is one, got another
abbrev pub put_at : List ℕ → Option ℕ → ℕ → List ℕ
put_at env None slot = env
put_at env (Some b) slot = set env b slot
