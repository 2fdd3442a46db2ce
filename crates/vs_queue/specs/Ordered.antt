-- What an ordered run and a plain run of a design give.
use Rattle.std.specs.Prelude.{◌≡◌, ℕ, ◌-◌, ◌^◌, ◌%◌, Bool, ◌&&◌, List, [], ◌∷◌, map, filter, length, min, ◌==◌, if◌then◌else◌}
use Rattle.std.specs.List.{list_any}
use Rattle.vs_four.specs.declared.Bit4.{Bit4}
use Rattle.vs_four.specs.declared.Bit4.TheVariants.{X, Z}
use Rattle.vs_net.specs.Network.{State, put}
use Rattle.vs_net.specs.Queue.{Choice, start, ends}
use Rattle.vs_net.specs.LevelRun.{level_run}
use Rattle.vs_design.specs.Designs.{Process, is_assign, Design, bit_count}
use Rattle.vs_design.specs.Footprints.{contains, net_bits, writes_of}
use Rattle.vs_design.specs.Values.{count_from}
use Rattle.vs_design.specs.Networks.{network_of, idle_value}
use Rattle.vs_writes.specs.Held.{state_of}
use Rattle.vs_queue.specs.Chosen.{next_seed, drawn, IsChosen}

-- an assign writes the bit
abbrev pub drives : ℕ → Process → Bool
drives b p = is_assign p && contains (writes_of p) b

-- the net bits that assigns drive, in ascending order
abbrev pub driven_bits : Design → List ℕ
driven_bits d = filter (λ b. contains (net_bits d) b && list_any (drives b) d.processes) (count_from 0 (bit_count d))

-- even is x, odd is z
abbrev pub x_or_z : ℕ → Bit4
x_or_z n = if (n % 2) == 0 then X else Z

-- each of these bits begins with what is drawn for it, in their order
abbrev pub drawn_values : List ℕ → ℕ → State → State
drawn_values [] seed s = s
drawn_values (b ∷ bs) seed s = drawn_values bs (next_seed seed) (put s b (x_or_z (drawn seed)))

-- the generator after that
abbrev pub seed_after : List ℕ → ℕ → ℕ
seed_after [] seed = seed
seed_after (b ∷ bs) seed = seed_after bs (next_seed seed)

-- each of them begins with x
abbrev pub x_values : List ℕ → State → State
x_values [] s = s
x_values (b ∷ bs) s = x_values bs (put s b X)

-- These are the values at the ends of the slots, each bit by its number.
abbrev pub AreEnds : List (List Bit4) → List State → Type 0
AreEnds values states = map state_of values ≡ states

-- The run that this number chooses, on these vectors: the values at the ends of its slots, and how many steps it has, as far as 64 bits can count.
pub record IsOrderedRun (d : Design) (clocks : List ℕ) (order : ℕ) (first : State) (later : List State) (values : List (List Bit4)) (steps : ℕ) : Type 0 where
  pub choices : List Choice
  pub chosen : IsChosen (network_of d clocks) (start (network_of d clocks) (drawn_values (driven_bits d) order (idle_value d)) first later) (seed_after (driven_bits d) order) choices
  pub values_are : AreEnds values (ends (network_of d clocks) (start (network_of d clocks) (drawn_values (driven_bits d) order (idle_value d)) first later) choices)
  pub steps_are : steps ≡ min (length choices) (2 ^ 64 - 1)

-- The level run in this order, on these vectors, from a state in which driven nets are x.
abbrev pub IsPlainRun : Design → List ℕ → List ℕ → State → List State → List (List Bit4) → Type 0
IsPlainRun d clocks order first later values =
    let n = network_of d clocks in let q = start n (x_values (driven_bits d) (idle_value d)) first later in AreEnds values (ends n q (level_run n order q))
