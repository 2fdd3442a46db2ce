-- How far a run has come: its first steps, each one drawn.
use Rattle.std.specs.Prelude.{◌≡◌, ℕ, zero, suc, ◌-◌, ◌^◌, ◌%◌, List, [], ◌∷◌, map, length, min, Some, slice_get}
use Rattle.vs_four.specs.declared.Bit4.{Bit4}
use Rattle.vs_net.specs.Network.{State, Network}
use Rattle.vs_net.specs.Queue.{Queue, Choice, Next, after}
use Rattle.vs_net.specs.LevelRun.{after_all}
use Rattle.vs_writes.specs.Held.{state_of}
use Rattle.vs_queue.specs.Chosen.{next_seed, drawn, possible_steps}

-- each of these steps is the possible one at the place that is drawn
abbrev pub AreDrawn : Network → Queue → ℕ → List Choice → Type 0
AreDrawn n q seed [] = Unit {0}
AreDrawn n q seed (c ∷ cs) = (slice_get (possible_steps n q) (drawn seed % length (possible_steps n q)) ≡ Some c) × AreDrawn n (after n q c) (next_seed seed) cs

-- the generator after so many draws
abbrev pub seed_behind : ℕ → ℕ → ℕ
seed_behind zero seed = seed
seed_behind (suc k) seed = seed_behind k (next_seed seed)

-- the values at the ends of the slots that are over
abbrev pub ends_so_far : Network → Queue → List Choice → List State
ends_so_far n q [] = []
ends_so_far n q (Next ∷ cs) = q.now ∷ ends_so_far n (after n q Next) cs
ends_so_far n q (c ∷ cs) = ends_so_far n (after n q c) cs

-- a number of steps as far as 64 bits can count
abbrev pub counted : ℕ → ℕ
counted k = min k (2 ^ 64 - 1)

-- From this queue, by these draws, a run has come to the other queue, with these values at the ends of slots.
pub record IsReached (n : Network) (from : Queue) (order : ℕ) (q : Queue) (seed : ℕ) (values : List (List Bit4)) (steps : ℕ) : Type 0 where
  pub done : List Choice
  pub drawn : AreDrawn n from order done
  pub queue : after_all n from done ≡ q
  pub seed_is : seed ≡ seed_behind (length done) order
  pub values_are : map state_of values ≡ ends_so_far n from done
  pub steps_are : steps ≡ counted (length done)
