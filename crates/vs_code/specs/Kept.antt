-- How a program is kept.
use Rattle.std.specs.Prelude.{◌≡◌, ℕ, ◌≤◌, ◌^◌, List, All}
use Rattle.vs_code.specs.declared.placed.Placed.{Placed}
use Rattle.vs_code.specs.declared.program.Program.TheInside.{Inside}
use Rattle.vs_code.specs.Calls.{IsCall, length_of, slots_of, count_for}
use Rattle.vs_code.specs.Placed.{IsWithin, calls_at}

-- the lists of each call stand within the arena, each call is one, and their stores and slots were counted
pub record AreCounted (arena : List ℕ) (placed : List Placed) (stores count : ℕ) : Type 0 where
  pub within : All (IsWithin arena) placed
  pub calls : All IsCall (calls_at arena placed)
  pub length : stores ≡ length_of (calls_at arena placed)
  pub slots : count ≡ count_for (slots_of (calls_at arena placed))
  pub few_stores : stores ≤ 2 ^ 32
  pub few_slots : count ≤ 2 ^ 32

abbrev pub IsKept : Inside → Type 0
IsKept p = AreCounted p.arena.items p.calls.items p.length p.slots
