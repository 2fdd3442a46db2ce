-- How many processes pieces have, counted one after the other (IEEE 1364-2005, 12.3.9.2).
use Rattle.std.specs.Prelude.{◌≡◌, ◌≤◌, ◌+◌, ℕ, Bool, List, None, is_some, sum_by}
use Rattle.std.specs.List.{list_any}
use Rattle.vs_design.specs.Clocks.{same_name}
use Rattle.vs_const.specs.Faults.{least}
use Rattle.vs_elaborated.specs.Pieces.{Connection, Piece}
use Rattle.vs_elaborated.specs.Instances.{connection_name}
use Rattle.vs_elaborated.specs.Surveys.{processes_over, piece_processes}
use Rattle.vs_maps.specs.Maps.{Pair, value_at}
use Rattle.vs_items.specs.declared.counts.Count.{Count}

-- behind these pieces, where there were so many before them: the first with which there are too many, and else how many there are
pub record IsCounted (c : Count) (before : ℕ) (ps : List Piece) : Type 0 where
  pub over : c.over ≡ least (processes_over c.most before ps)
  pub total : c.over ≡ None → c.total ≡ before + sum_by piece_processes ps
  pub few : c.total ≤ c.most

-- whether one of these is connected to the port of this name
abbrev pub has_name : List ℕ → List Connection → Bool
has_name name cs = list_any (λ (c : Connection). same_name (connection_name c) name) cs

-- a map has just the names of these
pub record HasNames (ps : List (Pair (Unit {0}))) (cs : List Connection) : Type 0 where
  pub each : (name : List ℕ) → is_some (value_at name ps) ≡ has_name name cs
