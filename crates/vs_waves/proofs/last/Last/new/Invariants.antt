use Rattle.std.proofs.Common.{◌≤◌, take}
use Rattle.std.specs.Prelude.{vec_capacity}
use Rattle.vs_flat.specs.Arena.{bit_count}
use Rattle.vs_flat.specs.DesignOf.{design_of}
use Rattle.vs_vcd.specs.Shared.{code_at}
use Rattle.vs_waves.proofs.LaidOut.{AreLaidOut}
use Rattle.vs_waves.proofs.last.Last.new.Given as goal

-- the first signals that are written have their bits, one behind the other
abbrev pub invariant-loop-n : goal.invariant-loop-n
invariant-loop-n g l = record {
  first : l.first ≤ bit_count (take l.n l.flat.signals);
  laid : AreLaidOut (code_at l.codes) (design_of l.flat).signals l.signals l.n l.spans.items l.numbers.items l.places.items l.first l.place;
  room : l.signals ≤ vec_capacity l.spans;
  numbers_room : l.signals ≤ vec_capacity l.numbers;
  places_room : l.signals ≤ vec_capacity l.places;
}
