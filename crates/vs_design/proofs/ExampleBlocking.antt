-- The worked designs with blocking assignments, by computation.
use Rattle.std.proofs.Common.{refl}
use Rattle.vs_net.specs.Network.{write_all, is_written, flatten}
use Rattle.vs_net.specs.Queue.{change, changes, is_held}
use Rattle.vs_design.specs.ExampleBlocking.{BlockingComputed}

pub blocking_computed : BlockingComputed
unfolding write_all is_written flatten change changes is_held
blocking_computed = record {
  temporary_size = refl;
  temporary_free = refl;
  temporary_passes = record { widths = refl; blocks = refl; drivers = refl; clocks = refl; no_cycle = refl; races = refl; zero = refl };
  temporary_ends = refl;
  read_first_size = refl;
  read_first_free = refl;
  read_first_passes = record { widths = refl; blocks = refl; drivers = refl; clocks = refl; no_cycle = refl; races = refl; zero = refl };
  read_first_ends = refl;
  raced_bits = refl;
  raced_races = refl;
  raced_refused = (refl, refl, refl, refl, refl, refl);
  through_stirs = refl;
  through_bits = refl;
  through_races = refl;
  through_refused = (refl, refl, refl, refl, refl, refl);
  twice_size = refl;
  twice_free = refl;
  twice_passes = record { widths = refl; blocks = refl; drivers = refl; clocks = refl; no_cycle = refl; races = refl; zero = refl };
  twice_ends = refl;
  overtaken_size = refl;
  overtaken_free = refl;
  overtaken_passes = record { widths = refl; blocks = refl; drivers = refl; clocks = refl; no_cycle = refl; races = refl; zero = refl };
  overtaken_ends = refl;
  reset_free = refl;
  reset_passes = record { widths = refl; blocks = refl; drivers = refl; clocks = refl; no_cycle = refl; races = refl; zero = refl };
  reset_ends = refl;
}
