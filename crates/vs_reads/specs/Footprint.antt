-- What each process reads, writes and waits on, as ascending lists of bits.
use Rattle.std.specs.Prelude.{ℕ, List, [], map, slice_index_or}
use Rattle.vs_design.specs.Designs.{Process, Design, bit_count}
use Rattle.vs_design.specs.Footprints.{reads_of, writes_of, waits_of, ascending}

-- the bits of one process, each once
pub record Footprint : Type 0 where
  pub reads : List ℕ
  pub writes : List ℕ
  pub waits : List ℕ

-- in a design of this many bits
abbrev pub footprint_in : ℕ → Process → Footprint
footprint_in count process = record {
  reads = ascending count (reads_of process);
  writes = ascending count (writes_of process);
  waits = ascending count (waits_of process);
}

-- one for each process, by number
abbrev pub footprints_of : Design → List Footprint
footprints_of d = map (footprint_in (bit_count d)) d.processes

-- what a number stands for that no process has
abbrev pub no_footprint : Footprint
no_footprint = record { reads = []; writes = []; waits = [] }

abbrev pub footprint_at : List Footprint → ℕ → Footprint
footprint_at fs p = slice_index_or fs p no_footprint

abbrev pub reads_at : List Footprint → ℕ → List ℕ
reads_at fs p = (footprint_at fs p).reads

abbrev pub writes_at : List Footprint → ℕ → List ℕ
writes_at fs p = (footprint_at fs p).writes

abbrev pub waits_at : List Footprint → ℕ → List ℕ
waits_at fs p = (footprint_at fs p).waits
