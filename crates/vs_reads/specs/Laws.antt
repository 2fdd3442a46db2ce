-- What the footprints of a design are.
use Rattle.std.specs.Prelude.{◌≡◌, ◌<◌, ℕ, true, List, length, Some, slice_get}
use Rattle.std.specs.List.Sorted.{IsStrictlyIncreasing}
use Rattle.vs_design.specs.Designs.{Process, Design, bit_count}
use Rattle.vs_design.specs.Footprints.{contains, reads_of, writes_of, waits_of, ascending}
use Rattle.vs_design.specs.Elaborated.{IsLawfulDesign}
use Rattle.vs_reads.specs.Footprint.{footprints_of, reads_at, writes_at, waits_at}

abbrev pub OneForEachProcess : Type 0
OneForEachProcess = (d : Design) → length (footprints_of d) ≡ length d.processes

-- those of the process of this number
pub record IsFootprintOf (d : Design) (p : ℕ) (process : Process) : Type 0 where
  pub reads : reads_at (footprints_of d) p ≡ ascending (bit_count d) (reads_of process)
  pub writes : writes_at (footprints_of d) p ≡ ascending (bit_count d) (writes_of process)
  pub waits : waits_at (footprints_of d) p ≡ ascending (bit_count d) (waits_of process)

abbrev pub EachIsOfItsProcess : Type 0
EachIsOfItsProcess = (d : Design) (p : ℕ) (process : Process) → slice_get d.processes p ≡ Some process → IsFootprintOf d p process

-- the bits of a list in ascending order, each once, all of them bits of the design
pub record HasBitsOf (count : ℕ) (bits all : List ℕ) : Type 0 where
  pub rising : IsStrictlyIncreasing bits
  pub below : (b : ℕ) → contains bits b ≡ true → b < count
  pub same : (b : ℕ) → contains bits b ≡ contains all b

pub record HasBits (d : Design) (p : ℕ) (process : Process) : Type 0 where
  pub reads : HasBitsOf (bit_count d) (reads_at (footprints_of d) p) (reads_of process)
  pub writes : HasBitsOf (bit_count d) (writes_at (footprints_of d) p) (writes_of process)
  pub waits : HasBitsOf (bit_count d) (waits_at (footprints_of d) p) (waits_of process)

abbrev pub EachHasItsBits : Type 0
EachHasItsBits = (d : Design) → IsLawfulDesign d → (p : ℕ) (process : Process) → slice_get d.processes p ≡ Some process → HasBits d p process
