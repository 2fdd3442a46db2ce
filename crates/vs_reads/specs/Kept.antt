-- How footprints are kept.
use Rattle.std.specs.Prelude.{◌≤◌, ◌^◌, List, map, length}
use Rattle.vs_reads.specs.declared.lists.ProcessBits.{ProcessBits}
use Rattle.vs_reads.specs.declared.lists.Footprints.TheInside.{Inside}
use Rattle.vs_reads.specs.Footprint.{Footprint}

abbrev pub footprint_of : ProcessBits → Footprint
footprint_of b = record { reads = b.reads.items; writes = b.writes.items; waits = b.waits.items }

abbrev pub kept_footprints : Inside → List Footprint
kept_footprints f = map footprint_of f.processes.items

-- there are at most 2^16 processes
abbrev pub IsWithinLimits : Inside → Type 0
IsWithinLimits f = length f.processes.items ≤ 2 ^ 16
