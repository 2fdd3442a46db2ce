-- Why a design has no level order.
use Rattle.std.specs.Prelude.{◌≡◌, false}
use Rattle.vs_design.specs.Designs.{Design}
use Rattle.vs_design.specs.Levels.{has_no_cycle}
use Rattle.vs_design.specs.Cycles.{IsCycle}
use Rattle.vs_design.specs.Answers.{first_of}
use Rattle.vs_design.specs.Refusals.{place_at}
use Rattle.vs_level.specs.declared.error.LevelError.{LevelError}
use Rattle.vs_level.specs.declared.error.LevelError.TheVariants.{Cycle, Memory}

-- a cycle, at the place of its first process; want of memory is free
abbrev pub IsLevelError : Design → LevelError → Type 0
IsLevelError d (Cycle processes at) = IsCycle d processes.items × (at ≡ place_at d.processes (first_of processes.items)) × (has_no_cycle d ≡ false)
IsLevelError d Memory = Unit {0}
