-- The copy of next values is a call.
use Rattle.std.specs.Prelude.{ℕ, ◌≤◌, ◌^◌, List, All, Option}
use Rattle.vs_design.specs.Designs.{Design}
use Rattle.vs_design.specs.Accepted.{IsAcceptedDesign}
use Rattle.vs_code.specs.Calls.{IsCall}
use Rattle.vs_program.specs.Lowered.{Layout}
use Rattle.vs_program.specs.Layouts.{AreRegisters, IsLayoutOf}
use Rattle.vs_program.specs.Made.{copy_shadows}

-- where all slots can be numbered
abbrev pub CopyIsCall : Type 0
CopyIsCall =
    (d : Design) (names : List (List ℕ)) → IsAcceptedDesign d names → (l : Layout) → IsLayoutOf d l → l.first_temp ≤ 2 ^ 32
    → (regs : List ℕ) → AreRegisters d regs → All IsCall (copy_shadows l regs)
