-- The matches of a case's items, and the length and the sign that the items of all arms share.
use Rattle.std.specs.Prelude.{ℕ, Bool, List, [], ◌∷◌, map}
use Rattle.vs_design.specs.Expressions.{Expression, items_of}
use Rattle.vs_four.specs.Logic.{BitList}
use Rattle.vs_net.specs.Network.{State}
use Rattle.vs_design.specs.Values.{value}
use Rattle.vs_design.specs.Statements.{CaseKind, Exact, CaseZ, CaseX, case_match, widest, all_signed}
use Rattle.vs_kern_logic.specs.declared.costs.Kernel.TheVariants as L
use Rattle.vs_code.specs.declared.kernels.AnyKernel.{AnyKernel}
use Rattle.vs_code.specs.declared.kernels.AnyKernel.TheVariants.{Logic}
use Rattle.vs_flat.specs.declared.statements.Arm.{Arm}

-- the matches of a value and these items
abbrev pub matches_of : CaseKind → ℕ → Bool → BitList → List Expression → State → BitList
matches_of kind w s v items state = map (λ e. case_match kind v (value e w s state)) items

abbrev pub arms_widest : (ℕ → Expression) → List Arm → ℕ → ℕ
arms_widest tree [] w = w
arms_widest tree (arm ∷ arms) w = arms_widest tree arms (widest w (items_of (map tree arm.items)))

abbrev pub arms_signed : (ℕ → Expression) → List Arm → Bool → Bool
arms_signed tree [] s = s
arms_signed tree (arm ∷ arms) s = arms_signed tree arms (all_signed s (items_of (map tree arm.items)))

-- how a case compares
abbrev pub match_kernel : CaseKind → AnyKernel
match_kernel Exact = Logic L.CaseEqual
match_kernel CaseZ = Logic L.MatchesZ
match_kernel CaseX = Logic L.MatchesX
