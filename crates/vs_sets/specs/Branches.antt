-- The sets after branches that start from the same ones.
use Rattle.std.specs.Prelude.{ℕ, Bool, ◌||◌, List, [], ◌∷◌, if◌then◌else◌}
use Rattle.std.specs.List.{list_any}
use Rattle.vs_design.specs.Footprints.{contains}
use Rattle.vs_design.specs.Statements.{CaseKind, Statement, Arms, Arm, Default}
use Rattle.vs_design.specs.Sets.{Set4, none, is_only_one}
use Rattle.vs_design.specs.Lifted.{Family}
use Rattle.vs_design.specs.LiftedBodies.{either, lifted_body, item_sets}

-- these bits have their sets in the first family, the others in the second
abbrev pub replaced : List ℕ → Family → Family → Family
replaced bits f g b = if contains bits b then f b else g b

-- the union of what the statements leave
abbrev pub branch_sets : List Statement → Family → Family
branch_sets [] sets = λ b. none
branch_sets (s ∷ ss) sets = either (lifted_body s sets) (branch_sets ss sets)

-- the branches of an `if` that members of the condition's truth set take
abbrev pub taken_branches : Set4 → Statement → Statement → List Statement
taken_branches c taken other = if c.one? then (if c.zero? || c.x? || c.z? then (taken ∷ other ∷ []) else (taken ∷ [])) else (other ∷ [])

-- the statements of a case that may be taken
abbrev pub taken_arms : Arms → CaseKind → ℕ → Bool → List Set4 → Family → List Statement
taken_arms (Arm items statement rest) kind w s subject sets =
    if list_any is_only_one (item_sets kind w s subject items sets) then (statement ∷ [])
    else (if list_any (λ (m : Set4). m.one?) (item_sets kind w s subject items sets) then (statement ∷ taken_arms rest kind w s subject sets) else taken_arms rest kind w s subject sets)
taken_arms (Default statement) kind w s subject sets = statement ∷ []
