-- What stands for the default of a case where its statement is completed.
use Rattle.std.specs.Prelude.{◌≡◌, ℕ, Bool, true, List, [], ◌∷◌, map, if◌then◌else◌, Option, Some, None, ◌⊎◌, slice_index_or}
use Rattle.vs_design.specs.Expressions as E
use Rattle.vs_design.specs.Statements as T
use Rattle.vs_design.specs.Statements.{CaseKind, case_width, case_sign}
use Rattle.vs_design.specs.Footprints.{contains}
use Rattle.vs_design.specs.Selects.{is_full, is_possible, completed}
use Rattle.vs_flat.specs.declared.statements.Arm.{Arm}
use Rattle.vs_flat.specs.declared.statements.Statement.{Statement}
use Rattle.vs_flat.specs.declared.statements.Statement.TheVariants as S
use Rattle.vs_flat.specs.Arena.{Arena, statement_at}
use Rattle.vs_flat.specs.Named.{statement_statements}
use Rattle.vs_flat.specs.DesignOf.{design_of}
use Rattle.vs_sets.specs.Nodes.{tree_of}
use Rattle.vs_sets.specs.StatementParts.{statement_of, arms_of}
use Rattle.vs_sets.specs.Matches.{IsOneOf}

-- the statement of the last arm that the selector can take
abbrev pub last_possible : (ℕ → E.Expression) → CaseKind → ℕ → Bool → E.Expression → Option ℕ → List Arm → Option ℕ
last_possible tree kind w g subject last [] = last
last_possible tree kind w g subject last (arm ∷ arms) = last_possible tree kind w g subject (if is_possible kind w g subject (E.items_of (map tree arm.items)) then Some arm.statement else last) arms

-- the same of a case with this default
abbrev pub last_arm : Arena → CaseKind → ℕ → List Arm → Option ℕ → Option ℕ
last_arm a kind of arms other =
    let subject = tree_of a of in
    let all = arms_of a other arms in
    last_possible (tree_of a) kind (case_width subject all) (case_sign subject all) subject None arms

-- the default of a case: where the case is full, what that arm does
abbrev pub other_of : Arena → CaseKind → ℕ → List Arm → Option ℕ → Option ℕ
other_of a kind of arms other = if is_full (design_of a) kind (tree_of a of) (arms_of a other arms) then last_arm a kind of arms other else other

-- a statement as it stands, or completed
abbrev pub done : Bool → Arena → ℕ → T.Statement
done complete a s = if complete then completed (design_of a) (statement_of a s) else statement_of a s

-- its node, with the default that it has then
abbrev pub node_done : Bool → Arena → Statement → Statement
node_done complete a (S.Case kind of arms other) = S.Case kind of arms (if complete then other_of a kind of arms other else other)
node_done complete a n = n

-- statement t is s, or a part of it
pub data Under (a : Arena) : ℕ → ℕ → Type 0 where
  itself : {s t : ℕ} → s ≡ t → Under a s t
  within : {s t : ℕ} (p : ℕ) (n : Statement) → statement_at a s ≡ Some n → contains (statement_statements n) p ≡ true → Under a p t → Under a s t

-- the default of case s in a table
abbrev pub default_in : List (Option ℕ) → ℕ → Option ℕ
default_in others s = slice_index_or others s None

-- where statements run as completed ones, the table has for each case in statement s the default that it has then
abbrev pub AreDefaults : Arena → Bool → List (Option ℕ) → ℕ → Type 0
AreDefaults a complete others s = complete ≡ true → (t : ℕ) → Under a s t → (kind : CaseKind) (of : ℕ) (arms : List Arm) (other : Option ℕ) → statement_at a t ≡ Some (S.Case kind of arms other) → default_in others t ≡ other_of a kind of arms other

-- and in a branch
abbrev pub HasDefaults : Arena → Bool → List (Option ℕ) → Option ℕ → Type 0
HasDefaults a complete others None = Unit {0}
HasDefaults a complete others (Some s) = AreDefaults a complete others s

-- a default that a case may have then: what it has as it stands, or what an arm does, or none
abbrev pub IsNext : List Arm → Option ℕ → Option ℕ → Type 0
IsNext arms other next = (next ≡ None) ⊎ IsOneOf arms other next
