-- The form of a block with a reset.
use Rattle.std.specs.Prelude.{ℕ, if◌then◌else◌, Option, None, Some}
use Rattle.vs_design.specs.Statements.{Statement, If}
use Rattle.vs_design.specs.Designs.{Edge}
use Rattle.vs_design.specs.Resets.{is_condition}

-- the first branch of an `if` with this condition
abbrev pub if_branch : Edge → ℕ → Statement → Option Statement
if_branch edge b (If c taken other) = if is_condition edge b c then Some taken else None
if_branch edge b _ = None
