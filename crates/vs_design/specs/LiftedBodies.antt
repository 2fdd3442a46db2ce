-- The sets of values that the bits may have after a statement with blocking assignments: `lifted_body`, which stands beside `lifted`, and its parts.
use Rattle.std.specs.Prelude.{ℕ, Bool, List}
use Rattle.vs_design.specs.Expressions.{Expression, Items}
use Rattle.vs_design.specs.Statements.{Target, target_width, CaseKind}
use Rattle.vs_design.specs.Sets.{Set4}
use Rattle.vs_design.specs.Lifted.{Family, lifted_items, assigned_sets}
pub use Rattle.vs_design.specs.LiftedParts.{put_each, widen, write_sets, either, join_branches, match_bit, matches_of, join_arms}
pub use Rattle.vs_design.specs.Lifted.{lifted_body, lifted_arms}

abbrev pub assign_sets : Target → Expression → Family → Family
assign_sets target e sets = write_sets target (assigned_sets e (target_width target) sets) sets

-- the match sets of an arm's items
abbrev pub item_sets : CaseKind → ℕ → Bool → List Set4 → Items → Family → List Set4
item_sets kind w s subject items sets = matches_of kind subject (lifted_items items w s sets)
