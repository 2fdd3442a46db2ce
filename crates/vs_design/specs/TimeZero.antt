-- The sets of values at time zero, and the rule TimeZero: a combinational block that might not be started before its nets settle has to be quiet, to be woken, or surely to sleep.
use Rattle.std.specs.Prelude.{ℕ, Bool, true, not, ◌&&◌, List, [], ◌∷◌, if◌then◌else◌, Option, Some, None, slice_get}
use Rattle.std.specs.List.{list_any, list_all}
use Rattle.vs_four.specs.declared.Bit4.TheVariants.{Zero, X}
use Rattle.vs_design.specs.Statements.{Statement}
use Rattle.vs_design.specs.Designs.{Process, Continuous, Always, is_combinational, Design}
use Rattle.vs_design.specs.Footprints.{contains, waits_of, statement_bits, input_bits}
use Rattle.vs_design.specs.Initials.{first_value, start_value}
use Rattle.vs_design.specs.Clocks.{own_clocks}
use Rattle.vs_design.specs.Resets.{with_resets}
use Rattle.vs_design.specs.Sleepers.{is_sleeping}
use Rattle.vs_design.specs.Selects.{is_lenient, meant, is_lenient_block}
use Rattle.vs_design.specs.Sets.{Set4, only, known_set, any_value, union, is_only_x, is_unknown_set, is_known_set}
use Rattle.vs_design.specs.Lifted.{Family}
use Rattle.vs_design.specs.LiftedBodies.{assign_sets, lifted_body}

-- two sets for each bit: `early`, for the moment before the first activation of updates, and `late`, for the end of slot 0
pub record Families : Type 0 where
  pub early : Family
  pub late : Family

-- the early set of a bit that no assign and no combinational block writes: z in a net without driver, x in an input or a variable, or what an initial process writes to it by `=`
abbrev pub early_source : Design → Family
early_source d b = only (first_value d b)

-- its late set: 0 in a clock, 0 or 1 in any other input, else what initial processes leave in it, with the value that a reset gives it last
abbrev pub late_source : Design → List ℕ → Family
late_source d clocks b = if contains (own_clocks d clocks) b then only Zero else (if contains (input_bits d) b then known_set else with_resets d clocks d.processes b (only (start_value d b)))

-- a block's own bits may have any value when it begins: without latches each is assigned before it is read
abbrev pub before_run : List ℕ → Family → Family
before_run own sets b = if contains own b then any_value else sets b

-- the sets at the end of a block's statement
abbrev pub block_sets : Statement → Family → Family
block_sets s sets = lifted_body s (before_run (statement_bits s) sets)

-- a block is quiet where the sets of the bits that it writes are all exactly {x} at its end
abbrev pub is_quiet : Statement → Family → Bool
is_quiet s early = list_all (λ b. is_only_x (block_sets s early b)) (statement_bits s)

-- the early set of a bit after a block's turn: of its own bits x alone where the block sleeps, any value where it is lenient, since its selectors are unknown then, else that at its end, with x added unless the block is quiet
abbrev pub early_end : Bool → Bool → Bool → Bool → Set4 → Set4 → Set4
early_end own asleep lenient quiet end before = if own then (if asleep then only X else (if lenient then any_value else (if quiet then end else union (only X) end))) else before

-- and its late set: of its own bits that at its end, with x added where the block sleeps
abbrev pub late_end : Bool → Bool → Set4 → Set4 → Set4
late_end own asleep end before = if own then (if asleep then union (only X) end else end) else before

-- the families after a process's turn
abbrev pub settle_early : Bool → Bool → Process → Family → Family
settle_early asleep lenient (Continuous place port target_place target e) sets b = assign_sets target e sets b
settle_early asleep lenient (Always place star events s) sets b = early_end (contains (statement_bits s) b) asleep lenient (is_quiet s sets) (block_sets s sets b) (sets b)

abbrev pub settle_late : Bool → Process → Family → Family
settle_late asleep (Continuous place port target_place target e) sets b = assign_sets target e sets b
settle_late asleep (Always place star events s) sets b = late_end (contains (statement_bits s) b) asleep (block_sets s sets b) (sets b)

abbrev pub settle : Bool → Bool → Process → Families → Families
settle asleep lenient p f = record { early = settle_early asleep lenient p f.early; late = settle_late asleep p f.late }

-- the process with the statement that the rules take it to have
abbrev pub meant_process : Design → Process → Process
meant_process d (Continuous place port target_place target e) = Continuous place port target_place target e
meant_process d (Always place star events s) = Always place star events (meant d s)

abbrev pub settle_some : Design → Option Process → Families → Families
settle_some d None f = f
settle_some d (Some p) f = settle (is_sleeping d p) (is_lenient_block p) (meant_process d p) f

abbrev pub families_along : Design → List ℕ → Families → Families
families_along d [] f = f
families_along d (p ∷ order) f = families_along d order (settle_some d (slice_get d.processes p) f)

-- the families after all turns of a level order
abbrev pub families : Design → List ℕ → List ℕ → Families
families d clocks order = families_along d order (record { early = early_source d; late = late_source d clocks })

-- a block wakes where some bit of its waits has an early set within {x, z} and a late one within {0, 1}
abbrev pub wakes : Families → Process → Bool
wakes f p = list_any (λ b. is_unknown_set (f.early b) && is_known_set (f.late b)) (waits_of p)

-- no lenient block is quiet
abbrev pub quiet_process : Families → Process → Bool
quiet_process f (Continuous place port target_place target e) = true
quiet_process f (Always place star events s) = not (is_lenient s) && is_quiet s f.early

-- the rule TimeZero: a combinational block neither sleeps, nor is quiet, nor wakes
abbrev pub is_uncertain : Design → Families → Process → Bool
is_uncertain d f p = is_combinational p && not (is_sleeping d p) && not (quiet_process f p) && not (wakes f p)
