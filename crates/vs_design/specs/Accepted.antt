-- An accepted design, as far as it is a matter of the elaborated one: it breaks no rule.
use Rattle.std.specs.Prelude.{◌≡◌, ℕ, ◌≤◌, Bool, true, false, List, [], ◌∷◌, Some}
use Rattle.std.specs.List.{list_any, list_all}
use Rattle.vs_design.specs.Expressions.{Signal}
use Rattle.vs_design.specs.Designs.{Design}
use Rattle.vs_design.specs.Fits.{fits_process, fits_initial}
use Rattle.vs_design.specs.Elaborated.{IsLawfulDesign}
use Rattle.vs_design.specs.Sizes.{size}
use Rattle.vs_design.specs.Rules.{function_latches, mixed_assigns, missing_bits, latches, shared_bits}
use Rattle.vs_design.specs.Initials.{has_other_start, clashed_bits}
use Rattle.vs_design.specs.Clocks.{clock_inputs, clock_bits, clock_nets, root_of, reads_clock, has_other_clock}
use Rattle.vs_design.specs.Resets.{has_other_form}
use Rattle.vs_design.specs.Levels.{level_order, has_no_cycle}
use Rattle.vs_design.specs.Races.{has_no_race}
use Rattle.vs_design.specs.TimeZero.{families, is_uncertain}

abbrev pub is_empty : List ℕ → Bool
is_empty [] = true
is_empty (b ∷ bs) = false

-- with clock inputs of these names, or without a clock
pub record IsAcceptedDesign (d : Design) (names : List (List ℕ)) : Type 0 where
  pub lawful : IsLawfulDesign d
  -- TooWide, Division
  pub fit : list_all fits_process d.processes ≡ true
  pub fit_initials : list_all fits_initial d.initials ≡ true
  -- TooLarge
  pub small : size d ≤ 16777216
  -- FunctionLatch
  pub no_function_latch : is_empty (function_latches d.functions) ≡ true
  -- InitialForm
  pub initial_form : list_any has_other_start d.initials ≡ false
  -- MixedAssign
  pub unmixed : list_all (λ p. is_empty (mixed_assigns p)) d.processes ≡ true
  -- Sensitivity
  pub sensitive : list_all (λ p. is_empty (missing_bits p)) d.processes ≡ true
  -- Latch
  pub no_latch : list_all (λ p. is_empty (latches d p)) d.processes ≡ true
  -- TwoDrivers
  pub one_driver : is_empty (shared_bits d) ≡ true
  pub no_clash : is_empty (clashed_bits d) ≡ true
  -- NoClock
  pub clocks : List Signal
  pub clocks_found : clock_inputs d names ≡ Some clocks
  -- ClockRead
  pub clock_unread : list_any (reads_clock (clock_nets d (clock_bits clocks))) d.processes ≡ false
  -- NotTheClock
  pub one_clock : list_any (has_other_clock (clock_nets d (clock_bits clocks)) (root_of d (clock_bits clocks))) d.processes ≡ false
  -- ResetForm
  pub reset_forms : list_any (has_other_form (clock_nets d (clock_bits clocks)) (root_of d (clock_bits clocks))) d.processes ≡ false
  -- Cycle
  pub no_cycle : has_no_cycle d ≡ true
  -- Race
  pub no_race : has_no_race d ≡ true
  -- TimeZero
  pub awake : list_any (is_uncertain d (families d (clock_bits clocks) (level_order d))) d.processes ≡ false
