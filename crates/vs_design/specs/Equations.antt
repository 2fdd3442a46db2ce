-- The equations of the sets of values at time zero.
use Rattle.std.specs.Prelude.{◌≡◌, ℕ, Bool, true, false, List, Some, slice_get}
use Rattle.std.specs.List.{list_all}
use Rattle.vs_four.specs.declared.Bit4.TheVariants.{X}
use Rattle.vs_design.specs.Expressions.{Expression}
use Rattle.vs_design.specs.Statements.{Target, Statement}
use Rattle.vs_design.specs.Designs.{Event, Port, Process, Continuous, Always, is_clocked, Design}
use Rattle.vs_design.specs.Footprints.{contains, target_bits, statement_bits, writes_of}
use Rattle.vs_design.specs.Sets.{only, any_value, union}
use Rattle.vs_design.specs.LiftedBodies.{assign_sets}
use Rattle.vs_design.specs.Rules.{mixed_assigns, latches, shared_bits}
use Rattle.vs_design.specs.Elaborated.{IsLawfulDesign}
use Rattle.vs_design.specs.Accepted.{is_empty}
use Rattle.vs_design.specs.Sleepers.{is_sleeping}
use Rattle.vs_design.specs.Selects.{is_lenient, meant}
use Rattle.vs_design.specs.TimeZero.{Families, early_source, late_source, block_sets, is_quiet}

-- the design's process p is this combinational block
pub record IsBlock (d : Design) (p : ℕ) (statement : Statement) : Type 0 where
  pub place : ℕ
  pub star : Bool
  pub events : List Event
  pub is : slice_get d.processes p ≡ Some (Always place star events statement)
  pub combinational : is_clocked (Always place star events statement) ≡ false

-- and it sleeps
abbrev pub sleeps : (d : Design) (p : ℕ) (s : Statement) → IsBlock d p s → Bool
sleeps d p s i = is_sleeping d (Always i.place i.star i.events s)

-- no assign and no combinational block writes the bit
abbrev pub IsSource : Design → ℕ → Type 0
IsSource d b = (p : ℕ) (process : Process) → slice_get d.processes p ≡ Some process → is_clocked process ≡ false → contains (writes_of process) b ≡ false

-- the rules under which the equations have one solution
pub record IsOrderly (d : Design) : Type 0 where
  pub lawful : IsLawfulDesign d
  pub unmixed : list_all (λ p. is_empty (mixed_assigns p)) d.processes ≡ true
  pub no_latch : list_all (λ p. is_empty (latches d p)) d.processes ≡ true
  pub one_driver : is_empty (shared_bits d) ≡ true

pub record IsSolved (d : Design) (clocks : List ℕ) (f : Families) : Type 0 where
  -- sources have their own sets
  pub source : (b : ℕ) → IsSource d b → (f.early b ≡ early_source d b) × (f.late b ≡ late_source d clocks b)
  -- an assign's bits have the lifted value in both
  pub assign : (p place : ℕ) (port : Port) (target_place : ℕ) (target : Target) (e : Expression) → slice_get d.processes p ≡ Some (Continuous place port target_place target e)
      → (b : ℕ) → contains (target_bits target) b ≡ true → (f.early b ≡ assign_sets target e f.early b) × (f.late b ≡ assign_sets target e f.late b)
  -- a block's bits have late what they have at its end
  pub block : (p : ℕ) (s : Statement) (i : IsBlock d p s) → sleeps d p s i ≡ false → (b : ℕ) → contains (statement_bits s) b ≡ true → f.late b ≡ block_sets (meant d s) f.late b
  -- and early too, with x added unless it is quiet; but any value where it is lenient
  pub lenient : (p : ℕ) (s : Statement) (i : IsBlock d p s) → sleeps d p s i ≡ false → is_lenient s ≡ true → (b : ℕ) → contains (statement_bits s) b ≡ true → f.early b ≡ any_value
  pub quiet : (p : ℕ) (s : Statement) (i : IsBlock d p s) → sleeps d p s i ≡ false → is_lenient s ≡ false → is_quiet s f.early ≡ true → (b : ℕ) → contains (statement_bits s) b ≡ true → f.early b ≡ block_sets s f.early b
  pub stirred : (p : ℕ) (s : Statement) (i : IsBlock d p s) → sleeps d p s i ≡ false → is_lenient s ≡ false → is_quiet s f.early ≡ false → (b : ℕ) → contains (statement_bits s) b ≡ true → f.early b ≡ union (only X) (block_sets s f.early b)
  -- a sleeping block's bits are x early, and late x or what they have at its end
  pub asleep : (p : ℕ) (s : Statement) (i : IsBlock d p s) → sleeps d p s i ≡ true → (b : ℕ) → contains (statement_bits s) b ≡ true → (f.early b ≡ only X) × (f.late b ≡ union (only X) (block_sets (meant d s) f.late b))
