-- How many operations a run that is done has made.
use Rattle.std.proofs.Common.{◌≡◌, ℕ, zero, suc, ◌+◌, ◌*◌, ◌<◌, ◌≤◌, Bool, false, None, subst, arith, List}
use Rattle.vs_design.specs.Designs.{Design}
use Rattle.vs_program.specs.Program.{Program, first_stores, fall_stores, rise_stores}
use Rattle.vs_program.specs.Compiled.{IsProgramOf}
use Rattle.vs_stim.specs.Laws.{WholeHasVector}
use Rattle.vs_rounds.specs.Lanes.{Run, reading_of}
use Rattle.vs_rounds.specs.Counts.{vectors_of, greatest_below, AreCounted, TicksRounds}
use Rattle.vs_rounds.specs.Ready.{settling_stores}
use Rattle.vs_top.specs.Headline.{AreStores}

-- a valid stimulus has a vector
pub has_vector : WholeHasVector → (run : Run) (i : ℕ) → (reading_of run i).refusal ≡ None → 0 < vectors_of run i
has_vector law run i whole = law run.ports (run.texts i) whole

at_most_greatest : (k : ℕ) (f : ℕ → ℕ) → 0 < k → f 0 ≤ greatest_below k f
at_most_greatest zero f some = absurd (omega arith)
at_most_greatest (suc zero) f some = omega arith
at_most_greatest (suc (suc k)) f some =
    let before : f 0 ≤ greatest_below (suc k) f = at_most_greatest (suc k) f (omega arith) in
    omega (arith, before)

-- so some slot was settled
pub some_settling : (run : Run) (lanes vectors settlings : ℕ) → 0 < lanes → 0 < vectors_of run 0 → AreCounted run lanes vectors settlings → 0 < settlings
some_settling run lanes vectors settlings some vector h =
    let most = at_most_greatest lanes (vectors_of run) some in
    let count = h.settlings_are in
    omega (arith, most, vector, count)

-- the steps of all rounds, as a number of stores
stores_of : (first fall rise k before after operations : ℕ) → after + fall ≡ before + first + suc k * (fall + rise) → after ≡ before + operations
    → operations ≡ first + k * fall + (k + 1) * rise
stores_of first fall rise k before after operations ticked made =
    let split : suc k * (fall + rise) ≡ fall + k * fall + (k + 1) * rise = grind arith in
    omega (arith, ticked, made, split)

pub are_stores : (d : Design) (clocks : List ℕ) (p : Program) → IsProgramOf d clocks p → (begun : Bool) → begun ≡ false → (rounds settlings operations before after : ℕ)
    → settlings ≡ 2 * rounds → 0 < settlings → TicksRounds p begun rounds before after → after ≡ before + operations → AreStores d clocks settlings operations
are_stores d clocks p is begun idle zero settlings operations before after two some ticked made = absurd (omega (arith, two, some))
are_stores d clocks p is begun idle (suc k) settlings operations before after two some ticked made =
    let made_by = subst (λ (b : Bool). after + fall_stores p ≡ before + settling_stores p b + suc k * (fall_stores p + rise_stores p)) idle (ticked.some (omega arith)) in
    record {
      program = p;
      is_program = is;
      later = k;
      settlings_are = omega (arith, two);
      operations_are = stores_of (first_stores p) (fall_stores p) (rise_stores p) k before after operations made_by made;
    }
