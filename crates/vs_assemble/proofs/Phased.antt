-- The phases of a design's calls.
use Rattle.std.proofs.Common.{◌≡◌, ℕ, Bool, List, [], ◌∷◌, ◌++◌, ◌||◌, if◌then◌else◌, length, sym, ap, ◌∙◌, subst, refl, append-nil}
use Rattle.std.specs.List.{All, list_any}
use Rattle.std.proofs.lemmas.List.Elements.{All-nil, All-cons}
use Rattle.vs_design.specs.Designs.{Design}
use Rattle.vs_design.specs.Footprints.{contains}
use Rattle.vs_design.specs.Sizes.{register_bits}
use Rattle.vs_cone.specs.Cones.{cone, needs_at, writes_at, is_touched}
use Rattle.vs_cone.specs.Given.{fall_bits}
use Rattle.vs_code.specs.Calls.{Call}
use Rattle.vs_program.specs.declared.compiled.Run.{Run}
use Rattle.vs_program.specs.declared.compiled.Phases.{Phases}
use Rattle.vs_program.specs.declared.compiled.Phase.{Phase}
use Rattle.vs_program.specs.declared.compiled.Phase.TheVariants.{First, Fall, Next, Rise}
use Rattle.vs_program.specs.Lowered.{Layout}
use Rattle.vs_program.specs.Phases.{IsRunWithin, calls_of_run, calls_of_runs, runs_at}
use Rattle.vs_program.specs.Made.{AreCallsOf, fall_processes, rise_processes}
use Rattle.vs_assemble.specs.declared.assembling.Lowered.{Lowered}
use Rattle.vs_assemble.specs.Plans.{IsPlanOf}
use Rattle.vs_assemble.specs.Runs.{AreJoinedRuns, AreRunsOf}
use Rattle.vs_assemble.specs.Together.{ArePhasesOf, IsLoweredDesign}
use Rattle.vs_assemble.proofs.Lists.{contains-append}
use Rattle.vs_assemble.proofs.Running.{runs_within, runs_calls}

-- a cone depends on which bits the list has
any_same : (bs cs xs : List ℕ) → ((b : ℕ) → contains bs b ≡ contains cs b) → list_any (contains bs) xs ≡ list_any (contains cs) xs
any_same bs cs [] same = refl
any_same bs cs (x ∷ xs) same = ap (λ u. u || list_any (contains bs) xs) (same x) ∙ ap (λ v. contains cs x || v) (any_same bs cs xs same)

more_same : (ws bs cs : List ℕ) → ((b : ℕ) → contains bs b ≡ contains cs b) → (b : ℕ) → contains (ws ++ bs) b ≡ contains (ws ++ cs) b
more_same ws bs cs same b = contains-append ws bs b ∙ ap (λ v. contains ws b || v) (same b) ∙ sym (contains-append ws cs b)

pub cone_same : (d : Design) (bs cs order : List ℕ) → ((b : ℕ) → contains bs b ≡ contains cs b) → cone d bs order ≡ cone d cs order
cone_same d bs cs [] same = refl
cone_same d bs cs (p ∷ order) same =
    ap (λ (c : Bool). if c then (p ∷ cone d (writes_at d p ++ bs) order) else cone d bs order) (any_same bs cs (needs_at d p) same)
    ∙ ap (λ (ps : List ℕ). if is_touched d cs p then (p ∷ ps) else cone d bs order) (cone_same d (writes_at d p ++ bs) (writes_at d p ++ cs) order (more_same (writes_at d p) bs cs same))
    ∙ ap (λ (ps : List ℕ). if is_touched d cs p then (p ∷ cone d (writes_at d p ++ cs) order) else ps) (cone_same d bs cs order same)

one_within : (count : ℕ) (r : Run) → IsRunWithin count r → All (IsRunWithin count) (r ∷ [])
one_within count r h = All-cons (IsRunWithin count) r [] h (All-nil (IsRunWithin count))

-- all together
pub phased : (d : Design) (clocks : List ℕ) (l : Layout) (order settling blocks registers falling : List ℕ) → IsPlanOf d clocks order settling blocks registers falling
    → (lowered : Lowered) → IsLoweredDesign d clocks l settling blocks registers lowered
    → (fall rise : List Run) → AreRunsOf d l lowered.program (cone d falling settling) fall → AreRunsOf d l lowered.program (cone d registers settling) rise
    → (phases : Phases) → AreJoinedRuns (lowered.resets ∷ []) lowered.settling.items phases.first.items → AreJoinedRuns (lowered.resets ∷ []) fall phases.fall.items
    → AreJoinedRuns lowered.blocks.items (lowered.copy ∷ []) phases.next.items → AreJoinedRuns [] rise phases.rise.items
    → ArePhasesOf d clocks l order lowered phases
phased d clocks l order settling blocks registers falling plan lowered low fall rise fall_are rise_are phases first_is fall_is next_is rise_is = record {
  within = record { each = within };
  first = first_is.calls lowered.program resets settled ∙ ap (λ (cs : List Call). cs ++ calls_of_runs lowered.program lowered.settling.items) (append-nil (calls_of_run lowered.program lowered.resets));
  settle_fall = calls_of_runs lowered.program fall;
  fall_are = subst (λ (ps : List ℕ). AreCallsOf d l ps (calls_of_runs lowered.program fall)) falls (runs_calls d l lowered.program (cone d falling settling) fall fall_are);
  fall = fall_is.calls lowered.program resets fallen ∙ ap (λ (cs : List Call). cs ++ calls_of_runs lowered.program fall) (append-nil (calls_of_run lowered.program lowered.resets));
  next = next_is.calls lowered.program blocked copied ∙ ap (λ (cs : List Call). calls_of_runs lowered.program lowered.blocks.items ++ cs) (append-nil (calls_of_run lowered.program lowered.copy));
  rise = subst (λ (cs : List Call). AreCallsOf d l (rise_processes d clocks order) cs) (sym (rise_is.calls lowered.program none risen))
      (subst (λ (ps : List ℕ). AreCallsOf d l ps (calls_of_runs lowered.program rise)) rises (runs_calls d l lowered.program (cone d registers settling) rise rise_are));
}
  where
    none : All (IsRunWithin (length lowered.program)) []
    none = All-nil (IsRunWithin (length lowered.program))

    resets : All (IsRunWithin (length lowered.program)) (lowered.resets ∷ [])
    resets = one_within (length lowered.program) lowered.resets low.resets_within

    copied : All (IsRunWithin (length lowered.program)) (lowered.copy ∷ [])
    copied = one_within (length lowered.program) lowered.copy low.copy_within

    settled : All (IsRunWithin (length lowered.program)) lowered.settling.items
    settled = runs_within d l lowered.program settling lowered.settling.items low.settling_are

    blocked : All (IsRunWithin (length lowered.program)) lowered.blocks.items
    blocked = runs_within d l lowered.program blocks lowered.blocks.items low.blocks_are

    fallen : All (IsRunWithin (length lowered.program)) fall
    fallen = runs_within d l lowered.program (cone d falling settling) fall fall_are

    risen : All (IsRunWithin (length lowered.program)) rise
    risen = runs_within d l lowered.program (cone d registers settling) rise rise_are

    falls : cone d falling settling ≡ fall_processes d clocks order
    falls = cone_same d falling (fall_bits d clocks) settling plan.falling_are.same ∙ ap (cone d (fall_bits d clocks)) plan.settling_are

    rises : cone d registers settling ≡ rise_processes d clocks order
    rises = cone_same d registers (register_bits d.processes) settling plan.registers_are.has ∙ ap (cone d (register_bits d.processes)) plan.settling_are

    within : (phase : Phase) → All (IsRunWithin (length lowered.program)) (runs_at phases phase)
    within First = first_is.within (length lowered.program) resets settled
    within Fall = fall_is.within (length lowered.program) resets fallen
    within Next = next_is.within (length lowered.program) blocked copied
    within Rise = rise_is.within (length lowered.program) none risen
