-- What is put together is a program of the design.
use Rattle.std.proofs.Common.{◌≡◌, ◌≢◌, ℕ, zero, suc, ◌+◌, ◌-◌, ◌<◌, ◌≤◌, true, List, [], ◌∷◌, ◌++◌, length, get_or, take, drop, max, replicate, sym, ap, ◌∙◌, subst, arith, length-append}
use Rattle.std.specs.List.{All, Any}
use Rattle.std.proofs.lemmas.List.{length-replicate, take-append-drop}
use Rattle.std.proofs.lemmas.List.Concat.{flat_map-append}
use Rattle.std.proofs.lemmas.List.Elements.{All-nil, All-append, All-take, All-drop, All-weaker}
use Rattle.std.proofs.Math.Seq.{take-append_seam, drop-append_seam}
use Rattle.vs_four.specs.declared.Bit4.{Bit4}
use Rattle.vs_four.specs.declared.Bit4.TheVariants.{Zero, X}
use Rattle.vs_design.specs.Designs.{Design}
use Rattle.vs_design.specs.Levels.{is_level_order}
use Rattle.vs_code.specs.Calls.{Call, call_slots, slots_of}
use Rattle.vs_program.specs.declared.compiled.Run.{Run}
use Rattle.vs_program.specs.declared.compiled.Phases.{Phases}
use Rattle.vs_program.specs.Lowered.{Layout, HasConstants}
use Rattle.vs_program.specs.Layouts.{slots_of_design, mask_of}
use Rattle.vs_program.specs.Phases.{calls_of_run, calls_of_runs}
use Rattle.vs_program.specs.Program.{Program, AreIn, IsInRange, values, initial_slots}
use Rattle.vs_program.specs.Compiled.{IsProgramOf, IsAcceptedAt}
use Rattle.vs_program.specs.Made.{AreCallsOf, AreResetsOf, rise_processes, IsMadeOf, ProgramsAreMade, ProgramsAreInRange}
use Rattle.vs_assemble.specs.declared.assembling.Lowered.{Lowered}
use Rattle.vs_assemble.specs.Plans.{AreStarts, IsFrameOf, IsPlanOf, IsTightLayout, begin_bits}
use Rattle.vs_assemble.specs.Together.{ArePhasesOf, IsLoweredDesign}
use Rattle.vs_assemble.proofs.Begins.{begin_length, constants_are, starts_are, masks_are}
use Rattle.vs_assemble.proofs.Running.{runs_calls}

-- ---- slots

first_part : (P : ℕ → Type 0) (xs ys : List ℕ) → All P (xs ++ ys) → All P xs
first_part P xs ys h = subst (All P) (take-append_seam xs ys) (All-take P (length xs) (xs ++ ys) h)

second_part : (P : ℕ → Type 0) (xs ys : List ℕ) → All P (xs ++ ys) → All P ys
second_part P xs ys h = subst (All P) (drop-append_seam xs ys) (All-drop P (length xs) (xs ++ ys) h)

split_at : (n : ℕ) (calls : List Call) → slots_of calls ≡ slots_of (take n calls) ++ slots_of (drop n calls)
split_at n calls = ap slots_of (sym (take-append-drop n calls)) ∙ flat_map-append call_slots (take n calls) (drop n calls)

run_in : (count : ℕ) (calls : List Call) (r : Run) → AreIn count calls → AreIn count (calls_of_run calls r)
run_in count calls r h =
    let P : ℕ → Type 0 = λ slot. slot < count in
    let rest : AreIn count (drop r.from calls) = second_part P (slots_of (take r.from calls)) (slots_of (drop r.from calls)) (subst (All P) (split_at r.from calls) h) in
    first_part P (slots_of (take (r.to - r.from) (drop r.from calls))) (slots_of (drop (r.to - r.from) (drop r.from calls))) (subst (All P) (split_at (r.to - r.from) (drop r.from calls)) rest)

-- no run of calls names a slot that they don't name
runs_in : (count : ℕ) (calls : List Call) (runs : List Run) → AreIn count calls → AreIn count (calls_of_runs calls runs)
runs_in count calls [] h = All-nil (λ slot. slot < count)
runs_in count calls (r ∷ rs) h =
    subst (All (λ slot. slot < count)) (sym (flat_map-append call_slots (calls_of_run calls r) (calls_of_runs calls rs)))
    (All-append (λ slot. slot < count) (slots_of (calls_of_run calls r)) (slots_of (calls_of_runs calls rs)) (run_in count calls r h) (runs_in count calls rs h))

-- a number that is one above a slot, or 0, is within the slots that there may be
least_within : (limit n : ℕ) (slots : List ℕ) → All (λ slot. slot < limit) slots → (n ≢ 0 → Any (λ slot. slot + 1 ≡ n) slots) → n ≤ limit
least_within limit zero slots h k = omega arith
least_within limit (suc n) slots h k =
    let some = k (λ e. absurd (omega (arith, e))) in
    let low : some.1 < limit = subst (λ slot. slot < limit) some.3 (h some.0 some.1 some.2) in
    omega (arith, low, some.4)

-- there are no more slots than the design may have
count_within : (d : Design) (l : Layout) → IsTightLayout d l → (calls : List Call) (n : ℕ) → AreIn (slots_of_design d) calls → (n ≢ 0 → Any (λ slot. slot + 1 ≡ n) (slots_of calls))
    → max n l.first_temp ≤ slots_of_design d
count_within d l tight calls n h k = let own = least_within (slots_of_design d) n (slots_of calls) h k in omega (arith, own, tight.first)

-- the slots of the bits lie below the temporaries
pub bits_below : (d : Design) (l : Layout) → IsTightLayout d l → (begin : List Bit4) → ((starts : List Bit4) × AreStarts d starts × (begin ≡ begin_bits starts)) → length begin ≤ l.first_temp
bits_below d l tight begin is = let long = begin_length d is.0 is.1 in let same = ap length is.2 in omega (arith, tight.first, long, same)

-- ---- the program

finished : ProgramsAreMade → ProgramsAreInRange → (d : Design) (clocks : List ℕ) → IsAcceptedAt d clocks → (order : List ℕ) → is_level_order d order ≡ true
    → (l : Layout) → IsTightLayout d l → (settling blocks registers falling : List ℕ) → IsPlanOf d clocks order settling blocks registers falling
    → (lowered : Lowered) → IsLoweredDesign d clocks l settling blocks registers lowered → (phases : Phases) → ArePhasesOf d clocks l order lowered phases
    → (count : ℕ) → l.first_temp ≤ count → AreIn count lowered.program → count ≤ slots_of_design d
    → (begin : List Bit4) (p : Program) → IsFrameOf d clocks p.bits p.clocks p.inputs p.nets begin p.signals → p.initial ≡ begin ++ replicate (count - length begin) Zero
    → p.first ≡ calls_of_runs lowered.program phases.first.items → p.fall ≡ calls_of_runs lowered.program phases.fall.items
    → p.next ≡ calls_of_runs lowered.program phases.next.items → p.rise ≡ calls_of_runs lowered.program phases.rise.items
    → IsInRange p × IsProgramOf d clocks p
finished makes ranges d clocks at order ordered l tight settling blocks registers falling plan lowered low phases phased count temps slots few begin p frame initial first fall next rise =
    subst (λ c. IsMadeOf d c order registers l p → IsInRange p × IsProgramOf d c p) at.clocks_are
    (λ made. (ranges d at.names at.accepted order ordered l tight.layout registers p made, makes d at.names at.accepted order ordered l tight.layout registers p made))
    made_of
  where
    starts : List Bit4
    starts = frame.initial_is.0

    are : AreStarts d starts
    are = frame.initial_is.1

    pad : ℕ
    pad = count - length (begin_bits starts)

    begins : p.initial ≡ begin_bits starts ++ replicate pad Zero
    begins = initial ∙ ap (λ (bs : List Bit4). bs ++ replicate (count - length bs) Zero) frame.initial_is.2

    slots_are : initial_slots p ≡ (λ slot. get_or (begin_bits starts ++ replicate pad Zero) slot X)
    slots_are = ap (λ (bs : List Bit4). λ (slot : ℕ). get_or bs slot X) begins

    long : length p.initial ≡ count
    long =
        let at_first = begin_length d starts are in
        let padding = length-replicate pad Zero in
        let both = length-append (begin_bits starts) (replicate pad Zero) in
        let same : length p.initial ≡ length (begin_bits starts ++ replicate pad Zero) = ap length begins in
        omega (arith, same, both, padding, temps, tight.first, at_first)

    part_in : (runs : List Run) (calls : List Call) → calls ≡ calls_of_runs lowered.program runs → AreIn (length p.initial) calls
    part_in runs calls is = subst (λ n. AreIn n calls) (sym long) (subst (AreIn count) (sym is) (runs_in count lowered.program runs slots))

    made_of : IsMadeOf d clocks order registers l p
    made_of = record {
      bits = frame.bits_are;
      clocks_are = frame.clocks_are;
      inputs = frame.inputs_are;
      nets = frame.nets_are;
      registers = plan.registers_are;
      signals = frame.signals_are;
      constants = subst HasConstants (sym slots_are) (constants_are d starts are pad);
      starts = ap (values p.bits clocks X) slots_are
          ∙ ap (λ n. values n clocks X (λ slot. get_or (begin_bits starts ++ replicate pad Zero) slot X)) frame.bits_are
          ∙ starts_are d starts are pad clocks;
      masks = λ q h.
          ap (λ (bs : List Bit4). get_or bs (mask_of d q) X) begins
          ∙ masks_are d starts are pad (let at_first = begin_length d starts are in omega (arith, at_first, temps, tight.first)) q h;
      resets = calls_of_run lowered.program lowered.resets;
      resets_are = subst (λ ps. AreResetsOf d clocks l ps (calls_of_run lowered.program lowered.resets)) plan.blocks_are low.resets_are;
      resets_again = calls_of_run lowered.program lowered.resets;
      again_are = subst (λ ps. AreResetsOf d clocks l ps (calls_of_run lowered.program lowered.resets)) plan.blocks_are low.resets_are;
      settle_first = calls_of_runs lowered.program lowered.settling.items;
      first_are = subst (λ ps. AreCallsOf d l ps (calls_of_runs lowered.program lowered.settling.items)) plan.settling_are (runs_calls d l lowered.program settling lowered.settling.items low.settling_are);
      first = first ∙ phased.first;
      settle_fall = phased.settle_fall;
      fall_are = phased.fall_are;
      fall = fall ∙ phased.fall;
      blocks = calls_of_runs lowered.program lowered.blocks.items;
      blocks_are = subst (λ ps. AreCallsOf d l ps (calls_of_runs lowered.program lowered.blocks.items)) plan.blocks_are (runs_calls d l lowered.program blocks lowered.blocks.items low.blocks_are);
      next = next ∙ phased.next ∙ ap (λ (cs : List Call). calls_of_runs lowered.program lowered.blocks.items ++ cs) low.copy_is;
      rise = subst (λ (cs : List Call). AreCallsOf d l (rise_processes d clocks order) cs) (sym rise) phased.rise;
      slots = omega (arith, temps, long);
      first_in = part_in phases.first.items p.first first;
      fall_in = part_in phases.fall.items p.fall fall;
      next_in = part_in phases.next.items p.next next;
      rise_in = part_in phases.rise.items p.rise rise;
      few_slots = omega (arith, few, long);
    }

-- where there are as many slots as the calls name, or the temporaries begin behind
pub finished_by : ProgramsAreMade → ProgramsAreInRange → (d : Design) (clocks : List ℕ) → IsAcceptedAt d clocks → (order : List ℕ) → is_level_order d order ≡ true
    → (l : Layout) → IsTightLayout d l → (settling blocks registers falling : List ℕ) → IsPlanOf d clocks order settling blocks registers falling
    → (lowered : Lowered) → IsLoweredDesign d clocks l settling blocks registers lowered → (phases : Phases) → ArePhasesOf d clocks l order lowered phases
    → (count named first : ℕ) → count ≡ max named first → first ≡ l.first_temp → All (λ slot. slot < named) (slots_of lowered.program)
    → (named ≢ 0 → Any (λ slot. slot + 1 ≡ named) (slots_of lowered.program))
    → (begin : List Bit4) (p : Program) → IsFrameOf d clocks p.bits p.clocks p.inputs p.nets begin p.signals → p.initial ≡ begin ++ replicate (count - length begin) Zero
    → p.first ≡ calls_of_runs lowered.program phases.first.items → p.fall ≡ calls_of_runs lowered.program phases.fall.items
    → p.next ≡ calls_of_runs lowered.program phases.next.items → p.rise ≡ calls_of_runs lowered.program phases.rise.items
    → IsInRange p × IsProgramOf d clocks p
finished_by makes ranges d clocks at order ordered l tight settling blocks registers falling plan lowered low phases phased count named first is temps enough least begin p frame initial f a n r =
    finished makes ranges d clocks at order ordered l tight settling blocks registers falling plan lowered low phases phased count
    (omega (arith, is, temps))
    (All-weaker (λ slot. slot < named) (λ slot. slot < count) (λ slot k. omega (arith, k, is)) (slots_of lowered.program) enough)
    (let within = count_within d l tight lowered.program named low.slots least in omega (arith, within, is, temps))
    begin p frame initial f a n r
