use Rattle.std.proofs.Common.{◌≡◌, ◌<◌, ℕ, List, Vec, Global, Result, Ok, Option, Some, None, length, sym, ap, ◌∙◌, subst}
use Rattle.std.specs.Prelude.{slice_get, IfOk, map}
use Rattle.vs_design.specs.Elaborated.{IsLawfulDesign}
use Rattle.vs_design.specs.Clocks.{clock_inputs, clock_bits, clock_nets, root_of, reads_clock, has_other_clock}
use Rattle.vs_design.specs.Designs.{bit_count}
use Rattle.vs_design.specs.Resets.{reset_inputs}
use Rattle.vs_flat.specs.Arena.{Arena}
use Rattle.vs_flat.specs.DesignOf.{design_of}
use Rattle.vs_flat.specs.Lawful.{IsLawful}
use Rattle.vs_reads.specs.Footprint.{footprints_of}
use Rattle.vs_clock.specs.Clocked.{AreResets, AreClocksOf}
use Rattle.vs_clock.specs.Inputs.{AreClockBits}
use Rattle.vs_clock.specs.Nets.{AreNets}
use Rattle.vs_clock.specs.declared.resets.Forms.{Forms}
use Rattle.vs_clock.specs.declared.resets.Reset.{Reset}
use Rattle.vs_clock.specs.Found.{AreForms}
use Rattle.vs_clock.specs.Resets.{AreAllResets, HasInputs}
use Rattle.vs_clock.specs.Tests.{IsFirst}
use Rattle.vs_reads.proofs.ByKind.{place_at_is}
use Rattle.vs_clock.proofs.Resetting.{have_inputs}
use Rattle.vs_clock.proofs.Refusing.{no_clock, inputs_given, none_named, is_read, is_other, is_formless, none_refused, clocks_below, in_flat, carried, first_there}
use Rattle.vs_clock.proofs.clocked.check.Goals as goal

found_value : {E : Type 0} (r : Result (Vec ℕ Global) E) (v : Vec ℕ Global) (bits : List ℕ) → r ≡ Ok v → IfOk r (λ v. v.items ≡ bits) → v.items ≡ bits
found_value r v bits e h = subst (λ r. IfOk r (λ v. v.items ≡ bits)) e h

pub of-requires-clause-lawful : goal.of-requires-clause-lawful
of-requires-clause-lawful c = subst IsLawful (sym c.flat-flat.ensures.same) c.flat-flat.ensures.lawful

pub of-requires-clause-clocks : goal.of-requires-clause-clocks
of-requires-clause-clocks c = subst (λ (m : List ℕ). AreClockBits (design_of c.flat-flat.result.now) m) (sym c.as_slice.ensures.value) (clocks_below (design_of c.flat-flat.result.now) (subst (λ (a : Arena). IsLawfulDesign (design_of a)) (sym c.flat-flat.ensures.same) c.flat-flat.ensures.lawful.design) (map (λ n. n.now) c.args.clocks.now) c.in-Some.inputs.numbers.items c.in-Some.inputs.bits.items (inputs_given (design_of c.flat-flat.result.now) (map (λ n. n.now) c.args.clocks.now) c.in_ok-found.found c.in-Some.inputs c.in_ok-found.ensures c.in-Some.is))

pub returns-in-None-clause-refused : goal.returns-in-None-clause-refused
returns-in-None-clause-refused c =
    no_clock (design_of c.args.typed.now) (map (λ n. n.now) c.args.clocks.now) (sym (subst (λ (a : Arena). clock_inputs (design_of a) (map (λ n. n.now) c.args.clocks.now) ≡ None) c.flat-flat.ensures.same (none_named (design_of c.flat-flat.result.now) (map (λ n. n.now) c.args.clocks.now) c.in_ok-found.found c.in_ok-found.ensures c.in-None.is)))

pub first_reading-requires-clause-lawful : goal.first_reading-requires-clause-lawful
first_reading-requires-clause-lawful c = subst IsLawful (sym c.flat-flat.ensures.same) c.flat-flat.ensures.lawful

pub first_reading-requires-clause-footprints : goal.first_reading-requires-clause-footprints
first_reading-requires-clause-footprints c = c.requires ∙ ap (λ a. footprints_of (design_of a)) (sym c.flat-flat.ensures.same)

pub process-requires : goal.process-requires
process-requires c =
    let k = in_flat c.flat-flat.result.now c.args.typed.now c.flat-flat.ensures.same (map (λ n. n.now) c.args.clocks.now) c.in-Some.inputs.numbers.items c.in-Some.inputs.bits.items (inputs_given (design_of c.flat-flat.result.now) (map (λ n. n.now) c.args.clocks.now) c.in_ok-found.found c.in-Some.inputs c.in_ok-found.ensures c.in-Some.is) in
    let d = design_of c.args.typed.now in
    subst (λ (a : Arena). c.in-Some-first_reading.process < length a.processes) (sym c.flat-flat.ensures.same) (subst (λ n. c.in-Some-first_reading.process < n) (c.trees_law.ensures.counts c.args.typed.now).processes (first_there d _ c.in-Some-first_reading.process (carried (λ a n. IsFirst (design_of a) (reads_clock (clock_nets (design_of a) n)) (Some c.in-Some-first_reading.process)) c.flat-flat.result.now c.args.typed.now c.in-Some.inputs.bits.items (clock_bits k.signals) c.flat-flat.ensures.same k.bits_are (c.in-Some-first_reading.ensures c.in-Some.inputs.bits.items (subst (λ (m : List ℕ). AreNets (design_of c.flat-flat.result.now) m c.in_ok-nets.nets) c.as_slice.ensures.value c.in_ok-nets.ensures)))))

pub returns-in-Some-first_reading-clause-refused : goal.returns-in-Some-first_reading-clause-refused
returns-in-Some-first_reading-clause-refused c =
    let k = in_flat c.flat-flat.result.now c.args.typed.now c.flat-flat.ensures.same (map (λ n. n.now) c.args.clocks.now) c.in-Some.inputs.numbers.items c.in-Some.inputs.bits.items (inputs_given (design_of c.flat-flat.result.now) (map (λ n. n.now) c.args.clocks.now) c.in_ok-found.found c.in-Some.inputs c.in_ok-found.ensures c.in-Some.is) in
    let d = design_of c.args.typed.now in
    is_read d (map (λ n. n.now) c.args.clocks.now) k.signals c.in-Some-first_reading.process c.process.result.now.at (sym k.are) (carried (λ a n. IsFirst (design_of a) (reads_clock (clock_nets (design_of a) n)) (Some c.in-Some-first_reading.process)) c.flat-flat.result.now c.args.typed.now c.in-Some.inputs.bits.items (clock_bits k.signals) c.flat-flat.ensures.same k.bits_are (c.in-Some-first_reading.ensures c.in-Some.inputs.bits.items (subst (λ (m : List ℕ). AreNets (design_of c.flat-flat.result.now) m c.in_ok-nets.nets) c.as_slice.ensures.value c.in_ok-nets.ensures))) (place_at_is c.trees_law.ensures.processes c.args.typed.now c.in-Some-first_reading.process c.process.result.now (subst (λ (a : Arena). slice_get a.processes c.in-Some-first_reading.process ≡ Some c.process.result.now) c.flat-flat.ensures.same c.process.ensures))

pub first_other-requires : goal.first_other-requires
first_other-requires c = subst IsLawful (sym c.flat-flat.ensures.same) c.flat-flat.ensures.lawful

pub process-requires-in-Some-first_other : goal.process-requires-in-Some-first_other
process-requires-in-Some-first_other c =
    let k = in_flat c.flat-flat.result.now c.args.typed.now c.flat-flat.ensures.same (map (λ n. n.now) c.args.clocks.now) c.in-Some.inputs.numbers.items c.in-Some.inputs.bits.items (inputs_given (design_of c.flat-flat.result.now) (map (λ n. n.now) c.args.clocks.now) c.in_ok-found.found c.in-Some.inputs c.in_ok-found.ensures c.in-Some.is) in
    let d = design_of c.args.typed.now in
    subst (λ (a : Arena). c.in-Some-first_other.process < length a.processes) (sym c.flat-flat.ensures.same) (subst (λ n. c.in-Some-first_other.process < n) (c.trees_law.ensures.counts c.args.typed.now).processes (first_there d _ c.in-Some-first_other.process (carried (λ a n. IsFirst (design_of a) (has_other_clock (clock_nets (design_of a) n) (root_of (design_of a) n)) (Some c.in-Some-first_other.process)) c.flat-flat.result.now c.args.typed.now c.in-Some.inputs.bits.items (clock_bits k.signals) c.flat-flat.ensures.same k.bits_are (c.in-Some-first_other.ensures c.in-Some.inputs.bits.items (subst (λ (m : List ℕ). AreNets (design_of c.flat-flat.result.now) m c.in_ok-nets.nets) c.as_slice.ensures.value c.in_ok-nets.ensures)))))

pub returns-in-Some-first_other-clause-refused : goal.returns-in-Some-first_other-clause-refused
returns-in-Some-first_other-clause-refused c =
    let k = in_flat c.flat-flat.result.now c.args.typed.now c.flat-flat.ensures.same (map (λ n. n.now) c.args.clocks.now) c.in-Some.inputs.numbers.items c.in-Some.inputs.bits.items (inputs_given (design_of c.flat-flat.result.now) (map (λ n. n.now) c.args.clocks.now) c.in_ok-found.found c.in-Some.inputs c.in_ok-found.ensures c.in-Some.is) in
    let d = design_of c.args.typed.now in
    is_other d (map (λ n. n.now) c.args.clocks.now) k.signals c.in-Some-first_other.process c.process-in-Some-first_other.result.now.at (sym k.are) (carried (λ a n. IsFirst (design_of a) (reads_clock (clock_nets (design_of a) n)) None) c.flat-flat.result.now c.args.typed.now c.in-Some.inputs.bits.items (clock_bits k.signals) c.flat-flat.ensures.same k.bits_are (c.in-None-first_reading.ensures c.in-Some.inputs.bits.items (subst (λ (m : List ℕ). AreNets (design_of c.flat-flat.result.now) m c.in_ok-nets.nets) c.as_slice.ensures.value c.in_ok-nets.ensures))) (carried (λ a n. IsFirst (design_of a) (has_other_clock (clock_nets (design_of a) n) (root_of (design_of a) n)) (Some c.in-Some-first_other.process)) c.flat-flat.result.now c.args.typed.now c.in-Some.inputs.bits.items (clock_bits k.signals) c.flat-flat.ensures.same k.bits_are (c.in-Some-first_other.ensures c.in-Some.inputs.bits.items (subst (λ (m : List ℕ). AreNets (design_of c.flat-flat.result.now) m c.in_ok-nets.nets) c.as_slice.ensures.value c.in_ok-nets.ensures))) (place_at_is c.trees_law.ensures.processes c.args.typed.now c.in-Some-first_other.process c.process-in-Some-first_other.result.now (subst (λ (a : Arena). slice_get a.processes c.in-Some-first_other.process ≡ Some c.process-in-Some-first_other.result.now) c.flat-flat.ensures.same c.process-in-Some-first_other.ensures))

pub process-requires-in-Formless : goal.process-requires-in-Formless
process-requires-in-Formless c =
    let k = in_flat c.flat-flat.result.now c.args.typed.now c.flat-flat.ensures.same (map (λ n. n.now) c.args.clocks.now) c.in-Some.inputs.numbers.items c.in-Some.inputs.bits.items (inputs_given (design_of c.flat-flat.result.now) (map (λ n. n.now) c.args.clocks.now) c.in_ok-found.found c.in-Some.inputs c.in_ok-found.ensures c.in-Some.is) in
    let d = design_of c.args.typed.now in
    subst (λ (a : Arena). c.in-Formless.process < length a.processes) (sym c.flat-flat.ensures.same) (subst (λ n. c.in-Formless.process < n) (c.trees_law.ensures.counts c.args.typed.now).processes (first_there d _ c.in-Formless.process (subst (λ (f : Forms). AreForms c.args.typed.now (clock_bits k.signals) f) c.in-Formless.is (c.in_ok-resets.ensures (clock_bits k.signals) (carried (λ a n. AreNets (design_of a) n c.in_ok-nets.nets) c.flat-flat.result.now c.args.typed.now c.in-Some.inputs.bits.items (clock_bits k.signals) c.flat-flat.ensures.same k.bits_are (subst (λ (m : List ℕ). AreNets (design_of c.flat-flat.result.now) m c.in_ok-nets.nets) c.as_slice.ensures.value c.in_ok-nets.ensures))))))

pub returns-in-Formless-clause-refused : goal.returns-in-Formless-clause-refused
returns-in-Formless-clause-refused c =
    let k = in_flat c.flat-flat.result.now c.args.typed.now c.flat-flat.ensures.same (map (λ n. n.now) c.args.clocks.now) c.in-Some.inputs.numbers.items c.in-Some.inputs.bits.items (inputs_given (design_of c.flat-flat.result.now) (map (λ n. n.now) c.args.clocks.now) c.in_ok-found.found c.in-Some.inputs c.in_ok-found.ensures c.in-Some.is) in
    let d = design_of c.args.typed.now in
    is_formless d (map (λ n. n.now) c.args.clocks.now) k.signals c.in-Formless.process c.process-in-Formless.result.now.at (sym k.are) (carried (λ a n. IsFirst (design_of a) (reads_clock (clock_nets (design_of a) n)) None) c.flat-flat.result.now c.args.typed.now c.in-Some.inputs.bits.items (clock_bits k.signals) c.flat-flat.ensures.same k.bits_are (c.in-None-first_reading.ensures c.in-Some.inputs.bits.items (subst (λ (m : List ℕ). AreNets (design_of c.flat-flat.result.now) m c.in_ok-nets.nets) c.as_slice.ensures.value c.in_ok-nets.ensures))) (carried (λ a n. IsFirst (design_of a) (has_other_clock (clock_nets (design_of a) n) (root_of (design_of a) n)) None) c.flat-flat.result.now c.args.typed.now c.in-Some.inputs.bits.items (clock_bits k.signals) c.flat-flat.ensures.same k.bits_are (c.in-None-first_other.ensures c.in-Some.inputs.bits.items (subst (λ (m : List ℕ). AreNets (design_of c.flat-flat.result.now) m c.in_ok-nets.nets) c.as_slice.ensures.value c.in_ok-nets.ensures))) (subst (λ (f : Forms). AreForms c.args.typed.now (clock_bits k.signals) f) c.in-Formless.is (c.in_ok-resets.ensures (clock_bits k.signals) (carried (λ a n. AreNets (design_of a) n c.in_ok-nets.nets) c.flat-flat.result.now c.args.typed.now c.in-Some.inputs.bits.items (clock_bits k.signals) c.flat-flat.ensures.same k.bits_are (subst (λ (m : List ℕ). AreNets (design_of c.flat-flat.result.now) m c.in_ok-nets.nets) c.as_slice.ensures.value c.in_ok-nets.ensures)))) (place_at_is c.trees_law.ensures.processes c.args.typed.now c.in-Formless.process c.process-in-Formless.result.now (subst (λ (a : Arena). slice_get a.processes c.in-Formless.process ≡ Some c.process-in-Formless.result.now) c.flat-flat.ensures.same c.process-in-Formless.ensures))

pub inputs_of-requires : goal.inputs_of-requires
inputs_of-requires c =
    let k = in_flat c.flat-flat.result.now c.args.typed.now c.flat-flat.ensures.same (map (λ n. n.now) c.args.clocks.now) c.in-Some.inputs.numbers.items c.in-Some.inputs.bits.items (inputs_given (design_of c.flat-flat.result.now) (map (λ n. n.now) c.args.clocks.now) c.in_ok-found.found c.in-Some.inputs c.in_ok-found.ensures c.in-Some.is) in
    let a = c.args.typed.now in
    let forms = (subst (λ (f : Forms). AreForms c.args.typed.now (clock_bits k.signals) f) c.in-All.is (c.in_ok-resets.ensures (clock_bits k.signals) (carried (λ a n. AreNets (design_of a) n c.in_ok-nets.nets) c.flat-flat.result.now c.args.typed.now c.in-Some.inputs.bits.items (clock_bits k.signals) c.flat-flat.ensures.same k.bits_are (subst (λ (m : List ℕ). AreNets (design_of c.flat-flat.result.now) m c.in_ok-nets.nets) c.as_slice.ensures.value c.in_ok-nets.ensures)))) in
    subst (λ (rs : List (Option Reset)). HasInputs (bit_count (design_of c.flat-flat.result.now)) rs) (sym c.as_slice-2.ensures.value)
    (subst (λ (b : Arena). HasInputs (bit_count (design_of b)) c.in-All.resets.items) (sym c.flat-flat.ensures.same) (have_inputs a c.flat-flat.ensures.lawful.design (clock_bits k.signals) c.in-All.resets.items forms.1))

pub returns-clause-resets : goal.returns-clause-resets
returns-clause-resets c =
    let k = in_flat c.flat-flat.result.now c.args.typed.now c.flat-flat.ensures.same (map (λ n. n.now) c.args.clocks.now) c.in-Some.inputs.numbers.items c.in-Some.inputs.bits.items (inputs_given (design_of c.flat-flat.result.now) (map (λ n. n.now) c.args.clocks.now) c.in_ok-found.found c.in-Some.inputs c.in_ok-found.ensures c.in-Some.is) in
    let a = c.args.typed.now in
    let forms = (subst (λ (f : Forms). AreForms c.args.typed.now (clock_bits k.signals) f) c.in-All.is (c.in_ok-resets.ensures (clock_bits k.signals) (carried (λ a n. AreNets (design_of a) n c.in_ok-nets.nets) c.flat-flat.result.now c.args.typed.now c.in-Some.inputs.bits.items (clock_bits k.signals) c.flat-flat.ensures.same k.bits_are (subst (λ (m : List ℕ). AreNets (design_of c.flat-flat.result.now) m c.in_ok-nets.nets) c.as_slice.ensures.value c.in_ok-nets.ensures)))) in
    let m = c.in-Some.inputs.bits.items in
    let resets : AreAllResets a m c.in-All.resets.items = subst (λ n. AreAllResets a n c.in-All.resets.items) (sym k.bits_are) forms.1 in
    let found = c.inputs_of.ensures m (subst (λ (m : List ℕ). AreNets (design_of c.flat-flat.result.now) m c.in_ok-nets.nets) c.as_slice.ensures.value c.in_ok-nets.ensures) (subst (λ (rs : List (Option Reset)). AreAllResets c.flat-flat.result.now m rs) (sym c.as_slice-2.ensures.value) (subst (λ b. AreAllResets b m c.in-All.resets.items) (sym c.flat-flat.ensures.same) resets)) in
    let inputs = found_value c.inputs_of.result c.in_ok-inputs.inputs (reset_inputs (design_of c.flat-flat.result.now) m) c.in_ok-inputs.was found in
    subst (AreResets a) (sym c.of-2.ensures) (record { resets = resets; inputs = inputs ∙ ap (λ b. reset_inputs (design_of b) m) c.flat-flat.ensures.same })

pub returns-clause-clocks : goal.returns-clause-clocks
returns-clause-clocks c =
    let k = in_flat c.flat-flat.result.now c.args.typed.now c.flat-flat.ensures.same (map (λ n. n.now) c.args.clocks.now) c.in-Some.inputs.numbers.items c.in-Some.inputs.bits.items (inputs_given (design_of c.flat-flat.result.now) (map (λ n. n.now) c.args.clocks.now) c.in_ok-found.found c.in-Some.inputs c.in_ok-found.ensures c.in-Some.is) in
    let d = design_of c.args.typed.now in
    subst (AreClocksOf d (map (λ n. n.now) c.args.clocks.now)) (sym c.of-2.ensures) (record { signals = k.signals; named = k.named; there = k.there; are = k.are; bits_are = k.bits_are; nets_are = carried (λ a n. AreNets (design_of a) n c.in_ok-nets.nets) c.flat-flat.result.now c.args.typed.now c.in-Some.inputs.bits.items (clock_bits k.signals) c.flat-flat.ensures.same k.bits_are (subst (λ (m : List ℕ). AreNets (design_of c.flat-flat.result.now) m c.in_ok-nets.nets) c.as_slice.ensures.value c.in_ok-nets.ensures) })

pub returns-clause-lawful : goal.returns-clause-lawful
returns-clause-lawful c =
    let k = in_flat c.flat-flat.result.now c.args.typed.now c.flat-flat.ensures.same (map (λ n. n.now) c.args.clocks.now) c.in-Some.inputs.numbers.items c.in-Some.inputs.bits.items (inputs_given (design_of c.flat-flat.result.now) (map (λ n. n.now) c.args.clocks.now) c.in_ok-found.found c.in-Some.inputs c.in_ok-found.ensures c.in-Some.is) in
    let d = design_of c.args.typed.now in
    none_refused d (map (λ n. n.now) c.args.clocks.now) k.signals (sym k.are) (carried (λ a n. IsFirst (design_of a) (reads_clock (clock_nets (design_of a) n)) None) c.flat-flat.result.now c.args.typed.now c.in-Some.inputs.bits.items (clock_bits k.signals) c.flat-flat.ensures.same k.bits_are (c.in-None-first_reading.ensures c.in-Some.inputs.bits.items (subst (λ (m : List ℕ). AreNets (design_of c.flat-flat.result.now) m c.in_ok-nets.nets) c.as_slice.ensures.value c.in_ok-nets.ensures))) (carried (λ a n. IsFirst (design_of a) (has_other_clock (clock_nets (design_of a) n) (root_of (design_of a) n)) None) c.flat-flat.result.now c.args.typed.now c.in-Some.inputs.bits.items (clock_bits k.signals) c.flat-flat.ensures.same k.bits_are (c.in-None-first_other.ensures c.in-Some.inputs.bits.items (subst (λ (m : List ℕ). AreNets (design_of c.flat-flat.result.now) m c.in_ok-nets.nets) c.as_slice.ensures.value c.in_ok-nets.ensures))) (subst (λ (f : Forms). AreForms c.args.typed.now (clock_bits k.signals) f) c.in-All.is (c.in_ok-resets.ensures (clock_bits k.signals) (carried (λ a n. AreNets (design_of a) n c.in_ok-nets.nets) c.flat-flat.result.now c.args.typed.now c.in-Some.inputs.bits.items (clock_bits k.signals) c.flat-flat.ensures.same k.bits_are (subst (λ (m : List ℕ). AreNets (design_of c.flat-flat.result.now) m c.in_ok-nets.nets) c.as_slice.ensures.value c.in_ok-nets.ensures)))).0
