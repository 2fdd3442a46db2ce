use Rattle.std.proofs.Common.{◌≡◌, ◌<◌, ◌+◌, ◌∷◌, [], List, ℕ, get_or, length, refl, sym, ap, ◌∙◌, subst, arith, Some}
use Rattle.std.specs.Prelude.{option_map, slice_get}
use Rattle.vs_design.specs.Designs as D
use Rattle.vs_design.specs.Designs.{top_inputs}
use Rattle.vs_flat.specs.Arena.{Arena}
use Rattle.vs_flat.specs.Arena as A
use Rattle.vs_flat.specs.DesignOf.{design_of}
use Rattle.vs_four.specs.declared.Bit4.{Bit4}
use Rattle.vs_flat.specs.Trees.{signal_of}
use Rattle.vs_events.specs.Held.{Events}
use Rattle.vs_queue.specs.Given.{given}
use Rattle.vs_queue.specs.Left.{level_of}
use Rattle.vs_queue.specs.Driven.{Vector}
use Rattle.vs_queue.proofs.Acting.{found_below}
use Rattle.vs_queue.proofs.Inputs.{clock_more, few_inputs}
use Rattle.vs_queue.proofs.Driving.{input_there, inputs_count, input_here, driven_as, none_next, data_next, value_there, value_same}
use Rattle.vs_queue.proofs.Signals.{signal_inside}
use Rattle.vs_queue.proofs.machine.Machine.drive_input.Goals as goal

-- the inputs of the flat design are as many as those of its plain one
pub signal-requires : goal.signal-requires
signal-requires c =
    let a = c.args.self.now.typed.now in
    let l = c.requires.there in
    let n = inputs_count c.trees_law.ensures.inputs a in
    let same = c.top_inputs.ensures ∙ ap A.top_inputs c.flat-flat.ensures.same in
    let m = ap length same in
    subst (λ (z : Arena). get_or c.top_inputs.result.now c.args.i 0 < length z.signals) (sym c.flat-flat.ensures.same)
    (input_there a c.args.i (get_or c.top_inputs.result.now c.args.i 0) (omega (arith, l, n)) (ap (λ (xs : List ℕ). get_or xs c.args.i 0) same))

pub drive-requires : goal.drive-requires
drive-requires c =
    let l = c.requires.there in
    let h = c.requires.held in
    let m = c.process_count.ensures.count in
    let n = ap (λ (z : Arena). length z.processes) c.flat-flat.ensures.same in
    let k = (c.trees_law.ensures.counts c.args.self.now.typed.now).processes in
    omega (arith, l, h, m, n, k)

pub returns-then-is_clock : goal.returns-then-is_clock
returns-then-is_clock c =
    let a = c.args.self.now.typed.now in
    let d = design_of a in
    let clocks = c.args.self.now.clocks.now.bits in
    let vector = option_map (λ v. v.now) c.args.vector in
    let i = c.args.i in
    let n = get_or c.top_inputs.result.now i 0 in
    let s = c.signal.result.now in
    let l = c.requires.there in
    let many = inputs_count c.trees_law.ensures.inputs a in
    let same = c.top_inputs.ensures ∙ ap A.top_inputs c.flat-flat.ensures.same in
    let at = subst (λ (z : Arena). slice_get z.signals n ≡ Some s) c.flat-flat.ensures.same c.signal.ensures in
    let here = input_here c.trees_law.ensures.inputs c.trees_law.ensures.signals a i n s (omega (arith, l, many)) (ap (λ (xs : List ℕ). get_or xs i 0) same) at in
    let writer = ap (λ k. k + i) (c.process_count.ensures.count ∙ ap (λ (z : Arena). length z.processes) c.flat-flat.ensures.same ∙ sym (c.trees_law.ensures.counts a).processes) in
    let given_here = c.in_ok-update.ensures ∙ ap (λ (v : Bit4). given s.first_bit (v ∷ [])) c.level_of.ensures in
    record {
      driven = λ first slot r.
          clock_more clocks vector (top_inputs d) (length d.processes) first c.args.events.now i c.args.taken slot (signal_of n s) here r c.drive.new.self (sym c.is_clock.ensures ∙ c.if-is_clock.true)
          (driven_as c.args.events.now c.drive.new.self (c.process_count.result + i) (length d.processes + i) c.in_ok-update.update (given s.first_bit (level_of vector ∷ [])) c.in_ok-drive.ensures writer given_here);
      held = ap (λ (e : Events). length e.assigns) c.in_ok-drive.ensures;
    }

pub returns-in-None : goal.returns-in-None
returns-in-None c =
    let a = c.args.self.now.typed.now in
    let d = design_of a in
    let clocks = c.args.self.now.clocks.now.bits in
    let i = c.args.i in
    let n = get_or c.top_inputs.result.now i 0 in
    let s = c.signal.result.now in
    let l = c.requires.there in
    let many = inputs_count c.trees_law.ensures.inputs a in
    let same = c.top_inputs.ensures ∙ ap A.top_inputs c.flat-flat.ensures.same in
    let at = subst (λ (z : Arena). slice_get z.signals n ≡ Some s) c.flat-flat.ensures.same c.signal.ensures in
    let here = input_here c.trees_law.ensures.inputs c.trees_law.ensures.signals a i n s (omega (arith, l, many)) (ap (λ (xs : List ℕ). get_or xs i 0) same) at in
    record {
      driven = λ first slot r. none_next clocks (option_map (λ v. v.now) c.args.vector) (ap (option_map (λ v. v.now)) c.in-None.is) (top_inputs d) (length d.processes) first c.args.events.now i c.args.taken slot (signal_of n s) here (sym c.is_clock.ensures ∙ c.if-is_clock.false) r;
      held = refl;
    }

pub overflow_add-writer : goal.overflow_add-writer
overflow_add-writer c =
    let a = c.args.self.now.typed.now in
    let l = c.requires.there in
    let m = c.process_count.ensures.most in
    let f = few_inputs (design_of a) (c.lawful_law.ensures.design a c.flat-flat.ensures.lawful) in
    omega (arith, l, m, f)

pub drive-requires-in-Some : goal.drive-requires-in-Some
drive-requires-in-Some c =
    let l = c.requires.there in
    let h = c.requires.held in
    let m = c.process_count.ensures.count in
    let n = ap (λ (z : Arena). length z.processes) c.flat-flat.ensures.same in
    let k = (c.trees_law.ensures.counts c.args.self.now.typed.now).processes in
    omega (arith, l, h, m, n, k)

pub value_at-requires : goal.value_at-requires
value_at-requires c =
    let a = c.args.self.now.typed.now in
    let d = design_of a in
    let clocks = c.args.self.now.clocks.now.bits in
    let i = c.args.i in
    let n = get_or c.top_inputs.result.now i 0 in
    let s = c.signal.result.now in
    let l = c.requires.there in
    let many = inputs_count c.trees_law.ensures.inputs a in
    let same = c.top_inputs.ensures ∙ ap A.top_inputs c.flat-flat.ensures.same in
    let at = subst (λ (z : Arena). slice_get z.signals n ≡ Some s) c.flat-flat.ensures.same c.signal.ensures in
    let here = input_here c.trees_law.ensures.inputs c.trees_law.ensures.signals a i n s (omega (arith, l, many)) (ap (λ (xs : List ℕ). get_or xs i 0) same) at in
    let left = c.requires.left in
    let is = ap (option_map (λ v. v.now)) c.in-Some.is in
    let test = sym c.is_clock.ensures ∙ c.if-is_clock.false in
    let value = value_there clocks (option_map (λ v. v.now) c.args.vector) c.in-Some.vector.now is (D.top_inputs d) i c.args.taken left.0 (signal_of n s) here test left.1 in
    subst (λ (vs : Vector). c.args.taken < length vs) (sym c.values.ensures) (found_below c.in-Some.vector.now c.args.taken value.0 value.1)

pub update_of-requires : goal.update_of-requires
update_of-requires c =
    let a = c.args.self.now.typed.now in
    let d = design_of a in
    let clocks = c.args.self.now.clocks.now.bits in
    let i = c.args.i in
    let n = get_or c.top_inputs.result.now i 0 in
    let s = c.signal.result.now in
    let l = c.requires.there in
    let many = inputs_count c.trees_law.ensures.inputs a in
    let same = c.top_inputs.ensures ∙ ap A.top_inputs c.flat-flat.ensures.same in
    let at = subst (λ (z : Arena). slice_get z.signals n ≡ Some s) c.flat-flat.ensures.same c.signal.ensures in
    let here = input_here c.trees_law.ensures.inputs c.trees_law.ensures.signals a i n s (omega (arith, l, many)) (ap (λ (xs : List ℕ). get_or xs i 0) same) at in
    let is = ap (option_map (λ v. v.now)) c.in-Some.is in
    let test = sym c.is_clock.ensures ∙ c.if-is_clock.false in
    let got = subst (λ (vs : Vector). slice_get vs c.args.taken ≡ Some c.value_at.result) c.values.ensures c.value_at.ensures.value in
    let left = c.requires.left in
    let value = value_there clocks (option_map (λ v. v.now) c.args.vector) c.in-Some.vector.now is (D.top_inputs d) i c.args.taken left.0 (signal_of n s) here test left.1 in
    let long = ap length (value_same c.value_at.result value.0 (sym got ∙ value.1)) ∙ value.2 in
    let lawful = c.lawful_law.ensures.design a c.flat-flat.ensures.lawful in
    let inside = signal_inside c.trees_law.ensures.signals c.trees_law.ensures.counts a n s at lawful in
    let few = lawful.few_bits in
    omega (arith, long, inside, few)

pub returns-in_ok-drive-in-Some : goal.returns-in_ok-drive-in-Some
returns-in_ok-drive-in-Some c =
    let a = c.args.self.now.typed.now in
    let d = design_of a in
    let clocks = c.args.self.now.clocks.now.bits in
    let i = c.args.i in
    let n = get_or c.top_inputs.result.now i 0 in
    let s = c.signal.result.now in
    let l = c.requires.there in
    let many = inputs_count c.trees_law.ensures.inputs a in
    let same = c.top_inputs.ensures ∙ ap A.top_inputs c.flat-flat.ensures.same in
    let at = subst (λ (z : Arena). slice_get z.signals n ≡ Some s) c.flat-flat.ensures.same c.signal.ensures in
    let here = input_here c.trees_law.ensures.inputs c.trees_law.ensures.signals a i n s (omega (arith, l, many)) (ap (λ (xs : List ℕ). get_or xs i 0) same) at in
    let is = ap (option_map (λ v. v.now)) c.in-Some.is in
    let test = sym c.is_clock.ensures ∙ c.if-is_clock.false in
    let got = subst (λ (vs : Vector). slice_get vs c.args.taken ≡ Some c.value_at.result) c.values.ensures c.value_at.ensures.value in
    let writer = ap (λ k. k + i) (c.process_count.ensures.count ∙ ap (λ (z : Arena). length z.processes) c.flat-flat.ensures.same ∙ sym (c.trees_law.ensures.counts a).processes) in
    let next = c.drive-in-Some.new.self in
    record {
      driven = λ first slot r.
          data_next clocks (option_map (λ v. v.now) c.args.vector) c.in-Some.vector.now is (top_inputs d) (length d.processes) first c.args.events.now next i c.args.taken slot (signal_of n s) here test c.value_at.result got
          (driven_as c.args.events.now next (c.process_count.result + i) (length d.processes + i) c.in_ok-given-in-Some.given (given s.first_bit c.value_at.result) c.in_ok-drive-in-Some.ensures writer c.in_ok-given-in-Some.ensures) r;
      held = ap (λ (e : Events). length e.assigns) c.in_ok-drive-in-Some.ensures;
    }
