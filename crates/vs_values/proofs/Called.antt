-- A call of a function: the calls of its arguments, and those of its function's template over their slots.
use Rattle.std.proofs.Common.{◌≡◌, ℕ, zero, suc, ◌+◌, ◌-◌, ◌<◌, ◌≤◌, Bool, true, false, ◌&&◌, ◌==◌, nat_lt, if◌then◌else◌, List, [], ◌∷◌, ◌++◌, map, length, replicate, get_or, slice_index, Some, sym, ap, ◌∙◌, subst, refl, inl, inr, arith, append_assoc, append-nil, length-append, eqb-true, eq-eqb, true≢false}
use Rattle.std.specs.List.{All, list_all}
use Rattle.std.proofs.lemmas.List.{length-map, get_or_past, get_or_append_left, get_or-append_right, get_or-append-add, get_or-replicate, length-replicate}
use Rattle.std.proofs.Math.Seq.{get_or-append_seam}
use Rattle.std.proofs.lemmas.List.Elements.{All-cons, All-map, All-head}
use Rattle.std.proofs.lemmas.List.FromFn.{length-range_with_len}
use mathlib.Core.Path.{fun_ext}
use Rattle.vs_four.specs.declared.Bit4.{Bit4}
use Rattle.vs_four.specs.declared.Bit4.TheVariants.{X}
use Rattle.vs_four.specs.Logic.{BitList}
use Rattle.vs_net.specs.Network as N
use Rattle.vs_design.specs.Expressions as E
use Rattle.vs_design.specs.Expressions.{Signal, signal_length, Header, local_signals, Items, NoItem, Item, width}
use Rattle.vs_design.specs.Statements.{Function}
use Rattle.vs_design.specs.Values.{count_from, bits_of_signal, unset, argument_state, assigned_value}
use Rattle.vs_design.specs.Effects.{pair_up}
use Rattle.vs_design.specs.Elaborated.{have_bits_from}
use Rattle.vs_design.specs.Fits.{fits_64, fits_signal, fits, fit_items, fits_statement, divides_constants}
use Rattle.vs_design.specs.Footprints.{items_reads}
use Rattle.vs_design.specs.Sizes.{weight, arguments_weight, statement_weight}
use Rattle.vs_design.specs.TreeLaws.{AssignedLength}
use Rattle.vs_code.specs.Calls.{Call, State}
use Rattle.vs_program.specs.Lowered.{HasConstants, home}
use Rattle.vs_values.specs.declared.templates.Template.{Template}
use Rattle.vs_values.specs.Added.{AreAdded, IsEnv, Holds, AreValues}
use Rattle.vs_values.specs.Calling.{argument_values, AreReady, AddsArguments, IsFormedCall, IsInlinable, IsFitting, IsInlined}
use Rattle.vs_values.specs.Coded.{Coding}
use Rattle.vs_values.specs.Constants.{extended_slots}
use Rattle.vs_values.specs.Environments.{homes}
use Rattle.vs_values.specs.Ready.{IsReady}
use Rattle.vs_values.specs.Templates.{input_bits, other_bits, slots_at_call, result_value, IsTemplate, names_at_call, renamed, renamed_call}
use Rattle.vs_values.specs.Valued.{IsSource, IsValue, AddsValue}
use Rattle.vs_values.proofs.Adding.{called_parts, constants_stay, added_more}
use Rattle.vs_values.proofs.Lists.{range_at}
use Rattle.vs_values.proofs.Moved.{extended_all, length-extended}
use Rattle.vs_values.proofs.Readying.{stores_of}
use Rattle.vs_values.proofs.Renaming.{IsRenaming, high, map_map, added_renamed, are_called_renamed, result_within}
use Rattle.vs_values.proofs.Inlined.{renaming_is}
use Rattle.vs_values.proofs.Values.{both_true, one_more, extended_values}

by_test : {P : Type 0} (b : Bool) → (b ≡ true → P) → (b ≡ false → P) → P
by_test true f g = f refl
by_test false f g = g refl

-- ---- the local values before the statement

other_bit : (done : BitList) (x : Bit4) (b : ℕ) → (b ≡ length done → ⊥) → get_or done b X ≡ get_or (done ++ x ∷ []) b X
other_bit [] x zero ne = absurd (ne refl)
other_bit [] x (suc b) ne = refl
other_bit (y ∷ done) x zero ne = refl
other_bit (y ∷ done) x (suc b) ne = other_bit done x b (λ e. ne (ap suc e))

one_written : (done : BitList) (begin : N.State) (x : Bit4) → ((b : ℕ) → begin b ≡ get_or done b X) → (b : ℕ) → N.put begin (length done) x b ≡ get_or (done ++ x ∷ []) b X
one_written done begin x h b =
    by_test (b == length done)
    (λ e. ap (λ (c : Bool). if c then x else begin b) e ∙ sym (get_or-append_seam done x [] X) ∙ ap (λ (k : ℕ). get_or (done ++ x ∷ []) k X) (sym (eqb-true b (length done) e)))
    (λ e. ap (λ (c : Bool). if c then x else begin b) e ∙ h b ∙ other_bit done x b (λ same. true≢false (sym (eq-eqb b (length done) same) ∙ e)))

-- bits that are written one after the other, behind those that were
written : (v done : BitList) (begin : N.State) → ((b : ℕ) → begin b ≡ get_or done b X) → (b : ℕ) → N.write_all begin (pair_up (map Some (count_from (length done) (length v))) v) b ≡ get_or (done ++ v) b X
unfolding N.write_all
written [] done begin h b = h b ∙ ap (λ (xs : BitList). get_or xs b X) (sym (append-nil done))
written (x ∷ v) done begin h b =
    let more = done ++ x ∷ [] in
    let long : length more ≡ suc (length done) = length-append done (x ∷ []) ∙ omega arith in
    ap (λ (n : ℕ). N.write_all (N.put begin (length done) x) (pair_up (map Some (count_from n (length v))) v) b) (sym long)
    ∙ written v more (N.put begin (length done) x) (one_written done begin x h) b
    ∙ ap (λ (xs : BitList). get_or xs b X) (append_assoc done (x ∷ []) v)

state_from : AssignedLength → (es : Items) (inputs : List Signal) (state begin : N.State) (done : BitList) → have_bits_from (length done) inputs ≡ true → ((b : ℕ) → begin b ≡ get_or done b X)
    → (b : ℕ) → argument_state es inputs state begin b ≡ get_or (done ++ argument_values es inputs state) b X
state_from law NoItem inputs state begin done n h b = h b ∙ ap (λ (xs : BitList). get_or xs b X) (sym (append-nil done))
state_from law (Item e es) [] state begin done n h b = h b ∙ ap (λ (xs : BitList). get_or xs b X) (sym (append-nil done))
state_from law (Item e es) (input ∷ inputs) state begin done n h b =
    let v = assigned_value e (signal_length input) state in
    let parts = both_true (input.first == length done) (have_bits_from (length done + signal_length input) inputs) n in
    let first : input.first ≡ length done = eqb-true input.first (length done) parts.0 in
    let long : length v ≡ signal_length input = law e (signal_length input) state in
    let next = N.write_all begin (pair_up (map Some (bits_of_signal input)) v) in
    let is : (q : ℕ) → next q ≡ get_or (done ++ v) q X = λ q.
    ap (λ (f : ℕ). N.write_all begin (pair_up (map Some (count_from f (signal_length input))) v) q) first
    ∙ ap (λ (k : ℕ). N.write_all begin (pair_up (map Some (count_from (length done) k)) v) q) (sym long) ∙ written v done begin h q in
    let numbered : have_bits_from (length (done ++ v)) inputs ≡ true = subst (λ (k : ℕ). have_bits_from k inputs ≡ true) (ap (λ (k : ℕ). length done + k) (sym long) ∙ sym (length-append done v)) parts.1 in
    state_from law es inputs state next (done ++ v) numbered is b ∙ ap (λ (xs : BitList). get_or xs b X) (append_assoc done v (argument_values es inputs state))

first_bits : (first : ℕ) (xs ys : List Signal) → have_bits_from first (xs ++ ys) ≡ true → have_bits_from first xs ≡ true
first_bits first [] ys h = refl
first_bits first (x ∷ xs) ys h =
    let p = both_true (x.first == first) (have_bits_from (first + signal_length x) (xs ++ ys)) h in
    ap (λ (b : Bool). b && have_bits_from (first + signal_length x) xs) p.0 ∙ first_bits (first + signal_length x) xs ys p.1

-- the inputs have the arguments' values, bit after bit, and all other local bits are x
pub state_is : AssignedLength → (h : Header) (es : Items) (state : N.State) → have_bits_from 0 (local_signals h) ≡ true → (λ (b : ℕ). get_or (argument_values es h.inputs state) b X) ≡ argument_state es h.inputs state unset
state_is law h es state n = fun_ext (λ b. sym (state_from law es h.inputs state unset [] (first_bits 0 h.inputs (h.result ∷ h.own) n) (λ q. refl) b))

-- ---- the slots that hold them

mapped : (f : ℕ → Bit4) (slots : List ℕ) (b d : ℕ) → b < length slots → f (get_or slots b d) ≡ get_or (map f slots) b X
mapped f [] b d l = absurd (omega arith)
mapped f (slot ∷ slots) zero d l = refl
mapped f (slot ∷ slots) (suc b) d l = mapped f slots b d (omega arith)

named_slot : (slots : List ℕ) (first b : ℕ) → renamed (names_at_call slots) first (4 + b) ≡ get_or slots b ((4 + b) - length (names_at_call slots) + first)
named_slot slots first b = get_or-append-add (0 ∷ 1 ∷ 2 ∷ 3 ∷ []) slots b ((4 + b) - length (names_at_call slots) + first)

lt_is : (m n : ℕ) → nat_lt m n ≡ true → m < n
lt_is m n h = grind arith

not_lt : (m n : ℕ) → nat_lt m n ≡ false → n ≤ m
not_lt m n h = grind arith

pub holds_local : (h : Header) (slots : List ℕ) (first : ℕ) (after : State) (bits : BitList) → HasConstants after → map after slots ≡ bits → length slots ≡ input_bits h
    → Holds (slots_at_call h) (λ slot. after (renamed (names_at_call slots) first slot)) (λ b. get_or bits b X)
holds_local h slots first after bits c is long = record {
  constants = record { zero = c.zero; one = c.one; x = c.x; z = c.z };
  bits = λ b l. by_test (nat_lt b (input_bits h)) (λ e. of_input b (lt_is b (input_bits h) e)) (λ e. of_other b (not_lt b (input_bits h) e) l);
}
  where
    name : ℕ → ℕ
    name slot = renamed (names_at_call slots) first slot

    k : ℕ
    k = input_bits h

    m : ℕ
    m = other_bits h

    of_input : (b : ℕ) → b < k → after (name (slice_index (slots_at_call h) b)) ≡ get_or bits b X
    of_input b l =
        let at : slice_index (slots_at_call h) b ≡ 4 + b = get_or_append_left (homes k) (replicate m 2) 0 b (omega (arith, length-range_with_len 4 k)) ∙ range_at 4 k b 0 l in
        ap (λ (slot : ℕ). after (name slot)) at ∙ ap after (named_slot slots first b) ∙ mapped after slots b _ (omega (arith, long)) ∙ ap (λ (xs : BitList). get_or xs b X) is

    of_other : (b : ℕ) → k ≤ b → b < length (slots_at_call h) → after (name (slice_index (slots_at_call h) b)) ≡ get_or bits b X
    of_other b l in_env =
        let size = length-append (homes k) (replicate m 2) in
        let at : slice_index (slots_at_call h) b ≡ 2 =
        get_or-append_right (homes k) (replicate m 2) k b 0 (length-range_with_len 4 k) l ∙ get_or-replicate m (b - k) 2 0 (omega (arith, in_env, size, length-range_with_len 4 k, length-replicate {A = ℕ} m 2)) in
        ap (λ (slot : ℕ). after (name slot)) at ∙ c.x ∙ sym (get_or_past bits b X (omega (arith, ap length is, length-map slots after, long)))

-- ---- the call

one_is : (x y : BitList) → (x ∷ []) ≡ (y ∷ []) → x ≡ y
one_is x y h = cc

-- what the call knows of its arguments and of the template
pub record Inputs (env : List ℕ) (m : ℕ) (c : List Call) (slots : List ℕ) (n : ℕ) (f : Function) (es : Items) (t : Template) : Type 0 where
  pub is_env : IsEnv env m
  pub values : AreValues env m c (slots ∷ []) n (arguments_weight es f.header.inputs) (λ state. argument_values es f.header.inputs state ∷ [])
  pub long : length slots ≡ input_bits f.header
  pub bits : have_bits_from 0 (local_signals f.header) ≡ true
  pub template : IsTemplate f t
  pub renaming : IsRenaming (names_at_call slots) n t.next

named_long : (slots : List ℕ) (k : ℕ) → length slots ≡ k → home k ≡ length (names_at_call slots)
named_long slots k h = omega (arith, h)

call_values : AssignedLength → (env : List ℕ) (m : ℕ) (c : List Call) (slots : List ℕ) (n : ℕ) (f : Function) (es : Items) (t : Template) → Inputs env m c slots n f es t
    → AreValues env m (c ++ map (renamed_call (renamed (names_at_call slots) n)) t.calls) (map (renamed (names_at_call slots) n) t.result ∷ []) (n + (t.next - length (names_at_call slots)))
    (arguments_weight es f.header.inputs + statement_weight f.statement) (λ state. result_value f (argument_state es f.header.inputs state unset) ∷ [])
call_values law env m c slots n f es t i =
    let names = names_at_call slots in
    let name = renamed names n in
    let calls = map (renamed_call name) t.calls in
    let next = n + (t.next - length names) in
    let h = f.header in
    let long = named_long slots (input_bits h) i.long in
    let inside : AreAdded (length names) t.calls t.next (statement_weight f.statement) = subst (λ (k : ℕ). AreAdded k t.calls t.next (statement_weight f.statement)) long i.template.values.added in
    record {
      added = added_more m c n (arguments_weight es h.inputs) calls next (statement_weight f.statement) i.values.added (added_renamed names n t.next (statement_weight f.statement) t.calls i.renaming inside);
      below = one_more (λ to. All (λ slot. slot < next) to) (map name t.result) (result_within names n t.next t.result i.renaming (All-head (λ to. All (λ slot. slot < t.next) to) t.result [] i.template.values.below));
      values = λ before after state holds called.
          let parts = called_parts c calls before after called in
          let first : map parts.0 slots ≡ argument_values es h.inputs state = one_is (map parts.0 slots) (argument_values es h.inputs state) (i.values.values before parts.0 state holds parts.1) in
          let constants : HasConstants parts.0 = constants_stay c m before parts.0 i.is_env.constants i.values.added.fresh parts.1 holds.constants in
          let begin = argument_state es h.inputs state unset in
          let local : Holds (slots_at_call h) (λ slot. parts.0 (name slot)) begin =
          subst (λ (s : N.State). Holds (slots_at_call h) (λ slot. parts.0 (name slot)) s) (state_is law h es state i.bits) (holds_local h slots n parts.0 (argument_values es h.inputs state) constants first i.long) in
          let run = are_called_renamed names n t.calls parts.0 after i.renaming.below inside.fresh parts.2 in
          ap (λ (x : BitList). x ∷ []) (map_map after name t.result) ∙ i.template.values.values (λ slot. parts.0 (name slot)) (λ slot. after (name slot)) begin local run;
    }

source_slot : (env : List ℕ) (m n : ℕ) (reads slots : List ℕ) (slot : ℕ) → m ≤ n → All (IsSource env m reads) slots → (b : Bool) → nat_lt slot (length (names_at_call slots)) ≡ b → IsSource env m reads (renamed (names_at_call slots) n slot)
source_slot env m n reads slots slot l h true e =
    let P = IsSource env m reads in
    let all : All P (names_at_call slots) = All-cons P 0 (1 ∷ 2 ∷ 3 ∷ slots) (inl (omega arith)) (All-cons P 1 (2 ∷ 3 ∷ slots) (inl (omega arith)) (All-cons P 2 (3 ∷ slots) (inl (omega arith)) (All-cons P 3 slots (inl (omega arith)) h))) in
    all slot (slot - length (names_at_call slots) + n) (lt_is slot (length (names_at_call slots)) e)
source_slot env m n reads slots slot l h false e =
    let is = high (names_at_call slots) n slot (not_lt slot (length (names_at_call slots)) e) in
    inr (inl (omega (arith, is)))

pub call_is : AssignedLength → (env : List ℕ) (m : ℕ) (c : List Call) (slots : List ℕ) (n : ℕ) (f : Function) (es : Items) (t : Template) (w : ℕ) (s : Bool) → Inputs env m c slots n f es t
    → All (IsSource env m (items_reads es)) slots → signal_length f.header.result ≤ w
    → IsValue env m (E.Call f.header f.statement es) w s (c ++ map (renamed_call (renamed (names_at_call slots) n)) t.calls) (extended_slots w s (map (renamed (names_at_call slots) n) t.result)) (n + (t.next - length (names_at_call slots)))
call_is law env m c slots n f es t w s i from wide =
    let names = names_at_call slots in
    let name = renamed names n in
    let to = map name t.result in
    let next = n + (t.next - length names) in
    record {
      values = extended_values env m (c ++ map (renamed_call name) t.calls) to next (arguments_weight es f.header.inputs + statement_weight f.statement) (weight (E.Call f.header f.statement es) w)
          (λ state. result_value f (argument_state es f.header.inputs state unset)) (λ state. result_value f (argument_state es f.header.inputs state unset)) w s i.is_env (omega arith) (λ state. refl)
          (call_values law env m c slots n f es t i);
      length = length-extended w s to (omega (arith, length-map t.result name, i.template.length, wide));
      constant = λ h. absurd (true≢false (sym h));
      sources = extended_all (IsSource env m (items_reads es)) w s to (inl (omega arith))
          (All-map (IsSource env m (items_reads es)) name t.result (λ k d l. source_slot env m n (items_reads es) slots (get_or t.result k d) i.values.added.grown from (nat_lt (get_or t.result k d) (length names)) refl));
    }

-- ---- in the code's words

pub record IsFitCall (f : Function) (es : Items) : Type 0 where
  pub inputs : list_all fits_signal f.header.inputs ≡ true
  pub arguments : fit_items es ≡ true
  pub statement : fits_statement f.statement ≡ true

fit_call : (f : Function) (es : Items) → (fits (E.Call f.header f.statement es) && divides_constants (E.Call f.header f.statement es)) ≡ true → IsFitCall f es
fit_call f es h =
    let x = both_true (fits (E.Call f.header f.statement es)) true h in
    let p = both_true (fits_64 (signal_length f.header.result) && list_all fits_signal f.header.inputs && fit_items es) (fits_statement f.statement) x.0 in
    let q = both_true (fits_64 (signal_length f.header.result) && list_all fits_signal f.header.inputs) (fit_items es) p.0 in
    record { inputs = (both_true (fits_64 (signal_length f.header.result)) (list_all fits_signal f.header.inputs) q.0).1; arguments = q.1; statement = p.1 }

pub ready_inputs : (env : List ℕ) (code : Coding) (f : Function) (es : Items) (w : ℕ) → IsReady env code (E.Call f.header f.statement es) w → AreReady env code es f.header.inputs
ready_inputs env code f es w r =
    let x = fit_call f es r.fit in
    record {
      is_env = r.is_env;
      has_bits = r.has_bits;
      fit = x.arguments;
      inputs_fit = x.inputs;
      light = omega (arith, r.light);
      slots = omega (arith, r.slots);
      few = omega (arith, r.few);
    }

pub ready_template : (env : List ℕ) (code code1 : Coding) (f : Function) (es : Items) (w : ℕ) (slots : List ℕ) → IsReady env code (E.Call f.header f.statement es) w → AddsArguments env code code1 es f.header.inputs slots → IsInlinable f code1 slots
ready_template env code code1 f es w slots r a =
    let x = fit_call f es r.fit in
    let added = a.values.added in
    record {
      fit = x.statement;
      long = a.wide;
      constants = omega (arith, r.is_env.constants, added.grown);
      below = All-head (λ to. All (λ slot. slot < code1.next) to) slots [] a.values.below;
      light = omega (arith, r.light);
      room = omega (arith, r.slots, added.paid, added.stores);
      few = omega (arith, r.few, added.stores, stores_of code.calls a.calls code1.calls a.is);
    }

pub fitting_is : (f : Function) (t : Template) (code : Coding) (slots : List ℕ) → IsTemplate f t → IsInlinable f code slots → IsFitting t code slots
fitting_is f t code slots is r =
    let a = is.values.added in
    let long : home (input_bits f.header) ≡ 4 + length slots = omega (arith, r.long) in
    let b : AreAdded (4 + length slots) t.calls t.next (statement_weight f.statement) = subst (λ (k : ℕ). AreAdded k t.calls t.next (statement_weight f.statement)) long a in
    record {
      added = record { are_calls = b.are_calls; named = b.named; fresh = b.fresh; grown = b.grown; paid = b.paid; stores = omega arith };
      result = All-head (λ to. All (λ slot. slot < t.next) to) t.result [] is.values.below;
      constants = r.constants;
      below = r.below;
      room = omega (arith, r.room, b.paid, b.stores);
      few = omega (arith, r.few, b.stores);
    }

pub adds_call : AssignedLength → (env : List ℕ) (code code1 code2 : Coding) (f : Function) (es : Items) (count w : ℕ) (s : Bool) (slots result to : List ℕ) → IsReady env code (E.Call f.header f.statement es) w → IsFormedCall f.header count
    → AddsArguments env code code1 es f.header.inputs slots → IsInlined f slots code1 code2 result → to ≡ extended_slots w s result
    → AddsValue env code.calls code.next code2.calls code2.next (E.Call f.header f.statement es) w s to
adds_call law env code code1 code2 f es count w s slots result to r formed a i is =
    let t = i.template in
    let names = names_at_call slots in
    let name = renamed names code1.next in
    let fitting = fitting_is f t code1 slots i.is (ready_template env code code1 f es w slots r a) in
    let inputs : Inputs env code.next a.calls slots code1.next f es t = record { is_env = r.is_env; values = a.values; long = a.wide; bits = formed.bits; template = i.is; renaming = renaming_is t code1 slots names code1.next refl refl fitting } in
    let value = call_is law env code.next a.calls slots code1.next f es t w s inputs a.sources r.wide in
    let long : length names ≡ 4 + length slots = omega arith in
    let next : code1.next + (t.next - length names) ≡ code2.next = ap (λ (k : ℕ). code1.next + (t.next - k)) long ∙ sym i.inlined.next in
    record {
      calls = a.calls ++ map (renamed_call name) t.calls;
      is = i.inlined.calls ∙ ap (λ (xs : List Call). xs ++ map (renamed_call name) t.calls) a.is ∙ append_assoc code.calls a.calls (map (renamed_call name) t.calls);
      value = subst (λ (n : ℕ). IsValue env code.next (E.Call f.header f.statement es) w s (a.calls ++ map (renamed_call name) t.calls) to n) next
          (subst (λ (x : List ℕ). IsValue env code.next (E.Call f.header f.statement es) w s (a.calls ++ map (renamed_call name) t.calls) x (code1.next + (t.next - length names))) (ap (extended_slots w s) (sym i.inlined.are) ∙ sym is) value);
    }
