-- Selects whose index was lowered.
use Rattle.std.proofs.Common.{◌≡◌, ℕ, zero, suc, ◌+◌, ◌*◌, ◌<◌, ◌≤◌, ◌^◌, Bool, true, false, ◌&&◌, ◌==◌, ℤ, if◌then◌else◌, List, [], ◌∷◌, ◌++◌, map, length, slice_index, get_or, replicate, Option, None, Some, sym, ap, ◌∙◌, subst, refl, arith, inl, inr, true≢false, eqb-true, ◌⊎◌, ◌+ℤ◌, ◌-ℤ◌, pos}
use Rattle.std.specs.List.{All}
use Rattle.std.proofs.lemmas.List.{length-map, length-replicate}
use Rattle.std.proofs.lemmas.List.FromFn.{length-range_with_len}
use Rattle.std.proofs.lemmas.List.Elements.{All-nil, All-cons, All-weaker, All-head, All-tail, All-map}
use Rattle.vs_four.specs.Logic.{BitList, all_known}
use Rattle.vs_four.specs.Numbers.{integer}
use Rattle.vs_four.specs.Selects.{Part, range_length, at_place, places, place_of, indices, indices_up, indices_down, is_descending, least_index, greatest_index}
use Rattle.vs_net.specs.Network as N
use Rattle.vs_design.specs.Expressions.{Signal, signal_length, Source, OfSignal, OfConstant, Expression, Literal, Name, Select, width, sign, is_constant}
use Rattle.vs_design.specs.Sizes.{weight}
use Rattle.vs_design.specs.Fits.{fits, fits_64, divides_constants, is_fit, source_length}
use Rattle.vs_design.specs.Values.{value, count_from, bits_of_signal, read, source_value, constant_value}
use Rattle.vs_design.specs.Footprints.{contains, somes, read_bits, selected_bits}
use Rattle.vs_design.specs.Bodies.{bits_at}
use Rattle.vs_design.specs.TreeLaws.{ConstantValue}
use Rattle.vs_design.specs.Within.{source_within, names_within}
use Rattle.vs_code.specs.Kernels.{takes}
use Rattle.vs_code.specs.Calls.{Call, State, AreCalled, call_cost}
use Rattle.vs_values.specs.Added.{IsEnv, Holds, AreValues, fresh_call}
use Rattle.vs_values.specs.Constants.{constant_slot, constant_slots, constant_bit, constant_bits, extended_slots, selected_slots, AreConstant}
use Rattle.vs_values.specs.Coded.{Coding}
use Rattle.vs_values.specs.Made.{SourceInside, IsCallable, source_slots, select_kernel, IsSelect}
use Rattle.vs_values.specs.Ready.{IsReady}
use Rattle.vs_values.specs.Valued.{IsSource, IsValue, AddsValue}
use Rattle.vs_values.proofs.Adding.{values_as, is_fresh_call}
use Rattle.vs_values.proofs.Moved.{all_constant}
use Rattle.vs_values.proofs.Folding.{constant_weight}
use Rattle.vs_values.proofs.Paying.{no_calls}
use Rattle.vs_values.proofs.Named.{length_count, all_run, within_is}
use Rattle.vs_values.proofs.Values.{both_true, constant_value_is, name_is, one_more, in_left, wider}
use Rattle.vs_values.proofs.Selecting.{select_is, select_without, select_takes, range_is_some, pays}
use Rattle.vs_values.proofs.Binary.{same_length}
use Rattle.vs_values.proofs.Concatenating.{no_more}
use Rattle.vs_values.proofs.Unary.{not_true}
use Rattle.vs_values.proofs.Readying.{fits_64_is, fits_length, stores_of, two_added}

both : (a b : Bool) → a ≡ true → b ≡ true → (a && b) ≡ true
both true b h k = k
both false b h k = cc

record IsFitSelect (source : Source) (part : Part) (index : Expression) : Type 0 where
  pub fit : is_fit index ≡ true
  pub long : (1 ≤ width index) × (width index ≤ 64)
  pub part_long : (1 ≤ part.width) × (part.width ≤ 64)
  pub range : range_length part.range ≡ source_length source

fit_select : (source : Source) (part : Part) (index : Expression) → is_fit (Select source part index) ≡ true → IsFitSelect source part index
fit_select source part index h =
    let x = both_true (fits (Select source part index)) (divides_constants index) h in
    let y = both_true (fits_64 part.width && range_length part.range == source_length source) (fits index) x.0 in
    let z = both_true (fits_64 part.width) (range_length part.range == source_length source) y.0 in
    record {
      fit = both (fits index) (divides_constants index) y.1 x.1;
      long = fits_length index y.1;
      part_long = fits_64_is part.width z.0;
      range = eqb-true (range_length part.range) (source_length source) z.1;
    }

weight_of_select : (source : Source) (part : Part) (index : Expression) (w : ℕ) → is_constant index ≡ false → weight (Select source part index) w ≡ part.width * (range_length part.range * width index) + weight index (width index)
weight_of_select source part index w h = ap (λ (b : Bool). if b then 0 else (part.width * (range_length part.range * width index) + weight index (width index))) h

index_weighs : (source : Source) (part : Part) (index : Expression) (w : ℕ) (b : Bool) → is_constant index ≡ b → weight index (width index) ≤ weight (Select source part index) w
index_weighs source part index w true h = let z = constant_weight index (width index) h in omega (arith, z)
index_weighs source part index w false h = let z = weight_of_select source part index w h in omega (arith, z)

pub ready_index : (env : List ℕ) (code : Coding) (source : Source) (part : Part) (index : Expression) (w k : ℕ) → k ≡ width index → IsReady env code (Select source part index) w → IsReady env code index k
ready_index env code source part index w k h r =
    let f = fit_select source part index r.fit in
    let weighs = index_weighs source part index w (is_constant index) refl in
    subst (IsReady env code index) (sym h) (record {
      is_env = r.is_env;
      has_bits = (both_true (source_within (length env) source) (names_within (length env) index) r.has_bits).1;
      fit = f.fit;
      wide = omega arith;
      at_most_64 = f.long.1;
      light = omega (arith, r.light, weighs);
      slots = omega (arith, r.slots, weighs);
      few = omega (arith, r.few, weighs);
    })

-- ---- what the bits are taken of

pub source_long : (env : List ℕ) (source : Source) → length (source_slots env source) ≡ source_length source
source_long env (OfSignal signal) = length-map (bits_of_signal signal) (slice_index env) ∙ length_count signal.first (signal_length signal)
source_long env (OfConstant v) = length-map v constant_slot

one_list : (x y : BitList) → (x ∷ []) ≡ (y ∷ []) → x ≡ y
one_list x y h = cc

pub source_is : (env : List ℕ) (m : ℕ) (source : Source) → IsEnv env m → SourceInside (length env) source → AreValues env m [] (source_slots env source ∷ []) m 0 (λ state. source_value state source ∷ [])
source_is env m (OfSignal signal) e h =
    let bits = bits_of_signal signal in
    let to = map (slice_index env) bits in
    let w = length to in
    let inside = all_run signal.first (signal_length signal) (length env) h in
    let v = name_is env m signal w false e inside (omega (arith, length-map bits (slice_index env))) in
    let full : extended_slots w false to ≡ to = no_more 0 w to refl in
    values_as env m [] (extended_slots w false to ∷ []) m 0 (λ state. value (Name signal) w false state ∷ []) (to ∷ []) 0 (λ state. source_value state (OfSignal signal) ∷ []) e v.values (omega arith)
    (one_more (λ t. All (λ slot. slot < m) t) to (All-map (λ slot. slot < m) (slice_index env) bits (All-weaker (λ b. b < length env) (λ b. slice_index env b < m) (λ b l. e.below b 0 l) bits inside)))
    (λ slots state constants same.
    ap (λ (x : BitList). x ∷ []) (ap (map slots) (sym full) ∙ one_list (map slots (extended_slots w false to)) (value (Name signal) w false state) same ∙ same_length (read state bits) _ w (length-map bits state ∙ sym (length-map bits (slice_index env)))))
source_is env m (OfConstant v) e h =
    let l = Literal v false true in
    let same = λ (state : N.State). same_length v _ (length v) refl in
    let c = constant_value_is env m l (length v) false v e refl same in
    values_as env m [] (constant_slots v ∷ []) m 0 (λ state. value l (length v) false state ∷ []) (constant_slots v ∷ []) 0 (λ state. source_value state (OfConstant v) ∷ []) e c.values (omega arith)
    c.values.below (λ slots state constants is. is ∙ ap (λ (x : BitList). x ∷ []) (same state))

-- what the code knows of its index
pub record Index (env : List ℕ) (code code1 : Coding) (source : Source) (part : Part) (index : Expression) (w : ℕ) (ti : List ℕ) : Type 0 where
  pub ready : IsReady env code (Select source part index) w
  pub inside : SourceInside (length env) source
  pub value : AddsValue env code.calls code.next code1.calls code1.next index (width index) (sign index) ti

pub record IsSelectable (part : Part) (from ti : List ℕ) : Type 0 where
  pub of_range : range_length part.range ≡ length from
  pub some : 1 ≤ part.width
  pub most : part.width ≤ 64
  pub some_index : 1 ≤ length ti
  pub index : length ti ≤ 64

pub selectable : (env : List ℕ) (code code1 : Coding) (source : Source) (part : Part) (index : Expression) (w : ℕ) (ti : List ℕ) → Index env code code1 source part index w ti → IsSelectable part (source_slots env source) ti
selectable env code code1 source part index w ti o =
    let f = fit_select source part index o.ready.fit in
    record { of_range = f.range ∙ sym (source_long env source); some = f.part_long.0; most = f.part_long.1; some_index = omega (arith, o.value.value.length, f.long.0); index = omega (arith, o.value.value.length, f.long.1) }

range_pays : (k n i : ℕ) → 1 ≤ k → 1 ≤ i → n ≤ k * (n * i)
range_pays k n i h j = grind arith

pub callable_select : (env : List ℕ) (code code1 : Coding) (source : Source) (part : Part) (index : Expression) (w : ℕ) (ti : List ℕ) → Index env code code1 source part index w ti
    → (AreConstant ti → ⊥) → IsCallable code1 (select_kernel part (sign index)) (source_slots env source ∷ ti ∷ []) part.width
callable_select env code code1 source part index w ti o variable =
    let r = o.ready in
    let f = fit_select source part index r.fit in
    let vi = o.value.value in
    let from = source_slots env source in
    let n = range_length part.range in
    let constant = not_true (is_constant index) (λ h. variable (vi.constant h)) in
    let kernel = select_kernel part (sign index) in
    let call = fresh_call kernel (from ∷ ti ∷ []) code1.next part.width in
    let long : length from ≡ n = source_long env source ∙ sym f.range in
    let same : (n ∷ width index ∷ part.width ∷ []) ≡ (length from ∷ length ti ∷ part.width ∷ []) =
    ap (λ (k : ℕ). k ∷ width index ∷ part.width ∷ []) (sym long) ∙ ap (λ (k : ℕ). length from ∷ k ∷ part.width ∷ []) (sym vi.length) in
    let total = weight_of_select source part index w constant in
    let pays1 = pays part.width n (width index) (range_is_some part.range) f.long.0 in
    let pays2 = range_pays part.width n (width index) f.part_long.0 f.long.0 in
    let added = vi.values.added in
    let stored = stores_of code.calls o.value.calls code1.calls o.value.is in
    let shorts : All (λ k. k < 2 ^ 32) (n ∷ width index ∷ part.width ∷ []) = All-cons (λ k. k < 2 ^ 32) n (width index ∷ part.width ∷ []) (omega (arith, r.slots, total, pays2)) (All-cons (λ k. k < 2 ^ 32) (width index) (part.width ∷ []) (omega (arith, f.long.1)) (All-cons (λ k. k < 2 ^ 32) part.width [] (omega (arith, f.part_long.1)) (All-nil (λ k. k < 2 ^ 32)))) in
    let cost : call_cost call ≡ part.width = length-range_with_len code1.next part.width in
    let here : code1.next + part.width < 2 ^ 32 = omega (arith, r.slots, total, pays1, added.paid, added.stores) in
    let vs = source_is env code.next source r.is_env o.inside in
    let below : List ℕ → Type 0 = λ to. All (λ slot. slot < code1.next) to in
    record {
      is = is_fresh_call kernel (from ∷ ti ∷ []) code1.next part.width
          (subst (λ ls. takes kernel ls ≡ true) same (select_takes n n (width index) part.width refl f.long.0 f.part_long.0))
          (subst (All (λ k. k < 2 ^ 32)) same shorts) (omega arith) (omega (arith, here))
          (All-cons below from (ti ∷ []) (All-weaker (λ slot. slot < code.next) (λ slot. slot < code1.next) (λ slot l. omega (arith, added.grown)) from (All-head (λ to. All (λ slot. slot < code.next) to) from [] vs.below)) vi.values.below);
      slots = here;
      few = omega (arith, r.few, total, pays1, cost, added.stores, stored);
    }

-- ---- by an index in constants' slots

get_all : (P : ℕ → Type 0) (d : ℕ) (xs : List ℕ) (n : ℕ) → P d → All P xs → P (get_or xs n d)
get_all P d [] n p h = p
get_all P d (x ∷ xs) zero p h = All-head P x xs h
get_all P d (x ∷ xs) (suc n) p h = get_all P d xs n p (All-tail P x xs h)

pub places_all : (P : ℕ → Type 0) (from : List ℕ) (ps : List (Option ℕ)) → P 2 → All P from → All P (map (at_place 2 from) ps)
places_all P from [] p h = All-nil P
places_all P from (None ∷ ps) p h = All-cons P 2 (map (at_place 2 from) ps) p (places_all P from ps p h)
places_all P from (Some n ∷ ps) p h = All-cons P (get_or from n 2) (map (at_place 2 from) ps) (get_all P 2 from n p h) (places_all P from ps p h)

up_length : (i : ℤ) (n : ℕ) → length (indices_up i n) ≡ n
up_length i zero = refl
up_length i (suc n) = ap suc (up_length (i +ℤ pos 1) n)

down_length : (i : ℤ) (n : ℕ) → length (indices_down i n) ≡ n
down_length i zero = refl
down_length i (suc n) = ap suc (down_length (i -ℤ pos 1) n)

indices_length : (p : Part) (b : ℤ) → length (indices p b) ≡ p.width
indices_length p b = elim (is_descending p.range) as (λ k. length (if k then indices_up (least_index p b) p.width else indices_down (greatest_index p b) p.width) ≡ p.width) [ true ↦ up_length (least_index p b) p.width | false ↦ down_length (greatest_index p b) p.width ]

places_length : (p : Part) (s : Bool) (index : BitList) → length (places p s index) ≡ p.width
places_length p s index = elim (all_known index) as (λ k. length (if k then map (place_of p.range) (indices p (integer s index)) else replicate p.width None) ≡ p.width)
    [ true ↦ length-map (indices p (integer s index)) (place_of p.range) ∙ indices_length p (integer s index) | false ↦ length-replicate {A = Option ℕ} p.width None ]

pub selected_length : (p : Part) (s : Bool) (from : List ℕ) (index : BitList) → length (selected_slots p s from index) ≡ p.width
selected_length p s from index = length-map (places p s index) (at_place 2 from) ∙ places_length p s index

pub below_signal : (env : List ℕ) (m : ℕ) (source : Source) → IsEnv env m → SourceInside (length env) source → All (λ slot. slot < m) (source_slots env source)
below_signal env m source e h = All-head (λ to. All (λ slot. slot < m) to) (source_slots env source) [] (source_is env m source e h).below

-- the constant in the slots of a constant index
pub index_is : ConstantValue → (env : List ℕ) (m : ℕ) (index : Expression) (c : List Call) (ti : List ℕ) (p : ℕ) → IsValue env m index (width index) (sign index) c ti p → is_constant index ≡ true → constant_bits ti ≡ constant_value index
index_is law env m index c ti p v h =
    let w = width index in
    let none : c ≡ [] = no_calls c v.values.added.are_calls (omega (arith, v.values.added.stores, constant_weight index w h)) in
    let before : State = λ slot. constant_bit slot in
    let state : N.State = λ b. constant_bit (slice_index env b) in
    let holds : Holds env before state = record { constants = record { zero = refl; one = refl; x = refl; z = refl }; bits = λ b l. refl } in
    let called : AreCalled c before before = subst (λ (x : List Call). AreCalled x before before) (sym none) (λ slot. refl) in
    one_list (constant_bits ti) (value index w (sign index) state) (v.values.values before before state holds called) ∙ law index h w (sign index) state

contains_first : (b : ℕ) (bs : List ℕ) → contains (b ∷ bs) b ≡ true
contains_first b bs = grind arith

contains_later : (c b : ℕ) (bs : List ℕ) → contains bs b ≡ true → contains (c ∷ bs) b ≡ true
contains_later c b bs h = grind arith

pick : (f : ℕ → ℕ) (first len n : ℕ) → (get_or (map f (count_from first len)) n 2 ≡ 2) ⊎ (f (first + n) ≡ get_or (map f (count_from first len)) n 2)
pick f first zero n = inl refl
pick f first (suc len) zero = let z : first + 0 ≡ first = omega arith in inr (ap f z)
pick f first (suc len) (suc n) = let z : suc first + n ≡ first + suc n = omega arith in again (pick f (suc first) len n) z
  where
    again : {x k j : ℕ} → (x ≡ 2) ⊎ (f k ≡ x) → k ≡ j → (x ≡ 2) ⊎ (f j ≡ x)
    again (inl e) z = inl e
    again (inr e) z = inr (ap f (sym z) ∙ e)

picked_source : (env : List ℕ) (m : ℕ) (all : List ℕ) (b x : ℕ) → contains all b ≡ true → (x ≡ 2) ⊎ (slice_index env b ≡ x) → IsSource env m all x
picked_source env m all b x h (inl e) = inl (omega (arith, e))
picked_source env m all b x h (inr e) = inr (inr (b, h, e))

pub picks : (env : List ℕ) (m : ℕ) (signal : Signal) (ps : List (Option ℕ)) (all : List ℕ) → ((b : ℕ) → contains (somes (bits_at signal ps)) b ≡ true → contains all b ≡ true)
    → All (IsSource env m all) (map (at_place 2 (map (slice_index env) (bits_of_signal signal))) ps)
picks env m signal [] all f = All-nil (IsSource env m all)
picks env m signal (None ∷ ps) all f = All-cons (IsSource env m all) 2 (map (at_place 2 (map (slice_index env) (bits_of_signal signal))) ps) (inl (omega arith)) (picks env m signal ps all f)
picks env m signal (Some n ∷ ps) all f =
    let from = map (slice_index env) (bits_of_signal signal) in
    let b = signal.first + n in
    All-cons (IsSource env m all) (get_or from n 2) (map (at_place 2 from) ps)
    (picked_source env m all b (get_or from n 2) (f b (contains_first b (somes (bits_at signal ps)))) (pick (slice_index env) signal.first (signal_length signal) n))
    (picks env m signal ps all (λ c h. f c (contains_later b c (somes (bits_at signal ps)) h)))

sources_of : ConstantValue → (env : List ℕ) (m : ℕ) (source : Source) (part : Part) (index : Expression) (w : ℕ) (c : List Call) (ti : List ℕ) (p : ℕ) → IsEnv env m → SourceInside (length env) source → IsValue env m index (width index) (sign index) c ti p → AreConstant ti
    → All (IsSource env m (read_bits (Select source part index))) (selected_slots part (sign index) (source_slots env source) (constant_bits ti))
sources_of law env m (OfConstant v) part index w c ti p e inside value fixed =
    places_all (IsSource env m (read_bits (Select (OfConstant v) part index))) (constant_slots v) (places part (sign index) (constant_bits ti)) (inl (omega arith))
    (All-weaker (λ slot. slot < 4) (IsSource env m (read_bits (Select (OfConstant v) part index))) (λ slot l. inl l) (constant_slots v) (all_constant v))
sources_of law env m (OfSignal signal) part index w c ti p e inside value fixed = by (is_constant index) refl
  where
    more : List ℕ
    more = read_bits (Select (OfSignal signal) part index)

    from : List ℕ
    from = map (slice_index env) (bits_of_signal signal)

    by : (b : Bool) → is_constant index ≡ b → All (IsSource env m more) (map (at_place 2 from) (places part (sign index) (constant_bits ti)))
    by true h =
        let are = index_is law env m index c ti p value h in
        let chosen : selected_bits signal part index ≡ somes (bits_at signal (places part (sign index) (constant_value index))) =
        ap (λ (k : Bool). if k then somes (bits_at signal (places part (sign index) (constant_value index))) else bits_of_signal signal) h in
        subst (λ (x : BitList). All (IsSource env m more) (map (at_place 2 from) (places part (sign index) x))) (sym are)
        (picks env m signal (places part (sign index) (constant_value index)) more
        (λ b k. in_left (selected_bits signal part index) (read_bits index) b (subst (λ (bs : List ℕ). contains bs b ≡ true) (sym chosen) k)))
    by false h =
        let chosen : selected_bits signal part index ≡ bits_of_signal signal =
        ap (λ (k : Bool). if k then somes (bits_at signal (places part (sign index) (constant_value index))) else bits_of_signal signal) h in
        let all = name_is env m signal (length from) false e (all_run signal.first (signal_length signal) (length env) inside) (omega (arith, length-map (bits_of_signal signal) (slice_index env))) in
        let are : All (IsSource env m (bits_of_signal signal)) from = subst (All (IsSource env m (bits_of_signal signal))) (no_more 0 (length from) from refl) all.sources in
        places_all (IsSource env m more) from (places part (sign index) (constant_bits ti)) (inl (omega arith))
        (All-weaker (IsSource env m (bits_of_signal signal)) (IsSource env m more)
        (λ slot. wider env m m (bits_of_signal signal) more slot (omega arith) (λ b k. in_left (selected_bits signal part index) (read_bits index) b (subst (λ (bs : List ℕ). contains bs b ≡ true) (sym chosen) k))) from are)

constants_of : (env : List ℕ) (source : Source) (part : Part) (index : Expression) (ti : List ℕ) → is_constant (Select source part index) ≡ true → AreConstant (selected_slots part (sign index) (source_slots env source) (constant_bits ti))
constants_of env (OfSignal signal) part index ti h = absurd (true≢false (sym h))
constants_of env (OfConstant v) part index ti h = places_all (λ slot. slot < 4) (constant_slots v) (places part (sign index) (constant_bits ti)) (omega arith) (all_constant v)

never : (source : Source) (part : Part) (index : Expression) → is_constant index ≡ false → is_constant (Select source part index) ≡ true → ⊥
never (OfSignal signal) part index h k = true≢false (sym k)
never (OfConstant v) part index h k = true≢false (sym k ∙ h)

pub returns_select : ConstantValue → (env : List ℕ) (code code1 code2 : Coding) (source : Source) (part : Part) (index : Expression) (w : ℕ) (s : Bool) (ti to : List ℕ) → Index env code code1 source part index w ti
    → IsSelect part (sign index) w s (source_slots env source) ti code1 code2 to
    → AddsValue env code.calls code.next code2.calls code2.next (Select source part index) w s to
returns_select law env code code1 code2 source part index w s ti to o (inl h) =
    let v = o.value in
    let from = source_slots env source in
    let e = o.ready.is_env in
    let least : 4 ≤ code1.next = omega (arith, e.constants, v.value.values.added.grown) in
    subst (λ (x : Coding). AddsValue env code.calls code.next x.calls x.next (Select source part index) w s to) (sym h.1.same)
    (subst (λ (t : List ℕ). AddsValue env code.calls code.next code1.calls code1.next (Select source part index) w s t) (sym h.1.are) (record {
      calls = v.calls;
      is = v.is;
      value = select_without env code.next source part index w s from v.calls ti code1.next e (omega (arith, selected_length part (sign index) from (constant_bits ti), o.ready.wide))
          (source_is env code.next source e o.inside) v.value h.0
          (places_all (λ slot. slot < code1.next) from (places part (sign index) (constant_bits ti)) (omega arith)
          (All-weaker (λ slot. slot < code.next) (λ slot. slot < code1.next) (λ slot l. omega (arith, v.value.values.added.grown)) from (below_signal env code.next source e o.inside)))
          (constants_of env source part index ti) (sources_of law env code.next source part index w v.calls ti code1.next e o.inside v.value h.0);
    }))
returns_select law env code code1 code2 source part index w s ti to o (inr h) =
    let r = o.ready in
    let v = o.value in
    let f = fit_select source part index r.fit in
    let from = source_slots env source in
    let n = range_length part.range in
    let constant = not_true (is_constant index) (λ k. h.variable (v.value.constant k)) in
    let call = fresh_call (select_kernel part (sign index)) (from ∷ ti ∷ []) code1.next part.width in
    let can = callable_select env code code1 source part index w ti o h.variable in
    let total = weight_of_select source part index w constant in
    let pays2 = range_pays part.width n (width index) f.part_long.0 f.long.0 in
    let value = select_is env code.next source part index w s from v.calls ti code1.next r.is_env f.part_long.0 r.wide f.long.0 constant (omega (arith, f.part_long.1)) (omega (arith, f.long.1)) (omega (arith, r.slots, total, pays2)) (omega (arith, can.slots))
    (source_long env source ∙ sym f.range) (source_is env code.next source r.is_env o.inside) v.value (never source part index constant) in
    record {
      calls = v.calls ++ call ∷ [];
      is = two_added code.calls v.calls (call ∷ []) code1.calls code2.calls v.is (ap (λ (x : Coding). x.calls) h.call);
      value = subst (λ k. IsValue env code.next (Select source part index) w s (v.calls ++ call ∷ []) to k) (sym (ap (λ (x : Coding). x.next) h.call))
          (subst (λ t. IsValue env code.next (Select source part index) w s (v.calls ++ call ∷ []) t (code1.next + part.width)) (sym h.are) value);
    }

-- ---- in the code's words

-- the bits that it is taken of are within the environment
inside_is : (n : ℕ) (source : Source) → source_within n source ≡ true → SourceInside n source
inside_is n (OfSignal signal) h = within_is n signal h
inside_is n (OfConstant bits) h = omega arith

pub index_of : (env : List ℕ) (code code1 : Coding) (source : Source) (part : Part) (index : Expression) (w : ℕ) (ti : List ℕ) → IsReady env code (Select source part index) w
    → AddsValue env code.calls code.next code1.calls code1.next index (width index) (sign index) ti → Index env code code1 source part index w ti
index_of env code code1 source part index w ti r v = record { ready = r; inside = inside_is (length env) source (both_true (source_within (length env) source) (names_within (length env) index) r.has_bits).0; value = v }

pub selectable_from : (part : Part) (env : List ℕ) (source : Source) (from ti : List ℕ) → from ≡ source_slots env source → IsSelectable part (source_slots env source) ti → IsSelectable part from ti
selectable_from part env source from ti h s = subst (λ (x : List ℕ). IsSelectable part x ti) (sym h) s

pub callable_from : (env : List ℕ) (code1 : Coding) (source : Source) (part : Part) (g h : Bool) (from ti : List ℕ) → from ≡ source_slots env source → g ≡ h
    → IsCallable code1 (select_kernel part h) (source_slots env source ∷ ti ∷ []) part.width → IsCallable code1 (select_kernel part g) (from ∷ ti ∷ []) part.width
callable_from env code1 source part g h from ti e f c =
    subst (λ (x : List ℕ). IsCallable code1 (select_kernel part g) (x ∷ ti ∷ []) part.width) (sym e) (subst (λ (b : Bool). IsCallable code1 (select_kernel part b) (source_slots env source ∷ ti ∷ []) part.width) (sym f) c)

pub select_from : (env : List ℕ) (code1 code2 : Coding) (source : Source) (part : Part) (g h : Bool) (w : ℕ) (s : Bool) (from ti to : List ℕ) → from ≡ source_slots env source → g ≡ h
    → IsSelect part g w s from ti code1 code2 to → IsSelect part h w s (source_slots env source) ti code1 code2 to
select_from env code1 code2 source part g h w s from ti to e f c =
    subst (λ (x : List ℕ). IsSelect part h w s x ti code1 code2 to) e (subst (λ (b : Bool). IsSelect part b w s from ti code1 code2 to) f c)
