-- Words of memories whose address was lowered.
use Rattle.std.proofs.Common.{◌≡◌, ℕ, zero, suc, ◌+◌, ◌*◌, ◌<◌, ◌≤◌, ◌^◌, Bool, true, false, ◌&&◌, ◌==◌, nat_le, if◌then◌else◌, List, [], ◌∷◌, ◌++◌, map, length, slice_index, get_or, replicate, Option, None, Some, sym, ap, ◌∙◌, subst, refl, arith, inl, inr, true≢false, zero-add, nat_lt, ℤ, pos, negsuc}
use Rattle.std.specs.Prelude.{option_map}
use Rattle.std.specs.List.{All, range_with_len}
use Rattle.std.proofs.Math.Nat.{mul-le-mul_right}
use Rattle.std.proofs.lemmas.Bool.{ltb-true}
use Rattle.std.proofs.lemmas.List.{length-map, length-replicate}
use Rattle.std.proofs.lemmas.List.FromFn.{length-range_with_len}
use Rattle.std.proofs.lemmas.List.Elements.{All-nil, All-cons, All-weaker, All-head}
use Rattle.vs_four.specs.declared.Range.{Range}
use Rattle.vs_four.specs.Logic.{BitList, all_known}
use Rattle.vs_four.specs.Numbers.{integer}
use Rattle.vs_four.specs.Selects.{range_length, below, place_of, at_place}
use Rattle.vs_net.specs.Network as N
use Rattle.vs_design.specs.Expressions.{Signal, signal_length, word_length, words_length, range_or_zero, addresses, OfSignal, Expression, Word, width, sign, is_constant}
use Rattle.vs_design.specs.Sizes.{weight, address_weight}
use Rattle.vs_design.specs.Fits.{fits, fits_64, divides_constants, is_fit}
use Rattle.vs_design.specs.Values.{value, count_from, bits_of_signal, read, constant_value, spread, word_places, select_word}
use Rattle.vs_design.specs.Values as D
use Rattle.vs_design.specs.Footprints.{contains, somes, read_bits, addressed_bits}
use Rattle.vs_design.specs.Bodies.{bits_at}
use Rattle.vs_design.specs.TreeLaws.{ConstantValue}
use Rattle.vs_design.specs.Within.{signal_within, names_within}
use Rattle.vs_code.specs.Kernels.{operator_of, takes}
use Rattle.vs_code.specs.Calls.{Call, IsCall, call_cost}
use Rattle.vs_values.specs.Added.{IsEnv, AreValues, fresh_call}
use Rattle.vs_values.specs.Constants.{extended_slots, constant_bits, AreConstant, word_slots}
use Rattle.vs_values.specs.Coded.{Coding}
use Rattle.vs_values.specs.Made.{IsCallable, source_slots, word_kernel, IsWord}
use Rattle.vs_values.specs.Ready.{IsReady}
use Rattle.vs_values.specs.Valued.{IsSource, IsValue, AddsValue}
use Rattle.vs_values.proofs.Adding.{values_more, values_as, values_call, is_fresh_call}
use Rattle.vs_values.proofs.Moved.{extended_all, length-extended}
use Rattle.vs_values.proofs.Folding.{bits_are, constant_weight, places_are}
use Rattle.vs_values.proofs.Named.{all_run, length_count, within_is}
use Rattle.vs_values.proofs.Values.{both_true, name_is, one_more, in_left, wider, extended_values, fresh_sources}
use Rattle.vs_values.proofs.Selecting.{range_is_some}
use Rattle.vs_values.proofs.Concatenating.{no_more}
use Rattle.vs_values.proofs.Unary.{not_true}
use Rattle.vs_values.proofs.Readying.{fits_64_is, fits_length, stores_of, two_added}
use Rattle.vs_values.proofs.Taking.{source_long, source_is, below_signal, places_all, picks, index_is}

-- ---- the place of a word

first_is : {n b : ℕ} → Some n ≡ Some b → n ≡ b
first_is h = cc

-- a memory has the bits of its words
pub memory_long : (signal : Signal) → signal_length signal ≡ range_length (addresses signal) * word_length signal
memory_long signal = go signal.words (word_length signal)
  where
    go : (o : Option Range) (k : ℕ) → words_length o k ≡ range_length (range_or_zero o) * k
    go None k = omega arith
    go (Some r) k = refl

pub word_ends : (signal : Signal) (n : ℕ) → n < range_length (addresses signal) → n * word_length signal + word_length signal ≤ signal_length signal
word_ends signal n h = let m : suc n * word_length signal ≤ range_length (addresses signal) * word_length signal = mul-le-mul_right (word_length signal) h in omega (arith, m, memory_long signal)

below_less : (len : ℕ) (z : ℤ) (n : ℕ) → below len z ≡ Some n → n < len
below_less len (pos m) n h = at (nat_lt m len) refl h
  where
    at : (d : Bool) → nat_lt m len ≡ d → (if d then Some m else None) ≡ Some n → n < len
    at true e h = let same : m ≡ n = first_is h in omega (arith, same, ltb-true m len e)
    at false e h = cc
below_less len (negsuc m) n h = cc

pub place_less : (signal : Signal) (s : Bool) (address : BitList) (n : ℕ) → D.address_place signal s address ≡ Some n → n < range_length (addresses signal)
place_less signal s address n h = at (all_known address) h
  where
    at : (k : Bool) → (if k then place_of (addresses signal) (integer s address) else None) ≡ Some n → n < range_length (addresses signal)
    at true e = below_less (range_length (addresses signal)) _ n e
    at false e = cc

pub word_small : (signal : Signal) → word_length signal ≤ signal_length signal
word_small signal = omega (arith, memory_long signal, some_times (range_length (addresses signal)) (word_length signal) (range_is_some (addresses signal)))
  where
    some_times : (d k : ℕ) → 1 ≤ d → k ≤ d * k
    some_times d k h = grind arith

pub place_of_word : (signal : Signal) (s : Bool) (range : Range) (bits address : BitList) (place : Option ℕ) → range ≡ addresses signal → bits ≡ address → place ≡ (if all_known bits then place_of range (integer s bits) else None) → place ≡ D.address_place signal s address
place_of_word signal s range bits address place e f h = h ∙ ap (λ (r : Range). if all_known bits then place_of r (integer s bits) else None) e ∙ ap (D.address_place signal s) f

-- ---- the slots of a word at this place

run_at : (f : ℕ → ℕ) (first len m d : ℕ) → m < len → get_or (map f (count_from first len)) m d ≡ f (first + m)
run_at f first zero m d h = absurd (omega arith)
run_at f first (suc len) zero d h = let z : first ≡ first + 0 = omega arith in ap f z
run_at f first (suc len) (suc m) d h = let z : suc first + m ≡ first + suc m = omega arith in run_at f (suc first) len m d (omega arith) ∙ ap f z

run_of_places : (f : ℕ → ℕ) (first len m k : ℕ) → m + k ≤ len → map (at_place 2 (map f (count_from first len))) (map Some (count_from m k)) ≡ map f (count_from (first + m) k)
run_of_places f first len m zero h = refl
run_of_places f first len m (suc k) h =
    let z : first + suc m ≡ suc (first + m) = omega arith in
    ap (λ (x : ℕ). x ∷ map (at_place 2 (map f (count_from first len))) (map Some (count_from (suc m) k))) (run_at f first len m 2 (omega arith))
    ∙ ap (λ (xs : List ℕ). f (first + m) ∷ xs) (run_of_places f first len (suc m) k (omega arith))
    ∙ ap (λ (n : ℕ). f (first + m) ∷ map f (count_from n k)) z

no_places : (from : List ℕ) (k : ℕ) → map (at_place 2 from) (replicate k None) ≡ replicate k 2
no_places from zero = refl
no_places from (suc k) = ap (λ (xs : List ℕ). 2 ∷ xs) (no_places from k)

-- the number of a word's first bit
abbrev pub first_of : Signal → Option ℕ → Option ℕ
first_of signal place = option_map (λ n. signal.first + n * word_length signal) place

pub first_within : (signal : Signal) (place : Option ℕ) (b : ℕ) → ((n : ℕ) → place ≡ Some n → n < range_length (addresses signal)) → first_of signal place ≡ Some b → b + word_length signal ≤ signal.first + signal_length signal
first_within signal None b inside e = cc
first_within signal (Some n) b inside e = omega (arith, first_is e, word_ends signal n (inside n refl))

pub slots_of_word : (env : List ℕ) (signal : Signal) (s : Bool) (address : BitList) (b : ℕ) → first_of signal (D.address_place signal s address) ≡ Some b
    → word_slots signal s (source_slots env (OfSignal signal)) address ≡ map (slice_index env) (count_from b (word_length signal))
slots_of_word env signal s address b e = at (D.address_place signal s address) refl e
  where
    k : ℕ
    k = word_length signal

    from : List ℕ
    from = source_slots env (OfSignal signal)

    at : (o : Option ℕ) → D.address_place signal s address ≡ o → first_of signal o ≡ Some b → map (at_place 2 from) (spread k o) ≡ map (slice_index env) (count_from b k)
    at None h e = cc
    at (Some n) h e =
        let is = first_is e in
        run_of_places (slice_index env) signal.first (signal_length signal) (n * k) k (word_ends signal n (place_less signal s address n h)) ∙ ap (λ (x : ℕ). map (slice_index env) (count_from x k)) is

pub slots_of_none : (env : List ℕ) (signal : Signal) (s : Bool) (address : BitList) → first_of signal (D.address_place signal s address) ≡ None
    → word_slots signal s (source_slots env (OfSignal signal)) address ≡ replicate (word_length signal) 2
slots_of_none env signal s address e = at (D.address_place signal s address) e
  where
    from : List ℕ
    from = source_slots env (OfSignal signal)

    at : (o : Option ℕ) → first_of signal o ≡ None → map (at_place 2 from) (spread (word_length signal) o) ≡ replicate (word_length signal) 2
    at None e = no_places from (word_length signal)
    at (Some n) e = cc

-- ---- what a word needs

both : (a b : Bool) → a ≡ true → b ≡ true → (a && b) ≡ true
both true b h k = k
both false b h k = cc

record IsFitWord (signal : Signal) (index : Expression) : Type 0 where
  pub fit : is_fit index ≡ true
  pub long : (1 ≤ width index) × (width index ≤ 64)
  pub word : (1 ≤ word_length signal) × (word_length signal ≤ 64)

fit_word : (signal : Signal) (index : Expression) → is_fit (Word signal index) ≡ true → IsFitWord signal index
fit_word signal index h =
    let x = both_true (fits (Word signal index)) (divides_constants index) h in
    let y = both_true (fits_64 (word_length signal)) (fits index) x.0 in
    record {
      fit = both (fits index) (divides_constants index) y.1 x.1;
      long = fits_length index y.1;
      word = fits_64_is (word_length signal) y.0;
    }

weight_of_word : (signal : Signal) (index : Expression) (w : ℕ) → is_constant index ≡ false → weight (Word signal index) w ≡ address_weight signal (width index) + weight index (width index)
weight_of_word signal index w h = ap (λ (b : Bool). if b then 0 else (address_weight signal (width index) + weight index (width index))) h

index_weighs : (signal : Signal) (index : Expression) (w : ℕ) (b : Bool) → is_constant index ≡ b → weight index (width index) ≤ weight (Word signal index) w
index_weighs signal index w true h = let z = constant_weight index (width index) h in omega (arith, z)
index_weighs signal index w false h = let z = weight_of_word signal index w h in omega (arith, z)

pub ready_address : (env : List ℕ) (code : Coding) (signal : Signal) (index : Expression) (w k : ℕ) → k ≡ width index → IsReady env code (Word signal index) w → IsReady env code index k
ready_address env code signal index w k h r =
    let f = fit_word signal index r.fit in
    let weighs = index_weighs signal index w (is_constant index) refl in
    subst (IsReady env code index) (sym h) (record {
      is_env = r.is_env;
      has_bits = (both_true (signal_within (length env) signal) (names_within (length env) index) r.has_bits).1;
      fit = f.fit;
      wide = omega arith;
      at_most_64 = f.long.1;
      light = omega (arith, r.light, weighs);
      slots = omega (arith, r.slots, weighs);
      few = omega (arith, r.few, weighs);
    })

-- what the code knows of the address
pub record Address (env : List ℕ) (code code1 : Coding) (signal : Signal) (index : Expression) (w : ℕ) (ti : List ℕ) : Type 0 where
  pub ready : IsReady env code (Word signal index) w
  pub inside : signal.first + signal_length signal ≤ length env
  pub value : AddsValue env code.calls code.next code1.calls code1.next index (width index) (sign index) ti

pub address_of : (env : List ℕ) (code code1 : Coding) (signal : Signal) (index : Expression) (w : ℕ) (ti : List ℕ) → IsReady env code (Word signal index) w
    → AddsValue env code.calls code.next code1.calls code1.next index (width index) (sign index) ti → Address env code code1 signal index w ti
address_of env code code1 signal index w ti r v = record { ready = r; inside = within_is (length env) signal (both_true (signal_within (length env) signal) (names_within (length env) index) r.has_bits).0; value = v }

pub address_long : (env : List ℕ) (code code1 : Coding) (signal : Signal) (index : Expression) (w : ℕ) (ti : List ℕ) → Address env code code1 signal index w ti → (1 ≤ length ti) × (length ti ≤ 64)
address_long env code code1 signal index w ti o =
    let f = fit_word signal index o.ready.fit in
    (omega (arith, o.value.value.length, f.long.0), omega (arith, o.value.value.length, f.long.1))

-- ---- by a variable address

-- the call of the kernel
abbrev pub word_call : List ℕ → Signal → Bool → List ℕ → ℕ → Call
word_call env signal s ti mark = fresh_call (word_kernel signal s) (source_slots env (OfSignal signal) ∷ ti ∷ []) mark (word_length signal)

word_takes : (n k i : ℕ) → 1 ≤ i → 1 ≤ k → (n * k == n * k && nat_le 1 i && nat_le 1 k) ≡ true
word_takes n k i h j = grind arith

pays : (n i k : ℕ) → 1 ≤ n → 1 ≤ i → k + n * k ≤ 2 * (n * (i + k))
pays n i k h j = grind arith

pub word_cost : (env : List ℕ) (signal : Signal) (s : Bool) (ti : List ℕ) (mark : ℕ) → call_cost (word_call env signal s ti mark) ≡ word_length signal + signal_length signal
word_cost env signal s ti mark =
    ap (λ (k : ℕ). k + range_length (addresses signal) * k) (length-range_with_len mark (word_length signal)) ∙ ap (λ (n : ℕ). word_length signal + n) (sym (memory_long signal))

pub word_pays : (signal : Signal) (i : ℕ) → 1 ≤ i → word_length signal + signal_length signal ≤ address_weight signal i
word_pays signal i h = omega (arith, memory_long signal, pays (range_length (addresses signal)) i (word_length signal) (range_is_some (addresses signal)) h)

pub callable_word : (env : List ℕ) (code code1 : Coding) (signal : Signal) (index : Expression) (w : ℕ) (ti : List ℕ) → Address env code code1 signal index w ti
    → (AreConstant ti → ⊥) → IsCallable code1 (word_kernel signal (sign index)) (source_slots env (OfSignal signal) ∷ ti ∷ []) (word_length signal)
callable_word env code code1 signal index w ti o variable =
    let r = o.ready in
    let f = fit_word signal index r.fit in
    let vi = o.value.value in
    let from = source_slots env (OfSignal signal) in
    let n = range_length (addresses signal) in
    let k = word_length signal in
    let constant = not_true (is_constant index) (λ h. variable (vi.constant h)) in
    let kernel = word_kernel signal (sign index) in
    let long : length from ≡ n * k = source_long env (OfSignal signal) ∙ memory_long signal in
    let same : (n * k ∷ width index ∷ k ∷ []) ≡ (length from ∷ length ti ∷ k ∷ []) =
    ap (λ (m : ℕ). m ∷ width index ∷ k ∷ []) (sym long) ∙ ap (λ (m : ℕ). length from ∷ m ∷ k ∷ []) (sym vi.length) in
    let total = weight_of_word signal index w constant in
    let paid = word_pays signal (width index) f.long.0 in
    let whole = memory_long signal in
    let added = vi.values.added in
    let stored = stores_of code.calls o.value.calls code1.calls o.value.is in
    let Q : ℕ → Type 0 = λ m. m < 2 ^ 32 in
    let shorts : All Q (n * k ∷ width index ∷ k ∷ []) = All-cons Q (n * k) (width index ∷ k ∷ []) (omega (arith, r.slots, total, paid, whole)) (All-cons Q (width index) (k ∷ []) (omega (arith, f.long.1)) (All-cons Q k [] (omega (arith, f.word.1)) (All-nil Q))) in
    let cost = word_cost env signal (sign index) ti code1.next in
    let here : code1.next + k < 2 ^ 32 = omega (arith, r.slots, total, paid, added.paid, added.stores) in
    let vs = source_is env code.next (OfSignal signal) r.is_env o.inside in
    let below : List ℕ → Type 0 = λ to. All (λ slot. slot < code1.next) to in
    record {
      is = is_fresh_call kernel (from ∷ ti ∷ []) code1.next k
          (subst (λ ls. takes kernel ls ≡ true) same (word_takes n k (width index) f.long.0 f.word.0))
          (subst (All Q) same shorts) (omega arith) (omega (arith, here))
          (All-cons below from (ti ∷ []) (All-weaker (λ slot. slot < code.next) (λ slot. slot < code1.next) (λ slot l. omega (arith, added.grown)) from (All-head (λ to. All (λ slot. slot < code.next) to) from [] vs.below)) vi.values.below);
      slots = here;
      few = omega (arith, r.few, total, paid, cost, added.stores, stored);
    }

word_is : (env : List ℕ) (m : ℕ) (signal : Signal) (index : Expression) (w : ℕ) (s : Bool) (c : List Call) (ti : List ℕ) (p : ℕ)
    → IsEnv env m → word_length signal ≤ w → 1 ≤ width index → is_constant index ≡ false
    → signal.first + signal_length signal ≤ length env
    → IsCall (word_call env signal (sign index) ti p)
    → IsValue env m index (width index) (sign index) c ti p
    → IsValue env m (Word signal index) w s (c ++ word_call env signal (sign index) ti p ∷ []) (extended_slots w s (range_with_len p (word_length signal))) (p + word_length signal)
word_is env m signal index w s c ti p e fits wide constant inside is vi =
    let kernel = word_kernel signal (sign index) in
    let from = source_slots env (OfSignal signal) in
    let k = word_length signal in
    let own = weight index (width index) in
    let x = λ (state : N.State). read state (bits_of_signal signal) in
    let y = λ (state : N.State). value index (width index) (sign index) state in
    let parts = subst (λ n. AreValues env m c (from ∷ ti ∷ []) p n (λ state. x state ∷ y state ∷ [])) (zero-add own)
    (values_more env m [] (from ∷ []) m 0 (λ state. x state ∷ []) c (ti ∷ []) p own (λ state. y state ∷ []) e (source_is env m (OfSignal signal) e inside) vi.values) in
    let call = word_call env signal (sign index) ti p in
    let cost = word_cost env signal (sign index) ti p in
    let extra = address_weight signal (width index) in
    let done = values_call env m c (from ∷ ti ∷ []) p own (λ state. x state ∷ y state ∷ []) kernel k extra parts is (omega (arith, cost)) (omega (arith, cost, word_pays signal (width index) wide)) in
    let weighs = weight_of_word signal index w constant in
    record {
      values = extended_values env m (c ++ call ∷ []) (range_with_len p k) (p + k) (own + extra) (weight (Word signal index) w)
          (λ state. operator_of kernel k (x state ∷ y state ∷ [])) (λ state. select_word signal (sign index) (x state) (y state)) w s e (omega (arith, weighs)) (λ state. refl) done;
      length = length-extended w s (range_with_len p k) (omega (arith, length-range_with_len p k));
      constant = λ h. absurd (true≢false (sym h));
      sources = extended_all (IsSource env m (read_bits (Word signal index))) w s (range_with_len p k) (inl (omega arith)) (fresh_sources env m p k (read_bits (Word signal index)) vi.values.added.grown);
    }

-- ---- by an address in constants' slots

word_long : (k : ℕ) (o : Option ℕ) → length (spread k o) ≡ k
word_long k None = length-replicate {A = Option ℕ} k None
word_long k (Some n) = length-map (count_from (n * k) k) Some ∙ length_count (n * k) k

pub length_word : (signal : Signal) (s : Bool) (from : List ℕ) (address : BitList) → length (word_slots signal s from address) ≡ word_length signal
length_word signal s from address = length-map (word_places signal s address) (at_place 2 from) ∙ word_long (word_length signal) (D.address_place signal s address)

chosen : (signal : Signal) (index : Expression) (b : Bool) → is_constant index ≡ b → addressed_bits signal index ≡ (if b then somes (bits_at signal (word_places signal (sign index) (constant_value index))) else bits_of_signal signal)
chosen signal index b h = ap (λ (k : Bool). if k then somes (bits_at signal (word_places signal (sign index) (constant_value index))) else bits_of_signal signal) h

word_sources : ConstantValue → (env : List ℕ) (m : ℕ) (signal : Signal) (index : Expression) (c : List Call) (ti : List ℕ) (p : ℕ) → IsEnv env m → signal.first + signal_length signal ≤ length env → IsValue env m index (width index) (sign index) c ti p
    → All (IsSource env m (read_bits (Word signal index))) (word_slots signal (sign index) (source_slots env (OfSignal signal)) (constant_bits ti))
word_sources law env m signal index c ti p e inside value = by (is_constant index) refl
  where
    more : List ℕ
    more = read_bits (Word signal index)

    from : List ℕ
    from = source_slots env (OfSignal signal)

    by : (b : Bool) → is_constant index ≡ b → All (IsSource env m more) (map (at_place 2 from) (word_places signal (sign index) (constant_bits ti)))
    by true h =
        let are = index_is law env m index c ti p value h in
        let ps = word_places signal (sign index) (constant_value index) in
        subst (λ (x : BitList). All (IsSource env m more) (map (at_place 2 from) (word_places signal (sign index) x))) (sym are)
        (picks env m signal ps more
        (λ b k. in_left (addressed_bits signal index) (read_bits index) b (subst (λ (bs : List ℕ). contains bs b ≡ true) (sym (chosen signal index true h)) k)))
    by false h =
        let all = name_is env m signal (length from) false e (all_run signal.first (signal_length signal) (length env) inside) (omega (arith, length-map (bits_of_signal signal) (slice_index env))) in
        let are : All (IsSource env m (bits_of_signal signal)) from = subst (All (IsSource env m (bits_of_signal signal))) (no_more 0 (length from) from refl) all.sources in
        places_all (IsSource env m more) from (word_places signal (sign index) (constant_bits ti)) (inl (omega arith))
        (All-weaker (IsSource env m (bits_of_signal signal)) (IsSource env m more)
        (λ slot. wider env m m (bits_of_signal signal) more slot (omega arith) (λ b k. in_left (addressed_bits signal index) (read_bits index) b (subst (λ (bs : List ℕ). contains bs b ≡ true) (sym (chosen signal index false h)) k))) from are)

two_lists : (a b x y : BitList) → (a ∷ b ∷ []) ≡ (x ∷ y ∷ []) → (a ≡ x) × (b ≡ y)
two_lists a b x y h = (cc, cc)

word_without : ConstantValue → (env : List ℕ) (m : ℕ) (signal : Signal) (index : Expression) (w : ℕ) (s : Bool) (c : List Call) (ti : List ℕ) (p : ℕ)
    → IsEnv env m → word_length signal ≤ w → signal.first + signal_length signal ≤ length env
    → IsValue env m index (width index) (sign index) c ti p
    → AreConstant ti
    → IsValue env m (Word signal index) w s c (extended_slots w s (word_slots signal (sign index) (source_slots env (OfSignal signal)) (constant_bits ti))) p
word_without law env m signal index w s c ti p e long inside vi fixed =
    let from = source_slots env (OfSignal signal) in
    let own = weight index (width index) in
    let r = word_slots signal (sign index) from (constant_bits ti) in
    let x = λ (state : N.State). read state (bits_of_signal signal) in
    let y = λ (state : N.State). value index (width index) (sign index) state in
    let u = λ (state : N.State). select_word signal (sign index) (x state) (y state) in
    let parts = subst (λ n. AreValues env m c (from ∷ ti ∷ []) p n (λ state. x state ∷ y state ∷ [])) (zero-add own)
    (values_more env m [] (from ∷ []) m 0 (λ state. x state ∷ []) c (ti ∷ []) p own (λ state. y state ∷ []) e (source_is env m (OfSignal signal) e inside) vi.values) in
    let grown = vi.values.added.grown in
    let below : All (λ slot. slot < p) r = places_all (λ slot. slot < p) from (word_places signal (sign index) (constant_bits ti)) (omega (arith, e.constants, grown))
    (All-weaker (λ slot. slot < m) (λ slot. slot < p) (λ slot l. omega (arith, grown)) from (below_signal env m (OfSignal signal) e inside)) in
    let moved = values_as env m c (from ∷ ti ∷ []) p own (λ state. x state ∷ y state ∷ []) (r ∷ []) own (λ state. u state ∷ []) e parts (omega arith)
    (one_more (λ to. All (λ slot. slot < p) to) r below)
    (λ slots state constants same.
    let q = two_lists (map slots from) (map slots ti) (x state) (y state) same in
    ap (λ (v : BitList). v ∷ [])
    (places_are slots from (word_places signal (sign index) (constant_bits ti)) constants
    ∙ ap (λ (v : BitList). select_word signal (sign index) v (constant_bits ti)) q.0
    ∙ ap (select_word signal (sign index) (x state)) (sym (bits_are slots ti constants fixed) ∙ q.1))) in
    record {
      values = extended_values env m c r p own (weight (Word signal index) w) u u w s e (index_weighs signal index w (is_constant index) refl) (λ state. refl) moved;
      length = length-extended w s r (omega (arith, length_word signal (sign index) from (constant_bits ti), long));
      constant = λ h. absurd (true≢false (sym h));
      sources = extended_all (IsSource env m (read_bits (Word signal index))) w s r (inl (omega arith)) (word_sources law env m signal index c ti p e inside vi);
    }

-- ---- either way

pub returns_word : ConstantValue → (env : List ℕ) (code code1 code2 : Coding) (signal : Signal) (index : Expression) (w : ℕ) (s : Bool) (ti to : List ℕ) → Address env code code1 signal index w ti
    → IsWord signal (sign index) w s (source_slots env (OfSignal signal)) ti code1 code2 to
    → AddsValue env code.calls code.next code2.calls code2.next (Word signal index) w s to
returns_word law env code code1 code2 signal index w s ti to o (inl h) =
    let v = o.value in
    let from = source_slots env (OfSignal signal) in
    subst (λ (x : Coding). AddsValue env code.calls code.next x.calls x.next (Word signal index) w s to) (sym h.1.same)
    (subst (λ (t : List ℕ). AddsValue env code.calls code.next code1.calls code1.next (Word signal index) w s t) (sym h.1.are) (record {
      calls = v.calls;
      is = v.is;
      value = word_without law env code.next signal index w s v.calls ti code1.next o.ready.is_env o.ready.wide o.inside v.value h.0;
    }))
returns_word law env code code1 code2 signal index w s ti to o (inr h) =
    let r = o.ready in
    let v = o.value in
    let f = fit_word signal index r.fit in
    let constant = not_true (is_constant index) (λ k. h.variable (v.value.constant k)) in
    let call = word_call env signal (sign index) ti code1.next in
    let can = callable_word env code code1 signal index w ti o h.variable in
    let value = word_is env code.next signal index w s v.calls ti code1.next r.is_env r.wide f.long.0 constant o.inside can.is v.value in
    record {
      calls = v.calls ++ call ∷ [];
      is = two_added code.calls v.calls (call ∷ []) code1.calls code2.calls v.is (ap (λ (x : Coding). x.calls) h.call);
      value = subst (λ n. IsValue env code.next (Word signal index) w s (v.calls ++ call ∷ []) to n) (sym (ap (λ (x : Coding). x.next) h.call))
          (subst (λ t. IsValue env code.next (Word signal index) w s (v.calls ++ call ∷ []) t (code1.next + word_length signal)) (sym h.are) value);
    }
