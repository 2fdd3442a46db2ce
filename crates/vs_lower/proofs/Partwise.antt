-- The write to one part of a target.
use Rattle.std.proofs.Common.{◌≡◌, ℕ, zero, suc, ◌+◌, ◌*◌, ◌<◌, ◌≤◌, ◌^◌, Bool, true, false, ◌&&◌, ◌||◌, ◌==◌, nat_le, if◌then◌else◌, List, [], ◌∷◌, map, length, slice_index, Option, Some, None, sym, ap, ◌∙◌, subst, refl, arith, append-nil, eqb-true, true≢false}
use Rattle.std.specs.List.{All, range_with_len}
use Rattle.std.proofs.lemmas.List.{length-map}
use Rattle.std.proofs.lemmas.List.Elements.{All-nil, All-cons, All-head, All-tail, All-weaker, All-map, All-replicate}
use Rattle.std.proofs.lemmas.List.FromFn.{length-range_with_len}
use Rattle.std.proofs.lemmas.List.Sums.{sum_by-cons}
use Rattle.vs_four.specs.Logic.{BitList}
use Rattle.vs_four.specs.Selects.{Part, range_length, places, write_places, at_place}
use Rattle.vs_design.specs.Expressions.{Signal, signal_length, word_length, addresses, Expression, width, sign, is_constant}
use Rattle.vs_design.specs.Values.{bits_of_signal, count_from, constant_value, address_place, spread, word_places, word_part_places}
use Rattle.vs_design.specs.Statements.{Target, Whole, PartOf, WordOf, WordPartOf, target_width}
use Rattle.vs_design.specs.Bodies.{bits_at}
use Rattle.vs_design.specs.Fits.{fits_64, fits_target, is_fit, fits, divides_constants, fits_word_part}
use Rattle.vs_design.specs.Footprints.{contains, somes, target_bits}
use Rattle.vs_design.specs.Sizes.{address_weight}
use Rattle.vs_kern_select.specs.declared.costs.Kernel.{Kernel}
use Rattle.vs_kern_select.specs.declared.costs.Kernel.TheVariants as S
use Rattle.vs_code.specs.declared.kernels.AnyKernel.TheVariants as K
use Rattle.vs_code.specs.Kernels.{takes}
use Rattle.vs_code.specs.Calls.{Call, call_cost}
use Rattle.vs_values.specs.Coded.{Coding, with_call}
use Rattle.vs_values.specs.Constants.{constant_bits, AreConstant}
use Rattle.vs_values.specs.Environments.{placed}
use Rattle.vs_lower.specs.Done.{IsWritten}
use Rattle.vs_values.specs.Made.{IsCallable}
use Rattle.vs_lower.specs.Written.{HasRoom, IsIndex, AddsWrites, write_weight}
use Rattle.vs_values.proofs.Adding.{added_within, is_fresh_call}
use Rattle.vs_lower.proofs.Assigning.{whole_written}
use Rattle.vs_lower.proofs.Joining.{picked}
use Rattle.vs_values.proofs.Named.{all_run, length_count}
use Rattle.vs_lower.proofs.Placing.{by_test}
use Rattle.vs_values.proofs.Readying.{fits_64_is, fits_length}
use Rattle.vs_values.proofs.Selecting.{selection}
use Rattle.vs_values.proofs.Wording.{memory_long, word_ends, place_less, word_pays}
use Rattle.vs_lower.proofs.Widths.{chosen_bits, fixed_length}
use Rattle.vs_lower.proofs.Targets.{IsWithin, IsSelecting, WritesPlaces, places_within, in_run, fixed_written, called_written, write_call}
use Rattle.vs_values.proofs.Unary.{not_true}
use Rattle.vs_values.proofs.Values.{both_true}

pub record IsFitPart (signal : Signal) (part : Part) (index : Expression) : Type 0 where
  pub some : 1 ≤ part.width
  pub most : part.width ≤ 64
  pub range : range_length part.range ≡ signal_length signal
  pub index_fit : is_fit index ≡ true
  pub index_some : 1 ≤ width index
  pub index_most : width index ≤ 64

pub fit_part : (signal : Signal) (part : Part) (index : Expression) → fits_target (PartOf signal part index) ≡ true → IsFitPart signal part index
fit_part signal part index h =
    let x = both_true (fits_64 part.width && range_length part.range == signal_length signal) (is_fit index) h in
    let y = both_true (fits_64 part.width) (range_length part.range == signal_length signal) x.0 in
    let w = fits_64_is part.width y.0 in
    let l = fits_length index (both_true (fits index) (divides_constants index) x.1).0 in
    record { some = w.0; most = w.1; range = eqb-true (range_length part.range) (signal_length signal) y.1; index_fit = x.1; index_some = l.0; index_most = l.1 }

pub record IsFitWord (signal : Signal) (index : Expression) : Type 0 where
  pub some : 1 ≤ word_length signal
  pub most : word_length signal ≤ 64
  pub index_fit : is_fit index ≡ true
  pub index_some : 1 ≤ width index
  pub index_most : width index ≤ 64

pub fit_word : (signal : Signal) (index : Expression) → fits_target (WordOf signal index) ≡ true → IsFitWord signal index
fit_word signal index h =
    let x = both_true (fits_64 (word_length signal)) (is_fit index) h in
    let w = fits_64_is (word_length signal) x.0 in
    let l = fits_length index (both_true (fits index) (divides_constants index) x.1).0 in
    record { some = w.0; most = w.1; index_fit = x.1; index_some = l.0; index_most = l.1 }

-- ---- what the write of a part stores, with a store more for each of its bits

pays_twice : (n k i : ℕ) → 1 ≤ k → 1 ≤ i → n + n ≤ k * (n * (i + 1))
pays_twice n zero i h l = absurd (omega arith)
pays_twice n (suc k) zero h l = absurd (omega arith)
pays_twice n (suc k) (suc i) h l = grind arith

-- it makes none by a constant index, and else at most as many as its signal has bits
pub part_few : (signal : Signal) (part : Part) (index : Expression) → fits_target (PartOf signal part index) ≡ true → (stores : ℕ) (q : Bool) → is_constant index ≡ q → (q ≡ true → stores ≡ 0) → stores ≤ signal_length signal
    → stores + length (target_bits (PartOf signal part index)) ≤ target_width (PartOf signal part index) + write_weight (PartOf signal part index)
part_few signal part index h stores true e z l = omega (arith, fixed_length (PartOf signal part index) e, z refl)
part_few signal part index h stores false e z l =
    let p = fit_part signal part index h in
    let bits : length (target_bits (PartOf signal part index)) ≡ signal_length signal = ap (λ (bs : List ℕ). length bs) (chosen_bits signal index (places part (sign index) (constant_value index)) false e) ∙ length_count signal.first (signal_length signal) in
    let weight : write_weight (PartOf signal part index) ≡ part.width * (range_length part.range * (width index + 1)) = ap (λ (b : Bool). if b then 0 else part.width * (range_length part.range * (width index + 1))) e in
    omega (arith, bits, weight, pays_twice (range_length part.range) part.width (width index) p.some p.index_some, p.range, l)

pub words_pay : (r m k : ℕ) → r * k + r * k ≤ 2 * (r * (m + k))
words_pay r m k = grind arith

pub word_few : (signal : Signal) (index : Expression) (stores : ℕ) (q : Bool) → is_constant index ≡ q → (q ≡ true → stores ≡ 0) → stores ≤ signal_length signal
    → stores + length (target_bits (WordOf signal index)) ≤ target_width (WordOf signal index) + write_weight (WordOf signal index)
word_few signal index stores true e z l = omega (arith, fixed_length (WordOf signal index) e, z refl)
word_few signal index stores false e z l =
    let bits : length (target_bits (WordOf signal index)) ≡ signal_length signal = ap (λ (bs : List ℕ). length bs) (chosen_bits signal index (word_places signal (sign index) (constant_value index)) false e) ∙ length_count signal.first (signal_length signal) in
    let weight : write_weight (WordOf signal index) ≡ address_weight signal (width index) = ap (λ (b : Bool). if b then 0 else address_weight signal (width index)) e in
    omega (arith, bits, weight, words_pay (range_length (addresses signal)) (width index) (word_length signal), memory_long signal, l)

-- ---- which bits a part has

not_or : (a b : Bool) → (a || b) ≡ true → a ≡ false → b ≡ true
not_or true b h e = cc
not_or false b h e = h

-- places of a signal are bits of it
pub somes_within : (signal : Signal) (ps : List (Option ℕ)) (b : ℕ) → All (IsWithin (signal_length signal)) ps → contains (somes (bits_at signal ps)) b ≡ true → contains (bits_of_signal signal) b ≡ true
somes_within signal [] b h c = absurd (true≢false (sym c))
somes_within signal (None ∷ ps) b h c = somes_within signal ps b (All-tail (IsWithin (signal_length signal)) None ps h) c
somes_within signal (Some q ∷ ps) b h c =
    by_test (b == signal.first + q)
    (λ e. ap (contains (bits_of_signal signal)) (eqb-true b (signal.first + q) e) ∙ in_run (signal_length signal) q signal.first (All-head (IsWithin (signal_length signal)) (Some q) ps h))
    (λ e. somes_within signal ps b (All-tail (IsWithin (signal_length signal)) (Some q) ps h) (not_or (b == signal.first + q) (contains (somes (bits_at signal ps)) b) c e))

-- by an index in constants' slots no other bits are written
fixed_within : (target : Target) (signal : Signal) (index : Expression) (at : BitList → List (Option ℕ)) (ti : List ℕ) → IsSelecting target signal index at → IsIndex index ti → (q : Bool) → is_constant index ≡ q
    → (b : ℕ) → contains (target_bits target) b ≡ false → contains (somes (bits_at signal (at (constant_bits ti)))) b ≡ false
fixed_within target signal index at ti s i true e b h =
    ap (λ (v : BitList). contains (somes (bits_at signal (at v))) b) (i.fixed e) ∙ ap (λ (bs : List ℕ). contains bs b) (sym (s.fixed e)) ∙ h
fixed_within target signal index at ti s i false e b h =
    let ps = at (constant_bits ti) in
    let out : contains (bits_of_signal signal) b ≡ false = ap (λ (bs : List ℕ). contains bs b) (sym (s.varied e)) ∙ h in
    not_true (contains (somes (bits_at signal ps)) b) (λ c. true≢false (sym (somes_within signal ps b (s.within (constant_bits ti)) c) ∙ out))

pub part_selecting : (signal : Signal) (part : Part) (index : Expression) → range_length part.range ≡ signal_length signal → IsSelecting (PartOf signal part index) signal index (places part (sign index))
part_selecting signal part index r = record {
  writes = λ v state. refl;
  values = λ state. refl;
  fixed = λ h. chosen_bits signal index (places part (sign index) (constant_value index)) true h;
  varied = λ h. chosen_bits signal index (places part (sign index) (constant_value index)) false h;
  within = λ x. subst (λ (k : ℕ). All (IsWithin k) (places part (sign index) x)) r (places_within part (sign index) x);
}

run_within : (n first k : ℕ) → first + k ≤ n → All (IsWithin n) (map Some (count_from first k))
run_within n first zero h = All-nil (IsWithin n)
run_within n first (suc k) h = All-cons (IsWithin n) (Some first) (map Some (count_from (suc first) k)) (omega arith) (run_within n (suc first) k (omega arith))

pub place_within : (signal : Signal) (s : Bool) (address : BitList) → IsWithin (range_length (addresses signal)) (address_place signal s address)
place_within signal s address = at (address_place signal s address) refl
  where
    at : (o : Option ℕ) → address_place signal s address ≡ o → IsWithin (range_length (addresses signal)) o
    at None e = tt
    at (Some n) e = place_less signal s address n e

pub word_within : (signal : Signal) (place : Option ℕ) → IsWithin (range_length (addresses signal)) place → All (IsWithin (signal_length signal)) (spread (word_length signal) place)
word_within signal None h = All-replicate (IsWithin (signal_length signal)) (word_length signal) None tt
word_within signal (Some n) h = run_within (signal_length signal) (n * word_length signal) (word_length signal) (word_ends signal n h)

pub word_selecting : (signal : Signal) (index : Expression) → IsSelecting (WordOf signal index) signal index (word_places signal (sign index))
word_selecting signal index = record {
  writes = λ v state. refl;
  values = λ state. refl;
  fixed = λ h. chosen_bits signal index (word_places signal (sign index) (constant_value index)) true h;
  varied = λ h. chosen_bits signal index (word_places signal (sign index) (constant_value index)) false h;
  within = λ x. word_within signal (address_place signal (sign index) x) (place_within signal (sign index) x);
}

-- ---- parts of words

pub record IsFitWordPart (signal : Signal) (address : Expression) (part : Part) (index : Expression) : Type 0 where
  pub some : 1 ≤ part.width
  pub most : part.width ≤ 64
  pub range : range_length part.range ≡ word_length signal
  pub address_fit : is_fit address ≡ true
  pub address_some : 1 ≤ width address
  pub address_most : width address ≤ 64
  pub index_fit : is_fit index ≡ true
  pub index_some : 1 ≤ width index
  pub index_most : width index ≤ 64

pub fit_word_part : (signal : Signal) (address : Expression) (part : Part) (index : Expression) → fits_target (WordPartOf signal address part index) ≡ true → IsFitWordPart signal address part index
fit_word_part signal address part index h =
    let x = both_true (fits_word_part signal part && is_fit address) (is_fit index) h in
    let y = both_true (fits_word_part signal part) (is_fit address) x.0 in
    let z = both_true (fits_64 part.width) (range_length part.range == word_length signal) y.0 in
    let w = fits_64_is part.width z.0 in
    let k = fits_length address (both_true (fits address) (divides_constants address) y.1).0 in
    let l = fits_length index (both_true (fits index) (divides_constants index) x.1).0 in
    record {
      some = w.0;
      most = w.1;
      range = eqb-true (range_length part.range) (word_length signal) z.1;
      address_fit = y.1;
      address_some = k.0;
      address_most = k.1;
      index_fit = x.1;
      index_some = l.0;
      index_most = l.1;
    }

-- what is at some of these places is one of them
one_within : (n : ℕ) (ps : List (Option ℕ)) (q : Option ℕ) → All (IsWithin n) ps → IsWithin n (at_place None ps q)
one_within n ps None h = tt
one_within n [] (Some k) h = tt
one_within n (p ∷ ps) (Some zero) h = All-head (IsWithin n) p ps h
one_within n (p ∷ ps) (Some (suc k)) h = one_within n ps (Some k) (All-tail (IsWithin n) p ps h)

taken_within : (n : ℕ) (ps qs : List (Option ℕ)) → All (IsWithin n) ps → All (IsWithin n) (map (at_place None ps) qs)
taken_within n ps [] h = All-nil (IsWithin n)
taken_within n ps (q ∷ qs) h = All-cons (IsWithin n) (at_place None ps q) (map (at_place None ps) qs) (one_within n ps q h) (taken_within n ps qs h)

pub word_part_within : (signal : Signal) (g : Bool) (us : BitList) (part : Part) (j : Bool) (vs : BitList) → All (IsWithin (signal_length signal)) (word_part_places signal g us part j vs)
word_part_within signal g us part j vs = taken_within (signal_length signal) (word_places signal g us) (places part j vs) (word_within signal (address_place signal g us) (place_within signal g us))

-- ---- what is added

written_more : (env : List ℕ) (mark : ℕ) (target : Target) (tis : List (List ℕ)) (tv : List ℕ) (most more : ℕ) (calls : List Call) (env_after : List ℕ) (next : ℕ) → most ≤ more
    → IsWritten env mark target tis tv most calls env_after next → IsWritten env mark target tis tv more calls env_after next
written_more env mark target tis tv most more calls env_after next l w = record {
  added = added_within mark calls next most more l w.added;
  is_env = w.is_env;
  same_length = w.same_length;
  kept = w.kept;
  from = w.from;
  values = w.values;
}

pub whole_adds : (env env_after : List ℕ) (code : Coding) (signal : Signal) (ti tv : List ℕ) (w : ℕ) → HasRoom env code w → All (λ slot. slot < code.next) tv
    → env_after ≡ placed env (map Some (bits_of_signal signal)) tv → AddsWrites env env_after code code (Whole signal) (ti ∷ []) tv 0
whole_adds env env_after code signal ti tv w r below is = record {
  calls = [];
  is = sym (append-nil code.calls);
  written = subst (λ (x : List ℕ). IsWritten env code.next (Whole signal) (ti ∷ []) tv 0 [] x code.next) (sym is) (whole_written env code.next signal ti tv r.is_env below);
  few = λ n. omega (arith, length_count signal.first (signal_length signal));
}

pub fixed_adds : (env env_after : List ℕ) (code : Coding) (target : Target) (signal : Signal) (index : Expression) (at : BitList → List (Option ℕ)) (ti tv : List ℕ) → IsSelecting target signal index at
    → HasRoom env code (write_weight target) → All (λ slot. slot < code.next) tv → AreConstant ti → IsIndex index ti → length (target_bits target) ≤ target_width target + write_weight target
    → env_after ≡ placed env (bits_at signal (at (constant_bits ti))) tv → AddsWrites env env_after code code target (ti ∷ []) tv (write_weight target)
fixed_adds env env_after code target signal index at ti tv s r below c i most is = record {
  calls = [];
  is = sym (append-nil code.calls);
  written = subst (λ (x : List ℕ). IsWritten env code.next target (ti ∷ []) tv (write_weight target) [] x code.next) (sym is)
      (written_more env code.next target (ti ∷ []) tv 0 (write_weight target) [] _ code.next (omega arith)
      (fixed_written env code.next target signal index at ti tv s r.is_env below c (fixed_within target signal index at ti s i (is_constant index) refl)));
  few = λ n. omega (arith, most);
}

-- ---- the kernel of a write

-- it writes values of this length to a target by a variable index
pub record IsWriter (kernel : Kernel) (target : Target) (signal : Signal) (index : Expression) (at : BitList → List (Option ℕ)) (long : ℕ) : Type 0 where
  pub selecting : IsSelecting target signal index at
  pub operator : WritesPlaces (K.Select kernel) long at
  pub takes : takes (K.Select kernel) (signal_length signal ∷ width index ∷ long ∷ signal_length signal ∷ []) ≡ true
  pub cost : (env ti tv : List ℕ) (mark : ℕ) → call_cost (write_call (K.Select kernel) signal env ti tv mark) ≡ signal_length signal
  pub weighs : is_constant index ≡ false → signal_length signal ≤ write_weight target
  pub few : is_constant index ≡ false → signal_length signal + length (target_bits target) ≤ target_width target + write_weight target
  pub index_most : width index ≤ 64
  pub most : long ≤ 64

pub part_takes : (n m i k : ℕ) → n ≡ m → 1 ≤ i → 1 ≤ k → (n == m && nat_le 1 i && nat_le 1 k && n == n) ≡ true
part_takes n m i k e h l = grind arith

pub part_pays : (n k i : ℕ) → 1 ≤ k → n ≤ k * (n * (i + 1))
part_pays n k i h = grind arith

pub part_writer : (signal : Signal) (part : Part) (index : Expression) → fits_target (PartOf signal part index) ≡ true → IsWriter (S.Write (selection part (sign index))) (PartOf signal part index) signal index (places part (sign index)) part.width
part_writer signal part index h =
    let p = fit_part signal part index h in
    let n = signal_length signal in
    record {
      selecting = part_selecting signal part index p.range;
      operator = λ n a x v l. ap (λ (k : ℕ). write_places a (places (record { range = part.range; up = part.up; width = k }) (sign index) x) v) l;
      takes = part_takes n (range_length part.range) (width index) part.width (sym p.range) p.index_some p.some;
      cost = λ env ti tv mark. length-range_with_len mark n;
      weighs = λ e.
          let weight : write_weight (PartOf signal part index) ≡ part.width * (range_length part.range * (width index + 1)) = ap (λ (b : Bool). if b then 0 else part.width * (range_length part.range * (width index + 1))) e in
          omega (arith, weight, part_pays (range_length part.range) part.width (width index) p.some, p.range);
      few = λ e. part_few signal part index h (signal_length signal) false e (λ f. absurd (true≢false (sym f))) (omega arith);
      index_most = p.index_most;
      most = p.most;
    }

pub word_writer : (signal : Signal) (index : Expression) → fits_target (WordOf signal index) ≡ true → IsWriter (S.WriteWord (record { range = addresses signal; signed = sign index })) (WordOf signal index) signal index (word_places signal (sign index)) (word_length signal)
word_writer signal index h =
    let p = fit_word signal index h in
    let n = signal_length signal in
    record {
      selecting = word_selecting signal index;
      operator = λ n a x v l. ap (λ (k : ℕ). write_places a (spread k (address_place signal (sign index) x)) v) l;
      takes = part_takes n (range_length (addresses signal) * word_length signal) (width index) (word_length signal) (memory_long signal) p.index_some p.some;
      cost = λ env ti tv mark. length-range_with_len mark n;
      weighs = λ e.
          let weight : write_weight (WordOf signal index) ≡ address_weight signal (width index) = ap (λ (b : Bool). if b then 0 else address_weight signal (width index)) e in
          omega (arith, weight, word_pays signal (width index) p.index_some);
      few = λ e. word_few signal index (signal_length signal) false e (λ f. absurd (true≢false (sym f))) (omega arith);
      index_most = p.index_most;
      most = p.most;
    }

-- what the call of a write needs
pub record CanWrite (env : List ℕ) (code : Coding) (kernel : Kernel) (target : Target) (signal : Signal) (index : Expression) (ti tv : List ℕ) : Type 0 where
  pub call : IsCallable code (K.Select kernel) (picked env (bits_of_signal signal) ∷ ti ∷ tv ∷ []) (signal_length signal)
  pub short : signal_length signal < 2 ^ 32
  pub weighs : signal_length signal ≤ write_weight target
  pub inside : All (λ b. b < length env) (bits_of_signal signal)
  pub varies : is_constant index ≡ false

pub can_write : (env : List ℕ) (code : Coding) (kernel : Kernel) (target : Target) (signal : Signal) (index : Expression) (at : BitList → List (Option ℕ)) (long : ℕ) (ti tv : List ℕ)
    → IsWriter kernel target signal index at long → HasRoom env code (write_weight target)
    → signal.first + signal_length signal ≤ length env → All (λ slot. slot < code.next) ti → All (λ slot. slot < code.next) tv → length tv ≡ long
    → (AreConstant ti → ⊥) → IsIndex index ti → CanWrite env code kernel target signal index ti tv
can_write env code kernel target signal index at long ti tv p r in_bits below_i below_v e variable i =
    let n = signal_length signal in
    let args = picked env (bits_of_signal signal) ∷ ti ∷ tv ∷ [] in
    let varies = not_true (is_constant index) (λ h. variable (i.constant h)) in
    let weighs = p.weighs varies in
    let wide : length (picked env (bits_of_signal signal)) ≡ n = length-map (bits_of_signal signal) (slice_index env) ∙ length_count signal.first n in
    let inside : All (λ b. b < length env) (bits_of_signal signal) = all_run signal.first n (length env) in_bits in
    let below : List ℕ → Type 0 = λ to. All (λ slot. slot < code.next) to in
    let under : below (picked env (bits_of_signal signal)) = All-map (λ slot. slot < code.next) (slice_index env) (bits_of_signal signal) (All-weaker (λ b. b < length env) (λ b. slice_index env b < code.next) (λ b l. r.is_env.below b 0 l) (bits_of_signal signal) inside) in
    let same : (n ∷ width index ∷ long ∷ n ∷ []) ≡ (length (picked env (bits_of_signal signal)) ∷ length ti ∷ length tv ∷ n ∷ []) =
    ap (λ (k : ℕ). k ∷ width index ∷ long ∷ n ∷ []) (sym wide) ∙ ap (λ (k : ℕ). length (picked env (bits_of_signal signal)) ∷ k ∷ long ∷ n ∷ []) (sym i.long) ∙ ap (λ (k : ℕ). length (picked env (bits_of_signal signal)) ∷ length ti ∷ k ∷ n ∷ []) (sym e) in
    let Q : ℕ → Type 0 = λ k. k < 2 ^ 32 in
    let short : n < 2 ^ 32 = omega (arith, r.slots, weighs) in
    let shorts : All Q (n ∷ width index ∷ long ∷ n ∷ []) = All-cons Q n (width index ∷ long ∷ n ∷ []) short (All-cons Q (width index) (long ∷ n ∷ []) (omega (arith, p.index_most)) (All-cons Q long (n ∷ []) (omega (arith, p.most)) (All-cons Q n [] short (All-nil Q)))) in
    let cost = p.cost env ti tv code.next in
    record {
      call = record {
        is = is_fresh_call (K.Select kernel) args code.next n (subst (λ ls. takes (K.Select kernel) ls ≡ true) same p.takes) (subst (All Q) same shorts) (omega arith) (omega (arith, r.slots, weighs))
            (All-cons below (picked env (bits_of_signal signal)) (ti ∷ tv ∷ []) under (All-cons below ti (tv ∷ []) below_i (All-cons below tv [] below_v (All-nil below))));
        slots = omega (arith, r.slots, weighs);
        few = omega (arith, r.few, weighs, cost);
      };
      short = short;
      weighs = weighs;
      inside = inside;
      varies = varies;
    }

pub called_adds : (env env_after : List ℕ) (code after : Coding) (kernel : Kernel) (target : Target) (signal : Signal) (index : Expression) (at : BitList → List (Option ℕ)) (long : ℕ) (ti tv : List ℕ)
    → IsWriter kernel target signal index at long → HasRoom env code (write_weight target)
    → All (λ slot. slot < code.next) ti → All (λ slot. slot < code.next) tv → length tv ≡ long
    → CanWrite env code kernel target signal index ti tv
    → after ≡ with_call code (K.Select kernel) (picked env (bits_of_signal signal) ∷ ti ∷ tv ∷ []) (signal_length signal)
    → env_after ≡ placed env (map Some (bits_of_signal signal)) (range_with_len code.next (signal_length signal))
    → AddsWrites env env_after code after target (ti ∷ []) tv (write_weight target)
called_adds env env_after code after kernel target signal index at long ti tv p r below_i below_v e can call is =
    let one = write_call (K.Select kernel) signal env ti tv code.next in
    let cost = p.cost env ti tv code.next in
    let out = λ (b : ℕ) (h : contains (target_bits target) b ≡ false). ap (λ (bs : List ℕ). contains bs b) (sym (p.selecting.varied can.varies)) ∙ h in
    let written = called_written env code.next target signal index at (K.Select kernel) long ti tv (write_weight target) p.selecting p.operator r.is_env below_i below_v e can.inside out can.call.is (omega (arith, cost)) (omega (arith, cost, can.weighs)) in
    record {
      calls = one ∷ [];
      is = ap (λ (x : Coding). x.calls) call;
      written = subst (λ (n : ℕ). IsWritten env code.next target (ti ∷ []) tv (write_weight target) (one ∷ []) env_after n) (sym (ap (λ (x : Coding). x.next) call))
          (subst (λ (x : List ℕ). IsWritten env code.next target (ti ∷ []) tv (write_weight target) (one ∷ []) x (code.next + signal_length signal)) (sym is) written);
      few = λ n. omega (arith, sum_by-cons call_cost one [], cost, p.few can.varies);
    }
