-- The bits of signals.
use Rattle.std.proofs.Common.{◌≡◌, ℕ, zero, suc, ◌+◌, ◌<◌, ◌≤◌, Bool, true, false, ◌&&◌, ◌||◌, not, ◌==◌, if◌then◌else◌, List, [], ◌∷◌, ◌++◌, map, length, slice_index, Some, slice_get, sym, ap, ◌∙◌, subst, refl, arith, add-one, append-nil, eqb-true}
use Rattle.std.specs.List.{All}
use Rattle.std.proofs.lemmas.Bool.{and_parts}
use Rattle.std.proofs.lemmas.List.{map-append}
use Rattle.std.proofs.lemmas.List.Sums.{sum_by-cons}
use Rattle.std.proofs.lemmas.List.Elements.{All-nil, All-cons}
use Rattle.vs_four.specs.declared.Bit4.{Bit4}
use Rattle.vs_four.specs.declared.Bit4.TheVariants.{Zero}
use Rattle.vs_four.specs.Logic.{BitList}
use Rattle.vs_four.specs.Lengths.{last_or, extend_with, extend_literal}
use Rattle.vs_four.specs.Tables.{is_known}
use Rattle.vs_design.specs.Expressions as E
use Rattle.vs_design.specs.Expressions.{signal_length}
use Rattle.vs_design.specs.Elaborated.{have_bits_from}
use Rattle.vs_design.specs.Values.{count_from, bits_of_signal}
use Rattle.vs_design.specs.Within as W
use Rattle.vs_flat.specs.declared.processes.Signal.{Signal}
use Rattle.vs_flat.specs.Arena as A
use Rattle.vs_flat.specs.Arena.{Arena, bit_count}
use Rattle.vs_flat.specs.DesignOf.{arena_signals}
use Rattle.vs_flat.specs.Trees.{signal_of, signal_at, signals_from}
use Rattle.vs_values.specs.Coded.{Coding}
use Rattle.vs_values.specs.Constants.{constant_slot, constant_slots, extended_slots}
use Rattle.vs_values.specs.Ready.{IsReady}
use Rattle.vs_values.specs.Valued.{IsValue, AddsValue}
use Rattle.vs_values.proofs.Moved.{map_extend_with}
use Rattle.vs_values.proofs.Values.{constant_value_is, name_is}

pub count_more : (f n : ℕ) → count_from f (suc n) ≡ count_from f n ++ (f + n) ∷ []
count_more f zero = let z : f ≡ f + 0 = omega arith in ap (λ k. k ∷ []) z
count_more f (suc n) = let z : suc f + n ≡ f + suc n = omega arith in ap (λ ks. f ∷ ks) (count_more (suc f) n) ∙ ap (λ k. f ∷ (count_from (suc f) n ++ k ∷ [])) z

pub run_more : (env : List ℕ) (f n : ℕ) → map (slice_index env) (count_from f (n + 1)) ≡ map (slice_index env) (count_from f n) ++ slice_index env (f + n) ∷ []
run_more env f n = ap (λ k. map (slice_index env) (count_from f k)) (add-one n) ∙ ap (map (slice_index env)) (count_more f n) ∙ map-append (slice_index env) (count_from f n) ((f + n) ∷ [])

some_is : (x y : Signal) → Some x ≡ Some y → x ≡ y
some_is x y h = cc

-- the bits of a signal are among those of all
pub signal_fits : (first k : ℕ) (ss : List Signal) (n : ℕ) (s : Signal) → have_bits_from first (signals_from k ss) ≡ true → slice_get ss n ≡ Some s → s.first_bit + A.signal_length s ≤ first + bit_count ss
signal_fits first k [] n s h e = cc
signal_fits first k (t ∷ ss) zero s h e =
    let p = and_parts (t.first_bit == first) (have_bits_from (first + A.signal_length t) (signals_from (suc k) ss)) h in
    let total = sum_by-cons A.signal_length t ss in
    subst (λ (x : Signal). x.first_bit + A.signal_length x ≤ first + bit_count (t ∷ ss)) (some_is t s e) (omega (arith, eqb-true t.first_bit first p.0, total))
signal_fits first k (t ∷ ss) (suc n) s h e =
    let p = and_parts (t.first_bit == first) (have_bits_from (first + A.signal_length t) (signals_from (suc k) ss)) h in
    let total = sum_by-cons A.signal_length t ss in
    omega (arith, total, signal_fits (first + A.signal_length t) (suc k) ss n s p.1 e)

pub all_run : (first n count : ℕ) → first + n ≤ count → All (λ b. b < count) (count_from first n)
all_run first zero count h = All-nil (λ b. b < count)
all_run first (suc n) count h = All-cons (λ b. b < count) first (count_from (suc first) n) (omega arith) (all_run (suc first) n count (omega arith))

pub length_count : (first n : ℕ) → length (count_from first n) ≡ n
length_count first zero = refl
length_count first (suc n) = ap suc (length_count (suc first) n)

-- what is within these many bits
pub within_is : (n : ℕ) (signal : E.Signal) → W.signal_within n signal ≡ true → signal.first + signal_length signal ≤ n
within_is n signal h = grind arith

pub adds_name : (env : List ℕ) (code : Coding) (signal : E.Signal) (w : ℕ) (s : Bool) (to : List ℕ) → IsReady env code (E.Name signal) w
    → to ≡ extended_slots w s (map (slice_index env) (bits_of_signal signal)) → AddsValue env code.calls code.next code.calls code.next (E.Name signal) w s to
adds_name env code signal w s to r is = record {
  calls = [];
  is = sym (append-nil code.calls);
  value = subst (λ t. IsValue env code.next (E.Name signal) w s [] t code.next) (sym is)
      (name_is env code.next signal w s r.is_env (all_run signal.first (signal_length signal) (length env) (within_is (length env) signal r.has_bits)) (omega (arith, length_count signal.first (signal_length signal), r.wide)));
}

-- ---- literals

last_slot : (bits : BitList) (d : Bit4) → constant_slot (last_or d bits) ≡ last_or (constant_slot d) (constant_slots bits)
last_slot [] d = refl
last_slot (b ∷ bits) d = last_slot bits b

fill_slot : (bits : BitList) (g : Bool) → constant_slot (if g then last_or Zero bits else Zero) ≡ (if g then last_or 0 (constant_slots bits) else 0)
fill_slot bits true = last_slot bits Zero
fill_slot bits false = refl

literal_slots : (w : ℕ) (g : Bool) (bits : BitList) → constant_slots (extend_with (if g then last_or Zero bits else Zero) w bits) ≡ extended_slots w g (constant_slots bits)
literal_slots w g bits = map_extend_with constant_slot (if g then last_or Zero bits else Zero) w bits ∙ ap (λ k. extend_with k w (constant_slots bits)) (fill_slot bits g)

pub adds_literal : (env : List ℕ) (code : Coding) (value : BitList) (signed sized : Bool) (w : ℕ) (s : Bool) (to : List ℕ) → IsReady env code (E.Literal value signed sized) w
    → length (extend_literal w s sized value) ≡ w
    → to ≡ extended_slots w (s || (not sized && not (is_known (last_or Zero value)))) (constant_slots value) → AddsValue env code.calls code.next code.calls code.next (E.Literal value signed sized) w s to
adds_literal env code value signed sized w s to r long is = record {
  calls = [];
  is = sym (append-nil code.calls);
  value = subst (λ t. IsValue env code.next (E.Literal value signed sized) w s [] t code.next) (literal_slots w (s || (not sized && not (is_known (last_or Zero value)))) value ∙ sym is)
      (constant_value_is env code.next (E.Literal value signed sized) w s (extend_literal w s sized value) r.is_env long (λ state. refl));
}

-- the last bit
bit_is : (x y : Bit4) → Some x ≡ Some y → x ≡ y
bit_is x y h = cc

pub top_is : (bits : BitList) (n : ℕ) (b d : Bit4) → n + 1 ≡ length bits → slice_get bits n ≡ Some b → b ≡ last_or d bits
top_is [] n b d l h = absurd (omega arith)
top_is (x ∷ []) zero b d l h = sym (bit_is x b h)
top_is (x ∷ []) (suc n) b d l h = absurd (omega arith)
top_is (x ∷ y ∷ ys) zero b d l h = absurd (omega arith)
top_is (x ∷ y ∷ ys) (suc n) b d l h = top_is (y ∷ ys) n b x (omega arith) h

-- the bits of a signal of the design
there : (ss : List Signal) (n : ℕ) → n < length ss → (s : Signal) × (slice_get ss n ≡ Some s)
there [] n l = absurd (omega arith)
there (s ∷ ss) zero l = (s, refl)
there (s ∷ ss) (suc n) l = there ss n (omega arith)

at_number : (k : ℕ) (ss : List Signal) (n : ℕ) (s : Signal) → slice_get ss n ≡ Some s → signal_at (signals_from k ss) n ≡ signal_of (k + n) s
at_number k [] n s e = cc
at_number k (t ∷ ss) zero s e = let z : k ≡ k + 0 = omega arith in ap (signal_of k) (some_is t s e) ∙ ap (λ m. signal_of m s) z
at_number k (t ∷ ss) (suc n) s e = let z : suc k + n ≡ k + suc n = omega arith in at_number (suc k) ss n s e ∙ ap (λ m. signal_of m s) z

pub signal_within : (a : Arena) (n : ℕ) → have_bits_from 0 (arena_signals a) ≡ true → n < length a.signals → (signal_at (arena_signals a) n).first + signal_length (signal_at (arena_signals a) n) ≤ bit_count a.signals
signal_within a n h l =
    let s = there a.signals n l in
    subst (λ (x : E.Signal). x.first + signal_length x ≤ bit_count a.signals) (sym (at_number 0 a.signals n s.0 s.1)) (omega (arith, signal_fits 0 0 a.signals n s.0 h s.1))
