-- The local signals of a function and their bits.
use Rattle.std.proofs.Common.{◌≡◌, ℕ, zero, suc, ◌+◌, ◌-◌, ◌<◌, ◌≤◌, Bool, true, ◌&&◌, ◌==◌, nat_le, nat_lt, List, [], ◌∷◌, length, take, replicate, slice_get, slice_index_or, sum_by, Some, sym, ap, ◌∙◌, subst, refl, arith, length-append, eqb-true}
use Rattle.std.specs.List.{list_all}
use Rattle.std.proofs.lemmas.List.{length-replicate}
use Rattle.std.proofs.lemmas.List.FromFn.{length-range_with_len}
use Rattle.std.proofs.lemmas.List.Sums.{sum_by-append, sum_by-cons}
use Rattle.vs_design.specs.Expressions as E
use Rattle.vs_design.specs.Expressions.{Header, local_signals}
use Rattle.vs_design.specs.Within.{signal_within}
use Rattle.vs_flat.specs.declared.processes.Signal.{Signal}
use Rattle.vs_flat.specs.declared.functions.Function.{Function}
use Rattle.vs_flat.specs.declared.functions.Declared.{Declared}
use Rattle.vs_flat.specs.Arena.{Arena, declared_at, signal_length, bit_count}
use Rattle.vs_flat.specs.DesignOf.{header_in, header_of, local_of}
use Rattle.vs_flat.specs.Laws.{EachLocal, HeaderLocals}
use Rattle.vs_flat.specs.Lawful.{has_locals, local_bits_from, IsLawful}
use Rattle.vs_flat.specs.Trees.{no_signal, signal_of, signals_from}
use Rattle.vs_values.specs.Environments.{homes}
use Rattle.vs_values.specs.Templates.{function_at, input_bits, other_bits, slots_at_call}
use Rattle.vs_values.proofs.Values.{both_true}

some_is : {A : Type 0} (x y : A) → Some x ≡ Some y → x ≡ y
some_is x y h = cc

all_at : (test : Declared → Bool) (ds : List Declared) (n : ℕ) (d : Declared) → list_all test ds ≡ true → slice_get ds n ≡ Some d → test d ≡ true
all_at test [] n d h e = cc
all_at test (x ∷ ds) zero d h e = subst (λ (y : Declared). test y ≡ true) (some_is x d e) (both_true (test x) (list_all test ds) h).0
all_at test (x ∷ ds) (suc n) d h e = all_at test ds n d (both_true (test x) (list_all test ds) h).1 e

-- ---- bits one after the other

-- those before a signal
begins : (first m : ℕ) (ss : List Signal) (n : ℕ) (s : Signal) → local_bits_from first ss ≡ true → slice_get ss n ≡ Some s → s.first_bit ≡ first + sum_by E.signal_length (take n (signals_from m ss))
begins first m [] n s h e = cc
begins first m (x ∷ ss) zero s h e =
    let here = eqb-true x.first_bit first (both_true (x.first_bit == first) (local_bits_from (first + signal_length x) ss) h).0 in
    subst (λ (y : Signal). y.first_bit ≡ first + 0) (some_is x s e) (omega (arith, here))
begins first m (x ∷ ss) (suc n) s h e =
    let p = both_true (x.first_bit == first) (local_bits_from (first + signal_length x) ss) h in
    let total = sum_by-cons E.signal_length (signal_of m x) (take n (signals_from (suc m) ss)) in
    omega (arith, begins (first + signal_length x) (suc m) ss n s p.1 e, total)

ends : (first : ℕ) (ss : List Signal) (n : ℕ) (s : Signal) → local_bits_from first ss ≡ true → slice_get ss n ≡ Some s → suc n ≡ length ss → s.first_bit + signal_length s ≡ first + bit_count ss
ends first [] n s h e l = cc
ends first (x ∷ []) zero s h e l =
    let here = eqb-true x.first_bit first (both_true (x.first_bit == first) true h).0 in
    let total = sum_by-cons signal_length x [] in
    subst (λ (y : Signal). y.first_bit + signal_length y ≡ first + bit_count (x ∷ [])) (some_is x s e) (omega (arith, here, total))
ends first (x ∷ y ∷ ss) zero s h e l = absurd (omega arith)
ends first (x ∷ ss) (suc n) s h e l =
    let p = both_true (x.first_bit == first) (local_bits_from (first + signal_length x) ss) h in
    let total = sum_by-cons signal_length x ss in
    omega (arith, ends (first + signal_length x) ss n s p.1 e (omega arith), total)

counts : (m : ℕ) (ss : List Signal) → sum_by E.signal_length (signals_from m ss) ≡ bit_count ss
counts m [] = refl
counts m (s ∷ ss) =
    sum_by-cons E.signal_length (signal_of m s) (signals_from (suc m) ss) ∙ ap (λ (n : ℕ). signal_length s + n) (counts (suc m) ss) ∙ sym (sum_by-cons signal_length s ss)

-- an input is one of them
input_is : (m k : ℕ) (ss : List Signal) (n : ℕ) (s : E.Signal) (t : Signal) → slice_get (take k (signals_from m ss)) n ≡ Some s → slice_get ss n ≡ Some t → signal_length t ≡ E.signal_length s
input_is m zero ss n s t h e = cc
input_is m (suc k) [] n s t h e = cc
input_is m (suc k) (x ∷ ss) zero s t h e = ap signal_length (sym (some_is x t e)) ∙ ap E.signal_length (some_is (signal_of m x) s h)
input_is m (suc k) (x ∷ ss) (suc n) s t h e = input_is (suc m) k ss n s t h e

-- ---- a function's header

slots_long : (h : Header) → length (slots_at_call h) ≡ input_bits h + other_bits h
slots_long h = omega (arith, length-append (homes (input_bits h)) (replicate (other_bits h) 2), length-range_with_len 4 (input_bits h), length-replicate {A = ℕ} (other_bits h) 2)

all_bits_of : HeaderLocals → (f : Function) → f.inputs < length f.signals → input_bits (header_of f) + other_bits (header_of f) ≡ bit_count f.signals
all_bits_of law f l =
    let h = header_of f in
    sym (sum_by-append E.signal_length h.inputs (h.result ∷ h.own)) ∙ ap (sum_by E.signal_length) (law f l) ∙ counts 0 f.signals

-- what is known of the function with this number
pub record Local (a : Arena) (f : ℕ) (d : Declared) : Type 0 where
  pub header : (function_at a f).header ≡ header_of d.function
  pub some : d.function.inputs < length d.function.signals
  pub bits : local_bits_from 0 d.function.signals ≡ true
  pub few : bit_count d.function.signals ≤ 67108864

pub local_is : (a b : Arena) → b ≡ a → IsLawful a → (f : ℕ) (d : Declared) → declared_at b f ≡ Some d → Local a f d
local_is a b same w f d e =
    let at : declared_at a f ≡ Some d = subst (λ (x : Arena). declared_at x f ≡ Some d) same e in
    let g = d.function in
    let all = all_at (λ (x : Declared). has_locals x.function) a.functions f d w.locals at in
    let p = both_true (nat_lt g.inputs (length g.signals) && local_bits_from 0 g.signals) (nat_le (bit_count g.signals) 67108864) all in
    let q = both_true (nat_lt g.inputs (length g.signals)) (local_bits_from 0 g.signals) p.0 in
    record { header = ap header_in at; some = lt_is g.inputs (length g.signals) q.0; bits = q.1; few = le_is (bit_count g.signals) 67108864 p.1 }
  where
    lt_is : (m n : ℕ) → nat_lt m n ≡ true → m < n
    lt_is m n h = grind arith

    le_is : (m n : ℕ) → nat_le m n ≡ true → m ≤ n
    le_is m n h = grind arith

pub inputs_are : (a : Arena) (f : ℕ) (d : Declared) (s : Signal) → Local a f d → slice_get d.function.signals d.function.inputs ≡ Some s → s.first_bit ≡ input_bits (function_at a f).header
inputs_are a f d s l e = begins 0 0 d.function.signals d.function.inputs s l.bits e ∙ omega arith ∙ ap input_bits (sym l.header)

pub inputs_few : HeaderLocals → (a : Arena) (f : ℕ) (d : Declared) (s : Signal) → Local a f d → slice_get d.function.signals d.function.inputs ≡ Some s → s.first_bit ≤ 67108864
inputs_few law a f d s l e = omega (arith, inputs_are a f d s l e, ap input_bits l.header, all_bits_of law d.function l.some, l.few)

pub all_are : HeaderLocals → (a : Arena) (f : ℕ) (d : Declared) (s : Signal) (n : ℕ) → Local a f d → slice_get d.function.signals n ≡ Some s → suc n ≡ length d.function.signals → s.first_bit + signal_length s ≡ length (slots_at_call (function_at a f).header)
all_are law a f d s n l e k = ends 0 d.function.signals n s l.bits e k ∙ omega (arith, all_bits_of law d.function l.some, slots_long (header_of d.function)) ∙ ap (λ (h : Header). length (slots_at_call h)) (sym l.header)

pub width_is : (a : Arena) (f : ℕ) (d : Declared) (n : ℕ) (s : E.Signal) (t : Signal) → Local a f d → slice_get (function_at a f).header.inputs n ≡ Some s → slice_get d.function.signals n ≡ Some t → signal_length t ≡ E.signal_length s
width_is a f d n s t l h e = input_is 0 d.function.inputs d.function.signals n s t (subst (λ (x : Header). slice_get x.inputs n ≡ Some s) l.header h) e

pub others_are : (h : Header) (inputs all : ℕ) → inputs ≡ input_bits h → all ≡ length (slots_at_call h) → (inputs ≤ all) × (all - inputs ≡ other_bits h)
others_are h inputs all i l = let long = slots_long h in (omega (arith, i, l, long), omega (arith, i, l, long))

some_at : (ss : List Signal) (n : ℕ) → n < length ss → (s : Signal) × (slice_get ss n ≡ Some s)
some_at [] n l = absurd (omega arith)
some_at (s ∷ ss) zero l = (s, refl)
some_at (s ∷ ss) (suc n) l = some_at ss n (omega arith)

-- the result's bits are local ones
pub result_there : EachLocal → HeaderLocals → (a b : Arena) (f : ℕ) (d : Declared) (n : ℕ) → b ≡ a → declared_at b f ≡ Some d → Local a f d → n ≡ length (slots_at_call (function_at a f).header) → signal_within n (local_of a f d.function.inputs) ≡ true
result_there each law a b f d n same at l long =
    let g = d.function in
    let e : declared_at a f ≡ Some d = subst (λ (x : Arena). declared_at x f ≡ Some d) same at in
    let s = some_at g.signals g.inputs l.some in
    let is = each a f g.inputs d s.0 e s.1 in
    let h = header_of g in
    let size = slots_long h in
    let first = begins 0 0 g.signals g.inputs s.0 l.bits s.1 in
    let of_result : other_bits h ≡ E.signal_length h.result + sum_by E.signal_length h.own = sum_by-cons E.signal_length h.result h.own in
    let result : h.result ≡ signal_of (0 + g.inputs) s.0 = nth 0 g.signals g.inputs s.0 s.1 in
    let same_long = ap E.signal_length result in
    let all : n ≡ length (slots_at_call h) = long ∙ ap (λ (x : Header). length (slots_at_call x)) l.header in
    subst (λ (x : E.Signal). signal_within n x ≡ true) (sym is) (le_true (s.0.first_bit + signal_length s.0) n (omega (arith, all, size, first, of_result, same_long)))
  where
    le_true : (m n : ℕ) → m ≤ n → nat_le m n ≡ true
    le_true m n h = grind arith

    nth : (m : ℕ) (ss : List Signal) (n : ℕ) (s : Signal) → slice_get ss n ≡ Some s → slice_index_or (signals_from m ss) n no_signal ≡ signal_of (m + n) s
    nth m [] n s e = cc
    nth m (x ∷ ss) zero s e = ap (signal_of m) (some_is x s e) ∙ ap (λ (k : ℕ). signal_of k s) (omega arith)
    nth m (x ∷ ss) (suc n) s e = nth (suc m) ss n s e ∙ ap (λ (k : ℕ). signal_of k s) (omega arith)
