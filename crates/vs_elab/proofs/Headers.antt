-- The header of a function, from its local signals (IEEE 1364-2005, 10.4.1).
use mathlib.Core.Path.{fun_ext}
use Rattle.std.proofs.Common.{◌≡◌, ◌≤◌, ◌<◌, ◌^◌, ◌+◌, ◌==◌, ℕ, zero, suc, Bool, true, false, ◌&&◌, not, List, [], ◌∷◌, ◌++◌, length, length-append, get_or, take, drop, map, nat_lt, Option, Some, None, refl, sym, ap, ◌∙◌, append_assoc, arith}
use Rattle.std.specs.Prelude.{IsTrue, nat_le, slice_index_or, sum_by}
use Rattle.std.specs.List.{list_all}
use Rattle.std.proofs.lemmas.Bool.{eqb-true, lt-ltb}
use Rattle.std.proofs.lemmas.List.{append-nil, length-map, length-take-le, take_all}
use Rattle.std.proofs.lemmas.List.Sums.{sum_by-cons}
use Rattle.vs_design.specs.Expressions as design
use Rattle.vs_design.specs.Expressions.{signal_length, local_signals}
use Rattle.vs_design.specs.Designs.{Design}
use Rattle.vs_design.specs.Elaborated.{are_numbered, have_bits_from, is_formed_header, is_local, is_nil}
use Rattle.vs_design.specs.Footprints.{is_input, is_variable}
use Rattle.vs_grammar.specs.Trees as tree
use Rattle.vs_ast.specs.Views.{option}
use Rattle.vs_flat.specs.declared.functions.Function.{Function}
use Rattle.vs_flat.specs.declared.processes.Signal.{Signal}
use Rattle.vs_flat.specs.Arena as arena
use Rattle.vs_flat.specs.DesignOf.{header_of}
use Rattle.vs_flat.specs.Lawful.{local_bits_from, has_locals}
use Rattle.vs_flat.specs.Trees.{no_signal, signal_of, signals_from}
use Rattle.vs_const.specs.Meanings.{SignalMeaning, Meaning, ASignal, Barred}
use Rattle.vs_const.specs.declared.rules.Rule.TheVariants.{LoopVariable}
use Rattle.vs_elaborated.specs.Statements as statements
use Rattle.vs_elaborated.specs.Functions as spec
use Rattle.vs_elaborated.specs.Functions.{all_locals, meaning_or, signal_at}
use Rattle.vs_scope.specs.declared.inside.Locals.{Locals}
use Rattle.vs_scope.specs.declared.names.LocalSignal.{LocalSignal}
use Rattle.vs_scope.specs.declared.names.PassedInput.{PassedInput}
use Rattle.vs_scope.specs.Locals.{AreLocals, own_meaning, local_at, local_meaning, passed_of, placed_local, placed_local_of}
use Rattle.vs_scope.specs.Signalled.{Placed}
use Rattle.vs_elab.specs.Functions.{IsHeader, signals_of, inputs_of, all_signals as all_of}
use Rattle.vs_elab.proofs.Sequences.{one_more}

-- ---- signals, one after the other

from_behind : (n : ℕ) (xs : List Signal) (x : Signal) → signals_from n (xs ++ x ∷ []) ≡ signals_from n xs ++ signal_of (n + length xs) x ∷ []
from_behind n [] x = ap (λ (k : ℕ). signal_of k x ∷ []) (let e : n ≡ n + 0 = omega arith in e)
from_behind n (y ∷ ys) x =
    ap (λ r. signal_of n y ∷ r) (from_behind (suc n) ys x ∙ ap (λ (k : ℕ). signals_from (suc n) ys ++ signal_of k x ∷ []) (let e : suc n + length ys ≡ n + length (y ∷ ys) = omega arith in e))

from_length : (n : ℕ) (xs : List Signal) → length (signals_from n xs) ≡ length xs
from_length n [] = refl
from_length n (x ∷ xs) = ap suc (from_length (suc n) xs)

both_true : (a b : Bool) → (a && b) ≡ true → (a ≡ true) × (b ≡ true)
both_true true b h = (refl, h)
both_true false b h = cc

-- those of any kind that have numbers one after the other
module _ {A : Type 0} (g : A → design.Signal) where
  numbered_at : (n scope : ℕ) (xs : List A) (i : ℕ) (x : A) → i < length xs → x ≡ get_or xs i x → are_numbered n scope (map g xs) ≡ true → (g x).number ≡ n + i
  numbered_at n scope [] i x h e k = absurd (let no : ⊥ = omega (arith, h) in no)
  numbered_at n scope (y ∷ xs) zero x h e k =
      let p = both_true (((g y).number == n) && nat_le scope (g y).scope) (are_numbered (suc n) (g y).scope (map g xs)) k in
      let q = both_true ((g y).number == n) (nat_le scope (g y).scope) p.0 in
      ap (λ (z : A). (g z).number) e ∙ eqb-true (g y).number n q.0 ∙ (let z : n ≡ n + 0 = omega arith in z)
  numbered_at n scope (y ∷ xs) (suc i) x h e k =
      let p = both_true (((g y).number == n) && nat_le scope (g y).scope) (are_numbered (suc n) (g y).scope (map g xs)) k in
      numbered_at (suc n) (g y).scope xs i x (omega (arith, h)) e p.1 ∙ (let z : suc n + i ≡ n + suc i = omega arith in z)

  -- one more, behind the first ones
  pub signal_more : (first : List Signal) (xs : List A) (i : ℕ) (x : A) (list new : List Signal) (s : Signal) → i < length xs → x ≡ get_or xs i x → new ≡ list ++ s ∷ [] → signal_of (g x).number s ≡ g x
      → (are_numbered (length first) 0 (map g xs) ≡ true → signals_from 0 list ≡ signals_from 0 first ++ map g (take i xs))
      → are_numbered (length first) 0 (map g xs) ≡ true → signals_from 0 new ≡ signals_from 0 first ++ map g (take (i + 1) xs)
  signal_more first xs i x list new s h e pushed is before numbered =
      let done = before numbered in
      let front = from_length 0 first in
      let both = length-append (signals_from 0 first) (map g (take i xs)) in
      let some = length-map (take i xs) g in
      let taken = length-take-le i xs (omega (arith, h)) in
      let whole : length list ≡ length (signals_from 0 first ++ map g (take i xs)) = sym (from_length 0 list) ∙ ap (λ (ss : List design.Signal). length ss) done in
      let many : length list ≡ length first + i = omega (arith, whole, both, front, some, taken) in
      let number : 0 + length list ≡ (g x).number = omega (arith, many, numbered_at (length first) 0 xs i x h e numbered) in
      ap (signals_from 0) pushed ∙ from_behind 0 list s ∙ ap (λ (k : ℕ). signals_from 0 list ++ signal_of k s ∷ []) number
      ∙ ap (λ (y : design.Signal). signals_from 0 list ++ y ∷ []) is ∙ ap (λ (ss : List design.Signal). ss ++ g x ∷ []) done
      ∙ append_assoc (signals_from 0 first) (map g (take i xs)) (g x ∷ [])
      ∙ ap (λ (ss : List design.Signal). signals_from 0 first ++ ss) (sym (one_more g xs i x h e))

  pub signals_done : (first : List Signal) (xs : List A) (i : ℕ) (list : List Signal) → length xs ≤ i
      → (are_numbered (length first) 0 (map g xs) ≡ true → signals_from 0 list ≡ signals_from 0 first ++ map g (take i xs))
      → are_numbered (length first) 0 (map g xs) ≡ true → signals_from 0 list ≡ signals_from 0 first ++ map g xs
  signals_done first xs i list h before numbered = before numbered ∙ ap (λ (ys : List A). signals_from 0 first ++ map g ys) (take_all i xs h)

  pub signals_first : (list : List Signal) (xs : List A) → are_numbered (length list) 0 (map g xs) ≡ true → signals_from 0 list ≡ signals_from 0 list ++ map g (take 0 xs)
  signals_first list xs numbered = sym (append-nil (signals_from 0 list))

-- ---- some signals, and then others

less_scope : (a b n : ℕ) → a ≤ b → nat_le b n ≡ true → nat_le a n ≡ true
less_scope a b n h k = grind (arith, h, k)

from_less : (n a b : ℕ) (ss : List design.Signal) → a ≤ b → are_numbered n b ss ≡ true → are_numbered n a ss ≡ true
from_less n a b [] h k = refl
from_less n a b (s ∷ ss) h k =
    let p = both_true ((s.number == n) && nat_le b s.scope) (are_numbered (suc n) s.scope ss) k in
    let q = both_true (s.number == n) (nat_le b s.scope) p.0 in
    all_true (s.number == n) (nat_le a s.scope) (are_numbered (suc n) s.scope ss) q.0 (less_scope a b s.scope h q.1) p.1
  where
    all_true : (x y z : Bool) → x ≡ true → y ≡ true → z ≡ true → (x && y && z) ≡ true
    all_true true true true p q r = refl
    all_true true true false p q r = cc
    all_true true false z p q r = cc
    all_true false y z p q r = cc

numbered_parts : (n scope : ℕ) (xs ys : List design.Signal) → are_numbered n scope (xs ++ ys) ≡ true → (are_numbered n scope xs ≡ true) × (are_numbered (n + length xs) 0 ys ≡ true)
numbered_parts n scope [] ys k = (refl, ap (λ (m : ℕ). are_numbered m 0 ys) (let e : n + 0 ≡ n = omega arith in e) ∙ from_less n 0 scope ys (omega arith) k)
numbered_parts n scope (x ∷ xs) ys k =
    let p = both_true ((x.number == n) && nat_le scope x.scope) (are_numbered (suc n) x.scope (xs ++ ys)) k in
    let rest = numbered_parts (suc n) x.scope xs ys p.1 in (
      ap (λ (b : Bool). b && are_numbered (suc n) x.scope xs) p.0 ∙ rest.0,
      ap (λ (m : ℕ). are_numbered m 0 ys) (let e : n + length (x ∷ xs) ≡ suc n + length xs = omega arith in e) ∙ rest.1,
    )

-- those that are declared as inputs, those that pass signals of the module, and the others
pub all_pushed : (c : Locals) (front back : List LocalSignal) (passed : List PassedInput) (none first second third : List Signal) → none ≡ [] → front ≡ take c.inputs c.signals.items → passed ≡ c.passed.items → back ≡ drop c.inputs c.signals.items
    → (are_numbered (length none) 0 (signals_of front) ≡ true → signals_from 0 first ≡ signals_from 0 none ++ signals_of front)
    → (are_numbered (length first) 0 (inputs_of passed) ≡ true → signals_from 0 second ≡ signals_from 0 first ++ inputs_of passed)
    → (are_numbered (length second) 0 (signals_of back) ≡ true → signals_from 0 third ≡ signals_from 0 second ++ signals_of back)
    → are_numbered 0 0 (all_of c) ≡ true → signals_from 0 third ≡ all_of c
all_pushed c front back passed none first second third nil is_front is_passed is_back one two three numbered =
    let ss = signals_of (take c.inputs c.signals.items) in
    let ps = inputs_of c.passed.items in
    let os = signals_of (drop c.inputs c.signals.items) in
    let a = numbered_parts 0 0 ss (ps ++ os) numbered in
    let b = numbered_parts (0 + length ss) 0 ps os a.1 in
    let none_is : length none ≡ 0 = ap (λ (xs : List Signal). length xs) nil in
    let first_is : signals_from 0 first ≡ ss =
    one (ap (λ (n : ℕ). are_numbered n 0 (signals_of front)) none_is ∙ ap (λ (xs : List LocalSignal). are_numbered 0 0 (signals_of xs)) is_front ∙ a.0)
    ∙ ap (λ (xs : List Signal). signals_from 0 xs ++ signals_of front) nil ∙ ap (λ (xs : List LocalSignal). signals_of xs) is_front in
    let first_many : length first ≡ 0 + length ss = sym (from_length 0 first) ∙ ap (λ (xs : List design.Signal). length xs) first_is ∙ (let e : length ss ≡ 0 + length ss = omega arith in e) in
    let second_is : signals_from 0 second ≡ ss ++ ps =
    two (ap (λ (n : ℕ). are_numbered n 0 (inputs_of passed)) first_many ∙ ap (λ (xs : List PassedInput). are_numbered (0 + length ss) 0 (inputs_of xs)) is_passed ∙ b.0)
    ∙ ap (λ (xs : List design.Signal). xs ++ inputs_of passed) first_is ∙ ap (λ (xs : List PassedInput). ss ++ inputs_of xs) is_passed in
    let second_many : length second ≡ 0 + length ss + length ps =
    sym (from_length 0 second) ∙ ap (λ (xs : List design.Signal). length xs) second_is ∙ (let n = length-append ss ps in let e : length (ss ++ ps) ≡ 0 + length ss + length ps = omega (arith, n) in e) in
    three (ap (λ (n : ℕ). are_numbered n 0 (signals_of back)) second_many ∙ ap (λ (xs : List LocalSignal). are_numbered (0 + length ss + length ps) 0 (signals_of xs)) is_back ∙ b.1)
    ∙ ap (λ (xs : List design.Signal). xs ++ signals_of back) second_is ∙ ap (λ (xs : List LocalSignal). (ss ++ ps) ++ signals_of xs) is_back ∙ append_assoc ss ps os

-- ---- the header

signals_of_placed : (ss : List LocalSignal) → map (λ (p : Placed). p.meaning.signal) (map placed_local ss) ≡ signals_of ss
signals_of_placed [] = refl
signals_of_placed (s ∷ ss) = ap (λ r. (local_meaning s).signal ∷ r) (signals_of_placed ss)

abbrev signal_in : spec.LocalSignal → design.Signal
signal_in s = s.meaning.signal

said_placed : (ss : List spec.LocalSignal) → map (λ (p : Placed). p.meaning.signal) (map placed_local_of ss) ≡ map signal_in ss
said_placed [] = refl
said_placed (s ∷ ss) = ap (λ r. signal_in s ∷ r) (said_placed ss)

map_behind : (xs ys : List spec.LocalSignal) → map signal_in (xs ++ ys) ≡ map signal_in xs ++ map signal_in ys
map_behind [] ys = refl
map_behind (x ∷ xs) ys = ap (λ r. signal_in x ∷ r) (map_behind xs ys)

take_front : {A : Type 0} (xs ys : List A) → take (length xs) (xs ++ ys) ≡ xs
take_front [] ys = refl
take_front (x ∷ xs) ys = ap (λ r. x ∷ r) (take_front xs ys)

in_order : (f : tree.Function) (l : spec.Locals) (c : Locals) (vs : List statements.Local) → AreLocals c l vs → signals_of c.signals.items ≡ map signal_in l.inputs ++ map signal_in (l.result ∷ l.own)
in_order f l c vs h =
    sym (signals_of_placed c.signals.items) ∙ ap (map (λ (p : Placed). p.meaning.signal)) h.signals ∙ said_placed (all_locals l) ∙ map_behind l.inputs (l.result ∷ l.own)

abbrev input_in : spec.Passed → design.Signal
input_in p = p.input.signal

inputs_passed : (ps : List PassedInput) → inputs_of ps ≡ map input_in (map passed_of ps)
inputs_passed [] = refl
inputs_passed (p ∷ ps) = ap (λ r. input_in (passed_of p) ∷ r) (inputs_passed ps)

taken : (n : ℕ) (ss : List LocalSignal) → signals_of (take n ss) ≡ take n (signals_of ss)
taken zero ss = refl
taken (suc n) [] = refl
taken (suc n) (s ∷ ss) = ap (λ r. (local_meaning s).signal ∷ r) (taken n ss)

dropped : (n : ℕ) (ss : List LocalSignal) → signals_of (drop n ss) ≡ drop n (signals_of ss)
dropped zero ss = refl
dropped (suc n) [] = refl
dropped (suc n) (s ∷ ss) = dropped n ss

behind_front : {A : Type 0} (xs ys : List A) → drop (length xs) (xs ++ ys) ≡ ys
behind_front [] ys = refl
behind_front (x ∷ xs) ys = behind_front xs ys

-- the local signals of the definitions
pub all_are : (f : tree.Function) (l : spec.Locals) (c : Locals) (vs : List statements.Local) → AreLocals c l vs → all_of c ≡ local_signals (spec.header_of f l)
all_are f l c vs h =
    let ins = map signal_in l.inputs in
    let rest = map signal_in (l.result ∷ l.own) in
    let many : c.inputs ≡ length ins = h.inputs ∙ sym (length-map l.inputs signal_in) in
    let whole = in_order f l c vs h in
    let front : signals_of (take c.inputs c.signals.items) ≡ ins = taken c.inputs c.signals.items ∙ ap (take c.inputs) whole ∙ ap (λ (n : ℕ). take n (ins ++ rest)) many ∙ take_front ins rest in
    let back : signals_of (drop c.inputs c.signals.items) ≡ rest = dropped c.inputs c.signals.items ∙ ap (drop c.inputs) whole ∙ ap (λ (n : ℕ). drop n (ins ++ rest)) many ∙ behind_front ins rest in
    let passed : inputs_of c.passed.items ≡ map input_in l.passed = inputs_passed c.passed.items ∙ ap (map input_in) h.passed in
    ap (λ (xs : List design.Signal). xs ++ (inputs_of c.passed.items ++ signals_of (drop c.inputs c.signals.items))) front
    ∙ ap (λ (xs : List design.Signal). ins ++ (xs ++ signals_of (drop c.inputs c.signals.items))) passed
    ∙ ap (λ (xs : List design.Signal). ins ++ (map input_in l.passed ++ xs)) back
    ∙ sym (append_assoc ins (map input_in l.passed) rest)

-- the inputs are among the local signals
pub inputs_there : (l : spec.Locals) (c : Locals) (vs : List statements.Local) → AreLocals c l vs → c.inputs ≤ length c.signals.items
inputs_there l c vs h =
    let a = h.inputs in
    let placed : length c.signals.items ≡ length (all_locals l) = sym (length-map c.signals.items placed_local) ∙ ap (λ (ps : List Placed). length ps) h.signals ∙ length-map (all_locals l) placed_local_of in
    let b = length-append l.inputs (l.result ∷ l.own) in
    omega (arith, a, placed, b)

index_front : (xs ys : List design.Signal) (y d : design.Signal) → slice_index_or (xs ++ y ∷ ys) (length xs) d ≡ y
index_front [] ys y d = refl
index_front (x ∷ xs) ys y d = index_front xs ys y d

drop_front : (xs ys : List design.Signal) (y : design.Signal) → drop (suc (length xs)) (xs ++ y ∷ ys) ≡ ys
drop_front [] ys y = refl
drop_front (x ∷ xs) ys y = drop_front xs ys y

module _ (h : Function) (f : tree.Function) (c : Locals) (l : spec.Locals) (vs : List statements.Local) (is : IsHeader h f.place c) (locals : AreLocals c l vs) (numbered : are_numbered 0 0 (local_signals (spec.header_of f l)) ≡ true) where
  abbrev inputs : List design.Signal
  inputs = map signal_in l.inputs ++ map input_in l.passed

  abbrev own : List design.Signal
  own = map signal_in l.own

  pub signals_are : signals_from 0 h.signals ≡ local_signals (spec.header_of f l)
  signals_are = is.signals (ap (are_numbered 0 0) (all_are f l c vs locals) ∙ numbered) ∙ all_are f l c vs locals

  inputs_are : h.inputs ≡ length inputs
  inputs_are =
      let a = locals.inputs in
      let b = length-map l.inputs signal_in in
      let d = length-map l.passed input_in in
      let passed : length c.passed.items ≡ length l.passed = sym (length-map c.passed.items passed_of) ∙ ap (λ (ps : List spec.Passed). length ps) locals.passed in
      let both = length-append (map signal_in l.inputs) (map input_in l.passed) in
      is.inputs ∙ (let e : c.inputs + length c.passed.items ≡ length inputs = omega (arith, a, b, d, passed, both) in e)

  abbrev made : ℕ → ℕ → List design.Signal → design.Header
  made at n ss = record { place = at; inputs = take n ss; result = slice_index_or ss n no_signal; own = drop (suc n) ss }

  pub header_is : header_of h ≡ spec.header_of f l
  header_is =
      ap (λ (p : ℕ). made p h.inputs (signals_from 0 h.signals)) is.at
      ∙ ap (λ (n : ℕ). made f.place n (signals_from 0 h.signals)) inputs_are
      ∙ ap (made f.place (length inputs)) signals_are
      ∙ ap (λ (xs : List design.Signal). let r : design.Header = record { place = f.place; inputs = xs; result = slice_index_or (inputs ++ signal_in l.result ∷ own) (length inputs) no_signal; own = drop (suc (length inputs)) (inputs ++ signal_in l.result ∷ own) } in r) (take_front inputs (signal_in l.result ∷ own))
      ∙ ap (λ (x : design.Signal). let r : design.Header = record { place = f.place; inputs = inputs; result = x; own = drop (suc (length inputs)) (inputs ++ signal_in l.result ∷ own) } in r) (index_front inputs own (signal_in l.result) no_signal)
      ∙ ap (λ (xs : List design.Signal). let r : design.Header = record { place = f.place; inputs = inputs; result = signal_in l.result; own = xs } in r) (drop_front inputs own (signal_in l.result))

  many : h.inputs < length h.signals
  many =
      let a = from_length 0 h.signals in
      let b = ap (λ (ss : List design.Signal). length ss) signals_are in
      let d = length-append inputs (signal_in l.result ∷ own) in
      let e = inputs_are in
      omega (arith, a, b, d, e)

  bits_same : (n first : ℕ) (ss : List Signal) → have_bits_from first (signals_from n ss) ≡ true → local_bits_from first ss ≡ true
  bits_same n first [] k = refl
  bits_same n first (s ∷ ss) k =
      let p = both_true (s.first_bit == first) (have_bits_from (first + signal_length (signal_of n s)) (signals_from (suc n) ss)) k in
      ap (λ (b : Bool). b && local_bits_from (first + arena.signal_length s) ss) p.0 ∙ bits_same (suc n) (first + arena.signal_length s) ss p.1

  bits_count : (n : ℕ) (ss : List Signal) → arena.bit_count ss ≡ sum_by signal_length (signals_from n ss)
  bits_count n [] = refl
  bits_count n (s ∷ ss) =
      sum_by-cons arena.signal_length s ss ∙ ap (λ (k : ℕ). arena.signal_length s + k) (bits_count (suc n) ss) ∙ sym (sum_by-cons signal_length (signal_of n s) (signals_from (suc n) ss))

  all_three : (a b d : Bool) → a ≡ true → b ≡ true → d ≡ true → IsTrue (a && b && d)
  all_three true true true p q r = refl
  all_three true true false p q r = cc
  all_three true false d p q r = cc
  all_three false b d p q r = cc

  pub locals_held : have_bits_from 0 (local_signals (spec.header_of f l)) ≡ true → sum_by signal_length (local_signals (spec.header_of f l)) ≤ 2 ^ 20 → IsTrue (has_locals h)
  locals_held bits few =
      let count : arena.bit_count h.signals ≤ 67108864 = (let a = bits_count 0 h.signals in let b = ap (λ (ss : List design.Signal). sum_by signal_length ss) signals_are in omega (arith, a, b, few)) in
      all_three (nat_lt h.inputs (length h.signals)) (local_bits_from 0 h.signals) (nat_le (arena.bit_count h.signals) 67108864) (lt-ltb h.inputs (length h.signals) many)
      (bits_same 0 0 h.signals (ap (have_bits_from 0) signals_are ∙ bits)) (low (arena.bit_count h.signals) 67108864 count)
    where
      low : (a b : ℕ) → a ≤ b → nat_le a b ≡ true
      low a b k = grind (arith, k)

-- ---- what variables of named blocks mean

abbrev meaning_of : Option SignalMeaning → Meaning
meaning_of None = Barred LoopVariable
meaning_of (Some m) = ASignal m

block_is : (o : Option LocalSignal) → own_meaning o ≡ meaning_of (option local_meaning o)
block_is None = refl
block_is (Some s) = refl

said_is : (o : Option spec.LocalSignal) → meaning_or o ≡ meaning_of (option (λ (s : spec.LocalSignal). s.meaning) o)
said_is None = refl
said_is (Some s) = refl

pub declared_is : (c : Locals) (l : spec.Locals) (vs : List statements.Local) → AreLocals c l vs
    → (let a : ℕ → Meaning = λ place. own_meaning (local_at c place) in a) ≡ (λ (place : ℕ). meaning_or (signal_at (all_locals l) place))
declared_is c l vs h = fun_ext (λ (place : ℕ). block_is (local_at c place) ∙ ap meaning_of (h.at_place place) ∙ sym (said_is (signal_at (all_locals l) place)))

-- ---- what a header that can be built has

-- its local signals have numbers and bits of their own
pub formed_parts : (d : Design) (h : design.Header) → is_formed_header d h ≡ true → (are_numbered 0 0 (local_signals h) ≡ true) × (have_bits_from 0 (local_signals h) ≡ true)
formed_parts d h k =
    let inputs = not (is_nil h.inputs) in
    let numbered = are_numbered 0 0 (local_signals h) in
    let bits = have_bits_from 0 (local_signals h) in
    let locals = list_all (is_local d h) (local_signals h) in
    let last = both_true (inputs && numbered && bits && locals && list_all is_input h.inputs) (list_all is_variable (h.result ∷ h.own)) k in
    let a = both_true (inputs && numbered && bits && locals) (list_all is_input h.inputs) last.0 in
    let b = both_true (inputs && numbered && bits) locals a.0 in
    let c = both_true (inputs && numbered) bits b.0 in
    ((both_true inputs numbered c.0).1, c.1)
