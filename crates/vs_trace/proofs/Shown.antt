-- A signal that is no memory, among the values of all bits.
use Rattle.std.proofs.Common.{◌≡◌, ℕ, zero, suc, ◌+◌, ◌-◌, ◌≤◌, Bool, true, false, nat_le, List, ◌∷◌, length, map, take, drop, get_or, if◌then◌else◌, Option, Some, None, refl, sym, ap, ◌∙◌, arith}
use Rattle.std.specs.Prelude.{not, ◌&&◌, ◌||◌, ◌==◌, nat_lt, slice_get, is_some, IfSome}
use Rattle.std.proofs.lemmas.Bool.{and_parts}
use Rattle.std.proofs.lemmas.List.{drop_more}
use Rattle.vs_four.specs.declared.Bit4.{Bit4}
use Rattle.vs_four.specs.declared.Bit4.TheVariants.{X}
use Rattle.vs_four.specs.declared.Range.{Range}
use Rattle.vs_four.specs.Logic.{BitList}
use Rattle.vs_four.specs.Selects.{range_length, is_descending}
use Rattle.vs_design.specs.Expressions.{Signal, range_or_one, words_length, signal_length}
use Rattle.vs_design.specs.Designs.{Design, bit_count}
use Rattle.vs_design.specs.Elaborated.{is_lawful_range, is_declared}
use Rattle.vs_design.specs.Values.{bits_of_signal, count_from, read}
use Rattle.vs_design.proofs.Parts.{all_at}
use Rattle.vs_flat.specs.declared.processes.Signal as F
use Rattle.vs_flat.specs.Arena.{Arena}
use Rattle.vs_flat.specs.Trees.{signal_of}
use Rattle.vs_flat.specs.DesignOf.{design_of}
use Rattle.vs_flat.specs.Lawful.{IsLawful}
use Rattle.vs_shape.proofs.SignalBits.{signal_within}
use Rattle.vs_vcd.proofs.Arenas.{signal-at}
use Rattle.vs_writes.specs.Held.{state_of}
use Rattle.vs_trace.specs.Lines.{IsShown}

bits_are : (values : List Bit4) (first n : ℕ) → first + n ≤ length values → map (state_of values) (count_from first n) ≡ take n (drop first values)
bits_are values first zero h = refl
bits_are values first (suc n) h =
    let e = drop_more values first X (omega arith) in
    let next : suc first ≡ first + 1 = omega arith in
    let k = bits_are values (suc first) n (omega arith) ∙ ap (λ m. take n (drop m values)) next in
    ap {B = BitList} (λ t. get_or values first X ∷ t) k ∙ ap {B = BitList} (take (suc n)) (sym e)

-- its value
pub shown_value : (values : List Bit4) (s : Signal) → IsShown (length values) s → read (state_of values) (bits_of_signal s) ≡ take (range_or_one s.range) (drop s.first values)
shown_value values s h =
    ap (λ (w : Option Range). map (state_of values) (count_from s.first (words_length w (range_or_one s.range)))) h.plain
    ∙ bits_are values s.first (range_or_one s.range) h.there

one_or_more : (r : Option Range) → 1 ≤ range_or_one r
one_or_more None = omega arith
one_or_more (Some r) = by (is_descending r)
  where
    by : (down : Bool) → 1 ≤ (if down then suc (r.left - r.right) else suc (r.right - r.left))
    by true = omega arith
    by false = omega arith

le_of : (m n : ℕ) → nat_le m n ≡ true → m ≤ n
le_of m n h = grind arith

at_most_64 : (r : Option Range) → is_lawful_range r ≡ true → range_or_one r ≤ 64
at_most_64 None h = omega arith
at_most_64 (Some r) h = le_of (range_length r) 64 (and_parts (nat_le r.left 65535 && nat_le r.right 65535) (nat_le (range_length r) 64) h).1

few_bits : (d : Design) (s : Signal) → is_declared d s ≡ true → range_or_one s.range ≤ 64
few_bits d s h =
    let first = (and_parts (nat_lt s.scope (length d.scopes) && is_lawful_range s.range) (not s.input || (s.net && (s.scope == 0))) h).0 in
    at_most_64 s.range (and_parts (nat_lt s.scope (length d.scopes)) (is_lawful_range s.range) first).1

-- such a signal of a lawful design
pub shown : (a : Arena) (n : ℕ) (s : F.Signal) (count : ℕ) → IsLawful a → slice_get a.signals n ≡ Some s → s.words ≡ None → bit_count (design_of a) ≤ count → IsShown count (signal_of 0 s)
shown a n s count lawful at plain long =
    let d = design_of a in
    let t = signal_of n s in
    let here : slice_get d.signals n ≡ Some t = signal-at a n s at in
    let within = signal_within 0 d.signals n t lawful.design.bits_numbered here in
    let len : signal_length t ≡ range_or_one s.range = ap (λ (w : Option Range). words_length w (range_or_one s.range)) plain in
    record {
      plain = plain;
      some = one_or_more s.range;
      most = few_bits d t (all_at (is_declared d) d.signals n t lawful.design.declared here);
      there = omega (arith, within, len, long);
    }

-- no words
pub plain_is : (words : Option Range) (other : Bool) → (not (is_some words) && other) ≡ true → words ≡ None
plain_is None other h = refl
plain_is (Some r) other h = cc

pub if_some : {A : Type 0} (o : Option A) (P Q : A → Type 0) → ((x : A) → P x → Q x) → IfSome o P → IfSome o Q
if_some None P Q f h = h
if_some (Some x) P Q f h = f x h
