-- A name that means a signal of the design.
use Rattle.std.proofs.Common.{◌≡◌, ℕ, zero, suc, ◌<◌, Bool, true, false, not, ◌&&◌, ◌==◌, List, [], ◌∷◌, Option, Some, None, length, get_or, slice_get, refl, sym, ap, ◌∙◌, subst, arith, eqb-true}
use Rattle.vs_four.specs.declared.Range.{Range}
use Rattle.vs_design.specs.Expressions as E
use Rattle.vs_design.specs.Expressions.{Signal}
use Rattle.vs_design.specs.Designs.{Design}
use Rattle.vs_design.specs.Clocks.{same_name}
use Rattle.vs_design.specs.Footprints.{is_memory}
use Rattle.vs_design.specs.Elaborated.{same_range, same_flag, same_signal, is_this, is_signal, is_plain, has_words}
use Rattle.vs_const.specs.declared.names.SignalShape.{SignalShape}
use Rattle.vs_const.specs.declared.names.Named.TheVariants as named
use Rattle.vs_const.specs.Meanings.{SignalMeaning, Meaning, ASignal, Means}
use Rattle.vs_const.specs.Sound.{IsSound}
use Rattle.vs_const.specs.Typed.{begins_at}
use Rattle.vs_const.specs.Selects.{name_typed, base_of, signal_base_of, signal_typed, known_signal}
use Rattle.vs_flat.specs.Trees.{signal_at}
use Rattle.vs_flat.proofs.Agreeing.{and_both}
use Rattle.vs_build.specs.Drafts.{Draft, AddsExpression}
use Rattle.vs_build.specs.Buildable.{IsNameable, HasBits, AddsSource}

same_bytes : (xs ys : List ℕ) → same_name xs ys ≡ true → xs ≡ ys
same_bytes [] [] h = refl
same_bytes [] (y ∷ ys) h = cc
same_bytes (x ∷ xs) [] h = cc
same_bytes (x ∷ xs) (y ∷ ys) h =
    let b = and_both (x == y) (same_name xs ys) h in
    ap (λ z. z ∷ xs) (eqb-true x y b.0) ∙ ap (λ zs. y ∷ zs) (same_bytes xs ys b.1)

same_flags : (a b : Bool) → same_flag a b ≡ true → a ≡ b
same_flags true true h = refl
same_flags true false h = cc
same_flags false true h = cc
same_flags false false h = refl

same_ranges : (a b : Option Range) → same_range a b ≡ true → a ≡ b
same_ranges None None h = refl
same_ranges None (Some r) h = cc
same_ranges (Some r) None h = cc
same_ranges (Some r) (Some s) h =
    let b = and_both (r.left == s.left) (r.right == s.right) h in
    ap (λ n. Some (record r { left = n })) (eqb-true r.left s.left b.0) ∙ ap (λ n. Some (record s { right = n })) (eqb-true r.right s.right b.1)

ten : (a b c d e f g h i j : Bool) → (a && b && c && d && e && f && g && h && i && j) ≡ true → (a ≡ true) × (b ≡ true) × (c ≡ true) × (d ≡ true) × (e ≡ true) × (f ≡ true) × (g ≡ true) × (h ≡ true) × (i ≡ true) × (j ≡ true)
ten a b c d e f g h i j k =
    let p9 = and_both (a && b && c && d && e && f && g && h && i) j k in
    let p8 = and_both (a && b && c && d && e && f && g && h) i p9.0 in
    let p7 = and_both (a && b && c && d && e && f && g) h p8.0 in
    let p6 = and_both (a && b && c && d && e && f) g p7.0 in
    let p5 = and_both (a && b && c && d && e) f p6.0 in
    let p4 = and_both (a && b && c && d) e p5.0 in
    let p3 = and_both (a && b && c) d p4.0 in
    let p2 = and_both (a && b) c p3.0 in
    let p1 = and_both a b p2.0 in
    (p1.0, p1.1, p2.1, p3.1, p4.1, p5.1, p6.1, p7.1, p8.1, p9.1)

pub same_signals : (s t : Signal) → same_signal s t ≡ true → s ≡ t
same_signals s t h =
    let p = ten (same_name s.name t.name) (s.scope == t.scope) (s.number == t.number) (same_flag s.net t.net) (same_flag s.input t.input) (same_range s.range t.range) (same_flag s.signed t.signed) (s.first == t.first) (same_range s.words t.words) (same_flag s.integer t.integer) h in
    ap (λ x. record s { name = x }) (same_bytes s.name t.name p.0)
    ∙ ap (λ x. record s { name = t.name; scope = x }) (eqb-true s.scope t.scope p.1)
    ∙ ap (λ x. record s { name = t.name; scope = t.scope; number = x }) (eqb-true s.number t.number p.2)
    ∙ ap (λ x. record s { name = t.name; scope = t.scope; number = t.number; net = x }) (same_flags s.net t.net p.3)
    ∙ ap (λ x. record s { name = t.name; scope = t.scope; number = t.number; net = t.net; input = x }) (same_flags s.input t.input p.4)
    ∙ ap (λ x. record s { name = t.name; scope = t.scope; number = t.number; net = t.net; input = t.input; range = x }) (same_ranges s.range t.range p.5)
    ∙ ap (λ x. record s { name = t.name; scope = t.scope; number = t.number; net = t.net; input = t.input; range = t.range; signed = x }) (same_flags s.signed t.signed p.6)
    ∙ ap (λ x. record t { words = s.words; integer = s.integer; first = x }) (eqb-true s.first t.first p.7)
    ∙ ap (λ x. record t { integer = s.integer; words = x }) (same_ranges s.words t.words p.8)
    ∙ ap (λ x. record t { integer = x }) (same_flags s.integer t.integer p.9)

found_is : (s d : Signal) (ss : List Signal) (n : ℕ) → is_this s (slice_get ss n) ≡ true → get_or ss n d ≡ s
found_is s d [] zero h = cc
found_is s d [] (suc n) h = cc
found_is s d (t ∷ ss) zero h = sym (same_signals s t h)
found_is s d (t ∷ ss) (suc n) h = found_is s d ss n h

within : (s : Signal) (ss : List Signal) (n : ℕ) → is_this s (slice_get ss n) ≡ true → n < length ss
within s [] zero h = cc
within s [] (suc n) h = cc
within s (t ∷ ss) zero h = omega arith
within s (t ∷ ss) (suc n) h = omega (arith, within s ss n h)

-- a signal of the design stands at its number
pub signal_is : (d : Design) (s : Signal) → is_signal d s ≡ true → signal_at d.signals s.number ≡ s
signal_is d s h = found_is s _ d.signals s.number h

pub signal_within : (d : Design) (s : Signal) → is_signal d s ≡ true → s.number < length d.signals
signal_within d s h = within s d.signals s.number h

-- one that is no memory is a signal of the design
pub plain_signal : (d : Design) (s : Signal) → is_plain d s ≡ true → is_signal d s ≡ true
plain_signal d s h = (and_both (is_signal d s) (not (is_memory s)) h).0

-- and so is one that is
pub memory_signal : (d : Design) (s : Signal) → has_words d s ≡ true → is_signal d s ≡ true
memory_signal d s h = (and_both (is_signal d s) (is_memory s) h).0

-- what a name that means a signal says
pub record MeansThere (d : Design) (needed : Bool) (m : Meaning) (number : ℕ) (range : Option Range) : Type 0 where
  pub signal : SignalMeaning
  pub means : m ≡ ASignal signal
  pub known : signal.known ≡ true
  pub runs : needed ≡ false
  pub at : signal_at d.signals number ≡ signal.signal
  pub below : number < length d.signals
  pub formed : is_plain d (signal_at d.signals number) ≡ true
  pub same_range : range ≡ signal.signal.range

there : (d : Design) (needed : Bool) (m : Meaning) (s : SignalShape) (t : SignalMeaning) → m ≡ ASignal t → s.number ≡ t.signal.number → s.range ≡ t.signal.range → needed ≡ false → IsSound d false (ASignal t) → MeansThere d needed m s.number s.range
there d needed m s t e n r f sound =
    let of_design = plain_signal d t.signal sound.0 in
    let at : signal_at d.signals s.number ≡ t.signal = ap (signal_at d.signals) n ∙ signal_is d t.signal of_design in
    record {
      signal = t;
      means = e;
      known = sound.1;
      runs = f;
      at = at;
      below = subst (λ k. k < length d.signals) (sym n) (signal_within d t.signal of_design);
      formed = ap (is_plain d) at ∙ sound.0;
      same_range = r;
    }

not_needed : (needed : Bool) (place : ℕ) (t : SignalMeaning) → (signal_typed needed place t).good ≡ true → needed ≡ false
not_needed true place t h = cc
not_needed false place t h = refl

pub name_there : (d : Design) (needed : Bool) (place : ℕ) (m : Meaning) (s : SignalShape) → IsNameable d needed place m → Means (named.Signal s) m → MeansThere d needed m s.number s.range
name_there d needed place m s h k =
    let good : (signal_typed needed place k.0).good ≡ true = subst (λ x. (name_typed needed place x).good ≡ true) k.1 h.good in
    let f : needed ≡ false = not_needed needed place k.0 good in
    there d needed m s k.0 k.1 k.2 k.3 f (subst (λ b. IsSound d b (ASignal k.0)) f (subst (λ x. IsSound d needed x) k.1 h.sound))

pub name_is : (d : Design) (needed : Bool) (place at : ℕ) (m : Meaning) (number : ℕ) (range : Option Range) → MeansThere d needed m number range → E.At at (E.Name (signal_at d.signals number)) ≡ begins_at at (name_typed needed place m).expression
name_is d needed place at m number range h =
    ap (λ x. E.At at (E.Name x)) h.at
    ∙ ap (λ b. begins_at at (known_signal b h.signal.signal).expression) (sym h.known)
    ∙ ap (λ b. begins_at at (signal_typed b place h.signal).expression) (sym h.runs)
    ∙ ap (λ x. begins_at at (name_typed needed place x).expression) (sym h.means)

base_not_needed : (needed : Bool) (place : ℕ) (t : SignalMeaning) → (signal_base_of needed place t).good ≡ true → needed ≡ false
base_not_needed true place t h = cc
base_not_needed false place t h = refl

pub base_there : (d : Design) (needed : Bool) (place : ℕ) (m : Meaning) (s : SignalShape) → HasBits d needed place m → Means (named.Signal s) m → MeansThere d needed m s.number s.range
base_there d needed place m s h k =
    let good : (signal_base_of needed place k.0).good ≡ true = subst (λ x. (base_of needed place x).good ≡ true) k.1 h.good in
    let f : needed ≡ false = base_not_needed needed place k.0 good in
    there d needed m s k.0 k.1 k.2 k.3 f (subst (λ b. IsSound d b (ASignal k.0)) f (subst (λ x. IsSound d needed x) k.1 h.sound))

pub source_there : (d : Design) (old new : Draft) (needed : Bool) (place : ℕ) (m : Meaning) (number : ℕ) (range : Option Range) (r : Range) → MeansThere d needed m number range → range ≡ Some r
    → AddsExpression old new (E.At place (E.Name (signal_at d.signals number))) 1 → AddsSource old new (base_of needed place m) r
source_there d old new needed place m number range r h e a =
    let source : base_of needed place m ≡ signal_base_of false place h.signal = ap (base_of needed place) h.means ∙ ap (λ b. signal_base_of b place h.signal) h.runs in
    record {
      tree = E.At place (E.Name (signal_at d.signals number));
      adds = a;
      source = ap E.OfSignal h.at ∙ ap (λ b. b.source) (sym source);
      has_range = ap (λ b. b.range) source ∙ sym h.same_range ∙ e;
    }
