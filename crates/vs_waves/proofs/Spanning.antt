-- The planes of signals that are taken over, one signal after the other.
use Rattle.std.proofs.Common.{◌≡◌, ℕ, zero, suc, ◌+◌, ◌<◌, ◌≤◌, Bool, true, false, not, ◌||◌, List, [], ◌∷◌, length, map, take, drop, get_or, slice_get, Some, refl, sym, ap, ap₂, ◌∙◌, subst, arith, inl, inr}
use Rattle.std.proofs.lemmas.Bool.{cases_eq}
use Rattle.vs_four.specs.declared.Bit4.{Bit4}
use Rattle.vs_four.specs.declared.Bit4.TheVariants.{Zero, One, X, Z}
use Rattle.vs_four.specs.Tables.{is_one, same}
use Rattle.vs_four.specs.Logic.{BitList, identical}
use Rattle.vs_net.specs.Network.{State}
use Rattle.vs_design.specs.Values.{count_from, read}
use Rattle.vs_plane.specs.declared.pairs.Pair.{Pair}
use Rattle.vs_plane.specs.Lanes.{lane_or_x, slot_lane}
use Rattle.vs_program.specs.declared.compiled.Span.{Span}
use Rattle.vs_program.specs.Compiled.{span_bits}
use Rattle.vs_engine.specs.Lanes.{differ_below}
use Rattle.vs_waves.specs.Last.{AreApart}
use Rattle.vs_waves.specs.Rounds.{values_in}
use Rattle.vs_waves.proofs.Changing.{differ_is}
use Rattle.vs_waves.proofs.Placing.{IsPlaced, slice_get-take, slice_get-drop}

-- ---- values of as many bits

read_is : (f g : State) (a b n : ℕ) → ((k : ℕ) → k < n → f (a + k) ≡ g (b + k)) → map f (count_from a n) ≡ map g (count_from b n)
read_is f g a b zero each = refl
read_is f g a b (suc n) each =
    ap₂ (λ (x : Bit4) (xs : BitList). x ∷ xs)
    (ap f (let e : a ≡ a + 0 = omega arith in e) ∙ each 0 (omega arith) ∙ ap g (let e : b + 0 ≡ b = omega arith in e))
    (read_is f g (suc a) (suc b) n (λ k h. ap f (let e : suc a + k ≡ a + suc k = omega arith in e) ∙ each (suc k) (omega arith) ∙ ap g (let e : b + suc k ≡ suc b + k = omega arith in e)))

pub values_are : (f g : State) (ss ts : List Span) → map (λ (s : Span). s.length) ss ≡ map (λ (s : Span). s.length) ts
    → ((m : ℕ) (s t : Span) → slice_get ss m ≡ Some s → slice_get ts m ≡ Some t → (k : ℕ) → k < s.length → f (s.first + k) ≡ g (t.first + k))
    → values_in f ss ≡ values_in g ts
values_are f g [] [] long each = refl
values_are f g [] (t ∷ ts) long each = cc
values_are f g (s ∷ ss) [] long each = cc
values_are f g (s ∷ ss) (t ∷ ts) long each =
    let first : s.length ≡ t.length = cc in
    let rest : map (λ (s : Span). s.length) ss ≡ map (λ (s : Span). s.length) ts = cc in
    ap₂ (λ (v : BitList) (vs : List BitList). v ∷ vs)
    (read_is f g s.first t.first s.length (each 0 s t refl refl) ∙ ap (λ (n : ℕ). map g (count_from t.first n)) first)
    (values_are f g ss ts rest (λ m u v e d. each (suc m) u v e d))

-- a signal of one list has as many bits in the other
pub record HasSpan (ts : List Span) (n bits : ℕ) : Type 0 where
  pub span : Span
  pub is : slice_get ts n ≡ Some span
  pub long : span.length ≡ bits

pub has_span : (ss ts : List Span) (n : ℕ) (s : Span) → map (λ (s : Span). s.length) ss ≡ map (λ (s : Span). s.length) ts → slice_get ss n ≡ Some s → HasSpan ts n s.length
has_span [] ts n s long e = cc
has_span (u ∷ ss) [] n s long e = cc
has_span (u ∷ ss) (t ∷ ts) zero s long e = record { span = t; is = refl; long = let first : u.length ≡ t.length = cc in let same : u ≡ s = cc in sym first ∙ ap (λ (v : Span). v.length) same }
has_span (u ∷ ss) (t ∷ ts) (suc n) s long e = let rest : map (λ (s : Span). s.length) ss ≡ map (λ (s : Span). s.length) ts = cc in
    let there = has_span ss ts n s rest e in
    record { span = there.span; is = there.is; long = there.long }

pub span_long : (ss ts : List Span) (n : ℕ) (s t : Span) → map (λ (s : Span). s.length) ss ≡ map (λ (s : Span). s.length) ts → slice_get ss n ≡ Some s → slice_get ts n ≡ Some t → s.length ≡ t.length
span_long ss ts n s t long e d =
    let there = has_span ss ts n s long e in
    let same : there.span ≡ t = let both : Some there.span ≡ Some t = sym there.is ∙ d in cc in
    sym there.long ∙ ap (λ (v : Span). v.length) same

pub value_at : (f : State) (ss : List Span) (n : ℕ) (s : Span) → slice_get ss n ≡ Some s → get_or (values_in f ss) n [] ≡ read f (span_bits s)
value_at f [] n s e = cc
value_at f (u ∷ ss) zero s e = let same : u ≡ s = cc in ap (λ (v : Span). read f (span_bits v)) same
value_at f (u ∷ ss) (suc n) s e = value_at f ss n s e

-- ---- bits that differ

pub differ_same : (f g h : ℕ → Bit4) (n : ℕ) → ((k : ℕ) → k < n → f k ≡ g k) → differ_below f h n ≡ differ_below g h n
differ_same f g h zero each = refl
differ_same f g h (suc n) each = ap₂ (λ (x y : Bool). x || y) (differ_same f g h n (λ k l. each k (omega arith))) (ap (λ v. not (same v (h n))) (each n (omega arith)))

same_is : (x y : Bit4) → not (same x y) ≡ false → x ≡ y
same_is Zero Zero e = refl
same_is One One e = refl
same_is X X e = refl
same_is Z Z e = refl
same_is Zero One e = cc
same_is Zero X e = cc
same_is Zero Z e = cc
same_is One Zero e = cc
same_is One X e = cc
same_is One Z e = cc
same_is X Zero e = cc
same_is X One e = cc
same_is X Z e = cc
same_is Z Zero e = cc
same_is Z One e = cc
same_is Z X e = cc

pub neither : (x y : Bool) → (x || y) ≡ false → (x ≡ false) × (y ≡ false)
neither true y e = cc
neither false y e = (refl, e)

pub same_below : (f g : ℕ → Bit4) (n k : ℕ) → differ_below f g n ≡ false → k < n → f k ≡ g k
same_below f g zero k e h = absurd (omega arith)
same_below f g (suc n) k e h =
    let parts = neither (differ_below f g n) (not (same (f n) (g n))) e in
    elim (cases_eq k n) [
      | inl is ↦ subst (λ (j : ℕ). f j ≡ g j) (sym is) (same_is (f n) (g n) parts.1)
      | inr ne ↦ same_below f g n k parts.0 (omega arith)
    ]

-- ---- planes that are taken over

-- the first signals have in each lane the values of the state, and the others those that they had
pub record AreTaken {W : Type 0} (lane : W → ℕ → Bool) (lanes : ℕ) (state : ℕ → State) (signals spans : List Span) (old planes : List (Pair W)) (n : ℕ) : Type 0 where
  pub long : length planes ≡ length old
  pub taken : (m i k : ℕ) (s t : Span) → m < n → slice_get spans m ≡ Some s → slice_get signals m ≡ Some t → i < lanes → k < s.length
      → slot_lane lane planes (s.first + k) i ≡ state i (t.first + k)
  pub rest : (m i k : ℕ) (s : Span) → n ≤ m → slice_get spans m ≡ Some s → k < s.length → slot_lane lane planes (s.first + k) i ≡ slot_lane lane old (s.first + k) i

pub none_taken : {W : Type 0} (lane : W → ℕ → Bool) (lanes : ℕ) (state : ℕ → State) (signals spans : List Span) (old : List (Pair W)) → AreTaken lane lanes state signals spans old old 0
none_taken lane lanes state signals spans old = record {
  long = refl;
  taken = λ m i k s t h. absurd (let e : ⊥ = omega arith in e);
  rest = λ m i k s h e l. refl;
}

-- one signal more, whose planes alone may have changed
pub taken_more : {W : Type 0} (lane : W → ℕ → Bool) (lanes : ℕ) (state : ℕ → State) (signals spans : List Span) (old planes next : List (Pair W)) (bits n : ℕ) (s t : Span)
    → AreApart spans bits → slice_get spans n ≡ Some s → slice_get signals n ≡ Some t
    → length next ≡ length planes
    → ((i k : ℕ) → i < lanes → k < s.length → slot_lane lane next (s.first + k) i ≡ state i (t.first + k))
    → ((b i : ℕ) → b < s.first → slot_lane lane next b i ≡ slot_lane lane planes b i)
    → ((b i : ℕ) → s.first + s.length ≤ b → slot_lane lane next b i ≡ slot_lane lane planes b i)
    → AreTaken lane lanes state signals spans old planes n
    → AreTaken lane lanes state signals spans old next (n + 1)
taken_more lane lanes state signals spans old planes next bits n s t spans_apart is_s is_t long inside before behind so_far = record {
  long = long ∙ so_far.long;
  taken = λ m i k u v h is_u is_v l j. elim (cases_eq m n) as (λ _. slot_lane lane next (u.first + k) i ≡ state i (v.first + k)) [
    | inl e ↦
        let u_s : Some u ≡ Some s = sym is_u ∙ ap (slice_get spans) e ∙ is_s in
        let v_t : Some v ≡ Some t = sym is_v ∙ ap (slice_get signals) e ∙ is_t in
        let same_s : u ≡ s = cc in
        let same_t : v ≡ t = cc in
        ap (λ (x : Span). slot_lane lane next (x.first + k) i) same_s
        ∙ inside i k l (subst (λ (x : Span). k < x.length) same_s j)
        ∙ sym (ap (λ (x : Span). state i (x.first + k)) same_t)
    | inr ne ↦
        let apart : u.first + u.length ≤ s.first = spans_apart.apart m n u s (omega arith) is_u is_s in
        before (u.first + k) i (omega arith) ∙ so_far.taken m i k u v (omega arith) is_u is_v l j
  ];
  rest = λ m i k u h is_u j.
      let apart : s.first + s.length ≤ u.first = spans_apart.apart n m s u (omega arith) is_s is_u in
      behind (u.first + k) i (omega arith) ∙ so_far.rest m i k u (omega arith) is_u j;
}

-- whether a signal differs from what it was
pub differs : {W : Type 0} (lane : W → ℕ → Bool) (lanes : ℕ) (state : ℕ → State) (signals spans : List Span) (old planes part : List (Pair W)) (n i : ℕ) (s t : Span)
    → slice_get spans n ≡ Some s → slice_get signals n ≡ Some t → t.length ≡ s.length
    → ((k : ℕ) → k < s.length → slot_lane lane part k i ≡ slot_lane lane planes (s.first + k) i)
    → AreTaken lane lanes state signals spans old planes n
    → differ_below (λ k. slot_lane lane part k i) (λ k. state i (t.first + k)) t.length
    ≡ not (is_one (identical (get_or (values_in (λ b. slot_lane lane old b i) spans) n []) (get_or (values_in (state i) signals) n [])))
differs lane lanes state signals spans old planes part n i s t is_s is_t long part_is so_far =
    let was : State = λ b. slot_lane lane old b i in
    differ_same (λ k. slot_lane lane part k i) (λ k. was (s.first + k)) (λ k. state i (t.first + k)) t.length
    (λ k h. let l : k < s.length = omega arith in part_is k l ∙ so_far.rest n i k s (omega arith) is_s l)
    ∙ differ_is was (state i) s.first t.first t.length
    ∙ ap₂ (λ (v w : BitList). not (is_one (identical v w)))
    (ap (λ (m : ℕ). map was (count_from s.first m)) long ∙ sym (value_at was spans n s is_s))
    (sym (value_at (state i) signals n t is_t))

-- a part of the planes
pub part_is : {W : Type 0} (lane : W → ℕ → Bool) (planes now : List (Pair W)) (from size k i : ℕ) → now ≡ planes → k < size → slot_lane lane (take size (drop from now)) k i ≡ slot_lane lane planes (from + k) i
part_is lane planes now from size k i same h =
    ap (λ o. lane_or_x lane o i) (slice_get-take size (drop from now) k h ∙ slice_get-drop from now k ∙ ap (λ (l : List (Pair _)). slice_get l (from + k)) same)

-- a signal whose planes were written
pub written : {W : Type 0} (lane : W → ℕ → Bool) (lanes : ℕ) (state : ℕ → State) (signals spans : List Span) (old planes out next : List (Pair W)) (bits n : ℕ) (s t : Span)
    → AreApart spans bits → slice_get spans n ≡ Some s → slice_get signals n ≡ Some t → t.length ≡ s.length
    → IsPlaced s.first planes out next → length out ≡ s.length
    → ((k i : ℕ) → i < lanes → k < t.length → slot_lane lane out k i ≡ state i (t.first + k))
    → AreTaken lane lanes state signals spans old planes n
    → AreTaken lane lanes state signals spans old next (n + 1)
written lane lanes state signals spans old planes out next bits n s t spans_apart is_s is_t long there size copies so_far =
    taken_more lane lanes state signals spans old planes next bits n s t spans_apart is_s is_t there.long
    (λ i k l h. ap (λ o. lane_or_x lane o i) (there.inside k (omega arith)) ∙ copies k i l (omega arith))
    (λ b i h. ap (λ o. lane_or_x lane o i) (there.before b h))
    (λ b i h. ap (λ o. lane_or_x lane o i) (there.behind b (omega arith)))
    so_far
