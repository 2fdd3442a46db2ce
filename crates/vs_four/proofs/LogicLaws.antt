-- Laws of the operators that go bit by bit.
use Rattle.std.proofs.Common.{◌≡◌, ◌≢◌, ◌⊎◌, ℕ, zero, suc, ◌<◌, Bool, true, false, not, ◌||◌, [], ◌∷◌, length, map, slice_index_or, inl, inr, refl, sym, ap, ap₂, ◌∙◌, arith}
use Rattle.std.specs.Prelude.{All, Contains}
use Rattle.std.proofs.lemmas.Bool.{and_parts, and_from}
use Rattle.vs_four.specs.declared.Bit4.{Bit4}
use Rattle.vs_four.specs.declared.Bit4.TheVariants.{Zero, One, X, Z}
use Rattle.vs_four.specs.Tables.{same, is_known, not_bit, and_bit, or_bit, xor_bit, xnor_bit}
use Rattle.vs_four.specs.Logic.{BitList, all_known, map2, equal, truth}
use Rattle.vs_four.specs.Laws.{KeepsBit, Keeps, IsMonotone, KnowledgeGrows, DifferAt, EqualityInWords, TruthInWords}
use Rattle.vs_four.proofs.Reductions.{same_true, of_all, at_each, reduce_and-cons, reduce_or-cons}

-- ---- information

-- the test of `KeepsBit`
abbrev kept : Bit4 → Bit4 → Bool
kept a b = not (is_known a) || same a b

same_self : (a : Bit4) → same a a ≡ true
same_self Zero = refl
same_self One = refl
same_self X = refl
same_self Z = refl

kept_from : (a b : Bit4) → KeepsBit a b → kept a b ≡ true
kept_from Zero b h = ap (λ c. kept Zero c) (sym (h refl))
kept_from One b h = ap (λ c. kept One c) (sym (h refl))
kept_from X b h = refl
kept_from Z b h = refl

kept_gives : (a b : Bit4) → kept a b ≡ true → KeepsBit a b
kept_gives Zero b h = λ _. same_true Zero b h
kept_gives One b h = λ _. same_true One b h
kept_gives X b h = λ e. cc
kept_gives Z b h = λ e. cc

implied : (p q : Bool) → (not p || q) ≡ true → p ≡ true → q ≡ true
implied true q h e = h
implied false q h e = cc

-- of a bit operator: where operands are kept, the result is
abbrev monotone_test : (Bit4 → Bit4 → Bit4) → Bit4 → Bit4 → Bit4 → Bit4 → Bool
monotone_test op a b p q = not (kept a p) || (not (kept b q) || kept (op a b) (op p q))

bit_monotone : (op : Bit4 → Bit4 → Bit4) → of_all (λ a. of_all (λ b. of_all (λ p. of_all (λ q. monotone_test op a b p q)))) ≡ true
    → (a b p q : Bit4) → KeepsBit a p → KeepsBit b q → KeepsBit (op a b) (op p q)
bit_monotone op table a b p q h k =
    let at_a = at_each (λ a. of_all (λ b. of_all (λ p. of_all (λ q. monotone_test op a b p q)))) table a in
    let at_b = at_each (λ b. of_all (λ p. of_all (λ q. monotone_test op a b p q))) at_a b in
    let at_p = at_each (λ p. of_all (λ q. monotone_test op a b p q)) at_b p in
    let at_q = at_each (λ q. monotone_test op a b p q) at_p q in
    kept_gives (op a b) (op p q) (implied _ _ (implied (kept a p) (not (kept b q) || kept (op a b) (op p q)) at_q (kept_from a p h)) (kept_from b q k))

map2_monotone : (op : Bit4 → Bit4 → Bit4) → ((a b p q : Bit4) → KeepsBit a p → KeepsBit b q → KeepsBit (op a b) (op p q)) → IsMonotone op
map2_monotone op bit [] bs [] qs h k = tt
map2_monotone op bit [] bs (p ∷ ps) qs h k = elim h [ ]
map2_monotone op bit (a ∷ xs) bs [] qs h k = elim h [ ]
map2_monotone op bit (a ∷ xs) [] (p ∷ ps) [] h k = tt
map2_monotone op bit (a ∷ xs) [] (p ∷ ps) (q ∷ qs) h k = elim k [ ]
map2_monotone op bit (a ∷ xs) (b ∷ bs) (p ∷ ps) [] h k = elim k [ ]
map2_monotone op bit (a ∷ xs) (b ∷ bs) (p ∷ ps) (q ∷ qs) h k = (bit a b p q h.0 k.0, map2_monotone op bit xs bs ps qs h.1 k.1)

not_kept : (a p : Bit4) → KeepsBit a p → KeepsBit (not_bit a) (not_bit p)
not_kept Zero p h = λ _. ap not_bit (h refl)
not_kept One p h = λ _. ap not_bit (h refl)
not_kept X p h = λ e. cc
not_kept Z p h = λ e. cc

not_monotone : (a p : BitList) → Keeps a p → Keeps (map not_bit a) (map not_bit p)
not_monotone [] [] h = tt
not_monotone [] (p ∷ ps) h = elim h [ ]
not_monotone (a ∷ xs) [] h = elim h [ ]
not_monotone (a ∷ xs) (p ∷ ps) h = (not_kept a p h.0, not_monotone xs ps h.1)

pub knowledge_grows : KnowledgeGrows
knowledge_grows = record {
  conjunction = map2_monotone and_bit (bit_monotone and_bit refl);
  disjunction = map2_monotone or_bit (bit_monotone or_bit refl);
  exclusive = map2_monotone xor_bit (bit_monotone xor_bit refl);
  negation = not_monotone;
}

-- ---- equality

-- what a result of `and` says of its operands
and_zero : (c r : Bit4) → and_bit (and_bit One c) r ≡ Zero → (c ≡ Zero) ⊎ (r ≡ Zero)
and_zero Zero Zero h = inl refl
and_zero Zero One h = inl refl
and_zero Zero X h = inl refl
and_zero Zero Z h = inl refl
and_zero One Zero h = inr refl
and_zero One One h = cc
and_zero One X h = cc
and_zero One Z h = cc
and_zero X Zero h = inr refl
and_zero X One h = cc
and_zero X X h = cc
and_zero X Z h = cc
and_zero Z Zero h = inr refl
and_zero Z One h = cc
and_zero Z X h = cc
and_zero Z Z h = cc

and_one : (c r : Bit4) → and_bit (and_bit One c) r ≡ One → (c ≡ One) × (r ≡ One)
and_one Zero Zero h = cc
and_one Zero One h = cc
and_one Zero X h = cc
and_one Zero Z h = cc
and_one One Zero h = cc
and_one One One h = (refl, refl)
and_one One X h = cc
and_one One Z h = cc
and_one X Zero h = cc
and_one X One h = cc
and_one X X h = cc
and_one X Z h = cc
and_one Z Zero h = cc
and_one Z One h = cc
and_one Z X h = cc
and_one Z Z h = cc

and_of_zero : (c r : Bit4) → r ≡ Zero → and_bit (and_bit One c) r ≡ Zero
and_of_zero c r e = same_true _ _ (ap (λ r. same (and_bit (and_bit One c) r) Zero) e ∙ at_each (λ c. same (and_bit (and_bit One c) Zero) Zero) refl c)

-- the result of a fold of `and` isn't z
and_values : (c r : Bit4) → (and_bit (and_bit One c) r ≡ Zero) ⊎ (and_bit (and_bit One c) r ≡ One) ⊎ (and_bit (and_bit One c) r ≡ X)
and_values Zero Zero = inl refl
and_values Zero One = inl refl
and_values Zero X = inl refl
and_values Zero Z = inl refl
and_values One Zero = inl refl
and_values One One = inr (inl refl)
and_values One X = inr (inr refl)
and_values One Z = inr (inr refl)
and_values X Zero = inl refl
and_values X One = inr (inr refl)
and_values X X = inr (inr refl)
and_values X Z = inr (inr refl)
and_values Z Zero = inl refl
and_values Z One = inr (inr refl)
and_values Z X = inr (inr refl)
and_values Z Z = inr (inr refl)

-- what a bit of `==` says of the two bits
xnor_zero : (x y : Bit4) → xnor_bit x y ≡ Zero → (is_known x ≡ true) × (is_known y ≡ true) × (x ≢ y)
xnor_zero Zero Zero h = cc
xnor_zero Zero One h = (refl, refl, λ e. cc)
xnor_zero Zero X h = cc
xnor_zero Zero Z h = cc
xnor_zero One Zero h = (refl, refl, λ e. cc)
xnor_zero One One h = cc
xnor_zero One X h = cc
xnor_zero One Z h = cc
xnor_zero X Zero h = cc
xnor_zero X One h = cc
xnor_zero X X h = cc
xnor_zero X Z h = cc
xnor_zero Z Zero h = cc
xnor_zero Z One h = cc
xnor_zero Z X h = cc
xnor_zero Z Z h = cc

xnor_one : (x y : Bit4) → xnor_bit x y ≡ One → (is_known x ≡ true) × (x ≡ y)
xnor_one Zero Zero h = (refl, refl)
xnor_one Zero One h = cc
xnor_one Zero X h = cc
xnor_one Zero Z h = cc
xnor_one One Zero h = cc
xnor_one One One h = (refl, refl)
xnor_one One X h = cc
xnor_one One Z h = cc
xnor_one X Zero h = cc
xnor_one X One h = cc
xnor_one X X h = cc
xnor_one X Z h = cc
xnor_one Z Zero h = cc
xnor_one Z One h = cc
xnor_one Z X h = cc
xnor_one Z Z h = cc

differ_zero : (x y : Bit4) → is_known x ≡ true → is_known y ≡ true → x ≢ y → xnor_bit x y ≡ Zero
differ_zero Zero Zero h l d = absurd (d refl)
differ_zero Zero One h l d = refl
differ_zero Zero X h l d = cc
differ_zero Zero Z h l d = cc
differ_zero One Zero h l d = refl
differ_zero One One h l d = absurd (d refl)
differ_zero One X h l d = cc
differ_zero One Z h l d = cc
differ_zero X Zero h l d = cc
differ_zero X One h l d = cc
differ_zero X X h l d = cc
differ_zero X Z h l d = cc
differ_zero Z Zero h l d = cc
differ_zero Z One h l d = cc
differ_zero Z X h l d = cc
differ_zero Z Z h l d = cc

same_one : (x : Bit4) → is_known x ≡ true → xnor_bit x x ≡ One
same_one Zero h = refl
same_one One h = refl
same_one X h = cc
same_one Z h = cc

equal-cons : (x y : Bit4) (xs ys : BitList) → equal (x ∷ xs) (y ∷ ys) ≡ and_bit (and_bit One (xnor_bit x y)) (equal xs ys)
equal-cons x y xs ys = reduce_and-cons (xnor_bit x y) (map2 xnor_bit xs ys)

differs : (a b : BitList) → length a ≡ length b → equal a b ≡ Zero → (n : ℕ) × DifferAt a b n
differs [] [] h e = cc
differs [] (y ∷ ys) h e = absurd (omega (arith, h))
differs (x ∷ xs) [] h e = absurd (omega (arith, h))
differs (x ∷ xs) (y ∷ ys) h e =
    elim (and_zero (xnor_bit x y) (equal xs ys) (sym (equal-cons x y xs ys) ∙ e)) [
      | inl z ↦ (let d = xnor_zero x y z in (0, (x, y, refl, refl, d.0, d.1, d.2)))
      | inr z ↦ (let d = differs xs ys (omega (arith, h)) z in (suc d.0, d.1))
    ]

zero_of_difference : (a b : BitList) (n : ℕ) → DifferAt a b n → equal a b ≡ Zero
zero_of_difference [] b n d = let e = d.2 in cc
zero_of_difference (x ∷ xs) [] n d = let e = d.3 in cc
zero_of_difference (x ∷ xs) (y ∷ ys) zero d =
    let e : x ≡ d.0 = let f = d.2 in cc in
    let g : y ≡ d.1 = let f = d.3 in cc in
    let z : xnor_bit x y ≡ Zero = ap₂ xnor_bit e g ∙ differ_zero d.0 d.1 d.4 d.5 d.6 in
    equal-cons x y xs ys ∙ ap (λ c. and_bit (and_bit One c) (equal xs ys)) z
zero_of_difference (x ∷ xs) (y ∷ ys) (suc n) d = equal-cons x y xs ys ∙ and_of_zero (xnor_bit x y) (equal xs ys) (zero_of_difference xs ys n d)

agrees : (a b : BitList) → length a ≡ length b → equal a b ≡ One → (all_known a ≡ true) × (a ≡ b)
agrees [] [] h e = (refl, refl)
agrees [] (y ∷ ys) h e = absurd (omega (arith, h))
agrees (x ∷ xs) [] h e = absurd (omega (arith, h))
agrees (x ∷ xs) (y ∷ ys) h e =
    let p = and_one (xnor_bit x y) (equal xs ys) (sym (equal-cons x y xs ys) ∙ e) in
    let q = xnor_one x y p.0 in
    let r = agrees xs ys (omega (arith, h)) p.1 in
    (and_from (is_known x) (all_known xs) q.0 r.0, ap₂ ◌∷◌ q.1 r.1)

one_of_same : (a : BitList) → all_known a ≡ true → equal a a ≡ One
one_of_same [] h = refl
one_of_same (x ∷ xs) h =
    let p = and_parts (is_known x) (all_known xs) h in
    equal-cons x x xs xs ∙ ap₂ (λ c r. and_bit (and_bit One c) r) (same_one x p.0) (one_of_same xs p.1)

equal_values : (a b : BitList) → (equal a b ≡ Zero) ⊎ (equal a b ≡ One) ⊎ (equal a b ≡ X)
equal_values [] b = inr (inl refl)
equal_values (x ∷ xs) [] = inr (inl refl)
equal_values (x ∷ xs) (y ∷ ys) = rw (equal-cons x y xs ys) (and_values (xnor_bit x y) (equal xs ys))

pub equality_in_words : EqualityInWords
equality_in_words a b h = (
  (differs a b h, λ d. zero_of_difference a b d.0 d.1),
  (agrees a b h, λ s. ap (λ c. equal a c) (sym s.1) ∙ one_of_same a s.0),
  equal_values a b,
)

-- ---- truth

or_one : (c r : Bit4) → or_bit (or_bit Zero c) r ≡ One → (c ≡ One) ⊎ (r ≡ One)
or_one Zero Zero h = cc
or_one Zero One h = inr refl
or_one Zero X h = cc
or_one Zero Z h = cc
or_one One Zero h = inl refl
or_one One One h = inl refl
or_one One X h = inl refl
or_one One Z h = inl refl
or_one X Zero h = cc
or_one X One h = inr refl
or_one X X h = cc
or_one X Z h = cc
or_one Z Zero h = cc
or_one Z One h = inr refl
or_one Z X h = cc
or_one Z Z h = cc

or_zero : (c r : Bit4) → or_bit (or_bit Zero c) r ≡ Zero → (c ≡ Zero) × (r ≡ Zero)
or_zero Zero Zero h = (refl, refl)
or_zero Zero One h = cc
or_zero Zero X h = cc
or_zero Zero Z h = cc
or_zero One Zero h = cc
or_zero One One h = cc
or_zero One X h = cc
or_zero One Z h = cc
or_zero X Zero h = cc
or_zero X One h = cc
or_zero X X h = cc
or_zero X Z h = cc
or_zero Z Zero h = cc
or_zero Z One h = cc
or_zero Z X h = cc
or_zero Z Z h = cc

or_of_one : (c r : Bit4) → r ≡ One → or_bit (or_bit Zero c) r ≡ One
or_of_one c r e = same_true _ _ (ap (λ r. same (or_bit (or_bit Zero c) r) One) e ∙ at_each (λ c. same (or_bit (or_bit Zero c) One) One) refl c)

or_values : (c r : Bit4) → (or_bit (or_bit Zero c) r ≡ Zero) ⊎ (or_bit (or_bit Zero c) r ≡ One) ⊎ (or_bit (or_bit Zero c) r ≡ X)
or_values Zero Zero = inl refl
or_values Zero One = inr (inl refl)
or_values Zero X = inr (inr refl)
or_values Zero Z = inr (inr refl)
or_values One Zero = inr (inl refl)
or_values One One = inr (inl refl)
or_values One X = inr (inl refl)
or_values One Z = inr (inl refl)
or_values X Zero = inr (inr refl)
or_values X One = inr (inl refl)
or_values X X = inr (inr refl)
or_values X Z = inr (inr refl)
or_values Z Zero = inr (inr refl)
or_values Z One = inr (inl refl)
or_values Z X = inr (inr refl)
or_values Z Z = inr (inr refl)

some_one : (a : BitList) → truth a ≡ One → Contains a One
some_one [] e = cc
some_one (x ∷ xs) e =
    elim (or_one x (truth xs) (sym (reduce_or-cons x xs) ∙ e)) [
      | inl p ↦ (0, omega arith, p)
      | inr p ↦ (let r = some_one xs p in (suc r.0, omega (arith, r.1), r.2))
    ]

one_of_some : (a : BitList) (k : ℕ) → k < length a → slice_index_or a k One ≡ One → truth a ≡ One
one_of_some [] k h e = absurd (omega (arith, h))
one_of_some (x ∷ xs) zero h e = reduce_or-cons x xs ∙ ap (λ c. or_bit (or_bit Zero c) (truth xs)) e
one_of_some (x ∷ xs) (suc k) h e = reduce_or-cons x xs ∙ or_of_one x (truth xs) (one_of_some xs k (omega (arith, h)) e)

all_zero : (a : BitList) → truth a ≡ Zero → All (λ b. b ≡ Zero) a
all_zero [] e k d h = absurd (omega (arith, h))
all_zero (x ∷ xs) e zero d h = (or_zero x (truth xs) (sym (reduce_or-cons x xs) ∙ e)).0
all_zero (x ∷ xs) e (suc k) d h = all_zero xs (or_zero x (truth xs) (sym (reduce_or-cons x xs) ∙ e)).1 k d (omega (arith, h))

zero_of_all : (a : BitList) → All (λ b. b ≡ Zero) a → truth a ≡ Zero
zero_of_all [] h = refl
zero_of_all (x ∷ xs) h =
    let first : x ≡ Zero = h 0 Zero (omega arith) in
    let rest : truth xs ≡ Zero = zero_of_all xs (λ k d l. h (suc k) d (omega (arith, l))) in
    reduce_or-cons x xs ∙ ap₂ (λ c r. or_bit (or_bit Zero c) r) first rest

truth_values : (a : BitList) → (truth a ≡ Zero) ⊎ (truth a ≡ One) ⊎ (truth a ≡ X)
truth_values [] = inl refl
truth_values (x ∷ xs) = rw (reduce_or-cons x xs) (or_values x (truth xs))

pub truth_in_words : TruthInWords
truth_in_words a = (
  (some_one a, λ c. one_of_some a c.0 c.1 c.2),
  (all_zero a, zero_of_all a),
  truth_values a,
)
