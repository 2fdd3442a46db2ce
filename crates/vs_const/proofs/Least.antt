-- The least fault of two lists is the lesser of their least faults, so faults may be met in any grouping.
use Rattle.std.proofs.Common.{◌≡◌, ◌<◌, ◌≤◌, ◌==◌, ◌⊎◌, inl, inr, Bool, true, false, ◌&&◌, ◌||◌, List, [], ◌∷◌, ◌++◌, Option, Some, None, ◌≢◌, if◌then◌else◌, nat_lt, refl, sym, ap, ◌∙◌, arith}
use Rattle.std.proofs.lemmas.Bool.{ltb-true, ltb-false, eqb-true, eqb-false}
use Rattle.vs_const.specs.Rules.{rule_number, is_of_signal}
use Rattle.vs_const.specs.declared.faults.Fault.{Fault}
use Rattle.vs_const.specs.declared.faults.Flaws.{Flaws}
use Rattle.vs_const.specs.Faults.{comes_before, lesser, least, better, names_signal, flaws_of, merged}

abbrev Before : Fault → Fault → Type 0
Before a b = (a.place < b.place) ⊎ ((a.place ≡ b.place) × (rule_number a.rule < rule_number b.rule))

abbrev NotBefore : Fault → Fault → Type 0
NotBefore a b = (b.place < a.place) ⊎ ((b.place ≡ a.place) × (rule_number b.rule ≤ rule_number a.rule))

abbrev Decided : Fault → Fault → Bool → Type 0
Decided a b true = Before a b
Decided a b false = NotBefore a b

decide : (a b : Fault) → (p q r : Bool) → nat_lt a.place b.place ≡ p → (a.place == b.place) ≡ q → nat_lt (rule_number a.rule) (rule_number b.rule) ≡ r → Decided a b (p || (q && r))
decide a b true q r e f g = inl (ltb-true a.place b.place e)
decide a b false true true e f g = inr (eqb-true a.place b.place f, ltb-true (rule_number a.rule) (rule_number b.rule) g)
decide a b false true false e f g = inr (sym (eqb-true a.place b.place f), ltb-false (rule_number a.rule) (rule_number b.rule) g)
decide a b false false r e f g = let h : a.place ≢ b.place = eqb-false a.place b.place f in let k = ltb-false a.place b.place e in inl (omega (arith, h, k))

decided : (a b : Fault) → Decided a b (comes_before a b)
decided a b = decide a b (nat_lt a.place b.place) (a.place == b.place) (nat_lt (rule_number a.rule) (rule_number b.rule)) refl refl refl

through : (a b c : Fault) → Before b a → Before c b → NotBefore c a → ⊥
through a b c (inl p) (inl q) (inl r) = omega arith
through a b c (inl p) (inl q) (inr r) = omega (arith, r.0)
through a b c (inl p) (inr q) (inl r) = omega (arith, q.0)
through a b c (inl p) (inr q) (inr r) = omega (arith, q.0, r.0)
through a b c (inr p) (inl q) (inl r) = omega (arith, p.0)
through a b c (inr p) (inl q) (inr r) = omega (arith, p.0, r.0)
through a b c (inr p) (inr q) (inl r) = omega (arith, p.0, q.0)
through a b c (inr p) (inr q) (inr r) = omega (arith, p.1, q.1, r.1)

beyond : (a b c : Fault) → NotBefore b a → NotBefore c b → Before c a → ⊥
beyond a b c (inl p) (inl q) (inl r) = omega arith
beyond a b c (inl p) (inl q) (inr r) = omega (arith, r.0)
beyond a b c (inl p) (inr q) (inl r) = omega (arith, q.0)
beyond a b c (inl p) (inr q) (inr r) = omega (arith, q.0, r.0)
beyond a b c (inr p) (inl q) (inl r) = omega (arith, p.0)
beyond a b c (inr p) (inl q) (inr r) = omega (arith, p.0, r.0)
beyond a b c (inr p) (inr q) (inl r) = omega (arith, p.0, q.0)
beyond a b c (inr p) (inr q) (inr r) = omega (arith, p.1, q.1, r.1)

-- which of three, by how they compare
chosen : (a b c : Fault) → (x y z : Bool) → comes_before b a ≡ x → comes_before c b ≡ y → comes_before c a ≡ z → Decided b a x → Decided c b y → Decided c a z →
    lesser (lesser a (Some b)) (Some c) ≡ lesser a (Some (lesser b (Some c)))
chosen a b c true true true e f g p q r = left_true ∙ sym right_true
  where
    left_true : lesser (lesser a (Some b)) (Some c) ≡ c
    left_true = ap (λ t. lesser (if t then b else a) (Some c)) e ∙ ap (λ t. if t then c else b) f

    right_true : lesser a (Some (lesser b (Some c))) ≡ c
    right_true = ap (λ t. lesser a (Some (if t then c else b))) f ∙ ap (λ t. if t then c else a) g
chosen a b c true true false e f g p q r = absurd (through a b c p q r)
chosen a b c true false z e f g p q r = (ap (λ t. lesser (if t then b else a) (Some c)) e ∙ ap (λ t. if t then c else b) f) ∙ sym (ap (λ t. lesser a (Some (if t then c else b))) f ∙ ap (λ t. if t then b else a) e)
chosen a b c false true z e f g p q r = ap (λ t. lesser (if t then b else a) (Some c)) e ∙ sym (ap (λ t. lesser a (Some (if t then c else b))) f)
chosen a b c false false true e f g p q r = absurd (beyond a b c p q r)
chosen a b c false false false e f g p q r = (ap (λ t. lesser (if t then b else a) (Some c)) e ∙ ap (λ t. if t then c else a) g) ∙ sym (ap (λ t. lesser a (Some (if t then c else b))) f ∙ ap (λ t. if t then b else a) e)

lesser_assoc : (a b c : Fault) → lesser (lesser a (Some b)) (Some c) ≡ lesser a (Some (lesser b (Some c)))
lesser_assoc a b c = chosen a b c (comes_before b a) (comes_before c b) (comes_before c a) refl refl refl (decided b a) (decided c b) (decided c a)

with_better : (a : Fault) → (x y : Option Fault) → Some (lesser a (better x y)) ≡ better (Some (lesser a x)) y
with_better a None y = refl
with_better a (Some b) None = refl
with_better a (Some b) (Some c) = ap Some (sym (lesser_assoc a b c))

pub better_assoc : (a b c : Option Fault) → better (better a b) c ≡ better a (better b c)
better_assoc None b c = refl
better_assoc (Some a) b c = sym (with_better a b c)

pub least_append : (fs gs : List Fault) → least (fs ++ gs) ≡ better (least fs) (least gs)
least_append [] gs = refl
least_append (f ∷ fs) gs = ap (λ t. Some (lesser f t)) (least_append fs gs) ∙ with_better f (least fs) (least gs)

or_append : (a b c : Bool) → (a || (b || c)) ≡ ((a || b) || c)
or_append true b c = refl
or_append false b c = refl

names_append : (fs gs : List Fault) → names_signal (fs ++ gs) ≡ (names_signal fs || names_signal gs)
names_append [] gs = refl
names_append (f ∷ fs) gs = ap (λ t. is_of_signal f.rule || t) (names_append fs gs) ∙ or_append (is_of_signal f.rule) (names_signal fs) (names_signal gs)

both_kept : (a b : Option Fault) (c d : Bool) → a ≡ b → c ≡ d → (let f : Flaws = record { first = a; signal = c } in f) ≡ (let f : Flaws = record { first = b; signal = d } in f)
both_kept a b c d h k = cc

pub flaws_append : (fs gs : List Fault) → flaws_of (fs ++ gs) ≡ merged (flaws_of fs) (flaws_of gs)
flaws_append fs gs = both_kept _ _ _ _ (least_append fs gs) (names_append fs gs)
