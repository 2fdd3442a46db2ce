-- The values that a run in level order begins with.
use Rattle.std.proofs.Common.{◌≡◌, ℕ, zero, suc, ◌+◌, ◌<◌, ◌≤◌, Bool, true, false, ◌&&◌, ◌||◌, ◌==◌, if◌then◌else◌, cond, List, [], ◌∷◌, ◌++◌, filter, length, get_or, eqb-true, eq-eqb, refl, sym, ap, ◌∙◌, arith, ◌⊎◌, inl, inr}
use mathlib.Core.Path.{fun_ext}
use Rattle.vs_four.specs.declared.Bit4.{Bit4}
use Rattle.vs_four.specs.declared.Bit4.TheVariants.{X, Z}
use Rattle.vs_net.specs.Network.{State, put}
use Rattle.vs_design.specs.Values.{count_from}
use Rattle.vs_design.specs.Footprints.{contains}
use Rattle.vs_writes.specs.Held.{state_of}
use Rattle.vs_queue.specs.First.{flag_at, flagged, idle_by, plain_value}
use Rattle.vs_queue.specs.Ordered.{x_values}
use Rattle.vs_queue.proofs.Firsts.{at_last, at_before, beyond, order_of}

-- ---- which bits begin with x

x_at : (bs : List ℕ) (s : State) (j : ℕ) → x_values bs s j ≡ (if contains bs j then X else s j)
x_at [] s j = refl
x_at (b ∷ bs) s j = x_at bs (put s b X) j ∙ go (j == b) (contains bs j)
  where
    go : (x y : Bool) → (if y then X else (if x then X else s j)) ≡ (if x || y then X else s j)
    go true true = refl
    go true false = refl
    go false true = refl
    go false false = refl

filter_has : (test : ℕ → Bool) (xs : List ℕ) (j : ℕ) → contains (filter test xs) j ≡ (contains xs j && test j)
filter_has test [] j = refl
filter_has test (x ∷ xs) j = go (test x) (j == x) refl refl (filter_has test xs j)
  where
    same : (j == x) ≡ true → test j ≡ test x
    same e = ap test (eqb-true j x e)

    none : (c : Bool) → (c && false) ≡ false
    none true = refl
    none false = refl

    go : (t e : Bool) → test x ≡ t → (j == x) ≡ e → contains (filter test xs) j ≡ (contains xs j && test j) → contains (cond t (x ∷ filter test xs) (filter test xs)) j ≡ (((j == x) || contains xs j) && test j)
    go true true h e r = ap (λ c. c || contains (filter test xs) j) e ∙ sym (ap (λ c. (c || contains xs j) && test j) e ∙ same e ∙ h)
    go true false h e r = ap (λ c. c || contains (filter test xs) j) e ∙ r ∙ sym (ap (λ c. (c || contains xs j) && test j) e)
    go false true h e r = r ∙ ap (λ c. contains xs j && c) (same e ∙ h) ∙ none (contains xs j) ∙ sym (ap (λ c. (c || contains xs j) && test j) e ∙ same e ∙ h)
    go false false h e r = r ∙ sym (ap (λ c. (c || contains xs j) && test j) e)

count_has : (k first j : ℕ) → first ≤ j → j < first + k → contains (count_from first k) j ≡ true
count_has zero first j h l = absurd (omega (arith, h, l))
count_has (suc k) first j h l = go (j == first) refl (λ m. count_has k (suc first) j m (omega (arith, l)))
  where
    go : (c : Bool) → (j == first) ≡ c → (suc first ≤ j → contains (count_from (suc first) k) j ≡ true) → (c || contains (count_from (suc first) k) j) ≡ true
    go true e rest = refl
    go false e rest = rest (elim (order_of first j) [ inl m ↦ omega (arith, m) | inr m ↦ absurd (let same : j ≡ first = omega (arith, h, m) in let z = sym e ∙ eq-eqb j first same in cc) ])

count_not : (k first j : ℕ) → first + k ≤ j → contains (count_from first k) j ≡ false
count_not zero first j h = refl
count_not (suc k) first j h = go (j == first) refl (count_not k (suc first) j (omega (arith, h)))
  where
    go : (c : Bool) → (j == first) ≡ c → contains (count_from (suc first) k) j ≡ false → (c || contains (count_from (suc first) k) j) ≡ false
    go true e rest = let same = eqb-true j first e in absurd (omega (arith, same, h))
    go false e rest = rest

-- ---- bit after bit

-- the values of the bits below this number
pub record ArePlain (nets driven : List Bool) (b : ℕ) (values : List Bit4) : Type 0 where
  pub count : length values ≡ b
  pub at : (j : ℕ) → j < b → get_or values j X ≡ plain_value (flag_at nets j) (flag_at driven j)

pub none_plain : (nets driven : List Bool) → ArePlain nets driven 0 []
none_plain nets driven = record { count = refl; at = λ j h. absurd (omega (arith, h)) }

pub plain_more : (nets driven : List Bool) (b : ℕ) (values : List Bit4) (v : Bit4) → ArePlain nets driven b values → v ≡ plain_value (flag_at nets b) (flag_at driven b) → ArePlain nets driven (b + 1) (values ++ v ∷ [])
plain_more nets driven b values v r is = record { count = long values ∙ ap suc r.count ∙ omega arith; at = λ j h. at j (order_of j b) h }
  where
    long : (vs : List Bit4) → length (vs ++ v ∷ []) ≡ suc (length vs)
    long [] = refl
    long (w ∷ vs) = ap suc (long vs)

    at : (j : ℕ) → (j < b) ⊎ (b ≤ j) → j < b + 1 → get_or (values ++ v ∷ []) j X ≡ plain_value (flag_at nets j) (flag_at driven j)
    at j (inl l) h = at_before values v j (let c = r.count in omega (arith, l, c)) ∙ r.at j l
    at j (inr l) h =
        let same : j ≡ b = omega (arith, l, h) in at_last values v j (same ∙ sym r.count) ∙ is ∙ ap (λ k. plain_value (flag_at nets k) (flag_at driven k)) (sym same)

-- flagged in both
abbrev in_both : List Bool → List Bool → ℕ → Bool
in_both nets driven b = flag_at nets b && flag_at driven b

pub all_plain : (nets driven : List Bool) (values : List Bit4) → ArePlain nets driven (length nets) values → state_of values ≡ x_values (flagged nets driven) (idle_by nets)
all_plain nets driven values r = fun_ext (λ j. at j (order_of j (length nets)) ∙ sym (x_at (flagged nets driven) (idle_by nets) j))
  where
    cases : (x y : Bool) → plain_value x y ≡ (if x && y then X else (if x then Z else X))
    cases true true = refl
    cases true false = refl
    cases false true = refl
    cases false false = refl

    at : (j : ℕ) → (j < length nets) ⊎ (length nets ≤ j) → state_of values j ≡ (if contains (flagged nets driven) j then X else idle_by nets j)
    at j (inl l) =
        r.at j l ∙ cases (flag_at nets j) (flag_at driven j)
        ∙ sym (ap (λ c. if c then X else idle_by nets j) (filter_has (in_both nets driven) (count_from 0 (length nets)) j ∙ ap (λ c. c && in_both nets driven j) (count_has (length nets) 0 j (omega arith) (omega (arith, l)))))
    at j (inr l) =
        beyond values j X (let c = r.count in omega (arith, l, c))
        ∙ sym (ap (λ c. if c then X else idle_by nets j) (filter_has (in_both nets driven) (count_from 0 (length nets)) j ∙ ap (λ c. c && in_both nets driven j) (count_not (length nets) 0 j (omega (arith, l)))) ∙ ap (λ c. if c then Z else X) (beyond nets j false l))
