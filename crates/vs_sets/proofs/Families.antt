-- Tables of sets as families.
use Rattle.std.proofs.Common.{◌≡◌, ℕ, zero, suc, ◌+◌, ◌-◌, ◌<◌, ◌≤◌, ◌≢◌, Bool, true, false, List, [], ◌∷◌, length, map, drop, get_or, set, Option, Some, None, refl, sym, ap, ◌∙◌, arith, get_or-set_other, get_or-set_same, ◌⊎◌, inl, inr}
use Rattle.std.specs.Prelude.{◌||◌, ◌==◌, option_map, if◌then◌else◌}
use mathlib.Core.Path.{fun_ext}
use Rattle.std.proofs.lemmas.List.{drop_more}
use Rattle.std.proofs.lemmas.Bool.{cases_Bool, cond-true, cond-false}
use Rattle.std.proofs.lemmas.Bool.Decides.{nat_tests}
use Rattle.vs_net.specs.Network.{put}
use Rattle.vs_design.specs.Sets.{Set4, union}
use Rattle.vs_design.specs.Lifted.{Family}
use Rattle.vs_design.specs.LiftedBodies.{put_each, widen}
use Rattle.vs_design.specs.Footprints.{contains}
use Rattle.vs_design.specs.Values.{count_from}
use Rattle.vs_sets.specs.Tables.{beyond, family_of, bits_from}

pub same_or_other : (c b : ℕ) → (((c == b) ≡ true) × (c ≡ b)) ⊎ (((c == b) ≡ false) × (c ≢ b))
same_or_other c b = at (c == b) refl where
  at : (k : Bool) → (c == b) ≡ k → (((c == b) ≡ true) × (c ≡ b)) ⊎ (((c == b) ≡ false) × (c ≢ b))
  at true e = inl (e, grind (arith, nat_tests, e))
  at false e = inr (e, λ h. grind (arith, nat_tests, e, h))

pub put_family : (t : List Set4) (b : ℕ) (s : Set4) → b < length t → family_of (set t b s) ≡ put (family_of t) b s
put_family t b s h = fun_ext (λ c. at c (same_or_other c b)) where
  at : (c : ℕ) → (((c == b) ≡ true) × (c ≡ b)) ⊎ (((c == b) ≡ false) × (c ≢ b)) → get_or (set t b s) c beyond ≡ (if c == b then s else get_or t c beyond)
  at c (inl e) = rw (e.0, e.1) (get_or-set_same t b s beyond h)
  at c (inr e) = rw e.0 (get_or-set_other t b c s beyond e.1)

-- ---- runs of bits

pub run_step : (t : List Set4) (first k : ℕ) (sets : List Set4) (x : Set4) → k < length sets → first + k < length t → x ≡ get_or sets k x
    → put_each (map Some (count_from (first + (k + 1)) (length sets - (k + 1)))) (drop (k + 1) sets) (family_of (set t (first + k) x))
    ≡ put_each (map Some (count_from (first + k) (length sets - k))) (drop k sets) (family_of t)
run_step t first k sets x h inside is =
    let count : length sets - k ≡ suc (length sets - (k + 1)) = omega arith in
    let on : first + (k + 1) ≡ suc (first + k) = omega arith in
    let left = length sets - (k + 1) in
    let f = put_family t (first + k) x inside in
    let here : get_or sets k x ≡ x = sym is in
    let goal_side : put_each (map Some (count_from (first + k) (length sets - k))) (drop k sets) (family_of t) ≡ put_each (map Some (count_from (suc (first + k)) left)) (drop (k + 1) sets) (put (family_of t) (first + k) x) =
    ap (λ n. put_each (map Some (count_from (first + k) n)) (drop k sets) (family_of t)) count
    ∙ ap (λ ss. put_each (map Some (count_from (first + k) (suc left))) ss (family_of t)) (drop_more sets k x h)
    ∙ ap (λ s. put_each (map Some (count_from (suc (first + k)) left)) (drop (k + 1) sets) (put (family_of t) (first + k) s)) here
    in
    ap (λ n. put_each (map Some (count_from n left)) (drop (k + 1) sets) (family_of (set t (first + k) x))) on
    ∙ ap (λ g. put_each (map Some (count_from (suc (first + k)) left)) (drop (k + 1) sets) g) f ∙ sym goal_side

-- ---- places

pub any_default : {A : Type 0} (xs : List A) (k : ℕ) (d e : A) → k < length xs → get_or xs k d ≡ get_or xs k e
any_default [] k d e h = absurd (omega arith)
any_default (y ∷ ys) zero d e h = refl
any_default (y ∷ ys) (suc k) d e h = any_default ys k d e (omega arith)

-- one place more: where there is one its bit is written
pub place_step : (first : ℕ) (ps : List (Option ℕ)) (sets : List Set4) (k : ℕ) (f : Family) → k < length ps → k < length sets
    → (p : Option ℕ) → p ≡ get_or ps k None
    → put_each (bits_from first (drop k ps)) (drop k sets) f
    ≡ put_each (option_map (λ n. first + n) p ∷ bits_from first (drop (k + 1) ps)) (get_or sets k beyond ∷ drop (k + 1) sets) f
place_step first ps sets k f h i p e =
    ap (λ qs. put_each (bits_from first qs) (drop k sets) f) (drop_more ps k None h)
    ∙ ap (λ ss. put_each (bits_from first (get_or ps k None ∷ drop (k + 1) ps)) ss f) (drop_more sets k beyond i)
    ∙ ap (λ q. put_each (option_map (λ n. first + n) q ∷ bits_from first (drop (k + 1) ps)) (get_or sets k beyond ∷ drop (k + 1) sets) f) (sym e)

pub place_none : (first : ℕ) (ps : List (Option ℕ)) (sets : List Set4) (k : ℕ) (t : List Set4) → k < length ps → k < length sets → get_or ps k None ≡ None
    → put_each (bits_from first (drop (k + 1) ps)) (drop (k + 1) sets) (family_of t) ≡ put_each (bits_from first (drop k ps)) (drop k sets) (family_of t)
place_none first ps sets k t h i e = sym (place_step first ps sets k (family_of t) h i None (sym e))

pub place_some : (first : ℕ) (ps : List (Option ℕ)) (sets : List Set4) (k n : ℕ) (t : List Set4) (x : Set4) → k < length ps → k < length sets → get_or ps k None ≡ Some n
    → first + n < length t → x ≡ get_or sets k x
    → put_each (bits_from first (drop (k + 1) ps)) (drop (k + 1) sets) (family_of (set t (first + n) x)) ≡ put_each (bits_from first (drop k ps)) (drop k sets) (family_of t)
place_some first ps sets k n t x h i e inside is =
    ap (λ g. put_each (bits_from first (drop (k + 1) ps)) (drop (k + 1) sets) g) (put_family t (first + n) x inside)
    ∙ ap (λ s. put_each (bits_from first (drop (k + 1) ps)) (drop (k + 1) sets) (put (family_of t) (first + n) s)) (is ∙ any_default sets k x beyond i)
    ∙ sym (place_step first ps sets k (family_of t) h i (Some n) (sym e))

-- ---- wider sets

pub equal_test : (b : ℕ) → (b == b) ≡ true
equal_test b = grind (arith, nat_tests)

other_test : (b c : ℕ) → b ≢ c → (b == c) ≡ false
other_test b c h = grind (arith, nat_tests, h)

pub count_has : (first n c : ℕ) → first ≤ c → c < first + n → contains (count_from first n) c ≡ true
count_has first zero c h k = absurd (omega arith)
count_has first (suc n) c h k = at (same_or_other c first) (λ e. count_has (suc first) n c (omega (arith, e)) (omega arith)) where
  at : (((c == first) ≡ true) × (c ≡ first)) ⊎ (((c == first) ≡ false) × (c ≢ first)) → (c ≢ first → contains (count_from (suc first) n) c ≡ true) → ((c == first) || contains (count_from (suc first) n) c) ≡ true
  at (inl e) rest = ap (λ b. b || contains (count_from (suc first) n) c) (e.0)
  at (inr e) rest = ap (λ b. b || contains (count_from (suc first) n) c) (e.0) ∙ rest e.1

pub count_lacks : (first n c : ℕ) → (c < first) ⊎ (first + n ≤ c) → contains (count_from first n) c ≡ false
count_lacks first zero c h = refl
count_lacks first (suc n) c h =
    let ne : c ≢ first = off h in
    ap (λ b. b || contains (count_from (suc first) n) c) (other_test c first ne) ∙ count_lacks (suc first) n c (next h)
  where
    off : (c < first) ⊎ (first + suc n ≤ c) → c ≢ first
    off (inl k) = λ e. absurd (omega (arith, k, e))
    off (inr k) = λ e. absurd (omega (arith, k, e))

    next : (c < first) ⊎ (first + suc n ≤ c) → (c < suc first) ⊎ (suc first + n ≤ c)
    next (inl k) = inl (omega (arith, k))
    next (inr k) = inr (omega (arith, k))

where_is : (first n c : ℕ) → ((first ≤ c) × (c < first + n)) ⊎ ((c < first) ⊎ (first + n ≤ c))
where_is first n c = elim (Rattle.std.proofs.lemmas.Bool.cases_lt c first) [ inl h ↦ inr (inl h) | inr h ↦ elim (Rattle.std.proofs.lemmas.Bool.cases_lt c (first + n)) [ inl k ↦ inl (h, k) | inr k ↦ inr (inr k) ] ]

pub widen_step : (t : List Set4) (first n b : ℕ) (s y : Set4) (f : Family) → b ≡ first + n → b < length t → family_of t ≡ widen (count_from first n) s f
    → y ≡ union (get_or t b beyond) s → family_of (set t b y) ≡ widen (count_from first (n + 1)) s f
widen_step t first n b s y f place inside h is = put_family t b y inside ∙ fun_ext (λ c. at c (same_or_other c b)) where
  at : (c : ℕ) → (((c == b) ≡ true) × (c ≡ b)) ⊎ (((c == b) ≡ false) × (c ≢ b)) → put (family_of t) b y c ≡ widen (count_from first (n + 1)) s f c
  at c (inl e) =
      let old : family_of t c ≡ f c = ap (λ g. g c) h ∙ cond-false _ _ _ (count_lacks first n c (inr (omega (arith, place, e.1)))) in
      let has : contains (count_from first (n + 1)) c ≡ true = count_has first (n + 1) c (omega (arith, place, e.1)) (omega (arith, place, e.1)) in
      cond-true (c == b) _ _ e.0 ∙ is ∙ ap (λ d. union (get_or t d beyond) s) (sym e.1) ∙ ap (λ z. union z s) old ∙ sym (cond-true _ _ _ has)
  at c (inr e) = cond-false (c == b) _ _ e.0 ∙ ap (λ g. g c) h ∙ ap (λ k. if k then union (f c) s else f c) (same (where_is first n c)) where
    same : ((first ≤ c) × (c < first + n)) ⊎ ((c < first) ⊎ (first + n ≤ c)) → contains (count_from first n) c ≡ contains (count_from first (n + 1)) c
    same (inl k) = count_has first n c k.0 k.1 ∙ sym (count_has first (n + 1) c k.0 (omega (arith, k.1)))
    same (inr (inl k)) = count_lacks first n c (inl k) ∙ sym (count_lacks first (n + 1) c (inl k))
    same (inr (inr k)) = count_lacks first n c (inr k) ∙ sym (count_lacks first (n + 1) c (inr (omega (arith, k, place, e.1))))
