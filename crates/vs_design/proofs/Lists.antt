-- Lists of bits.
use Rattle.std.proofs.Common.{◌≡◌, ℕ, zero, suc, ◌+◌, Bool, true, false, List, [], ◌∷◌, ◌++◌, ◌||◌, ◌&&◌, ◌==◌, refl, sym, ap, ◌∙◌, subst, eqb-true, eq-eqb, get_or, map, add-zero, arith, not}
use Rattle.std.specs.List.{filter}
use Rattle.std.proofs.lemmas.List.Folds.{list_any-append}
use Rattle.vs_four.specs.declared.Bit4.TheVariants.{X}
use Rattle.vs_net.specs.Network.{State}
use Rattle.vs_design.specs.Values.{count_from}
use Rattle.vs_design.specs.Footprints.{contains, without}
use Rattle.vs_design.specs.TreeLaws.{Agree}

pub by_test : {P : Type 0} (b : Bool) → (b ≡ true → P) → (b ≡ false → P) → P
by_test true f g = f refl
by_test false f g = g refl

pub contains-append : (xs ys : List ℕ) (b : ℕ) → contains (xs ++ ys) b ≡ (contains xs b || contains ys b)
contains-append xs ys b = list_any-append (λ c. b == c) xs ys

pub or_left : (a b : Bool) → a ≡ true → (a || b) ≡ true
or_left true b h = refl
or_left false b h = cc

pub or_right : (a b : Bool) → b ≡ true → (a || b) ≡ true
or_right true b h = refl
or_right false b h = h

pub or_neither : (a b : Bool) → (a || b) ≡ false → (a ≡ false) × (b ≡ false)
or_neither true b h = cc
or_neither false b h = (refl, h)

pub or_false : (a b : Bool) → a ≡ false → b ≡ false → (a || b) ≡ false
or_false true b h k = h
or_false false b h k = k

pub and_both : (a b : Bool) → (a && b) ≡ true → (a ≡ true) × (b ≡ true)
and_both true b h = (refl, h)
and_both false b h = cc

pub contains-left : (xs ys : List ℕ) (b : ℕ) → contains xs b ≡ true → contains (xs ++ ys) b ≡ true
contains-left xs ys b h = contains-append xs ys b ∙ or_left (contains xs b) (contains ys b) h

pub contains-right : (xs ys : List ℕ) (b : ℕ) → contains ys b ≡ true → contains (xs ++ ys) b ≡ true
contains-right xs ys b h = contains-append xs ys b ∙ or_right (contains xs b) (contains ys b) h

pub contains_head : (b : ℕ) (bs : List ℕ) → contains (b ∷ bs) b ≡ true
contains_head b bs = or_left (b == b) (contains bs b) (eq-eqb b b refl)

pub agree-left : (xs ys : List ℕ) (s t : State) → Agree (xs ++ ys) s t → Agree xs s t
agree-left xs ys s t h b c = h b (contains-left xs ys b c)

pub agree-right : (xs ys : List ℕ) (s t : State) → Agree (xs ++ ys) s t → Agree ys s t
agree-right xs ys s t h b c = h b (contains-right xs ys b c)

pub read_agree : (bs : List ℕ) (s t : State) → Agree bs s t → map s bs ≡ map t bs
read_agree [] s t h = refl
read_agree (b ∷ bs) s t h =
    let head : s b ≡ t b = h b (contains_head b bs) in
    let rest : map s bs ≡ map t bs = read_agree bs s t (λ c k. h c (or_right (c == b) (contains bs c) k)) in
    cc

-- one bit of a signal
pub nth_agree : (s t : State) (f n : ℕ) (len k : ℕ) → k ≡ f + n → s k ≡ t k → get_or (map s (count_from f len)) n X ≡ get_or (map t (count_from f len)) n X
nth_agree s t f n zero k e h = refl
nth_agree s t f zero (suc len) k e h = subst (λ m. s m ≡ t m) (e ∙ add-zero f) h
nth_agree s t f (suc n) (suc len) k e h = nth_agree s t (suc f) n len k (omega arith) h

and_false : (a : Bool) → (a && false) ≡ false
and_false true = refl
and_false false = refl

pub contains_filter : (p : ℕ → Bool) (xs : List ℕ) (b : ℕ) → contains (filter p xs) b ≡ (contains xs b && p b)
contains_filter p [] b = refl
contains_filter p (x ∷ xs) b =
    by_test (p x)
    (λ e. rw e
    (by_test (b == x)
    (λ k. rw k (sym (subst (λ c. p c ≡ true) (sym (eqb-true b x k)) e)))
    (λ k. rw k (contains_filter p xs b))))
    (λ e. rw e
    (by_test (b == x)
    (λ k.
    let pb : p b ≡ false = subst (λ c. p c ≡ false) (sym (eqb-true b x k)) e in
    rw k (contains_filter p xs b ∙ ap (λ c. contains xs b && c) pb ∙ and_false (contains xs b) ∙ sym pb))
    (λ k. rw k (contains_filter p xs b))))

-- two states that agree on these bits, and on others but for these, agree on the others
pub agree_without : (xs ys : List ℕ) (s t : State) → Agree (without xs ys) s t → Agree ys s t → Agree xs s t
agree_without xs ys s t h k b c =
    by_test (contains ys b)
    (λ e. k b e)
    (λ e. h b (contains_filter (λ b. not (contains ys b)) xs b ∙ ap (λ c. c && not (contains ys b)) c ∙ ap not e))
