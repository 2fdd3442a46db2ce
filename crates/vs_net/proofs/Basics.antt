-- Writes and their values.
use Rattle.std.proofs.Common.{◌≡◌, ◌≢◌, ℕ, Bool, true, false, List, [], ◌∷◌, ◌++◌, ◌||◌, if◌then◌else◌, ◌==◌, refl, sym, ap, ◌∙◌, subst, eqb-true, eq-eqb, ne_eqb}
use Rattle.std.proofs.lemmas.Bool.{cond-true, cond-false, both_ways, and_parts}
use Rattle.vs_four.specs.declared.Bit4.{Bit4}
use Rattle.vs_four.specs.declared.Bit4.TheVariants.{Zero, One, X, Z}
use Rattle.vs_four.specs.Tables.{same}
use Rattle.vs_net.specs.Network.{State, Write, put, write_all, is_written, flatten, Update}
use Rattle.vs_net.specs.Queue.{is_held}

pub by_test : {P : Type 0} (b : Bool) → (b ≡ true → P) → (b ≡ false → P) → P
by_test true f g = f refl
by_test false f g = g refl

pub same_number : {P : Type 0} (a b : ℕ) → (a ≡ b → P) → (a ≢ b → P) → P
same_number a b f g = by_test (a == b) (λ e. f (eqb-true a b e)) (λ e. g (λ h. both_ways (a == b) e (eq-eqb a b h)))

pub put-same : {A : Type 0} (f : ℕ → A) (p : ℕ) (x : A) → put f p x p ≡ x
put-same f p x = cond-true (p == p) x (f p) (eq-eqb p p refl)

pub put-other : {A : Type 0} (f : ℕ → A) (p : ℕ) (x : A) (r : ℕ) → r ≢ p → put f p x r ≡ f r
put-other f p x r h = cond-false (r == p) x (f r) (ne_eqb r p h)

pub same_is : (a b : Bit4) → same a b ≡ true → a ≡ b
same_is Zero Zero h = refl
same_is One One h = refl
same_is X X h = refl
same_is Z Z h = refl
same_is Zero One h = cc
same_is Zero X h = cc
same_is Zero Z h = cc
same_is One Zero h = cc
same_is One X h = cc
same_is One Z h = cc
same_is X Zero h = cc
same_is X One h = cc
same_is X Z h = cc
same_is Z Zero h = cc
same_is Z One h = cc
same_is Z X h = cc

-- a bit's value after writes depends on its value before alone
pub write_all_at : (ws : List Write) (s t : State) (b : ℕ) → s b ≡ t b → write_all s ws b ≡ write_all t ws b
unfolding write_all
write_all_at [] s t b e = e
write_all_at (w ∷ ws) s t b e = write_all_at ws (put s w.bit w.value) (put t w.bit w.value) b (ap (λ v. if b == w.bit then w.value else v) e)

pub write_all_covered : (ws : List Write) (s t : State) (b : ℕ) → is_written ws b ≡ true → write_all s ws b ≡ write_all t ws b
unfolding write_all is_written
write_all_covered [] s t b h = cc
write_all_covered (w ∷ ws) s t b h =
    by_test (b == w.bit)
    (λ e. write_all_at ws (put s w.bit w.value) (put t w.bit w.value) b (cond-true (b == w.bit) w.value (s b) e ∙ sym (cond-true (b == w.bit) w.value (t b) e)))
    (λ e. write_all_covered ws (put s w.bit w.value) (put t w.bit w.value) b (subst (λ c. (c || is_written ws b) ≡ true) e h))

pub write_all_other : (ws : List Write) (s : State) (b : ℕ) → is_written ws b ≡ false → write_all s ws b ≡ s b
unfolding write_all is_written
write_all_other [] s b h = refl
write_all_other (w ∷ ws) s b h =
    by_test (b == w.bit)
    (λ e. let c = subst (λ c. (c || is_written ws b) ≡ false) e h in cc)
    (λ e. write_all_other ws (put s w.bit w.value) b (subst (λ c. (c || is_written ws b) ≡ false) e h) ∙ cond-false (b == w.bit) w.value (s b) e)

-- writes that are made again change nothing
pub write_all_again : (ws : List Write) (s : State) (b : ℕ) → write_all (write_all s ws) ws b ≡ write_all s ws b
write_all_again ws s b =
    by_test (is_written ws b)
    (λ e. write_all_covered ws (write_all s ws) s b e)
    (λ e. write_all_other ws (write_all s ws) b e)

pub write_all-append : (xs ys : List Write) (s : State) → write_all s (xs ++ ys) ≡ write_all (write_all s xs) ys
unfolding write_all
write_all-append [] ys s = refl
write_all-append (x ∷ xs) ys s = write_all-append xs ys (put s x.bit x.value)

pub is_written-append : (xs ys : List Write) (b : ℕ) → is_written xs b ≡ true → is_written (xs ++ ys) b ≡ true
unfolding is_written
is_written-append [] ys b h = cc
is_written-append (x ∷ xs) ys b h =
    by_test (b == x.bit)
    (λ e. subst (λ c. (c || is_written (xs ++ ys) b) ≡ true) (sym e) refl)
    (λ e. subst (λ c. (c || is_written (xs ++ ys) b) ≡ true) (sym e) (is_written-append xs ys b (subst (λ c. (c || is_written xs b) ≡ true) e h)))

pub is_written-append_right : (xs ys : List Write) (b : ℕ) → is_written ys b ≡ true → is_written (xs ++ ys) b ≡ true
unfolding is_written
is_written-append_right [] ys b h = h
is_written-append_right (x ∷ xs) ys b h =
    by_test (b == x.bit)
    (λ e. subst (λ c. (c || is_written (xs ++ ys) b) ≡ true) (sym e) refl)
    (λ e. subst (λ c. (c || is_written (xs ++ ys) b) ≡ true) (sym e) (is_written-append_right xs ys b h))

-- writes of what is there change nothing
pub held_stays : (ws : List Write) (s : State) (b : ℕ) → is_held s ws ≡ true → write_all s ws b ≡ s b
unfolding is_held write_all
held_stays [] s b h = refl
held_stays (w ∷ ws) s b h =
    let parts = and_parts (same (s w.bit) w.value) (is_held s ws) h in
    write_all_at ws (put s w.bit w.value) s b (put_held s w.bit w.value b (same_is (s w.bit) w.value parts.0)) ∙ held_stays ws s b parts.1
  where
    put_held : (s : State) (p : ℕ) (x : Bit4) (b : ℕ) → s p ≡ x → put s p x b ≡ s b
    put_held s p x b e = same_number b p
        (λ h. subst (λ (c : ℕ). put s p x c ≡ s c) (sym h) (put-same s p x ∙ sym e))
        (λ h. put-other s p x b h)

pub is_written-one : (b : ℕ) (v : Bit4) → is_written (record { bit = b; value = v } ∷ []) b ≡ true
unfolding is_written
is_written-one b v = subst (λ c. (c || false) ≡ true) (sym (eq-eqb b b refl)) refl

pub write_none : (s : State) (b : ℕ) → write_all s (flatten []) b ≡ s b
unfolding write_all flatten
write_none s b = refl

pub none_written : (b : ℕ) → is_written (flatten []) b ≡ true → ⊥
unfolding flatten is_written
none_written b h = cc

pub unwritten_none : (b : ℕ) → is_written [] b ≡ false
unfolding is_written
unwritten_none b = refl

pub flat_cons : (u : Update) (us : List Update) → flatten (u ∷ us) ≡ u ++ flatten us
unfolding flatten
flat_cons u us = refl
