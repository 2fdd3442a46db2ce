-- Tests of sets and of lists of bits.
use Rattle.std.proofs.Common.{◌≡◌, ℕ, suc, Bool, true, false, List, [], ◌∷◌, ◌||◌, ◌&&◌, ◌==◌, eqb-true, eq-eqb, not, inl, inr, refl, sym, ◌∙◌, subst, Some}
use Rattle.std.specs.Prelude.{slice_get}
use Rattle.std.specs.List.{list_any, list_all}
use Rattle.vs_four.specs.declared.Bit4.{Bit4}
use Rattle.vs_four.specs.declared.Bit4.TheVariants.{Zero, One, X, Z}
use Rattle.vs_net.specs.Lawful.{IsKnown, IsUnknown}
use Rattle.vs_design.specs.Expressions.{Signal}
use Rattle.vs_design.specs.Values.{bits_of_signal}
use Rattle.vs_design.specs.Footprints.{contains, signals_bits}
use Rattle.vs_design.specs.Sets.{Set4, has, is_only_x, is_unknown_set, is_known_set}
use Rattle.vs_design.proofs.Lists.{by_test, and_both, or_left, or_right, contains-append}

pub only_x_is : (s : Set4) (v : Bit4) → is_only_x s ≡ true → has s v ≡ true → v ≡ X
only_x_is s Zero h k = absurd (go s.zero? s.one? (s.x? && not s.z?) k h)
  where
    go : (a b r : Bool) → a ≡ true → ((not a && not b) && r) ≡ true → ⊥
    go true b r h k = cc
    go false b r h k = cc
only_x_is s One h k = absurd (go s.zero? s.one? (s.x? && not s.z?) k h)
  where
    go : (a b r : Bool) → b ≡ true → ((not a && not b) && r) ≡ true → ⊥
    go true b r h k = cc
    go false true r h k = cc
    go false false r h k = cc
only_x_is s X h k = refl
only_x_is s Z h k = absurd (go (not s.zero? && not s.one?) s.x? s.z? k h)
  where
    go : (r a b : Bool) → b ≡ true → (r && (a && not b)) ≡ true → ⊥
    go false a b h k = cc
    go true false b h k = cc
    go true true true h k = cc
    go true true false h k = cc

pub only_x_has : (s : Set4) → is_only_x s ≡ true → has s X ≡ true
only_x_has s h = (and_both s.x? (not s.z?) (and_both (not s.zero? && not s.one?) (s.x? && not s.z?) h).1).0

pub unknown_set : (s : Set4) (v : Bit4) → is_unknown_set s ≡ true → has s v ≡ true → IsUnknown v
unknown_set s X h k = inl refl
unknown_set s Z h k = inr refl
unknown_set s Zero h k = absurd (go s.zero? s.one? k h)
  where
    go : (a b : Bool) → a ≡ true → (not a && not b) ≡ true → ⊥
    go true b h k = cc
    go false b h k = cc
unknown_set s One h k = absurd (go s.zero? s.one? k h)
  where
    go : (a b : Bool) → b ≡ true → (not a && not b) ≡ true → ⊥
    go true b h k = cc
    go false true h k = cc
    go false false h k = cc

pub known_set_is : (s : Set4) (v : Bit4) → is_known_set s ≡ true → has s v ≡ true → IsKnown v
known_set_is s Zero h k = inl refl
known_set_is s One h k = inr refl
known_set_is s X h k = absurd (go s.x? s.z? k h)
  where
    go : (a b : Bool) → a ≡ true → (not a && not b) ≡ true → ⊥
    go true b h k = cc
    go false b h k = cc
known_set_is s Z h k = absurd (go s.x? s.z? k h)
  where
    go : (a b : Bool) → b ≡ true → (not a && not b) ≡ true → ⊥
    go true b h k = cc
    go false true h k = cc
    go false false h k = cc

pub all_of_bits : (test : ℕ → Bool) (bs : List ℕ) (b : ℕ) → list_all test bs ≡ true → contains bs b ≡ true → test b ≡ true
all_of_bits test [] b h k = cc
all_of_bits test (c ∷ bs) b h k =
    let p = and_both (test c) (list_all test bs) h in
    by_test (b == c)
    (λ e. subst (λ x. test x ≡ true) (sym (eqb-true b c e)) p.0)
    (λ e. all_of_bits test bs b p.1 (subst (λ x. (x || contains bs b) ≡ true) e k))

pub any_bit : (test : ℕ → Bool) (bs : List ℕ) → list_any test bs ≡ true → (b : ℕ) × (contains bs b ≡ true) × (test b ≡ true)
any_bit test [] h = cc
any_bit test (c ∷ bs) h =
    by_test (test c)
    (λ e. (c, or_left (c == c) (contains bs c) (eq-eqb c c refl), e))
    (λ e. let r = any_bit test bs (subst (λ x. (x || list_any test bs) ≡ true) e h) in (r.0, or_right (r.0 == c) (contains bs r.0) r.1, r.2))

pub signal_with : (ss : List Signal) (b : ℕ) → contains (signals_bits ss) b ≡ true → (i : ℕ) × (s : Signal) × (slice_get ss i ≡ Some s) × (contains (bits_of_signal s) b ≡ true)
signal_with [] b h = cc
signal_with (s ∷ ss) b h =
    by_test (contains (bits_of_signal s) b)
    (λ e. (0, s, refl, e))
    (λ e. let r = signal_with ss b (subst (λ c. (c || contains (signals_bits ss) b) ≡ true) e (sym (contains-append (bits_of_signal s) (signals_bits ss) b) ∙ h)) in (suc r.0, r.1, r.2, r.3))

pub some_is : {A : Type 0} (x y : A) → Some x ≡ Some y → x ≡ y
some_is x y e = cc
