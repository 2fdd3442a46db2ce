-- The bits that writes give a value are those that they leave the same in two states.
use Rattle.std.proofs.Common.{◌≡◌, ℕ, ◌+◌, ◌<◌, Bool, true, false, List, [], ◌∷◌, ◌++◌, ◌||◌, ◌==◌, cond, length, take, get_or, refl, sym, ap, ap₂, ◌∙◌, eq-eqb, append_assoc, append-nil}
use Rattle.std.specs.Prelude.{All}
use Rattle.std.specs.List.{filter}
use Rattle.std.proofs.lemmas.List.Elements.{filter_more}
use Rattle.vs_four.specs.declared.Bit4.TheVariants.{Zero}
use Rattle.vs_four.specs.Tables.{same as are_same}
use Rattle.vs_net.specs.Network.{State, Write, is_written, write_all}
use Rattle.vs_design.specs.Footprints.{contains}
use Rattle.vs_zero.specs.States.{unknown}
use Rattle.vs_zero.proofs.Valued.{same_self, write_all_covered, write_all_other, within_all}

-- one more of these numbers is looked at
kept_more : (t : ℕ → Bool) (old now new bits : List ℕ) (i : ℕ) → i < length bits → now ≡ old ++ filter t (take i bits)
    → new ≡ now ++ cond (t (get_or bits i 0)) (get_or bits i 0 ∷ []) [] → new ≡ old ++ filter t (take (i + 1) bits)
kept_more t old now new bits i l so_far next =
    let last : List ℕ = cond (t (get_or bits i 0)) (get_or bits i 0 ∷ []) [] in
    next ∙ ap (λ (xs : List ℕ). xs ++ last) so_far ∙ append_assoc old (filter t (take i bits)) last ∙ ap (λ (xs : List ℕ). old ++ xs) (sym (filter_more t bits i 0 l))

pub kept : (t : ℕ → Bool) (old now new bits : List ℕ) (i : ℕ) → i < length bits → now ≡ old ++ filter t (take i bits) → t (get_or bits i 0) ≡ true → new ≡ now ++ get_or bits i 0 ∷ []
    → new ≡ old ++ filter t (take (i + 1) bits)
kept t old now new bits i l so_far test next =
    kept_more t old now new bits i l so_far (next ∙ ap (λ (k : Bool). now ++ cond k (get_or bits i 0 ∷ []) []) (sym test))

pub dropped : (t : ℕ → Bool) (old now new bits : List ℕ) (i : ℕ) → i < length bits → now ≡ old ++ filter t (take i bits) → t (get_or bits i 0) ≡ false → new ≡ now → new ≡ old ++ filter t (take (i + 1) bits)
dropped t old now new bits i l so_far test same =
    kept_more t old now new bits i l so_far (same ∙ sym (append-nil now) ∙ ap (λ (k : Bool). now ++ cond k (get_or bits i 0 ∷ []) []) (sym test))

filter_alike : (t u : ℕ → Bool) (bits : List ℕ) → ((b : ℕ) → contains bits b ≡ true → t b ≡ u b) → filter t bits ≡ filter u bits
filter_alike t u [] h = refl
filter_alike t u (c ∷ bits) h =
    ap₂ (λ (k : Bool) (bs : List ℕ). cond k (c ∷ bs) bs) (h c (ap (λ k. k || contains bits c) (eq-eqb c c refl)))
    (filter_alike t u bits (λ b m. h b (ap (λ k. (b == c) || k) m ∙ or_true (b == c))))
  where
    or_true : (k : Bool) → (k || true) ≡ true
    or_true true = refl
    or_true false = refl

pub same_are_written : (bits : List ℕ) (ws : List Write) (n : ℕ) (x z : State) → All (λ b. b < n) bits → ((b : ℕ) → b < n → z b ≡ Zero) → x ≡ unknown
    → filter (λ b. are_same (write_all x ws b) (write_all z ws b)) bits ≡ filter (is_written ws) bits
same_are_written bits ws n x z within zeros e = filter_alike (λ b. are_same (write_all x ws b) (write_all z ws b)) (is_written ws) bits (λ b m. at b m (is_written ws b) refl) where
  at : (b : ℕ) → contains bits b ≡ true → (w : Bool) → is_written ws b ≡ w → are_same (write_all x ws b) (write_all z ws b) ≡ is_written ws b
  at b m true w = ap (are_same (write_all x ws b)) (write_all_covered ws z x b w) ∙ same_self (write_all x ws b) ∙ sym w
  at b m false w = ap₂ are_same (write_all_other ws x b w ∙ ap (λ s. s b) e) (write_all_other ws z b w ∙ zeros b (within_all bits n b within m)) ∙ sym w
