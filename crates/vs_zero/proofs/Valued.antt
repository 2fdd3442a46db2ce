-- Values that are the same in two states, and the sets with them.
use Rattle.std.proofs.Common.{◌≡◌, ℕ, zero, suc, ◌+◌, ◌<◌, ◌≢◌, Bool, true, false, List, [], ◌∷◌, ◌++◌, length, take, get_or, set, refl, sym, ap, ap₂, ◌∙◌, subst, arith, ◌⊎◌, inl, inr}
use Rattle.std.specs.Prelude.{◌||◌, ◌==◌, if◌then◌else◌, All}
use mathlib.Core.Path.{fun_ext}
use Rattle.std.proofs.lemmas.Bool.{cond-true, cond-false}
use Rattle.vs_four.specs.declared.Bit4.{Bit4}
use Rattle.vs_four.specs.declared.Bit4.TheVariants.{Zero, One, X, Z}
use Rattle.vs_four.specs.Tables.{same as are_same}
use Rattle.vs_net.specs.Network.{State, Write, put, is_written, write_all, flatten}
use Rattle.vs_design.specs.Bodies.{last_of_each}
use Rattle.vs_design.specs.Fits.{fits_statement}
use Rattle.vs_design.specs.Footprints.{contains}
use Rattle.vs_design.specs.Lifted.{Family}
use Rattle.vs_design.specs.Resets.{branch_writes, branch_updates}
use Rattle.vs_design.specs.Sets.{Set4, only, union}
use Rattle.vs_design.specs.Statements.{Statement}
use Rattle.vs_design.specs.TreeLaws.{BodyWritesWithin}
use Rattle.vs_sets.specs.Branches.{replaced}
use Rattle.vs_sets.specs.StatementParts.{Covers}
use Rattle.vs_zero.specs.Constants.{branch_effects}
use Rattle.vs_zero.specs.States.{state_of, unknown}
use Rattle.vs_zero.specs.Values.{joined, with_updates, IsZero, replaced_by}
use Rattle.vs_sets.proofs.BranchSteps.{union_twice}
use Rattle.vs_sets.proofs.Families.{same_or_other}
use Rattle.vs_zero.proofs.Writing.{put_state}
use Rattle.vs_sets.proofs.BranchSteps.{or_false, or_true, contains_more}
use Rattle.vs_reads.proofs.Tests.{by_test}

-- ---- tables of values

pub state_step : (t : List Bit4) (bits : List ℕ) (i : ℕ) (x : Bit4) (f g : State) → i < length bits → get_or bits i 0 < length t → state_of t ≡ replaced_by (take i bits) f g
    → x ≡ f (get_or bits i 0) → state_of (set t (get_or bits i 0) x) ≡ replaced_by (take (i + 1) bits) f g
state_step t bits i x f g inside within h is = put_state t (get_or bits i 0) x within ∙ fun_ext (λ c. at c (same_or_other c (get_or bits i 0))) where
  at : (c : ℕ) → (((c == get_or bits i 0) ≡ true) × (c ≡ get_or bits i 0)) ⊎ (((c == get_or bits i 0) ≡ false) × (c ≢ get_or bits i 0)) → put (state_of t) (get_or bits i 0) x c ≡ replaced_by (take (i + 1) bits) f g c
  at c (inl e) =
      let has : contains (take (i + 1) bits) c ≡ true = contains_more bits i c inside ∙ ap (λ b. contains (take i bits) c || b) e.0 ∙ or_true (contains (take i bits) c) in
      cond-true (c == get_or bits i 0) _ _ e.0 ∙ is ∙ ap f (sym e.1) ∙ sym (cond-true _ _ _ has)
  at c (inr e) =
      let same : contains (take (i + 1) bits) c ≡ contains (take i bits) c = contains_more bits i c inside ∙ ap (λ b. contains (take i bits) c || b) e.0 ∙ or_false (contains (take i bits) c) in
      cond-false (c == get_or bits i 0) _ _ e.0 ∙ ap (λ k. k c) h ∙ ap (λ b. if b then f c else g c) (sym same)

-- ---- joined twice

joined_again : (v w : Bit4) (s : Set4) → joined v w (joined v w s) ≡ joined v w s
joined_again v w s = at (are_same v w) where
  at : (k : Bool) → (if k then union (only v) (if k then union (only v) s else s) else (if k then union (only v) s else s)) ≡ (if k then union (only v) s else s)
  at true = union_twice (only v) s
  at false = refl

pub joined_here : (bits : List ℕ) (b : ℕ) (x z : State) (g : Family) → joined (x b) (z b) (replaced bits (λ b. joined (x b) (z b) (g b)) g b) ≡ joined (x b) (z b) (g b)
joined_here bits b x z g = at (contains bits b) where
  at : (k : Bool) → joined (x b) (z b) (if k then joined (x b) (z b) (g b) else g b) ≡ joined (x b) (z b) (g b)
  at true = joined_again (x b) (z b) (g b)
  at false = refl

-- ---- what is written

pub same_self : (v : Bit4) → are_same v v ≡ true
same_self Zero = refl
same_self One = refl
same_self X = refl
same_self Z = refl

write_all_at : (ws : List Write) (s t : State) (b : ℕ) → s b ≡ t b → write_all s ws b ≡ write_all t ws b
unfolding write_all
write_all_at [] s t b e = e
write_all_at (w ∷ ws) s t b e = write_all_at ws (put s w.bit w.value) (put t w.bit w.value) b (ap (λ v. if b == w.bit then w.value else v) e)

pub write_all_covered : (ws : List Write) (s t : State) (b : ℕ) → is_written ws b ≡ true → write_all s ws b ≡ write_all t ws b
unfolding write_all is_written
write_all_covered [] s t b h = cc
write_all_covered (w ∷ ws) s t b h =
    by_test (b == w.bit)
    (λ e. write_all_at ws (put s w.bit w.value) (put t w.bit w.value) b (cond-true (b == w.bit) w.value (s b) e ∙ sym (cond-true (b == w.bit) w.value (t b) e)))
    (λ e. write_all_covered ws (put s w.bit w.value) (put t w.bit w.value) b (subst (λ c. (c || is_written ws b) ≡ true) e h))

pub write_all_other : (ws : List Write) (s : State) (b : ℕ) → is_written ws b ≡ false → write_all s ws b ≡ s b
unfolding write_all is_written
write_all_other [] s b h = refl
write_all_other (w ∷ ws) s b h =
    by_test (b == w.bit)
    (λ e. let c = subst (λ c. (c || is_written ws b) ≡ false) e h in cc)
    (λ e. write_all_other ws (put s w.bit w.value) b (subst (λ c. (c || is_written ws b) ≡ false) e h) ∙ cond-false (b == w.bit) w.value (s b) e)

-- the writes of a branch are covered by these bits
abbrev pub AreCovered : List ℕ → List Write → Type 0
AreCovered bits ws = (b : ℕ) → is_written ws b ≡ true → contains bits b ≡ true

written_either : (xs ys : List Write) (b : ℕ) → is_written (xs ++ ys) b ≡ true → (is_written xs b ≡ true) ⊎ (is_written ys b ≡ true)
unfolding is_written
written_either [] ys b h = inr h
written_either (x ∷ xs) ys b h = go (b == x.bit) (is_written xs b) h (written_either xs ys b)
  where
    go : (t w : Bool) → (t || is_written (xs ++ ys) b) ≡ true → (is_written (xs ++ ys) b ≡ true → (w ≡ true) ⊎ (is_written ys b ≡ true)) → ((t || w) ≡ true) ⊎ (is_written ys b ≡ true)
    go true w k rest = inl refl
    go false w k rest = rest k

pub covered : BodyWritesWithin → (st : Statement) (bits : List ℕ) → fits_statement st ≡ true → Covers bits st → AreCovered bits (flatten (branch_effects st))
unfolding flatten
covered law st bits fit covers b h = covers b (law st fit unknown b (written_either (branch_writes st) (flatten (branch_updates st)) b h))

not_written : (bits : List ℕ) (ws : List Write) (b : ℕ) → AreCovered bits ws → contains bits b ≡ false → is_written ws b ≡ false
not_written bits ws b h k = by_test (is_written ws b) (λ e. absurd (let c = h b e in let z : ⊥ = cc in z)) (λ e. e)

pub within_all : (bits : List ℕ) (n b : ℕ) → All (λ b. b < n) bits → contains bits b ≡ true → b < n
within_all [] n b h k = absurd (let z : ⊥ = cc in z)
within_all (c ∷ bits) n b h k =
    at (same_or_other b c) k (within_all bits n b (λ k d i. h (suc k) d (omega (arith, i))))
  where
    at : (((b == c) ≡ true) × (b ≡ c)) ⊎ (((b == c) ≡ false) × (b ≢ c)) → ((b == c) || contains bits b) ≡ true → (contains bits b ≡ true → b < n) → b < n
    at (inl e) k rest = let l : c < n = h zero 0 (omega arith) in omega (arith, e.1, l)
    at (inr e) k rest = rest (sym (ap (λ q. q || contains bits b) e.0) ∙ k)

-- the sets with the values that a branch gives
pub values_are : (bits : List ℕ) (ws : List Write) (n : ℕ) (x z : State) (g : Family) → AreCovered bits ws → All (λ b. b < n) bits → ((b : ℕ) → b < n → z b ≡ Zero) → x ≡ unknown
    → replaced bits (λ b. joined (write_all x ws b) (write_all z ws b) (g b)) g ≡ (λ b. with_updates ws b (g b))
values_are bits ws n x z g h within zeros e = fun_ext (λ b. at b (contains bits b) refl (is_written ws b) refl) where
  both : (b : ℕ) → is_written ws b ≡ true → are_same (write_all x ws b) (write_all z ws b) ≡ true
  both b w = ap (are_same (write_all x ws b)) (write_all_covered ws z x b w) ∙ same_self (write_all x ws b)

  neither : (b : ℕ) → is_written ws b ≡ false → contains bits b ≡ true → are_same (write_all x ws b) (write_all z ws b) ≡ false
  neither b w c = ap₂ are_same (write_all_other ws x b w ∙ ap (λ s. s b) e) (write_all_other ws z b w ∙ zeros b (within_all bits n b within c))

  at : (b : ℕ) (c : Bool) → contains bits b ≡ c → (w : Bool) → is_written ws b ≡ w → replaced bits (λ b. joined (write_all x ws b) (write_all z ws b) (g b)) g b ≡ with_updates ws b (g b)
  at b true c true w =
      cond-true (contains bits b) _ _ c ∙ cond-true _ _ _ (both b w) ∙ ap (λ v. union (only v) (g b)) (ap (λ s. write_all s ws b) e) ∙ sym (cond-true (is_written ws b) _ _ w)
  at b true c false w = cond-true (contains bits b) _ _ c ∙ cond-false _ _ _ (neither b w c) ∙ sym (cond-false (is_written ws b) _ _ w)
  at b false c w k = cond-false (contains bits b) _ _ c ∙ sym (cond-false (is_written ws b) _ _ (not_written bits ws b h c))

-- the states are as before
pub unknown_again : (bits : List ℕ) (ws : List Write) (x : State) → AreCovered bits ws → x ≡ unknown → replaced_by bits (λ b. X) (write_all x ws) ≡ unknown
unknown_again bits ws x h e = fun_ext (λ b. at b (contains bits b) refl) where
  at : (b : ℕ) (c : Bool) → contains bits b ≡ c → replaced_by bits (λ b. X) (write_all x ws) b ≡ X
  at b true c = cond-true (contains bits b) _ _ c
  at b false c = cond-false (contains bits b) _ _ c ∙ write_all_other ws x b (not_written bits ws b h c) ∙ ap (λ s. s b) e

pub zero_again : (bits : List ℕ) (ws : List Write) (old new : List Bit4) → AreCovered bits ws → IsZero old → length new ≡ length old → state_of new ≡ replaced_by bits (λ b. Zero) (write_all (state_of old) ws) → IsZero new
zero_again bits ws old new h z l e b i = ap (λ s. s b) e ∙ at (contains bits b) refl where
  at : (c : Bool) → contains bits b ≡ c → replaced_by bits (λ b. Zero) (write_all (state_of old) ws) b ≡ Zero
  at true c = cond-true (contains bits b) _ _ c
  at false c = cond-false (contains bits b) _ _ c ∙ write_all_other ws (state_of old) b (not_written bits ws b h c) ∙ z b (omega (arith, i, l))

pub any_bit : (xs : List Bit4) (k : ℕ) (d e : Bit4) → k < length xs → get_or xs k d ≡ get_or xs k e
any_bit [] k d e h = absurd (omega arith)
any_bit (y ∷ ys) zero d e h = refl
any_bit (y ∷ ys) (suc k) d e h = any_bit ys k d e (omega arith)

-- ---- of several writes to a bit the last one counts

last_same : (ws : List Write) (s : State) (b : ℕ) → write_all s (last_of_each ws) b ≡ write_all s ws b
unfolding write_all
last_same [] s b = refl
last_same (w ∷ ws) s b = go (is_written ws w.bit) refl (λ t. last_same ws t b)
  where
    covered_at : (((b == w.bit) ≡ true) × (b ≡ w.bit)) ⊎ (((b == w.bit) ≡ false) × (b ≢ w.bit)) → is_written ws w.bit ≡ true → write_all s ws b ≡ write_all (put s w.bit w.value) ws b
    covered_at (inl e) h = write_all_covered ws s (put s w.bit w.value) b (ap (is_written ws) e.1 ∙ h)
    covered_at (inr e) h = write_all_at ws s (put s w.bit w.value) b (sym (cond-false (b == w.bit) w.value (s b) e.0))

    go : (k : Bool) → is_written ws w.bit ≡ k → ((t : State) → write_all t (last_of_each ws) b ≡ write_all t ws b)
        → write_all s (if k then last_of_each ws else (w ∷ last_of_each ws)) b ≡ write_all (put s w.bit w.value) ws b
    go true h r = r s ∙ covered_at (same_or_other b w.bit) h
    go false h r = r (put s w.bit w.value)

pub last_all : (ws : List Write) (s : State) → write_all s (last_of_each ws) ≡ write_all s ws
last_all ws s = fun_ext (λ b. last_same ws s b)
