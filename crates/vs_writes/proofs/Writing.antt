-- Writes to bits that are kept as a list.
use Rattle.std.proofs.Common.{◌≡◌, ◌≢◌, ℕ, zero, suc, ◌+◌, ◌≤◌, ◌<◌, Bool, true, false, ◌||◌, ◌==◌, if◌then◌else◌, List, [], ◌∷◌, drop, set, length, get_or, refl, sym, ap, ◌∙◌, arith}
use mathlib.Core.Path.{fun_ext}
use Rattle.std.proofs.lemmas.Bool.{eqb-true}
use Rattle.std.proofs.lemmas.List.{get_or-set_same, get_or-set_other, drop_more}
use Rattle.vs_four.specs.declared.Bit4.{Bit4}
use Rattle.vs_four.specs.declared.Bit4.TheVariants.{X}
use Rattle.vs_net.specs.Network.{State, Write, put, is_written, write_all}
use Rattle.vs_writes.specs.Held.{state_of}

-- the elements from this one on
pub drop_at : {A : Type 0} (xs : List A) (k : ℕ) (x : A) → x ≡ get_or xs k x → k < length xs → drop k xs ≡ x ∷ drop (k + 1) xs
drop_at xs k x is h = drop_more xs k x h ∙ ap (λ y. y ∷ drop (k + 1) xs) (sym is)

pub drop_end : {A : Type 0} (n : ℕ) (xs : List A) → length xs ≤ n → drop n xs ≡ []
drop_end zero [] h = refl
drop_end (suc n) [] h = refl
drop_end zero (x ∷ xs) h = absurd (omega arith)
drop_end (suc n) (x ∷ xs) h = drop_end n xs (omega arith)

-- ---- whether a bit is written

or_true : (a b : Bool) → a ≡ true → (a || b) ≡ true
or_true true b h = refl
or_true false b h = cc

or_false : (a b : Bool) → a ≡ false → (a || b) ≡ b
or_false true b h = cc
or_false false b h = refl

or_right : (a b : Bool) → b ≡ true → (a || b) ≡ true
or_right true b h = refl
or_right false b h = h

eq_same : (a b : ℕ) → a ≡ b → (a == b) ≡ true
eq_same a b h = grind (arith, h)

eq_other : (a b : ℕ) → a ≢ b → (a == b) ≡ false
eq_other a b h = by (a == b) refl
  where
    by : (c : Bool) → (a == b) ≡ c → c ≡ false
    by true e = absurd (h (eqb-true a b e))
    by false e = refl

pub found_write : (ws : List Write) (k b : ℕ) (w : Write) → w ≡ get_or ws k w → k < length ws → b ≡ w.bit → is_written (drop k ws) b ≡ true
unfolding is_written
found_write ws k b w is h same = ap (λ xs. is_written xs b) (drop_at ws k w is h) ∙ or_true (b == w.bit) (is_written (drop (k + 1) ws) b) (eq_same b w.bit same)

pub other_write : (ws : List Write) (k b : ℕ) (w : Write) → w ≡ get_or ws k w → k < length ws → b ≢ w.bit → is_written (drop k ws) b ≡ is_written (drop (k + 1) ws) b
unfolding is_written
other_write ws k b w is h other = ap (λ xs. is_written xs b) (drop_at ws k w is h) ∙ or_false (b == w.bit) (is_written (drop (k + 1) ws) b) (eq_other b w.bit other)

pub none_written : (ws : List Write) (k b : ℕ) → length ws ≤ k → is_written (drop k ws) b ≡ false
unfolding is_written
none_written ws k b h = ap (λ xs. is_written xs b) (drop_end k ws h)

-- a write from a place on is a write of all
pub written_from : (ws : List Write) (k b : ℕ) → is_written (drop k ws) b ≡ true → is_written ws b ≡ true
unfolding is_written
written_from ws zero b h = h
written_from [] (suc k) b h = h
written_from (w ∷ ws) (suc k) b h = or_right (b == w.bit) (is_written ws b) (written_from ws k b h)

-- ---- the values afterwards

pub state_set : (values : List Bit4) (b : ℕ) (v : Bit4) → b < length values → state_of (set values b v) ≡ put (state_of values) b v
state_set values b v h = fun_ext (λ r. at r (r == b) refl)
  where
    at : (r : ℕ) (c : Bool) → (r == b) ≡ c → state_of (set values b v) r ≡ (if c then v else state_of values r)
    at r true e = ap (λ k. get_or (set values b v) k X) (eqb-true r b e) ∙ get_or-set_same values b v X h
    at r false e = get_or-set_other values b r v X (λ same. absurd (never (sym (eq_same r b same) ∙ e)))
      where
        never : true ≡ false → ⊥
        never k = cc

pub one_written : (s t all : State) (ws : List Write) (k : ℕ) (w : Write) → w ≡ get_or ws k w → k < length ws → t ≡ put s w.bit w.value → write_all s (drop k ws) ≡ all → write_all t (drop (k + 1) ws) ≡ all
unfolding write_all
one_written s t all ws k w is h next so_far = ap (λ u. write_all u (drop (k + 1) ws)) next ∙ ap (write_all s) (sym (drop_at ws k w is h)) ∙ so_far

pub all_written : (s all : State) (ws : List Write) (k : ℕ) → length ws ≤ k → write_all s (drop k ws) ≡ all → s ≡ all
unfolding write_all
all_written s all ws k done so_far = ap (write_all s) (sym (drop_end k ws done)) ∙ so_far
