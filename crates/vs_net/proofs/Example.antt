-- The example is lawful.
use Rattle.std.proofs.Common.{◌≡◌, ◌≢◌, ℕ, zero, suc, ◌≤◌, Bool, true, false, [], ◌∷◌, ◌||◌, ◌==◌, ◌⊎◌, inl, inr, Some, None, refl, sym, ap, ◌∙◌, subst, eqb-true, arith}
use Rattle.std.proofs.lemmas.Bool.{cond-true}
use Rattle.vs_four.specs.declared.Bit4.{Bit4}
use Rattle.vs_four.specs.declared.Bit4.TheVariants.{Zero, One, X, Z}
use Rattle.vs_four.specs.Tables.{not_bit}
use Rattle.vs_net.specs.Network.{Reset, reset_of, State, write_all, is_written, flatten, Input, AnInput, TheClock, AnAssign, AComb, AClocked, kind, writes, listens, clock_net, made, updates, effects}
use Rattle.vs_net.specs.Lawful.{IsLawful, IsClockPort, Settles, IsOrdered, ReadsIn, WritesIn, IsUnknown, IsKnown, IsQuietBlock, IsWokenBlock}
use Rattle.vs_net.specs.Example.{one_write, example_process, example_idle, example}
use Rattle.vs_net.proofs.Basics.{by_test}

-- which process writes a bit
abbrev pub owner : ℕ → ℕ
owner zero = 4
owner (suc zero) = 0
owner (suc (suc zero)) = 5
owner (suc (suc (suc zero))) = 1
owner (suc (suc (suc (suc zero)))) = 3
owner (suc (suc (suc (suc (suc b))))) = 2

pub at_bit : (f : ℕ → ℕ) (b k p : ℕ) → (b == k) ≡ true → f k ≡ p → f b ≡ p
at_bit f b k p h e = ap f (eqb-true b k h) ∙ e

or_false : (t : Bool) → (t || false) ≡ true → t ≡ true
or_false true h = refl
or_false false h = h

pub owner_is : (p b : ℕ) → writes (example_process p) b ≡ true → owner b ≡ p
owner_is zero b h = at_bit owner b 1 0 h refl
owner_is (suc zero) b h = at_bit owner b 3 1 h refl
owner_is (suc (suc zero)) b h = at_bit owner b 5 2 h refl
owner_is (suc (suc (suc zero))) b h = at_bit owner b 4 3 h refl
owner_is (suc (suc (suc (suc zero)))) b h = at_bit owner b 0 4 h refl
owner_is (suc (suc (suc (suc (suc zero))))) b h = at_bit owner b 2 5 (or_false (b == 2) h) refl
owner_is (suc (suc (suc (suc (suc (suc p)))))) b h = cc

one_written : (k b : ℕ) (v : Bit4) → is_written (one_write k v) b ≡ (b == k)
unfolding is_written
one_written k b v = go (b == k)
  where
    go : (t : Bool) → (t || false) ≡ t
    go true = refl
    go false = refl

exact : (p b : ℕ) (s : State) → Settles (kind (example_process p)) → is_written (made (example_process p) s) b ≡ writes (example_process p) b
exact zero b s k = one_written 1 b (s 0)
exact (suc zero) b s k = one_written 3 b (s 2)
exact (suc (suc zero)) b s k = one_written 5 b (not_bit (s 4))
exact (suc (suc (suc zero))) b s k = absurd k
exact (suc (suc (suc (suc zero)))) b s k = absurd k
exact (suc (suc (suc (suc (suc zero))))) b s k = absurd k
exact (suc (suc (suc (suc (suc (suc p)))))) b s k = absurd k

local : (p : ℕ) (s t : State) → Settles (kind (example_process p)) → ((b : ℕ) → listens (example_process p) b ≡ true → s b ≡ t b) → made (example_process p) s ≡ made (example_process p) t
local zero s t k h = ap (one_write 1) (h 0 refl)
local (suc zero) s t k h = ap (one_write 3) (h 2 refl)
local (suc (suc zero)) s t k h = ap (λ v. one_write 5 (not_bit v)) (h 4 refl)
local (suc (suc (suc zero))) s t k h = absurd k
local (suc (suc (suc (suc zero)))) s t k h = absurd k
local (suc (suc (suc (suc (suc zero))))) s t k h = absurd k
local (suc (suc (suc (suc (suc (suc p)))))) s t k h = absurd k

-- b can't be two numbers
not_at : (b k l : ℕ) → k ≢ l → (b == k) ≡ true → (b == l) ≡ false
not_at b k l ne h = by_test (b == l) (λ e. absurd (ne (sym (eqb-true b k h) ∙ eqb-true b l e))) (λ e. e)

apart : (p b : ℕ) → writes (example_process p) b ≡ true → listens (example_process p) b ≡ false
apart zero b h = not_at b 1 0 (λ e. cc) h
apart (suc zero) b h = not_at b 3 2 (λ e. cc) h
apart (suc (suc zero)) b h = not_at b 5 4 (λ e. cc) h
apart (suc (suc (suc zero))) b h = refl
apart (suc (suc (suc (suc zero)))) b h = refl
apart (suc (suc (suc (suc (suc zero))))) b h = refl
apart (suc (suc (suc (suc (suc (suc p)))))) b h = refl

-- the nets of the clock
abbrev nets : ℕ → Bool
nets b = (b == 0) || (b == 1)

-- sets before the first activation, and at the end of slot 0
abbrev early : ℕ → Bit4 → Bool
early (suc zero) v = true
early (suc (suc (suc zero))) v = true
early b X = true
early b _ = false

abbrev late : ℕ → Bit4 → Bool
late zero v = true
late (suc zero) v = true
late (suc (suc zero)) Zero = true
late (suc (suc zero)) One = true
late (suc (suc zero)) X = false
late (suc (suc zero)) Z = false
late b v = true

-- a written bit's value is the one written
gives : (k b : ℕ) (v : Bit4) (t : State) → (b == k) ≡ true → write_all t (one_write k v) b ≡ v
unfolding write_all
gives k b v t h = cond-true (b == k) v (t b) h

early_4 : (v : Bit4) → early 4 v ≡ true → v ≡ X
early_4 X h = refl
early_4 Zero h = cc
early_4 One h = cc
early_4 Z h = cc

early_2 : (v : Bit4) → early 2 v ≡ true → v ≡ X
early_2 X h = refl
early_2 Zero h = cc
early_2 One h = cc
early_2 Z h = cc

late_2 : (v : Bit4) → late 2 v ≡ true → IsKnown v
late_2 Zero h = inl refl
late_2 One h = inr refl
late_2 X h = cc
late_2 Z h = cc

abbrev Has : (ℕ → Bit4 → Bool) → ℕ → Bit4 → Type 0
Has sets b v = sets b v ≡ true

-- at the bit k the value v is in its set, so it is at b, which is k
put_in : (sets : ℕ → Bit4 → Bool) (k b : ℕ) (v : Bit4) (t : State) → (b == k) ≡ true → Has sets k v → Has sets b (write_all t (one_write k v) b)
put_in sets k b v t h s = subst (λ (x : Bit4). Has sets b x) (sym (gives k b v t h)) (subst (λ (c : ℕ). Has sets c v) (sym (eqb-true b k h)) s)

early_made : (p : ℕ) → Settles (kind (example_process p)) → (s : State) → ReadsIn early (example_process p) s → WritesIn early (example_process p) s
early_made zero k s h b w t = put_in early 1 b (s 0) t w refl
early_made (suc zero) k s h b w t = put_in early 3 b (s 2) t w refl
early_made (suc (suc zero)) k s h b w t = put_in early 5 b (not_bit (s 4)) t w (subst (λ (v : Bit4). Has early 5 (not_bit v)) (sym (early_4 (s 4) (h 4 refl))) refl)
early_made (suc (suc (suc zero))) k s h b w t = absurd k
early_made (suc (suc (suc (suc zero)))) k s h b w t = absurd k
early_made (suc (suc (suc (suc (suc zero))))) k s h b w t = absurd k
early_made (suc (suc (suc (suc (suc (suc p)))))) k s h b w t = absurd k

late_made : (p : ℕ) → Settles (kind (example_process p)) → (s : State) → ReadsIn late (example_process p) s → WritesIn late (example_process p) s
late_made zero k s h b w t = put_in late 1 b (s 0) t w refl
late_made (suc zero) k s h b w t = put_in late 3 b (s 2) t w refl
late_made (suc (suc zero)) k s h b w t = put_in late 5 b (not_bit (s 4)) t w refl
late_made (suc (suc (suc zero))) k s h b w t = absurd k
late_made (suc (suc (suc (suc zero)))) k s h b w t = absurd k
late_made (suc (suc (suc (suc (suc zero))))) k s h b w t = absurd k
late_made (suc (suc (suc (suc (suc (suc p)))))) k s h b w t = absurd k

early_idle : (b : ℕ) → ((p : ℕ) → writes (example_process p) b ≡ true → Settles (kind (example_process p)) → ⊥) → Has early b (example_idle b)
early_idle zero h = refl
early_idle (suc zero) h = refl
early_idle (suc (suc zero)) h = refl
early_idle (suc (suc (suc zero))) h = refl
early_idle (suc (suc (suc (suc b)))) h = refl

early_comb : (p b : ℕ) → kind (example_process p) ≡ AComb → writes (example_process p) b ≡ true → Has early b X
early_comb zero b k w = cc
early_comb (suc zero) b k w = subst (λ (c : ℕ). Has early c X) (sym (eqb-true b 3 w)) refl
early_comb (suc (suc zero)) b k w = subst (λ (c : ℕ). Has early c X) (sym (eqb-true b 5 w)) refl
early_comb (suc (suc (suc zero))) b k w = cc
early_comb (suc (suc (suc (suc zero)))) b k w = cc
early_comb (suc (suc (suc (suc (suc zero))))) b k w = cc
early_comb (suc (suc (suc (suc (suc (suc p)))))) b k w = cc

late_idle : (b : ℕ) → ((p : ℕ) → writes (example_process p) b ≡ true → kind (example_process p) ≡ AClocked) → Has late b (example_idle b)
late_idle zero h = refl
late_idle (suc zero) h = refl
late_idle (suc (suc zero)) h = let k = h 5 refl in cc
late_idle (suc (suc (suc b))) h = refl

late_input : (p b : ℕ) (v : Bit4) → kind (example_process p) ≡ AnInput → writes (example_process p) b ≡ true → IsKnown v → Has late b v
late_input zero b v k w i = cc
late_input (suc zero) b v k w i = cc
late_input (suc (suc zero)) b v k w i = cc
late_input (suc (suc (suc zero))) b v k w i = cc
late_input (suc (suc (suc (suc zero)))) b v k w i = cc
late_input (suc (suc (suc (suc (suc zero))))) b v k w i = subst (λ (c : ℕ). Has late c v) (sym (eqb-true b 2 (or_false (b == 2) w))) (elim i [ inl e ↦ subst (λ (x : Bit4). Has late 2 x) (sym e) refl | inr e ↦ subst (λ (x : Bit4). Has late 2 x) (sym e) refl ])
late_input (suc (suc (suc (suc (suc (suc p)))))) b v k w i = cc

late_clock : (p b : ℕ) → kind (example_process p) ≡ TheClock → writes (example_process p) b ≡ true → Has late b Zero
late_clock zero b k w = cc
late_clock (suc zero) b k w = cc
late_clock (suc (suc zero)) b k w = cc
late_clock (suc (suc (suc zero))) b k w = cc
late_clock (suc (suc (suc (suc zero)))) b k w = subst (λ (c : ℕ). Has late c Zero) (sym (eqb-true b 0 w)) refl
late_clock (suc (suc (suc (suc (suc zero))))) b k w = cc
late_clock (suc (suc (suc (suc (suc (suc p)))))) b k w = cc

quiet_or_woken : (p : ℕ) → kind (example_process p) ≡ AComb → IsQuietBlock early (example_process p) ⊎ IsWokenBlock early late (example_process p)
quiet_or_woken zero k = cc
quiet_or_woken (suc zero) k = inr (record { bit = 2; listened = refl; unknown = λ v h. inl (early_2 v h); known = λ v h. late_2 v h })
quiet_or_woken (suc (suc zero)) k = inl (λ s t h b w. gives 5 b (not_bit (s 4)) t w ∙ ap not_bit (early_4 (s 4) (h 4 refl)))
quiet_or_woken (suc (suc (suc zero))) k = cc
quiet_or_woken (suc (suc (suc (suc zero)))) k = cc
quiet_or_woken (suc (suc (suc (suc (suc zero))))) k = cc
quiet_or_woken (suc (suc (suc (suc (suc (suc p)))))) k = cc

idle_x : (p b : ℕ) → writes (example_process p) b ≡ true → kind (example_process p) ≢ AnAssign → example_idle b ≡ X
idle_x zero b w k = absurd (k refl)
idle_x (suc zero) b w k = ap example_idle (eqb-true b 3 w)
idle_x (suc (suc zero)) b w k = ap example_idle (eqb-true b 5 w)
idle_x (suc (suc (suc zero))) b w k = ap example_idle (eqb-true b 4 w)
idle_x (suc (suc (suc (suc zero)))) b w k = ap example_idle (eqb-true b 0 w)
idle_x (suc (suc (suc (suc (suc zero))))) b w k = ap example_idle (eqb-true b 2 (or_false (b == 2) w))
idle_x (suc (suc (suc (suc (suc (suc p)))))) b w k = cc

idle_xz : (b : ℕ) → IsUnknown (example_idle b)
idle_xz zero = inl refl
idle_xz (suc zero) = inr refl
idle_xz (suc (suc b)) = inl refl

beyond : (p : ℕ) → 6 ≤ p → example_process p ≡ Input []
beyond zero h = absurd (omega arith)
beyond (suc zero) h = absurd (omega arith)
beyond (suc (suc zero)) h = absurd (omega arith)
beyond (suc (suc (suc zero))) h = absurd (omega arith)
beyond (suc (suc (suc (suc zero)))) h = absurd (omega arith)
beyond (suc (suc (suc (suc (suc zero))))) h = absurd (omega arith)
beyond (suc (suc (suc (suc (suc (suc p)))))) h = refl

-- the order: the port, then the two blocks; no assign or block writes what another listens to
unfed : (p b r : ℕ) → listens (example_process p) b ≡ true → writes (example_process r) b ≡ true → Settles (kind (example_process r)) → ⊥
unfed zero b r l w k = let o = owner_is r b w in let e : owner b ≡ 4 = at_bit owner b 0 4 l refl in subst (λ (x : ℕ). Settles (kind (example_process x))) (sym o ∙ e) k
unfed (suc zero) b r l w k = let o = owner_is r b w in let e : owner b ≡ 5 = at_bit owner b 2 5 l refl in subst (λ (x : ℕ). Settles (kind (example_process x))) (sym o ∙ e) k
unfed (suc (suc zero)) b r l w k = let o = owner_is r b w in let e : owner b ≡ 3 = at_bit owner b 4 3 l refl in subst (λ (x : ℕ). Settles (kind (example_process x))) (sym o ∙ e) k
unfed (suc (suc (suc zero))) b r l w k = cc
unfed (suc (suc (suc (suc zero)))) b r l w k = cc
unfed (suc (suc (suc (suc (suc zero))))) b r l w k = cc
unfed (suc (suc (suc (suc (suc (suc p)))))) b r l w k = cc

pub ordered : IsOrdered example (λ p. ⊥) (0 ∷ 1 ∷ 2 ∷ [])
ordered = ((λ b r l w k. unfed 0 b r l w k), ((λ b r l w k. inl (absurd (unfed 1 b r l w k))), ((λ b r l w k. inl (absurd (unfed 2 b r l w k))), placed_all)))
  where
    placed_all : (p : ℕ) → Settles (kind (example_process p)) → ((⊥ ⊎ (p ≡ 0)) ⊎ (p ≡ 1)) ⊎ (p ≡ 2)
    placed_all zero k = inl (inl (inr refl))
    placed_all (suc zero) k = inl (inr refl)
    placed_all (suc (suc zero)) k = inr refl
    placed_all (suc (suc (suc zero))) k = absurd k
    placed_all (suc (suc (suc (suc zero)))) k = absurd k
    placed_all (suc (suc (suc (suc (suc zero))))) k = absurd k
    placed_all (suc (suc (suc (suc (suc (suc p)))))) k = absurd k

nets_at : (b : ℕ) → nets b ≡ true → ((b == 0) ≡ true) ⊎ ((b == 1) ≡ true)
nets_at b h = by_test (b == 0) (λ e. inl e) (λ e. inr (subst (λ (t : Bool). (t || (b == 1)) ≡ true) e h))

at_net : (b : ℕ) (P : ℕ → Type 0) → P 0 → P 1 → nets b ≡ true → P b
at_net b P p0 p1 h = elim (nets_at b h) [ inl e ↦ subst P (sym (eqb-true b 0 e)) p0 | inr e ↦ subst P (sym (eqb-true b 1 e)) p1 ]

port : IsClockPort nets (example_process 0)
port = record {
  from = 0;
  to = 1;
  from_net = refl;
  to_net = refl;
  apart = λ e. cc;
  reads_one = λ b h. eqb-true b 0 h;
  reads_it = refl;
  writes_one = λ b h. eqb-true b 1 h;
  writes_it = refl;
  copies = λ s. refl;
}

nets_written : (b : ℕ) → nets b ≡ true → (p : ℕ) × (writes (example_process p) b ≡ true) × ((kind (example_process p) ≡ TheClock) ⊎ (kind (example_process p) ≡ AnAssign))
nets_written b h = at_net b (λ c. (p : ℕ) × (writes (example_process p) c ≡ true) × ((kind (example_process p) ≡ TheClock) ⊎ (kind (example_process p) ≡ AnAssign))) (4, refl, inl refl) (0, refl, inr refl) h

clocked_kind : (p : ℕ) → kind (example_process p) ≡ AClocked → p ≡ 3
clocked_kind zero k = cc
clocked_kind (suc zero) k = cc
clocked_kind (suc (suc zero)) k = cc
clocked_kind (suc (suc (suc zero))) k = refl
clocked_kind (suc (suc (suc (suc zero)))) k = cc
clocked_kind (suc (suc (suc (suc (suc zero))))) k = cc
clocked_kind (suc (suc (suc (suc (suc (suc p)))))) k = cc

comb_kind : (p : ℕ) → kind (example_process p) ≡ AComb → (p ≡ 1) ⊎ (p ≡ 2)
comb_kind zero k = cc
comb_kind (suc zero) k = inl refl
comb_kind (suc (suc zero)) k = inr refl
comb_kind (suc (suc (suc zero))) k = cc
comb_kind (suc (suc (suc (suc zero)))) k = cc
comb_kind (suc (suc (suc (suc (suc zero))))) k = cc
comb_kind (suc (suc (suc (suc (suc (suc p)))))) k = cc

assign_kind : (p : ℕ) → kind (example_process p) ≡ AnAssign → p ≡ 0
assign_kind zero k = refl
assign_kind (suc zero) k = cc
assign_kind (suc (suc zero)) k = cc
assign_kind (suc (suc (suc zero))) k = cc
assign_kind (suc (suc (suc (suc zero)))) k = cc
assign_kind (suc (suc (suc (suc (suc zero))))) k = cc
assign_kind (suc (suc (suc (suc (suc (suc p)))))) k = cc

clock_kind : (p : ℕ) → kind (example_process p) ≡ TheClock → p ≡ 4
clock_kind zero k = cc
clock_kind (suc zero) k = cc
clock_kind (suc (suc zero)) k = cc
clock_kind (suc (suc (suc zero))) k = cc
clock_kind (suc (suc (suc (suc zero)))) k = refl
clock_kind (suc (suc (suc (suc (suc zero))))) k = cc
clock_kind (suc (suc (suc (suc (suc (suc p)))))) k = cc

pub no_reset : (p : ℕ) (r : Reset) → reset_of (example_process p) ≡ Some r → ⊥
no_reset zero r h = cc
no_reset (suc zero) r h = cc
no_reset (suc (suc zero)) r h = cc
no_reset (suc (suc (suc zero))) r h = cc
no_reset (suc (suc (suc (suc zero)))) r h = cc
no_reset (suc (suc (suc (suc (suc zero))))) r h = cc
no_reset (suc (suc (suc (suc (suc (suc p)))))) r h = cc

clocked_own : (b : ℕ) (s : State) → is_written (flatten (effects (example_process 3) s)) b ≡ true → (b == 4) ≡ true
unfolding flatten is_written
clocked_own b s h = or_false (b == 4) h

pub unwritten_once : (b : ℕ) → is_written [] b ≡ true → ⊥
unfolding is_written
unwritten_once b h = cc

pub unset_flat : (b : ℕ) → is_written (flatten []) b ≡ true → ⊥
unfolding is_written flatten
unset_flat b h = cc

pub example_lawful : IsLawful example
unfolding write_all flatten
example_lawful = record {
  beyond = beyond;
  one_writer = λ p q b h k. sym (owner_is q b k) ∙ owner_is p b h;
  idle_x = idle_x;
  idle_xz = idle_xz;
  initial_own = λ p b h. absurd (unset_flat b h);
  initial_clocked = λ p k. (refl, refl);
  initial_apart = λ p b s h. absurd (unset_flat b h);
  selects = λ b. false;
  select_driven = λ b h. cc;
  select_made = λ p b s t k h w known. cc;
  selector_is = λ p b h. cc;
  own = λ p b s k h. sym (exact p b s k) ∙ h;
  exact = λ p b s k known w. exact p b s k ∙ w;
  local = λ p s t k u. local p s t k;
  apart = apart;
  comb_updates = λ p s k. elim (comb_kind p k) [ inl e ↦ subst (λ (x : ℕ). updates (example_process x) s ≡ []) (sym e) refl | inr e ↦ subst (λ (x : ℕ). updates (example_process x) s ≡ []) (sym e) refl ];
  clocked_own = λ p b s k h. subst (λ (x : ℕ). writes (example_process x) b ≡ true) (sym (clocked_kind p k)) (clocked_own b s (subst (λ (x : ℕ). is_written (flatten (effects (example_process x) s)) b ≡ true) (clocked_kind p k) h));
  order = 0 ∷ 1 ∷ 2 ∷ [];
  ordered = ordered;
  clock_nets = nets;
  clock = 4;
  clock_is = refl;
  nets_written = nets_written;
  clock_net_is = λ p k. subst (λ (x : ℕ). nets (clock_net (example_process x)) ≡ true) (sym (clocked_kind p k)) refl;
  clock_bit_is = λ p b k w. subst (λ (c : ℕ). nets c ≡ true) (sym (eqb-true b 0 (subst (λ (x : ℕ). writes (example_process x) b ≡ true) (clock_kind p k) w))) refl;
  assign_nets = λ p k. inl (subst (λ (x : ℕ). IsClockPort nets (example_process x)) (sym (assign_kind p k)) port);
  comb_nets = λ p b k h. elim (comb_kind p k) [
    | inl e ↦ subst (λ (x : ℕ). listens (example_process x) b ≡ false) (sym e) (at_net b (λ c. (c == 2) ≡ false) refl refl h)
    | inr e ↦ subst (λ (x : ℕ). listens (example_process x) b ≡ false) (sym e) (at_net b (λ c. (c == 4) ≡ false) refl refl h)
  ];
  stirs = λ p b. false;
  stirs_own = λ p b s k h. absurd (unwritten_once b (subst (λ (x : ℕ). is_written (made (example_process x) s) b ≡ true) (clocked_kind p k) h));
  stirs_on = λ p r b c h l st w. cc;
  clocked_local = λ p s t k h. subst (λ (x : ℕ). effects (example_process x) s ≡ effects (example_process x) t) (sym (clocked_kind p k)) (ap (λ v. [] ∷ one_write 4 v ∷ []) (h 3 refl (λ r ne kr. refl)));
  roots = λ b. None;
  roots_written = λ b i h. absurd cc;
  input_roots = λ p k. inr (λ b w. refl);
  assign_roots = λ p k. inr (λ b w. refl);
  reset_net_is = λ p r h. absurd (no_reset p r h);
  reset_run = λ p r s h e. absurd (no_reset p r h);
  sleepers = λ p x h. absurd cc;
  early = early;
  late = late;
  time_zero = record { early_idle = early_idle; early_comb = early_comb; early_made = λ p k none. early_made p k; early_any = λ p b c v h w. cc; late_known = λ p c v h. cc; late_idle = late_idle; late_reset = λ p b r h w. absurd (no_reset p r h); late_asleep = λ p b x h w. absurd cc; late_input = late_input; late_clock = late_clock; late_made = late_made };
  quiet_or_woken = λ p k none. quiet_or_woken p k;
}
