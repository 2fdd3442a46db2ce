-- The example of an initial value is lawful, and has runs.
use Rattle.vs_net.proofs.Basics.{unwritten_none}
use Rattle.std.proofs.Common.{◌≡◌, ◌≢◌, ℕ, zero, suc, ◌≤◌, Bool, true, false, List, [], ◌∷◌, ◌++◌, ◌||◌, ◌==◌, ◌⊎◌, inl, inr, Some, None, refl, sym, ap, ap₂, ◌∙◌, subst, eqb-true, map, arith}
use Rattle.std.proofs.lemmas.Bool.{cond-true}
use Rattle.vs_four.specs.declared.Bit4.{Bit4}
use Rattle.vs_four.specs.declared.Bit4.TheVariants.{Zero, One, X, Z}
use Rattle.vs_four.specs.Tables.{not_bit, and_bit}
use Rattle.vs_net.specs.Network.{State, Reset, reset_of, write_all, is_written, flatten, Input, AnInput, TheClock, AnAssign, AComb, AClocked, kind, writes, listens, clock_net, made, updates, effects}
use Rattle.vs_net.specs.Queue.{start, change, changes, is_held, Choice, IsCompleted, ends}
use Rattle.vs_net.specs.Lawful.{IsLawful, Settles, IsOrdered, IsKnown}
use Rattle.vs_net.specs.LevelRun.{level_run}
use Rattle.vs_net.specs.Checked.{is_completed}
use Rattle.vs_net.specs.Example.{one_write}
use Rattle.vs_net.specs.InitialExample.{initial_process, initial_writes, initial_example, initial_bits, initial_start, initial_ends, soon, late, later_slots, InitialRuns, late_writes}
use Rattle.vs_net.proofs.Example.{unwritten_once, unset_flat}
use Rattle.vs_net.proofs.Levelled.{level_run_is_one}
use Rattle.vs_net.proofs.Checked.{tested_runs_complete}

abbrev owner : ℕ → ℕ
owner zero = 2
owner (suc zero) = 3
owner (suc (suc zero)) = 1
owner (suc (suc (suc zero))) = 0
owner (suc (suc (suc (suc b)))) = 1

at_bit : (f : ℕ → ℕ) (b k p : ℕ) → (b == k) ≡ true → f k ≡ p → f b ≡ p
at_bit f b k p h e = ap f (eqb-true b k h) ∙ e

or_false : (t : Bool) → (t || false) ≡ true → t ≡ true
or_false true h = refl
or_false false h = h

or_parts : (t u : Bool) → (t || u) ≡ true → (t ≡ true) ⊎ (u ≡ true)
or_parts true u h = inl refl
or_parts false u h = inr h

owner_is : (p b : ℕ) → writes (initial_process p) b ≡ true → owner b ≡ p
owner_is zero b h = at_bit owner b 3 0 h refl
owner_is (suc zero) b h = elim (or_parts (b == 2) (b == 4) h) [ inl e ↦ at_bit owner b 2 1 e refl | inr e ↦ at_bit owner b 4 1 e refl ]
owner_is (suc (suc zero)) b h = at_bit owner b 0 2 h refl
owner_is (suc (suc (suc zero))) b h = at_bit owner b 1 3 (or_false (b == 1) h) refl
owner_is (suc (suc (suc (suc p)))) b h = cc

one_written : (k b : ℕ) (v : Bit4) → is_written (one_write k v) b ≡ (b == k)
unfolding is_written
one_written k b v = go (b == k)
  where
    go : (t : Bool) → (t || false) ≡ t
    go true = refl
    go false = refl

gives : (k b : ℕ) (v : Bit4) (t : State) → (b == k) ≡ true → write_all t (one_write k v) b ≡ v
unfolding write_all
gives k b v t h = cond-true (b == k) v (t b) h

comb_kind : (p : ℕ) → Settles (kind (initial_process p)) → p ≡ 0
comb_kind zero k = refl
comb_kind (suc zero) k = absurd k
comb_kind (suc (suc zero)) k = absurd k
comb_kind (suc (suc (suc zero))) k = absurd k
comb_kind (suc (suc (suc (suc p)))) k = absurd k

clocked_kind : (p : ℕ) → kind (initial_process p) ≡ AClocked → p ≡ 1
clocked_kind zero k = cc
clocked_kind (suc zero) k = refl
clocked_kind (suc (suc zero)) k = cc
clocked_kind (suc (suc (suc zero))) k = cc
clocked_kind (suc (suc (suc (suc p)))) k = cc

clock_kind : (p : ℕ) → kind (initial_process p) ≡ TheClock → p ≡ 2
clock_kind zero k = cc
clock_kind (suc zero) k = cc
clock_kind (suc (suc zero)) k = refl
clock_kind (suc (suc (suc zero))) k = cc
clock_kind (suc (suc (suc (suc p)))) k = cc

by_comb : (P : ℕ → Type 0) → P 0 → (p : ℕ) → Settles (kind (initial_process p)) → P p
by_comb P h p k = subst P (sym (comb_kind p k)) h

is_comb : (p : ℕ) → kind (initial_process p) ≡ AComb → Settles (kind (initial_process p))
is_comb p k = subst Settles (sym k) tt

by_clocked : (P : ℕ → Type 0) → P 1 → (p : ℕ) → kind (initial_process p) ≡ AClocked → P p
by_clocked P h p k = subst P (sym (clocked_kind p k)) h

no_assign : (p : ℕ) → kind (initial_process p) ≡ AnAssign → ⊥
no_assign p k = let e = comb_kind p (subst Settles (sym k) tt) in let z = subst (λ (x : ℕ). kind (initial_process x) ≡ AnAssign) e k in cc

no_reset : (p : ℕ) (r : Reset) → reset_of (initial_process p) ≡ Some r → ⊥
no_reset zero r h = cc
no_reset (suc zero) r h = cc
no_reset (suc (suc zero)) r h = cc
no_reset (suc (suc (suc zero))) r h = cc
no_reset (suc (suc (suc (suc p)))) r h = cc

beyond : (p : ℕ) → 4 ≤ p → initial_process p ≡ Input []
beyond zero h = absurd (omega arith)
beyond (suc zero) h = absurd (omega arith)
beyond (suc (suc zero)) h = absurd (omega arith)
beyond (suc (suc (suc zero))) h = absurd (omega arith)
beyond (suc (suc (suc (suc p)))) h = refl

or_none : (t : Bool) → (t || false) ≡ t
or_none true = refl
or_none false = refl

initial_own : (p b : ℕ) → is_written (flatten (initial_writes p ++ late_writes p)) b ≡ true → writes (initial_process p) b ≡ true
unfolding flatten is_written
initial_own zero b h = cc
initial_own (suc zero) b h = ap (λ (t : Bool). (b == 2) || t) (sym (or_none (b == 4))) ∙ h
initial_own (suc (suc p)) b h = cc

initial_clocked : (p : ℕ) → kind (initial_process p) ≢ AClocked → (initial_writes p ≡ []) × (late_writes p ≡ [])
initial_clocked zero k = (refl, refl)
initial_clocked (suc zero) k = absurd (k refl)
initial_clocked (suc (suc p)) k = (refl, refl)

initial_apart : (p b : ℕ) (s : State) → is_written (flatten (late_writes p)) b ≡ true → is_written (made (initial_process p) s) b ≡ false
initial_apart zero b s h = absurd (unset_flat b h)
initial_apart (suc zero) b s h = unwritten_none b
initial_apart (suc (suc p)) b s h = absurd (unset_flat b h)

apart : (p b : ℕ) → writes (initial_process p) b ≡ true → listens (initial_process p) b ≡ false
apart zero b h = ap (λ (x : ℕ). (x == 1) || (x == 2)) (eqb-true b 3 h)
apart (suc zero) b h = refl
apart (suc (suc zero)) b h = refl
apart (suc (suc (suc zero))) b h = refl
apart (suc (suc (suc (suc p)))) b h = refl

clocked_own : (b : ℕ) (s : State) → is_written (flatten (effects (initial_process 1) s)) b ≡ true → ((b == 2) || (b == 4)) ≡ true
unfolding flatten is_written
clocked_own b s h = ap (λ (t : Bool). (b == 2) || t) (sym (or_none (b == 4))) ∙ h

unfed : (b r : ℕ) → listens (initial_process 0) b ≡ true → writes (initial_process r) b ≡ true → Settles (kind (initial_process r)) → ⊥
unfed b r l w k =
    let e = subst (λ (x : ℕ). writes (initial_process x) b ≡ true) (comb_kind r k) w in
    let z = subst (λ (x : ℕ). listens (initial_process 0) x ≡ true) (eqb-true b 3 e) l in cc

ordered : IsOrdered initial_example (λ p. ⊥) (0 ∷ [])
ordered = ((λ b r l w k. unfed b r l w k), λ p k. inr (comb_kind p k))

abbrev early : ℕ → Bit4 → Bool
early (suc zero) X = true
early (suc zero) _ = false
early b v = true

abbrev late_set : ℕ → Bit4 → Bool
late_set (suc zero) Zero = true
late_set (suc zero) One = true
late_set (suc zero) X = false
late_set (suc zero) Z = false
late_set b v = true

early_1 : (v : Bit4) → early 1 v ≡ true → v ≡ X
early_1 X h = refl
early_1 Zero h = cc
early_1 One h = cc
early_1 Z h = cc

late_1 : (v : Bit4) → late_set 1 v ≡ true → IsKnown v
late_1 Zero h = inl refl
late_1 One h = inr refl
late_1 X h = cc
late_1 Z h = cc

at_3 : (sets : ℕ → Bit4 → Bool) → ((v : Bit4) → sets 3 v ≡ true) → (b : ℕ) (v : Bit4) → (b == 3) ≡ true → sets b v ≡ true
at_3 sets h b v e = subst (λ (x : ℕ). sets x v ≡ true) (sym (eqb-true b 3 e)) (h v)

early_idle : (b : ℕ) → early b (write_all (λ c. X) (one_write 2 Zero) b) ≡ true
unfolding write_all
early_idle zero = refl
early_idle (suc zero) = refl
early_idle (suc (suc b)) = refl

late_idle : (b : ℕ) → ((p : ℕ) → writes (initial_process p) b ≡ true → kind (initial_process p) ≡ AClocked) → (v : Bit4) → late_set b v ≡ true
late_idle zero h v = refl
late_idle (suc zero) h v = let k = h 3 refl in cc
late_idle (suc (suc b)) h v = refl

late_input : (p b : ℕ) (v : Bit4) → kind (initial_process p) ≡ AnInput → writes (initial_process p) b ≡ true → IsKnown v → late_set b v ≡ true
late_input zero b v k w i = cc
late_input (suc zero) b v k w i = cc
late_input (suc (suc zero)) b v k w i = cc
late_input (suc (suc (suc zero))) b v k w i = subst (λ (c : ℕ). late_set c v ≡ true) (sym (eqb-true b 1 (or_false (b == 1) w))) (elim i [ inl e ↦ subst (λ (x : Bit4). late_set 1 x ≡ true) (sym e) refl | inr e ↦ subst (λ (x : Bit4). late_set 1 x ≡ true) (sym e) refl ])
late_input (suc (suc (suc (suc p)))) b v k w i = cc

begins : (b : ℕ) → Rattle.vs_net.specs.Solution.at_first initial_example b ≡ write_all (λ c. X) (one_write 2 Zero) b
unfolding write_all flatten
begins b = refl

lawful : IsLawful initial_example
lawful = record {
  beyond = beyond;
  one_writer = λ p q b h k. sym (owner_is q b k) ∙ owner_is p b h;
  idle_x = λ p b w k. refl;
  idle_xz = λ b. inl refl;
  initial_own = initial_own;
  initial_clocked = initial_clocked;
  initial_apart = initial_apart;
  selects = λ b. false;
  select_driven = λ b h. cc;
  select_made = λ p b s t k h w known. cc;
  selector_is = λ p b h. cc;
  own = λ p b s k h. sym (by_comb (λ x. is_written (made (initial_process x) s) b ≡ writes (initial_process x) b) (one_written 3 b (and_bit (s 2) (s 1))) p k) ∙ h;
  exact = λ p b s k known w. by_comb (λ x. is_written (made (initial_process x) s) b ≡ writes (initial_process x) b) (one_written 3 b (and_bit (s 2) (s 1))) p k ∙ w;
  local = λ p s t k u. by_comb (λ x. ((b : ℕ) → listens (initial_process x) b ≡ true → s b ≡ t b) → made (initial_process x) s ≡ made (initial_process x) t) (λ h. ap₂ (λ v w. one_write 3 (and_bit v w)) (h 2 refl) (h 1 refl)) p k;
  apart = apart;
  comb_updates = λ p s k. by_comb (λ x. updates (initial_process x) s ≡ []) refl p (is_comb p k);
  clocked_own = λ p b s k. by_clocked (λ x. is_written (flatten (effects (initial_process x) s)) b ≡ true → writes (initial_process x) b ≡ true) (λ h. clocked_own b s h) p k;
  order = 0 ∷ [];
  ordered = ordered;
  clock_nets = λ b. b == 0;
  clock = 2;
  clock_is = refl;
  nets_written = λ b h. (2, h, inl refl);
  clock_net_is = λ p k. by_clocked (λ x. (clock_net (initial_process x) == 0) ≡ true) refl p k;
  clock_bit_is = λ p b k w. subst (λ (x : ℕ). writes (initial_process x) b ≡ true) (clock_kind p k) w;
  assign_nets = λ p k. absurd (no_assign p k);
  comb_nets = λ p b k h. by_comb (λ x. listens (initial_process x) b ≡ false) (ap (λ (x : ℕ). (x == 1) || (x == 2)) (eqb-true b 0 h)) p (is_comb p k);
  stirs = λ p b. false;
  stirs_own = λ p b s k. by_clocked (λ x. is_written (made (initial_process x) s) b ≡ true → false ≡ true) (λ h. absurd (unwritten_once b h)) p k;
  stirs_on = λ p r b c h l st w. cc;
  clocked_local = λ p s t k. by_clocked (λ x. ((b : ℕ) → (b == 0) ≡ false → ((r : ℕ) → r ≢ x → kind (initial_process r) ≡ AClocked → false ≡ false) → s b ≡ t b) → effects (initial_process x) s ≡ effects (initial_process x) t)
      (λ h. ap (λ v. [] ∷ one_write 2 (not_bit v) ∷ one_write 4 v ∷ []) (h 2 refl (λ r ne kr. refl))) p k;
  roots = λ b. None;
  roots_written = λ b i h. absurd cc;
  input_roots = λ p k. inr (λ b w. refl);
  assign_roots = λ p k. inr (λ b w. refl);
  reset_net_is = λ p r h. absurd (no_reset p r h);
  reset_run = λ p r s h e. absurd (no_reset p r h);
  sleepers = λ p x h. absurd cc;
  early = early;
  late = late_set;
  time_zero = record {
    early_idle = λ b h. subst (λ (v : Bit4). early b v ≡ true) (sym (begins b)) (early_idle b);
    early_comb = λ p b k w. at_3 early (λ v. refl) b X (by_comb (λ x. writes (initial_process x) b ≡ true → (b == 3) ≡ true) (λ h. h) p (is_comb p k) w);
    early_made = λ p k none s h b w t. at_3 early (λ v. refl) b _ (by_comb (λ x. writes (initial_process x) b ≡ true → (b == 3) ≡ true) (λ h. h) p k w);
    early_any = λ p b c v h w. cc;
    late_known = λ p c v h. cc;
    late_idle = λ b h. late_idle b h _;
    late_reset = λ p b r h w. absurd (no_reset p r h);
    late_input = late_input;
    late_clock = λ p b k w. subst (λ (c : ℕ). late_set c Zero ≡ true) (sym (eqb-true b 0 (subst (λ (x : ℕ). writes (initial_process x) b ≡ true) (clock_kind p k) w))) refl;
    late_asleep = λ p b x h w. absurd cc;
    late_made = λ p k s h b w t. at_3 late_set (λ v. refl) b _ (by_comb (λ x. writes (initial_process x) b ≡ true → (b == 3) ≡ true) (λ h. h) p k w);
  };
  quiet_or_woken = λ p k none. inr (record { bit = 1; listened = by_comb (λ x. listens (initial_process x) 1 ≡ true) refl p (is_comb p k); unknown = λ v h. inl (early_1 v h); known = λ v h. late_1 v h });
}

level_ends : map initial_bits (ends initial_example initial_start (level_run initial_example (0 ∷ []) initial_start)) ≡ initial_ends
unfolding change changes is_held
level_ends = refl

soon_ends : map initial_bits (ends initial_example initial_start (soon ++ later_slots)) ≡ initial_ends
unfolding change changes is_held
soon_ends = refl

late_ends : map initial_bits (ends initial_example initial_start (late ++ later_slots)) ≡ initial_ends
unfolding change changes is_held
late_ends = refl

soon_tested : is_completed initial_example initial_start (soon ++ later_slots) ≡ true
unfolding change changes is_held
soon_tested = refl

late_tested : is_completed initial_example initial_start (late ++ later_slots) ≡ true
unfolding change changes is_held
late_tested = refl

unset : (p : ℕ) → 4 ≤ p → (initial_writes p ≡ []) × (late_writes p ≡ [])
unset zero h = (refl, refl)
unset (suc zero) h = absurd (omega arith)
unset (suc (suc p)) h = (refl, refl)

completed : (choices : List Choice) → is_completed initial_example initial_start choices ≡ true → IsCompleted initial_example initial_start choices
completed choices h = tested_runs_complete initial_example beyond unset (λ b. X) (λ b. One) ((λ b. One) ∷ []) choices h

pub initial_runs : InitialRuns
initial_runs = record {
  lawful = lawful;
  first = λ b. inl refl;
  known = λ p b k w. inr refl;
  runs = λ v vs known resets.
      let r = level_run_is_one initial_example lawful (0 ∷ []) ordered (λ b. X) v vs (λ b. inl refl) known resets in
      (level_run initial_example (0 ∷ []) (start initial_example (λ b. X) v vs), r.0, r.1);
  level_order = ordered;
  level_ends = level_ends;
  soon_completed = completed (soon ++ later_slots) soon_tested;
  late_completed = completed (late ++ later_slots) late_tested;
  soon_ends = soon_ends;
  late_ends = late_ends;
}
