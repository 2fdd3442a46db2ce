-- The example of a selector is lawful, and has runs.
use Rattle.std.proofs.Common.{◌≡◌, ◌≢◌, ℕ, zero, suc, ◌≤◌, Bool, true, false, List, [], ◌∷◌, ◌||◌, ◌==◌, if◌then◌else◌, ◌⊎◌, inl, inr, Some, None, refl, sym, ap, ◌∙◌, subst, eqb-true, map, arith}
use Rattle.std.specs.List.{list_any}
use Rattle.std.proofs.lemmas.Bool.{cond-true, both_ways}
use Rattle.vs_four.specs.declared.Bit4.{Bit4}
use Rattle.vs_four.specs.declared.Bit4.TheVariants.{Zero, One, X, Z}
use Rattle.vs_four.specs.Tables.{not_bit}
use Rattle.vs_net.specs.Network.{State, Reset, reset_of, write_all, is_written, flatten, is_selector, Input, AnInput, TheClock, AnAssign, AComb, AClocked, kind, writes, listens, made, updates}
use Rattle.vs_net.specs.Queue.{change, changes, is_held, Choice, IsCompleted, ends}
use Rattle.vs_net.specs.Lawful.{IsLawful, Settles, IsOrdered, IsKnown, IsSure, IsUnknown}
use Rattle.vs_net.specs.LevelRun.{level_run}
use Rattle.vs_net.specs.Checked.{is_completed}
use Rattle.vs_net.specs.Example.{one_write}
use Rattle.vs_net.specs.SelectExample.{taken, select_process, select_idle, select_example, select_bits, selecting, select_start, select_ends, unknown_start, soon_unknown, late_unknown, unknown_ends, SelectRuns}
use Rattle.vs_net.proofs.Example.{unset_flat, unwritten_once}
use Rattle.vs_net.proofs.Levelled.{level_run_is_one}
use Rattle.vs_net.proofs.Checked.{tested_runs_complete}

abbrev owner : ℕ → ℕ
owner zero = 2
owner (suc zero) = 3
owner (suc (suc zero)) = 4
owner (suc (suc (suc zero))) = 4
owner (suc (suc (suc (suc zero)))) = 0
owner (suc (suc (suc (suc (suc b))))) = 1

at_bit : (f : ℕ → ℕ) (b k p : ℕ) → (b == k) ≡ true → f k ≡ p → f b ≡ p
at_bit f b k p h e = ap f (eqb-true b k h) ∙ e

or_false : (t : Bool) → (t || false) ≡ true → t ≡ true
or_false true h = refl
or_false false h = h

or_parts : (t u : Bool) → (t || u) ≡ true → (t ≡ true) ⊎ (u ≡ true)
or_parts true u h = inl refl
or_parts false u h = inr h

owner_is : (p b : ℕ) → writes (select_process p) b ≡ true → owner b ≡ p
owner_is zero b h = at_bit owner b 4 0 h refl
owner_is (suc zero) b h = at_bit owner b 5 1 h refl
owner_is (suc (suc zero)) b h = at_bit owner b 0 2 h refl
owner_is (suc (suc (suc zero))) b h = at_bit owner b 1 3 (or_false (b == 1) h) refl
owner_is (suc (suc (suc (suc zero)))) b h = elim (or_parts (b == 2) ((b == 3) || false) h) [ inl e ↦ at_bit owner b 2 4 e refl | inr e ↦ at_bit owner b 3 4 (or_false (b == 3) e) refl ]
owner_is (suc (suc (suc (suc (suc p))))) b h = cc

one_written : (k b : ℕ) (v : Bit4) → is_written (one_write k v) b ≡ (b == k)
unfolding is_written
one_written k b v = go (b == k)
  where
    go : (t : Bool) → (t || false) ≡ t
    go true = refl
    go false = refl

gives : (k b : ℕ) (v : Bit4) (t : State) → (b == k) ≡ true → write_all t (one_write k v) b ≡ v
unfolding write_all
gives k b v t h = cond-true (b == k) v (t b) h

settles_kind : (p : ℕ) → Settles (kind (select_process p)) → (p ≡ 0) ⊎ (p ≡ 1)
settles_kind zero k = inl refl
settles_kind (suc zero) k = inr refl
settles_kind (suc (suc zero)) k = absurd k
settles_kind (suc (suc (suc zero))) k = absurd k
settles_kind (suc (suc (suc (suc zero)))) k = absurd k
settles_kind (suc (suc (suc (suc (suc p))))) k = absurd k

by_settles : (P : ℕ → Type 0) → P 0 → P 1 → (p : ℕ) → Settles (kind (select_process p)) → P p
by_settles P h0 h1 p k = elim (settles_kind p k) [ inl e ↦ subst P (sym e) h0 | inr e ↦ subst P (sym e) h1 ]

assign_kind : (p : ℕ) → kind (select_process p) ≡ AnAssign → p ≡ 0
assign_kind p k = elim (settles_kind p (subst Settles (sym k) tt)) [ inl e ↦ e | inr e ↦ (let z = subst (λ (x : ℕ). kind (select_process x) ≡ AnAssign) e k in cc) ]

comb_kind : (p : ℕ) → kind (select_process p) ≡ AComb → p ≡ 1
comb_kind p k = elim (settles_kind p (subst Settles (sym k) tt)) [ inl e ↦ (let z = subst (λ (x : ℕ). kind (select_process x) ≡ AComb) e k in cc) | inr e ↦ e ]

clock_kind : (p : ℕ) → kind (select_process p) ≡ TheClock → p ≡ 2
clock_kind zero k = cc
clock_kind (suc zero) k = cc
clock_kind (suc (suc zero)) k = refl
clock_kind (suc (suc (suc zero))) k = cc
clock_kind (suc (suc (suc (suc zero)))) k = cc
clock_kind (suc (suc (suc (suc (suc p))))) k = cc

no_clocked : (p : ℕ) → kind (select_process p) ≡ AClocked → ⊥
no_clocked zero k = cc
no_clocked (suc zero) k = cc
no_clocked (suc (suc zero)) k = cc
no_clocked (suc (suc (suc zero))) k = cc
no_clocked (suc (suc (suc (suc zero)))) k = cc
no_clocked (suc (suc (suc (suc (suc p))))) k = cc

no_reset : (p : ℕ) (r : Reset) → reset_of (select_process p) ≡ Some r → ⊥
no_reset zero r h = cc
no_reset (suc zero) r h = cc
no_reset (suc (suc zero)) r h = cc
no_reset (suc (suc (suc zero))) r h = cc
no_reset (suc (suc (suc (suc zero)))) r h = cc
no_reset (suc (suc (suc (suc (suc p))))) r h = cc

beyond : (p : ℕ) → 5 ≤ p → select_process p ≡ Input []
beyond zero h = absurd (omega arith)
beyond (suc zero) h = absurd (omega arith)
beyond (suc (suc zero)) h = absurd (omega arith)
beyond (suc (suc (suc zero))) h = absurd (omega arith)
beyond (suc (suc (suc (suc zero)))) h = absurd (omega arith)
beyond (suc (suc (suc (suc (suc p))))) h = refl

idle_x : (p b : ℕ) → writes (select_process p) b ≡ true → kind (select_process p) ≢ AnAssign → select_idle b ≡ X
idle_x zero b w k = absurd (k refl)
idle_x (suc zero) b w k = ap select_idle (eqb-true b 5 w)
idle_x (suc (suc zero)) b w k = ap select_idle (eqb-true b 0 w)
idle_x (suc (suc (suc zero))) b w k = ap select_idle (eqb-true b 1 (or_false (b == 1) w))
idle_x (suc (suc (suc (suc zero)))) b w k = elim (or_parts (b == 2) ((b == 3) || false) w) [ inl e ↦ ap select_idle (eqb-true b 2 e) | inr e ↦ ap select_idle (eqb-true b 3 (or_false (b == 3) e)) ]
idle_x (suc (suc (suc (suc (suc p))))) b w k = cc

idle_xz : (b : ℕ) → IsUnknown (select_idle b)
idle_xz zero = inl refl
idle_xz (suc zero) = inl refl
idle_xz (suc (suc zero)) = inl refl
idle_xz (suc (suc (suc zero))) = inl refl
idle_xz (suc (suc (suc (suc zero)))) = inr refl
idle_xz (suc (suc (suc (suc (suc b))))) = inl refl

-- the block writes its bit alone, where t is known
own_taken : (v : Bit4) (s : State) (b : ℕ) → is_written (taken v s) b ≡ true → (b == 5) ≡ true
own_taken Zero s b h = sym (one_written 5 b (s 2)) ∙ h
own_taken One s b h = sym (one_written 5 b (s 3)) ∙ h
own_taken X s b h = absurd (unwritten_once b h)
own_taken Z s b h = absurd (unwritten_once b h)

all_taken : (v : Bit4) (s : State) (b : ℕ) → IsKnown v → (b == 5) ≡ true → is_written (taken v s) b ≡ true
all_taken Zero s b k h = one_written 5 b (s 2) ∙ h
all_taken One s b k h = one_written 5 b (s 3) ∙ h
all_taken X s b k h = absurd (elim k [ inl e ↦ cc | inr e ↦ cc ])
all_taken Z s b k h = absurd (elim k [ inl e ↦ cc | inr e ↦ cc ])

same_taken : (v : Bit4) (s t : State) → s 2 ≡ t 2 → s 3 ≡ t 3 → taken v s ≡ taken v t
same_taken Zero s t a b = ap (one_write 5) a
same_taken One s t a b = ap (one_write 5) b
same_taken X s t a b = refl
same_taken Z s t a b = refl

known_not : (v : Bit4) → IsKnown v → IsKnown (not_bit v)
known_not Zero k = inr refl
known_not One k = inl refl
known_not X k = absurd (elim k [ inl e ↦ cc | inr e ↦ cc ])
known_not Z k = absurd (elim k [ inl e ↦ cc | inr e ↦ cc ])

abbrev selects : ℕ → Bool
selects b = (b == 1) || (b == 4)

select_driven : (b : ℕ) → selects b ≡ true → (p : ℕ) × (writes (select_process p) b ≡ true) × ((kind (select_process p) ≡ AnInput) ⊎ (Settles (kind (select_process p)) × (select_example.sleeper p ≡ None)))
select_driven b h = elim (or_parts (b == 1) (b == 4) h) [
  | inl e ↦ (3, ap (λ (t : Bool). t || false) e, inl refl)
  | inr e ↦ (0, e, inr (tt, refl))
]

not_selects : (b : ℕ) → (b == 5) ≡ true → selects b ≡ true → ⊥
not_selects b e h = let z = subst (λ (x : ℕ). selects x ≡ true) (eqb-true b 5 e) h in cc

select_made : (b : ℕ) (s t : State) (p : ℕ) → Settles (kind (select_process p)) → selects b ≡ true → writes (select_process p) b ≡ true → ((c : ℕ) → listens (select_process p) c ≡ true → selects c ≡ true → IsKnown (s c)) → IsKnown (write_all t (made (select_process p) s) b)
select_made b s t p k = by_settles (λ x. selects b ≡ true → writes (select_process x) b ≡ true → ((c : ℕ) → listens (select_process x) c ≡ true → selects c ≡ true → IsKnown (s c)) → IsKnown (write_all t (made (select_process x) s) b))
    (λ h w known. subst IsKnown (sym (gives 4 b (not_bit (s 1)) t w)) (known_not (s 1) (known 1 refl refl)))
    (λ h w known. absurd (not_selects b w h)) p k

exact : (b : ℕ) (s : State) (p : ℕ) → Settles (kind (select_process p)) → IsSure select_example p s → writes (select_process p) b ≡ true → is_written (made (select_process p) s) b ≡ true
exact b s p k = by_settles (λ x. IsSure select_example x s → writes (select_process x) b ≡ true → is_written (made (select_process x) s) b ≡ true)
    (λ known w. one_written 4 b (not_bit (s 1)) ∙ w)
    (λ sure w. all_taken (s 4) s b (sure 4 refl) w) p k

-- the one selector is the block's t
selector_bit : (p b : ℕ) → is_selector select_example p b ≡ true → (p ≡ 1) × (b ≡ 4)
selector_bit p b h = go (p == 1) h refl
  where
    go : (x : Bool) → list_any (λ (c : ℕ). b == c) (if x then (4 ∷ []) else []) ≡ true → (p == 1) ≡ x → (p ≡ 1) × (b ≡ 4)
    go true h e = (eqb-true p 1 e, eqb-true b 4 (or_false (b == 4) h))
    go false h e = cc

selector_is : (p b : ℕ) → is_selector select_example p b ≡ true → (kind (select_process p) ≡ AComb) × (select_example.sleeper p ≡ None) × (listens (select_process p) b ≡ true) × (selects b ≡ true)
selector_is p b h = let i = selector_bit p b h in subst (λ (x : ℕ). (kind (select_process x) ≡ AComb) × (select_example.sleeper x ≡ None) × (listens (select_process x) b ≡ true) × (selects b ≡ true)) (sym i.0)
    (subst (λ (y : ℕ). (kind (select_process 1) ≡ AComb) × (select_example.sleeper 1 ≡ None) × (listens (select_process 1) y ≡ true) × (selects y ≡ true)) (sym i.1) (refl, refl, refl, refl))

apart : (p b : ℕ) → writes (select_process p) b ≡ true → listens (select_process p) b ≡ false
apart zero b h = ap (λ (x : ℕ). x == 1) (eqb-true b 4 h)
apart (suc zero) b h = ap (λ (x : ℕ). (x == 2) || ((x == 3) || (x == 4))) (eqb-true b 5 h)
apart (suc (suc zero)) b h = refl
apart (suc (suc (suc zero))) b h = refl
apart (suc (suc (suc (suc zero)))) b h = refl
apart (suc (suc (suc (suc (suc p))))) b h = refl

ordered : IsOrdered select_example (λ p. ⊥) (0 ∷ 1 ∷ [])
ordered = (first, (second, last))
  where
    first : (b r : ℕ) → listens (select_process 0) b ≡ true → writes (select_process r) b ≡ true → Settles (kind (select_process r)) → ⊥
    first b r l w k = let o = owner_is r b w in let e : owner b ≡ 3 = at_bit owner b 1 3 l refl in subst (λ (x : ℕ). Settles (kind (select_process x))) (sym o ∙ e) k

    second : (b r : ℕ) → listens (select_process 1) b ≡ true → writes (select_process r) b ≡ true → Settles (kind (select_process r)) → ⊥ ⊎ (r ≡ 0)
    second b r l w k = elim (settles_kind r k) [
      | inl e ↦ inr e
      | inr e ↦ absurd (let z = subst (λ (x : ℕ). writes (select_process x) b ≡ true) e w in both_ways (listens (select_process 1) b) (apart 1 b z) l)
    ]

    last : (p : ℕ) → Settles (kind (select_process p)) → (⊥ ⊎ (p ≡ 0)) ⊎ (p ≡ 1)
    last p k = elim (settles_kind p k) [ inl e ↦ inl (inr e) | inr e ↦ inr e ]

abbrev early : ℕ → Bit4 → Bool
early (suc zero) X = true
early (suc zero) _ = false
early (suc (suc zero)) X = true
early (suc (suc zero)) _ = false
early b v = true

abbrev late_set : ℕ → Bit4 → Bool
late_set (suc zero) Zero = true
late_set (suc zero) One = true
late_set (suc zero) X = false
late_set (suc zero) Z = false
late_set (suc (suc zero)) Zero = true
late_set (suc (suc zero)) One = true
late_set (suc (suc zero)) X = false
late_set (suc (suc zero)) Z = false
late_set (suc (suc (suc (suc zero)))) Zero = true
late_set (suc (suc (suc (suc zero)))) One = true
late_set (suc (suc (suc (suc zero)))) X = false
late_set (suc (suc (suc (suc zero)))) Z = false
late_set b v = true

late_1 : (v : Bit4) → late_set 1 v ≡ true → IsKnown v
late_1 Zero h = inl refl
late_1 One h = inr refl
late_1 X h = cc
late_1 Z h = cc

late_4 : (v : Bit4) → late_set 4 v ≡ true → IsKnown v
late_4 Zero h = inl refl
late_4 One h = inr refl
late_4 X h = cc
late_4 Z h = cc

early_2 : (v : Bit4) → early 2 v ≡ true → v ≡ X
early_2 X h = refl
early_2 Zero h = cc
early_2 One h = cc
early_2 Z h = cc

late_2 : (v : Bit4) → late_set 2 v ≡ true → IsKnown v
late_2 Zero h = inl refl
late_2 One h = inr refl
late_2 X h = cc
late_2 Z h = cc

at : (sets : ℕ → Bit4 → Bool) (k : ℕ) → ((v : Bit4) → sets k v ≡ true) → (b : ℕ) (v : Bit4) → (b == k) ≡ true → sets b v ≡ true
at sets k h b v e = subst (λ (x : ℕ). sets x v ≡ true) (sym (eqb-true b k e)) (h v)

in_sets : (sets : ℕ → Bit4 → Bool) → ((v : Bit4) → sets 4 v ≡ true) → ((v : Bit4) → sets 5 v ≡ true) → (b : ℕ) (v : Bit4) (p : ℕ) → Settles (kind (select_process p)) → writes (select_process p) b ≡ true → sets b v ≡ true
in_sets sets h4 h5 b v p k = by_settles (λ x. writes (select_process x) b ≡ true → sets b v ≡ true) (λ w. at sets 4 h4 b v w) (λ w. at sets 5 h5 b v w) p k

early_idle : (b : ℕ) → early b (select_idle b) ≡ true
early_idle zero = refl
early_idle (suc zero) = refl
early_idle (suc (suc zero)) = refl
early_idle (suc (suc (suc zero))) = refl
early_idle (suc (suc (suc (suc zero)))) = refl
early_idle (suc (suc (suc (suc (suc b))))) = refl

late_idle : (b : ℕ) → ((p : ℕ) → writes (select_process p) b ≡ true → kind (select_process p) ≡ AClocked) → (v : Bit4) → late_set b v ≡ true
late_idle zero h v = refl
late_idle (suc zero) h v = let k = h 3 refl in cc
late_idle (suc (suc zero)) h v = let k = h 4 refl in cc
late_idle (suc (suc (suc zero))) h v = refl
late_idle (suc (suc (suc (suc zero)))) h v = let k = h 0 refl in cc
late_idle (suc (suc (suc (suc (suc b))))) h v = refl

known_in : (k b : ℕ) (v : Bit4) → (b == k) ≡ true → late_set k Zero ≡ true → late_set k One ≡ true → IsKnown v → late_set b v ≡ true
known_in k b v e h0 h1 i = subst (λ (c : ℕ). late_set c v ≡ true) (sym (eqb-true b k e)) (elim i [ inl x ↦ subst (λ (y : Bit4). late_set k y ≡ true) (sym x) h0 | inr x ↦ subst (λ (y : Bit4). late_set k y ≡ true) (sym x) h1 ])

late_input : (p b : ℕ) (v : Bit4) → kind (select_process p) ≡ AnInput → writes (select_process p) b ≡ true → IsKnown v → late_set b v ≡ true
late_input zero b v k w i = cc
late_input (suc zero) b v k w i = cc
late_input (suc (suc zero)) b v k w i = cc
late_input (suc (suc (suc zero))) b v k w i = known_in 1 b v (or_false (b == 1) w) refl refl i
late_input (suc (suc (suc (suc zero)))) b v k w i = elim (or_parts (b == 2) ((b == 3) || false) w) [ inl e ↦ known_in 2 b v e refl refl i | inr e ↦ known_in 3 b v (or_false (b == 3) e) refl refl i ]
late_input (suc (suc (suc (suc (suc p))))) b v k w i = cc

late_made : (b : ℕ) (s t : State) (p : ℕ) → Settles (kind (select_process p)) → ((c : ℕ) → listens (select_process p) c ≡ true → late_set c (s c) ≡ true) → writes (select_process p) b ≡ true → late_set b (write_all t (made (select_process p) s) b) ≡ true
late_made b s t p k = by_settles (λ x. ((c : ℕ) → listens (select_process x) c ≡ true → late_set c (s c) ≡ true) → writes (select_process x) b ≡ true → late_set b (write_all t (made (select_process x) s) b) ≡ true)
    (λ h w. subst (λ v. late_set b v ≡ true) (sym (gives 4 b (not_bit (s 1)) t w)) (known_in 4 b (not_bit (s 1)) w refl refl (known_not (s 1) (late_1 (s 1) (h 1 refl)))))
    (λ h w. at late_set 5 (λ v. refl) b _ w) p k

lawful : IsLawful select_example
unfolding write_all flatten
lawful = record {
  beyond = beyond;
  one_writer = λ p q b h k. sym (owner_is q b k) ∙ owner_is p b h;
  idle_x = idle_x;
  idle_xz = idle_xz;
  initial_own = λ p b h. absurd (unset_flat b h);
  initial_clocked = λ p k. (refl, refl);
  initial_apart = λ p b s h. absurd (unset_flat b h);
  selects = selects;
  select_driven = select_driven;
  select_made = λ p b s t k. select_made b s t p k;
  selector_is = selector_is;
  own = λ p b s k. by_settles (λ x. is_written (made (select_process x) s) b ≡ true → writes (select_process x) b ≡ true) (λ h. sym (one_written 4 b (not_bit (s 1))) ∙ h) (λ h. own_taken (s 4) s b h) p k;
  exact = λ p b s k. exact b s p k;
  local = λ p s t k u. by_settles (λ x. ((b : ℕ) → listens (select_process x) b ≡ true → s b ≡ t b) → made (select_process x) s ≡ made (select_process x) t)
      (λ h. ap (λ v. one_write 4 (not_bit v)) (h 1 refl))
      (λ h. ap (λ v. taken v s) (h 4 refl) ∙ same_taken (t 4) s t (h 2 refl) (h 3 refl)) p k;
  apart = apart;
  comb_updates = λ p s k. subst (λ (x : ℕ). updates (select_process x) s ≡ []) (sym (comb_kind p k)) refl;
  clocked_own = λ p b s k h. absurd (no_clocked p k);
  order = 0 ∷ 1 ∷ [];
  ordered = ordered;
  clock_nets = λ b. b == 0;
  clock = 2;
  clock_is = refl;
  nets_written = λ b h. (2, h, inl refl);
  clock_net_is = λ p k. absurd (no_clocked p k);
  clock_bit_is = λ p b k w. subst (λ (x : ℕ). writes (select_process x) b ≡ true) (clock_kind p k) w;
  assign_nets = λ p k. inr (λ b h. subst (λ (x : ℕ). (listens (select_process x) b ≡ false) × (writes (select_process x) b ≡ false)) (sym (assign_kind p k)) (ap (λ (x : ℕ). x == 1) (eqb-true b 0 h), ap (λ (x : ℕ). x == 4) (eqb-true b 0 h)));
  comb_nets = λ p b k h. subst (λ (x : ℕ). listens (select_process x) b ≡ false) (sym (comb_kind p k)) (ap (λ (x : ℕ). (x == 2) || ((x == 3) || (x == 4))) (eqb-true b 0 h));
  stirs = λ p b. false;
  stirs_own = λ p b s k h. absurd (no_clocked p k);
  stirs_on = λ p r b c h l st w. cc;
  clocked_local = λ p s t k h. absurd (no_clocked p k);
  roots = λ b. None;
  roots_written = λ b i h. absurd cc;
  input_roots = λ p k. inr (λ b w. refl);
  assign_roots = λ p k. inr (λ b w. refl);
  reset_net_is = λ p r h. absurd (no_reset p r h);
  reset_run = λ p r s h e. absurd (no_reset p r h);
  sleepers = λ p x h. absurd cc;
  early = early;
  late = late_set;
  time_zero = record {
    early_idle = λ b h. early_idle b;
    early_comb = λ p b k w. in_sets early (λ v. refl) (λ v. refl) b X p (subst Settles (sym k) tt) w;
    early_made = λ p k none s h b w t. in_sets early (λ v. refl) (λ v. refl) b _ p k w;
    early_any = λ p b c v h w. let i = selector_bit p c h in at early 5 (λ x. refl) b v (subst (λ (x : ℕ). writes (select_process x) b ≡ true) i.0 w);
    late_known = λ p c v h g. late_4 v (subst (λ (x : ℕ). late_set x v ≡ true) (selector_bit p c h).1 g);
    late_idle = λ b h. late_idle b h _;
    late_reset = λ p b r h w. absurd (no_reset p r h);
    late_input = late_input;
    late_clock = λ p b k w. subst (λ (c : ℕ). late_set c Zero ≡ true) (sym (eqb-true b 0 (subst (λ (x : ℕ). writes (select_process x) b ≡ true) (clock_kind p k) w))) refl;
    late_asleep = λ p b x h w. absurd cc;
    late_made = λ p k s h b w t. late_made b s t p k h w;
  };
  quiet_or_woken = λ p k none. inr (record { bit = 2; listened = subst (λ (x : ℕ). listens (select_process x) 2 ≡ true) (sym (comb_kind p k)) refl; unknown = λ v h. inl (early_2 v h); known = λ v h. late_2 v h });
}

level_ends : map select_bits (ends select_example select_start (level_run select_example (0 ∷ 1 ∷ []) select_start)) ≡ select_ends
unfolding change changes is_held
level_ends = refl

soon_ends : map select_bits (ends select_example unknown_start soon_unknown) ≡ unknown_ends One
unfolding change changes is_held
soon_ends = refl

late_ends : map select_bits (ends select_example unknown_start late_unknown) ≡ unknown_ends Zero
unfolding change changes is_held
late_ends = refl

soon_tested : is_completed select_example unknown_start soon_unknown ≡ true
unfolding change changes is_held
soon_tested = refl

late_tested : is_completed select_example unknown_start late_unknown ≡ true
unfolding change changes is_held
late_tested = refl

completed : (choices : List Choice) → is_completed select_example unknown_start choices ≡ true → IsCompleted select_example unknown_start choices
completed choices h = tested_runs_complete select_example beyond (λ p l. (refl, refl)) select_idle (selecting Zero One Zero) (selecting X One One ∷ []) choices h

at_input : (v : State) → IsKnown (v 1) → IsKnown (v 2) → IsKnown (v 3) → (p b : ℕ) → kind (select_process p) ≡ AnInput → writes (select_process p) b ≡ true → IsKnown (v b)
at_input v k1 k2 k3 zero b k w = cc
at_input v k1 k2 k3 (suc zero) b k w = cc
at_input v k1 k2 k3 (suc (suc zero)) b k w = cc
at_input v k1 k2 k3 (suc (suc (suc zero))) b k w = subst (λ (x : ℕ). IsKnown (v x)) (sym (eqb-true b 1 (or_false (b == 1) w))) k1
at_input v k1 k2 k3 (suc (suc (suc (suc zero)))) b k w = elim (or_parts (b == 2) ((b == 3) || false) w) [ inl e ↦ subst (λ (x : ℕ). IsKnown (v x)) (sym (eqb-true b 2 e)) k2 | inr e ↦ subst (λ (x : ℕ). IsKnown (v x)) (sym (eqb-true b 3 (or_false (b == 3) e))) k3 ]
at_input v k1 k2 k3 (suc (suc (suc (suc (suc p))))) b k w = cc

known : (p b : ℕ) → kind (select_process p) ≡ AnInput → writes (select_process p) b ≡ true → IsKnown (selecting Zero One Zero b)
known p b k w = at_input (selecting Zero One Zero) (inl refl) (inr refl) (inl refl) p b k w

-- a select net that is an input's is s
at_select : (v : State) → IsKnown (v 1) → (p b : ℕ) → kind (select_process p) ≡ AnInput → writes (select_process p) b ≡ true → selects b ≡ true → IsKnown (v b)
at_select v k1 p b k w h = elim (or_parts (b == 1) (b == 4) h) [
  | inl e ↦ subst (λ (x : ℕ). IsKnown (v x)) (sym (eqb-true b 1 e)) k1
  | inr e ↦ absurd (let o = owner_is p b w in let z : owner b ≡ 0 = at_bit owner b 4 0 e refl in let y = subst (λ (x : ℕ). kind (select_process x) ≡ AnInput) (sym o ∙ z) k in cc)
]

pub select_runs : SelectRuns
unfolding lawful
select_runs = record {
  lawful = lawful;
  first = λ b. inl refl;
  known = known;
  selects = (
    at_select (selecting Zero One Zero) (inl refl),
    (at_select (selecting Zero One Zero) (inl refl), (at_select (selecting One X Zero) (inr refl), (at_select (selecting One X Zero) (inr refl), tt))),
  );
  level_order = ordered;
  level_completed = (level_run_is_one select_example lawful (0 ∷ 1 ∷ []) ordered select_idle (selecting Zero One Zero) (selecting One X Zero ∷ []) (λ b. inl refl) known ((λ p r o. absurd (no_reset p r o)), tt)).0;
  level_ends = level_ends;
  soon_completed = completed soon_unknown soon_tested;
  late_completed = completed late_unknown late_tested;
  soon_ends = soon_ends;
  late_ends = late_ends;
}
