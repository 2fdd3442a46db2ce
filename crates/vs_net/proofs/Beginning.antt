-- The values before slot 0.
use Rattle.std.proofs.Common.{◌≡◌, ◌≢◌, ℕ, zero, suc, ◌<◌, true, false, List, [], refl, sym, ap, ◌∙◌, inl, inr, arith, Bool, ◌∷◌, ◌++◌, ◌||◌, ◌==◌, append_assoc, ◌⊎◌, subst}
use Rattle.std.proofs.lemmas.Bool.{both_ways, cases_lt}
use Rattle.vs_net.specs.Network.{State, Update, write_all, is_written, flatten, Process, Network, AClocked, kind, writes, Write}
use Rattle.vs_net.specs.Solution.{after_initial, beginning, at_first, all_initial}
use Rattle.vs_net.specs.Lawful.{IsLawful}
use Rattle.vs_net.proofs.Basics.{by_test, same_number, write_all_at, write_all_other, write_none, write_all-append, is_written-append, is_written-append_right}

after_none : (initial : ℕ → List Update) (s : State) (b k : ℕ) → ((x : ℕ) → x < k → is_written (flatten (initial x)) b ≡ false) → after_initial initial k s b ≡ s b
after_none initial s b zero h = refl
after_none initial s b (suc k) h = write_all_other (flatten (initial k)) (after_initial initial k s) b (h k (omega arith)) ∙ after_none initial s b k (λ x l. h x (omega arith))

after_one : (initial : ℕ → List Update) (s : State) (b p k : ℕ) → p < k → ((x : ℕ) → x ≢ p → is_written (flatten (initial x)) b ≡ false) → after_initial initial k s b ≡ write_all s (flatten (initial p)) b
after_one initial s b p zero l h = absurd (omega arith)
after_one initial s b p (suc k) l h = same_number p k
    (λ e. write_all_at (flatten (initial k)) (after_initial initial k s) s b (after_none initial s b k (λ x m. h x (λ f. let g = f ∙ e in absurd (omega arith)))) ∙ ap (λ (x : ℕ). write_all s (flatten (initial x)) b) (sym e))
    (λ ne. write_all_other (flatten (initial k)) (after_initial initial k s) b (h k (λ f. ne (sym f))) ∙ after_one initial s b p k (omega arith) h)

none_flat : (b : ℕ) → is_written (flatten []) b ≡ false
unfolding is_written flatten
none_flat b = refl

pub written_or : (xs ys : List Write) (b : ℕ) → is_written (xs ++ ys) b ≡ true → (is_written xs b ≡ true) ⊎ (is_written ys b ≡ true)
unfolding is_written
written_or [] ys b h = inr h
written_or (x ∷ xs) ys b h =
    by_test (b == x.bit)
    (λ e. inl (subst (λ (t : Bool). (t || is_written xs b) ≡ true) (sym e) refl))
    (λ e. elim (written_or xs ys b (subst (λ (t : Bool). (t || is_written (xs ++ ys) b) ≡ true) e h)) [
      | inl i ↦ inl (subst (λ (t : Bool). (t || is_written xs b) ≡ true) (sym e) i)
      | inr i ↦ inr i
    ])

unwritten_both : (xs ys : List Write) (b : ℕ) → is_written xs b ≡ false → is_written ys b ≡ false → is_written (xs ++ ys) b ≡ false
unfolding is_written
unwritten_both [] ys b g h = h
unwritten_both (x ∷ xs) ys b g h = by_test (b == x.bit)
    (λ e. absurd (let z = subst (λ (t : Bool). (t || is_written xs b) ≡ false) e g in cc))
    (λ e. subst (λ (t : Bool). (t || is_written (xs ++ ys) b) ≡ false) (sym e) (unwritten_both xs ys b (subst (λ (t : Bool). (t || is_written xs b) ≡ false) e g) h))

flat_left : (us vs : List Update) (b : ℕ) → is_written (flatten us) b ≡ true → is_written (flatten (us ++ vs)) b ≡ true
unfolding flatten is_written
flat_left [] vs b h = cc
flat_left (u ∷ us) vs b h = by_test (is_written u b)
    (λ e. is_written-append u (flatten (us ++ vs)) b e)
    (λ e. is_written-append_right u (flatten (us ++ vs)) b (flat_left us vs b (by_test (is_written (flatten us) b) (λ g. g) (λ g. absurd (both_ways (is_written (u ++ flatten us) b) (unwritten_both u (flatten us) b e g) h)))))

flat_right : (us vs : List Update) (b : ℕ) → is_written (flatten vs) b ≡ true → is_written (flatten (us ++ vs)) b ≡ true
unfolding flatten
flat_right [] vs b h = h
flat_right (u ∷ us) vs b h = is_written-append_right u (flatten (us ++ vs)) b (flat_right us vs b h)

pub flat_append : (us vs : List Update) → flatten (us ++ vs) ≡ flatten us ++ flatten vs
unfolding flatten
flat_append [] vs = refl
flat_append (u ∷ us) vs = ap (λ (ws : List Write). u ++ ws) (flat_append us vs) ∙ sym (append_assoc u (flatten us) (flatten vs))

module _ (n : Network) (L : IsLawful n) where
  pub own_initial : (p b : ℕ) → is_written (flatten (n.initial p)) b ≡ true → writes (n.process p) b ≡ true
  own_initial p b h = L.initial_own p b (flat_left (n.initial p) (n.initial_updates p) b h)

  pub own_initial_updates : (p b : ℕ) → is_written (flatten (n.initial_updates p)) b ≡ true → writes (n.process p) b ≡ true
  own_initial_updates p b h = L.initial_own p b (flat_right (n.initial p) (n.initial_updates p) b h)

  -- what all of them leave unwritten each leaves unwritten
  pub unset_initial : (p b : ℕ) → is_written (flatten (all_initial n p)) b ≡ false → is_written (flatten (n.initial p)) b ≡ false
  unset_initial p b h = by_test (is_written (flatten (n.initial p)) b) (λ e. absurd (both_ways (is_written (flatten (all_initial n p)) b) h (flat_left (n.initial p) (n.initial_updates p) b e))) (λ e. e)

  pub unset_updates : (p b : ℕ) → is_written (flatten (all_initial n p)) b ≡ false → is_written (flatten (n.initial_updates p)) b ≡ false
  unset_updates p b h = by_test (is_written (flatten (n.initial_updates p)) b) (λ e. absurd (both_ways (is_written (flatten (all_initial n p)) b) h (flat_right (n.initial p) (n.initial_updates p) b e))) (λ e. e)

  -- a bit that no initial process writes is idle
  pub begins_idle : (b : ℕ) → ((p : ℕ) → is_written (flatten (all_initial n p)) b ≡ false) → beginning n b ≡ n.idle b
  begins_idle b h = after_none (all_initial n) n.idle b n.count (λ x l. h x)

  pub first_idle_at : (b : ℕ) → ((p : ℕ) → is_written (flatten (all_initial n p)) b ≡ false) → at_first n b ≡ n.idle b
  first_idle_at b h = after_none n.initial n.idle b n.count (λ x l. unset_initial x b (h x))

  -- the initial writes of others are to other bits
  not_initial : (p x b : ℕ) → writes (n.process p) b ≡ true → x ≢ p → is_written (flatten (all_initial n x)) b ≡ false
  not_initial p x b w ne = by_test (is_written (flatten (all_initial n x)) b) (λ e. absurd (ne (L.one_writer p x b w (L.initial_own x b e)))) (λ e. e)

  -- a bit has what initial processes write to its driver's bits
  pub first_set : (p b : ℕ) → writes (n.process p) b ≡ true → at_first n b ≡ write_all n.idle (flatten (n.initial p)) b
  first_set p b w = elim (cases_lt p n.count) [
    | inl l ↦ after_one n.initial n.idle b p n.count l (λ x ne. unset_initial x b (not_initial p x b w ne))
    | inr l ↦ absurd (let e = ap (λ (x : Process). writes x b) (L.beyond p l) in cc)
  ]

  pub begins_set : (p b : ℕ) → writes (n.process p) b ≡ true → beginning n b ≡ write_all n.idle (flatten (all_initial n p)) b
  begins_set p b w = elim (cases_lt p n.count) [
    | inl l ↦ after_one (all_initial n) n.idle b p n.count l (λ x ne. not_initial p x b w ne)
    | inr l ↦ absurd (let e = ap (λ (x : Process). writes x b) (L.beyond p l) in cc)
  ]

  -- the updates come after what is written at once
  pub begins_after : (p b : ℕ) → writes (n.process p) b ≡ true → write_all (at_first n) (flatten (n.initial_updates p)) b ≡ beginning n b
  begins_after p b w =
      write_all_at (flatten (n.initial_updates p)) (at_first n) (write_all n.idle (flatten (n.initial p))) b (first_set p b w)
      ∙ sym (ap (λ (s : State). s b) (write_all-append (flatten (n.initial p)) (flatten (n.initial_updates p)) n.idle))
      ∙ ap (λ ws. write_all n.idle ws b) (sym (flat_append (n.initial p) (n.initial_updates p)))
      ∙ sym (begins_set p b w)

  none_initial : (p : ℕ) → kind (n.process p) ≢ AClocked → all_initial n p ≡ []
  none_initial p k = ap (λ (us : List Update). us ++ n.initial_updates p) (L.initial_clocked p k).0 ∙ (L.initial_clocked p k).1

  -- so a bit of any other process is idle
  pub begins_other : (p b : ℕ) → kind (n.process p) ≢ AClocked → writes (n.process p) b ≡ true → beginning n b ≡ n.idle b
  begins_other p b k w = begins_set p b w ∙ ap (λ (us : List Update). write_all n.idle (flatten us) b) (none_initial p k) ∙ write_none n.idle b

  pub first_other : (p b : ℕ) → kind (n.process p) ≢ AClocked → writes (n.process p) b ≡ true → at_first n b ≡ n.idle b
  first_other p b k w = first_set p b w ∙ ap (λ (us : List Update). write_all n.idle (flatten us) b) (L.initial_clocked p k).0 ∙ write_none n.idle b

  undriven : (b : ℕ) → ((p : ℕ) → writes (n.process p) b ≡ false) → (p : ℕ) → is_written (flatten (all_initial n p)) b ≡ false
  undriven b h p = by_test (is_written (flatten (all_initial n p)) b) (λ e. absurd (both_ways (writes (n.process p) b) (h p) (L.initial_own p b e))) (λ e. e)

  -- and one without a driver
  pub begins_undriven : (b : ℕ) → ((p : ℕ) → writes (n.process p) b ≡ false) → beginning n b ≡ n.idle b
  begins_undriven b h = begins_idle b (undriven b h)

  pub first_undriven : (b : ℕ) → ((p : ℕ) → writes (n.process p) b ≡ false) → at_first n b ≡ beginning n b
  first_undriven b h = first_idle_at b (undriven b h) ∙ sym (begins_undriven b h)

-- where no initial process writes, all is idle
pub begins_none : (n : Network) → ((p : ℕ) → all_initial n p ≡ []) → (b : ℕ) → beginning n b ≡ n.idle b
begins_none n h b = after_none (all_initial n) n.idle b n.count (λ x l. ap (λ (us : List Update). is_written (flatten us) b) (h x) ∙ none_flat b)

pub first_none : (n : Network) → ((p : ℕ) → n.initial p ≡ []) → (b : ℕ) → at_first n b ≡ n.idle b
first_none n h b = after_none n.initial n.idle b n.count (λ x l. ap (λ (us : List Update). is_written (flatten us) b) (h x) ∙ none_flat b)
