-- One pass over a level order solves the equations of a slot.
use Rattle.std.proofs.Common.{◌≡◌, ◌≢◌, ℕ, true, false, List, [], ◌∷◌, ◌⊎◌, inl, inr, refl, sym, ap, ◌∙◌, subst}
use Rattle.std.proofs.lemmas.Bool.{both_ways}
use Rattle.vs_net.specs.Network.{State, write_all, Network, Kind, AnInput, TheClock, AnAssign, AComb, AClocked, kind, writes, listens}
use Rattle.vs_net.specs.Queue.{Slot}
use mathlib.Core.Path.{fun_ext}
use Rattle.vs_net.specs.Solution.{given, IsSlotEnd}
use Rattle.vs_net.proofs.Asleep.{given_off, given_local}
use Rattle.vs_net.specs.Lawful.{IsLawful, IsOrdered, Settles, IsSure, IsOnce}
use Rattle.vs_net.specs.Settle.{settled_by, settle, IsFed}
use Rattle.vs_net.specs.Laws.{OnePassSettles}
use Rattle.vs_net.proofs.Basics.{by_test, same_number, write_all_at, write_all_other, write_all_again}
use Rattle.vs_net.proofs.Parts.{not_written, sure_same}
use Rattle.vs_net.proofs.Levels.{not_both}

module _ (n : Network) (L : IsLawful n) (before : State) where
  -- a process agrees with what it is given
  abbrev pub Holds : ℕ → State → Type 0
  Holds p s = IsSure n p s → (b : ℕ) → writes (n.process p) b ≡ true → write_all s (given n before p s) b ≡ s b

  abbrev pub turn : ℕ → State → State
  turn p s = write_all s (settled_by (kind (n.process p)) (given n before p s))

  holds_all : (p : ℕ) (s : State) → Settles (kind (n.process p)) → Holds p s → IsSure n p s → write_all s (given n before p s) ≡ s
  holds_all p s k g sure = fun_ext (λ b. by_test (writes (n.process p) b) (g sure b) (λ e. write_all_other (given n before p s) s b (given_off n L before s p b k e)))

  unwritten : (s : State) (b : ℕ) → write_all s [] b ≡ s b
  unfolding write_all
  unwritten s b = refl

  -- a bit that p doesn't write stays, and so does all where p is neither an assign nor a combinational block
  turn_other : (p : ℕ) (s : State) (b : ℕ) → (Settles (kind (n.process p)) → writes (n.process p) b ≡ false) → turn p s b ≡ s b
  turn_other p s b h = by_kind (kind (n.process p)) refl
    where
      other : Settles (kind (n.process p)) → write_all s (given n before p s) b ≡ s b
      other k = write_all_other (given n before p s) s b (given_off n L before s p b k (h k))

      by_kind : (k : Kind) → kind (n.process p) ≡ k → write_all s (settled_by k (given n before p s)) b ≡ s b
      by_kind AnAssign e = other (subst Settles (sym e) tt)
      by_kind AComb e = other (subst Settles (sym e) tt)
      by_kind AnInput e = unwritten s b
      by_kind TheClock e = unwritten s b
      by_kind AClocked e = unwritten s b

  turn_is : (p : ℕ) (s : State) → Settles (kind (n.process p)) → turn p s ≡ write_all s (given n before p s)
  turn_is p s k = by_kind (kind (n.process p)) k
    where
      by_kind : (z : Kind) → Settles z → write_all s (settled_by z (given n before p s)) ≡ write_all s (given n before p s)
      by_kind AnAssign x = refl
      by_kind AComb x = refl
      by_kind AnInput x = absurd x
      by_kind TheClock x = absurd x
      by_kind AClocked x = absurd x

  pub turn_own : (p : ℕ) (s : State) → Settles (kind (n.process p)) → Holds p (turn p s)
  turn_own p s k sure b w =
      let reads = given_local n L before (turn p s) s p k sure (λ c l. turn_other p s c (λ x. by_test (writes (n.process p) c) (λ e. absurd (both_ways (listens (n.process p) c) (L.apart p c e) l)) (λ e. e))) in
      let is : turn p s b ≡ write_all s (given n before p s) b = ap (λ (f : State). f b) (turn_is p s k) in
      ap (λ ws. write_all (turn p s) ws b) reads ∙ write_all_at (given n before p s) (turn p s) (write_all s (given n before p s)) b is ∙ write_all_again (given n before p s) s b ∙ sym is

  -- a process that had its turn before reads nothing that p writes
  pub turn_placed : (p r : ℕ) (s : State) → r ≢ p → Settles (kind (n.process r)) → Holds r s → ((b : ℕ) → listens (n.process r) b ≡ true → writes (n.process p) b ≡ true → Settles (kind (n.process p)) → ⊥) → Holds r (turn p s)
  turn_placed p r s ne k g apart sure b w =
      let same : (c : ℕ) → listens (n.process r) c ≡ true → turn p s c ≡ s c = (λ c l. turn_other p s c (λ st. by_test (writes (n.process p) c) (λ e. absurd (apart c l e st)) (λ e. e))) in
      let reads = given_local n L before (turn p s) s r k sure same in
      let own = turn_other p s b (λ st. not_written n L p r b ne w) in
      ap (λ ws. write_all (turn p s) ws b) reads ∙ write_all_at (given n before r s) (turn p s) s b own ∙ g (sure_same n L r (turn p s) s same sure) b w ∙ sym own

  -- after the turns of these processes each agrees with what it is given, and what none of them writes is as before
  pub record Passed (order : List ℕ) (s : State) : Type 0 where
    pub agree : (p : ℕ) → Settles (kind (n.process p)) → Holds p (settle n before order s)
    pub stays : (b : ℕ) → ((p : ℕ) → Settles (kind (n.process p)) → writes (n.process p) b ≡ false) → settle n before order s b ≡ s b

  pass : (order : List ℕ) (placed : ℕ → Type 0) (s : State)
      → ((r : ℕ) → placed r → Settles (kind (n.process r)) → Holds r s)
      → ((r b x : ℕ) → placed r → listens (n.process r) b ≡ true → writes (n.process x) b ≡ true → Settles (kind (n.process x)) → placed x)
      → IsOrdered n placed order → IsOnce placed order → Passed order s
  pass [] placed s done closed o once = record { agree = λ p k. done p (o p k) k; stays = λ b h. refl }
  pass (p ∷ order) placed s done closed o once =
      let rest = pass order (λ x. placed x ⊎ (x ≡ p)) (turn p s)
      (λ r h k. same_number r p
      (λ e. subst (λ (x : ℕ). Holds x (turn p s)) (sym e) (turn_own p s (subst (λ (x : ℕ). Settles (kind (n.process x))) e k)))
      (λ ne. elim h [ inl h ↦ turn_placed p r s ne k (done r h k) (λ b l w st. once.0 (closed r b p h l w st)) | inr e ↦ absurd (ne e) ]))
      (λ x b y h l w st. elim h [ inl h ↦ inl (closed x b y h l w st) | inr f ↦ inl (o.0 b y (subst (λ (z : ℕ). listens (n.process z) b ≡ true) f l) w st) ])
      o.1 once.1 in
      record { agree = rest.agree; stays = λ b h. rest.stays b h ∙ turn_other p s b (λ k. h p k) }

  -- so the slot ends there
  pub passed_end : (order : List ℕ) (slot : Slot) (s : State) → Passed order s → IsFed n before slot s → IsSlotEnd n before slot (settle n before order s)
  passed_end order slot s done fed = record {
    settled = λ p k sure. holds_all p (settle n before order s) k (done.agree p k) sure;
    updated = λ p b u w. done.stays b (λ r k. by_test (writes (n.process r) b) (λ e. absurd (not_both (kind (n.process p)) (subst (λ (x : ℕ). Settles (kind (n.process x))) (L.one_writer p r b w e) k) u)) (λ e. e)) ∙ fed.updated p b u w;
    kept = λ b none. done.stays b (λ r k. none r) ∙ fed.kept b none;
  }

  one_pass : (order : List ℕ) → IsOrdered n (λ p. ⊥) order → IsOnce (λ p. ⊥) order → (slot : Slot) (s : State) → IsFed n before slot s → IsSlotEnd n before slot (settle n before order s)
  one_pass order ordered once slot s fed = passed_end order slot s (pass order (λ p. ⊥) s (λ r h k. absurd h) (λ r b x h l w st. absurd h) ordered once) fed

pub one_pass_settles : OnePassSettles
one_pass_settles n L order ordered once before slot s fed = one_pass n L before order ordered once slot s fed
