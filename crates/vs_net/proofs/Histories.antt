-- The values of a solution tell which blocks have been woken.
use Rattle.vs_net.proofs.Beginning.{begins_idle, begins_other}
use Rattle.std.proofs.Common.{◌≡◌, ℕ, Bool, true, false, not, ◌||◌, List, [], ◌∷◌, Some, refl, sym, ap, ◌∙◌, subst}
use Rattle.std.proofs.lemmas.Bool.{both_ways}
use Rattle.vs_four.specs.declared.Bit4.TheVariants.{X}
use Rattle.vs_net.specs.Network.{Sleeper, State, write_all, Network, kind, writes, listens, made}
use Rattle.vs_net.specs.Queue.{Slot}
use Rattle.vs_net.specs.Solution.{all_x, is_asleep, given, IsSolution, beginning}
use Rattle.vs_net.specs.Lawful.{IsLawful, Settles, IsSure}
use Rattle.vs_net.specs.Laws.{HasAsTold, IsAsTold, HistoryIsInValues}
use Rattle.vs_net.proofs.Basics.{by_test, write_all_covered}
use Rattle.vs_net.proofs.Parts.{Agrees, sure_sleeper}
use Rattle.vs_net.proofs.Ends.{agrees_all}
use Rattle.vs_net.proofs.Asleep.{AsleepAt, all_x_at, all_x_of, asleep_true, asleep_is, given_made, given_blank, blank_x}

module _ (n : Network) (L : IsLawful n) (p : ℕ) (x : Sleeper) (e : n.sleeper p ≡ Some x) where
  st : Settles (kind (n.process p))
  st = subst Settles (sym (L.sleepers p x e).comb) tt

  on_x : (s : State) → all_x s x.on ≡ true → (b : ℕ) → listens (n.process p) b ≡ true → s b ≡ X
  on_x s h b l = all_x_at s x.on h b ((L.sleepers p x e).on_is b ∙ l)

  -- how the block stands
  data Stands (s : State) : Bool → Type 0 where
    sleeping : AsleepAt n s p → Stands s false
    woken : Agrees n p s → Stands s true

  sure : (s : State) → IsSure n p s
  sure s = sure_sleeper n L p s x e

  agreed_at : (before s : State) → write_all s (given n before p s) ≡ s → is_asleep (n.sleeper p) before s ≡ false → Agrees n p s
  agreed_at before s g t known b w = ap (λ ws. write_all s ws b) (sym (given_made n L before s p t)) ∙ ap (λ (f : State). f b) g

  -- a block that has been woken agrees, also where it is taken to sleep
  still_agrees : (before s : State) → write_all s (given n before p s) ≡ s → Agrees n p before → Agrees n p s
  still_agrees before s g h = by_test (is_asleep (n.sleeper p) before s)
      (λ t. let a = asleep_is n L before s p t in
      λ known b w.
      ap (λ ws. write_all s ws b) (L.local p s before st (sure s) (λ c l. a.listened c l ∙ sym (a.before_asleep.listened c l)))
      ∙ write_all_covered (made (n.process p) before) s before b ((L.sleepers p x e).exact b before w)
      ∙ h (sure before) b w
      ∙ a.before_asleep.bits b w
      ∙ sym (sym (ap (λ (f : State). f b) g) ∙ ap (λ ws. write_all s ws b) (given_blank n L before s p t) ∙ blank_x (made (n.process p) s) s b ((L.sleepers p x e).exact b s w)))
      (λ t. agreed_at before s g t)

  step : (before s : State) (was : Bool) → write_all s (given n before p s) ≡ s → Stands before was → (test : Bool) → all_x s x.on ≡ test → HasAsTold n p x (was || not test) s × Stands s (was || not test)
  step before s true g (woken h) test t = let a = still_agrees before s g h in (agrees_all n L p s st (sure s) a, woken a)
  step before s false g (sleeping h) false t =
      let no : is_asleep (n.sleeper p) before s ≡ false = by_test (is_asleep (n.sleeper p) before s)
      (λ y. let a = asleep_is n L before s p y in absurd (both_ways (all_x s x.on) t (all_x_of s x.on (λ b m. a.listened b (sym ((L.sleepers p x e).on_is b) ∙ m)))))
      (λ y. y) in
      let a = agreed_at before s g no in (agrees_all n L p s st (sure s) a, woken a)
  step before s false g (sleeping h) true t =
      let yes = asleep_true n L before s p (record { sleeper = x; is_sleeper = e; before_asleep = h; listened = on_x s t }) in
      let bits : (b : ℕ) → writes (n.process p) b ≡ true → s b ≡ X = (λ b w. sym (ap (λ (f : State). f b) g) ∙ ap (λ ws. write_all s ws b) (given_blank n L before s p yes) ∙ blank_x (made (n.process p) s) s b ((L.sleepers p x e).exact b s w)) in
      (all_x_of s x.bits (λ b m. bits b (sym ((L.sleepers p x e).bits_is b) ∙ m)), sleeping (record { listened = on_x s t; bits = bits }))

  told : (before : State) (slots : List Slot) (ss : List State) (was : Bool) → Stands before was → IsSolution n before slots ss → IsAsTold n p x was ss
  told before [] [] was h s = tt
  told before (slot ∷ slots) [] was h s = tt
  told before [] (y ∷ ys) was h s = absurd s
  told before (slot ∷ slots) (y ∷ ys) was h s =
      let one = step before y was (s.0.settled p st (sure y)) h (all_x y x.on) refl in
      (one.0, told y slots ys (was || not (all_x y x.on)) one.1 s.1)

  idle_stands : Stands (beginning n) false
  idle_stands = sleeping (record { listened = λ b l. begins_idle n L b (λ r. (L.sleepers p x e).unset b r l) ∙ (L.sleepers p x e).idle b l; bits = λ b w. begins_other n L p b (λ k. let c = (L.sleepers p x e).comb in cc) w ∙ L.idle_x p b w (λ k. let c = (L.sleepers p x e).comb in cc) })

pub history_is_in_values : HistoryIsInValues
history_is_in_values n L slots ss s p x e = told n L p x e (beginning n) slots ss false (idle_stands n L p x e) s
