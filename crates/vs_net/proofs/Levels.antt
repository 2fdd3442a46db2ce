-- Induction over the level order.
use Rattle.std.proofs.Common.{◌≡◌, ℕ, zero, suc, ◌≤◌, arith, true, false, List, [], ◌∷◌, ◌⊎◌, inl, inr, sym, ap, subst}
use Rattle.vs_net.specs.Network.{Process, Network, Kind, AnInput, TheClock, AnAssign, AComb, AClocked, kind, writes, listens}
use Rattle.vs_net.specs.Solution.{IsWriter}
use Rattle.vs_net.proofs.Basics.{by_test, same_number}
use Rattle.vs_net.specs.Lawful.{IsLawful, IsOrdered, Settles}

-- who writes a bit: nothing, an assign or a combinational block, or a writer of updates
pub data Writer (n : Network) (b : ℕ) : Type 0 where
  no_writer : ((p : ℕ) → writes (n.process p) b ≡ false) → Writer n b
  settles : (p : ℕ) → writes (n.process p) b ≡ true → Settles (kind (n.process p)) → Writer n b
  updates : (p : ℕ) → writes (n.process p) b ≡ true → IsWriter (kind (n.process p)) → ((r : ℕ) → writes (n.process r) b ≡ true → r ≡ p) → Writer n b

pub settles_or_writes : (k : Kind) → Settles k ⊎ IsWriter k
settles_or_writes AnInput = inr tt
settles_or_writes TheClock = inr tt
settles_or_writes AClocked = inr tt
settles_or_writes AnAssign = inl tt
settles_or_writes AComb = inl tt

pub not_both : (k : Kind) → Settles k → IsWriter k → ⊥
not_both AnInput s w = s
not_both TheClock s w = s
not_both AClocked s w = s
not_both AnAssign s w = w
not_both AComb s w = w

module _ (n : Network) (L : IsLawful n) where
  pub same_writer : (p r b : ℕ) → writes (n.process p) b ≡ true → writes (n.process r) b ≡ true → r ≡ p
  same_writer p r b h k = L.one_writer p r b h k

  beyond_writes : (p b : ℕ) → n.count ≤ p → writes (n.process p) b ≡ false
  beyond_writes p b h = ap (λ (x : Process). writes x b) (L.beyond p h)

  -- a search among the processes
  pub writer_of : (b : ℕ) → Writer n b
  writer_of b = search_below n.count (λ p h. beyond_writes p b h)
    where
      found : (p : ℕ) → writes (n.process p) b ≡ true → Settles (kind (n.process p)) ⊎ IsWriter (kind (n.process p)) → Writer n b
      found p w (inl s) = settles p w s
      found p w (inr u) = updates p w u (λ r h. L.one_writer p r b w h)

      search_below : (k : ℕ) → ((p : ℕ) → k ≤ p → writes (n.process p) b ≡ false) → Writer n b
      search_below zero none = no_writer (λ p. none p (omega arith))
      search_below (suc k) none = by_test (writes (n.process k) b)
          (λ e. found k e (settles_or_writes (kind (n.process k))))
          (λ e. search_below k (λ p le. same_number p k (λ h. subst (λ (x : ℕ). writes (n.process x) b ≡ false) (sym h) e) (λ ne. none p (omega arith))))

  -- what follows for each process from the processes below it
  pub by_order : (Q : ℕ → Type 0) → ((p : ℕ) → Settles (kind (n.process p)) → ((b r : ℕ) → listens (n.process p) b ≡ true → writes (n.process r) b ≡ true → Settles (kind (n.process r)) → Q r) → Q p) → (p : ℕ) → Settles (kind (n.process p)) → Q p
  by_order Q step p s = go L.order (λ r. ⊥) (λ r h. absurd h) L.ordered p s s
    where
      go : (order : List ℕ) (placed : ℕ → Type 0) → ((r : ℕ) → placed r → Settles (kind (n.process r)) → Q r) → IsOrdered n placed order → (p : ℕ) → Settles (kind (n.process p)) → Settles (kind (n.process p)) → Q p
      go [] placed done o p s s' = done p (o p s) s
      go (x ∷ order) placed done o p s s' =
          go order (λ r. placed r ⊎ (r ≡ x))
          (λ r h sr. elim h [
            | inl h ↦ done r h sr
            | inr e ↦ subst Q (sym e) (step x (subst (λ (y : ℕ). Settles (kind (n.process y))) e sr) (λ b t l w st. done t (o.0 b t l w st) st))
          ])
          o.1 p s s'
