-- After as many turns as there are processes no port leads on from a clock net.
use Rattle.std.proofs.Common.{◌≡◌, ℕ, zero, suc, ◌+◌, ◌≤◌, ◌<◌, true, List, [], ◌∷◌, ◌++◌, ◌==◌, ◌⊎◌, inl, inr, refl, sym, ap, ◌∙◌, subst, length, arith, length-append}
use Rattle.vs_design.specs.Designs.{Process}
use Rattle.vs_design.specs.Footprints.{contains}
use Rattle.vs_design.specs.Clocks.{port_target, port_targets, nets_within, clock_nets}
use Rattle.vs_design.specs.Laws.{ClockNetsAre}
use Rattle.vs_design.proofs.Lists.{or_left, contains-right}
use Rattle.vs_design.proofs.ClockNets.{clock_in, port_of, port_value, port_more, nets_more}
use Rattle.vs_design.proofs.Signals.{split}

-- more nets give a process the same port target, or one where it had none
target_more : (xs ys : List ℕ) (x : Process) → ((b : ℕ) → contains xs b ≡ true → contains ys b ≡ true) → (port_target xs x ≡ port_target ys x) ⊎ ((port_target xs x ≡ []) × (1 ≤ length (port_target ys x)))
target_more xs ys x f = go (port_target xs x) (port_target ys x) refl refl
  where
    go : (us vs : List ℕ) → port_target xs x ≡ us → port_target ys x ≡ vs → (us ≡ vs) ⊎ ((us ≡ []) × (1 ≤ length vs))
    go [] [] e g = inl refl
    go [] (v ∷ vs) e g = inr (refl, omega arith)
    go (u ∷ us) vs e g =
        let h : contains (port_target xs x) u ≡ true = subst (λ zs. contains zs u ≡ true) (sym e) (or_left (u == u) (contains us u) (Rattle.std.proofs.Common.eq-eqb u u refl)) in
        let p = port_of xs x u h in
        let q = port_of ys x u (port_more xs ys x u f h) in
        inl (sym e ∙ port_value xs x p ∙ ap (λ (s : Rattle.vs_design.specs.Expressions.Signal). s.first ∷ []) (same x p q) ∙ sym (port_value ys x q) ∙ g)
      where
        same : (x : Process) (p : Rattle.vs_design.proofs.ClockNets.PortFacts xs x) (q : Rattle.vs_design.proofs.ClockNets.PortFacts ys x) → p.signal ≡ q.signal
        same x p q =
            let e = sym p.is ∙ q.is in cc

targets_more : (xs ys : List ℕ) (ps : List Process) → ((b : ℕ) → contains xs b ≡ true → contains ys b ≡ true) → (port_targets xs ps ≡ port_targets ys ps) ⊎ (length (port_targets xs ps) < length (port_targets ys ps))
targets_more xs ys [] f = inl refl
targets_more xs ys (x ∷ ps) f = go (target_more xs ys x f) (targets_more xs ys ps f)
  where
    go : (port_target xs x ≡ port_target ys x) ⊎ ((port_target xs x ≡ []) × (1 ≤ length (port_target ys x))) → (port_targets xs ps ≡ port_targets ys ps) ⊎ (length (port_targets xs ps) < length (port_targets ys ps))
        → (port_targets xs (x ∷ ps) ≡ port_targets ys (x ∷ ps)) ⊎ (length (port_targets xs (x ∷ ps)) < length (port_targets ys (x ∷ ps)))
    go (inl e) (inl g) = inl (ap {B = List ℕ} (λ us. us ++ port_targets xs ps) e ∙ ap {B = List ℕ} (λ us. port_target ys x ++ us) g)
    go (inl e) (inr g) = let a = length-append (port_target xs x) (port_targets xs ps) in let b = length-append (port_target ys x) (port_targets ys ps) in let c = ap {B = ℕ} (λ (us : List ℕ). length us) e in inr (omega arith)
    go (inr e) (inl g) = let a = length-append (port_target xs x) (port_targets xs ps) in let b = length-append (port_target ys x) (port_targets ys ps) in let c = ap {B = ℕ} (λ (us : List ℕ). length us) e.0 in let m = ap {B = ℕ} (λ (us : List ℕ). length us) g in let k = e.1 in inr (omega arith)
    go (inr e) (inr g) = let a = length-append (port_target xs x) (port_targets xs ps) in let b = length-append (port_target ys x) (port_targets ys ps) in let c = ap {B = ℕ} (λ (us : List ℕ). length us) e.0 in let k = e.1 in inr (omega arith)

-- a process has one port target at most
one_target : (xs : List ℕ) (x : Process) → length (port_target xs x) ≤ 1
one_target xs x = go (port_target xs x) refl
  where
    go : (us : List ℕ) → port_target xs x ≡ us → length us ≤ 1
    go [] e = omega arith
    go (u ∷ us) e =
        let p = port_of xs x u (subst (λ zs. contains zs u ≡ true) (sym e) (or_left (u == u) (contains us u) (Rattle.std.proofs.Common.eq-eqb u u refl))) in
        let l = ap {B = ℕ} (λ (vs : List ℕ). length vs) (sym e ∙ port_value xs x p) in omega (arith, l)

few_targets : (xs : List ℕ) (ps : List Process) → length (port_targets xs ps) ≤ length ps
few_targets xs [] = omega arith
few_targets xs (x ∷ ps) = let a = one_target xs x in let b = few_targets xs ps in let l = length-append (port_target xs x) (port_targets xs ps) in omega (arith, a, b, l)

append_nil : (us : List ℕ) → us ++ [] ≡ us
append_nil [] = refl
append_nil (u ∷ us) = ap {B = List ℕ} (λ vs. u ∷ vs) (append_nil us)

module _ (ps : List Process) (c : List ℕ) where
  targets : ℕ → List ℕ
  targets k = port_targets (nets_within k ps c) ps

  step : (k : ℕ) → (targets k ≡ targets (suc k)) ⊎ (length (targets k) < length (targets (suc k)))
  unfolding targets
  step k = targets_more (nets_within k ps c) (nets_within (suc k) ps c) ps (λ b h. nets_more k ps c b h)

  stays : (k : ℕ) → targets k ≡ targets (suc k) → targets (suc k) ≡ targets (suc (suc k))
  unfolding targets
  stays k e = ap {B = List ℕ} (λ us. port_targets (c ++ us) ps) e

  -- the ports stay the same from some turn on, or there is one more at each
  grows : (k : ℕ) → (targets k ≡ targets (suc k)) ⊎ (suc k ≤ length (targets k))
  unfolding targets
  grows zero = start (targets zero) refl
    where
      start : (us : List ℕ) → targets zero ≡ us → (targets zero ≡ targets 1) ⊎ (1 ≤ length (targets zero))
      start [] e = inl (ap {B = List ℕ} (λ us. port_targets us ps) (sym (append_nil c)) ∙ ap {B = List ℕ} (λ us. port_targets (c ++ us) ps) (sym e))
      start (u ∷ us) e = inr (subst (λ (vs : List ℕ). 1 ≤ length vs) (sym e) (omega arith))
  grows (suc k) = go (grows k) (step k)
    where
      go : (targets k ≡ targets (suc k)) ⊎ (suc k ≤ length (targets k)) → (targets k ≡ targets (suc k)) ⊎ (length (targets k) < length (targets (suc k))) → (targets (suc k) ≡ targets (suc (suc k))) ⊎ (suc (suc k) ≤ length (targets (suc k)))
      go (inl e) s = inl (stays k e)
      go (inr l) (inl e) = inl (stays k e)
      go (inr l) (inr m) = inr (omega arith)

  settled : (m : ℕ) → length ps ≡ suc m → targets m ≡ targets (suc m)
  unfolding targets
  settled m e = go (grows m) (step m)
    where
      go : (targets m ≡ targets (suc m)) ⊎ (suc m ≤ length (targets m)) → (targets m ≡ targets (suc m)) ⊎ (length (targets m) < length (targets (suc m))) → targets m ≡ targets (suc m)
      go (inl h) s = h
      go (inr l) (inl h) = h
      go (inr l) (inr k) = let f = few_targets (nets_within (suc m) ps c) ps in absurd (omega arith)

pub closed : (ps : List Process) (c : List ℕ) (b : ℕ) → contains (port_targets (nets_within (length ps) ps c) ps) b ≡ true → contains (nets_within (length ps) ps c) b ≡ true
unfolding targets
closed ps c b h = go (length ps) refl h
  where
    go : (m : ℕ) → length ps ≡ m → contains (port_targets (nets_within m ps c) ps) b ≡ true → contains (nets_within m ps c) b ≡ true
    go zero e h = absurd (none ps e h)
      where
        none : (ps : List Process) → length ps ≡ 0 → contains (port_targets (nets_within zero ps c) ps) b ≡ true → ⊥
        none [] e h = cc
        none (x ∷ ps) e h = omega arith
    go (suc m) e h = contains-right c (port_targets (nets_within m ps c) ps) b (subst (λ us. contains us b ≡ true) (sym (settled ps c m e)) h)

-- the clock nets are the clock inputs and what ports lead to from them
pub clock_nets_are : ClockNetsAre
unfolding targets
clock_nets_are d c b = (there (length d.processes) refl, back)
  where
    there : (m : ℕ) → length d.processes ≡ m → contains (nets_within m d.processes c) b ≡ true → (contains c b ≡ true) ⊎ (contains (port_targets (nets_within m d.processes c) d.processes) b ≡ true)
    there zero e h = inl h
    there (suc m) e h = split c (port_targets (nets_within m d.processes c) d.processes) b h (λ k. inl k) (λ k. inr (subst (λ us. contains us b ≡ true) (settled d.processes c m e) k))

    back : (contains c b ≡ true) ⊎ (contains (port_targets (clock_nets d c) d.processes) b ≡ true) → contains (clock_nets d c) b ≡ true
    back (inl k) = clock_in (length d.processes) d.processes c b k
    back (inr k) = closed d.processes c b k
