-- The nets of several clocks are those of each of them.
use Rattle.std.proofs.Common.{◌≡◌, ℕ, zero, suc, true, List, [], ◌∷◌, ◌∙◌, sym, subst, length, refl, Option, Some}
use Rattle.vs_design.specs.Expressions.{Signal, signal_length}
use Rattle.vs_design.specs.Designs.{Process}
use Rattle.vs_design.specs.Footprints.{contains}
use Rattle.vs_design.specs.Clocks.{name_of, is_one_of, port_target, port_targets, nets_within}
use Rattle.vs_design.specs.Laws.{NetsOfEach}
use Rattle.vs_design.proofs.Lists.{contains_head, contains-left, contains-right}
use Rattle.vs_design.proofs.Signals.{split}
use Rattle.vs_design.proofs.ClockNets.{one_listed, PortFacts, port_value, port_at, port_listed, ports_more, one_net}

-- what one of the clocks leads to, all of them lead to
nets_grow : (n : ℕ) (ps : List Process) (c : ℕ) (cs : List ℕ) (b : ℕ) → contains cs c ≡ true → contains (nets_within n ps (c ∷ [])) b ≡ true → contains (nets_within n ps cs) b ≡ true
nets_grow zero ps c cs b m h = subst (λ n. contains cs n ≡ true) (sym (one_listed c b h)) m
nets_grow (suc n) ps c cs b m h =
    split (c ∷ []) (port_targets (nets_within n ps (c ∷ [])) ps) b h
    (λ e. contains-left cs (port_targets (nets_within n ps cs) ps) b (subst (λ n. contains cs n ≡ true) (sym (one_listed c b e)) m))
    (λ e. contains-right cs (port_targets (nets_within n ps cs) ps) b (ports_more (nets_within n ps (c ∷ [])) (nets_within n ps cs) ps b (λ b h. nets_grow n ps c cs b m h) e))

-- a port of some nets is one of others that have the net which it copies
port_again : (xs ys : List ℕ) (x : Process) (b : ℕ) (f : PortFacts xs x) → contains (port_target xs x) b ≡ true → is_one_of ys (name_of f.e) ≡ true → contains (port_target ys x) b ≡ true
port_again xs ys x b f h k =
    let g : PortFacts ys x = record { place = f.place; port = f.port; target_place = f.target_place; signal = f.signal; e = f.e; is = f.is; from = k; one_bit = f.one_bit } in
    subst (λ zs. contains zs b ≡ true) (port_value xs x f ∙ sym (port_value ys x g)) h

one_in : (ys : List ℕ) (o : Option Signal) (s : Signal) → o ≡ Some s → signal_length s ≡ 1 → contains ys s.first ≡ true → is_one_of ys o ≡ true
one_in ys o s q l n = subst (λ y. is_one_of ys y ≡ true) (sym q) (rw (l, n) refl)

-- the clock that a net copies
net_from : (n : ℕ) (ps : List Process) (cs : List ℕ) (b : ℕ) → contains (nets_within n ps cs) b ≡ true → (c : ℕ) × (contains cs c ≡ true) × (contains (nets_within n ps (c ∷ [])) b ≡ true)
net_from zero ps cs b h = (b, h, contains_head b [])
net_from (suc n) ps cs b h =
    split cs (port_targets (nets_within n ps cs) ps) b h
    (λ e. (b, e, contains_head b (port_targets (nets_within n ps (b ∷ [])) ps)))
    (λ e.
    let q = port_at (nets_within n ps cs) ps b e in
    let o = one_net (nets_within n ps cs) (name_of q.port.e) q.port.from in
    let r = net_from n ps cs o.0.first o.3 in
    let k = port_again (nets_within n ps cs) (nets_within n ps (r.0 ∷ [])) q.process b q.port q.has_it (one_in (nets_within n ps (r.0 ∷ [])) (name_of q.port.e) o.0 o.1 o.2 r.2) in
    (r.0, r.1, contains-right (r.0 ∷ []) (port_targets (nets_within n ps (r.0 ∷ [])) ps) b (port_listed (nets_within n ps (r.0 ∷ [])) ps q.number q.process b q.is k)))

pub nets_of_each : NetsOfEach
nets_of_each d clocks b = ((λ h. net_from (length d.processes) d.processes clocks b h), (λ r. nets_grow (length d.processes) d.processes r.0 clocks b r.1 r.2))
