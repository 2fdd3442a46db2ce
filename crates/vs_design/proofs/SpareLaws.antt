-- A clock that isn't a bit of the design has no other net, nothing reads it, and no clocked block is on it.
use Rattle.std.proofs.Common.{◌≡◌, ℕ, zero, suc, ◌≤◌, ◌<◌, Bool, true, false, List, [], ◌∷◌, ◌++◌, ◌&&◌, ◌==◌, not, if◌then◌else◌, refl, sym, ap, ◌∙◌, subst, length, Option, Some, None, arith}
use Rattle.std.specs.Prelude.{slice_get, is_some}
use Rattle.std.specs.List.{list_any, list_all}
use Rattle.vs_design.specs.Expressions.{signal_length}
use Rattle.vs_design.specs.Designs as D
use Rattle.vs_design.specs.Designs.{Event, Process, Continuous, Always, is_clocked, is_combinational, Design, bit_count}
use Rattle.vs_design.specs.Footprints.{contains, without, all_reads, reads_of, writes_of, waits_of}
use Rattle.vs_design.specs.Clocks.{name_of, edge_bit, is_clock_net, port_target, port_targets, nets_within, clock_nets, root_of, is_clock_port, reads_clock, is_clock_event, is_reset_event, Events, both_events, events_of, has_other_clock}
use Rattle.vs_design.specs.Elaborated.{IsLawfulDesign, is_plain, is_nil, is_formed_event, are_formed_events, is_formed_statement, is_formed_process}
use Rattle.vs_design.specs.Laws.{SpareClockIs}
use Rattle.vs_design.proofs.Lists.{by_test, and_both, or_false, contains-append, contains-left, contains_filter}
use Rattle.vs_design.proofs.Writes.{either_way}
use Rattle.vs_design.proofs.Formed.{plain_signal, signal_at}
use Rattle.vs_design.proofs.Within.{signal_below}
use Rattle.vs_design.proofs.Named.{bits_of_design}
use Rattle.vs_design.proofs.Parts.{all_at}
use Rattle.vs_design.proofs.LawfulParts.{positive, first_bit}
use Rattle.vs_design.proofs.ClockNets.{PortFacts, port_at, one_net, name_facts, one_listed}

empty : (xs : List ℕ) → ((b : ℕ) → contains xs b ≡ true → ⊥) → xs ≡ []
empty [] f = refl
empty (x ∷ xs) f = absurd (f x (Rattle.vs_design.proofs.Lists.contains_head x xs))

module _ (d : Design) (l : IsLawfulDesign d) (clock : ℕ) (h : bit_count d ≤ clock) where
  abbrev nets : List ℕ
  nets = clock ∷ []

  read_below : (p : ℕ) (x : Process) (b : ℕ) → slice_get d.processes p ≡ Some x → contains (all_reads x) b ≡ true → b < bit_count d
  read_below p x b e r = bits_of_design d l p x e b (contains-left (all_reads x) (writes_of x ++ waits_of x) b r)

  wait_below : (p : ℕ) (x : Process) (b : ℕ) → slice_get d.processes p ≡ Some x → contains (waits_of x) b ≡ true → b < bit_count d
  wait_below p x b e r = bits_of_design d l p x e b (Rattle.vs_design.proofs.Lists.contains-right (all_reads x) (writes_of x ++ waits_of x) b (Rattle.vs_design.proofs.Lists.contains-right (writes_of x) (waits_of x) b r))

  not_net : (b : ℕ) → b < bit_count d → contains nets b ≡ false
  not_net b k = by_test (contains nets b) (λ e. absurd (let q = one_listed clock b e in omega (arith, h, k, q))) (λ e. e)

  -- ---- it has no other net

  no_port : (p : ℕ) (x : Process) (b : ℕ) → slice_get d.processes p ≡ Some x → PortFacts nets x → ⊥
  no_port p x b e f =
      let o = one_net nets (name_of f.e) f.from in
      let n = name_facts f.e o.0 o.1 in
      let below = read_below p x o.0.first e (subst (λ y. contains (all_reads y) o.0.first ≡ true) (sym f.is) (subst (λ (bs : List ℕ). contains bs o.0.first ≡ true) (sym n.reads_is) (first_bit o.0))) in
      either_way (contains nets o.0.first) o.3 (not_net o.0.first below)

  no_targets : port_targets nets d.processes ≡ []
  no_targets = empty (port_targets nets d.processes) (λ b k. let q = port_at nets d.processes b k in no_port q.number q.process b q.is q.port)

  only : (n : ℕ) → nets_within n d.processes nets ≡ nets
  only zero = refl
  only (suc n) = ap {B = List ℕ} (λ bs. clock ∷ port_targets bs d.processes) (only n) ∙ ap {B = List ℕ} (λ bs. clock ∷ bs) no_targets

  spare_nets : clock_nets d nets ≡ nets
  spare_nets = only (length d.processes)

  -- ---- nothing reads it

  none_in : (bs : List ℕ) → ((b : ℕ) → contains bs b ≡ true → b < bit_count d) → list_any (contains nets) bs ≡ false
  none_in [] f = refl
  none_in (b ∷ bs) f = or_false (contains nets b) (list_any (contains nets) bs) (not_net b (f b (Rattle.vs_design.proofs.Lists.contains_head b bs))) (none_in bs (λ c k. f c (Rattle.vs_design.proofs.Lists.or_right (c == b) (contains bs c) k)))

  reads_within : (x : Process) (b : ℕ) → contains (reads_of x) b ≡ true → contains (all_reads x) b ≡ true
  reads_within x b = go (is_combinational x)
    where
      go : (c : Bool) → contains (if c then without (all_reads x) (writes_of x) else all_reads x) b ≡ true → contains (all_reads x) b ≡ true
      go true k = (and_both (contains (all_reads x) b) (not (contains (writes_of x) b)) (sym (contains_filter (λ b. not (contains (writes_of x) b)) (all_reads x) b) ∙ k)).0
      go false k = k

  unread : (p : ℕ) (x : Process) → slice_get d.processes p ≡ Some x → reads_clock nets x ≡ false
  unread p x e = and_false (not (is_clock_port nets x)) (list_any (contains nets) (reads_of x ++ waits_of x)) (none_in (reads_of x ++ waits_of x) below)
    where
      and_false : (a b : Bool) → b ≡ false → (a && b) ≡ false
      and_false true b k = k
      and_false false b k = refl

      below : (b : ℕ) → contains (reads_of x ++ waits_of x) b ≡ true → b < bit_count d
      below b k = Rattle.vs_design.proofs.Signals.split (reads_of x) (waits_of x) b k (λ r. read_below p x b e (reads_within x b r)) (λ r. wait_below p x b e r)

  none_reads : (ps : List Process) → ((p : ℕ) (x : Process) → slice_get ps p ≡ Some x → reads_clock nets x ≡ false) → list_any (reads_clock nets) ps ≡ false
  none_reads [] f = refl
  none_reads (x ∷ ps) f = or_false (reads_clock nets x) (list_any (reads_clock nets) ps) (f 0 x refl) (none_reads ps (λ p y e. f (suc p) y e))

  -- ---- no clocked block is on it

  no_event : (e : Event) → is_formed_event d e ≡ true → is_clock_event nets e ≡ false
  no_event e f = by_edge e.edge
    where
      below : e.signal.first < bit_count d
      below =
          let p = and_both (is_plain d e.signal) _ f in
          let m = signal_below 0 d.signals e.signal.number e.signal l.bits_numbered (signal_at d e.signal (plain_signal d e.signal p.0)) in
          let k = positive e.signal in omega (arith, m, k)

      by_edge : (g : D.Edge) → is_clock_net nets (edge_bit g e.signal) ≡ false
      by_edge D.Posedge = by_length (signal_length e.signal == 1)
        where
          by_length : (c : Bool) → is_clock_net nets (if c then Some e.signal.first else None) ≡ false
          by_length true = not_net e.signal.first below
          by_length false = refl
      by_edge D.Negedge = refl
      by_edge D.Any = refl

  no_events : (roots : ℕ → Option ℕ) (es : List Event) → list_all (is_formed_event d) es ≡ true → events_of nets roots es ≡ None
  no_events roots [] f = refl
  no_events roots (e ∷ []) f = rw (no_event e (and_both (is_formed_event d e) true f).0) refl
  no_events roots (e ∷ g ∷ []) f =
      let p = and_both (is_formed_event d e) (list_all (is_formed_event d) (g ∷ [])) f in
      let q = and_both (is_formed_event d g) true p.1 in
      neither (is_clock_event nets e) (is_clock_event nets g) (is_reset_event roots g) (is_reset_event roots e) (no_event e p.0) (no_event g q.0)
    where
      neither : (a b r s : Bool) → a ≡ false → b ≡ false → (if a && r then Some (Rattle.vs_design.specs.Clocks.ByBoth e g) else (if b && s then Some (Rattle.vs_design.specs.Clocks.ByBoth g e) else None)) ≡ None
      neither a b r s i j = rw (i, j) refl
  no_events roots (e ∷ g ∷ i ∷ es) f = refl

  other : (p : ℕ) (x : Process) → slice_get d.processes p ≡ Some x → is_clocked x ≡ true → has_other_clock nets (root_of d nets) x ≡ true
  other p (Continuous place port target_place target e) i k = cc
  other p (Always place star events st) i k = other_by (events_of nets (root_of d nets) events) (none_of star (and_both (are_formed_events d star events) (is_formed_statement d st) (all_at (is_formed_process d) d.processes p (Always place star events st) l.formed i)).0)
    where
      none_of : (star : Bool) → are_formed_events d star events ≡ true → events_of nets (root_of d nets) events ≡ None
      none_of true f = nil events f
        where
          nil : (es : List Event) → is_nil es ≡ true → events_of nets (root_of d nets) es ≡ None
          nil [] f = refl
          nil (e ∷ es) f = cc
      none_of false f = no_events (root_of d nets) events (and_both (not (is_nil events)) (list_all (is_formed_event d) events) f).1

      other_by : (o : Option Events) → o ≡ None → (is_clocked (Always place star events st) && not (is_some o)) ≡ true
      other_by o e = rw (e, k) refl

pub spare_clock_is : SpareClockIs
spare_clock_is d l clock h = (
  spare_nets d l clock h,
  subst (λ (bs : List ℕ). list_any (reads_clock bs) d.processes ≡ false) (sym (spare_nets d l clock h)) (none_reads d l clock h d.processes (unread d l clock h)),
  (λ p x e k. subst (λ (bs : List ℕ). has_other_clock bs (root_of d (clock ∷ [])) x ≡ true) (sym (spare_nets d l clock h)) (other d l clock h p x e k)),
)
