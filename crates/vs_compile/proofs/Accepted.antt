-- What an accepted design gives.
use Rattle.std.proofs.Common.{◌≡◌, ℕ, zero, suc, ◌<◌, arith, length, Bool, true, false, ◌||◌, List, [], ◌∷◌, Option, Some, slice_get, sym, ap, ◌∙◌, subst, refl}
use Rattle.std.specs.List.{list_any}
use Rattle.vs_design.specs.Accepted.{is_empty}
use Rattle.vs_design.specs.Clocks.{clock_bits, clock_nets, reads_clock}
use Rattle.vs_design.specs.Designs.{Process, Design, bit_count}
use Rattle.vs_design.specs.Elaborated.{IsLawfulDesign}
use Rattle.vs_design.specs.Footprints.{contains, writes_of}
use Rattle.vs_design.specs.Levels.{needs}
use Rattle.vs_design.specs.Expressions.{Signal}
use Rattle.vs_design.specs.Rules.{missing_bits}
use Rattle.vs_clock.specs.Clocked.{Clocked, AreResets}
use Rattle.vs_clock.specs.declared.resets.Reset.{Reset}
use Rattle.vs_clock.specs.Resets.{IsReset, reset_at}
use Rattle.vs_flat.specs.Arena.{Arena}
use Rattle.vs_flat.specs.DesignOf.{design_of}
use Rattle.vs_reads.specs.Footprint.{Footprint, footprints_of}
use Rattle.vs_reads.specs.Footprint as R
use Rattle.vs_reads.specs.Laws.{EachHasItsBits}
use Rattle.vs_clock.specs.Nets.{AreNets, Labelled, is_clock_bit}
use Rattle.vs_cone.specs.Cones.{is_port_or, needs_at, needs_or, writes_at, writes_or}
use Rattle.vs_assemble.specs.Flags.{HasBitsOf}
use Rattle.vs_program.specs.Compiled.{IsAcceptedAt}
use Rattle.vs_compile.specs.Known.{IsAcceptedBy, AreFacts, Known}
use Rattle.vs_compile.proofs.Lists.{at_process, is_none, same_any, same_test}
use Rattle.vs_compile.proofs.Needs.{bits_of}
use Rattle.vs_compile.proofs.Ports.{needs_tell}

pub accepted_at : (d : Design) (c : Clocked) → IsAcceptedBy d c → IsAcceptedAt d c.bits
accepted_at d c h = record {
  names = h.names;
  accepted = h.accepted;
  clocks_are = ap clock_bits (some_is h.accepted.clocks h.clocks.signals (sym h.accepted.clocks_found ∙ h.clocks.are)) ∙ sym h.clocks.bits_are;
}
  where
    some_is : (a b : List Signal) → Some a ≡ Some b → a ≡ b
    some_is a b q = cc

pub are_facts : (a : Arena) (fs : List Footprint) (c : Clocked) → IsAcceptedBy (design_of a) c → fs ≡ footprints_of (design_of a) → AreResets a c → AreFacts a fs c
are_facts a fs c h foot resets =
    let at = accepted_at (design_of a) c h in
    record {
      accepted = at;
      footprints_are = foot;
      nets = subst (λ n. AreNets (design_of a) n c.nets) (sym h.clocks.bits_are) h.clocks.nets_are;
      resets = resets;
    }

pub none_missing : (d : Design) (clocks : List ℕ) → IsAcceptedAt d clocks → (p : ℕ) (x : Process) → slice_get d.processes p ≡ Some x → missing_bits x ≡ []
none_missing d clocks at p x e = is_none (missing_bits x) (at_process (λ z. is_empty (missing_bits z)) d.processes p x at.accepted.sensitive e)

none_passes : (test : Process → Bool) (ps : List Process) (p : ℕ) (x : Process) → list_any test ps ≡ false → slice_get ps p ≡ Some x → test x ≡ false
none_passes test [] p x h e = cc
none_passes test (y ∷ ps) zero x h e = let same : y ≡ x = some_is y x e in ap test (sym same) ∙ left (test y) (list_any test ps) h
  where
    some_is : (a b : Process) → Some a ≡ Some b → a ≡ b
    some_is a b q = cc

    left : (u v : Bool) → (u || v) ≡ false → u ≡ false
    left false v k = refl
    left true v k = cc
none_passes test (y ∷ ps) (suc p) x h e = none_passes test ps p x (right (test y) (list_any test ps) h) e
  where
    right : (u v : Bool) → (u || v) ≡ false → v ≡ false
    right false v k = k
    right true v k = cc

pub clock_unread : (d : Design) (clocks : List ℕ) → IsAcceptedAt d clocks → (p : ℕ) (x : Process) → slice_get d.processes p ≡ Some x → reads_clock (clock_nets d clocks) x ≡ false
clock_unread d clocks at p x e =
    subst (λ c. reads_clock (clock_nets d c) x ≡ false) at.clocks_are (none_passes (reads_clock (clock_nets d (clock_bits at.accepted.clocks))) d.processes p x at.accepted.clock_unread e)

-- ---- what is known of a design

pub record KnownFacts (k : Known) (fs : List Footprint) (nets : Labelled) : Type 0 where
  pub accepted : IsAcceptedAt (design_of k.arena) k.clocks
  pub footprints_are : fs ≡ footprints_of (design_of k.arena)
  pub nets_are : AreNets (design_of k.arena) k.clocks nets

pub known_facts : (a : Arena) (fs : List Footprint) (c : Clocked) (k : Known) → record { arena = a; clocks = c.bits } ≡ k → AreFacts a fs c → KnownFacts k fs c.nets
known_facts a fs c k is are = subst (λ (z : Known). KnownFacts z fs c.nets) is (record { accepted = are.accepted; footprints_are = are.footprints_are; nets_are = are.nets })

-- there is a process of each number below their count
pub there : (ps : List Process) (p : ℕ) → p < length ps → (x : Process) × (slice_get ps p ≡ Some x)
there [] p h = absurd (omega (arith, h))
there (x ∷ ps) zero h = (x, refl)
there (x ∷ ps) (suc p) h = there ps p (omega (arith, h))

pub needs_known : (k : Known) (fs : List Footprint) (nets : Labelled) → KnownFacts k fs nets → (p : ℕ) → p < length (design_of k.arena).processes → (list : List ℕ)
    → ((d : Design) (x : Process) → fs ≡ footprints_of d → IsLawfulDesign d → slice_get d.processes p ≡ Some x → missing_bits x ≡ [] → HasBitsOf (bit_count d) list (needs x))
    → HasBitsOf (bit_count (design_of k.arena)) list (needs_at (design_of k.arena) p)
needs_known k fs nets facts p low list has =
    let d = design_of k.arena in
    let x = there d.processes p low in
    subst (λ (o : Option Process). HasBitsOf (bit_count d) list (needs_or o)) (sym x.1)
    (has d x.0 facts.footprints_are facts.accepted.accepted.lawful x.1 (none_missing d k.clocks facts.accepted p x.0 x.1))

pub writes_known : EachHasItsBits → (k : Known) (fs : List Footprint) (nets : Labelled) → KnownFacts k fs nets → (p : ℕ) → p < length (design_of k.arena).processes → (list : List ℕ) → list ≡ R.writes_at fs p
    → HasBitsOf (bit_count (design_of k.arena)) list (writes_at (design_of k.arena) p)
writes_known bits k fs nets facts p low list is =
    let d = design_of k.arena in
    let x = there d.processes p low in
    let same : list ≡ R.writes_at (footprints_of d) p = is ∙ ap (λ z. R.writes_at z p) facts.footprints_are in
    subst (λ (o : Option Process). HasBitsOf (bit_count d) list (writes_or o)) (sym x.1)
    (subst (λ bs. HasBitsOf (bit_count d) bs (writes_of x.0)) (sym same)
    (bits_of (bit_count d) (R.writes_at (footprints_of d) p) (writes_of x.0) (bits d facts.accepted.accepted.lawful p x.0 x.1).writes))

-- a process needs a clock net where it is a port that copies the clock
pub ports_known : (k : Known) (fs : List Footprint) (nets : Labelled) → KnownFacts k fs nets → (p : ℕ) → p < length (design_of k.arena).processes → (clocks : List ℕ) → clocks ≡ k.clocks → (list : List ℕ)
    → HasBitsOf (bit_count (design_of k.arena)) list (needs_at (design_of k.arena) p) → (result : Bool) → result ≡ list_any (is_clock_bit nets) list
    → result ≡ is_port_or (clock_nets (design_of k.arena) clocks) (slice_get (design_of k.arena).processes p)
ports_known k fs nets facts p low clocks this list has result is =
    let d = design_of k.arena in
    let x = there d.processes p low in
    let all = clock_nets d k.clocks in
    let at : needs_at d p ≡ needs x.0 = ap needs_or x.1 in
    is
    ∙ same_test (is_clock_bit nets) (contains all) list facts.nets_are.clock
    ∙ same_any (contains all) list (needs_at d p) has.same
    ∙ ap (list_any (contains all)) at
    ∙ needs_tell all x.0 (clock_unread d k.clocks facts.accepted p x.0 x.1)
    ∙ sym (ap (λ c. is_port_or (clock_nets d c) (slice_get d.processes p)) this ∙ ap (is_port_or all) x.1)

-- the reset of each process is the one that is told of the clock
pub reset_known : (a : Arena) (fs : List Footprint) (c : Clocked) (k : Known) → record { arena = a; clocks = c.bits } ≡ k → AreFacts a fs c → (p : ℕ) (result : Option Reset) → result ≡ reset_at c.resets p
    → (x : Process) → slice_get (design_of k.arena).processes p ≡ Some x → IsReset k.arena k.clocks x result
reset_known a fs c k is are p result same =
    subst (λ (z : Known). (x : Process) → slice_get (design_of z.arena).processes p ≡ Some x → IsReset z.arena z.clocks x result) is
    (λ x e. subst (λ (o : Option Reset). IsReset a c.bits x o) (sym same) (are.resets.resets.each p x e))
