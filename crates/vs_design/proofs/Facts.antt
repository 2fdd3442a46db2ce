-- What acceptance says of each process.
use Rattle.std.proofs.Common.{◌≡◌, ℕ, Bool, true, false, List, [], ◌&&◌, not, if◌then◌else◌, refl, sym, ap, ◌∙◌, subst, Some}
use Rattle.std.specs.Prelude.{slice_get}
use Rattle.vs_design.specs.Expressions.{Expression}
use Rattle.vs_design.specs.Statements.{Target, Statement}
use Rattle.vs_design.specs.Designs.{Event, Port, Process, Continuous, Always, is_clocked, Design}
use Rattle.vs_design.specs.Footprints.{contains, target_bits, statement_bits, statement_reads, reads_of, waits_of, wait_signals, signals_bits, without, net_bits, variable_bits, is_net}
use Rattle.vs_design.specs.Latches.{latch_bits}
use Rattle.vs_design.specs.Rules.{mixed_in, mixed_assigns, missing_bits, latches}
use Rattle.vs_design.specs.Selects.{meant}
use Rattle.vs_design.specs.Accepted.{IsAcceptedDesign, is_empty}
use Rattle.vs_design.specs.Fits.{fits_process, fits_target, fits_statement, is_fit}
use Rattle.vs_design.specs.Elaborated.{has_constant_selects, is_formed, is_formed_target, is_formed_statement, are_formed_events, is_formed_port, is_formed_process}
use Rattle.vs_design.proofs.Lists.{by_test, and_both, contains_filter}
use Rattle.vs_design.proofs.Writes.{either_way}
use Rattle.vs_design.proofs.Blocks.{contains_without}
use Rattle.vs_design.proofs.Drivers.{empty_is}
use Rattle.vs_design.proofs.Parts.{all_at}
use Rattle.vs_design.proofs.Formed.{target_kind, statement_kind}
use Rattle.vs_design.proofs.Meant.{meant_unmixed, meant_needs}

pub record AssignFacts (d : Design) (target : Target) (e : Expression) : Type 0 where
  pub constant : has_constant_selects target ≡ true
  pub nets : (b : ℕ) → contains (target_bits target) b ≡ true → contains (net_bits d) b ≡ true
  pub fit_target : fits_target target ≡ true
  pub fit_value : is_fit e ≡ true

pub assign_facts : (d : Design) (names : List (List ℕ)) → IsAcceptedDesign d names → (p place : ℕ) (port : Port) (target_place : ℕ) (target : Target) (e : Expression) → slice_get d.processes p ≡ Some (Continuous place port target_place target e) → AssignFacts d target e
assign_facts d names a p place port target_place target e h =
    let k = and_both (is_formed_target d is_net target && has_constant_selects target && is_formed d e) (is_formed_port port target e) (all_at (is_formed_process d) d.processes p (Continuous place port target_place target e) a.lawful.formed h) in
    let f = and_both (is_formed_target d is_net target) (has_constant_selects target) (and_both (is_formed_target d is_net target && has_constant_selects target) (is_formed d e) k.0).0 in
    let g = and_both (fits_target target) (is_fit e) (all_at fits_process d.processes p (Continuous place port target_place target e) a.fit h) in
    record { constant = f.1; nets = λ b w. target_kind d is_net target b f.0 w; fit_target = g.0; fit_value = g.1 }

pub record BlockFacts (d : Design) (st : Statement) : Type 0 where
  pub variables : (b : ℕ) → contains (statement_bits st) b ≡ true → contains (variable_bits d) b ≡ true
  pub fit : fits_statement st ≡ true

pub block_facts : (d : Design) (names : List (List ℕ)) → IsAcceptedDesign d names → (p place : ℕ) (star : Bool) (events : List Event) (st : Statement) → slice_get d.processes p ≡ Some (Always place star events st) → BlockFacts d st
block_facts d names a p place star events st h = record {
  variables = λ b w. statement_kind d st b (and_both (are_formed_events d star events) (is_formed_statement d st) (all_at (is_formed_process d) d.processes p (Always place star events st) a.lawful.formed h)).1 w;
  fit = all_at fits_process d.processes p (Always place star events st) a.fit h;
}

pub record CombFacts (d : Design) (x : Process) (st : Statement) : Type 0 where
  pub unmixed : mixed_in false st ≡ []
  -- of the statement that the rules take it to have
  pub meant_unmixed : mixed_in false (meant d st) ≡ []
  pub no_latch : latch_bits (meant d st) ≡ []
  -- what it reads and doesn't write it waits on
  pub waits : (b : ℕ) → contains (without (statement_reads st) (statement_bits st)) b ≡ true → contains (waits_of x) b ≡ true
  pub meant_waits : (b : ℕ) → contains (without (statement_reads (meant d st)) (statement_bits (meant d st))) b ≡ true → contains (waits_of x) b ≡ true
  pub needed : (b : ℕ) → contains (without (statement_reads st) (statement_bits st)) b ≡ true → contains (reads_of x) b ≡ true
  pub apart : (b : ℕ) → contains (statement_bits st) b ≡ true → contains (waits_of x) b ≡ false

pub comb_facts_by : (d : Design) (place : ℕ) (star : Bool) (events : List Event) (st : Statement) → is_clocked (Always place star events st) ≡ false → mixed_assigns (Always place star events st) ≡ [] → latches d (Always place star events st) ≡ [] → missing_bits (Always place star events st) ≡ [] → CombFacts d (Always place star events st) st
comb_facts_by d place star events st k none_mixed no_latches none_missing = record {
  unmixed = clean;
  meant_unmixed = meant_unmixed d st clean;
  no_latch = subst (λ (c : Bool). (if not c then latch_bits (meant d st) else []) ≡ []) k no_latches;
  waits = wait;
  meant_waits = λ b q. wait b (meant_needs d st b q);
  needed = λ b q. subst (λ (c : Bool). contains (if not c then without (statement_reads st) (statement_bits st) else statement_reads st) b ≡ true) (sym k) q;
  apart = λ b q. subst (λ (c : Bool). contains (if not c then without (signals_bits (wait_signals x)) (statement_bits st) else []) b ≡ false) (sym k) (gone (signals_bits (wait_signals x)) (statement_bits st) b q);
}
  where
    x : Process
    x = Always place star events st

    unwritten : (b : ℕ) → contains (without (statement_reads st) (statement_bits st)) b ≡ true → contains (statement_bits st) b ≡ false
    unwritten b q = by_test (contains (statement_bits st) b) (λ e. absurd (either_way (contains (without (statement_reads st) (statement_bits st)) b) q (gone (statement_reads st) (statement_bits st) b e))) (λ e. e)
      where
        gone : (xs ys : List ℕ) (b : ℕ) → contains ys b ≡ true → contains (without xs ys) b ≡ false
        gone xs ys b h = contains_filter (λ b. not (contains ys b)) xs b ∙ rw h (and_no (contains xs b))
          where
            and_no : (a : Bool) → (a && false) ≡ false
            and_no true = refl
            and_no false = refl

    gone : (xs ys : List ℕ) (b : ℕ) → contains ys b ≡ true → contains (without xs ys) b ≡ false
    gone xs ys b h = contains_filter (λ b. not (contains ys b)) xs b ∙ rw h (and_no (contains xs b))
      where
        and_no : (a : Bool) → (a && false) ≡ false
        and_no true = refl
        and_no false = refl

    missing : without (if not (is_clocked x) then without (statement_reads st) (statement_bits st) else statement_reads st) (signals_bits (wait_signals x)) ≡ []
    missing = subst (λ (c : Bool). (if c then without (reads_of x) (signals_bits (wait_signals x)) else []) ≡ []) (ap not k) none_missing

    waited : (b : ℕ) → contains (without (statement_reads st) (statement_bits st)) b ≡ true → contains (signals_bits (wait_signals x)) b ≡ true
    waited b q =
        by_test (contains (signals_bits (wait_signals x)) b)
        (λ e. e)
        (λ e.
        let m : without (without (statement_reads st) (statement_bits st)) (signals_bits (wait_signals x)) ≡ [] = subst (λ (c : Bool). without (if not c then without (statement_reads st) (statement_bits st) else statement_reads st) (signals_bits (wait_signals x)) ≡ []) k missing in
        absurd (either_way (contains (without (without (statement_reads st) (statement_bits st)) (signals_bits (wait_signals x))) b) (contains_without (without (statement_reads st) (statement_bits st)) (signals_bits (wait_signals x)) b q e) (ap (λ ys. contains ys b) m)))

    clean : mixed_in false st ≡ []
    clean = subst (λ (c : Bool). (if c then [] else mixed_in false st) ≡ []) k none_mixed

    wait : (b : ℕ) → contains (without (statement_reads st) (statement_bits st)) b ≡ true → contains (waits_of x) b ≡ true
    wait b q = subst (λ (c : Bool). contains (if not c then without (signals_bits (wait_signals x)) (statement_bits st) else []) b ≡ true) (sym k) (contains_without (signals_bits (wait_signals x)) (statement_bits st) b (waited b q) (unwritten b q))

pub comb_facts : (d : Design) (names : List (List ℕ)) → IsAcceptedDesign d names → (p place : ℕ) (star : Bool) (events : List Event) (st : Statement) → slice_get d.processes p ≡ Some (Always place star events st) → is_clocked (Always place star events st) ≡ false → CombFacts d (Always place star events st) st
comb_facts d names a p place star events st h k = comb_facts_by d place star events st k
    (empty_is (mixed_assigns (Always place star events st)) (all_at (λ p. is_empty (mixed_assigns p)) d.processes p (Always place star events st) a.unmixed h))
    (empty_is (latches d (Always place star events st)) (all_at (λ p. is_empty (latches d p)) d.processes p (Always place star events st) a.no_latch h))
    (empty_is (missing_bits (Always place star events st)) (all_at (λ p. is_empty (missing_bits p)) d.processes p (Always place star events st) a.sensitive h))
