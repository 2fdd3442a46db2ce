-- An accepted design's network is lawful.
use Rattle.std.proofs.Common.{◌≡◌, ℕ, true, List, [], ◌∷◌, sym, ◌∙◌, subst, ◌⊎◌, inl, inr}
use Rattle.vs_net.specs.Network.{State, flatten, branch}
use Rattle.vs_net.specs.Queue.{Slot, Fall, Rise, start, slots_of, ends}
use Rattle.vs_net.specs.Solution.{beginning, IsSolution}
use Rattle.vs_net.specs.Laws as N
use Rattle.vs_net.specs.Lawful.{IsLawful, IsQuietBlock, IsWokenBlock}
use Rattle.vs_net.proofs.Basics.{write_all_at}
use mathlib.Core.Path.{fun_ext}
use Rattle.vs_design.specs.Designs.{Initial, Design}
use Rattle.vs_design.specs.Initials.{start_value, IsOrderOf}
use Rattle.vs_design.specs.Accepted.{IsAcceptedDesign}
use Rattle.vs_design.specs.Clocks.{clock_bits, first_clock, root_of}
use Rattle.vs_design.proofs.ResetLaws.{roots_written, input_roots, assign_roots, reset_net_is, reset_run}
use Rattle.vs_net.proofs.Runs.{every_order}
use Rattle.vs_net.proofs.Unique.{one_solution}
use Rattle.vs_net.proofs.Levelled.{level_run_is_one}
use Rattle.vs_net.proofs.Settled.{one_pass_settles}
use Rattle.vs_net.proofs.Sleeping.{sleepers_wake}
use Rattle.vs_design.specs.Footprints.{contains}
use Rattle.vs_design.specs.Levels.{level_order}
use Rattle.vs_design.specs.Clocks.{clock_nets}
use Rattle.vs_design.specs.Sets.{has}
use Rattle.vs_design.specs.TimeZero.{families}
use Rattle.vs_design.specs.Networks.{network_in, network_of, all_processes}
use Rattle.vs_design.specs.Laws.{AreKnownSelects, SleepersOfDesign, AcceptedIsLawful, EveryOrderOfDesign, BeginningIs, OneSolutionOfDesign, LevelRunOfDesign, OnePassOfDesign}
use Rattle.vs_design.proofs.Lists.{or_left}
use Rattle.vs_design.proofs.Parts.{beyond_count}
use Rattle.vs_design.proofs.Order.{is_ordered, is_once}
use Rattle.vs_design.proofs.LawfulParts.{own, apart, comb_updates, clocked_own, one_writer, idle_x, idle_xz}
use Rattle.vs_design.proofs.Surely.{exact, local}
use Rattle.vs_design.proofs.SelectLaws.{selects, select_driven, select_made, selector_is, late_known, early_any, select_input}
use Rattle.vs_design.proofs.Starts.{same_order}
use Rattle.vs_design.proofs.Begun.{begun, initial_own, initial_clocked, initial_apart}
use Rattle.vs_design.proofs.ClockNets.{first_clock_in, clock_process}
use Rattle.vs_design.proofs.ClockLaws.{clock_is, clock_bit_is, clock_net_is, nets_written, assign_nets, comb_nets, stirs_at, stirs_own, stirs_on, clocked_local}
use Rattle.vs_design.proofs.SleepLaws.{is_sleeper}
use Rattle.vs_design.proofs.TimeLaws.{late_or_spare, late_of_listened, early_idle, early_comb, early_made, late_idle, late_reset, late_asleep, late_input, late_clock, late_made, quiet_or_woken}

-- before slot 0 the bits have what initial processes leave in them
pub begins : (d : Design) (names : List (List ℕ)) (a : IsAcceptedDesign d names) (order : List Initial) → IsOrderOf d.initials order → beginning (network_in d (clock_bits a.clocks) order) ≡ start_value d
begins d names a order o = fun_ext (λ b. (begun d names a order o b).1)

pub beginning_is : BeginningIs
beginning_is d names a b = (begun d names a d.initials (same_order d.initials) b).1

-- a block that wakes does so by a bit that it listens to, of which the late set says all
woken_late : (d : Design) (names : List (List ℕ)) (a : IsAcceptedDesign d names) (p : ℕ) → let f = families d (clock_bits a.clocks) (level_order d) in let x = (network_of d (clock_bits a.clocks)).process p in
    IsQuietBlock (λ b. has (f.early b)) x ⊎ IsWokenBlock (λ b. has (f.early b)) (λ b. has (f.late b)) x → IsQuietBlock (λ b. has (f.early b)) x ⊎ IsWokenBlock (λ b. has (f.early b)) (late_or_spare d names a) x
woken_late d names a p (inl q) = inl q
woken_late d names a p (inr w) = inr (record { bit = w.bit; listened = w.listened; unknown = w.unknown; known = λ v h. w.known v (late_of_listened d names a p w.bit v w.listened h) })

pub lawful : AcceptedIsLawful
lawful d names a order o = record {
  beyond = λ p h. beyond_count (all_processes d (clock_bits a.clocks)) p h;
  one_writer = λ p q b g h. one_writer d names a p q b g h;
  idle_x = λ p b g h. idle_x d names a (clock_bits a.clocks) p b g h;
  idle_xz = λ b. idle_xz d names a (clock_bits a.clocks) b;
  initial_own = λ p b h. initial_own d names a order p b h;
  initial_clocked = λ p k. initial_clocked ((network_of d (clock_bits a.clocks)).process p) order k;
  initial_apart = λ p b s h. initial_apart d names a order o p b s h;
  selects = selects d names a;
  select_driven = λ b h. select_driven d names a b h;
  select_made = λ p b s t h k w known. select_made d names a p b s t h k w known;
  selector_is = λ p b h. selector_is d names a p b h;
  own = λ p b s h w. own d names a (clock_bits a.clocks) p b s h w;
  exact = λ p b s h sure w. exact d names a (clock_bits a.clocks) p b s h sure ∙ w;
  local = λ p s t h sure k. local d names a (clock_bits a.clocks) p s t h sure k;
  apart = λ p b h. apart d names a (clock_bits a.clocks) p b h;
  comb_updates = λ p s h. comb_updates d names a (clock_bits a.clocks) p s h;
  clocked_own = λ p b s h k. clocked_own d names a (clock_bits a.clocks) p b s h k;
  order = level_order d;
  ordered = is_ordered d (clock_bits a.clocks) order (level_order d) [] (λ p. ⊥) a.no_cycle (λ p h. cc);
  clock_nets = contains (clock_nets d (clock_bits a.clocks));
  clock = (clock_process d names a (first_clock (clock_bits a.clocks)) (first_clock_in d names a)).0;
  clock_is = clock_is d names a (first_clock (clock_bits a.clocks)) (first_clock_in d names a);
  nets_written = λ b h. nets_written d names a b h;
  clock_net_is = λ p h. clock_net_is d names a p h;
  clock_bit_is = λ p b h k. clock_bit_is d names a p b h k;
  assign_nets = λ p h. assign_nets d names a p h;
  comb_nets = λ p b h k. comb_nets d names a p b h k;
  stirs = stirs_at d;
  stirs_own = λ p b s h w. stirs_own d names a p b s h w;
  stirs_on = λ p r b c h l st w. stirs_on d names a p r b c h l st w;
  clocked_local = λ p s t h k. clocked_local d names a p s t h k;
  roots = root_of d (clock_bits a.clocks);
  roots_written = λ b i h. roots_written d names a b i h;
  input_roots = λ p h. input_roots d names a p h;
  assign_roots = λ p h. assign_roots d names a p h;
  reset_net_is = λ p r h. reset_net_is d names a p r h;
  reset_run = λ p r s h k. reset_run d names a p r s h k;
  sleepers = λ p x h. is_sleeper d names a order o p x h;
  early = λ b. has ((families d (clock_bits a.clocks) (level_order d)).early b);
  late = late_or_spare d names a;
  time_zero = record {
    early_idle = λ b h. subst (λ v. has ((families d (clock_bits a.clocks) (level_order d)).early b) v ≡ true) (sym (begun d names a order o b).0) (early_idle d names a b h);
    early_comb = λ p b h k. early_comb d names a p b h k;
    early_made = λ p h n s k. early_made d names a p h n s k;
    early_any = λ p b c v h w. early_any d names a p b c v h w;
    late_known = λ p c v h k. late_known d names a p c v h (late_of_listened d names a p c v (selector_is d names a p c h).2 k);
    late_idle = λ b h. or_left _ _ (subst (λ v. has ((families d (clock_bits a.clocks) (level_order d)).late b) v ≡ true) (sym (begun d names a order o b).1) (late_idle d names a b h));
    late_reset = λ p b r h w. or_left _ _ (subst (λ v. has ((families d (clock_bits a.clocks) (level_order d)).late b) v ≡ true) (sym (write_all_at (flatten (branch r)) (beginning (network_in d (clock_bits a.clocks) order)) (start_value d) b (begun d names a order o b).1)) (late_reset d names a p b r h w));
    late_asleep = λ p b x h w. or_left _ _ (late_asleep d names a p b x h w);
    late_input = λ p b v h k l. or_left _ _ (late_input d names a p b v h k l);
    late_clock = λ p b h k. late_clock d names a p b h k;
    late_made = λ p h s k. λ b w t. or_left _ _ (late_made d names a p h s (λ c l. late_of_listened d names a p c (s c) l (k c l)) b w t);
  };
  quiet_or_woken = λ p h n. woken_late d names a p (quiet_or_woken d names a p h n);
}

-- ---- what follows

-- the solution is the same whatever the order of the initial processes
same_solution : (d : Design) (clocks : List ℕ) (order : List Initial) (before : State) (slots : List Slot) (ss : List State) → IsSolution (network_in d clocks order) before slots ss → IsSolution (network_of d clocks) before slots ss
same_solution d clocks order before [] [] h = tt
same_solution d clocks order before (slot ∷ slots) (s ∷ ss) h = (record { settled = h.0.settled; updated = h.0.updated; kept = h.0.kept }, same_solution d clocks order s slots ss h.1)
same_solution d clocks order before [] (s ∷ ss) h = absurd h
same_solution d clocks order before (slot ∷ slots) [] h = absurd h

-- every order of the steps ends in the solution
pub every_order_of : EveryOrderOfDesign
every_order_of d names a order o first v vs f k r choices c =
    subst (λ (before : State). IsSolution (network_of d (clock_bits a.clocks)) before (slots_of (v ∷ vs)) (ends (network_in d (clock_bits a.clocks) order) (start (network_in d (clock_bits a.clocks) order) first v vs) choices)) (begins d names a order o ∙ sym (begins d names a d.initials (same_order d.initials)))
    (same_solution d (clock_bits a.clocks) order (beginning (network_in d (clock_bits a.clocks) order)) (slots_of (v ∷ vs)) (ends (network_in d (clock_bits a.clocks) order) (start (network_in d (clock_bits a.clocks) order) first v vs) choices)
    (every_order (network_in d (clock_bits a.clocks) order) (lawful d names a order o) first v vs f k r choices c))

-- in the order of the text
pub lawful_of : (d : Design) (names : List (List ℕ)) (a : IsAcceptedDesign d names) → IsLawful (network_of d (clock_bits a.clocks))
lawful_of d names a = lawful d names a d.initials (same_order d.initials)

-- the select nets that are inputs are the select inputs
known_selects : (d : Design) (names : List (List ℕ)) (a : IsAcceptedDesign d names) (before : State) (slots : List Slot) → AreKnownSelects d (clock_bits a.clocks) before slots → N.AreKnownSelects (network_of d (clock_bits a.clocks)) (lawful_of d names a) before slots
unfolding lawful lawful_of
known_selects d names a before [] h = tt
known_selects d names a before (Fall v ∷ slots) h = ((λ p b k w s. h.0 b (select_input d names a p b k w s)), known_selects d names a v slots h.1)
known_selects d names a before (Rise ∷ slots) h = ((λ p b k w s. h.0 b (select_input d names a p b k w s)), known_selects d names a before slots h.1)

pub one_solution_of : OneSolutionOfDesign
one_solution_of d names a before slots xs ys known = one_solution (network_of d (clock_bits a.clocks)) (lawful_of d names a) before slots xs ys (known_selects d names a before slots known)

pub level_run_of : LevelRunOfDesign
level_run_of d names a order h = level_run_is_one (network_of d (clock_bits a.clocks)) (lawful_of d names a) order (is_ordered d (clock_bits a.clocks) d.initials order [] (λ p. ⊥) h (λ p h. cc))

pub one_pass_of : OnePassOfDesign
one_pass_of d names a order h = one_pass_settles (network_of d (clock_bits a.clocks)) (lawful_of d names a) order (is_ordered d (clock_bits a.clocks) d.initials order [] (λ p. ⊥) h (λ p h. cc)) (is_once d order [] (λ p. ⊥) h (λ p k. absurd k))

pub sleepers_of : SleepersOfDesign
sleepers_of d names a order o = sleepers_wake (network_in d (clock_bits a.clocks) order) (lawful d names a order o)
