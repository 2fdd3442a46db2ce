-- What a formed expression reads is bits of the design.
use Rattle.std.proofs.Common.{◌≡◌, ℕ, ◌<◌, true, not, ◌&&◌, List, [], ◌∷◌, nat_lt, refl, arith}
use Rattle.std.specs.List.{list_all}
use Rattle.vs_design.specs.Designs.{Design, bit_count}
use Rattle.vs_design.specs.Elaborated.{have_bits_from, is_formed, is_signal}
use Rattle.vs_design.specs.Expressions.{Expression, Signal, width}
use Rattle.vs_design.specs.Footprints.{contains, read_bits, read_signals, signals_bits}
use Rattle.vs_design.specs.Statements.{CaseKind, Arms, case_width, case_sign}
use Rattle.vs_design.specs.Selects.{arm_patterns, is_full}
use Rattle.vs_design.specs.Covers.{covers}
use Rattle.vs_design.specs.Values.{bits_of_signal}
use Rattle.vs_design.proofs.Formed.{filtered_bits, signal_at}
use Rattle.vs_design.proofs.Lists.{and_both}
use Rattle.vs_design.proofs.Named.{read_all, read_named}
use Rattle.vs_design.proofs.Signals.{filter_high, split}
use Rattle.vs_full.specs.Selectors.{has_form}

signal_below : (d : Design) → have_bits_from 0 d.signals ≡ true → (s : Signal) (b : ℕ) → is_signal d s ≡ true → contains (bits_of_signal s) b ≡ true → b < bit_count d
signal_below d l s b at h = let m = filter_high (λ (z : Signal). true) 0 d.signals b l (filtered_bits (λ (z : Signal). true) d.signals s.number s b (signal_at d s at) refl h) in omega (arith, m)

signals_below : (d : Design) → have_bits_from 0 d.signals ≡ true → (ss : List Signal) (b : ℕ) → list_all (is_signal d) ss ≡ true → contains (signals_bits ss) b ≡ true → b < bit_count d
signals_below d l [] b all h = cc
signals_below d l (s ∷ ss) b all h =
    let a = and_both (is_signal d s) (list_all (is_signal d) ss) all in
    split (bits_of_signal s) (signals_bits ss) b h (λ q. signal_below d l s b a.0 q) (λ q. signals_below d l ss b a.1 q)

pub read_below : (d : Design) → have_bits_from 0 d.signals ≡ true → (e : Expression) (b : ℕ) → is_formed d e ≡ true → contains (read_bits e) b ≡ true → b < bit_count d
read_below d l e b f h = signals_below d l (read_signals e) b (read_all d e f) (read_named d e b f h)

-- a full case has the form of one
pub full_form : (d : Design) (kind : CaseKind) (e : Expression) (arms : Arms) → is_full d kind e arms ≡ true → has_form d e arms ≡ true
full_form d kind e arms h =
    let extended = case_sign e arms && nat_lt (width e) (case_width e arms) in
    let covered = covers (width e) (arm_patterns kind (width e) (case_width e arms) (case_sign e arms) arms) in
    (and_both (has_form d e arms) (not extended) (and_both (has_form d e arms && not extended) covered h).0).0
