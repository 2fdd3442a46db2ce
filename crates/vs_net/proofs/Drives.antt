-- What the environment and the clocked blocks write in a slot.
use Rattle.std.proofs.Common.{◌≡◌, ◌≢◌, ℕ, Bool, true, false, List, [], ◌∷◌, ◌++◌, ◌||◌, ◌==◌, if◌then◌else◌, map, ◌⊎◌, inl, inr, Some, None, refl, sym, ap, ◌∙◌, subst, append-nil, eqb-true, eq-eqb}
use Rattle.std.specs.List.{list_any}
use Rattle.std.proofs.lemmas.Bool.{both_ways, cond-true}
use Rattle.vs_four.specs.declared.Bit4.{Bit4}
use Rattle.vs_four.specs.declared.Bit4.TheVariants.{Zero, One}
use Rattle.vs_net.specs.Network.{reset_of, Network, State, Write, put, write_all, is_written, flatten, Process, Input, Clock, Assign, Comb, Clocked, AnInput, TheClock, AClocked, kind, writes, effects}
use Rattle.vs_net.specs.Queue.{Slot, Fall, Rise, drive}
use Rattle.vs_net.specs.Solution.{driven, reset_effects, clocked_effects}
use Rattle.vs_net.specs.Lawful.{IsLawful, Settles}
use Rattle.vs_net.proofs.Nets.{Family, IsInput, nets, net_of, of_clock, of_reset, clock_writer, root_writer}
use Rattle.vs_net.proofs.Basics.{by_test, write_none}

pub clocked_only : (process : Process) (slot : Slot) (s : State) → kind process ≢ AClocked → clocked_effects process slot s ≡ []
clocked_only (Clocked clock reset targets run) slot s h = absurd (h refl)
clocked_only (Input bits) slot s h = refl
clocked_only (Clock bit) slot s h = refl
clocked_only (Assign reads targets value) slot s h = refl
clocked_only (Comb waits targets run) slot s h = refl

-- where the clock falls a clocked block gets the updates of its reset
pub clocked_fall : (process : Process) (v s : State) → clocked_effects process (Fall v) s ≡ reset_effects (reset_of process) v
clocked_fall (Clocked clock reset targets run) v s = refl
clocked_fall (Input bits) v s = refl
clocked_fall (Clock bit) v s = refl
clocked_fall (Assign reads targets value) v s = refl
clocked_fall (Comb waits targets run) v s = refl

pub settles_undriven : (process : Process) (slot : Slot) → Settles (kind process) → drive process slot ≡ []
settles_undriven (Assign reads targets value) slot h = refl
settles_undriven (Comb waits targets run) slot h = refl
settles_undriven (Clocked clock reset targets run) slot h = absurd h
settles_undriven (Input bits) slot h = absurd h
settles_undriven (Clock bit) slot h = absurd h

pub clocked_undriven : (process : Process) (slot : Slot) → kind process ≡ AClocked → drive process slot ≡ []
clocked_undriven (Clocked clock reset targets run) slot h = refl
clocked_undriven (Assign reads targets value) slot h = cc
clocked_undriven (Comb waits targets run) slot h = cc
clocked_undriven (Input bits) slot h = cc
clocked_undriven (Clock bit) slot h = cc

pub clocked_rise : (process : Process) (s : State) → kind process ≡ AClocked → clocked_effects process Rise s ≡ effects process s
clocked_rise (Clocked clock reset targets run) s h = refl
clocked_rise (Assign reads targets value) s h = cc
clocked_rise (Comb waits targets run) s h = cc
clocked_rise (Input bits) s h = cc
clocked_rise (Clock bit) s h = cc

-- a data input gets nothing when the clock rises
pub input_rise : (process : Process) → kind process ≡ AnInput → drive process Rise ≡ []
input_rise (Input []) h = refl
input_rise (Input (b ∷ bits)) h = refl
input_rise (Clocked clock reset targets run) h = cc
input_rise (Assign reads targets value) h = cc
input_rise (Comb waits targets run) h = cc
input_rise (Clock bit) h = cc

-- the value of the clock in a slot
abbrev pub level : Slot → Bit4
level (Fall v) = Zero
level Rise = One

pub clock_drive : (process : Process) (slot : Slot) → kind process ≡ TheClock → (b : ℕ) × (drive process slot ≡ (record { bit = b; value = level slot } ∷ []) ∷ []) × (writes process b ≡ true)
clock_drive (Clock bit) (Fall v) h = (bit, refl, eq-eqb bit bit refl)
clock_drive (Clock bit) Rise h = (bit, refl, eq-eqb bit bit refl)
clock_drive (Input bits) slot h = cc
clock_drive (Clocked clock reset targets run) slot h = cc
clock_drive (Assign reads targets value) slot h = cc
clock_drive (Comb waits targets run) slot h = cc

pub driven_clock : (process : Process) (slot : Slot) (s : State) (b : ℕ) → kind process ≡ TheClock → writes process b ≡ true → driven process slot s b ≡ level slot
unfolding write_all flatten
driven_clock (Clock bit) (Fall v) s b h w = cond-true (b == bit) Zero (s b) w
driven_clock (Clock bit) Rise s b h w = cond-true (b == bit) One (s b) w
driven_clock (Input bits) slot s b h w = cc
driven_clock (Clocked clock reset targets run) slot s b h w = cc
driven_clock (Assign reads targets value) slot s b h w = cc
driven_clock (Comb waits targets run) slot s b h w = cc

abbrev values : State → List ℕ → List Write
values v bits = map (λ b. record { bit = b; value = v b }) bits

values_own : (v : State) (bits : List ℕ) (b : ℕ) → is_written (values v bits ++ []) b ≡ list_any (λ c. b == c) bits
unfolding is_written
values_own v [] b = refl
values_own v (c ∷ bits) b = ap (λ t. (b == c) || t) (values_own v bits b)

-- a data input's update gives its bits the vector's values
values_give : (v : State) (bits : List ℕ) (s : State) (b : ℕ) → list_any (λ c. b == c) bits ≡ true → write_all s (values v bits ++ []) b ≡ v b
unfolding write_all
values_give v [] s b h = cc
values_give v (c ∷ bits) s b h =
    by_test (list_any (λ c. b == c) bits)
    (λ e. values_give v bits (put s c (v c)) b e)
    (λ e. by_test (b == c)
    (λ t. kept v bits (put s c (v c)) b (cond-true (b == c) (v c) (s b) t ∙ ap v (sym (eqb-true b c t))))
    (λ f. let g = subst (λ x. (x || list_any (λ c. b == c) bits) ≡ true) f h in absurd (both_ways (list_any (λ c. b == c) bits) e g)))
  where
    kept : (v : State) (bits : List ℕ) (s : State) (b : ℕ) → s b ≡ v b → write_all s (values v bits ++ []) b ≡ v b
    kept v [] s b e = e
    kept v (c ∷ bits) s b e = kept v bits (put s c (v c)) b
        (by_test (b == c) (λ t. cond-true (b == c) (v c) (s b) t ∙ ap v (sym (eqb-true b c t))) (λ f. ap (λ x. if x then v c else s b) f ∙ e))

pub driven_input : (process : Process) (v s : State) (b : ℕ) → kind process ≡ AnInput → writes process b ≡ true → driven process (Fall v) s b ≡ v b
unfolding flatten
driven_input (Input []) v s b h w = cc
driven_input (Input (c ∷ bits)) v s b h w = values_give v (c ∷ bits) s b w
driven_input (Clock bit) v s b h w = cc
driven_input (Clocked clock reset targets run) v s b h w = cc
driven_input (Assign reads targets value) v s b h w = cc
driven_input (Comb waits targets run) v s b h w = cc

pub drive_own : (process : Process) (slot : Slot) (b : ℕ) → is_written (flatten (drive process slot)) b ≡ true → writes process b ≡ true
unfolding is_written flatten
drive_own (Input []) slot b h = cc
drive_own (Input (c ∷ bits)) (Fall v) b h = sym (values_own v (c ∷ bits) b) ∙ h
drive_own (Input (c ∷ bits)) Rise b h = cc
drive_own (Clock bit) (Fall v) b h = by_test (b == bit) (λ e. e) (λ e. let c = subst (λ x. (x || false) ≡ true) e h in cc)
drive_own (Clock bit) Rise b h = by_test (b == bit) (λ e. e) (λ e. let c = subst (λ x. (x || false) ≡ true) e h in cc)
drive_own (Clocked clock reset targets run) slot b h = cc
drive_own (Assign reads targets value) slot b h = cc
drive_own (Comb waits targets run) slot b h = cc

-- what a slot makes of a bit that a clocked block doesn't write
pub driven_drive : (process : Process) (slot : Slot) (s : State) (b : ℕ) → clocked_effects process slot s ≡ [] → driven process slot s b ≡ write_all s (flatten (drive process slot)) b
driven_drive process slot s b e = ap (λ us. write_all s (flatten us) b) (ap (λ x. drive process slot ++ x) e ∙ append-nil (drive process slot))

pub driven_fall : (process : Process) (v s : State) (b : ℕ) → kind process ≡ AClocked → driven process (Fall v) s b ≡ write_all s (flatten (reset_effects (reset_of process) v)) b
driven_fall process v s b k = ap (λ us. write_all s (flatten us) b) (ap (λ x. x ++ clocked_effects process (Fall v) s) (clocked_undriven process (Fall v) k) ∙ clocked_fall process v s)

-- the value of the nets of a family at the end of a slot
abbrev pub level_of : Slot → State → Family → Bit4
level_of slot before None = level slot
level_of (Fall v) before (Some i) = v i
level_of Rise before (Some i) = before i

module _ (n : Network) (L : IsLawful n) where
  -- which input writes a net of a family
  data NetInput (p b : ℕ) (f : Family) : Type 0 where
    is_clock : kind (n.process p) ≡ TheClock → f ≡ None → NetInput p b f
    is_root : kind (n.process p) ≡ AnInput → f ≡ Some b → NetInput p b f

  net_input : (p b : ℕ) (f : Family) → nets n L b ≡ Some f → IsInput (kind (n.process p)) → writes (n.process p) b ≡ true → NetInput p b f
  net_input p b f net i w = elim (net_of n L b f net) [
    | of_clock e c ↦ elim (clock_writer n L p b w c) [ inl k ↦ is_clock k e | inr k ↦ absurd (subst IsInput k i) ]
    | of_reset x e r ↦ elim (root_writer n L p b x w r) [ inl k ↦ is_root k.1 (e ∙ ap Some (sym k.0)) | inr k ↦ absurd (subst IsInput k i) ]
  ]

  -- what its slot makes of such a net
  pub driven_level : (slot : Slot) (before : State) (p b : ℕ) (f : Family) → nets n L b ≡ Some f → IsInput (kind (n.process p)) → writes (n.process p) b ≡ true → driven (n.process p) slot before b ≡ level_of slot before f
  driven_level slot before p b f net i w = at (net_input p b f net i w) slot
    where
      at : NetInput p b f → (slot : Slot) → driven (n.process p) slot before b ≡ level_of slot before f
      at (is_clock k e) slot = driven_clock (n.process p) slot before b k w ∙ ap (level_of slot before) (sym e)
      at (is_root k e) (Fall v) = driven_input (n.process p) v before b k w ∙ ap (level_of (Fall v) before) (sym e)
      at (is_root k e) Rise = driven_drive (n.process p) Rise before b (clocked_only (n.process p) Rise before (λ x. cc)) ∙ ap (λ us. write_all before (flatten us) b) (input_rise (n.process p) k) ∙ write_none before b ∙ ap (level_of Rise before) (sym e)

  drive_bit : (process : Process) (slot : Slot) (b : ℕ) → kind process ≡ TheClock → writes process b ≡ true → drive process slot ≡ (record { bit = b; value = level slot } ∷ []) ∷ []
  drive_bit (Clock bit) (Fall v) b h w = ap (λ (x : ℕ). (record { bit = x; value = Zero } ∷ []) ∷ []) (sym (eqb-true b bit w))
  drive_bit (Clock bit) Rise b h w = ap (λ (x : ℕ). (record { bit = x; value = One } ∷ []) ∷ []) (sym (eqb-true b bit w))
  drive_bit (Input bits) slot b h w = cc
  drive_bit (Clocked clock reset targets run) slot b h w = cc
  drive_bit (Assign reads targets value) slot b h w = cc
  drive_bit (Comb waits targets run) slot b h w = cc

  -- and how it is driven
  pub net_drive : (slot : Slot) (before : State) (p b : ℕ) (f : Family) → nets n L b ≡ Some f → IsInput (kind (n.process p)) → writes (n.process p) b ≡ true → (drive (n.process p) slot ≡ []) ⊎ (drive (n.process p) slot ≡ (record { bit = b; value = level_of slot before f } ∷ []) ∷ [])
  net_drive slot before p b f net i w = at (net_input p b f net i w) slot
    where
      one_bit : (v : State) → ((i : ℕ) × (n.process p ≡ Input (i ∷ [])) × (L.roots i ≡ Some i)) → drive (n.process p) (Fall v) ≡ (record { bit = b; value = v b } ∷ []) ∷ []
      one_bit v d =
          let same : b ≡ d.0 = eqb-true b d.0 (or_false (b == d.0) (subst (λ (x : Process). writes x b ≡ true) d.1 w)) in
          ap (λ (x : Process). drive x (Fall v)) d.1 ∙ ap (λ (x : ℕ). (record { bit = x; value = v x } ∷ []) ∷ []) (sym same)
        where
          or_false : (t : Bool) → (t || false) ≡ true → t ≡ true
          or_false true h = refl
          or_false false h = h

      at : NetInput p b f → (slot : Slot) → (drive (n.process p) slot ≡ []) ⊎ (drive (n.process p) slot ≡ (record { bit = b; value = level_of slot before f } ∷ []) ∷ [])
      at (is_clock k e) slot = inr (drive_bit (n.process p) slot b k w ∙ ap (λ (x : Bit4). (record { bit = b; value = x } ∷ []) ∷ []) (ap (level_of slot before) (sym e)))
      at (is_root k e) Rise = inl (input_rise (n.process p) k)
      at (is_root k e) (Fall v) = elim (L.input_roots p k) [
        | inl d ↦ inr (one_bit v d ∙ ap (λ (x : Bit4). (record { bit = b; value = x } ∷ []) ∷ []) (ap (level_of (Fall v) before) (sym e)))
        | inr none ↦ absurd (elim (net_of n L b f net) [
          | of_clock x c ↦ cc
          | of_reset x y r ↦ (let z = none b w in cc)
        ])
      ]
