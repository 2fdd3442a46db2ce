use Rattle.std.proofs.Common.{◌≡◌, ℕ, ◌<◌, ◌≤◌, ◌∙◌, Bool, List, nat_lt, length, true, false, Some, sym, ap, subst, get_or, arith, slice_get}
use Rattle.std.specs.Prelude.{slice_index_or}
use Rattle.std.proofs.lemmas.Option.{slice_get_past, get_or_from_slice_get}
use Rattle.std.proofs.lemmas.List.{get_or_past}
use mathlib.Core.Path.{fun_ext}
use Rattle.vs_four.specs.declared.Bit4.{Bit4}
use Rattle.vs_four.specs.declared.Bit4.TheVariants.{X}
use Rattle.vs_plane.specs.declared.pairs.Pair.{Pair}
use Rattle.vs_plane.specs.Lanes.{lane_or_x, slot_lane}
use Rattle.vs_program.specs.Lowered.{HasConstants}
use Rattle.vs_program.specs.Masks.{HaveMasks}
use Rattle.vs_program.specs.Program.{values, initial_slots}
use Rattle.vs_engine.specs.Lanes.{lane_slots}
use Rattle.vs_engine.proofs.Numbers.{by_test}
use Rattle.vs_engine.proofs.engine.Engine.new.Goals as goal

-- where each slot begins with its bit, a lane does
begins : {W : Type 0} (lane : W → ℕ → Bool) (initial : List Bit4) (file : List (Pair W)) (i : ℕ) → length file ≡ length initial
    → ((slot : ℕ) → slot < length initial → slice_get initial slot ≡ Some (slot_lane lane file slot i))
    → lane_slots lane file i ≡ (λ slot. slice_index_or initial slot X)
begins lane initial file i long bits = fun_ext (λ b. lt_or_ge b (λ l. sym (get_or_from_slice_get initial b (slot_lane lane file b i) X (bits b l))) (λ g. past b g))
  where
    lt_or_ge : (b : ℕ) → {P : Type 0} → (b < length initial → P) → (length initial ≤ b → P) → P
    lt_or_ge b f g = by_test (nat_lt b (length initial)) (λ e. f (grind arith)) (λ e. g (grind arith))

    past : (b : ℕ) → length initial ≤ b → slot_lane lane file b i ≡ slice_index_or initial b X
    past b g = ap (λ o. lane_or_x lane o i) (slice_get_past file b (omega arith)) ∙ sym (get_or_past initial b X g)

lane_is : (g : _) (c : goal.In_ok-file g) → (i : ℕ) → i < g.W.Word.LANES → lane_slots g.W.Word.lane c.in_ok-file.file i ≡ initial_slots c.args.compiled
lane_is g c i in_lanes = begins g.W.Word.lane c.initial.result.now c.in_ok-file.file i c.in_ok-file.ensures.slots (λ slot l. c.in_ok-file.ensures.bits slot i l in_lanes)
    ∙ ap (λ (bits : List Bit4). λ (b : ℕ). get_or bits b X) c.initial.ensures.initial

never : false ≡ true → ⊥
never e = cc

pub invariant_of-result : goal.invariant_of-result
invariant_of-result g c = record {
  in_range = c.initial.ensures.in_range;
  slots = c.in_ok-file.ensures.slots ∙ ap length c.initial.ensures.initial;
  constants = λ d clocks i is in_lanes. subst HasConstants (sym (lane_is g c i in_lanes)) is.constants;
  masks = λ d clocks i is in_lanes. subst (HaveMasks d clocks c.args.compiled.bits X) (sym (lane_is g c i in_lanes)) is.begins;
  reached = λ e. absurd (never e);
}

pub returns-clause-begins : goal.returns-clause-begins
returns-clause-begins g c = λ d clocks i is in_lanes. ap (values c.args.compiled.bits c.args.compiled.clocks X) (lane_is g c i in_lanes) ∙ ap (λ (k : List ℕ). values c.args.compiled.bits k X (initial_slots c.args.compiled)) is.clocks_are ∙ is.starts
