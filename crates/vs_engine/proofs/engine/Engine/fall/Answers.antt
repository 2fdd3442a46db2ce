use Rattle.std.proofs.Common.{◌≡◌, ℕ, ◌<◌, ◌∙◌, Bool, true, false, if◌then◌else◌, refl, List, length, sym, ap, subst}
use Rattle.vs_four.specs.declared.Bit4.TheVariants.{Zero}
use Rattle.vs_net.specs.Queue.{Fall}
use Rattle.vs_net.specs.Network.{write_all}
use Rattle.vs_net.specs.Solution.{IsSlotEnd}
use Rattle.vs_design.specs.Designs.{Design}
use Rattle.vs_design.specs.Networks.{network_of}
use Rattle.vs_design.specs.Footprints.{contains}
use Rattle.vs_code.specs.Calls.{Call, AreCalled}
use Rattle.vs_program.specs.declared.compiled.Phase.TheVariants as Phase
use Rattle.vs_program.specs.Program.{Program, calls_at, values}
use Rattle.vs_program.specs.Compiled.{IsProgramOf, IsEnd}
use Rattle.vs_engine.specs.Lanes.{Running, lane_slots, home_writes, state, vector}
use Rattle.vs_engine.proofs.Slots.{fallen_is, fall_ends, end_at, reached_at, has_slot}
use Rattle.vs_engine.proofs.engine.Engine.fall.Goals as goal

pub feed-requires-clause-room : goal.feed-requires-clause-room
feed-requires-clause-room g c = λ b h.
    has_slot c.self.inside.compiled (length c.self.inside.file) c.self.inside.compiled.inputs c.self.invariant.in_range c.self.invariant.slots c.self.invariant.in_range.inputs b
    (subst (λ bits. contains bits b ≡ true) c.inputs.ensures h)

pub store_all-requires-clause-room : goal.store_all-requires-clause-room
store_all-requires-clause-room g c = λ b h.
    has_slot c.self.inside.compiled (length c.feed.new.file) c.self.inside.compiled.nets c.self.invariant.in_range (c.feed.ensures.slots ∙ c.self.invariant.slots) c.self.invariant.in_range.nets b
    (subst (λ bits. contains bits b ≡ true) c.nets.ensures h)

long : (g : _) (c : goal.After-self-2-1 g) → length c.self.inside.compiled.inputs ≡ length c.args.inputs.now
long g c = let P : Running _ → Type 0 = λ e. length c.args.inputs.now ≡ length e.program.inputs in sym (subst P (sym c.self.view_is) c.requires)

-- the calls of a first fall, or of a later one
settling_calls : (p : Program) (begun : Bool) → calls_at p (if begun then Phase.Fall else Phase.First) ≡ (if begun then p.fall else p.first)
settling_calls p true = refl
settling_calls p false = refl

-- each lane has come to the end of the slot
ended : (g : _) (c : goal.After-self-2-1 g) (d : Design) (clocks : List ℕ) (i : ℕ) → IsProgramOf d clocks c.self.inside.compiled → i < g.W.Word.LANES
    → IsEnd d clocks c.self.inside.compiled c.self.inside.level (lane_slots g.W.Word.lane c.self.inside.file i) (Fall (vector g.W.Word.lane c.self.inside.compiled.inputs c.args.inputs.now i)) (lane_slots g.W.Word.lane c.execute.new.file i)
ended g c d clocks i is in_lanes =
    fall_ends d clocks c.self.inside.compiled is c.self.inside.begun c.self.inside.level (vector g.W.Word.lane c.self.inside.compiled.inputs c.args.inputs.now i)
    (lane_slots g.W.Word.lane c.self.inside.file i) (lane_slots g.W.Word.lane c.store_all.new.file i) (lane_slots g.W.Word.lane c.execute.new.file i)
    (c.self.invariant.constants d clocks i is in_lanes)
    (c.self.invariant.masks d clocks i is in_lanes)
    (λ e. c.self.invariant.reached e d clocks i is in_lanes)
    (fallen_is c.write_law.ensures g.W.Word.lane c.self.inside.compiled c.args.inputs.now i (lane_slots g.W.Word.lane c.self.inside.file i) (lane_slots g.W.Word.lane c.feed.new.file i) (lane_slots g.W.Word.lane c.store_all.new.file i)
    c.self.invariant.in_range
    (long g c)
    (λ slot. c.feed.ensures.lanes i slot ∙ ap (λ (bits : List ℕ). write_all (lane_slots g.W.Word.lane c.self.inside.file i) (home_writes g.W.Word.lane bits c.args.inputs.now i) slot) c.inputs.ensures)
    (λ b h. c.store_all.ensures.stored i b in_lanes (subst (λ bits. contains bits b ≡ true) (sym c.nets.ensures) h))
    (λ slot none. c.store_all.ensures.kept i slot (λ b h. none b (subst (λ bits. contains bits b ≡ true) c.nets.ensures h))))
    (subst (λ (calls : List Call). AreCalled calls (lane_slots g.W.Word.lane c.store_all.new.file i) (lane_slots g.W.Word.lane c.execute.new.file i)) (ap (calls_at c.self.inside.compiled) c.settling.ensures ∙ settling_calls c.self.inside.compiled c.self.inside.begun) (c.execute.ensures.applied i in_lanes))

pub invariant_of-self : goal.invariant_of-self
invariant_of-self g c = record {
  in_range = c.self.invariant.in_range;
  slots = c.execute.ensures.slots ∙ c.store_all.ensures.slots ∙ c.feed.ensures.slots ∙ c.self.invariant.slots;
  constants = λ d clocks i is in_lanes. (ended g c d clocks i is in_lanes).constants;
  masks = λ d clocks i is in_lanes. (ended g c d clocks i is in_lanes).masks;
  reached = λ e d clocks i is in_lanes.
      reached_at d clocks c.self.inside.compiled c.self.inside.level (lane_slots g.W.Word.lane c.self.inside.file i) (lane_slots g.W.Word.lane c.execute.new.file i) (Fall (vector g.W.Word.lane c.self.inside.compiled.inputs c.args.inputs.now i)) (ended g c d clocks i is in_lanes);
}

pub returns-clause-ends : goal.returns-clause-ends
returns-clause-ends g c = λ d clocks i.
    let P : Running _ → Type 0 = λ e.
    IsProgramOf d clocks e.program → i < g.W.Word.LANES
    → IsSlotEnd (network_of d clocks) (state g.W.Word.lane e i) (Fall (vector g.W.Word.lane e.program.inputs c.args.inputs.now i)) (values c.self.inside.compiled.bits c.self.inside.compiled.clocks Zero (lane_slots g.W.Word.lane c.execute.new.file i)) in
    subst P c.self.view_is (λ is in_lanes. end_at d clocks c.self.inside.compiled is c.self.inside.level (lane_slots g.W.Word.lane c.self.inside.file i) (lane_slots g.W.Word.lane c.execute.new.file i) (Fall (vector g.W.Word.lane c.self.inside.compiled.inputs c.args.inputs.now i)) (ended g c d clocks i is in_lanes))
