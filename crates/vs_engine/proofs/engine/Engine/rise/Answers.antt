use Rattle.std.proofs.Common.{List, ◌≡◌, ℕ, ◌<◌, ◌∙◌, true, length, sym, subst}
use Rattle.vs_four.specs.declared.Bit4.TheVariants.{One}
use Rattle.vs_net.specs.Queue.{Rise}
use Rattle.vs_net.specs.Solution.{IsSlotEnd}
use Rattle.vs_design.specs.Designs.{Design}
use Rattle.vs_design.specs.Networks.{network_of}
use Rattle.vs_design.specs.Footprints.{contains}
use Rattle.vs_program.specs.Program.{values}
use Rattle.vs_program.specs.Compiled.{IsProgramOf, IsEnd}
use Rattle.vs_engine.specs.Lanes.{Running, lane_slots, state}
use Rattle.vs_engine.proofs.Slots.{risen_is, rise_ends, end_at, reached_at, has_slot}
use Rattle.vs_engine.proofs.engine.Engine.rise.Goals as goal

pub store_all-requires-clause-room : goal.store_all-requires-clause-room
store_all-requires-clause-room g c = λ b h.
    has_slot c.self.inside.compiled (length c.execute.new.file) c.self.inside.compiled.nets c.self.invariant.in_range (c.execute.ensures.slots ∙ c.self.invariant.slots) c.self.invariant.in_range.nets b
    (subst (λ bits. contains bits b ≡ true) c.nets.ensures h)

begun : (g : _) (c : goal.After-self-1 g) → c.self.inside.begun ≡ true
begun g c = let P : Running _ → Type 0 = λ e. e.begun ≡ true in subst P (sym c.self.view_is) c.requires

-- each lane has come to the end of the slot
ended : (g : _) (c : goal.After-self-1 g) (d : Design) (clocks : List ℕ) (i : ℕ) → IsProgramOf d clocks c.self.inside.compiled → i < g.W.Word.LANES
    → IsEnd d clocks c.self.inside.compiled c.self.inside.level (lane_slots g.W.Word.lane c.self.inside.file i) Rise (lane_slots g.W.Word.lane c.execute-2.new.file i)
ended g c d clocks i is in_lanes =
    rise_ends d clocks c.self.inside.compiled is c.self.inside.level
    (lane_slots g.W.Word.lane c.self.inside.file i) (lane_slots g.W.Word.lane c.execute.new.file i) (lane_slots g.W.Word.lane c.store_all.new.file i) (lane_slots g.W.Word.lane c.execute-2.new.file i)
    (c.self.invariant.reached (begun g c) d clocks i is in_lanes)
    (c.execute.ensures.applied i in_lanes)
    (risen_is c.self.inside.compiled (lane_slots g.W.Word.lane c.execute.new.file i) (lane_slots g.W.Word.lane c.store_all.new.file i) c.self.invariant.in_range
    (λ b h. c.store_all.ensures.stored i b in_lanes (subst (λ bits. contains bits b ≡ true) (sym c.nets.ensures) h))
    (λ slot none. c.store_all.ensures.kept i slot (λ b h. none b (subst (λ bits. contains bits b ≡ true) c.nets.ensures h))))
    (c.execute-2.ensures.applied i in_lanes)

pub invariant_of-self : goal.invariant_of-self
invariant_of-self g c = record {
  in_range = c.self.invariant.in_range;
  slots = c.execute-2.ensures.slots ∙ c.store_all.ensures.slots ∙ c.execute.ensures.slots ∙ c.self.invariant.slots;
  constants = λ d clocks i is in_lanes. (ended g c d clocks i is in_lanes).constants;
  masks = λ d clocks i is in_lanes. (ended g c d clocks i is in_lanes).masks;
  reached = λ e d clocks i is in_lanes.
      reached_at d clocks c.self.inside.compiled c.self.inside.level (lane_slots g.W.Word.lane c.self.inside.file i) (lane_slots g.W.Word.lane c.execute-2.new.file i) Rise (ended g c d clocks i is in_lanes);
}

pub returns-clause-ends : goal.returns-clause-ends
returns-clause-ends g c = λ d clocks i.
    let P : Running _ → Type 0 = λ e.
    IsProgramOf d clocks e.program → i < g.W.Word.LANES
    → IsSlotEnd (network_of d clocks) (state g.W.Word.lane e i) Rise (values c.self.inside.compiled.bits c.self.inside.compiled.clocks One (lane_slots g.W.Word.lane c.execute-2.new.file i)) in
    subst P c.self.view_is (λ is in_lanes. end_at d clocks c.self.inside.compiled is c.self.inside.level (lane_slots g.W.Word.lane c.self.inside.file i) (lane_slots g.W.Word.lane c.execute-2.new.file i) Rise (ended g c d clocks i is in_lanes))
