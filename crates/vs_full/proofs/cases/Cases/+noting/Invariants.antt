use Rattle.std.proofs.Common.{◌+◌, ◌*◌}
use Rattle.vs_full.specs.Found.{AreSound, IsAsBefore}
use Rattle.vs_full.proofs.Noting.{ArmsNotedTo, PartsNotedTo}
use Rattle.vs_full.proofs.cases.Cases.+noting.Given as goal

abbrev pub decreases-note_in : goal.decreases-note_in
decreases-note_in l = 2 * l.s + 1

abbrev pub decreases-note_branch : goal.decreases-note_branch
decreases-note_branch l = 2 * l.s

abbrev pub decreases-note_arms : goal.decreases-note_arms
decreases-note_arms l = 2 * l.s

abbrev pub decreases-note_parts : goal.decreases-note_parts
decreases-note_parts l = 2 * l.s

-- the arms before this one are noted, and the parts
abbrev pub invariant-note_arms-loop-arm : goal.invariant-note_arms-loop-arm
invariant-note_arms-loop-arm l = record {
  sound : AreSound l.shapes l.self;
  kept : IsAsBefore l.shapes l.initial.self l.self;
  noted : ArmsNotedTo l.shapes l.self l.arms l.arm-index;
}

abbrev pub invariant-note_parts-loop-part : goal.invariant-note_parts-loop-part
invariant-note_parts-loop-part l = record {
  sound : AreSound l.shapes l.self;
  kept : IsAsBefore l.shapes l.initial.self l.self;
  noted : PartsNotedTo l.shapes l.self l.parts l.part-index;
}
