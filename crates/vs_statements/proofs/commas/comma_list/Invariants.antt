use Rattle.std.proofs.Common.{◌-◌, length}
use Rattle.vs_statements.specs.Reading.{Listed}
use Rattle.vs_statements.proofs.commas.comma_list.Given as goal

abbrev pub invariant-loop-depth : goal.invariant-loop-depth
invariant-loop-depth g l = Listed l.input g.P.Part.phrase g.P.Part.meaning g.P.Part.view l.fn.depth.value l.fn.at l.list.items l.to

abbrev pub decreases-loop-depth : goal.decreases-loop-depth
decreases-loop-depth g l = length l.input.tokens.now - l.to
