use Rattle.std.proofs.Common.{◌-◌, length}
use Rattle.vs_grammar.specs.Verilog.{Rule as rule, r}
use Rattle.vs_grammar.specs.Verilog.{◌⨾◌}
use Rattle.vs_grammar.specs.Meaning as meaning
use Rattle.vs_ast.specs.Views as view
use Rattle.vs_parser.specs.Parts as part
use Rattle.vs_statements.specs.Reading.{Listing}
use Rattle.vs_parser.proofs.processes.more_events.Given as goal

abbrev pub invariant-loop-sign : goal.invariant-loop-sign
invariant-loop-sign l = Listing l.input (part.event_sign ⨾ r rule.Event) (λ b. meaning.behind_sign (meaning.event_of b)) view.event l.fn.depth.value l.fn.before.items l.fn.at l.list.items l.to

abbrev pub decreases-loop-sign : goal.decreases-loop-sign
decreases-loop-sign l = length l.input.tokens.now - l.to
