use Rattle.std.proofs.Common.{sym, ◌∙◌, ap, [], ◌∷◌, map}
use Rattle.vs_grammar.specs.Trees as tree
use Rattle.vs_ast.specs.Views as view
use Rattle.vs_statements.specs.declared.error.ParseError.TheVariants.{Memory}
use Rattle.vs_statements.specs.Reading.Refused.{out_of_memory}
use Rattle.vs_statements.proofs.Places.{answer_exit, refused_memory, refused_missing, read_tok, parsed}
use Rattle.vs_statements.proofs.Lists.{pushed_first}
use Rattle.vs_statements.proofs.Pairs.{ok_at, err_at}
use Rattle.vs_parser.proofs.processes.single_event.Goals as goal

pub returns-in_err-name : goal.returns-in_err-name
returns-in_err-name c = answer_exit _ _ c.from_residual.result c.in_err-name.field-0.0 c.from_residual.ensures.1 (refused_missing c.in_err-name.ensures)

pub returns-in_err-list : goal.returns-in_err-list
returns-in_err-list c = answer_exit _ _ c.from_residual-in_err-list.result c.in_err-list.field-0.0 c.from_residual-in_err-list.ensures.1 (refused_memory c.in_err-list.ensures)

pub returns : goal.returns
returns c = parsed (read_tok c.args.depth.limit c.in_ok-name.ensures.took) (ap (λ z. tree.Listed (record { edge = tree.Any; name = z } ∷ [])) c.in_ok-name.ensures.made ∙ ap (λ z. tree.Listed (map view.event z)) (sym c.in_ok-list.ensures))
