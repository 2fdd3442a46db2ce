use Rattle.std.proofs.Common.{subst}
use Rattle.vs_grammar.specs.Trees.{SignalKind}
use Rattle.vs_statements.proofs.Places.{answer_exit, refused_seq, refused_then, refused_missing, refused_former, refused_latter, read_tok, one_true, one_false}
use Rattle.vs_parser.specs.Directions.{Directed}
use Rattle.vs_parser.specs.Directions.Directed.{an_input, an_output, an_output_reg}
use Rattle.vs_parser.proofs.Directions.{input_made, output_made}
use Rattle.vs_parser.proofs.declarations.direction.Goals as goal

pub returns-in_err-word : goal.returns-in_err-word
returns-in_err-word c = answer_exit _ _ c.from_residual.result c.in_err-word.field-0.0 c.from_residual.ensures.1 (λ x y. refused_former (one_true _ c.stands.result c.stands.ensures c.if-stands.true) (refused_seq (refused_missing c.in_err-word.ensures)))

pub returns-then-stands : goal.returns-then-stands
returns-then-stands c = subst (λ (k : SignalKind). Directed c.args.input.now.tokens.now c.args.depth.value c.args.at k c.optional-wire.result.to) (input_made c.optional-wire.ensures.tree c.optional-wire.result.value c.input_kind.result c.optional-wire.ensures.made c.input_kind.ensures) (an_input c.optional-wire.ensures.tree c.in_ok-word.ensures c.optional-wire.ensures.read)

pub returns-in_err-word-2 : goal.returns-in_err-word-2
returns-in_err-word-2 c = answer_exit _ _ c.from_residual-in_err-word-2.result c.in_err-word-2.field-0.0 c.from_residual-in_err-word-2.ensures.1 (λ x y. refused_latter (one_false _ c.stands.result c.stands.ensures c.if-stands.false) (refused_seq (refused_missing c.in_err-word-2.ensures)))

pub returns-in_err-reg : goal.returns-in_err-reg
returns-in_err-reg c = answer_exit _ _ c.from_residual-in_err-reg.result c.in_err-reg.field-0.0 c.from_residual-in_err-reg.ensures.1 (λ x y. refused_latter (one_false _ c.stands.result c.stands.ensures c.if-stands.false) (refused_then (read_tok c.args.depth.limit c.in_ok-word-2.ensures) (refused_former (one_true _ c.stands-2.result c.stands-2.ensures c.if-stands-2.true) (refused_seq (refused_missing c.in_err-reg.ensures)))))

pub returns-then-stands-2 : goal.returns-then-stands-2
returns-then-stands-2 c = an_output_reg c.in_ok-word-2.ensures c.in_ok-reg.ensures

pub returns : goal.returns
returns c = subst (λ (k : SignalKind). Directed c.args.input.now.tokens.now c.args.depth.value c.args.at k c.optional-wire-2.result.to) (output_made c.optional-wire-2.ensures.tree c.optional-wire-2.result.value c.output_kind.result c.optional-wire-2.ensures.made c.output_kind.ensures) (an_output c.optional-wire-2.ensures.tree c.in_ok-word-2.ensures (one_false _ c.stands-2.result c.stands-2.ensures c.if-stands-2.false) c.optional-wire-2.ensures.read)
