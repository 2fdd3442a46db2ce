use Rattle.std.proofs.Common.{Bool, ◌∙◌}
use Rattle.vs_grammar.specs.Verilog.{◌⨾◌, t, signed_range}
use Rattle.vs_lexer.specs.declared.token.TokenKind.TheVariants as kind
use Rattle.vs_grammar.specs.Trees as tree
use Rattle.vs_ast.specs.Views as view
use Rattle.vs_statements.proofs.Places.{answer_exit, refused_seq, refused_then, refused_missing, read_tok, read_seq, parsed, ap3}
use Rattle.vs_statements.proofs.Pairs.{ok_at, err_at}
use Rattle.vs_parser.specs.Parts as part
use Rattle.vs_parser.proofs.Directions.{directed_refused, port_item_read}
use Rattle.vs_parser.proofs.declarations.ports_item.Goals as goal

pub returns-in_err-kind : goal.returns-in_err-kind
returns-in_err-kind c = answer_exit _ _ c.from_residual.result c.in_err-kind.field-0.0 c.from_residual.ensures.1 (c.in_err-kind.ensures _ _)

pub returns-in_err-range : goal.returns-in_err-range
returns-in_err-range c = answer_exit _ _ c.from_residual-in_err-range.result c.in_err-range.field-0.0 c.from_residual-in_err-range.ensures.1 (directed_refused (λ (z : Bool). signed_range (part.port_names z ⨾ t kind.Semicolon)) c.args.depth.limit c.in_ok-kind.ensures (refused_then c.optional-signed.ensures.read (refused_seq c.in_err-range.ensures)))

pub returns-in_err-range-2 : goal.returns-in_err-range-2
returns-in_err-range-2 c = answer_exit _ _ c.from_residual-in_err-range-2.result c.in_err-range-2.field-0.0 c.from_residual-in_err-range-2.ensures.1 (directed_refused (λ (z : Bool). signed_range (part.port_names z ⨾ t kind.Semicolon)) c.args.depth.limit c.in_ok-kind.ensures (refused_then c.optional-signed.ensures.read (refused_then c.in_ok-range.ensures.read (refused_seq (err_at _ _ c.in_err-range-2.ensures c.port_names-names.ensures)))))

pub returns-in_err-declared : goal.returns-in_err-declared
returns-in_err-declared c = answer_exit _ _ c.from_residual-in_err-declared.result c.in_err-declared.field-0.0 c.from_residual-in_err-declared.ensures.1 (directed_refused (λ (z : Bool). signed_range (part.port_names z ⨾ t kind.Semicolon)) c.args.depth.limit c.in_ok-kind.ensures (refused_then c.optional-signed.ensures.read (refused_then c.in_ok-range.ensures.read (refused_then (ok_at _ _ c.in_ok-range-2.ensures.1 c.port_names-names.ensures).read (refused_missing (err_at _ _ c.in_err-declared.ensures c.take-end.ensures))))))

pub returns : goal.returns
returns c =
    let q = port_item_read {input = c.args.input.now} c.args.depth.limit c.in_ok-kind.ensures (read_seq c.optional-signed.ensures.read (read_seq c.in_ok-range.ensures.read (read_seq (ok_at _ _ c.in_ok-range-2.ensures.1 c.port_names-names.ensures).read (read_tok c.args.depth.limit (ok_at _ _ c.in_ok-declared.ensures.1 c.take-end.ensures))))) in
    rw (c.in_ok-declared.ensures.0, c.in_ok-range-2.ensures.0) (parsed q.read (q.made ∙ ap3 (λ s g l. tree.SignalsItem (record { place = c.args.at; kind = view.signal_kind c.in_ok-kind.kind.value; signed = s; range = g; names = l })) c.optional-signed.ensures.made c.in_ok-range.ensures.made (ok_at _ _ c.in_ok-range-2.ensures.1 c.port_names-names.ensures).made))
