use Rattle.std.proofs.Common.{Bool, ap, map}
use Rattle.vs_grammar.specs.Verilog.{◌⨾◌, signed_range}
use Rattle.vs_ast.specs.Views as view
use Rattle.vs_statements.specs.declared.error.ParseError.TheVariants.{Memory}
use Rattle.vs_statements.specs.Reading.Refused.{out_of_memory}
use Rattle.vs_statements.proofs.Places.{answer_exit, refused_memory, refused_var, refused_seq, refused_then}
use Rattle.vs_statements.proofs.Pairs.{ok_at, err_at}
use Rattle.vs_parser.specs.Headings as part
use Rattle.vs_parser.specs.Parts.{port_name}
use Rattle.vs_parser.proofs.Directions.{directed_refused}
use Rattle.vs_parser.proofs.Headers.{port_read}
use Rattle.vs_parser.proofs.modules.port.Goals as goal

pub returns-in_err-kind : goal.returns-in_err-kind
returns-in_err-kind c = answer_exit _ _ c.from_residual.result c.in_err-kind.field-0.0 c.from_residual.ensures.1 (refused_var (c.in_err-kind.ensures _ _))

pub returns-in_err-range : goal.returns-in_err-range
returns-in_err-range c = answer_exit _ _ c.from_residual-in_err-range.result c.in_err-range.field-0.0 c.from_residual-in_err-range.ensures.1 (refused_var (directed_refused (λ (z : Bool). signed_range (port_name z ⨾ part.tail z)) c.args.depth.limit c.in_ok-kind.ensures (refused_then c.optional-signed.ensures.read (refused_seq c.in_err-range.ensures))))

pub returns-in_err-range-2 : goal.returns-in_err-range-2
returns-in_err-range-2 c = answer_exit _ _ c.from_residual-in_err-range-2.result c.in_err-range-2.field-0.0 c.from_residual-in_err-range-2.ensures.1 (refused_var (directed_refused (λ (z : Bool). signed_range (port_name z ⨾ part.tail z)) c.args.depth.limit c.in_ok-kind.ensures (refused_then c.optional-signed.ensures.read (refused_then c.in_ok-range.ensures.read (refused_seq (err_at _ _ c.in_err-range-2.ensures c.port_name-name.ensures))))))

pub returns-in_err-range-3 : goal.returns-in_err-range-3
returns-in_err-range-3 c = answer_exit _ _ c.from_residual-in_err-range-3.result c.in_err-range-3.field-0.0 c.from_residual-in_err-range-3.ensures.1 (refused_memory (err_at _ _ c.in_err-range-3.ensures c.one-names.ensures))

pub returns : goal.returns
returns c = rw (c.in_ok-range-3.ensures.0, c.in_ok-range-2.ensures.0) (port_read c.args.depth.limit c.in_ok-kind.ensures c.optional-signed.ensures.read c.in_ok-range.ensures.read (ok_at _ _ c.in_ok-range-2.ensures.1 c.port_name-name.ensures).read c.optional-signed.ensures.made c.in_ok-range.ensures.made (ok_at _ _ c.in_ok-range-2.ensures.1 c.port_name-name.ensures).made (ap (map view.declarator) (ok_at _ _ c.in_ok-range-3.ensures.1 c.one-names.ensures)))
