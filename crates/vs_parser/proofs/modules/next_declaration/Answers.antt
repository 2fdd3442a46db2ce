use Rattle.std.proofs.Common.{sym, ◌∙◌}
use Rattle.vs_statements.proofs.Places.{answer_exit, refused_memory, refused_seq, refused_then, refused_missing, read_tok, read_seq, parsed, ap2}
use Rattle.vs_parser.specs.Headings as part
use Rattle.vs_statements.proofs.Pairs.{ok_at, err_at}
use Rattle.vs_parser.proofs.modules.next_declaration.Goals as goal

pub returns-in_err-word : goal.returns-in_err-word
returns-in_err-word c = answer_exit _ _ c.from_residual.result c.in_err-word.field-0.0 c.from_residual.ensures.1 (refused_seq (refused_missing c.in_err-word.ensures))

pub returns-in_err-value_type : goal.returns-in_err-value_type
returns-in_err-value_type c = answer_exit _ _ c.from_residual-in_err-value_type.result c.in_err-value_type.field-0.0 c.from_residual-in_err-value_type.ensures.1 (refused_then (read_tok c.args.depth.limit c.in_ok-word.ensures) (refused_seq c.in_err-value_type.ensures))

pub returns-in_err-value_type-2 : goal.returns-in_err-value_type-2
returns-in_err-value_type-2 c = answer_exit _ _ c.from_residual-in_err-value_type-2.result c.in_err-value_type-2.field-0.0 c.from_residual-in_err-value_type-2.ensures.1 (refused_then (read_tok c.args.depth.limit c.in_ok-word.ensures) (refused_then c.in_ok-value_type.ensures.read (err_at _ _ c.in_err-value_type-2.ensures c.setting-first.ensures)))

pub returns-in_err-value : goal.returns-in_err-value
returns-in_err-value c = answer_exit _ _ c.from_residual-in_err-value.result c.in_err-value.field-0.0 c.from_residual-in_err-value.ensures.1 (refused_memory c.in_err-value.ensures)

pub returns : goal.returns
returns c = parsed (read_seq (read_tok c.args.depth.limit c.in_ok-word.ensures) (read_seq c.in_ok-value_type.ensures.read (ok_at _ _ c.in_ok-value_type-2.ensures.1 c.setting-first.ensures).read)) (ap2 (part.declaration c.args.at) c.in_ok-value_type.ensures.made (ok_at _ _ c.in_ok-value_type-2.ensures.1 c.setting-first.ensures).made ∙ sym (rw c.in_ok-value_type-2.ensures.0 at c.in_ok-value.ensures))
