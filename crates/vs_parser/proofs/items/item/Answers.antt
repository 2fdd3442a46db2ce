use Rattle.std.proofs.Common.{sym, ◌∙◌, ap, map}
use Rattle.vs_grammar.specs.Trees as tree
use Rattle.vs_ast.specs.declared.items.Item as item
use Rattle.vs_ast.specs.Views as view
use Rattle.vs_statements.specs.declared.error.ParseError.TheVariants.{Memory}
use Rattle.vs_statements.specs.Reading.{bytes_in}
use Rattle.vs_statements.specs.Reading.Refused.{out_of_memory}
use Rattle.vs_statements.proofs.Places.{answer_exit, refused_memory, refused_var, refused_seq, refused_then, refused_missing, refused_former, refused_latter, read_tok, read_var, read_seq, read_former, read_latter, one_true, one_false}
use Rattle.vs_parser.specs.ItemLists.{items_from}
use Rattle.vs_parser.proofs.Blocks.{generated, one_more, parameters_put, read_item}
use Rattle.vs_statements.proofs.Pairs.{ok_at, err_at}
use Rattle.vs_parser.proofs.items.item.Goals as goal

pub returns-in_err-before : goal.returns-in_err-before
returns-in_err-before c = answer_exit _ _ c.from_residual.result c.in_err-before.field-0.0 c.from_residual.ensures.1 (refused_var (refused_former (sym c.stands_any.ensures ∙ c.if-stands_any.true) (err_at _ _ c.in_err-before.ensures c.ports_item-ports.ensures)))

pub returns-in_err-list : goal.returns-in_err-list
returns-in_err-list c = answer_exit _ _ c.from_residual-in_err-list.result c.in_err-list.field-0.0 c.from_residual-in_err-list.ensures.1 (refused_memory c.in_err-list.ensures)

pub returns-in_ok-list : goal.returns-in_ok-list
returns-in_ok-list c = let l = rw c.in_ok-before.ensures.0 at c.in_ok-list.ensures in read_item (read_var (read_former (sym c.stands_any.ensures ∙ c.if-stands_any.true) (ok_at _ _ c.in_ok-before.ensures.1 c.ports_item-ports.ensures).read)) (one_more c.args.before.items _ _ c.in_ok-before.ports.value (ok_at _ _ c.in_ok-before.ensures.1 c.ports_item-ports.ensures).made l)

pub returns-in_err-before-2 : goal.returns-in_err-before-2
returns-in_err-before-2 c = answer_exit _ _ c.from_residual-in_err-before-2.result c.in_err-before-2.field-0.0 c.from_residual-in_err-before-2.ensures.1 (refused_var (refused_latter (sym c.stands_any.ensures ∙ c.if-stands_any.false) (refused_former (one_true _ c.stands.result c.stands.ensures c.if-stands.true) (err_at _ _ c.in_err-before-2.ensures c.parameters-constants.ensures))))

pub returns-in_err-list-2 : goal.returns-in_err-list-2
returns-in_err-list-2 c = answer_exit _ _ c.from_residual-in_err-list-2.result c.in_err-list-2.field-0.0 c.from_residual-in_err-list-2.ensures.1 (refused_memory c.in_err-list-2.ensures)

pub returns-in_ok-list-2 : goal.returns-in_ok-list-2
returns-in_ok-list-2 c = let l = rw c.in_ok-before-2.ensures.0 at c.in_ok-list-2.ensures in read_item (read_var (read_latter (sym c.stands_any.ensures ∙ c.if-stands_any.false) (read_former (one_true _ c.stands.result c.stands.ensures c.if-stands.true) (ok_at _ _ c.in_ok-before-2.ensures.1 c.parameters-constants.ensures).read))) (λ rest. ap (λ z. items_from (map view.item c.args.before.items) z) (parameters_put (bytes_in c.args.input.now) (ok_at _ _ c.in_ok-before-2.ensures.1 c.parameters-constants.ensures).tree rest) ∙ one_more c.args.before.items _ _ c.in_ok-before-2.constants.value (ok_at _ _ c.in_ok-before-2.ensures.1 c.parameters-constants.ensures).made l rest)

pub returns-in_err-before-3 : goal.returns-in_err-before-3
returns-in_err-before-3 c = answer_exit _ _ c.from_residual-in_err-before-3.result c.in_err-before-3.field-0.0 c.from_residual-in_err-before-3.ensures.1 (refused_var (refused_latter (sym c.stands_any.ensures ∙ c.if-stands_any.false) (refused_latter (one_false _ c.stands.result c.stands.ensures c.if-stands.false) (refused_former (one_true _ c.stands-else-stands.result c.stands-else-stands.ensures c.if-stands-2.true) (refused_seq (refused_missing (err_at _ _ c.in_err-before-3.ensures c.take-word.ensures)))))))

pub returns-in_err-items : goal.returns-in_err-items
returns-in_err-items c = answer_exit _ _ c.from_residual-in_err-items.result c.in_err-items.field-0.0 c.from_residual-in_err-items.ensures.1 (refused_var (refused_latter (sym c.stands_any.ensures ∙ c.if-stands_any.false) (refused_latter (one_false _ c.stands.result c.stands.ensures c.if-stands.false) (refused_former (one_true _ c.stands-else-stands.result c.stands-else-stands.ensures c.if-stands-2.true) (refused_then (read_tok c.args.depth.limit (ok_at _ _ c.in_ok-before-3.ensures.1 c.take-word.ensures)) (refused_seq c.in_err-items.ensures))))))

pub returns-in_err-items-2 : goal.returns-in_err-items-2
returns-in_err-items-2 c = answer_exit _ _ c.from_residual-in_err-items-2.result c.in_err-items-2.field-0.0 c.from_residual-in_err-items-2.ensures.1 (refused_var (refused_latter (sym c.stands_any.ensures ∙ c.if-stands_any.false) (refused_latter (one_false _ c.stands.result c.stands.ensures c.if-stands.false) (refused_former (one_true _ c.stands-else-stands.result c.stands-else-stands.ensures c.if-stands-2.true) (refused_then (read_tok c.args.depth.limit (ok_at _ _ c.in_ok-before-3.ensures.1 c.take-word.ensures)) (refused_then c.in_ok-items.ensures.read (refused_missing (err_at _ _ c.in_err-items-2.ensures c.take-end.ensures))))))))

pub returns-in_ok-items-2 : goal.returns-in_ok-items-2
returns-in_ok-items-2 c = let p = rw c.in_ok-before-3.ensures.0 at c.in_ok-items.ensures in rw c.in_ok-items-2.ensures.0 (read_item (read_var (read_latter (sym c.stands_any.ensures ∙ c.if-stands_any.false) (read_latter (one_false _ c.stands.result c.stands.ensures c.if-stands.false) (read_former (one_true _ c.stands-else-stands.result c.stands-else-stands.ensures c.if-stands-2.true) (read_seq (read_tok c.args.depth.limit (ok_at _ _ c.in_ok-before-3.ensures.1 c.take-word.ensures)) (read_seq p.read (read_tok c.args.depth.limit (ok_at _ _ c.in_ok-items-2.ensures.1 c.take-end.ensures)))))))) (generated (bytes_in c.args.input.now) p.tree c.args.before.items c.in_ok-items.items.value.items p.made))

pub returns-in_err-before-4 : goal.returns-in_err-before-4
returns-in_err-before-4 c = answer_exit _ _ c.from_residual-in_err-before-4.result c.in_err-before-4.field-0.0 c.from_residual-in_err-before-4.ensures.1 (refused_var (refused_latter (sym c.stands_any.ensures ∙ c.if-stands_any.false) (refused_latter (one_false _ c.stands.result c.stands.ensures c.if-stands.false) (refused_latter (one_false _ c.stands-else-stands.result c.stands-else-stands.ensures c.if-stands-2.false) (refused_former (one_true _ c.stands-else-stands-2.result c.stands-else-stands-2.ensures c.if-stands-3.true) (err_at _ _ c.in_err-before-4.ensures c.function-declared.ensures))))))

pub returns-in_err-list-3 : goal.returns-in_err-list-3
returns-in_err-list-3 c = answer_exit _ _ c.from_residual-in_err-list-3.result c.in_err-list-3.field-0.0 c.from_residual-in_err-list-3.ensures.1 (refused_memory c.in_err-list-3.ensures)

pub returns-in_ok-list-3 : goal.returns-in_ok-list-3
returns-in_ok-list-3 c = let l = rw c.in_ok-before-4.ensures.0 at c.in_ok-list-3.ensures in read_item (read_var (read_latter (sym c.stands_any.ensures ∙ c.if-stands_any.false) (read_latter (one_false _ c.stands.result c.stands.ensures c.if-stands.false) (read_latter (one_false _ c.stands-else-stands.result c.stands-else-stands.ensures c.if-stands-2.false) (read_former (one_true _ c.stands-else-stands-2.result c.stands-else-stands-2.ensures c.if-stands-3.true) (ok_at _ _ c.in_ok-before-4.ensures.1 c.function-declared.ensures).read))))) (one_more c.args.before.items _ _ (item.Function c.in_ok-before-4.declared.value) (ap tree.FunctionItem (ok_at _ _ c.in_ok-before-4.ensures.1 c.function-declared.ensures).made) l)

pub returns-in_err-before-5 : goal.returns-in_err-before-5
returns-in_err-before-5 c = answer_exit _ _ c.from_residual-in_err-before-5.result c.in_err-before-5.field-0.0 c.from_residual-in_err-before-5.ensures.1 (refused_var (refused_latter (sym c.stands_any.ensures ∙ c.if-stands_any.false) (refused_latter (one_false _ c.stands.result c.stands.ensures c.if-stands.false) (refused_latter (one_false _ c.stands-else-stands.result c.stands-else-stands.ensures c.if-stands-2.false) (refused_latter (one_false _ c.stands-else-stands-2.result c.stands-else-stands-2.ensures c.if-stands-3.false) (err_at _ _ c.in_err-before-5.ensures c.generate_item-other.ensures))))))

pub returns-in_err-list-4 : goal.returns-in_err-list-4
returns-in_err-list-4 c = answer_exit _ _ c.from_residual-in_err-list-4.result c.in_err-list-4.field-0.0 c.from_residual-in_err-list-4.ensures.1 (refused_memory c.in_err-list-4.ensures)

pub returns-in_ok-list-4 : goal.returns-in_ok-list-4
returns-in_ok-list-4 c = let l = rw c.in_ok-before-5.ensures.0 at c.in_ok-list-4.ensures in read_item (read_var (read_latter (sym c.stands_any.ensures ∙ c.if-stands_any.false) (read_latter (one_false _ c.stands.result c.stands.ensures c.if-stands.false) (read_latter (one_false _ c.stands-else-stands.result c.stands-else-stands.ensures c.if-stands-2.false) (read_latter (one_false _ c.stands-else-stands-2.result c.stands-else-stands-2.ensures c.if-stands-3.false) (ok_at _ _ c.in_ok-before-5.ensures.1 c.generate_item-other.ensures).read))))) (one_more c.args.before.items _ _ c.in_ok-before-5.other.value (ok_at _ _ c.in_ok-before-5.ensures.1 c.generate_item-other.ensures).made l)
