use Rattle.std.proofs.Common.{refl, sym, ◌∙◌, ap}
use Rattle.vs_grammar.specs.Trees as tree
use Rattle.vs_grammar.specs.Verilog.{Rule as rule, r, t}
use Rattle.vs_grammar.specs.Meaning as meaning
use Rattle.vs_ast.specs.Views as view
use Rattle.vs_statements.specs.declared.error.ParseError.TheVariants.{Memory}
use Rattle.vs_parser.specs.Parts as part
use Rattle.vs_statements.specs.Reading.{bytes_in, terminal_at}
use Rattle.vs_statements.specs.Reading.Refused.{out_of_memory}
use Rattle.vs_statements.proofs.Places.{answer_exit, refused_memory, refused_kept, refused_var, refused_seq, refused_then, refused_missing, refused_level, refused_former, refused_latter, refused_more, refused_within, read_tok, read_eps, read_var, read_seq, read_level, read_former, read_latter, read_without, read_within, parsed, one_true, one_false, stood, ap2, ap3, answer_more}
use Rattle.vs_statements.proofs.Firsts.{too_deep_first, stopped_first}
use Rattle.vs_statements.proofs.Lists.{shorter, listing_start, listing_more, pushed_first, listing_behind}
use Rattle.vs_grammar.specs.Grammars.Tree.{leaf, nothing}
use Rattle.vs_statements.proofs.Pairs.{ok_at, err_at}
use Rattle.vs_parser.proofs.Blocks.{items_made, block_default_first, block_arms_alone, block_arms_around}
use Rattle.vs_parser.proofs.items.+items.Goals as goal

pub generate_item-returns-then-stands : goal.generate_item-returns-then-stands
generate_item-returns-then-stands t c = answer_more c.regs.result c.regs.ensures (λ f w. parsed (read_var (read_former (one_true _ c.stands.result c.stands.ensures c.if-stands.true) w.read)) w.made) (λ e w. (refused_var (refused_former (one_true _ c.stands.result c.stands.ensures c.if-stands.true) w)))

pub generate_item-returns-then-stands-2 : goal.generate_item-returns-then-stands-2
generate_item-returns-then-stands-2 t c = answer_more c.wires.result c.wires.ensures (λ f w. parsed (read_var (read_latter (one_false _ c.stands.result c.stands.ensures c.if-stands.false) (read_former (one_true _ c.stands-else-stands.result c.stands-else-stands.ensures c.if-stands-2.true) w.read))) w.made) (λ e w. (refused_var (refused_latter (one_false _ c.stands.result c.stands.ensures c.if-stands.false) (refused_former (one_true _ c.stands-else-stands.result c.stands-else-stands.ensures c.if-stands-2.true) w))))

pub generate_item-returns-then-stands-3 : goal.generate_item-returns-then-stands-3
generate_item-returns-then-stands-3 t c = answer_more c.local_parameters.result c.local_parameters.ensures (λ f w. parsed (read_var (read_latter (one_false _ c.stands.result c.stands.ensures c.if-stands.false) (read_latter (one_false _ c.stands-else-stands.result c.stands-else-stands.ensures c.if-stands-2.false) (read_former (one_true _ c.stands-else-stands-2.result c.stands-else-stands-2.ensures c.if-stands-3.true) w.read)))) w.made) (λ e w. (refused_var (refused_latter (one_false _ c.stands.result c.stands.ensures c.if-stands.false) (refused_latter (one_false _ c.stands-else-stands.result c.stands-else-stands.ensures c.if-stands-2.false) (refused_former (one_true _ c.stands-else-stands-2.result c.stands-else-stands-2.ensures c.if-stands-3.true) w)))))

pub generate_item-returns-then-stands-4 : goal.generate_item-returns-then-stands-4
generate_item-returns-then-stands-4 t c = answer_more c.assigns.result c.assigns.ensures (λ f w. parsed (read_var (read_latter (one_false _ c.stands.result c.stands.ensures c.if-stands.false) (read_latter (one_false _ c.stands-else-stands.result c.stands-else-stands.ensures c.if-stands-2.false) (read_latter (one_false _ c.stands-else-stands-2.result c.stands-else-stands-2.ensures c.if-stands-3.false) (read_former (one_true _ c.stands-else-stands-3.result c.stands-else-stands-3.ensures c.if-stands-4.true) w.read))))) w.made) (λ e w. (refused_var (refused_latter (one_false _ c.stands.result c.stands.ensures c.if-stands.false) (refused_latter (one_false _ c.stands-else-stands.result c.stands-else-stands.ensures c.if-stands-2.false) (refused_latter (one_false _ c.stands-else-stands-2.result c.stands-else-stands-2.ensures c.if-stands-3.false) (refused_former (one_true _ c.stands-else-stands-3.result c.stands-else-stands-3.ensures c.if-stands-4.true) w))))))

pub generate_item-returns-then-stands-5 : goal.generate_item-returns-then-stands-5
generate_item-returns-then-stands-5 t c = answer_more c.always.result c.always.ensures (λ f w. parsed (read_var (read_latter (one_false _ c.stands.result c.stands.ensures c.if-stands.false) (read_latter (one_false _ c.stands-else-stands.result c.stands-else-stands.ensures c.if-stands-2.false) (read_latter (one_false _ c.stands-else-stands-2.result c.stands-else-stands-2.ensures c.if-stands-3.false) (read_latter (one_false _ c.stands-else-stands-3.result c.stands-else-stands-3.ensures c.if-stands-4.false) (read_former (one_true _ c.stands-else-stands-4.result c.stands-else-stands-4.ensures c.if-stands-5.true) w.read)))))) w.made) (λ e w. (refused_var (refused_latter (one_false _ c.stands.result c.stands.ensures c.if-stands.false) (refused_latter (one_false _ c.stands-else-stands.result c.stands-else-stands.ensures c.if-stands-2.false) (refused_latter (one_false _ c.stands-else-stands-2.result c.stands-else-stands-2.ensures c.if-stands-3.false) (refused_latter (one_false _ c.stands-else-stands-3.result c.stands-else-stands-3.ensures c.if-stands-4.false) (refused_former (one_true _ c.stands-else-stands-4.result c.stands-else-stands-4.ensures c.if-stands-5.true) w)))))))

pub generate_item-returns-then-stands-6 : goal.generate_item-returns-then-stands-6
generate_item-returns-then-stands-6 t c = answer_more c.initial.result c.initial.ensures (λ f w. parsed (read_var (read_latter (one_false _ c.stands.result c.stands.ensures c.if-stands.false) (read_latter (one_false _ c.stands-else-stands.result c.stands-else-stands.ensures c.if-stands-2.false) (read_latter (one_false _ c.stands-else-stands-2.result c.stands-else-stands-2.ensures c.if-stands-3.false) (read_latter (one_false _ c.stands-else-stands-3.result c.stands-else-stands-3.ensures c.if-stands-4.false) (read_latter (one_false _ c.stands-else-stands-4.result c.stands-else-stands-4.ensures c.if-stands-5.false) (read_former (one_true _ c.stands-else-stands-5.result c.stands-else-stands-5.ensures c.if-stands-6.true) w.read))))))) w.made) (λ e w. (refused_var (refused_latter (one_false _ c.stands.result c.stands.ensures c.if-stands.false) (refused_latter (one_false _ c.stands-else-stands.result c.stands-else-stands.ensures c.if-stands-2.false) (refused_latter (one_false _ c.stands-else-stands-2.result c.stands-else-stands-2.ensures c.if-stands-3.false) (refused_latter (one_false _ c.stands-else-stands-3.result c.stands-else-stands-3.ensures c.if-stands-4.false) (refused_latter (one_false _ c.stands-else-stands-4.result c.stands-else-stands-4.ensures c.if-stands-5.false) (refused_former (one_true _ c.stands-else-stands-5.result c.stands-else-stands-5.ensures c.if-stands-6.true) w))))))))

pub generate_item-returns-then-stands-7 : goal.generate_item-returns-then-stands-7
generate_item-returns-then-stands-7 t c = answer_more c.genvars.result c.genvars.ensures (λ f w. parsed (read_var (read_latter (one_false _ c.stands.result c.stands.ensures c.if-stands.false) (read_latter (one_false _ c.stands-else-stands.result c.stands-else-stands.ensures c.if-stands-2.false) (read_latter (one_false _ c.stands-else-stands-2.result c.stands-else-stands-2.ensures c.if-stands-3.false) (read_latter (one_false _ c.stands-else-stands-3.result c.stands-else-stands-3.ensures c.if-stands-4.false) (read_latter (one_false _ c.stands-else-stands-4.result c.stands-else-stands-4.ensures c.if-stands-5.false) (read_latter (one_false _ c.stands-else-stands-5.result c.stands-else-stands-5.ensures c.if-stands-6.false) (read_former (one_true _ c.stands-else-stands-6.result c.stands-else-stands-6.ensures c.if-stands-7.true) w.read)))))))) w.made) (λ e w. (refused_var (refused_latter (one_false _ c.stands.result c.stands.ensures c.if-stands.false) (refused_latter (one_false _ c.stands-else-stands.result c.stands-else-stands.ensures c.if-stands-2.false) (refused_latter (one_false _ c.stands-else-stands-2.result c.stands-else-stands-2.ensures c.if-stands-3.false) (refused_latter (one_false _ c.stands-else-stands-3.result c.stands-else-stands-3.ensures c.if-stands-4.false) (refused_latter (one_false _ c.stands-else-stands-4.result c.stands-else-stands-4.ensures c.if-stands-5.false) (refused_latter (one_false _ c.stands-else-stands-5.result c.stands-else-stands-5.ensures c.if-stands-6.false) (refused_former (one_true _ c.stands-else-stands-6.result c.stands-else-stands-6.ensures c.if-stands-7.true) w)))))))))

pub generate_item-returns-then-stands-8 : goal.generate_item-returns-then-stands-8
generate_item-returns-then-stands-8 t c = answer_more c.integers.result c.integers.ensures (λ f w. parsed (read_var (read_latter (one_false _ c.stands.result c.stands.ensures c.if-stands.false) (read_latter (one_false _ c.stands-else-stands.result c.stands-else-stands.ensures c.if-stands-2.false) (read_latter (one_false _ c.stands-else-stands-2.result c.stands-else-stands-2.ensures c.if-stands-3.false) (read_latter (one_false _ c.stands-else-stands-3.result c.stands-else-stands-3.ensures c.if-stands-4.false) (read_latter (one_false _ c.stands-else-stands-4.result c.stands-else-stands-4.ensures c.if-stands-5.false) (read_latter (one_false _ c.stands-else-stands-5.result c.stands-else-stands-5.ensures c.if-stands-6.false) (read_latter (one_false _ c.stands-else-stands-6.result c.stands-else-stands-6.ensures c.if-stands-7.false) (read_former (one_true _ c.stands-else-stands-7.result c.stands-else-stands-7.ensures c.if-stands-8.true) w.read))))))))) w.made) (λ e w. (refused_var (refused_latter (one_false _ c.stands.result c.stands.ensures c.if-stands.false) (refused_latter (one_false _ c.stands-else-stands.result c.stands-else-stands.ensures c.if-stands-2.false) (refused_latter (one_false _ c.stands-else-stands-2.result c.stands-else-stands-2.ensures c.if-stands-3.false) (refused_latter (one_false _ c.stands-else-stands-3.result c.stands-else-stands-3.ensures c.if-stands-4.false) (refused_latter (one_false _ c.stands-else-stands-4.result c.stands-else-stands-4.ensures c.if-stands-5.false) (refused_latter (one_false _ c.stands-else-stands-5.result c.stands-else-stands-5.ensures c.if-stands-6.false) (refused_latter (one_false _ c.stands-else-stands-6.result c.stands-else-stands-6.ensures c.if-stands-7.false) (refused_former (one_true _ c.stands-else-stands-7.result c.stands-else-stands-7.ensures c.if-stands-8.true) w))))))))))

pub generate_item-returns-then-stands-9 : goal.generate_item-returns-then-stands-9
generate_item-returns-then-stands-9 t c = answer_more c.instances.result c.instances.ensures (λ f w. parsed (read_var (read_latter (one_false _ c.stands.result c.stands.ensures c.if-stands.false) (read_latter (one_false _ c.stands-else-stands.result c.stands-else-stands.ensures c.if-stands-2.false) (read_latter (one_false _ c.stands-else-stands-2.result c.stands-else-stands-2.ensures c.if-stands-3.false) (read_latter (one_false _ c.stands-else-stands-3.result c.stands-else-stands-3.ensures c.if-stands-4.false) (read_latter (one_false _ c.stands-else-stands-4.result c.stands-else-stands-4.ensures c.if-stands-5.false) (read_latter (one_false _ c.stands-else-stands-5.result c.stands-else-stands-5.ensures c.if-stands-6.false) (read_latter (one_false _ c.stands-else-stands-6.result c.stands-else-stands-6.ensures c.if-stands-7.false) (read_latter (one_false _ c.stands-else-stands-7.result c.stands-else-stands-7.ensures c.if-stands-8.false) (read_former (one_true _ c.stands-else-stands-8.result c.stands-else-stands-8.ensures c.if-stands-9.true) w.read)))))))))) w.made) (λ e w. (refused_var (refused_latter (one_false _ c.stands.result c.stands.ensures c.if-stands.false) (refused_latter (one_false _ c.stands-else-stands.result c.stands-else-stands.ensures c.if-stands-2.false) (refused_latter (one_false _ c.stands-else-stands-2.result c.stands-else-stands-2.ensures c.if-stands-3.false) (refused_latter (one_false _ c.stands-else-stands-3.result c.stands-else-stands-3.ensures c.if-stands-4.false) (refused_latter (one_false _ c.stands-else-stands-4.result c.stands-else-stands-4.ensures c.if-stands-5.false) (refused_latter (one_false _ c.stands-else-stands-5.result c.stands-else-stands-5.ensures c.if-stands-6.false) (refused_latter (one_false _ c.stands-else-stands-6.result c.stands-else-stands-6.ensures c.if-stands-7.false) (refused_latter (one_false _ c.stands-else-stands-7.result c.stands-else-stands-7.ensures c.if-stands-8.false) (refused_former (one_true _ c.stands-else-stands-8.result c.stands-else-stands-8.ensures c.if-stands-9.true) w)))))))))))

pub generate_item-returns-then-stands-10 : goal.generate_item-returns-then-stands-10
generate_item-returns-then-stands-10 t c = answer_more c.generate_for.result c.generate_for.ensures (λ f w. parsed (read_var (read_latter (one_false _ c.stands.result c.stands.ensures c.if-stands.false) (read_latter (one_false _ c.stands-else-stands.result c.stands-else-stands.ensures c.if-stands-2.false) (read_latter (one_false _ c.stands-else-stands-2.result c.stands-else-stands-2.ensures c.if-stands-3.false) (read_latter (one_false _ c.stands-else-stands-3.result c.stands-else-stands-3.ensures c.if-stands-4.false) (read_latter (one_false _ c.stands-else-stands-4.result c.stands-else-stands-4.ensures c.if-stands-5.false) (read_latter (one_false _ c.stands-else-stands-5.result c.stands-else-stands-5.ensures c.if-stands-6.false) (read_latter (one_false _ c.stands-else-stands-6.result c.stands-else-stands-6.ensures c.if-stands-7.false) (read_latter (one_false _ c.stands-else-stands-7.result c.stands-else-stands-7.ensures c.if-stands-8.false) (read_latter (one_false _ c.stands-else-stands-8.result c.stands-else-stands-8.ensures c.if-stands-9.false) (read_former (one_true _ c.stands-else-stands-9.result c.stands-else-stands-9.ensures c.if-stands-10.true) w.read))))))))))) w.made) (λ e w. (refused_var (refused_latter (one_false _ c.stands.result c.stands.ensures c.if-stands.false) (refused_latter (one_false _ c.stands-else-stands.result c.stands-else-stands.ensures c.if-stands-2.false) (refused_latter (one_false _ c.stands-else-stands-2.result c.stands-else-stands-2.ensures c.if-stands-3.false) (refused_latter (one_false _ c.stands-else-stands-3.result c.stands-else-stands-3.ensures c.if-stands-4.false) (refused_latter (one_false _ c.stands-else-stands-4.result c.stands-else-stands-4.ensures c.if-stands-5.false) (refused_latter (one_false _ c.stands-else-stands-5.result c.stands-else-stands-5.ensures c.if-stands-6.false) (refused_latter (one_false _ c.stands-else-stands-6.result c.stands-else-stands-6.ensures c.if-stands-7.false) (refused_latter (one_false _ c.stands-else-stands-7.result c.stands-else-stands-7.ensures c.if-stands-8.false) (refused_latter (one_false _ c.stands-else-stands-8.result c.stands-else-stands-8.ensures c.if-stands-9.false) (refused_former (one_true _ c.stands-else-stands-9.result c.stands-else-stands-9.ensures c.if-stands-10.true) w))))))))))))

pub generate_item-returns-then-stands-11 : goal.generate_item-returns-then-stands-11
generate_item-returns-then-stands-11 t c = answer_more c.generate_if.result c.generate_if.ensures (λ f w. parsed (read_var (read_latter (one_false _ c.stands.result c.stands.ensures c.if-stands.false) (read_latter (one_false _ c.stands-else-stands.result c.stands-else-stands.ensures c.if-stands-2.false) (read_latter (one_false _ c.stands-else-stands-2.result c.stands-else-stands-2.ensures c.if-stands-3.false) (read_latter (one_false _ c.stands-else-stands-3.result c.stands-else-stands-3.ensures c.if-stands-4.false) (read_latter (one_false _ c.stands-else-stands-4.result c.stands-else-stands-4.ensures c.if-stands-5.false) (read_latter (one_false _ c.stands-else-stands-5.result c.stands-else-stands-5.ensures c.if-stands-6.false) (read_latter (one_false _ c.stands-else-stands-6.result c.stands-else-stands-6.ensures c.if-stands-7.false) (read_latter (one_false _ c.stands-else-stands-7.result c.stands-else-stands-7.ensures c.if-stands-8.false) (read_latter (one_false _ c.stands-else-stands-8.result c.stands-else-stands-8.ensures c.if-stands-9.false) (read_latter (one_false _ c.stands-else-stands-9.result c.stands-else-stands-9.ensures c.if-stands-10.false) (read_former (one_true _ c.stands-else-stands-10.result c.stands-else-stands-10.ensures c.if-stands-11.true) w.read)))))))))))) w.made) (λ e w. (refused_var (refused_latter (one_false _ c.stands.result c.stands.ensures c.if-stands.false) (refused_latter (one_false _ c.stands-else-stands.result c.stands-else-stands.ensures c.if-stands-2.false) (refused_latter (one_false _ c.stands-else-stands-2.result c.stands-else-stands-2.ensures c.if-stands-3.false) (refused_latter (one_false _ c.stands-else-stands-3.result c.stands-else-stands-3.ensures c.if-stands-4.false) (refused_latter (one_false _ c.stands-else-stands-4.result c.stands-else-stands-4.ensures c.if-stands-5.false) (refused_latter (one_false _ c.stands-else-stands-5.result c.stands-else-stands-5.ensures c.if-stands-6.false) (refused_latter (one_false _ c.stands-else-stands-6.result c.stands-else-stands-6.ensures c.if-stands-7.false) (refused_latter (one_false _ c.stands-else-stands-7.result c.stands-else-stands-7.ensures c.if-stands-8.false) (refused_latter (one_false _ c.stands-else-stands-8.result c.stands-else-stands-8.ensures c.if-stands-9.false) (refused_latter (one_false _ c.stands-else-stands-9.result c.stands-else-stands-9.ensures c.if-stands-10.false) (refused_former (one_true _ c.stands-else-stands-10.result c.stands-else-stands-10.ensures c.if-stands-11.true) w)))))))))))))

pub generate_item-returns-else-stands-11 : goal.generate_item-returns-else-stands-11
generate_item-returns-else-stands-11 t c = answer_more c.generate_case.result c.generate_case.ensures (λ f w. parsed (read_var (read_latter (one_false _ c.stands.result c.stands.ensures c.if-stands.false) (read_latter (one_false _ c.stands-else-stands.result c.stands-else-stands.ensures c.if-stands-2.false) (read_latter (one_false _ c.stands-else-stands-2.result c.stands-else-stands-2.ensures c.if-stands-3.false) (read_latter (one_false _ c.stands-else-stands-3.result c.stands-else-stands-3.ensures c.if-stands-4.false) (read_latter (one_false _ c.stands-else-stands-4.result c.stands-else-stands-4.ensures c.if-stands-5.false) (read_latter (one_false _ c.stands-else-stands-5.result c.stands-else-stands-5.ensures c.if-stands-6.false) (read_latter (one_false _ c.stands-else-stands-6.result c.stands-else-stands-6.ensures c.if-stands-7.false) (read_latter (one_false _ c.stands-else-stands-7.result c.stands-else-stands-7.ensures c.if-stands-8.false) (read_latter (one_false _ c.stands-else-stands-8.result c.stands-else-stands-8.ensures c.if-stands-9.false) (read_latter (one_false _ c.stands-else-stands-9.result c.stands-else-stands-9.ensures c.if-stands-10.false) (read_latter (one_false _ c.stands-else-stands-10.result c.stands-else-stands-10.ensures c.if-stands-11.false) w.read)))))))))))) w.made) (λ e w. (refused_var (refused_latter (one_false _ c.stands.result c.stands.ensures c.if-stands.false) (refused_latter (one_false _ c.stands-else-stands.result c.stands-else-stands.ensures c.if-stands-2.false) (refused_latter (one_false _ c.stands-else-stands-2.result c.stands-else-stands-2.ensures c.if-stands-3.false) (refused_latter (one_false _ c.stands-else-stands-3.result c.stands-else-stands-3.ensures c.if-stands-4.false) (refused_latter (one_false _ c.stands-else-stands-4.result c.stands-else-stands-4.ensures c.if-stands-5.false) (refused_latter (one_false _ c.stands-else-stands-5.result c.stands-else-stands-5.ensures c.if-stands-6.false) (refused_latter (one_false _ c.stands-else-stands-6.result c.stands-else-stands-6.ensures c.if-stands-7.false) (refused_latter (one_false _ c.stands-else-stands-7.result c.stands-else-stands-7.ensures c.if-stands-8.false) (refused_latter (one_false _ c.stands-else-stands-8.result c.stands-else-stands-8.ensures c.if-stands-9.false) (refused_latter (one_false _ c.stands-else-stands-9.result c.stands-else-stands-9.ensures c.if-stands-10.false) (refused_latter (one_false _ c.stands-else-stands-10.result c.stands-else-stands-10.ensures c.if-stands-11.false) w)))))))))))))

pub generate_for-returns-in_err-head : goal.generate_for-returns-in_err-head
generate_for-returns-in_err-head t c = answer_exit _ _ c.from_residual.result c.in_err-head.field-0.0 c.from_residual.ensures.1 (refused_seq c.in_err-head.ensures)

pub generate_for-returns-in_err-head-2 : goal.generate_for-returns-in_err-head-2
generate_for-returns-in_err-head-2 t c = answer_exit _ _ c.from_residual-in_err-head-2.result c.in_err-head-2.field-0.0 c.from_residual-in_err-head-2.ensures.1 (refused_then c.in_ok-head.ensures.read (err_at _ _ c.in_err-head-2.ensures c.block-block.ensures))

pub generate_for-returns-in_err-value : goal.generate_for-returns-in_err-value
generate_for-returns-in_err-value t c = answer_exit _ _ c.from_residual-in_err-value.result Memory c.from_residual-in_err-value.ensures.1 (out_of_memory)

pub generate_for-returns : goal.generate_for-returns
generate_for-returns t c = let s = ok_at _ _ c.in_ok-head-2.ensures.1 c.block-block.ensures in parsed (read_seq c.in_ok-head.ensures.read s.read) (ap2 tree.GenerateFor c.in_ok-head.ensures.made s.made ∙ sym (rw c.in_ok-head-2.ensures.0 at c.in_ok-value.ensures))

pub generate_if-returns-in_err-word : goal.generate_if-returns-in_err-word
generate_if-returns-in_err-word t c = answer_exit _ _ c.from_residual.result c.in_err-word.field-0.0 c.from_residual.ensures.1 (refused_seq (refused_missing c.in_err-word.ensures))

pub generate_if-returns-in_err-open : goal.generate_if-returns-in_err-open
generate_if-returns-in_err-open t c = answer_exit _ _ c.from_residual-in_err-open.result c.in_err-open.field-0.0 c.from_residual-in_err-open.ensures.1 (refused_then (read_tok c.args.depth.limit c.in_ok-word.ensures) (refused_seq (refused_missing c.in_err-open.ensures)))

pub generate_if-returns-in_err-condition : goal.generate_if-returns-in_err-condition
generate_if-returns-in_err-condition t c = answer_exit _ _ c.from_residual-in_err-condition.result c.in_err-condition.field-0.0 c.from_residual-in_err-condition.ensures.1 (refused_then (read_tok c.args.depth.limit c.in_ok-word.ensures) (refused_then (read_tok c.args.depth.limit c.in_ok-open.ensures) (refused_seq c.in_err-condition.ensures)))

pub generate_if-returns-in_err-condition-2 : goal.generate_if-returns-in_err-condition-2
generate_if-returns-in_err-condition-2 t c = answer_exit _ _ c.from_residual-in_err-condition-2.result c.in_err-condition-2.field-0.0 c.from_residual-in_err-condition-2.ensures.1 (refused_then (read_tok c.args.depth.limit c.in_ok-word.ensures) (refused_then (read_tok c.args.depth.limit c.in_ok-open.ensures) (refused_then c.in_ok-condition.ensures.read (refused_seq (refused_missing (err_at _ _ c.in_err-condition-2.ensures c.take-close.ensures))))))

pub generate_if-returns-in_err-condition-3 : goal.generate_if-returns-in_err-condition-3
generate_if-returns-in_err-condition-3 t c = answer_exit _ _ c.from_residual-in_err-condition-3.result c.in_err-condition-3.field-0.0 c.from_residual-in_err-condition-3.ensures.1 (refused_then (read_tok c.args.depth.limit c.in_ok-word.ensures) (refused_then (read_tok c.args.depth.limit c.in_ok-open.ensures) (refused_then c.in_ok-condition.ensures.read (refused_then (read_tok c.args.depth.limit (ok_at _ _ c.in_ok-condition-2.ensures.1 c.take-close.ensures)) (refused_seq (err_at _ _ c.in_err-condition-3.ensures c.block-taken.ensures))))))

pub generate_if-returns-in_err-branch : goal.generate_if-returns-in_err-branch
generate_if-returns-in_err-branch t c = answer_exit _ _ c.from_residual-in_err-branch.result c.in_err-branch.field-0.0 c.from_residual-in_err-branch.ensures.1 (refused_then (read_tok c.args.depth.limit c.in_ok-word.ensures) (refused_then (read_tok c.args.depth.limit c.in_ok-open.ensures) (refused_then c.in_ok-condition.ensures.read (refused_then (read_tok c.args.depth.limit (ok_at _ _ c.in_ok-condition-2.ensures.1 c.take-close.ensures)) (refused_then (ok_at _ _ c.in_ok-condition-3.ensures.1 c.block-taken.ensures).read (err_at _ _ c.in_err-branch.ensures c.other_block-other.ensures))))))

pub generate_if-returns-in_err-value : goal.generate_if-returns-in_err-value
generate_if-returns-in_err-value t c = answer_exit _ _ c.from_residual-in_err-value.result Memory c.from_residual-in_err-value.ensures.1 (out_of_memory)

pub generate_if-returns : goal.generate_if-returns
generate_if-returns t c = parsed (read_seq (read_tok c.args.depth.limit c.in_ok-word.ensures) (read_seq (read_tok c.args.depth.limit c.in_ok-open.ensures) (read_seq c.in_ok-condition.ensures.read (read_seq (read_tok c.args.depth.limit (ok_at _ _ c.in_ok-condition-2.ensures.1 c.take-close.ensures)) (read_seq (ok_at _ _ c.in_ok-condition-3.ensures.1 c.block-taken.ensures).read (ok_at _ _ c.in_ok-branch.ensures.1 c.other_block-other.ensures).read))))) (ap3 (tree.GenerateIf c.args.at) c.in_ok-condition.ensures.made (ok_at _ _ c.in_ok-condition-3.ensures.1 c.block-taken.ensures).made (ok_at _ _ c.in_ok-branch.ensures.1 c.other_block-other.ensures).made ∙ sym (rw (c.in_ok-branch.ensures.0, c.in_ok-condition-3.ensures.0, c.in_ok-condition-2.ensures.0) at c.in_ok-value.ensures))

pub other_block-returns-then-not-stands : goal.other_block-returns-then-not-stands
other_block-returns-then-not-stands t c = parsed (read_without 27 c.args.depth.limit (sym c.stands.ensures ∙ c.if-not-stands.true)) refl

pub other_block-returns-in_err-word : goal.other_block-returns-in_err-word
other_block-returns-in_err-word t c = answer_exit _ _ c.from_residual.result c.in_err-word.field-0.0 c.from_residual.ensures.1 (refused_kept (stood c.args.input.now.tokens.now c.args.at 27 c.stands.result c.stands.ensures c.if-not-stands.false) c.in_err-word.ensures)

pub other_block-returns-in_err-other : goal.other_block-returns-in_err-other
other_block-returns-in_err-other t c = answer_exit _ _ c.from_residual-in_err-other.result c.in_err-other.field-0.0 c.from_residual-in_err-other.ensures.1 (refused_within c.in_ok-word.ensures c.in_err-other.ensures)

pub other_block-returns : goal.other_block-returns
other_block-returns t c = parsed (read_within c.in_ok-word.ensures c.in_ok-other.ensures.read) (ap tree.OtherwiseBlock c.in_ok-other.ensures.made)

pub generate_case-returns-in_err-word : goal.generate_case-returns-in_err-word
generate_case-returns-in_err-word t c = answer_exit _ _ c.from_residual.result c.in_err-word.field-0.0 c.from_residual.ensures.1 (refused_seq (refused_missing c.in_err-word.ensures))

pub generate_case-returns-in_err-open : goal.generate_case-returns-in_err-open
generate_case-returns-in_err-open t c = answer_exit _ _ c.from_residual-in_err-open.result c.in_err-open.field-0.0 c.from_residual-in_err-open.ensures.1 (refused_then (read_tok c.args.depth.limit c.in_ok-word.ensures) (refused_seq (refused_missing c.in_err-open.ensures)))

pub generate_case-returns-in_err-subject : goal.generate_case-returns-in_err-subject
generate_case-returns-in_err-subject t c = answer_exit _ _ c.from_residual-in_err-subject.result c.in_err-subject.field-0.0 c.from_residual-in_err-subject.ensures.1 (refused_then (read_tok c.args.depth.limit c.in_ok-word.ensures) (refused_then (read_tok c.args.depth.limit c.in_ok-open.ensures) (refused_seq c.in_err-subject.ensures)))

pub generate_case-returns-in_err-subject-2 : goal.generate_case-returns-in_err-subject-2
generate_case-returns-in_err-subject-2 t c = answer_exit _ _ c.from_residual-in_err-subject-2.result c.in_err-subject-2.field-0.0 c.from_residual-in_err-subject-2.ensures.1 (refused_then (read_tok c.args.depth.limit c.in_ok-word.ensures) (refused_then (read_tok c.args.depth.limit c.in_ok-open.ensures) (refused_then c.in_ok-subject.ensures.read (refused_seq (refused_missing (err_at _ _ c.in_err-subject-2.ensures c.take-close.ensures))))))

pub generate_case-returns-in_err-subject-3 : goal.generate_case-returns-in_err-subject-3
generate_case-returns-in_err-subject-3 t c = answer_exit _ _ c.from_residual-in_err-subject-3.result c.in_err-subject-3.field-0.0 c.from_residual-in_err-subject-3.ensures.1 (refused_then (read_tok c.args.depth.limit c.in_ok-word.ensures) (refused_then (read_tok c.args.depth.limit c.in_ok-open.ensures) (refused_then c.in_ok-subject.ensures.read (refused_then (read_tok c.args.depth.limit (ok_at _ _ c.in_ok-subject-2.ensures.1 c.take-close.ensures)) (refused_seq (err_at _ _ c.in_err-subject-3.ensures c.generate_cases-cases.ensures))))))

pub generate_case-returns-in_err-parts : goal.generate_case-returns-in_err-parts
generate_case-returns-in_err-parts t c = answer_exit _ _ c.from_residual-in_err-parts.result c.in_err-parts.field-0.0 c.from_residual-in_err-parts.ensures.1 (refused_then (read_tok c.args.depth.limit c.in_ok-word.ensures) (refused_then (read_tok c.args.depth.limit c.in_ok-open.ensures) (refused_then c.in_ok-subject.ensures.read (refused_then (read_tok c.args.depth.limit (ok_at _ _ c.in_ok-subject-2.ensures.1 c.take-close.ensures)) (refused_then (ok_at _ _ c.in_ok-subject-3.ensures.1 c.generate_cases-cases.ensures).read (refused_missing (err_at _ _ c.in_err-parts.ensures c.take-end.ensures)))))))

pub generate_case-returns-in_err-value : goal.generate_case-returns-in_err-value
generate_case-returns-in_err-value t c = answer_exit _ _ c.from_residual-in_err-value.result Memory c.from_residual-in_err-value.ensures.1 (out_of_memory)

pub generate_case-returns : goal.generate_case-returns
generate_case-returns t c = parsed (read_seq (read_tok c.args.depth.limit c.in_ok-word.ensures) (read_seq (read_tok c.args.depth.limit c.in_ok-open.ensures) (read_seq c.in_ok-subject.ensures.read (read_seq (read_tok c.args.depth.limit (ok_at _ _ c.in_ok-subject-2.ensures.1 c.take-close.ensures)) (read_seq (ok_at _ _ c.in_ok-subject-3.ensures.1 c.generate_cases-cases.ensures).read (read_tok c.args.depth.limit (ok_at _ _ c.in_ok-parts.ensures.1 c.take-end.ensures))))))) (ap3 (tree.GenerateCase c.args.at) c.in_ok-subject.ensures.made (ap (λ z. z.0) (ok_at _ _ c.in_ok-subject-3.ensures.1 c.generate_cases-cases.ensures).made) (ap (λ z. z.1) (ok_at _ _ c.in_ok-subject-3.ensures.1 c.generate_cases-cases.ensures).made) ∙ sym (rw (c.in_ok-parts.ensures.0, c.in_ok-subject-3.ensures.0, c.in_ok-subject-2.ensures.0) at c.in_ok-value.ensures))

pub generate_arms-loop-depth-init : goal.generate_arms-loop-depth-init
generate_arms-loop-depth-init t c = listing_start c.args.input.now (r rule.GenerateCaseItem) part.generate_arm_of part.generate_arm_view c.args.depth.value c.args.before.items c.args.at c.args.depth.limit

pub generate_arms-returns-in_err-before : goal.generate_arms-returns-in_err-before
generate_arms-returns-in_err-before t c = answer_exit _ _ c.from_residual.result c.in_err-before.field-0.0 c.from_residual.ensures.1 (refused_more c.loop-depth.invariant.grown (sym c.is_expression_at.ensures ∙ c.loop-depth-test.true) (err_at _ _ c.in_err-before.ensures c.generate_arm-next.ensures))

pub generate_arms-returns-in_err-list : goal.generate_arms-returns-in_err-list
generate_arms-returns-in_err-list t c = answer_exit _ _ c.from_residual-in_err-list.result c.in_err-list.field-0.0 c.from_residual-in_err-list.ensures.1 (refused_memory c.in_err-list.ensures)

pub generate_arms-loop-depth-smaller : goal.generate_arms-loop-depth-smaller
generate_arms-loop-depth-smaller t c = shorter (ok_at _ _ c.in_ok-before.ensures.1 c.generate_arm-next.ensures).read refl

pub generate_arms-loop-depth-preserved : goal.generate_arms-loop-depth-preserved
generate_arms-loop-depth-preserved t c = listing_more c.in_ok-before.next.value _ c.loop-depth.invariant (sym c.is_expression_at.ensures ∙ c.loop-depth-test.true) (ok_at _ _ c.in_ok-before.ensures.1 c.generate_arm-next.ensures).read (ok_at _ _ c.in_ok-before.ensures.1 c.generate_arm-next.ensures).made (rw c.in_ok-before.ensures.0 at c.in_ok-list.ensures)

pub generate_arms-returns : goal.generate_arms-returns
generate_arms-returns t c = listing_behind c.loop-depth.invariant (sym c.is_expression_at.ensures ∙ c.loop-depth-test.false)

pub generate_arm-returns-in_err-labels : goal.generate_arm-returns-in_err-labels
generate_arm-returns-in_err-labels t c = answer_exit _ _ c.from_residual.result c.in_err-labels.field-0.0 c.from_residual.ensures.1 (refused_var (refused_seq c.in_err-labels.ensures))

pub generate_arm-returns-in_err-labels-2 : goal.generate_arm-returns-in_err-labels-2
generate_arm-returns-in_err-labels-2 t c = answer_exit _ _ c.from_residual-in_err-labels-2.result c.in_err-labels-2.field-0.0 c.from_residual-in_err-labels-2.ensures.1 (refused_var (refused_then c.in_ok-labels.ensures.read (refused_seq (refused_missing (err_at _ _ c.in_err-labels-2.ensures c.take-colon.ensures)))))

pub generate_arm-returns-in_err-labels-3 : goal.generate_arm-returns-in_err-labels-3
generate_arm-returns-in_err-labels-3 t c = answer_exit _ _ c.from_residual-in_err-labels-3.result c.in_err-labels-3.field-0.0 c.from_residual-in_err-labels-3.ensures.1 (refused_var (refused_then c.in_ok-labels.ensures.read (refused_then (read_tok c.args.depth.limit (ok_at _ _ c.in_ok-labels-2.ensures.1 c.take-colon.ensures)) (err_at _ _ c.in_err-labels-3.ensures c.block-block.ensures))))

pub generate_arm-returns : goal.generate_arm-returns
generate_arm-returns t c = rw (c.in_ok-labels-3.ensures.0, c.in_ok-labels-2.ensures.0) (parsed (read_var (read_seq c.in_ok-labels.ensures.read (read_seq (read_tok c.args.depth.limit (ok_at _ _ c.in_ok-labels-2.ensures.1 c.take-colon.ensures)) (ok_at _ _ c.in_ok-labels-3.ensures.1 c.block-block.ensures).read))) (ap2 (λ x y. (x, y)) c.in_ok-labels.ensures.made (ok_at _ _ c.in_ok-labels-3.ensures.1 c.block-block.ensures).made))

pub generate_default-returns-in_err-word : goal.generate_default-returns-in_err-word
generate_default-returns-in_err-word t c = answer_exit _ _ c.from_residual.result c.in_err-word.field-0.0 c.from_residual.ensures.1 (refused_var (refused_seq (refused_missing c.in_err-word.ensures)))

pub generate_default-returns-in_err-block : goal.generate_default-returns-in_err-block
generate_default-returns-in_err-block t c = answer_exit _ _ c.from_residual-in_err-block.result c.in_err-block.field-0.0 c.from_residual-in_err-block.ensures.1 (refused_var (refused_then (read_tok c.args.depth.limit c.in_ok-word.ensures) (refused_then c.optional-colon.ensures.read c.in_err-block.ensures)))

pub generate_default-returns : goal.generate_default-returns
generate_default-returns t c = parsed (read_var (read_seq (read_tok c.args.depth.limit c.in_ok-word.ensures) (read_seq c.optional-colon.ensures.read c.in_ok-block.ensures.read))) (ap tree.OtherwiseBlock c.in_ok-block.ensures.made)

pub generate_cases-returns-in_err-other : goal.generate_cases-returns-in_err-other
generate_cases-returns-in_err-other t c = answer_exit _ _ c.from_residual.result c.in_err-other.field-0.0 c.from_residual.ensures.1 (refused_var (refused_former (one_true _ c.stands.result c.stands.ensures c.if-stands.true) (refused_seq c.in_err-other.ensures)))

pub generate_cases-returns-in_err-other-2 : goal.generate_cases-returns-in_err-other-2
generate_cases-returns-in_err-other-2 t c = answer_exit _ _ c.from_residual-in_err-other-2.result c.in_err-other-2.field-0.0 c.from_residual-in_err-other-2.ensures.1 (refused_var (refused_former (one_true _ c.stands.result c.stands.ensures c.if-stands.true) (refused_then c.in_ok-other.ensures.read (err_at _ _ c.in_err-other-2.ensures c.generate_arms-list.ensures))))

pub generate_cases-returns-then-stands : goal.generate_cases-returns-then-stands
generate_cases-returns-then-stands t c = rw c.in_ok-other-2.ensures.0 (parsed (read_var (read_former (one_true _ c.stands.result c.stands.ensures c.if-stands.true) (read_seq c.in_ok-other.ensures.read (ok_at _ _ c.in_ok-other-2.ensures.1 c.generate_arms-list.ensures).read))) (block_default_first (bytes_in c.args.input.now) c.in_ok-other.ensures.tree (ok_at _ _ c.in_ok-other-2.ensures.1 c.generate_arms-list.ensures).tree _ c.in_ok-other-2.list.value.items c.in_ok-other.other.value c.in_ok-other.ensures.made c.new.ensures.items (ok_at _ _ c.in_ok-other-2.ensures.1 c.generate_arms-list.ensures).made))

pub generate_cases-returns-in_err-first : goal.generate_cases-returns-in_err-first
generate_cases-returns-in_err-first t c = answer_exit _ _ c.from_residual-in_err-first.result c.in_err-first.field-0.0 c.from_residual-in_err-first.ensures.1 (refused_var (refused_latter (one_false _ c.stands.result c.stands.ensures c.if-stands.false) (refused_seq c.in_err-first.ensures)))

pub generate_cases-returns-in_err-start : goal.generate_cases-returns-in_err-start
generate_cases-returns-in_err-start t c = answer_exit _ _ c.from_residual-in_err-start.result c.in_err-start.field-0.0 c.from_residual-in_err-start.ensures.1 (refused_memory c.in_err-start.ensures)

pub generate_cases-returns-in_err-before : goal.generate_cases-returns-in_err-before
generate_cases-returns-in_err-before t c = answer_exit _ _ c.from_residual-in_err-before.result c.in_err-before.field-0.0 c.from_residual-in_err-before.ensures.1 (refused_var (refused_latter (one_false _ c.stands.result c.stands.ensures c.if-stands.false) (refused_then c.in_ok-first.ensures.read (refused_seq c.in_err-before.ensures))))

pub generate_cases-returns-then-not-stands : goal.generate_cases-returns-then-not-stands
generate_cases-returns-then-not-stands t c = parsed (read_var (read_latter (one_false _ c.stands.result c.stands.ensures c.if-stands.false) (read_seq c.in_ok-first.ensures.read (read_seq c.in_ok-before.ensures.read (read_latter (one_false _ c.stands-2.result c.stands-2.ensures c.if-not-stands.true) (read_eps c.args.input.now.tokens.now _ c.in_ok-before.before.to c.args.depth.limit)))))) (block_arms_alone (bytes_in c.args.input.now) c.in_ok-first.ensures.tree c.in_ok-before.ensures.tree nothing c.in_ok-first.first.value _ c.in_ok-before.before.value.items c.in_ok-first.ensures.made c.in_ok-start.ensures c.in_ok-before.ensures.made)

pub generate_cases-returns-in_err-before-2 : goal.generate_cases-returns-in_err-before-2
generate_cases-returns-in_err-before-2 t c = answer_exit _ _ c.from_residual-in_err-before-2.result c.in_err-before-2.field-0.0 c.from_residual-in_err-before-2.ensures.1 (refused_var (refused_latter (one_false _ c.stands.result c.stands.ensures c.if-stands.false) (refused_then c.in_ok-first.ensures.read (refused_then c.in_ok-before.ensures.read (refused_former (one_true _ c.stands-2.result c.stands-2.ensures c.if-not-stands.false) (refused_seq (err_at _ _ c.in_err-before-2.ensures c.generate_default-default.ensures)))))))

pub generate_cases-returns-in_err-default : goal.generate_cases-returns-in_err-default
generate_cases-returns-in_err-default t c = answer_exit _ _ c.from_residual-in_err-default.result c.in_err-default.field-0.0 c.from_residual-in_err-default.ensures.1 (refused_var (refused_latter (one_false _ c.stands.result c.stands.ensures c.if-stands.false) (refused_then c.in_ok-first.ensures.read (refused_then c.in_ok-before.ensures.read (refused_former (one_true _ c.stands-2.result c.stands-2.ensures c.if-not-stands.false) (refused_then (ok_at _ _ c.in_ok-before-2.ensures.1 c.generate_default-default.ensures).read (err_at _ _ c.in_err-default.ensures c.generate_arms-arms.ensures)))))))

pub generate_cases-returns : goal.generate_cases-returns
generate_cases-returns t c = let a = rw c.in_ok-before-2.ensures.0 at (ok_at _ _ c.in_ok-default.ensures.1 c.generate_arms-arms.ensures) in rw c.in_ok-default.ensures.0 (parsed (read_var (read_latter (one_false _ c.stands.result c.stands.ensures c.if-stands.false) (read_seq c.in_ok-first.ensures.read (read_seq c.in_ok-before.ensures.read (read_former (one_true _ c.stands-2.result c.stands-2.ensures c.if-not-stands.false) (read_seq (ok_at _ _ c.in_ok-before-2.ensures.1 c.generate_default-default.ensures).read a.read)))))) (block_arms_around (bytes_in c.args.input.now) c.in_ok-first.ensures.tree c.in_ok-before.ensures.tree (ok_at _ _ c.in_ok-before-2.ensures.1 c.generate_default-default.ensures).tree a.tree c.in_ok-first.first.value _ c.in_ok-before.before.value.items c.in_ok-default.arms.value.items c.in_ok-before-2.default.value c.in_ok-first.ensures.made c.in_ok-start.ensures c.in_ok-before.ensures.made (ok_at _ _ c.in_ok-before-2.ensures.1 c.generate_default-default.ensures).made a.made))

pub block-returns-then-not-stands_any : goal.block-returns-then-not-stands_any
block-returns-then-not-stands_any t c = stopped_first 3 part.block_kinds (sym c.stands_any.ensures ∙ c.if-not-stands_any.true) refl

pub block-returns-in_err-inner : goal.block-returns-in_err-inner
block-returns-in_err-inner t c = answer_exit _ _ c.from_residual.result c.in_err-inner.field-0.0 c.from_residual.ensures.1 (refused_var (too_deep_first 3 part.block_kinds (sym c.stands_any.ensures ∙ c.if-not-stands_any.false) refl c.in_err-inner.ensures.0 c.in_err-inner.ensures.1))

pub block-returns-then-stands : goal.block-returns-then-stands
block-returns-then-stands t c = answer_more c.enclosed.result c.enclosed.ensures (λ f w. parsed (read_var (read_level c.in_ok-inner.ensures (read_former (one_true _ c.stands.result c.stands.ensures c.if-stands.true) w.read))) w.made) (λ e w. (refused_var (refused_level c.in_ok-inner.ensures (refused_former (one_true _ c.stands.result c.stands.ensures c.if-stands.true) w))))

pub block-returns-in_err-item : goal.block-returns-in_err-item
block-returns-in_err-item t c = answer_exit _ _ c.from_residual-in_err-item.result c.in_err-item.field-0.0 c.from_residual-in_err-item.ensures.1 (refused_var (refused_level c.in_ok-inner.ensures (refused_latter (one_false _ c.stands.result c.stands.ensures c.if-stands.false) (refused_former (sym c.is_generate_item_at.ensures ∙ c.if-is_generate_item_at.true) c.in_err-item.ensures))))

pub block-returns-in_err-value : goal.block-returns-in_err-value
block-returns-in_err-value t c = answer_exit _ _ c.from_residual-in_err-value.result Memory c.from_residual-in_err-value.ensures.1 out_of_memory

pub block-returns-in_ok-value : goal.block-returns-in_ok-value
block-returns-in_ok-value t c = parsed (read_var (read_level c.in_ok-inner.ensures (read_latter (one_false _ c.stands.result c.stands.ensures c.if-stands.false) (read_former (sym c.is_generate_item_at.ensures ∙ c.if-is_generate_item_at.true) c.in_ok-item.ensures.read)))) (ap tree.Alone c.in_ok-item.ensures.made ∙ sym c.in_ok-value.ensures)

pub block-returns-in_err-to : goal.block-returns-in_err-to
block-returns-in_err-to t c = answer_exit _ _ c.from_residual-in_err-to.result c.in_err-to.field-0.0 c.from_residual-in_err-to.ensures.1 (refused_var (refused_level c.in_ok-inner.ensures (refused_latter (one_false _ c.stands.result c.stands.ensures c.if-stands.false) (refused_latter (sym c.is_generate_item_at.ensures ∙ c.if-is_generate_item_at.false) (refused_missing c.in_err-to.ensures)))))

pub block-returns-in_ok-to : goal.block-returns-in_ok-to
block-returns-in_ok-to t c = parsed (read_var (read_level c.in_ok-inner.ensures (read_latter (one_false _ c.stands.result c.stands.ensures c.if-stands.false) (read_latter (sym c.is_generate_item_at.ensures ∙ c.if-is_generate_item_at.false) (read_tok c.in_ok-inner.inner.limit c.in_ok-to.ensures))))) refl

pub enclosed-returns-in_err-begin : goal.enclosed-returns-in_err-begin
enclosed-returns-in_err-begin t c = answer_exit _ _ c.from_residual.result c.in_err-begin.field-0.0 c.from_residual.ensures.1 (refused_seq (refused_missing c.in_err-begin.ensures))

pub enclosed-returns-in_err-label : goal.enclosed-returns-in_err-label
enclosed-returns-in_err-label t c = answer_exit _ _ c.from_residual-in_err-label.result c.in_err-label.field-0.0 c.from_residual-in_err-label.ensures.1 (refused_then (read_tok c.args.depth.limit c.in_ok-begin.ensures) (refused_seq c.in_err-label.ensures))

pub enclosed-returns-in_err-label-2 : goal.enclosed-returns-in_err-label-2
enclosed-returns-in_err-label-2 t c = answer_exit _ _ c.from_residual-in_err-label-2.result c.in_err-label-2.field-0.0 c.from_residual-in_err-label-2.ensures.1 (refused_then (read_tok c.args.depth.limit c.in_ok-begin.ensures) (refused_then c.in_ok-label.ensures.read (refused_seq (err_at _ _ c.in_err-label-2.ensures c.generate_items-list.ensures))))

pub enclosed-returns-in_err-parts : goal.enclosed-returns-in_err-parts
enclosed-returns-in_err-parts t c = answer_exit _ _ c.from_residual-in_err-parts.result c.in_err-parts.field-0.0 c.from_residual-in_err-parts.ensures.1 (refused_then (read_tok c.args.depth.limit c.in_ok-begin.ensures) (refused_then c.in_ok-label.ensures.read (refused_then (ok_at _ _ c.in_ok-label-2.ensures.1 c.generate_items-list.ensures).read (refused_missing (err_at _ _ c.in_err-parts.ensures c.take-end.ensures)))))

pub enclosed-returns : goal.enclosed-returns
enclosed-returns t c = parsed (read_seq (read_tok c.args.depth.limit c.in_ok-begin.ensures) (read_seq c.in_ok-label.ensures.read (read_seq (ok_at _ _ c.in_ok-label-2.ensures.1 c.generate_items-list.ensures).read (read_tok c.args.depth.limit (ok_at _ _ c.in_ok-parts.ensures.1 c.take-end.ensures))))) (ap2 (tree.Enclosed c.args.at) c.in_ok-label.ensures.made (items_made (bytes_in c.args.input.now) (ok_at _ _ c.in_ok-label-2.ensures.1 c.generate_items-list.ensures).tree _ c.in_ok-label-2.list.value.items c.new.ensures.items (ok_at _ _ c.in_ok-label-2.ensures.1 c.generate_items-list.ensures).made) ∙ sym (rw (c.in_ok-parts.ensures.0, c.in_ok-label-2.ensures.0) at c.new_enclosed-value.ensures))

pub generate_items-loop-depth-init : goal.generate_items-loop-depth-init
generate_items-loop-depth-init t c = listing_start c.args.input.now (r rule.GenerateItem) meaning.item_of view.item c.args.depth.value c.args.before.items c.args.at c.args.depth.limit

pub generate_items-returns-in_err-before : goal.generate_items-returns-in_err-before
generate_items-returns-in_err-before t c = answer_exit _ _ c.from_residual.result c.in_err-before.field-0.0 c.from_residual.ensures.1 (refused_more c.loop-depth.invariant.grown (sym c.is_generate_item_at.ensures ∙ c.loop-depth-test.true) (err_at _ _ c.in_err-before.ensures c.generate_item-next.ensures))

pub generate_items-returns-in_err-list : goal.generate_items-returns-in_err-list
generate_items-returns-in_err-list t c = answer_exit _ _ c.from_residual-in_err-list.result c.in_err-list.field-0.0 c.from_residual-in_err-list.ensures.1 (refused_memory c.in_err-list.ensures)

pub generate_items-loop-depth-smaller : goal.generate_items-loop-depth-smaller
generate_items-loop-depth-smaller t c = shorter (ok_at _ _ c.in_ok-before.ensures.1 c.generate_item-next.ensures).read refl

pub generate_items-loop-depth-preserved : goal.generate_items-loop-depth-preserved
generate_items-loop-depth-preserved t c = listing_more c.in_ok-before.next.value _ c.loop-depth.invariant (sym c.is_generate_item_at.ensures ∙ c.loop-depth-test.true) (ok_at _ _ c.in_ok-before.ensures.1 c.generate_item-next.ensures).read (ok_at _ _ c.in_ok-before.ensures.1 c.generate_item-next.ensures).made (rw c.in_ok-before.ensures.0 at c.in_ok-list.ensures)

pub generate_items-returns : goal.generate_items-returns
generate_items-returns t c = listing_behind c.loop-depth.invariant (sym c.is_generate_item_at.ensures ∙ c.loop-depth-test.false)
