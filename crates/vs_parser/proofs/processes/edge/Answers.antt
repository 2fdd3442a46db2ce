use Rattle.std.proofs.Common.{refl, sym, ◌∙◌, true, [], ◌∷◌}
use Rattle.vs_statements.proofs.Places.{answer_exit, refused_missing, refused_former, refused_latter, read_tok, read_eps, read_former, read_latter, parsed, one_true, one_false, known, stood, neither}
use Rattle.vs_parser.proofs.processes.edge.Goals as goal

pub returns-in_err-posedge : goal.returns-in_err-posedge
returns-in_err-posedge c = answer_exit _ _ c.from_residual.result c.in_err-posedge.field-0.0 c.from_residual.ensures.1 (refused_former (known c.args.input.now.tokens.now c.args.at 35 (35 ∷ 36 ∷ []) true (stood c.args.input.now.tokens.now c.args.at 35 c.stands.result c.stands.ensures c.if-stands.true) refl) (refused_former (one_true _ c.stands.result c.stands.ensures c.if-stands.true) (refused_missing c.in_err-posedge.ensures)))

pub returns-in_ok-posedge : goal.returns-in_ok-posedge
returns-in_ok-posedge c = parsed (read_former (known c.args.input.now.tokens.now c.args.at 35 (35 ∷ 36 ∷ []) true (stood c.args.input.now.tokens.now c.args.at 35 c.stands.result c.stands.ensures c.if-stands.true) refl) (read_former (one_true _ c.stands.result c.stands.ensures c.if-stands.true) (read_tok c.args.depth.limit c.in_ok-posedge.ensures))) refl

pub returns-in_err-negedge : goal.returns-in_err-negedge
returns-in_err-negedge c = answer_exit _ _ c.from_residual-in_err-negedge.result c.in_err-negedge.field-0.0 c.from_residual-in_err-negedge.ensures.1 (refused_former (known c.args.input.now.tokens.now c.args.at 36 (35 ∷ 36 ∷ []) true (stood c.args.input.now.tokens.now c.args.at 36 c.stands-else-stands.result c.stands-else-stands.ensures c.if-stands-2.true) refl) (refused_latter (one_false _ c.stands.result c.stands.ensures c.if-stands.false) (refused_missing c.in_err-negedge.ensures)))

pub returns-in_ok-negedge : goal.returns-in_ok-negedge
returns-in_ok-negedge c = parsed (read_former (known c.args.input.now.tokens.now c.args.at 36 (35 ∷ 36 ∷ []) true (stood c.args.input.now.tokens.now c.args.at 36 c.stands-else-stands.result c.stands-else-stands.ensures c.if-stands-2.true) refl) (read_latter (one_false _ c.stands.result c.stands.ensures c.if-stands.false) (read_tok c.args.depth.limit c.in_ok-negedge.ensures))) refl

pub returns-else-stands-2 : goal.returns-else-stands-2
returns-else-stands-2 c = parsed (read_latter (neither _ _ (sym c.stands.ensures ∙ c.if-stands.false) (sym c.stands-else-stands.ensures ∙ c.if-stands-2.false)) (read_eps c.args.input.now.tokens.now c.args.depth.value c.args.at c.args.depth.limit)) refl
