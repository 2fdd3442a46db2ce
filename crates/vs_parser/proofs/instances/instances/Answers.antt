use Rattle.vs_grammar.specs.Trees as tree
use Rattle.vs_statements.proofs.Places.{answer_exit, refused_seq, refused_then, refused_missing, read_tok, read_seq, parsed, ap3}
use Rattle.vs_statements.proofs.Pairs.{ok_at, err_at}
use Rattle.vs_parser.proofs.instances.instances.Goals as goal

pub returns-in_err-module : goal.returns-in_err-module
returns-in_err-module c = answer_exit _ _ c.from_residual.result c.in_err-module.field-0.0 c.from_residual.ensures.1 (refused_seq (refused_missing c.in_err-module.ensures))

pub returns-in_err-module-2 : goal.returns-in_err-module-2
returns-in_err-module-2 c = answer_exit _ _ c.from_residual-in_err-module-2.result c.in_err-module-2.field-0.0 c.from_residual-in_err-module-2.ensures.1 (refused_then (read_tok c.args.depth.limit c.in_ok-module.ensures.took) (refused_seq (err_at _ _ c.in_err-module-2.ensures c.overrides-overrides.ensures)))

pub returns-in_err-head : goal.returns-in_err-head
returns-in_err-head c = answer_exit _ _ c.from_residual-in_err-head.result c.in_err-head.field-0.0 c.from_residual-in_err-head.ensures.1 (refused_then (read_tok c.args.depth.limit c.in_ok-module.ensures.took) (refused_then (ok_at _ _ c.in_ok-module-2.ensures.1 c.overrides-overrides.ensures).read (refused_seq (err_at _ _ c.in_err-head.ensures c.instance_list-list.ensures))))

pub returns-in_err-parts : goal.returns-in_err-parts
returns-in_err-parts c = answer_exit _ _ c.from_residual-in_err-parts.result c.in_err-parts.field-0.0 c.from_residual-in_err-parts.ensures.1 (refused_then (read_tok c.args.depth.limit c.in_ok-module.ensures.took) (refused_then (ok_at _ _ c.in_ok-module-2.ensures.1 c.overrides-overrides.ensures).read (refused_then (ok_at _ _ c.in_ok-head.ensures.1 c.instance_list-list.ensures).read (refused_missing (err_at _ _ c.in_err-parts.ensures c.take-end.ensures)))))

pub returns : goal.returns
returns c = rw (c.in_ok-parts.ensures.0, c.in_ok-head.ensures.0, c.in_ok-module-2.ensures.0) (parsed (read_seq (read_tok c.args.depth.limit c.in_ok-module.ensures.took) (read_seq (ok_at _ _ c.in_ok-module-2.ensures.1 c.overrides-overrides.ensures).read (read_seq (ok_at _ _ c.in_ok-head.ensures.1 c.instance_list-list.ensures).read (read_tok c.args.depth.limit (ok_at _ _ c.in_ok-parts.ensures.1 c.take-end.ensures))))) (ap3 (λ x y z. tree.InstancesItem (record { of = x; overrides = y; instances = z })) c.in_ok-module.ensures.made (ok_at _ _ c.in_ok-module-2.ensures.1 c.overrides-overrides.ensures).made (ok_at _ _ c.in_ok-head.ensures.1 c.instance_list-list.ensures).made))
