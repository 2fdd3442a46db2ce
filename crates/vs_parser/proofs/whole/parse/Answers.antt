use Rattle.vs_statements.proofs.Places.{few, ok_part, err_part}
use Rattle.vs_parser.proofs.Verdicts.{complete_of, syntax_of, deep_of, none_of}
use Rattle.vs_parser.proofs.whole.parse.Goals as goal

pub first_left_out-requires : goal.first_left_out-requires
first_left_out-requires c = few c.args.text.now c.args.tokens.now c.requires

pub returns-clause-complete : goal.returns-clause-complete
returns-clause-complete c = complete_of c.spelled_law.ensures.same c.spelled_law.ensures.none c.args.text.now c.args.tokens.now c.read_all.result (ok_part _ _ c.read_all.result c.read_all.ensures) (err_part _ _ c.read_all.result c.read_all.ensures)

pub returns-clause-left_out : goal.returns-clause-left_out
returns-clause-left_out c k h = none_of c.in_default.ensures h

pub returns-clause-syntax : goal.returns-clause-syntax
returns-clause-syntax c = syntax_of c.spelled_law.ensures.none c.spelled_law.ensures.fault c.args.text.now c.args.tokens.now c.read_all.result (ok_part _ _ c.read_all.result c.read_all.ensures) (err_part _ _ c.read_all.result c.read_all.ensures)

pub returns-clause-deep : goal.returns-clause-deep
returns-clause-deep c = deep_of c.spelled_law.ensures.none c.args.text.now c.args.tokens.now c.read_all.result (ok_part _ _ c.read_all.result c.read_all.ensures) (err_part _ _ c.read_all.result c.read_all.ensures)

pub returns-clause-found : goal.returns-clause-found
returns-clause-found c = ok_part _ _ c.read_all.result c.read_all.ensures

pub returns-clause-fault : goal.returns-clause-fault
returns-clause-fault c = err_part _ _ c.read_all.result c.read_all.ensures
