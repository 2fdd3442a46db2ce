use Rattle.std.proofs.Common.{◌≡◌, ◌<◌, ◌≤◌, sym, ◌∙◌, arith, length}
use Rattle.vs_grammar.specs.Kinds.{number_of}
use Rattle.vs_statements.specs.Reading.{kind_at}
use Rattle.vs_statements.proofs.Places.{same_number, other_number, kind_inside, few, took, untook}
use Rattle.vs_statements.proofs.tokens.take.Goals as goal

pub overflow_add-result : goal.overflow_add-result
overflow_add-result c =
    let e : kind_at c.args.input.now.tokens.now c.args.at ≡ number_of c.args.kind = same_number _ _ (sym c.stands.ensures ∙ c.if-stands.true) in
    let h : c.args.at < length c.args.input.now.tokens.now = kind_inside c.args.input.now.tokens.now c.args.at c.args.kind e in
    let k : length c.args.input.now.tokens.now ≤ 1048576 = few c.args.input.now.text.now c.args.input.now.tokens.now c.args.input.now.lexed in
    omega arith

pub returns-then-stands : goal.returns-then-stands
returns-then-stands c =
    let e : kind_at c.args.input.now.tokens.now c.args.at ≡ number_of c.args.kind = same_number _ _ (sym c.stands.ensures ∙ c.if-stands.true) in
    took c.args.input.now.tokens.now (number_of c.args.kind) c.args.at e (kind_inside c.args.input.now.tokens.now c.args.at c.args.kind e)

pub returns-else-stands : goal.returns-else-stands
returns-else-stands c = untook c.args.input.now.tokens.now (number_of c.args.kind) c.args.at (other_number _ _ (sym c.stands.ensures ∙ c.if-stands.false))
