use Rattle.std.proofs.Common.{◌<◌, ◌≤◌, refl, length, arith, [], ◌∷◌}
use Rattle.vs_statements.proofs.Places.{few, inside_of}
use Rattle.vs_statements.proofs.Numbers.{is_number_there, number_chosen, same_literal}
use Rattle.vs_statements.proofs.words.literal.Goals as goal

pub read_literal-number-requires-clause-inside : goal.read_literal-number-requires-clause-inside
read_literal-number-requires-clause-inside c = inside_of c.args.input.now.tokens.now c.args.at (1 ∷ 2 ∷ []) c.requires.number refl

pub read_literal-number-requires-clause-number : goal.read_literal-number-requires-clause-number
read_literal-number-requires-clause-number c = is_number_there c.args.input.now.tokens.now c.args.at c.requires.number

pub overflow_add-result : goal.overflow_add-result
overflow_add-result c =
    let h : c.args.at < length c.args.input.now.tokens.now = inside_of c.args.input.now.tokens.now c.args.at (1 ∷ 2 ∷ []) c.requires.number refl in
    let k : length c.args.input.now.tokens.now ≤ 1048576 = few c.args.input.now.text.now c.args.input.now.tokens.now c.args.input.now.lexed in
    omega arith

pub returns : goal.returns
returns c = number_chosen c.args.input.now c.args.at _ c.requires.number (same_literal c.args.at c.read_literal-number.ensures.bits c.read_literal-number.ensures.signed c.read_literal-number.ensures.sized)
