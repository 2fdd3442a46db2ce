use Rattle.vs_values.proofs.Headers.{local_is, inputs_are, inputs_few}
use Rattle.vs_values.proofs.locals.input_bits.Goals as goal

pub returns-clause-is : goal.returns-clause-is
returns-clause-is c =
    let a = c.args.templates.now.arena in
    let l = local_is a c.flat-flat.result.now c.flat-flat.ensures.same c.flat-flat.ensures.lawful c.args.function c.function-declared.result.now c.function-declared.ensures in
    inputs_are a c.args.function c.function-declared.result.now c.get-result.result.now l c.get-result.ensures

pub returns-clause-few : goal.returns-clause-few
returns-clause-few c =
    let a = c.args.templates.now.arena in
    let l = local_is a c.flat-flat.result.now c.flat-flat.ensures.same c.flat-flat.ensures.lawful c.args.function c.function-declared.result.now c.function-declared.ensures in
    inputs_few c.trees_law.ensures.headers a c.args.function c.function-declared.result.now c.get-result.result.now l c.get-result.ensures
