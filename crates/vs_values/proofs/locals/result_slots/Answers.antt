use Rattle.vs_values.proofs.Headers.{local_is, result_there}
use Rattle.vs_values.proofs.locals.result_slots.Goals as goal

pub local_slots-requires-clause-within : goal.local_slots-requires-clause-within
local_slots-requires-clause-within c =
    let a = c.args.templates.now.arena in
    let d = c.function-declared.result.now in
    let l = local_is a c.flat-flat.result.now c.flat-flat.ensures.same c.flat-flat.ensures.lawful c.args.function d c.function-declared.ensures in
    result_there c.trees_law.ensures.locals c.trees_law.ensures.headers a c.flat-flat.result.now c.args.function d _ c.flat-flat.ensures.same c.function-declared.ensures l c.requires.bits
