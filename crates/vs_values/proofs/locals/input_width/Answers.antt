use Rattle.std.proofs.Common.{◌∙◌}
use Rattle.vs_values.proofs.Headers.{local_is, width_is}
use Rattle.vs_values.proofs.locals.input_width.Goals as goal

pub returns : goal.returns
returns c = λ s h.
    let a = c.args.templates.now.arena in
    let d = c.function-declared.result.now in
    let l = local_is a c.flat-flat.result.now c.flat-flat.ensures.same c.flat-flat.ensures.lawful c.args.function d c.function-declared.ensures in
    c.bits_of.ensures ∙ width_is a c.args.function d c.args.input s c.get.result.now l h c.get.ensures
