use Rattle.std.proofs.Common.{◌∙◌, ℕ, ◌+◌, ap, arith}
use Rattle.vs_values.proofs.Headers.{local_is, all_are}
use Rattle.vs_values.proofs.locals.all_bits.Goals as goal

pub returns-clause-is : goal.returns-clause-is
returns-clause-is c =
    let a = c.args.templates.now.arena in
    let d = c.function-declared.result.now in
    let l = local_is a c.flat-flat.result.now c.flat-flat.ensures.same c.flat-flat.ensures.lawful c.args.function d c.function-declared.ensures in
    let s = c.get-last.result.now in
    ap (λ (k : ℕ). s.first_bit + k) c.bits_of.ensures ∙ all_are c.trees_law.ensures.headers a c.args.function d s _ l c.get-last.ensures (omega (arith, c.len.ensures, l.some))
