use Rattle.std.proofs.Common.{◌≡◌, ◌+◌, ◌-◌, length, ◌∙◌, ap, arith}
use Rattle.vs_sets.proofs.Callees.{all_local_bits}
use Rattle.vs_interpret.proofs.calls.local_bits.Goals as goal

pub returns : goal.returns
returns c =
    let d = c.function.result.now in
    let some = c.lawful_law.ensures.results c.args.flat.now c.requires.lawful c.args.function d c.function.ensures in
    let last : (length d.function.signals - 1) + 1 ≡ length d.function.signals = omega (arith, some) in
    let len : c.len.result - 1 ≡ length d.function.signals - 1 = ap (λ n. n - 1) c.len.ensures in
    ap (λ n. c.get-last.result.now.first_bit + n) c.bits_of.ensures
    ∙ all_local_bits c.args.flat.now c.args.function (c.len.result - 1) d c.get-last.result.now c.requires.lawful c.function.ensures c.get-last.ensures (ap (λ n. n + 1) len ∙ last)
