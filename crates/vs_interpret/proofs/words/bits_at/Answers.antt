use Rattle.std.proofs.Common.{◌≡◌, ◌+◌, ◌-◌, take, drop, sym, ap, ◌∙◌, arith}
use Rattle.vs_interpret.proofs.WordSteps.{bits_are}
use Rattle.vs_interpret.proofs.words.bits_at.Goals as goal

pub returns : goal.returns
returns c =
    let first = c.args.span.first in
    let len = c.args.span.len in
    let count : (first + len) - first ≡ len = omega arith in
    c.of.ensures ∙ ap (λ n. take n (drop first c.args.values.now)) count ∙ sym (bits_are c.args.values.now first len c.requires.there)
