use Rattle.std.proofs.Common.{◌≡◌, ◌+◌, ◌-◌, take, drop, sym, ap, ◌∙◌, arith}
use Rattle.vs_design.specs.Expressions.{range_or_one}
use Rattle.vs_flat.specs.Trees.{signal_of}
use Rattle.vs_trace.proofs.Shown.{shown_value}
use Rattle.vs_trace.proofs.slots.value_of.Goals as goal

pub returns : goal.returns
returns c =
    let first = c.args.signal.now.first_bit in
    let len = c.length_of-len.result in
    let count : (first + len) - first ≡ range_or_one c.args.signal.now.range = omega (arith, c.length_of-len.ensures) in
    c.of.ensures ∙ ap (λ n. take n (drop first c.args.values.now)) count ∙ sym (shown_value c.args.values.now (signal_of 0 c.args.signal.now) c.requires)
