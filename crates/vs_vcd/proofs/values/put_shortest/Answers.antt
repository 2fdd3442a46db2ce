use Rattle.std.proofs.Common.{◌∙◌, ◌++◌, take, map, reverse, sym, ap, length}
use Rattle.vs_vcd.specs.Values.{digit_code}
use Rattle.vs_vcd.proofs.ValueLemmas.{planes-take}
use Rattle.vs_vcd.proofs.values.put_shortest.Goals as goal

pub returns-else-unknown-eq0-clause-text : goal.returns-else-unknown-eq0-clause-text
returns-else-unknown-eq0-clause-text c =
    let count = c.shown_count-count.result in
    let shown = sym (planes-take count (length c.args.value) _ _ c.shown_count-count.ensures.within) ∙ ap (take count) c.planes-number.ensures.vector in
    c.put_digits.ensures.text ∙ ap (λ ds. take c.args.at c.args.block.now ++ map digit_code ds) (ap reverse shown ∙ c.shown_count-count.ensures.shortest)
