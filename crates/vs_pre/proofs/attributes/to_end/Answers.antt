use Rattle.std.proofs.Common.{sym, ◌∙◌, ap}
use Rattle.std.proofs.lemmas.List.{take_rest}
use Rattle.vs_pre.specs.Attributes.{ends_attribute}
use Rattle.vs_pre.proofs.AttributeFacts.{end_later}
use Rattle.vs_pre.proofs.attributes.to_end.Goals as goal

pub loop-at-preserved : goal.loop-at-preserved
loop-at-preserved c =
    let ts = c.args.tokens.now in
    sym (end_later ts c.loop-at.at c.loop-at-test.true (ap ends_attribute (sym (take_rest ts c.loop-at.at)) ∙ sym c.ends_attribute.ensures.value ∙ c.if-ends_attribute.false)) ∙ c.loop-at.invariant
