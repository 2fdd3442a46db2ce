use Rattle.std.proofs.Common.{ap, sym, ◌∙◌}
use Rattle.std.specs.List.{list_any}
use Rattle.vs_lexer.specs.declared.token.Token.{Token}
use Rattle.vs_pre.specs.Words.{is_directive}
use Rattle.vs_pre.proofs.ReadSteps.{plain_resolved}
use Rattle.vs_pre.proofs.reader.resolve.Goals as goal

pub returns-then-not-has_directive-clause-list : goal.returns-then-not-has_directive-clause-list
returns-then-not-has_directive-clause-list c =
    plain_resolved c.args.text.now c.args.tokens.items (ap (list_any (λ (t : Token). is_directive t.kind)) (sym c.as_slice.ensures.value) ∙ sym c.has_directive.ensures ∙ c.if-not-has_directive.true) c.requires
