use Rattle.std.proofs.Common.{ap, sym, ◌∙◌}
use Rattle.std.specs.Prelude.{option_map, map}
use Rattle.vs_ast.specs.Views as view
use Rattle.vs_flat.specs.DesignOf.{design_of}
use Rattle.vs_tops.specs.Designs.{elaborated_by}
use Rattle.vs_accept.specs.Answers.{IsRefusalOf}
use Rattle.vs_accept.specs.Outputs.{named_outputs}
use Rattle.vs_accept.proofs.Judged.{passed_on, accepted_text, refused_text, with_outputs}
use Rattle.vs_accept.proofs.acceptance.answer.Goals as goal

pub returns-in_err-tokens-clause-refused : goal.returns-in_err-tokens-clause-refused
returns-in_err-tokens-clause-refused c =
    let top = option_map (λ t. t.now) c.args.top in
    let clocks = map (λ c. c.now) c.args.clocks.now in
    passed_on (IsRefusalOf c.args.text.now top clocks) c.from_residual.result c.in_err-tokens.field-0.0 c.from_residual.ensures.1 (c.in_err-tokens.ensures.refused top clocks)

pub returns-in_err-source-clause-refused : goal.returns-in_err-source-clause-refused
returns-in_err-source-clause-refused c =
    let top = option_map (λ t. t.now) c.args.top in
    let clocks = map (λ c. c.now) c.args.clocks.now in
    passed_on (IsRefusalOf c.args.text.now top clocks) c.from_residual-in_err-source.result c.in_err-source.field-0.0 c.from_residual-in_err-source.ensures.1 (c.in_err-source.ensures.refused top clocks)

pub returns-in_err-flat-clause-refused : goal.returns-in_err-flat-clause-refused
returns-in_err-flat-clause-refused c =
    let top = option_map (λ t. t.now) c.args.top in
    let clocks = map (λ c. c.now) c.args.clocks.now in
    passed_on (IsRefusalOf c.args.text.now top clocks) c.from_residual-in_err-flat.result c.in_err-flat.field-0.0 c.from_residual-in_err-flat.ensures.1
    (c.in_err-flat.ensures.refused top clocks c.in_ok-name.ensures)

pub returns-clause-accepted : goal.returns-clause-accepted
returns-clause-accepted c =
    let source = view.source c.in_ok-source.source in
    accepted_text c.args.text.now (option_map (λ t. t.now) c.args.top) (map (λ c. c.now) c.args.clocks.now) _ source (design_of c.in_ok-flat.flat) c.judge.result c.requires c.in_ok-source.ensures.read
    (ap (elaborated_by source) (sym c.in_ok-name.ensures) ∙ c.in_ok-flat.ensures.elaborates) c.judge.ensures.kept c.judge.ensures.left c.judge.ensures.size c.judge.ensures.accepted

pub returns-clause-refused : goal.returns-clause-refused
returns-clause-refused c =
    let source = view.source c.in_ok-source.source in
    refused_text c.args.text.now (option_map (λ t. t.now) c.args.top) (map (λ c. c.now) c.args.clocks.now) _ source (design_of c.in_ok-flat.flat) c.judge.result c.in_ok-source.ensures.read
    (ap (elaborated_by source) (sym c.in_ok-name.ensures) ∙ c.in_ok-flat.ensures.elaborates) c.judge.ensures.refused

pub returns-clause-outputs : goal.returns-clause-outputs
returns-clause-outputs c =
    let source = view.source c.in_ok-source.source in
    with_outputs c.args.text.now (option_map (λ t. t.now) c.args.top) _ source c.in_ok-outputs.outputs.items c.judge.result c.in_ok-source.ensures.read c.judge.ensures.outputs
    (c.in_ok-outputs.ensures ∙ ap (named_outputs source) c.in_ok-name.ensures)
