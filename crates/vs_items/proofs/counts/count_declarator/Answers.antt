use Rattle.std.proofs.Common.{◌++◌, List, sym, ◌∙◌}
use Rattle.vs_ast.specs.Views as view
use Rattle.vs_elaborated.specs.Pieces.{Piece}
use Rattle.vs_items.specs.Counts.{IsCounted}
use Rattle.vs_items.proofs.CountSteps.{viewed, declarator_counted, declarator_uncounted}
use Rattle.vs_items.proofs.counts.count_declarator.Goals as goal

pub returns-then-is_some-clause-counted : goal.returns-then-is_some-clause-counted
returns-then-is_some-clause-counted c = λ env before ps h.
    declarator_counted env c.args.place (view.signal_kind c.args.kind) (view.name c.args.d.now.name) (view.option view.range c.args.d.now.addresses) (view.option view.expr c.args.d.now.value) (viewed c.args.d.now.value ∙ sym c.is_some.ensures ∙ c.if-is_some.true)
    c.value_place-at.result c.value_place-at.ensures (λ (qs : List Piece). IsCounted c.add.new.self before (ps ++ qs)) (λ p i j. c.add.ensures.counted before ps p h i j)

pub returns-else-is_some-clause-counted : goal.returns-else-is_some-clause-counted
returns-else-is_some-clause-counted c = λ env before ps h.
    declarator_uncounted env c.args.place (view.signal_kind c.args.kind) (view.name c.args.d.now.name) (view.option view.range c.args.d.now.addresses) (view.option view.expr c.args.d.now.value) (viewed c.args.d.now.value ∙ sym c.is_some.ensures ∙ c.if-is_some.false) c.args.count.now before ps h
