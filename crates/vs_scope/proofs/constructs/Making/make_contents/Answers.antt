use Rattle.std.proofs.Common.{◌≡◌, ℕ, List, [], map, OnOk, sym, ap, ◌∙◌, subst}
use Rattle.vs_ast.specs.Views as view
use Rattle.vs_grammar.specs.Trees as tree
use Rattle.vs_grammar.specs.Shapes.{Each}
use Rattle.vs_elaborated.specs.Generate as generate
use Rattle.vs_scope.specs.Chosen.{IsConstruct, IsMaking}
use Rattle.vs_scope.specs.Contents.{contents_items}
use Rattle.vs_scope.specs.Frames.{view_env}
use Rattle.vs_scope.proofs.Steps.{items_are}
use Rattle.vs_scope.proofs.constructs.Making.make_contents.Goals as goal

pub make_all-requires-clause-shaped : goal.make_all-requires-clause-shaped
make_all-requires-clause-shaped c =
    let same : contents_items c.args.contents ≡ map view.item c.as_slice.result.now = ap contents_items c.in-Module.is ∙ items_are c.in-Module.whole.now.items.items ∙ ap (map view.item) (sym c.as_slice.ensures.value) in
    subst (Each IsConstruct) same c.requires.shaped

pub returns-in-Module : goal.returns-in-Module
returns-in-Module c =
    let env = view_env c.args.here.now in
    let same : contents_items c.args.contents ≡ map view.item c.as_slice.result.now = ap contents_items c.in-Module.is ∙ items_are c.in-Module.whole.now.items.items ∙ ap (map view.item) (sym c.as_slice.ensures.value) in
    subst (λ (is : List tree.Item). OnOk c.make_all.result ((before : ℕ) (all : List generate.Made) → IsMaking c.args.self.now env before is all → IsMaking c.make_all.new.self env before [] all)) (sym same) c.make_all.ensures
