use Rattle.std.proofs.Common.{◌≡◌, ◌++◌, List, length, map, sym, ap, ◌∙◌, subst, OnOk}
use Rattle.std.proofs.lemmas.List.{length-map}
use Rattle.vs_grammar.specs.Trees as tree
use Rattle.vs_ast.specs.Views as view
use Rattle.vs_elaborated.specs.Surveys.{items_said}
use Rattle.vs_scope.specs.Contents.{contents_items}
use Rattle.vs_items.specs.Counts.{IsCounted}
use Rattle.vs_items.proofs.Repeats.{items_are}
use Rattle.vs_items.proofs.counts.count_contents.Goals as goal

pub returns-in-Module-clause-counted : goal.returns-in-Module-clause-counted
returns-in-Module-clause-counted c = λ limits source around loops made before ps a same h.
    let all : contents_items c.args.contents ≡ map view.item c.deref.result.now =
    ap contents_items c.in-Module.is ∙ items_are c.in-Module.m.now.items.items ∙ ap (map view.item) (sym c.deref.ensures.value) in
    subst (λ (is : List tree.Item). OnOk c.count_items.result (IsCounted c.count_items.new.count before (ps ++ (items_said limits source around loops is made).pieces))) (sym all)
    (c.count_items.ensures.counted limits source around loops made before ps a (same ∙ ap (λ (is : List tree.Item). length is) all ∙ length-map c.deref.result.now view.item) h)
