use Rattle.std.proofs.Common.{◌++◌, refl, sym, subst, OnOk}
use Rattle.vs_ast.specs.declared.items.Item.{Item}
use Rattle.vs_ast.specs.Views as view
use Rattle.vs_elaborated.specs.NamedBlocks.{named_blocks}
use Rattle.vs_elaborated.specs.Pieces.{Initially}
use Rattle.vs_elaborated.specs.Surveys.{initial_statement, item_said}
use Rattle.vs_items.specs.Counts.{IsCounted}
use Rattle.vs_items.proofs.ItemLists.{block_counted, other_counted, are_others}
use Rattle.vs_items.proofs.counts.count_item.Goals as goal

pub returns-in-Always-clause-counted : goal.returns-in-Always-clause-counted
returns-in-Always-clause-counted c = λ limits source around loops made before ps a h.
    let b = view.always_block c.in-Always.b in
    subst (λ (x : Item). IsCounted c.add.new.self before (ps ++ (item_said limits source around loops (view.item x) made).pieces)) (sym c.in-Always.is)
    (block_counted (named_blocks b.statement) limits around loops b c.add.new.self before ps (λ p e f. c.add.ensures.counted before ps p h e f))

pub returns-in-Initial-clause-counted : goal.returns-in-Initial-clause-counted
returns-in-Initial-clause-counted c = λ limits source around loops made before ps a h.
    let b = view.initial_block c.in-Initial.b in
    subst (λ (x : Item). IsCounted c.add-in-Initial.new.self before (ps ++ (item_said limits source around loops (view.item x) made).pieces)) (sym c.in-Initial.is)
    (c.add-in-Initial.ensures.counted before ps (Initially b.place (initial_statement limits around.env loops b).statement) h refl refl)

pub returns-in-Instances-clause-counted : goal.returns-in-Instances-clause-counted
returns-in-Instances-clause-counted c = λ limits source around loops made before ps a h.
    subst (λ (x : Item). OnOk c.count_instances.result (IsCounted c.count_instances.new.count before (ps ++ (item_said limits source around loops (view.item x) made).pieces))) (sym c.in-Instances.is)
    (c.count_instances.ensures.counted source around before ps a h)

pub returns-in_default : goal.returns-in_default
returns-in_default c = record {
  most = refl;
  counted = λ limits source around loops made before ps a h.
      other_counted limits source around loops (view.item c.args.item.now) made c.args.count.now before ps
      (are_others c.args.item.now c.in_default.not-Signals c.in_default.not-Assigns c.in_default.not-Always c.in_default.not-Initial c.in_default.not-Instances) h;
}
