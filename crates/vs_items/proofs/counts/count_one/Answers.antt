use Rattle.vs_ast.specs.Views as view
use Rattle.vs_items.proofs.ItemLists.{made_at, one_counted}
use Rattle.vs_items.proofs.counts.count_one.Goals as goal

pub returns-clause-counted : goal.returns-clause-counted
returns-clause-counted c = λ limits source around loops made before ps a same h.
    one_counted limits source around loops (view.item c.args.item.now) made c.count_item.new.count before ps same (c.in_ok-count_item.ensures.counted limits source around loops (made_at made 0) before ps a h)
