use Rattle.vs_flat.specs.DesignOf.{arena_trees}
use Rattle.vs_flat.specs.Trees.{tree_at}
use Rattle.vs_values.proofs.Choosing.{own_value_of}
use Rattle.vs_lower.proofs.Indexing.{if_ok, ready_first, ready_second}
use Rattle.vs_lower.proofs.indices.part_index.Goals as goal

pub lower-requires-clause-ready : goal.lower-requires-clause-ready
lower-requires-clause-ready c =
    let a = c.args.templates.now.arena in
    ready_first c.args.env.now c.args.code.now (tree_at (arena_trees a) c.args.address) (tree_at (arena_trees a) c.args.index) c.own-first.result.width c.own-first.ensures.width c.requires.ready

pub lower-requires-2-clause-ready : goal.lower-requires-2-clause-ready
lower-requires-2-clause-ready c =
    let a = c.args.templates.now.arena in
    let address = tree_at (arena_trees a) c.args.address in
    let v = own_value_of c.args.env.now c.args.code.now c.lower.new.code address c.own-first.result.width c.own-first.result.signed c.in_ok-at.at.items c.own-first.ensures.width c.own-first.ensures.signed c.in_ok-at.ensures in
    ready_second c.args.env.now c.args.code.now c.lower.new.code address (tree_at (arena_trees a) c.args.index) c.in_ok-at.at.items c.own-second.result.width c.own-second.ensures.width c.requires.ready v

pub returns : goal.returns
returns c =
    let a = c.args.templates.now.arena in
    if_ok c.appended.result c.appended.ensures
    (λ ti is. record {
      middle = c.lower.new.code;
      ta = c.in_ok-at.at.items;
      tb = c.in_ok-by.by.items;
      is = is;
      first = own_value_of c.args.env.now c.args.code.now c.lower.new.code (tree_at (arena_trees a) c.args.address) c.own-first.result.width c.own-first.result.signed c.in_ok-at.at.items c.own-first.ensures.width c.own-first.ensures.signed c.in_ok-at.ensures;
      second = own_value_of c.args.env.now c.lower.new.code c.lower-2.new.code (tree_at (arena_trees a) c.args.index) c.own-second.result.width c.own-second.result.signed c.in_ok-by.by.items c.own-second.ensures.width c.own-second.ensures.signed c.in_ok-by.ensures;
    })
