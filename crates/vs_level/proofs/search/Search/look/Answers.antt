use Rattle.std.proofs.Common.{◌<◌, sym, ◌∙◌, subst}
use Rattle.vs_level.specs.Search.{IsSearch, effort}
use Rattle.vs_level.proofs.Steps.{next_is, ring_of, search_opened, way_to, effort_opened, search_looked, effort_looked, found_placed, found_node}
use Rattle.vs_level.proofs.search.Search.look.Goals as goal
use Rattle.vs_level.proofs.search.Search.look.Goals.{in-Fresh+in_ok-enter-in-Fresh, in-Placed}

pub mark-requires : goal.mark-requires
mark-requires c = (next_is c.args.graph.now c.args.self.now c.args.p c.left-left.result c.feeders.result.now c.requires.closed c.requires.search c.requires.last c.left-left.ensures c.requires.some c.feeders.ensures).there

pub enter-requires : goal.enter-requires
enter-requires c = (next_is c.args.graph.now c.args.self.now c.args.p c.left-left.result c.feeders.result.now c.requires.closed c.requires.search c.requires.last c.left-left.ensures c.requires.some c.feeders.ensures).there

pub returns-in-Open-clause-refused : goal.returns-in-Open-clause-refused
returns-in-Open-clause-refused c =
    let n = next_is c.args.graph.now c.args.self.now c.args.p c.left-left.result c.feeders.result.now c.requires.closed c.requires.search c.requires.last c.left-left.ensures c.requires.some c.feeders.ensures in
    c.least_first.ensures c.args.graph.now (ring_of c.args.graph.now c.args.self.now c.args.p _ _ c.requires.search c.requires.last n.fed c.in_ok-path_to-in-Open.ensures)

pub returns-clause-search : goal.returns-clause-search
returns-clause-search c =
    let g = c.args.graph.now in
    let s = c.args.self.now in
    let n = next_is g s c.args.p c.left-left.result c.feeders.result.now c.requires.closed c.requires.search c.requires.last c.left-left.ensures c.requires.some c.feeders.ensures in
    elim c.match-mark.branch [
      | in-Fresh+in_ok-enter-in-Fresh w ↦ subst (IsSearch g) (sym (w.self-is ∙ w.in_ok-enter-in-Fresh.ensures)) (search_opened g s _ c.requires.search n.there (sym w.in-Fresh.ensures) (found_node g s c.args.p _ _ c.requires.closed n) (way_to g s c.args.p _ c.requires.search c.requires.last n.fed))
      | in-Placed w ↦ subst (IsSearch g) (sym (w.self-is ∙ w.skip.ensures)) (search_looked g s c.args.p _ c.requires.search n.here n.below (found_placed g s c.args.p _ _ c.requires.search n (sym w.in-Placed.ensures)))
    ]

pub returns-clause-nearer : goal.returns-clause-nearer
returns-clause-nearer c =
    let g = c.args.graph.now in
    let s = c.args.self.now in
    let n = next_is g s c.args.p c.left-left.result c.feeders.result.now c.requires.closed c.requires.search c.requires.last c.left-left.ensures c.requires.some c.feeders.ensures in
    elim c.match-mark.branch [
      | in-Fresh+in_ok-enter-in-Fresh w ↦ subst (λ t. effort t < effort s) (sym (w.self-is ∙ w.in_ok-enter-in-Fresh.ensures)) (effort_opened g s _ n.there (sym w.in-Fresh.ensures))
      | in-Placed w ↦ subst (λ t. effort t < effort s) (sym (w.self-is ∙ w.skip.ensures)) (effort_looked s c.args.p _ n.here n.below)
    ]
