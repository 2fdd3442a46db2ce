use Rattle.std.proofs.Common.{◌<◌, sym, ◌∙◌, subst}
use Rattle.vs_level.specs.Search.{IsSearch, effort}
use Rattle.vs_level.proofs.Steps.{last_left, last_mark, last_open, search_placed, effort_placed}
use Rattle.vs_level.proofs.search.Search.step.Goals as goal

pub left-requires : goal.left-requires
left-requires c = last_left c.args.graph.now c.args.self.now c.args.p c.requires.closed c.requires.search c.requires.last

pub place-requires : goal.place-requires
place-requires c = last_mark c.args.graph.now c.args.self.now c.args.p c.requires.closed c.requires.search c.requires.last

pub returns-in_ok-place-clause-search : goal.returns-in_ok-place-clause-search
returns-in_ok-place-clause-search c =
    subst (IsSearch c.args.graph.now) (sym c.in_ok-place.ensures)
    (search_placed c.args.graph.now c.args.self.now c.args.p c.requires.search (last_mark c.args.graph.now c.args.self.now c.args.p c.requires.closed c.requires.search c.requires.last) c.requires.last (sym c.left.ensures ∙ c.if-left-eq0.true))

pub returns-in_ok-place-clause-nearer : goal.returns-in_ok-place-clause-nearer
returns-in_ok-place-clause-nearer c =
    subst (λ s. effort s < effort c.args.self.now) (sym c.in_ok-place.ensures)
    (effort_placed c.args.self.now c.args.p (last_mark c.args.graph.now c.args.self.now c.args.p c.requires.closed c.requires.search c.requires.last) (last_open c.args.graph.now c.args.self.now c.args.p c.requires.search c.requires.last))
