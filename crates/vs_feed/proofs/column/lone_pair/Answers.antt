use Rattle.std.proofs.Common.{◌≢◌, ap₂, ◌∙◌, arith}
use Rattle.vs_plane.specs.Lanes.{decode}
use Rattle.vs_feed.proofs.column.lone_pair.Goals as goal

pub returns-clause-first : goal.returns-clause-first
returns-clause-first g c = ap₂ decode c.with.ensures.changed c.with-2.ensures.changed

pub returns-clause-others : goal.returns-clause-others
returns-clause-others g c = λ i some h.
    let other : i ≢ 0 = omega arith in
    ap₂ decode (c.with.ensures.others i h other ∙ c.all.ensures i h) (c.with-2.ensures.others i h other ∙ c.all-2.ensures i h)
