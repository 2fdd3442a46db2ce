use Rattle.std.proofs.Common.{◌+◌, refl, sym, ◌∙◌, arith}
use Rattle.vs_items.proofs.CountSteps.{counted_past, counted_over, counted_on}
use Rattle.vs_items.proofs.counts.Count.add.Goals as goal

pub returns-then-is_some-clause-counted : goal.returns-then-is_some-clause-counted
returns-then-is_some-clause-counted c = λ before ps p h i j. counted_past c.args.self.now before ps p (sym c.is_some.ensures ∙ c.if-is_some.true) h

pub returns-then-left-count-clause-counted : goal.returns-then-left-count-clause-counted
returns-then-left-count-clause-counted c = λ before ps p h i j.
    counted_over c.args.self.now before ps p c.args.count c.args.place (sym c.is_some.ensures ∙ c.if-is_some.false) (omega (arith, c.saturating_sub-left.ensures, c.if-left-count.true)) i j h

pub returns-else-left-count-clause-counted : goal.returns-else-left-count-clause-counted
returns-else-left-count-clause-counted c = λ before ps p h i j.
    counted_on c.args.self.now before ps p c.args.count (c.args.self.now.total + c.args.count) (sym c.is_some.ensures ∙ c.if-is_some.false)
    (let f = h.few in omega (arith, c.saturating_sub-left.ensures, c.if-left-count.false, f)) refl i h
