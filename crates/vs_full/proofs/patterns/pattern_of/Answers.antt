use Rattle.vs_full.proofs.Opening.{no_end, not_open, open_pattern}
use Rattle.vs_full.proofs.patterns.pattern_of.Goals as goal

pub returns-then-not-ends : goal.returns-then-not-ends
returns-then-not-ends c = no_end c.args.kind c.args.n c.args.value c.matched_each-pattern.result c.ends.result c.matched_each-pattern.ensures c.ends.ensures c.if-not-ends.true

pub returns-then-not-are_open : goal.returns-then-not-are_open
returns-then-not-are_open c = not_open c.args.kind c.args.n c.args.value c.matched_each-pattern.result _ c.are_open.result c.matched_each-pattern.ensures c.cut.ensures c.are_open.ensures c.if-not-are_open.true

pub returns : goal.returns
returns c =
    open_pattern c.args.kind c.args.n c.args.value c.matched_each-pattern.result _ c.are_open.result c.ends.result c.matched_each-pattern.ensures c.ends.ensures c.if-not-ends.false c.cut.ensures c.are_open.ensures c.if-not-are_open.false
