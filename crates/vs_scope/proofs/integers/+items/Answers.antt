use Rattle.std.proofs.Common.{sym, ◌∙◌}
use Rattle.vs_scope.proofs.IntegerUses.{case_uses, alone_uses, default_uses, enclosed_uses}
use Rattle.vs_scope.proofs.integers.+items.Goals as goal

pub item_uses-returns-then-arms_use : goal.item_uses-returns-then-arms_use
item_uses-returns-then-arms_use t c =
    let w = c.in-GenerateCase in
    case_uses c.args.as_head c.args.name.now c.args.item.now w.place w.subject w.arms w.other c.deref-in-GenerateCase.result.now w.is c.deref-in-GenerateCase.ensures.value (sym c.arms_use.ensures ∙ c.if-arms_use.true)

pub item_uses-returns-in-None-other : goal.item_uses-returns-in-None-other
item_uses-returns-in-None-other t c =
    let w = c.in-GenerateCase in
    alone_uses c.args.as_head c.args.name.now c.args.item.now w.place w.subject w.arms w.other c.deref-in-GenerateCase.result.now w.is c.in-None-other.is c.deref-in-GenerateCase.ensures.value (sym c.arms_use.ensures ∙ c.if-arms_use.false)

pub item_uses-returns-in-Some-other : goal.item_uses-returns-in-Some-other
item_uses-returns-in-Some-other t c =
    let w = c.in-GenerateCase in
    default_uses c.args.as_head c.args.name.now c.args.item.now w.place w.subject w.arms c.in-Some-other.other w.other c.deref-in-GenerateCase.result.now c.deref-in-Some-other.result.now c.block_uses-in-Some-other.result
    w.is c.in-Some-other.is c.deref-in-GenerateCase.ensures.value c.deref-in-Some-other.ensures (sym c.arms_use.ensures ∙ c.if-arms_use.false) c.block_uses-in-Some-other.ensures

pub block_uses-returns-in-Enclosed : goal.block_uses-returns-in-Enclosed
block_uses-returns-in-Enclosed t c =
    let w = c.in-Enclosed in
    enclosed_uses c.args.as_head c.args.name.now c.args.block.now w.place w.name w.items c.deref-in-Enclosed.result.now c.items_use.result w.is c.deref-in-Enclosed.ensures.value c.items_use.ensures
