use Rattle.std.proofs.Common.{sym, ◌∙◌, ap, arith, get_or}
use Rattle.vs_stim.proofs.Counted.{not_once}
use Rattle.vs_stim.proofs.heading.Heading.is_each_once.Goals as goal

pub returns-then-count-ne1 : goal.returns-then-count-ne1
returns-then-count-ne1 c =
    let cs = c.args.self.now.columns.items in
    let k = c.loop-count.count-index in
    sym (not_once _ k cs (omega arith) (λ e. c.if-count-ne1.true (ap (λ items. get_or items k 0) c.deref-count-items.ensures.value ∙ c.requires.each k (omega arith) ∙ e)))
