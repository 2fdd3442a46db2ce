use Rattle.std.proofs.Common.{ap, sym, ◌∙◌}
use Rattle.vs_const.specs.Faults.{least}
use Rattle.vs_bodies.proofs.Declaring.{none_untaken, name_untaken, all_untaken, taken, neither}
use Rattle.vs_bodies.proofs.blocks.untaken_variable.Goals as goal

pub returns-then-are_taken : goal.returns-then-are_taken
returns-then-are_taken c = ap least (sym (taken c.args.v.now c.args.takes_variables c.is_integer-integers.result (sym c.are_taken.ensures ∙ c.if-are_taken.true) c.is_integer-integers.ensures))

pub loop-n-init : goal.loop-n-init
loop-n-init c = none_untaken c.deref-n-items.result.now

pub loop-n-preserved : goal.loop-n-preserved
loop-n-preserved c =
    name_untaken c.deref-n-items.result.now c.loop-n.n-index c.n-item.result c.loop-n.fault c.fault_at-found.result c.first_of-fault.result c.loop-n-test.true c.n-item.is c.fault_at-found.ensures c.first_of-fault.ensures c.loop-n.invariant

pub returns : goal.returns
returns c =
    let no = neither c.args.takes_variables c.is_integer-integers.result (sym c.are_taken.ensures ∙ c.if-are_taken.false) in
    all_untaken c.args.v.now c.deref-n-items.result.now c.args.takes_variables c.loop-n.n-index c.loop-n.fault c.deref-n-items.ensures.value c.loop-n-test.false no.0 (λ n. sym (c.is_integer-integers.ensures n) ∙ no.1) c.loop-n.invariant
