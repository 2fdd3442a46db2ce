use Rattle.std.proofs.Common.{◌++◌, sym, ap, ◌∙◌}
use Rattle.std.specs.Prelude.{filter}
use Rattle.vs_design.specs.Footprints.{contains}
use Rattle.vs_design.specs.Races.{blocking_bits, nonblocking_bits}
use Rattle.vs_shape.specs.Bodies.{body_of}
use Rattle.vs_reads.proofs.Gathered.{one_list}
use Rattle.vs_sets.proofs.TwiceSteps.{on_ok}
use Rattle.vs_typed.proofs.BothWays.{none_in, none_added, shared_same}
use Rattle.vs_typed.proofs.written.push_both_ways.Goals as goal

pub returns-then-is_empty : goal.returns-then-is_empty
returns-then-is_empty c =
    let s = body_of c.args.shapes.now c.args.s in
    let written = one_list c.new-at_once.result.items c.push_statement.new.out.items (blocking_bits s) c.new-at_once.ensures.items c.in_ok-push_statement.ensures in
    let none = none_in c.as_slice.result.now (sym c.is_empty.ensures ∙ c.if-is_empty.true) in
    none_added c.args.out.now.items (blocking_bits s) (nonblocking_bits s) (sym written ∙ sym c.as_slice.ensures.value ∙ none)

pub returns : goal.returns
returns c =
    let s = body_of c.args.shapes.now c.args.s in
    let out = c.args.out.now.items in
    let some = c.as_slice-2.result.now in
    let written = one_list c.new-at_once.result.items c.push_statement.new.out.items (blocking_bits s) c.new-at_once.ensures.items c.in_ok-push_statement.ensures in
    let later = one_list c.new-later.result.items c.push_statement-2.new.out.items (nonblocking_bits s) c.new-later.ensures.items c.in_ok-push_statement-2.ensures in
    let same = shared_same some (blocking_bits s) (nonblocking_bits s) (λ b. ap (λ bs. contains bs b) c.as_slice-2.ensures.value ∙ c.ascend.ensures.same b ∙ ap (λ bs. contains bs b) written) in
    on_ok c.push_shared.result c.push_shared.ensures
    (λ e. e ∙ ap (λ bs. out ++ filter (contains some) bs) (c.as_slice-3.ensures.value ∙ later) ∙ ap (λ bs. out ++ bs) same)
