use Rattle.std.proofs.Common.{◌≡◌, ◌||◌, ℕ, suc, Bool, List, map, drop, Option, sym, ap, ◌∙◌, subst, add-one}
use Rattle.vs_design.specs.Clocks.{same_name}
use Rattle.vs_const.specs.declared.faults.Fault.{Fault}
use Rattle.vs_const.specs.Faults.{least, better, fault_if}
use Rattle.vs_const.specs.declared.rules.Rule.TheVariants.{DuplicateName}
use Rattle.vs_const.proofs.Least.{least_append}
use Rattle.vs_elaborated.specs.Environments.{find_entry}
use Rattle.vs_elaborated.specs.Surveys.{clash_with}
use Rattle.vs_scope.specs.declared.clashes.NamedBlock.{NamedBlock}
use Rattle.vs_scope.specs.Clashes.{block_of}
use Rattle.vs_maps.specs.Sets.{has}
use Rattle.vs_scope.specs.Views.{entries}
use Rattle.vs_scope.proofs.Steps.{from_place, none_left}
use Rattle.vs_scope.proofs.ClashSteps.{AreClashing, clashing_start, clashing_more, clashing_end}
use Rattle.vs_scope.proofs.clashes.clash_fault.Goals as goal

pub loop-b-init : goal.loop-b-init
loop-b-init c = clashing_start (entries c.args.names.now) (has c.new-seen.result) (map block_of c.args.blocks.now) c.new-seen.ensures

pub loop-b-preserved : goal.loop-b-preserved
loop-b-preserved c =
    let blocks = c.args.blocks.now in
    let es = entries c.args.names.now in
    let i = c.loop-b.b-index in
    let b = block_of c.b-item.result in
    let text : c.as_slice-text.result.now ≡ b.name = c.as_slice-text.ensures.value in
    let one = clash_with b.place (find_entry es b.name) in
    let two = fault_if (has c.loop-b.seen b.name) DuplicateName b.place in
    subst (λ (n : ℕ). AreClashing es (has c.add.new.self) c.first_of-fault.result (map block_of (drop n blocks)) (map block_of blocks)) (sym (add-one i))
    (clashing_more es (has c.loop-b.seen) (has c.add.new.self) b (map block_of (drop (suc i) blocks)) (map block_of blocks) c.loop-b.fault c.first_of-both.result c.first_of-fault.result
    (subst (λ (x : List NamedBlock). AreClashing es (has c.loop-b.seen) c.loop-b.fault (map block_of x) (map block_of blocks)) (from_place blocks i c.b-item.result c.loop-b-test.true c.b-item.is) c.loop-b.invariant)
    (c.first_of-both.ensures ∙ ap (λ (o : Option Fault). better o c.fault_if-again.result) c.declared_fault-declared.ensures
    ∙ ap (better (least one)) (c.fault_if-again.ensures ∙ ap (λ (x : Bool). least (fault_if x DuplicateName b.place)) (c.contains.ensures ∙ ap (has c.loop-b.seen) text)) ∙ sym (least_append one two))
    c.first_of-fault.ensures
    (λ n. c.in_ok-add.ensures n ∙ ap (λ (x : List ℕ). same_name x n || has c.loop-b.seen n) text))

pub returns : goal.returns
returns c =
    let blocks = c.args.blocks.now in
    let es = entries c.args.names.now in
    clashing_end es (has c.loop-b.seen) c.loop-b.fault (map block_of blocks)
    (subst (λ (x : List NamedBlock). AreClashing es (has c.loop-b.seen) c.loop-b.fault (map block_of x) (map block_of blocks)) (none_left blocks c.loop-b.b-index c.loop-b-test.false) c.loop-b.invariant)
