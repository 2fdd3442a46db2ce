use Rattle.std.proofs.Common.{◌≡◌, ◌<◌, List, IfOk, length, sym, ap, subst, arith}
use Rattle.std.proofs.lemmas.Bool.Decides.{nat_tests}
use Rattle.vs_ast.specs.Views as view
use Rattle.vs_const.specs.Faults.{least}
use Rattle.vs_elaborated.specs.Limits.{the_limits}
use Rattle.vs_elaborated.specs.NamedBlocks.{NamedBlock, named_blocks}
use Rattle.vs_elaborated.specs.Surveys.{copies_by}
use Rattle.vs_scope.specs.Frames.{view_env}
use Rattle.vs_items.specs.declared.blocks.Found.{Found}
use Rattle.vs_items.specs.Blocks.{faults_by}
use Rattle.vs_items.proofs.BlockSteps.{none_named, some_named}
use Rattle.vs_items.proofs.blocks.found_here.Goals as goal

pub returns-then-is_empty-clause-fault : goal.returns-then-is_empty-clause-fault
returns-then-is_empty-clause-fault c =
    let b = view.always_block c.args.b.now in
    let none : length c.in_ok-named.named.items ≡ 0 = grind (arith, nat_tests, c.is_empty.ensures, c.if-is_empty.true, c.in_ok-named.named.ok.0) in
    subst (λ (ns : List NamedBlock). IfOk c.found_plain.result (λ (r : Found). r.fault ≡ least (faults_by ns the_limits (view_env c.args.here.now) c.args.loops.now b))) (sym (none_named c.in_ok-named.named.items (named_blocks b.statement) c.in_ok-named.ensures none)) c.found_plain.ensures.fault

pub returns-then-is_empty-clause-copies : goal.returns-then-is_empty-clause-copies
returns-then-is_empty-clause-copies c =
    let b = view.always_block c.args.b.now in
    let none : length c.in_ok-named.named.items ≡ 0 = grind (arith, nat_tests, c.is_empty.ensures, c.if-is_empty.true, c.in_ok-named.named.ok.0) in
    subst (λ (ns : List NamedBlock). IfOk c.found_plain.result (λ (r : Found). r.copies ≡ copies_by ns the_limits (view_env c.args.here.now) c.args.loops.now b)) (sym (none_named c.in_ok-named.named.items (named_blocks b.statement) c.in_ok-named.ensures none)) c.found_plain.ensures.copies

pub returns-clause-fault : goal.returns-clause-fault
returns-clause-fault c =
    let b = view.always_block c.args.b.now in
    let more : 0 < length c.in_ok-named.named.items = grind (arith, nat_tests, c.is_empty.ensures, c.if-is_empty.false, c.in_ok-named.named.ok.0) in
    let some : length c.in_ok-named.named.items ≡ 0 → ⊥ = λ e. let no : ⊥ = omega (arith, more, e) in no in
    sym (ap (λ (ns : List NamedBlock). least (faults_by ns the_limits (view_env c.args.here.now) c.args.loops.now b)) (some_named c.in_ok-named.named.items (named_blocks b.statement) c.in_ok-named.ensures some).2)

pub returns-clause-copies : goal.returns-clause-copies
returns-clause-copies c =
    let b = view.always_block c.args.b.now in
    let more : 0 < length c.in_ok-named.named.items = grind (arith, nat_tests, c.is_empty.ensures, c.if-is_empty.false, c.in_ok-named.named.ok.0) in
    let some : length c.in_ok-named.named.items ≡ 0 → ⊥ = λ e. let no : ⊥ = omega (arith, more, e) in no in
    sym (ap (λ (ns : List NamedBlock). copies_by ns the_limits (view_env c.args.here.now) c.args.loops.now b) (some_named c.in_ok-named.named.items (named_blocks b.statement) c.in_ok-named.ensures some).2)
