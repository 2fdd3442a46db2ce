use Rattle.std.proofs.Common.{◌≡◌, ◌<◌, List, length, refl, ap, ◌∙◌, arith}
use Rattle.std.proofs.lemmas.Bool.Decides.{nat_tests}
use Rattle.vs_ast.specs.Views as view
use Rattle.vs_scope.specs.declared.block_scopes.NamedBlock.{NamedBlock}
use Rattle.vs_scope.proofs.NamedSignals.{none_pushed, none_within, one_pushed, one_within}
use Rattle.vs_scope.proofs.block_scopes.push_block.Goals as goal

pub returns-then-is_empty-clause-pushed : goal.returns-then-is_empty-clause-pushed
returns-then-is_empty-clause-pushed c =
    let none : length c.args.variables.items ≡ 0 = grind (arith, nat_tests, c.is_empty.ensures, c.if-is_empty.true, c.args.variables.ok.0) in
    none_pushed c.args.list.now.items (view.block_scope c.args.scope.now) (view.statements c.args.parts.now) c.args.outer c.args.variables.items none

pub returns-then-is_empty-clause-within : goal.returns-then-is_empty-clause-within
returns-then-is_empty-clause-within c =
    let none : length c.args.variables.items ≡ 0 = grind (arith, nat_tests, c.is_empty.ensures, c.if-is_empty.true, c.args.variables.ok.0) in
    none_within (view.block_scope c.args.scope.now) (view.statements c.args.parts.now) c.args.outer (length c.args.list.now.items) c.args.variables.items none

pub returns-clause-pushed : goal.returns-clause-pushed
returns-clause-pushed c =
    let more : 0 < length c.args.variables.items = grind (arith, nat_tests, c.is_empty.ensures, c.if-is_empty.false, c.args.variables.ok.0) in
    let some : length c.args.variables.items ≡ 0 → ⊥ = λ e. let no : ⊥ = omega (arith, more, e) in no in
    one_pushed c.args.list.now.items c.push.new.self.items _ (view.block_scope c.args.scope.now) (view.statements c.args.parts.now) c.args.outer c.args.variables.items some c.in_ok-push.ensures.items refl

pub returns-clause-within : goal.returns-clause-within
returns-clause-within c =
    let more : 0 < length c.args.variables.items = grind (arith, nat_tests, c.is_empty.ensures, c.if-is_empty.false, c.args.variables.ok.0) in
    let some : length c.args.variables.items ≡ 0 → ⊥ = λ e. let no : ⊥ = omega (arith, more, e) in no in
    one_within (view.block_scope c.args.scope.now) (view.statements c.args.parts.now) c.args.outer (length c.args.list.now.items) c.in_ok-number.number c.args.variables.items some (c.in_ok-number.ensures ∙ ap (λ (xs : List NamedBlock). length xs) c.as_slice.ensures.value)
