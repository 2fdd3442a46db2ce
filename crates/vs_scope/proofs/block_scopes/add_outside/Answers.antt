use Rattle.std.proofs.Common.{◌≡◌, ◌||◌, ℕ, Bool, List, sym, ap, ◌∙◌, subst}
use Rattle.vs_ast.specs.Views as view
use Rattle.vs_design.specs.Clocks.{same_name}
use Rattle.vs_const.specs.Faults.{fault_if, least}
use Rattle.vs_const.specs.declared.rules.Rule.TheVariants.{DuplicateName}
use Rattle.vs_elaborated.specs.Generate.{BlockName}
use Rattle.vs_elaborated.specs.NamedBlocks as spec
use Rattle.vs_maps.specs.Sets.{has}
use Rattle.vs_scope.specs.NamedBlocks.{AreKnown, names_after}
use Rattle.vs_scope.proofs.BlockNames.{outside_none, outside_some, one_repeated, one_known}
use Rattle.vs_scope.proofs.block_scopes.add_outside.Goals as goal

pub returns-in_ok-add-in-None-clause-fault : goal.returns-in_ok-add-in-None-clause-fault
returns-in_ok-add-in-None-clause-fault c = λ names h.
    let name = view.name c.args.b.now.name.now in
    let text : c.as_slice-name.result.now ≡ name.bytes = c.as_slice-name.ensures in
    subst (λ (x : List BlockName). c.fault_if-again.result ≡ least (spec.repeated_blocks names x)) (sym (outside_none c.args.b.now c.in-None.is))
    (one_repeated c.args.known.now names name c.fault_if-again.result h
    (c.fault_if-again.ensures ∙ ap (λ (x : Bool). least (fault_if x DuplicateName name.place)) (c.contains.ensures ∙ ap (has c.args.known.now) text)))

pub returns-in_ok-add-in-None-clause-known : goal.returns-in_ok-add-in-None-clause-known
returns-in_ok-add-in-None-clause-known c = λ names h.
    let name = view.name c.args.b.now.name.now in
    let text : c.as_slice-name.result.now ≡ name.bytes = c.as_slice-name.ensures in
    subst (λ (x : List BlockName). AreKnown c.add.new.self (names_after names x)) (sym (outside_none c.args.b.now c.in-None.is))
    (one_known c.args.known.now c.add.new.self names name h (λ n. c.in_ok-add-in-None.ensures n ∙ ap (λ (x : List ℕ). same_name x n || has c.args.known.now n) text))

pub returns-in-Some-clause-fault : goal.returns-in-Some-clause-fault
returns-in-Some-clause-fault c = λ names h. ap (λ (x : List BlockName). least (spec.repeated_blocks names x)) (sym (outside_some c.args.b.now _ c.in-Some.is))

pub returns-in-Some-clause-known : goal.returns-in-Some-clause-known
returns-in-Some-clause-known c = λ names h. subst (λ (x : List BlockName). AreKnown c.args.known.now (names_after names x)) (sym (outside_some c.args.b.now _ c.in-Some.is)) h
