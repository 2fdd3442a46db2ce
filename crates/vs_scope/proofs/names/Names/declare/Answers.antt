use Rattle.std.proofs.Common.{◌≡◌, Bool, true, false, Some, None, refl, sym, ap, ◌∙◌, subst}
use Rattle.vs_const.specs.Faults.{least, fault_if}
use Rattle.vs_const.specs.declared.rules.Rule.TheVariants.{DuplicateName}
use Rattle.vs_maps.specs.Maps.{value_at}
use Rattle.vs_maps.specs.MapViews.{pairs}
use Rattle.vs_scope.specs.Views.{declaration}
use Rattle.vs_scope.specs.Declares.{IsOpenAt}
use Rattle.vs_scope.proofs.NamedPairs.{is_many, many_at, named_kept, open_is, not_true, not_false}
use Rattle.vs_scope.proofs.names.Names.declare.Goals as goal

pub declare_first-requires-clause-new : goal.declare_first-requires-clause-new
declare_first-requires-clause-new c =
    let ps = pairs c.args.self.now.map in
    ap (λ n. value_at n ps) (sym c.as_slice.ensures) ∙ sym c.get.ensures.value ∙ sym c.copied.ensures ∙ c.in-None.is

pub declare_second-requires-clause-open : goal.declare_second-requires-clause-open
declare_second-requires-clause-open c =
    let d = c.args.d in
    let ps = pairs c.args.self.now.map in
    let old = c.in-Some.field-0 in
    let found : value_at d.name.now.text ps ≡ Some old = ap (λ n. value_at n ps) (sym c.as_slice.ensures) ∙ sym c.get.ensures.value ∙ sym c.copied.ensures ∙ c.in-Some.is in
    subst (IsOpenAt old.first d) (sym found) (refl, open_is old (declaration d) c.is_open.result c.is_open.ensures ∙ c.if-is_open.true)

pub returns-in_ok-declare_first-in-None-clause-fault : goal.returns-in_ok-declare_first-in-None-clause-fault
returns-in_ok-declare_first-in-None-clause-fault c =
    let d = c.args.d in
    let ps = pairs c.args.self.now.map in
    let found : value_at d.name.now.text ps ≡ None = ap (λ n. value_at n ps) (sym c.as_slice.ensures) ∙ sym c.get.ensures.value ∙ sym c.copied.ensures ∙ c.in-None.is in
    sym (ap (λ (t : Bool). least (fault_if t DuplicateName d.name.now.place)) (many_at c.args.self.now.scope (declaration d) ps c.requires.first.each ∙ ap (is_many (declaration d)) found))

pub returns-in_ok-declare_second-in-Some-clause-fault : goal.returns-in_ok-declare_second-in-Some-clause-fault
returns-in_ok-declare_second-in-Some-clause-fault c =
    let d = c.args.d in
    let ps = pairs c.args.self.now.map in
    let old = c.in-Some.field-0 in
    let found : value_at d.name.now.text ps ≡ Some old = ap (λ n. value_at n ps) (sym c.as_slice.ensures) ∙ sym c.get.ensures.value ∙ sym c.copied.ensures ∙ c.in-Some.is in
    let few : is_many (declaration d) (Some old) ≡ false = not_true _ (open_is old (declaration d) c.is_open.result c.is_open.ensures ∙ c.if-is_open.true) in
    sym (ap (λ (t : Bool). least (fault_if t DuplicateName d.name.now.place)) (many_at c.args.self.now.scope (declaration d) ps c.requires.first.each ∙ ap (is_many (declaration d)) found ∙ few))

pub returns-else-is_open-clause-named : goal.returns-else-is_open-clause-named
returns-else-is_open-clause-named c =
    let d = c.args.d in
    let ps = pairs c.args.self.now.map in
    let old = c.in-Some.field-0 in
    let found : value_at d.name.now.text ps ≡ Some old = ap (λ n. value_at n ps) (sym c.as_slice.ensures) ∙ sym c.get.ensures.value ∙ sym c.copied.ensures ∙ c.in-Some.is in
    let many : is_many (declaration d) (Some old) ≡ true = not_false _ (open_is old (declaration d) c.is_open.result c.is_open.ensures ∙ c.if-is_open.false) in
    sym (named_kept c.args.self.now.scope (declaration d) old ps c.requires.first.each found many)

pub returns-else-is_open-clause-fault : goal.returns-else-is_open-clause-fault
returns-else-is_open-clause-fault c =
    let d = c.args.d in
    let ps = pairs c.args.self.now.map in
    let old = c.in-Some.field-0 in
    let found : value_at d.name.now.text ps ≡ Some old = ap (λ n. value_at n ps) (sym c.as_slice.ensures) ∙ sym c.get.ensures.value ∙ sym c.copied.ensures ∙ c.in-Some.is in
    let many : is_many (declaration d) (Some old) ≡ true = not_false _ (open_is old (declaration d) c.is_open.result c.is_open.ensures ∙ c.if-is_open.false) in
    c.fault_at.ensures ∙ sym (ap (λ (t : Bool). least (fault_if t DuplicateName d.name.now.place)) (many_at c.args.self.now.scope (declaration d) ps c.requires.first.each ∙ ap (is_many (declaration d)) found ∙ many))
