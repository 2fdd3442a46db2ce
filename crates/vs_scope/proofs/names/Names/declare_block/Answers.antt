use Rattle.std.proofs.Common.{◌≡◌, ◌++◌, ◌∷◌, ℕ, List, [], Some, None, refl, sym, ap, ◌∙◌}
use Rattle.std.specs.Borrow.{Bor}
use Rattle.vs_ast.specs.Views as view
use Rattle.vs_ast.specs.declared.items.Function.{Function}
use Rattle.vs_elaborated.specs.Environments as environment
use Rattle.vs_elaborated.specs.Environments.{find_entry}
use Rattle.vs_scope.specs.declared.names.Entry.{Entry}
use Rattle.vs_scope.specs.declared.names.Sort.TheVariants as sorts
use Rattle.vs_scope.specs.declared.names.Declared.TheVariants as states
use Rattle.vs_scope.specs.Clashes.{label_entry}
use Rattle.vs_maps.specs.Maps.{Pair, value_at}
use Rattle.vs_maps.specs.MapViews.{pairs}
use Rattle.vs_scope.specs.Views.{entries, entry_of}
use Rattle.vs_scope.proofs.ClashSteps.{value_found, same_there, copied_some, copied_none, entry_last, put_last}
use Rattle.vs_scope.proofs.BlocksBehind.{behind_itself}
use Rattle.vs_scope.proofs.names.Names.declare_block.Goals as goal

pub returns-then-is_some-clause-same : goal.returns-then-is_some-clause-same
returns-then-is_some-clause-same c =
    let ps = pairs c.args.self.now.map in
    let name = c.as_slice-name.result.now in
    let there = copied_some (λ x. x.now) c.get.result (value_at name ps) c.get.ensures.value (sym c.is_some.ensures ∙ c.if-is_some.true) in
    let e = label_entry (view.name c.args.label.now) in
    same_there (entries c.args.self.now) e (entry_of name there.0) (ap (find_entry (entries c.args.self.now)) (sym c.as_slice-name.ensures) ∙ value_found name ps there.0 there.1)

pub returns-then-is_some-clause-new : goal.returns-then-is_some-clause-new
returns-then-is_some-clause-new c = λ none.
    let ps = pairs c.args.self.now.map in
    let name = c.as_slice-name.result.now in
    let there = copied_some (λ x. x.now) c.get.result (value_at name ps) c.get.ensures.value (sym c.is_some.ensures ∙ c.if-is_some.true) in
    let found : find_entry (entries c.args.self.now) (view.name c.args.label.now).bytes ≡ Some (entry_of name there.0) = ap (find_entry (entries c.args.self.now)) (sym c.as_slice-name.ensures) ∙ value_found name ps there.0 there.1 in
    let bad : Some (entry_of name there.0) ≡ None = sym found ∙ none in
    cc bad

pub returns-clause-new : goal.returns-clause-new
returns-clause-new c = λ none.
    let ps = pairs c.args.self.now.map in
    let name = c.as_slice-name.result.now in
    let v : Entry = record { first = record { name = c.args.label; sort = sorts.Scope }; second = None; declared = states.Scope } in
    let out = copied_none (λ x. x.now) c.get.result (value_at name ps) c.get.ensures.value (sym c.is_some.ensures ∙ c.if-is_some.false) in
    entry_last name v ps (pairs c.put.new.self) c.in_ok-put.ensures.put out ∙ ap (λ (n : List ℕ). entries c.args.self.now ++ entry_of n v ∷ []) c.as_slice-name.ensures

pub returns-clause-same : goal.returns-clause-same
returns-clause-same c = λ n.
    let ps = pairs c.args.self.now.map in
    let name = c.as_slice-name.result.now in
    let v : Entry = record { first = record { name = c.args.label; sort = sorts.Scope }; second = None; declared = states.Scope } in
    let out = copied_none (λ x. x.now) c.get.result (value_at name ps) c.get.ensures.value (sym c.is_some.ensures ∙ c.if-is_some.false) in
    ap (λ (x : List environment.Entry). find_entry x n)
    (entry_last name v ps (pairs c.put.new.self) c.in_ok-put.ensures.put out ∙ ap (λ (n : List ℕ). entries c.args.self.now ++ entry_of n v ∷ []) c.as_slice-name.ensures)

pub returns-then-is_some-clause-behind : goal.returns-then-is_some-clause-behind
returns-then-is_some-clause-behind c = behind_itself c.args.self.now

pub returns-clause-behind : goal.returns-clause-behind
returns-clause-behind c =
    let ps = pairs c.args.self.now.map in
    let name = c.as_slice-name.result.now in
    let v : Entry = record { first = record { name = c.args.label; sort = sorts.Scope }; second = None; declared = states.Scope } in
    let out = copied_none (λ x. x.now) c.get.result (value_at name ps) c.get.ensures.value (sym c.is_some.ensures ∙ c.if-is_some.false) in
    record {
      more = (let q : Pair Entry = record { name = name; value = v } in q) ∷ [];
      pairs_are = c.in_ok-put.ensures.put ∙ put_last name v ps out;
      incomplete = (refl, tt);
      scope = refl;
      counts = refl;
      functions = refl {A = List (Bor Function)};
      reads = refl;
      plain = refl;
    }
