use Rattle.std.proofs.Common.{◌≡◌, Some, None, map, refl, sym, ap, ◌∙◌, subst}
use Rattle.vs_elaborated.specs.Environments as environment
use Rattle.vs_scope.specs.declared.names.Entry.{Entry}
use Rattle.vs_maps.specs.Maps.{with_value}
use Rattle.vs_maps.specs.MapViews.{pairs}
use Rattle.vs_scope.specs.Views.{declaration}
use Rattle.vs_scope.specs.Declares.{named_of, ArePairsFirst}
use Rattle.vs_scope.proofs.NamedPairs.{named_with, first_with}
use Rattle.vs_scope.proofs.Changes.{still_with}
use Rattle.vs_scope.proofs.names.Names.declare_first.Goals as goal

pub returns-clause-named : goal.returns-clause-named
returns-clause-named c =
    let d = c.args.d in
    let name = d.name.now.text in
    let ps = pairs c.args.self.now.map in
    let e : Entry = record { first = d; second = None; declared = c.first_declared-declared.result } in
    let put : pairs c.put.new.self ≡ with_value name e ps = c.in_ok-put.ensures.put ∙ ap (λ n. with_value n e ps) c.as_slice.ensures in
    ap (map named_of) put ∙ named_with c.args.self.now.scope (declaration d) e ps c.requires.first.each (λ h. refl) (λ (x : Entry) h. let bad : None ≡ Some x = sym c.requires.new ∙ h in cc bad)

pub returns-clause-first : goal.returns-clause-first
returns-clause-first c =
    let d = c.args.d in
    let name = d.name.now.text in
    let ps = pairs c.args.self.now.map in
    let e : Entry = record { first = d; second = None; declared = c.first_declared-declared.result } in
    let put : pairs c.put.new.self ≡ with_value name e ps = c.in_ok-put.ensures.put ∙ ap (λ n. with_value n e ps) c.as_slice.ensures in
    let first = ap (λ (x : environment.Declared). let q : environment.Entry = record { name = name; place = d.name.now.place; declared = x } in q) c.first_declared-declared.ensures.declared in
    record { each = subst (ArePairsFirst c.args.self.now.scope) (sym put) (first_with c.args.self.now.scope name e ps c.requires.first.each (λ h. first) (λ (x : Entry) h. let bad : None ≡ Some x = sym c.requires.new ∙ h in cc bad)) }

pub returns-clause-still : goal.returns-clause-still
returns-clause-still c =
    let d = c.args.d in
    let ps = pairs c.args.self.now.map in
    let e : Entry = record { first = d; second = None; declared = c.first_declared-declared.result } in
    still_with c.args.self.now _ d.name.now.text e refl refl refl (c.in_ok-put.ensures.put ∙ ap (λ n. with_value n e ps) c.as_slice.ensures) c.first_declared-declared.ensures.incomplete
