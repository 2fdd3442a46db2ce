use Rattle.std.proofs.Common.{◌≡◌, Bool, Option, Some, None, map, refl, sym, ap, ◌∙◌, subst}
use Rattle.vs_scope.specs.declared.names.Entry.{Entry}
use Rattle.vs_maps.specs.Maps.{value_at, with_value}
use Rattle.vs_maps.specs.MapViews.{pairs}
use Rattle.vs_scope.specs.Views.{declaration}
use Rattle.vs_scope.specs.Declares.{named_of, ArePairsFirst, with_second, is_open}
use Rattle.vs_scope.proofs.NamedPairs.{named_entry, named_with, first_with}
use Rattle.vs_elaborated.specs.Parameters.{first_declared}
use Rattle.vs_scope.specs.declared.names.Declaration.{Declaration}
use Rattle.vs_scope.specs.Views.{declared, sort}
use Rattle.vs_scope.proofs.NamedPairs.{second_at, declared_at}
use Rattle.vs_scope.proofs.Changes.{still_with}
use Rattle.vs_scope.proofs.names.Names.declare_second.Goals as goal

same_found : (o : Option Entry) (a b : Entry) → o ≡ Some a → o ≡ Some b → a ≡ b
same_found o a b h k = let e : Some a ≡ Some b = sym h ∙ k in cc

none_found : {P : Type 0} (o : Option Entry) (a : Entry) → o ≡ Some a → o ≡ None → P
none_found o a h k = let e : Some a ≡ None = sym h ∙ k in cc

pub returns-clause-named : goal.returns-clause-named
returns-clause-named c =
    let d = c.args.d in
    let name = d.name.now.text in
    let ps = pairs c.args.self.now.map in
    let s = second_at c.args.first d (value_at name ps) c.requires.open in
    let old : Entry = s.0 in
    let e : Entry = record { first = c.args.first; second = Some d; declared = c.first_declared-declared.result } in
    let put : pairs c.put.new.self ≡ with_value name e ps = c.in_ok-put.ensures.put ∙ ap (λ n. with_value n e ps) c.as_slice.ensures in
    let becomes : named_entry name e ≡ with_second (is_open (named_entry name old) (declaration d)) (declaration d) (named_entry name old) =
    ap (λ (x : Declaration). named_entry name (record { first = x; second = Some d; declared = c.first_declared-declared.result })) (sym s.2) ∙ sym (ap (λ (t : Bool). with_second t (declaration d) (named_entry name old)) s.3) in
    ap (map named_of) put
    ∙ named_with c.args.self.now.scope (declaration d) e ps c.requires.first.each (λ h. none_found (value_at name ps) old s.1 h)
    (λ (x : Entry) h. subst (λ (y : Entry). named_entry name e ≡ with_second (is_open (named_entry name y) (declaration d)) (declaration d) (named_entry name y)) (same_found (value_at name ps) old x s.1 h) becomes)

pub returns-clause-first : goal.returns-clause-first
returns-clause-first c =
    let d = c.args.d in
    let name = d.name.now.text in
    let ps = pairs c.args.self.now.map in
    let s = second_at c.args.first d (value_at name ps) c.requires.open in
    let old : Entry = s.0 in
    let e : Entry = record { first = c.args.first; second = Some d; declared = c.first_declared-declared.result } in
    let put : pairs c.put.new.self ≡ with_value name e ps = c.in_ok-put.ensures.put ∙ ap (λ n. with_value n e ps) c.as_slice.ensures in
    let known : declared c.first_declared-declared.result ≡ declared old.declared =
    c.first_declared-declared.ensures.declared ∙ sym (ap (λ (x : Declaration). first_declared c.args.self.now.scope (sort x.sort)) s.2) ∙ sym (declared_at c.args.self.now.scope name ps old c.requires.first.each s.1) in
    record {
      each = subst (ArePairsFirst c.args.self.now.scope) (sym put) (first_with c.args.self.now.scope name e ps c.requires.first.each (λ h. none_found (value_at name ps) old s.1 h)
          (λ (x : Entry) h. let same : old ≡ x = same_found (value_at name ps) old x s.1 h in (sym s.2 ∙ ap (λ (y : Entry). y.first) same, known ∙ ap (λ (y : Entry). declared y.declared) same)));
    }

pub returns-clause-still : goal.returns-clause-still
returns-clause-still c =
    let d = c.args.d in
    let ps = pairs c.args.self.now.map in
    let e : Entry = record { first = c.args.first; second = Some d; declared = c.first_declared-declared.result } in
    still_with c.args.self.now _ d.name.now.text e refl refl refl (c.in_ok-put.ensures.put ∙ ap (λ n. with_value n e ps) c.as_slice.ensures) c.first_declared-declared.ensures.incomplete
