use Rattle.std.proofs.Common.{◌≡◌, map, refl, sym, ap, ◌∙◌, subst}
use Rattle.vs_elaborated.specs.Parameters.{valued}
use Rattle.vs_scope.specs.declared.names.Entry.{Entry}
use Rattle.vs_scope.specs.declared.names.Declared.TheVariants as states
use Rattle.vs_maps.specs.Maps.{with_value, AreDistinct}
use Rattle.vs_maps.specs.MapViews.{pairs}
use Rattle.vs_scope.specs.Views.{declared, evaluated, pair_entry}
use Rattle.vs_scope.specs.Declares.{named_of}
use Rattle.vs_scope.proofs.Changes.{still_with, changed_none, changed_some, changed_kept, named_changed, valued_kept, valued_later}
use Rattle.vs_scope.proofs.names.Names.put_value.Goals as goal

pub returns-in-None-clause-entries : goal.returns-in-None-clause-entries
returns-in-None-clause-entries c =
    let found = sym c.get.ensures.value ∙ sym c.copied.ensures ∙ c.in-None.is in
    changed_none (valued (evaluated c.args.value)) c.args.name.now (pairs c.args.self.now.map) found

pub returns-in_ok-put-in-Some-clause-entries : goal.returns-in_ok-put-in-Some-clause-entries
returns-in_ok-put-in-Some-clause-entries c =
    let ps = pairs c.args.self.now.map in
    let name = c.args.name.now in
    let old = c.in-Some.field-0 in
    let new : Entry = record { first = old.first; second = old.second; declared = states.Parameter c.args.value } in
    let found = sym c.get.ensures.value ∙ sym c.copied.ensures ∙ c.in-Some.is in
    let put : pairs c.put.new.self ≡ with_value name new ps = c.in_ok-put-in-Some.ensures.put in
    ap (map pair_entry) put ∙ changed_some (valued (evaluated c.args.value)) name old new ps (subst AreDistinct put c.in_ok-put-in-Some.ensures.distinct) found refl (valued_later (evaluated c.args.value) (declared old.declared) (sym c.is_later.ensures ∙ c.if-is_later.true))

pub returns-in_ok-put-in-Some-clause-named : goal.returns-in_ok-put-in-Some-clause-named
returns-in_ok-put-in-Some-clause-named c =
    let ps = pairs c.args.self.now.map in
    let name = c.args.name.now in
    let old = c.in-Some.field-0 in
    let new : Entry = record { first = old.first; second = old.second; declared = states.Parameter c.args.value } in
    let found = sym c.get.ensures.value ∙ sym c.copied.ensures ∙ c.in-Some.is in
    let put : pairs c.put.new.self ≡ with_value name new ps = c.in_ok-put-in-Some.ensures.put in
    ap (map named_of) put ∙ named_changed name old new ps found refl

pub returns-else-is_later-clause-entries : goal.returns-else-is_later-clause-entries
returns-else-is_later-clause-entries c =
    let old = c.in-Some.field-0 in
    let found = sym c.get.ensures.value ∙ sym c.copied.ensures ∙ c.in-Some.is in
    changed_kept (valued (evaluated c.args.value)) c.args.name.now old (pairs c.args.self.now.map) c.get.ensures.distinct found (valued_kept (evaluated c.args.value) (declared old.declared) (sym c.is_later.ensures ∙ c.if-is_later.false))

pub returns-in_ok-put-in-Some-clause-still : goal.returns-in_ok-put-in-Some-clause-still
returns-in_ok-put-in-Some-clause-still c =
    let old = c.in-Some.field-0 in
    let new : Entry = record { first = old.first; second = old.second; declared = states.Parameter c.args.value } in
    still_with c.args.self.now _ c.args.name.now new refl refl refl c.in_ok-put-in-Some.ensures.put refl
