use Rattle.std.specs.Prelude.{Vec}
use Rattle.std.specs.Global.{Global}
use Rattle.vs_const.specs.declared.names.SignalShape.{SignalShape}
use Rattle.std.proofs.Common.{List, Some, map, refl, sym, ap, ◌∙◌, subst}
use Rattle.vs_scope.specs.declared.names.Entry.{Entry}
use Rattle.vs_scope.specs.declared.names.Declared.TheVariants as states
use Rattle.vs_maps.specs.Maps.{AreDistinct, Pair, with_value}
use Rattle.vs_maps.specs.MapViews.{pairs}
use Rattle.vs_scope.specs.Complete.{reads_at, shapes_by}
use Rattle.vs_scope.specs.Views.{pair_entry}
use Rattle.vs_scope.proofs.Changes.{changed_some, unchanged}
use Rattle.vs_scope.proofs.PutShapes.{put_none, put_kept, put_reads, open_declared}
use Rattle.vs_scope.proofs.names.Names.put_shape.Goals as goal

pub returns-in-None-clause-shapes : goal.returns-in-None-clause-shapes
returns-in-None-clause-shapes c = λ es g h k s r.
    put_none (reads_at (pairs c.args.self.now.reads)) c.args.name.now g (pairs c.args.self.now.map) es h k (sym c.get.ensures.value ∙ sym c.copied.ensures ∙ c.in-None.is)

pub returns-in_ok-put-in-Some-2-clause-entries : goal.returns-in_ok-put-in-Some-2-clause-entries
returns-in_ok-put-in-Some-2-clause-entries c =
    let ps = pairs c.args.self.now.map in
    let name = c.args.name.now in
    let old = c.in-Some.field-0 in
    let new : Entry = record { first = old.first; second = old.second; declared = states.Function (Some c.args.shape) } in
    let found = sym c.get.ensures.value ∙ sym c.copied.ensures ∙ c.in-Some.is in
    let put = c.in_ok-put-in-Some.ensures.put in
    ap (map pair_entry) put
    ∙ changed_some (λ d. d) name old new ps (subst AreDistinct put c.in_ok-put-in-Some.ensures.distinct) found refl (sym (open_declared old.declared (sym c.is_incomplete.ensures ∙ c.if-is_incomplete.true)))
    ∙ unchanged name (map pair_entry ps)

pub returns-in_ok-put-in-Some-2-clause-shapes : goal.returns-in_ok-put-in-Some-2-clause-shapes
returns-in_ok-put-in-Some-2-clause-shapes c = λ es g h k s r.
    let ps = pairs c.args.self.now.map in
    let name = c.args.name.now in
    let old = c.in-Some.field-0 in
    let new : Entry = record { first = old.first; second = old.second; declared = states.Function (Some c.args.shape) } in
    let found = sym c.get.ensures.value ∙ sym c.copied.ensures ∙ c.in-Some.is in
    let put = c.in_ok-put-in-Some.ensures.put in
    let reads = pairs c.args.self.now.reads in
    ap (λ (xs : List (Pair Entry)). shapes_by (reads_at (pairs c.put-then-is_incomplete.new.self)) xs) put
    ∙ ap (λ (rs : List (Pair (Vec SignalShape Global))). shapes_by (reads_at rs) (with_value name new ps)) c.in_ok-put-in-Some-2.ensures.put
    ∙ put_reads name c.args.reads reads g c.args.shape old new ps es r (subst AreDistinct put c.in_ok-put-in-Some.ensures.distinct) h k found (sym c.is_incomplete.ensures ∙ c.if-is_incomplete.true) refl s

pub returns-else-is_incomplete-clause-shapes : goal.returns-else-is_incomplete-clause-shapes
returns-else-is_incomplete-clause-shapes c = λ es g h k s r.
    let found = sym c.get.ensures.value ∙ sym c.copied.ensures ∙ c.in-Some.is in
    put_kept (reads_at (pairs c.args.self.now.reads)) c.args.name.now g c.in-Some.field-0 (pairs c.args.self.now.map) es c.get.ensures.distinct h k found (sym c.is_incomplete.ensures ∙ c.if-is_incomplete.false)
