use Rattle.std.proofs.Common.{◌≡◌, [], List, map, Option, slice_get, sym, ap, ◌∙◌, subst}
use Rattle.std.specs.Option.{option_copied}
use Rattle.vs_const.specs.Meanings.{IsShapeIn}
use Rattle.vs_const.specs.MentionViews.{kept}
use Rattle.vs_const.specs.declared.names.SignalShape.{SignalShape}
use Rattle.vs_maps.specs.MapViews.{pairs}
use Rattle.vs_scope.specs.Complete.{reads_at, reads_in}
use Rattle.vs_scope.proofs.ItemsAt.{copied_at}
use Rattle.vs_scope.proofs.Completing.{reads_complete, shape_in_reads}
use Rattle.vs_scope.proofs.names.Names.passed.Goals as goal

pub returns-in-None : goal.returns-in-None
returns-in-None c = λ outer e f k found is.
    let names = c.args.self.now in
    let name = c.args.name.now in
    let none : reads_at (pairs names.reads) name ≡ [] = ap reads_in (sym c.get.ensures.value ∙ ap option_copied c.in-None.is) in
    shape_in_reads [] f.passed c.args.number (ap (map kept) (sym none) ∙ reads_complete outer names name e f k found is)

pub returns-in-Some : goal.returns-in-Some
returns-in-Some c = λ outer e f k found is.
    let names = c.args.self.now in
    let name = c.args.name.now in
    let list = c.in-Some.list.now.items in
    let there : reads_at (pairs names.reads) name ≡ list = ap reads_in (sym c.get.ensures.value ∙ ap option_copied c.in-Some.is) in
    let get = c.get-in-Some.ensures.lookup in
    let at : c.copied.result ≡ slice_get list c.args.number =
    subst (λ (xs : List SignalShape). c.copied.result ≡ slice_get xs c.args.number) c.as_slice.ensures.value (c.copied.ensures ∙ copied_at c.get-in-Some.result c.as_slice.result.now c.args.number get.1 get.3) in
    subst (λ (o : Option SignalShape). IsShapeIn o (slice_get f.passed c.args.number)) (sym at)
    (shape_in_reads list f.passed c.args.number (ap (map kept) (sym there) ∙ reads_complete outer names name e f k found is))
