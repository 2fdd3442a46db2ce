use Rattle.std.proofs.Common.{◌≡◌, sym, subst, arith}
use Rattle.std.specs.Prelude.{Result, Ok, Err, IfOk, IfErr}
use Rattle.std.proofs.lemmas.Result.{err_from_is_err_and}
use Rattle.vs_design.specs.Designs.{Design}
use Rattle.vs_ast.specs.Views as view
use Rattle.vs_const.specs.declared.faults.Fault.{Fault}
use Rattle.vs_elab.specs.declared.error.ElabError.{ElabError}
use Rattle.vs_elab.specs.declared.reading.Reading.{Reading}
use Rattle.vs_elab.specs.Reading.{Tells, design_so_far, source_of, totals_so_far}
use Rattle.vs_elab.proofs.TopReading.{header_shallow, items_shallow, none_override, top_sound, top_is, top_reading, top_outcome, top_fails, first_pieces, first_parts, first_there, none_pending}
use Rattle.vs_elab.proofs.whole.read_top.Goals as goal

pub open_scope-requires-clause-sound : goal.open_scope-requires-clause-sound
open_scope-requires-clause-sound c = top_sound _ c.nothing_read-reading.result.frames.items c.args.top.now.of c.as_slice.result.now c.new-none.result c.new-none.ensures c.requires.shaped

pub open_scope-requires-clause-overrides : goal.open_scope-requires-clause-overrides
open_scope-requires-clause-overrides c = none_override c.nothing_read-reading.result.frames.items c.new-none.result c.new-none.ensures

pub open_scope-requires-clause-header : goal.open_scope-requires-clause-header
open_scope-requires-clause-header c = header_shallow c.args.top.now.of.now c.requires.shallow

pub open_scope-requires-clause-shallow : goal.open_scope-requires-clause-shallow
open_scope-requires-clause-shallow c = items_shallow c.args.top.now.of.now c.requires.shallow

pub returns-in_err-parts-clause-broken : goal.returns-in_err-parts-clause-broken
returns-in_err-parts-clause-broken c =
    let old = c.nothing_read-reading.result in
    let m = c.args.top.now.of in
    let p = err_from_is_err_and c.from_residual.result c.from_residual.ensures.1 in
    let is = top_is old.frames.items m c.as_slice.result.now c.new-none.result c.as_slice.ensures c.new-none.ensures in
    rw (p.1, p.2) (top_fails (source_of c.args.text.now) (view.module_tree m.now) _ (totals_so_far old) _ is c.nothing_read-reading.ensures.totals c.in_err-parts.ensures.broken)

pub read_pending-requires-clause-reading : goal.read_pending-requires-clause-reading
read_pending-requires-clause-reading c =
    let text = c.args.text.now in
    let source = source_of text in
    let old = c.nothing_read-reading.result in
    let new = c.open_scope.new.reading in
    let ps = c.in_ok-parts.parts.items in
    let opened = c.in_ok-parts.ensures.opened in
    let read = c.nothing_read-reading.ensures in
    let pushed = c.in_ok-push_parts.ensures in
    let stack = c.push_parts.new.stack.items in
    let before = c.new-stack.ensures.items in
    top_reading text 6432 _ old new ps stack opened read.design read.totals
    (pushed.parts source new.frames.items (none_pending source new.frames.items _ before) (first_there source _ old new ps opened) (omega arith) (first_parts source _ old new ps opened read.frames))
    (first_pieces source 6432 1 old.frames.items new.frames.items ps _ stack before read.frames (pushed.pieces source new.frames.items))

pub returns-clause-design : goal.returns-clause-design
returns-clause-design c =
    let text = c.args.text.now in
    let m = c.args.top.now.of in
    let source = source_of text in
    let old = c.nothing_read-reading.result in
    let new = c.open_scope.new.reading in
    let ps = c.in_ok-parts.parts.items in
    let read = c.nothing_read-reading.ensures in
    let stack = c.push_parts.new.stack.items in
    let pieces = first_pieces source 6432 1 old.frames.items new.frames.items ps _ stack c.new-stack.ensures.items read.frames (c.in_ok-push_parts.ensures.pieces source new.frames.items) in
    let is = top_is old.frames.items m c.as_slice.result.now c.new-none.result c.as_slice.ensures c.new-none.ensures in
    let same = top_outcome text (view.module_tree m.now) _ old new ps stack is c.in_ok-parts.ensures.opened read.design read.totals pieces in
    subst (λ (d : Result Design Fault). IfOk c.read_pending.result (λ (r : Reading). d ≡ Ok (design_so_far r))) (sym same) c.read_pending.ensures.design

pub returns-clause-broken : goal.returns-clause-broken
returns-clause-broken c =
    let text = c.args.text.now in
    let m = c.args.top.now.of in
    let source = source_of text in
    let old = c.nothing_read-reading.result in
    let new = c.open_scope.new.reading in
    let ps = c.in_ok-parts.parts.items in
    let read = c.nothing_read-reading.ensures in
    let stack = c.push_parts.new.stack.items in
    let pieces = first_pieces source 6432 1 old.frames.items new.frames.items ps _ stack c.new-stack.ensures.items read.frames (c.in_ok-push_parts.ensures.pieces source new.frames.items) in
    let is = top_is old.frames.items m c.as_slice.result.now c.new-none.result c.as_slice.ensures c.new-none.ensures in
    let same = top_outcome text (view.module_tree m.now) _ old new ps stack is c.in_ok-parts.ensures.opened read.design read.totals pieces in
    subst (λ (d : Result Design Fault). IfErr c.read_pending.result (λ (e : ElabError). Tells e (λ (f : Fault). d ≡ Err f))) (sym same) c.read_pending.ensures.broken
