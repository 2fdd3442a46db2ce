use Rattle.std.proofs.Common.{◌<◌, List, Some, length, refl, sym, ap, ◌∙◌, subst, arith}
use Rattle.std.proofs.lemmas.Result.{err_from_is_err_and}
use Rattle.vs_build.specs.Drafts.{Draft}
use Rattle.vs_scope.specs.declared.frames.Frame.{Frame}
use Rattle.vs_scope.specs.Frames.{KeepShapes, env_at, envs, view_env}
use Rattle.vs_maps.specs.MapViews.{pairs}
use Rattle.vs_elab.specs.declared.reading.Reading.{Reading}
use Rattle.vs_elab.specs.Functions.{IsIdle}
use Rattle.vs_elab.specs.Reading.{source_of}
use Rattle.vs_elab.proofs.InstanceCalls.{overrides_shaped, depth_few, frame_within, frame_below, frame_all_below, module_header, module_shaped, module_shallow, deepest_told, code_sound, broken_told, frame_still, frame_new, depth_within_limit, pending_still, parts_still, ports_room, ports_wirable, all_done}
use Rattle.vs_elab.proofs.steps.read_instance.Goals as goal

pub returns-in_err-left-clause-broken : goal.returns-in_err-left-clause-broken
returns-in_err-left-clause-broken c =
    let p = err_from_is_err_and c.from_residual.result c.from_residual.ensures.1 in
    deepest_told c.args.text.now c.requires.text c.args.reading.now c.args.stack.now.items c.args.at c.args.item c.args.instance c.args.known.now c.requires.reading c.requires.known c.from_residual.result p.0 c.in_err-left.field-0.0 p.1 p.2 c.in_err-left.ensures.none c.in_err-left.ensures.fault

pub overrides_of-requires : goal.overrides_of-requires
overrides_of-requires c =
    overrides_shaped c.args.text.now c.requires.text c.args.reading.now c.args.stack.now.items c.args.at c.args.item c.args.instance c.args.known.now c.requires.reading c.requires.known

pub overflow_add-depth : goal.overflow_add-depth
overflow_add-depth c =
    let h = depth_few c.args.text.now c.requires.text c.args.reading.now c.args.stack.now.items c.args.at c.args.item c.args.instance c.args.known.now c.requires.reading c.requires.known in omega (arith, h)

pub overflow_cast-scope : goal.overflow_cast-scope
overflow_cast-scope c =
    let h = frame_below c.args.text.now c.requires.text c.args.reading.now c.args.stack.now.items c.args.at c.args.item c.args.instance c.args.known.now c.requires.reading c.requires.known in omega (arith, h)

pub open_scope-requires-clause-sound : goal.open_scope-requires-clause-sound
open_scope-requires-clause-sound c =
    code_sound c.args.text.now c.requires.text c.args.reading.now c.args.stack.now.items c.args.at c.args.item c.args.instance c.args.known.now c.requires.reading c.requires.known (pairs c.in_ok-overrides.overrides) c.as_slice.result.now c.in_ok-overrides.ensures.alike c.instance_law.ensures.overrides c.in_ok-overrides.ensures.distinct

pub open_scope-requires-clause-numbered : goal.open_scope-requires-clause-numbered
open_scope-requires-clause-numbered c = tt

pub open_scope-requires-clause-overrides : goal.open_scope-requires-clause-overrides
open_scope-requires-clause-overrides c =
    c.in_ok-overrides.ensures.fine c.args.reading.now.frames.items (frame_within c.args.text.now c.requires.text c.args.reading.now c.args.stack.now.items c.args.at c.args.item c.args.instance c.args.known.now c.requires.reading c.requires.known)

pub open_scope-requires-clause-shaped : goal.open_scope-requires-clause-shaped
open_scope-requires-clause-shaped c =
    module_shaped c.args.text.now c.requires.text c.args.reading.now c.args.stack.now.items c.args.at c.args.item c.args.instance c.args.known.now c.requires.reading c.requires.known

pub open_scope-requires-clause-header : goal.open_scope-requires-clause-header
open_scope-requires-clause-header c =
    module_header c.args.text.now c.requires.text c.args.reading.now c.args.stack.now.items c.args.at c.args.item c.args.instance c.args.known.now c.requires.reading c.requires.known

pub open_scope-requires-clause-shallow : goal.open_scope-requires-clause-shallow
open_scope-requires-clause-shallow c =
    module_shallow c.args.text.now c.requires.text c.args.reading.now c.args.stack.now.items c.args.at c.args.item c.args.instance c.args.known.now c.requires.reading c.requires.known

pub open_scope-requires-clause-top : goal.open_scope-requires-clause-top
open_scope-requires-clause-top c =
    c.requires.reading.later

pub open_scope-requires-clause-within : goal.open_scope-requires-clause-within
open_scope-requires-clause-within c =
    frame_all_below c.args.text.now c.requires.text c.args.reading.now c.args.stack.now.items c.args.at c.args.item c.args.instance c.args.known.now c.requires.reading c.requires.known

pub returns-in_err-parts-clause-broken : goal.returns-in_err-parts-clause-broken
returns-in_err-parts-clause-broken c =
    let p = err_from_is_err_and c.from_residual-in_err-parts.result c.from_residual-in_err-parts.ensures.1 in
    broken_told c.args.text.now c.requires.text c.args.reading.now c.args.stack.now.items c.args.at c.args.item c.args.instance c.args.known.now c.requires.reading c.requires.known (pairs c.in_ok-overrides.overrides) c.as_slice.result.now c.in_ok-overrides.ensures.alike c.as_slice.ensures c.in_ok-left.left c.in_ok-left.ensures.deeper c.from_residual-in_err-parts.result p.0 c.in_err-parts.field-0.0 p.1 p.2 c.in_err-parts.ensures.broken

pub of-here-requires-clause-number : goal.of-here-requires-clause-number
of-here-requires-clause-number c =
    subst (λ (fs : List Frame). c.args.at.frame < length fs) (sym c.deref.ensures.value) (frame_still c.args.text.now c.requires.text c.args.reading.now c.args.stack.now.items c.args.at c.args.item c.args.instance c.args.known.now c.requires.reading c.requires.known (pairs c.in_ok-overrides.overrides) c.as_slice.result.now c.in_ok-overrides.ensures.alike c.as_slice.ensures c.in_ok-left.left c.in_ok-left.ensures.deeper c.open_scope.new.reading c.in_ok-parts.parts.items c.in_ok-parts.ensures.opened)

pub of-inside-requires-clause-number : goal.of-inside-requires-clause-number
of-inside-requires-clause-number c =
    subst (λ (fs : List Frame). c.args.reading.now.counts.start.scope < length fs) (sym c.deref-2.ensures.value)
    (frame_new c.args.text.now c.requires.text c.args.reading.now c.args.stack.now.items c.args.at c.args.item c.args.instance c.args.known.now c.requires.reading c.requires.known (pairs c.in_ok-overrides.overrides) c.as_slice.result.now c.in_ok-overrides.ensures.alike c.as_slice.ensures c.in_ok-left.left c.in_ok-left.ensures.deeper c.open_scope.new.reading c.in_ok-parts.parts.items c.in_ok-parts.ensures.opened c.args.reading.now.counts.start.scope (sym c.requires.reading.read.frames))

pub wire_ports-requires-clause-room : goal.wire_ports-requires-clause-room
wire_ports-requires-clause-room c =
    ports_room c.args.text.now c.requires.text c.args.reading.now c.args.stack.now.items c.args.at c.args.item c.args.instance c.args.known.now c.requires.reading c.requires.known (pairs c.in_ok-overrides.overrides) c.as_slice.result.now c.in_ok-overrides.ensures.alike c.as_slice.ensures c.in_ok-left.left c.in_ok-left.ensures.deeper c.open_scope.new.reading c.in_ok-parts.parts.items c.in_ok-parts.ensures.opened c.in_ok-connections.connections.items c.deref-3.result.now c.deref-3.ensures.value c.in_ok-connections.ensures.said c.in_ok-connections.ensures.fine

pub of-here-requires-clause-kept : goal.of-here-requires-clause-kept
of-here-requires-clause-kept c = subst KeepShapes (sym c.deref.ensures.value) c.in_ok-parts.ensures.opened.read.kept

pub of-inside-requires-clause-kept : goal.of-inside-requires-clause-kept
of-inside-requires-clause-kept c = subst KeepShapes (sym c.deref-2.ensures.value) c.in_ok-parts.ensures.opened.read.kept

pub wire_ports-requires-clause-outside : goal.wire_ports-requires-clause-outside
wire_ports-requires-clause-outside c = c.in_ok-parts.ensures.opened.read.idle.outside

pub wire_ports-requires-clause-fine : goal.wire_ports-requires-clause-fine
wire_ports-requires-clause-fine c =
    ports_wirable c.args.text.now c.requires.text c.args.reading.now c.args.stack.now.items c.args.at c.args.item c.args.instance c.args.known.now c.requires.reading c.requires.known (pairs c.in_ok-overrides.overrides) c.as_slice.result.now c.in_ok-overrides.ensures.alike c.as_slice.ensures c.in_ok-left.left c.in_ok-left.ensures.deeper c.open_scope.new.reading c.in_ok-parts.parts.items c.in_ok-parts.ensures.opened c.in_ok-connections.connections.items c.deref-3.result.now c.deref-3.ensures.value c.in_ok-connections.ensures.said c.in_ok-connections.ensures.fine (view_env c.of-inside.result) c.args.reading.now.counts.start.scope (sym c.requires.reading.read.frames) (c.of-inside.ensures.is ∙ ap (λ (fs : List Frame). env_at (envs fs) (Some c.args.reading.now.counts.start.scope)) c.deref-2.ensures.value) (view_env c.of-here.result) (c.of-here.ensures.is ∙ ap (λ (fs : List Frame). env_at (envs fs) (Some c.args.at.frame)) c.deref.ensures.value) c.scope_law.ensures.names c.number_law.ensures.names c.instance_law.ensures.ports

pub returns-clause-step : goal.returns-clause-step
returns-clause-step c =
    let mid : Reading = c.open_scope.new.reading in
    let new : Reading = record mid { builder = c.wire_ports.new.builder } in
    let idle = c.in_ok-parts.ensures.opened.read.idle in
    all_done c.args.text.now c.requires.text c.args.reading.now c.args.stack.now.items c.args.at c.args.item c.args.instance c.args.known.now c.requires.reading c.requires.known (pairs c.in_ok-overrides.overrides) c.as_slice.result.now c.in_ok-overrides.ensures.alike c.as_slice.ensures c.in_ok-left.left c.in_ok-left.ensures.deeper c.open_scope.new.reading c.in_ok-parts.parts.items c.in_ok-parts.ensures.opened c.in_ok-connections.connections.items c.deref-3.result.now c.deref-3.ensures.value c.in_ok-connections.ensures.said c.in_ok-connections.ensures.fine (view_env c.of-inside.result) c.args.reading.now.counts.start.scope (sym c.requires.reading.read.frames) (c.of-inside.ensures.is ∙ ap (λ (fs : List Frame). env_at (envs fs) (Some c.args.reading.now.counts.start.scope)) c.deref-2.ensures.value) (view_env c.of-here.result) (c.of-here.ensures.is ∙ ap (λ (fs : List Frame). env_at (envs fs) (Some c.args.at.frame)) c.deref.ensures.value) new c.push_parts.new.stack.items refl refl refl (subst IsIdle (sym c.in_ok-wire_ports.ensures) (record { outside = idle.outside; expressions = idle.expressions; statements = idle.statements })) (ap (λ (s : Draft). s.design) c.in_ok-wire_ports.ensures)
    (c.in_ok-push_parts.ensures.pieces (source_of c.args.text.now) mid.frames.items)
    (c.in_ok-push_parts.ensures.parts (source_of c.args.text.now) mid.frames.items (pending_still c.args.text.now c.requires.text c.args.reading.now c.args.stack.now.items c.args.at c.args.item c.args.instance c.args.known.now c.requires.reading c.requires.known (pairs c.in_ok-overrides.overrides) c.as_slice.result.now c.in_ok-overrides.ensures.alike c.as_slice.ensures c.in_ok-left.left c.in_ok-left.ensures.deeper c.open_scope.new.reading c.in_ok-parts.parts.items c.in_ok-parts.ensures.opened) (frame_new c.args.text.now c.requires.text c.args.reading.now c.args.stack.now.items c.args.at c.args.item c.args.instance c.args.known.now c.requires.reading c.requires.known (pairs c.in_ok-overrides.overrides) c.as_slice.result.now c.in_ok-overrides.ensures.alike c.as_slice.ensures c.in_ok-left.left c.in_ok-left.ensures.deeper c.open_scope.new.reading c.in_ok-parts.parts.items c.in_ok-parts.ensures.opened c.args.reading.now.counts.start.scope (sym c.requires.reading.read.frames)) (depth_within_limit c.args.text.now c.requires.text c.args.reading.now c.args.stack.now.items c.args.at c.args.item c.args.instance c.args.known.now c.requires.reading c.requires.known (pairs c.in_ok-overrides.overrides) c.as_slice.result.now c.in_ok-overrides.ensures.alike c.as_slice.ensures c.in_ok-left.left c.in_ok-left.ensures.deeper c.open_scope.new.reading c.in_ok-parts.parts.items c.in_ok-parts.ensures.opened) (parts_still c.args.text.now c.requires.text c.args.reading.now c.args.stack.now.items c.args.at c.args.item c.args.instance c.args.known.now c.requires.reading c.requires.known (pairs c.in_ok-overrides.overrides) c.as_slice.result.now c.in_ok-overrides.ensures.alike c.as_slice.ensures c.in_ok-left.left c.in_ok-left.ensures.deeper c.open_scope.new.reading c.in_ok-parts.parts.items c.in_ok-parts.ensures.opened c.args.reading.now.counts.start.scope (sym c.requires.reading.read.frames)))
