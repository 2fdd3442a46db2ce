use Rattle.std.proofs.Common.{◌≡◌, ◌<◌, false, List, Some, length, refl, sym, ap, ◌∙◌, subst}
use Rattle.std.proofs.lemmas.Result.{on_ok_weaker}
use Rattle.vs_ast.specs.Views as view
use Rattle.vs_build.specs.Executable.{value_assignment}
use Rattle.vs_build.specs.Growth.{draft}
use Rattle.vs_build.specs.Writable.{wire_assign}
use Rattle.vs_scope.specs.declared.frames.Frame.{Frame}
use Rattle.vs_scope.specs.Frames.{KeepShapes, env_at, envs, view_env}
use Rattle.vs_elab.specs.OwnParts.{IsFineOwn}
use Rattle.vs_elab.specs.Reading.{design_so_far}
use Rattle.vs_elab.proofs.OwnSteps.{always_built, assign_built, assign_fine, begun_fine, block_fine, initial_built, own_only, room_behind, room_in, value_built, wire_built}
use Rattle.vs_elab.proofs.steps.read_own.Goals as goal

pub of-here-requires-clause-number : goal.of-here-requires-clause-number
of-here-requires-clause-number c = subst (λ (fs : List Frame). c.args.frame < length fs) (sym c.deref.ensures.value) c.requires.within

pub of-here-requires-clause-kept : goal.of-here-requires-clause-kept
of-here-requires-clause-kept c = subst KeepShapes (sym c.deref.ensures.value) c.requires.kept

pub wire-requires-clause-room : goal.wire-requires-clause-room
wire-requires-clause-room c = room_in (design_so_far c.args.reading.now) c.requires.room

pub wire-requires-clause-outside : goal.wire-requires-clause-outside
wire-requires-clause-outside c = c.requires.idle.outside

pub wire-requires-clause-fine : goal.wire-requires-clause-fine
wire-requires-clause-fine c =
    let d = design_so_far c.args.reading.now in
    let env = env_at (envs c.args.reading.now.frames.items) (Some c.args.frame) in
    let here : view_env c.of-here.result ≡ env = c.of-here.ensures.is ∙ ap (λ (fs : List Frame). env_at (envs fs) (Some c.args.frame)) c.deref.ensures.value in
    assign_fine (draft c.args.reading.now.builder) (view_env c.of-here.result) env (wire_assign (view.name c.in-Wire.name.now) (view.expr c.in-Wire.value.now)) c.requires.idle.outside here (subst (IsFineOwn env) c.in-Wire.is c.requires.fine) (c.scope_law.ensures.names d false env c.requires.seen) (c.number_law.ensures.names d env c.requires.numbered)

pub assign-requires-clause-room : goal.assign-requires-clause-room
assign-requires-clause-room c = room_in (design_so_far c.args.reading.now) c.requires.room

pub assign-requires-clause-outside : goal.assign-requires-clause-outside
assign-requires-clause-outside c = c.requires.idle.outside

pub assign-requires-clause-fine : goal.assign-requires-clause-fine
assign-requires-clause-fine c =
    let d = design_so_far c.args.reading.now in
    let env = env_at (envs c.args.reading.now.frames.items) (Some c.args.frame) in
    let here : view_env c.of-here.result ≡ env = c.of-here.ensures.is ∙ ap (λ (fs : List Frame). env_at (envs fs) (Some c.args.frame)) c.deref.ensures.value in
    assign_fine (draft c.args.reading.now.builder) (view_env c.of-here.result) env (view.assign c.in-Assigned.a.now) c.requires.idle.outside here (subst (IsFineOwn env) c.in-Assigned.is c.requires.fine) (c.scope_law.ensures.names d false env c.requires.seen) (c.number_law.ensures.names d env c.requires.numbered)

pub always-requires-clause-room : goal.always-requires-clause-room
always-requires-clause-room c = room_in (design_so_far c.args.reading.now) c.requires.room

pub always-requires-clause-outside : goal.always-requires-clause-outside
always-requires-clause-outside c = c.requires.idle.outside

pub always-requires-clause-fine : goal.always-requires-clause-fine
always-requires-clause-fine c =
    let d = design_so_far c.args.reading.now in
    let env = env_at (envs c.args.reading.now.frames.items) (Some c.args.frame) in
    let here : view_env c.of-here.result ≡ env = c.of-here.ensures.is ∙ ap (λ (fs : List Frame). env_at (envs fs) (Some c.args.frame)) c.deref.ensures.value in
    block_fine (draft c.args.reading.now.builder) (view_env c.of-here.result) env (view.always_block c.in-Always.block.now) c.requires.idle.outside here (subst (IsFineOwn env) c.in-Always.is c.requires.fine) (c.scope_law.ensures.names d false env c.requires.seen) (c.number_law.ensures.names d env c.requires.numbered)

pub value-requires-clause-room : goal.value-requires-clause-room
value-requires-clause-room c = room_behind (design_so_far c.args.reading.now) c.requires.room

pub value-requires-clause-outside : goal.value-requires-clause-outside
value-requires-clause-outside c = c.requires.idle.outside

pub value-requires-clause-fine : goal.value-requires-clause-fine
value-requires-clause-fine c =
    let d = design_so_far c.args.reading.now in
    let env = env_at (envs c.args.reading.now.frames.items) (Some c.args.frame) in
    let here : view_env c.of-here.result ≡ env = c.of-here.ensures.is ∙ ap (λ (fs : List Frame). env_at (envs fs) (Some c.args.frame)) c.deref.ensures.value in
    begun_fine (draft c.args.reading.now.builder) (view_env c.of-here.result) env (value_assignment (view.name c.in-Value.name.now) (view.expr c.in-Value.e.now)) c.requires.idle.outside here (subst (IsFineOwn env) c.in-Value.is c.requires.fine) (c.scope_law.ensures.names d false env c.requires.seen) (c.number_law.ensures.names d env c.requires.numbered)

pub initial-requires-clause-room : goal.initial-requires-clause-room
initial-requires-clause-room c = room_behind (design_so_far c.args.reading.now) c.requires.room

pub initial-requires-clause-outside : goal.initial-requires-clause-outside
initial-requires-clause-outside c = c.requires.idle.outside

pub initial-requires-clause-fine : goal.initial-requires-clause-fine
initial-requires-clause-fine c =
    let d = design_so_far c.args.reading.now in
    let env = env_at (envs c.args.reading.now.frames.items) (Some c.args.frame) in
    let here : view_env c.of-here.result ≡ env = c.of-here.ensures.is ∙ ap (λ (fs : List Frame). env_at (envs fs) (Some c.args.frame)) c.deref.ensures.value in
    begun_fine (draft c.args.reading.now.builder) (view_env c.of-here.result) env (view.initial_block c.in-Initial.block.now).statement c.requires.idle.outside here (subst (IsFineOwn env) c.in-Initial.is c.requires.fine) (c.scope_law.ensures.names d false env c.requires.seen) (c.number_law.ensures.names d env c.requires.numbered)

pub unreachable-requires : goal.unreachable-requires
unreachable-requires c = own_only (env_at (envs c.args.reading.now.frames.items) (Some c.args.frame)) c.args.part.now c.in_default.not-Wire c.in_default.not-Value c.in_default.not-Assigned c.in_default.not-Always c.in_default.not-Initial c.requires.fine

pub unreachable-unreachable : goal.unreachable-unreachable
unreachable-unreachable c = own_only (env_at (envs c.args.reading.now.frames.items) (Some c.args.frame)) c.args.part.now c.in_default.not-Wire c.in_default.not-Value c.in_default.not-Assigned c.in_default.not-Always c.in_default.not-Initial c.requires.fine

pub returns-in-Wire-clause-built : goal.returns-in-Wire-clause-built
returns-in-Wire-clause-built c =
    let env = env_at (envs c.args.reading.now.frames.items) (Some c.args.frame) in
    let here : view_env c.of-here.result ≡ env = c.of-here.ensures.is ∙ ap (λ (fs : List Frame). env_at (envs fs) (Some c.args.frame)) c.deref.ensures.value in
    on_ok_weaker c.wire.result (wire_built (draft c.args.reading.now.builder) (draft c.wire.new.builder) (view_env c.of-here.result) env c.args.part.now c.in-Wire.place c.in-Wire.name c.in-Wire.value here c.in-Wire.is) c.wire.ensures

pub returns-in-Assigned-clause-built : goal.returns-in-Assigned-clause-built
returns-in-Assigned-clause-built c =
    let env = env_at (envs c.args.reading.now.frames.items) (Some c.args.frame) in
    let here : view_env c.of-here.result ≡ env = c.of-here.ensures.is ∙ ap (λ (fs : List Frame). env_at (envs fs) (Some c.args.frame)) c.deref.ensures.value in
    on_ok_weaker c.assign.result (assign_built (draft c.args.reading.now.builder) (draft c.assign.new.builder) (view_env c.of-here.result) env c.args.part.now c.in-Assigned.place c.in-Assigned.a here c.in-Assigned.is) c.assign.ensures

pub returns-in-Always-clause-built : goal.returns-in-Always-clause-built
returns-in-Always-clause-built c =
    let env = env_at (envs c.args.reading.now.frames.items) (Some c.args.frame) in
    let here : view_env c.of-here.result ≡ env = c.of-here.ensures.is ∙ ap (λ (fs : List Frame). env_at (envs fs) (Some c.args.frame)) c.deref.ensures.value in
    on_ok_weaker c.always.result (always_built (draft c.args.reading.now.builder) (draft c.always.new.builder) (view_env c.of-here.result) env c.args.part.now c.in-Always.block here c.in-Always.is) c.always.ensures

pub returns-in-Wire-clause-frames : goal.returns-in-Wire-clause-frames
returns-in-Wire-clause-frames c = refl

pub returns-in-Wire-clause-counts : goal.returns-in-Wire-clause-counts
returns-in-Wire-clause-counts c = refl

pub returns-in-Wire-clause-loops : goal.returns-in-Wire-clause-loops
returns-in-Wire-clause-loops c = refl

pub returns-in-Assigned-clause-frames : goal.returns-in-Assigned-clause-frames
returns-in-Assigned-clause-frames c = refl

pub returns-in-Assigned-clause-counts : goal.returns-in-Assigned-clause-counts
returns-in-Assigned-clause-counts c = refl

pub returns-in-Assigned-clause-loops : goal.returns-in-Assigned-clause-loops
returns-in-Assigned-clause-loops c = refl

pub returns-in-Always-clause-frames : goal.returns-in-Always-clause-frames
returns-in-Always-clause-frames c = refl

pub returns-in-Always-clause-counts : goal.returns-in-Always-clause-counts
returns-in-Always-clause-counts c = refl

pub returns-in-Always-clause-loops : goal.returns-in-Always-clause-loops
returns-in-Always-clause-loops c = refl

pub returns-in-Value-clause-built : goal.returns-in-Value-clause-built
returns-in-Value-clause-built c =
    let env = env_at (envs c.args.reading.now.frames.items) (Some c.args.frame) in
    let here : view_env c.of-here.result ≡ env = c.of-here.ensures.is ∙ ap (λ (fs : List Frame). env_at (envs fs) (Some c.args.frame)) c.deref.ensures.value in
    on_ok_weaker c.value.result (value_built (draft c.args.reading.now.builder) (draft c.value.new.builder) (view_env c.of-here.result) env c.args.part.now c.in-Value.name c.in-Value.e here c.in-Value.is) c.value.ensures

pub returns-in-Initial-clause-built : goal.returns-in-Initial-clause-built
returns-in-Initial-clause-built c =
    let env = env_at (envs c.args.reading.now.frames.items) (Some c.args.frame) in
    let here : view_env c.of-here.result ≡ env = c.of-here.ensures.is ∙ ap (λ (fs : List Frame). env_at (envs fs) (Some c.args.frame)) c.deref.ensures.value in
    on_ok_weaker c.initial.result (initial_built (draft c.args.reading.now.builder) (draft c.initial.new.builder) (view_env c.of-here.result) env c.args.part.now c.in-Initial.block here c.in-Initial.is) c.initial.ensures

pub returns-in-Value-clause-frames : goal.returns-in-Value-clause-frames
returns-in-Value-clause-frames c = refl

pub returns-in-Value-clause-counts : goal.returns-in-Value-clause-counts
returns-in-Value-clause-counts c = refl

pub returns-in-Value-clause-loops : goal.returns-in-Value-clause-loops
returns-in-Value-clause-loops c = refl

pub returns-in-Initial-clause-frames : goal.returns-in-Initial-clause-frames
returns-in-Initial-clause-frames c = refl

pub returns-in-Initial-clause-counts : goal.returns-in-Initial-clause-counts
returns-in-Initial-clause-counts c = refl

pub returns-in-Initial-clause-loops : goal.returns-in-Initial-clause-loops
returns-in-Initial-clause-loops c = refl
