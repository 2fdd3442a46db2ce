use Rattle.std.proofs.Common.{◌≡◌, ◌+◌, ◌<◌, ℕ, List, Some, length, map, refl, sym, ◌∙◌, subst, arith}
use Rattle.vs_design.specs.Designs.{bit_count}
use Rattle.vs_ast.specs.Views as view
use Rattle.vs_const.specs.Faults.{least}
use Rattle.vs_const.specs.declared.faults.Fault.{Fault}
use Rattle.vs_elaborated.specs.Limits.{the_limits}
use Rattle.vs_elaborated.specs.NamedBlocks.{named_blocks, named_scopes}
use Rattle.vs_elaborated.specs.Scoped.{AreBefore}
use Rattle.vs_elaborated.specs.Elaborated.{scoped_faults}
use Rattle.vs_scope.specs.declared.frames.Frame.{Frame}
use Rattle.vs_scope.specs.Frames.{KeepShapes, env_at, envs}
use Rattle.vs_scope.specs.Locals.{inside_declared, inside_names}
use Rattle.vs_scope.specs.NamedBlocks.{named}
use Rattle.vs_elab.specs.Functions.{signals_of}
use Rattle.vs_elab.specs.Opening.{Follow}
use Rattle.vs_elab.specs.Reading.{Tells, design_so_far, totals_so_far}
use Rattle.vs_elab.specs.Scoped.{block_at, scoped_at, totals_at}
use Rattle.vs_elab.proofs.OpenedSteps.{told_exit}
use Rattle.vs_elab.proofs.OwnSteps.{room_in}
use Rattle.vs_elab.proofs.ScopedReads.{built, checked, follow, runnable}
use Rattle.vs_elab.proofs.scoped.read_blocks.Goals as goal

pub check_blocks-requires-clause-number : goal.check_blocks-requires-clause-number
check_blocks-requires-clause-number c = subst (λ (fs : List Frame). c.args.frame < length fs) (sym c.as_slice.ensures.value) c.requires.within

pub check_blocks-requires-clause-kept : goal.check_blocks-requires-clause-kept
check_blocks-requires-clause-kept c = subst KeepShapes (sym c.as_slice.ensures.value) c.requires.read.kept

pub check_blocks-requires-clause-statement : goal.check_blocks-requires-clause-statement
check_blocks-requires-clause-statement c = c.requires.fine.shaped

pub overflow_cast-frame : goal.overflow_cast-frame
overflow_cast-frame c = omega (arith, c.requires.within, c.requires.read.frames)

pub build_blocks-requires-clause-first : goal.build_blocks-requires-clause-first
build_blocks-requires-clause-first c = sym c.requires.read.scopes

pub build_blocks-requires-clause-around : goal.build_blocks-requires-clause-around
build_blocks-requires-clause-around c = omega (arith, c.requires.within, c.requires.read.frames)

pub build_blocks-requires-clause-before : goal.build_blocks-requires-clause-before
build_blocks-requires-clause-before c = subst (AreBefore 0) (sym c.requires.blocks) (c.named_law.ensures.before (view.always_block c.args.block.now).statement)

pub build_blocks-requires-clause-follow : goal.build_blocks-requires-clause-follow
build_blocks-requires-clause-follow c =
    let old = c.args.reading.now in
    let b = view.always_block c.args.block.now in
    let said = c.in_ok-said.said in
    let k = checked old c.args.frame b said c.args.blocks.now c.check_blocks.new.loops c.as_slice.result.now c.as_slice.ensures.value c.requires.blocks c.in_ok-said.ensures.names c.in_ok-said.ensures.said c.in_ok-said.ensures.fair c.in_ok-said.ensures.loops in
    let d = design_so_far old in
    subst (λ (n : ℕ). Follow (old.counts.start.scope + n) (length d.signals) (bit_count d) (signals_of said.inside.locals.signals.items)) (sym k.count)
    (subst (Follow (old.counts.start.scope + length (named_blocks b.statement)) (length d.signals) (bit_count d)) (sym k.variables_are)
    (follow old c.args.frame b c.requires.within c.requires.read c.requires.fine k.fair c.named_law.ensures.counted c.named_law.ensures.few))

pub build_blocks-requires-clause-room : goal.build_blocks-requires-clause-room
build_blocks-requires-clause-room c = room_in (design_so_far c.args.reading.now) c.requires.room

pub build_blocks-requires-clause-outside : goal.build_blocks-requires-clause-outside
build_blocks-requires-clause-outside c = c.requires.read.idle.outside

pub build_blocks-requires-clause-fine : goal.build_blocks-requires-clause-fine
build_blocks-requires-clause-fine c =
    let old = c.args.reading.now in
    let b = view.always_block c.args.block.now in
    let said = c.in_ok-said.said in
    let k = checked old c.args.frame b said c.args.blocks.now c.check_blocks.new.loops c.as_slice.result.now c.as_slice.ensures.value c.requires.blocks c.in_ok-said.ensures.names c.in_ok-said.ensures.said c.in_ok-said.ensures.fair c.in_ok-said.ensures.loops in
    runnable old c.args.frame b c.requires.within c.requires.read c.requires.fine k.fair c.named_law.ensures.counted c.named_law.ensures.sound c.scope_law.ensures.names c.number_law.ensures.names c.fine_law.ensures.scoped
    (named_scopes c.args.frame old.counts.start.scope (map named c.args.blocks.now)) (signals_of said.inside.locals.signals.items) (inside_declared said.inside) (inside_names said.inside) k.scopes_are k.variables_are k.declared k.names

pub returns-clause-fair : goal.returns-clause-fair
returns-clause-fair c =
    let old = c.args.reading.now in
    let b = view.always_block c.args.block.now in
    let said = c.in_ok-said.said in
    let k = checked old c.args.frame b said c.args.blocks.now c.check_blocks.new.loops c.as_slice.result.now c.as_slice.ensures.value c.requires.blocks c.in_ok-said.ensures.names c.in_ok-said.ensures.said c.in_ok-said.ensures.fair c.in_ok-said.ensures.loops in
    k.fair

pub returns-clause-built : goal.returns-clause-built
returns-clause-built c =
    let old = c.args.reading.now in
    let b = view.always_block c.args.block.now in
    let said = c.in_ok-said.said in
    let k = checked old c.args.frame b said c.args.blocks.now c.check_blocks.new.loops c.as_slice.result.now c.as_slice.ensures.value c.requires.blocks c.in_ok-said.ensures.names c.in_ok-said.ensures.said c.in_ok-said.ensures.fair c.in_ok-said.ensures.loops in
    built old c.args.frame b c.requires.within c.requires.read c.requires.fine k.fair c.named_law.ensures.counted c.named_law.ensures.sound c.scope_law.ensures.names c.number_law.ensures.names c.fine_law.ensures.scoped
    (named_scopes c.args.frame old.counts.start.scope (map named c.args.blocks.now)) (signals_of said.inside.locals.signals.items) (inside_declared said.inside) (inside_names said.inside) _ k.scopes_are k.variables_are k.declared k.names c.in_ok-build_blocks.ensures

pub returns-clause-next : goal.returns-clause-next
returns-clause-next c =
    let old = c.args.reading.now in
    let b = view.always_block c.args.block.now in
    let said = c.in_ok-said.said in
    let k = checked old c.args.frame b said c.args.blocks.now c.check_blocks.new.loops c.as_slice.result.now c.as_slice.ensures.value c.requires.blocks c.in_ok-said.ensures.names c.in_ok-said.ensures.said c.in_ok-said.ensures.fair c.in_ok-said.ensures.loops in
    k.counts old.counts refl

pub returns-clause-top : goal.returns-clause-top
returns-clause-top c =
    let old = c.args.reading.now in
    let b = view.always_block c.args.block.now in
    let said = c.in_ok-said.said in
    let k = checked old c.args.frame b said c.args.blocks.now c.check_blocks.new.loops c.as_slice.result.now c.as_slice.ensures.value c.requires.blocks c.in_ok-said.ensures.names c.in_ok-said.ensures.said c.in_ok-said.ensures.fair c.in_ok-said.ensures.loops in
    k.top

pub returns-in_err-said-clause-broken : goal.returns-in_err-said-clause-broken
returns-in_err-said-clause-broken c =
    let old = c.args.reading.now in
    let b = view.always_block c.args.block.now in
    told_exit (λ (f : Fault). least (scoped_faults the_limits (scoped_at old.frames.items c.args.frame c.args.block.now) (totals_so_far old)) ≡ Some f) c.from_residual.result c.in_err-said.field-0.0 c.from_residual.ensures.1
    (subst (λ (fs : List Frame). Tells c.in_err-said.field-0.0 (λ (f : Fault). least (scoped_faults the_limits (block_at c.args.frame (env_at (envs fs) (Some c.args.frame)) b) (totals_at old.counts.start old.loops)) ≡ Some f)) c.as_slice.ensures.value c.in_err-said.ensures.broken)
