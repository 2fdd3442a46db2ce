use Rattle.std.proofs.Common.{◌≡◌, ℕ, suc, ◌<◌, List, [], ◌∷◌, ◌++◌, length, map, Some, refl, sym, ap, subst, arith}
use Rattle.std.specs.Prelude.{Err}
use Rattle.std.proofs.lemmas.Result.{err_from_is_err_and}
use Rattle.vs_const.specs.declared.faults.Fault.{Fault}
use Rattle.vs_elaborated.specs.Pieces.{Task}
use Rattle.vs_elaborated.specs.Sound.{IsSoundTask}
use Rattle.vs_scope.specs.Frames.{env_at, envs}
use Rattle.vs_scope.specs.Overrides.{EachOverride}
use Rattle.vs_elab.specs.declared.error.ElabError.TheVariants.{Memory}
use Rattle.vs_elab.specs.declared.pending.Part.TheVariants as parts
use Rattle.vs_elab.specs.Fine.{AreFineParts}
use Rattle.vs_elab.specs.Pending.{parts_pieces, scope_around, stack_pieces}
use Rattle.vs_elab.specs.Reading.{FailsBy, IsPending, design_so_far, outcome, pending_at, source_of, totals_so_far}
use Rattle.vs_elab.specs.Stacks.{pending}
use Rattle.vs_elab.proofs.BlockSteps.{below_one, block_faulty, block_numbered, block_opened, block_sound, block_task}
use Rattle.vs_elab.proofs.OpenedSteps.{each_front, each_last, opened_before, opened_fine, opened_within, tells, told, told_exit}
use Rattle.vs_elab.proofs.steps.read_block.Goals as goal
use Rattle.vs_const.specs.declared.rules.Rule.TheVariants.{InstanceDepth}

pub returns-in_err-left-clause-step : goal.returns-in_err-left-clause-step
returns-in_err-left-clause-step c = let p = err_from_is_err_and c.from_residual.result c.from_residual.ensures.1 in rw p.1 tt

pub returns-in_err-left-clause-broken : goal.returns-in_err-left-clause-broken
returns-in_err-left-clause-broken c =
    let old = c.args.reading.now in
    let fault : Fault = record { rule = InstanceDepth; place = 0 } in
    told_exit (λ (f : Fault). outcome c.args.text.now old (c.args.stack.now.items ++ pending_at c.args.at (parts.Block c.args.name c.args.items c.args.turn) ∷ []) ≡ Err f) c.from_residual.result c.in_err-left.field-0.0 c.from_residual.ensures.1
    (told (λ (f : Fault). outcome c.args.text.now old (c.args.stack.now.items ++ pending_at c.args.at (parts.Block c.args.name c.args.items c.args.turn) ∷ []) ≡ Err f) c.in_err-left.field-0.0 fault c.in_err-left.ensures.fault
    (block_faulty c.args.text.now (block_task old.frames.items c.args.at c.args.name.items c.args.items c.args.turn) old 0 c.args.at c.args.name c.args.items c.args.turn c.args.stack.now.items fault refl c.in_err-left.ensures.none refl))

pub overflow_cast-scope : goal.overflow_cast-scope
overflow_cast-scope c =
    let within = (each_last (IsPending (source_of c.args.text.now) c.args.reading.now.frames.items) c.args.stack.now.items (pending_at c.args.at (parts.Block c.args.name c.args.items c.args.turn)) c.requires.reading.pending).within in
    let many = c.requires.reading.read.frames in
    omega (arith, within, many)

pub open_scope-requires-clause-text : goal.open_scope-requires-clause-text
open_scope-requires-clause-text c = c.requires.text

pub open_scope-requires-clause-read : goal.open_scope-requires-clause-read
open_scope-requires-clause-read c = c.requires.reading.read

pub open_scope-requires-clause-sound : goal.open_scope-requires-clause-sound
open_scope-requires-clause-sound c =
    let old = c.args.reading.now in
    let source = source_of c.args.text.now in
    let last = each_last (IsPending source old.frames.items) c.args.stack.now.items (pending_at c.args.at (parts.Block c.args.name c.args.items c.args.turn)) c.requires.reading.pending in
    subst (λ (k : Task). IsSoundTask (design_so_far old) k) (ap (λ (n : List ℕ). block_task old.frames.items c.args.at n c.args.items c.args.turn) (sym c.deref.ensures.value))
    (block_sound source (design_so_far old) old.frames.items c.args.at c.args.name c.args.items c.args.turn last c.requires.reading.read.seen)

pub open_scope-requires-clause-numbered : goal.open_scope-requires-clause-numbered
open_scope-requires-clause-numbered c =
    let old = c.args.reading.now in
    let last = each_last (IsPending (source_of c.args.text.now) old.frames.items) c.args.stack.now.items (pending_at c.args.at (parts.Block c.args.name c.args.items c.args.turn)) c.requires.reading.pending in
    block_numbered (design_so_far old) old.frames.items c.args.at c.deref.result.now c.args.items c.args.turn last.within c.requires.reading.read.numbered

pub open_scope-requires-clause-overrides : goal.open_scope-requires-clause-overrides
open_scope-requires-clause-overrides c = record { each = subst (EachOverride (length c.args.reading.now.frames.items)) (sym c.new-none.ensures) tt }

pub open_scope-requires-clause-shaped : goal.open_scope-requires-clause-shaped
open_scope-requires-clause-shaped c =
    (each_last (IsPending (source_of c.args.text.now) c.args.reading.now.frames.items) c.args.stack.now.items (pending_at c.args.at (parts.Block c.args.name c.args.items c.args.turn)) c.requires.reading.pending).fine.shaped

pub open_scope-requires-clause-header : goal.open_scope-requires-clause-header
open_scope-requires-clause-header c = omega arith

pub open_scope-requires-clause-shallow : goal.open_scope-requires-clause-shallow
open_scope-requires-clause-shallow c =
    (each_last (IsPending (source_of c.args.text.now) c.args.reading.now.frames.items) c.args.stack.now.items (pending_at c.args.at (parts.Block c.args.name c.args.items c.args.turn)) c.requires.reading.pending).fine.shallow

pub open_scope-requires-clause-top : goal.open_scope-requires-clause-top
open_scope-requires-clause-top c = c.requires.reading.later

pub open_scope-requires-clause-within : goal.open_scope-requires-clause-within
open_scope-requires-clause-within c =
    below_one (length c.args.reading.now.frames.items) c.args.at.frame
    (each_last (IsPending (source_of c.args.text.now) c.args.reading.now.frames.items) c.args.stack.now.items (pending_at c.args.at (parts.Block c.args.name c.args.items c.args.turn)) c.requires.reading.pending).within

pub returns-in_err-parts-clause-step : goal.returns-in_err-parts-clause-step
returns-in_err-parts-clause-step c = let p = err_from_is_err_and c.from_residual-in_err-parts.result c.from_residual-in_err-parts.ensures.1 in rw p.1 tt

pub returns-in_err-parts-clause-broken : goal.returns-in_err-parts-clause-broken
returns-in_err-parts-clause-broken c =
    let old = c.args.reading.now in
    let source = source_of c.args.text.now in
    let k = block_task old.frames.items c.args.at c.deref.result.now c.args.items c.args.turn in
    let same : block_task old.frames.items c.args.at c.args.name.items c.args.items c.args.turn ≡ k = ap (λ (n : List ℕ). block_task old.frames.items c.args.at n c.args.items c.args.turn) (sym c.deref.ensures.value) in
    let P = λ (f : Fault). outcome c.args.text.now old (c.args.stack.now.items ++ pending_at c.args.at (parts.Block c.args.name c.args.items c.args.turn) ∷ []) ≡ Err f in
    told_exit P c.from_residual-in_err-parts.result c.in_err-parts.field-0.0 c.from_residual-in_err-parts.ensures.1
    (tells c.in_err-parts.field-0.0 (FailsBy source k (totals_so_far old)) P
    (λ f h. block_faulty c.args.text.now k old (suc c.in_ok-left.left) c.args.at c.args.name c.args.items c.args.turn c.args.stack.now.items f same c.in_ok-left.ensures.deeper (h c.in_ok-left.left))
    c.in_err-parts.ensures.broken)

pub returns-in_err-push_parts-clause-step : goal.returns-in_err-push_parts-clause-step
returns-in_err-push_parts-clause-step c = let p = err_from_is_err_and c.from_residual-in_err-push_parts.result c.from_residual-in_err-push_parts.ensures.1 in rw p.1 tt

pub returns-in_err-push_parts-clause-broken : goal.returns-in_err-push_parts-clause-broken
returns-in_err-push_parts-clause-broken c =
    told_exit (λ (f : Fault). outcome c.args.text.now c.args.reading.now (c.args.stack.now.items ++ pending_at c.args.at (parts.Block c.args.name c.args.items c.args.turn) ∷ []) ≡ Err f) c.from_residual-in_err-push_parts.result Memory
    c.from_residual-in_err-push_parts.ensures.1 tt

pub returns-clause-step : goal.returns-clause-step
returns-clause-step c =
    let old = c.args.reading.now in
    let new = c.open_scope.new.reading in
    let source = source_of c.args.text.now in
    let stack = c.args.stack.now.items in
    let k = block_task old.frames.items c.args.at c.deref.result.now c.args.items c.args.turn in
    let same : block_task old.frames.items c.args.at c.args.name.items c.args.items c.args.turn ≡ k = ap (λ (n : List ℕ). block_task old.frames.items c.args.at n c.args.items c.args.turn) (sym c.deref.ensures.value) in
    let number : old.counts.start.scope ≡ length old.frames.items = sym c.requires.reading.read.frames in
    let all = c.requires.reading.pending in
    let p = pending_at c.args.at (parts.Block c.args.name c.args.items c.args.turn) in
    let ps = c.in_ok-parts.parts.items in
    let o = c.in_ok-parts.ensures.opened in
    let few = (each_last (IsPending source old.frames.items) stack p all).depth in
    block_opened c.args.text.now k old new ps c.in_ok-left.left c.args.at c.args.name c.args.items c.args.turn stack c.push_parts.new.stack.items c.requires.reading same c.in_ok-left.ensures.deeper o
    (subst
    (λ (n : ℕ).
    stack_pieces source new.frames.items c.push_parts.new.stack.items
    ≡ map (pending c.in_ok-left.left) (parts_pieces source (scope_around new.frames.items n c.args.at.depth) ps) ++ stack_pieces source new.frames.items stack)
    number (c.in_ok-push_parts.ensures.pieces source new.frames.items))
    (c.in_ok-push_parts.ensures.parts source new.frames.items (opened_before source k old new ps stack o (each_front (IsPending source old.frames.items) stack (p ∷ []) all))
    (subst (λ (n : ℕ). n < length new.frames.items) (sym number) (opened_within source k old new ps o)) few
    (subst (λ (n : ℕ). AreFineParts source (env_at (envs new.frames.items) (Some n)) ps) (sym number) (opened_fine source k old new ps o)))
