use Rattle.std.proofs.Common.{◌≡◌, [], ◌∷◌, ◌++◌, Some, OnOk, IfErr, sym, subst}
use Rattle.std.specs.Prelude.{Err}
use Rattle.std.proofs.lemmas.Result.{err_from_is_err_and, on_ok_weaker}
use Rattle.vs_const.specs.declared.faults.Fault.{Fault}
use Rattle.vs_ast.specs.Views as view
use Rattle.vs_scope.specs.Frames.{env_at, envs}
use Rattle.vs_elab.specs.declared.error.ElabError.{ElabError}
use Rattle.vs_elab.specs.declared.error.ElabError.TheVariants.{Memory}
use Rattle.vs_elab.specs.declared.pending.Part.{Part}
use Rattle.vs_elab.specs.declared.steps.Standing.{Standing}
use Rattle.vs_elab.specs.Fine.{IsFineInstance, IsFinePart}
use Rattle.vs_elab.specs.Reading.{IsPending, IsReading, IsStep, Tells, outcome, pending_at, source_of}
use Rattle.vs_elab.specs.Scoped.{scoped_at}
use Rattle.vs_elab.proofs.KnownModules.{found_known, found_some}
use Rattle.vs_elab.proofs.OpenedSteps.{each_last, told_exit, told_on}
use Rattle.vs_elab.proofs.OwnSteps.{next_built, next_fine, next_numbered, next_room, next_seen, next_within}
use Rattle.vs_elab.proofs.ScopedSteps.{scoped_is_faulty, scoped_is_step, scoped_pieces, scoped_room}
use Rattle.vs_elab.proofs.steps.read_part.Goals as goal

pub read_block-requires-clause-text : goal.read_block-requires-clause-text
read_block-requires-clause-text c = c.requires.text

pub read_block-requires-clause-reading : goal.read_block-requires-clause-reading
read_block-requires-clause-reading c =
    let at : Standing = record { frame = c.args.next.frame; depth = c.args.next.depth; left = c.args.next.left } in
    subst (λ (x : Part). IsReading c.args.text.now c.args.reading.now (c.args.stack.now.items ++ pending_at at x ∷ [])) c.in-Block.is c.requires.reading

pub returns-in-Block-clause-step : goal.returns-in-Block-clause-step
returns-in-Block-clause-step c =
    let at : Standing = record { frame = c.args.next.frame; depth = c.args.next.depth; left = c.args.next.left } in
    subst (λ (x : Part). OnOk c.read_block.result (IsStep c.args.text.now c.args.reading.now (c.args.stack.now.items ++ pending_at at x ∷ []) c.read_block.new.reading c.read_block.new.stack.items)) (sym c.in-Block.is) c.read_block.ensures.step

pub returns-in-Block-clause-broken : goal.returns-in-Block-clause-broken
returns-in-Block-clause-broken c =
    let at : Standing = record { frame = c.args.next.frame; depth = c.args.next.depth; left = c.args.next.left } in
    subst (λ (x : Part). IfErr c.read_block.result (λ (e : ElabError). Tells e (λ (f : Fault). outcome c.args.text.now c.args.reading.now (c.args.stack.now.items ++ pending_at at x ∷ []) ≡ Err f))) (sym c.in-Block.is) c.read_block.ensures.broken

pub unreachable-requires : goal.unreachable-requires
unreachable-requires c =
    let source = source_of c.args.text.now in
    let env = env_at (envs c.args.reading.now.frames.items) (Some c.args.next.frame) in
    let last = each_last (IsPending source c.args.reading.now.frames.items) c.args.stack.now.items c.args.next c.requires.reading.pending in
    let fine : IsFineInstance source env (view.instances c.in-Instance.item.now) (view.instance c.in-Instance.instance.now) = subst (IsFinePart source env) c.in-Instance.is last.fine in
    found_some source c.args.text.now.modules c.as_slice.result.now c.in-Instance.item.now.of.text c.get.result fine.of c.requires.text.modules c.get.ensures.value c.as_slice.ensures fine.found c.in-None.is

pub unreachable-unreachable : goal.unreachable-unreachable
unreachable-unreachable c =
    let source = source_of c.args.text.now in
    let env = env_at (envs c.args.reading.now.frames.items) (Some c.args.next.frame) in
    let last = each_last (IsPending source c.args.reading.now.frames.items) c.args.stack.now.items c.args.next c.requires.reading.pending in
    let fine : IsFineInstance source env (view.instances c.in-Instance.item.now) (view.instance c.in-Instance.instance.now) = subst (IsFinePart source env) c.in-Instance.is last.fine in
    found_some source c.args.text.now.modules c.as_slice.result.now c.in-Instance.item.now.of.text c.get.result fine.of c.requires.text.modules c.get.ensures.value c.as_slice.ensures fine.found c.in-None.is

pub read_instance-requires-clause-text : goal.read_instance-requires-clause-text
read_instance-requires-clause-text c = c.requires.text

pub read_instance-requires-clause-reading : goal.read_instance-requires-clause-reading
read_instance-requires-clause-reading c =
    let at : Standing = record { frame = c.args.next.frame; depth = c.args.next.depth; left = c.args.next.left } in
    subst (λ (x : Part). IsReading c.args.text.now c.args.reading.now (c.args.stack.now.items ++ pending_at at x ∷ [])) c.in-Instance.is c.requires.reading

pub read_instance-requires-clause-known : goal.read_instance-requires-clause-known
read_instance-requires-clause-known c =
    found_known (source_of c.args.text.now) c.args.text.now.modules c.as_slice.result.now c.in-Instance.item.now.of.text c.get.result c.in-Some.known c.requires.text.modules c.get.ensures.value c.as_slice.ensures c.in-Some.is

pub returns-in-Some-clause-step : goal.returns-in-Some-clause-step
returns-in-Some-clause-step c =
    let at : Standing = record { frame = c.args.next.frame; depth = c.args.next.depth; left = c.args.next.left } in
    subst (λ (x : Part). OnOk c.read_instance.result (IsStep c.args.text.now c.args.reading.now (c.args.stack.now.items ++ pending_at at x ∷ []) c.read_instance.new.reading c.read_instance.new.stack.items)) (sym c.in-Instance.is) c.read_instance.ensures.step

pub returns-in-Some-clause-broken : goal.returns-in-Some-clause-broken
returns-in-Some-clause-broken c =
    let at : Standing = record { frame = c.args.next.frame; depth = c.args.next.depth; left = c.args.next.left } in
    subst (λ (x : Part). IfErr c.read_instance.result (λ (e : ElabError). Tells e (λ (f : Fault). outcome c.args.text.now c.args.reading.now (c.args.stack.now.items ++ pending_at at x ∷ []) ≡ Err f))) (sym c.in-Instance.is) c.read_instance.ensures.broken

pub read_scoped-requires-clause-within : goal.read_scoped-requires-clause-within
read_scoped-requires-clause-within c = (each_last (IsPending (source_of c.args.text.now) c.args.reading.now.frames.items) c.args.stack.now.items c.args.next c.requires.reading.pending).within

pub read_scoped-requires-clause-read : goal.read_scoped-requires-clause-read
read_scoped-requires-clause-read c = c.requires.reading.read

pub read_scoped-requires-clause-room : goal.read_scoped-requires-clause-room
read_scoped-requires-clause-room c =
    let old = c.args.reading.now in
    let b = scoped_at old.frames.items c.args.next.frame c.in-Scoped.block.now in
    scoped_room c.args.text.now old b c.args.next c.args.stack.now.items c.requires.reading (scoped_pieces c.args.text.now old c.args.next c.in-Scoped.block c.in-Scoped.is)

pub read_scoped-requires-clause-fine : goal.read_scoped-requires-clause-fine
read_scoped-requires-clause-fine c =
    let source = source_of c.args.text.now in
    let env = env_at (envs c.args.reading.now.frames.items) (Some c.args.next.frame) in
    subst (IsFinePart source env) c.in-Scoped.is (each_last (IsPending source c.args.reading.now.frames.items) c.args.stack.now.items c.args.next c.requires.reading.pending).fine

pub returns-in-Scoped-clause-step : goal.returns-in-Scoped-clause-step
returns-in-Scoped-clause-step c =
    let old = c.args.reading.now in
    let b = scoped_at old.frames.items c.args.next.frame c.in-Scoped.block.now in
    on_ok_weaker c.read_scoped.result
    (λ r. scoped_is_step c.args.text.now old c.read_scoped.new.reading b c.args.next c.args.stack.now.items c.requires.reading (scoped_pieces c.args.text.now old c.args.next c.in-Scoped.block c.in-Scoped.is) r) c.read_scoped.ensures.read

pub returns-in-Scoped-clause-broken : goal.returns-in-Scoped-clause-broken
returns-in-Scoped-clause-broken c =
    let old = c.args.reading.now in
    let b = scoped_at old.frames.items c.args.next.frame c.in-Scoped.block.now in
    told_on c.read_scoped.result _ _
    (λ f h. scoped_is_faulty c.args.text.now old b c.args.next c.args.stack.now.items f (scoped_pieces c.args.text.now old c.args.next c.in-Scoped.block c.in-Scoped.is) h) c.read_scoped.ensures.broken

pub read_own-requires : goal.read_own-requires
read_own-requires c = record {
  within = next_within c.args.text.now c.args.reading.now c.args.next c.args.stack.now.items c.in_default.not-Block c.in_default.not-Instance c.in_default.not-Scoped c.requires.reading;
  kept = c.requires.reading.read.kept;
  idle = c.requires.reading.read.idle;
  numbered = next_numbered c.args.text.now c.args.reading.now c.args.next c.args.stack.now.items c.in_default.not-Block c.in_default.not-Instance c.in_default.not-Scoped c.requires.reading;
  seen = next_seen c.args.text.now c.args.reading.now c.args.next c.args.stack.now.items c.in_default.not-Block c.in_default.not-Instance c.in_default.not-Scoped c.requires.reading;
  room = next_room c.args.text.now c.args.reading.now c.args.next c.args.stack.now.items c.in_default.not-Block c.in_default.not-Instance c.in_default.not-Scoped c.requires.reading;
  fine = next_fine c.args.text.now c.args.reading.now c.args.next c.args.stack.now.items c.in_default.not-Block c.in_default.not-Instance c.in_default.not-Scoped c.requires.reading;
}

pub returns-in_err-read_own-in_default : goal.returns-in_err-read_own-in_default
returns-in_err-read_own-in_default c = record {
  step = (let p = err_from_is_err_and c.from_residual.result c.from_residual.ensures.1 in rw p.1 tt);
  broken =
      told_exit (λ (f : Fault). outcome c.args.text.now c.args.reading.now (c.args.stack.now.items ++ c.args.next ∷ []) ≡ Err f) c.from_residual.result Memory c.from_residual.ensures.1 tt;
}

pub returns-in_ok-read_own-in_default : goal.returns-in_ok-read_own-in_default
returns-in_ok-read_own-in_default c = record {
  step = next_built c.args.text.now c.args.reading.now c.args.next c.args.stack.now.items c.in_default.not-Block c.in_default.not-Instance c.in_default.not-Scoped c.requires.reading c.read_own.new.reading c.in_ok-read_own-in_default.ensures.built c.read_own.ensures.frames c.read_own.ensures.counts c.read_own.ensures.loops;
  broken = tt;
}
