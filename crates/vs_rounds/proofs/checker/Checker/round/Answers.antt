use Rattle.std.proofs.Common.{◌≡◌, ℕ, ◌<◌, ◌≤◌, ◌∙◌, true, List, sym, subst, ap, length, arith, suc}
use Rattle.std.specs.List.{count_by, list_all}
use Rattle.vs_program.specs.Program.{Program, spans}
use Rattle.vs_program.specs.Compiled.{IsProgramOf}
use Rattle.vs_engine.specs.Lanes.{Running, state}
use Rattle.vs_stim.specs.Known.{Known}
use Rattle.vs_feed.specs.Lanes.{lane_at}
use Rattle.vs_misses.specs.Missed.{found_now, found_behind}
use Rattle.vs_misses.specs.Watch.{AllFit, HasColumns, named, found_at}
use Rattle.vs_rounds.specs.Lanes.{Driving}
use Rattle.vs_rounds.specs.Checked.{Checking, IsCheckable, AreFoundBefore, AreFoundIn}
use Rattle.vs_rounds.proofs.Checks.{IsCompared, idle_compared, compared, checkable_round}
use Rattle.vs_rounds.proofs.checker.Checker.round.Goals as goal

pub note-requires-clause-inside : goal.note-requires-clause-inside
note-requires-clause-inside g c =
    let was = subst (λ (s : Checking _). IsCheckable s) (sym c.self.view_is) c.requires.ready in
    ap (λ (p : Program). list_all (spans p.bits) c.self.inside.misses.outputs) (ap (λ (e : Running _). e.program) c.engine.ensures ∙ c.fall-vectors.ensures.program) ∙ was.inside

pub note-requires-clause-columns : goal.note-requires-clause-columns
note-requires-clause-columns g c =
    let was = subst (λ (s : Checking _). IsCheckable s) (sym c.self.view_is) c.requires.ready in
    subst (λ (ks : List Known). HasColumns c.self.inside.misses (named ks)) (sym (c.drive.ensures ∙ c.fall-vectors.ensures.stimuli)) was.columns

pub note-requires-clause-fit : goal.note-requires-clause-fit
note-requires-clause-fit g c =
    let was = subst (λ (s : Checking _). IsCheckable s) (sym c.self.view_is) c.requires.ready in
    subst (λ (ks : List Known). AllFit c.self.inside.misses.outputs ks) (sym (c.drive.ensures ∙ c.fall-vectors.ensures.stimuli)) was.fit

pub returns-then-vectors-eq0-clause-ready : goal.returns-then-vectors-eq0-clause-ready
returns-then-vectors-eq0-clause-ready g c =
    let idle = (c.fall-vectors.ensures.idle c.if-vectors-eq0.true).0 in
    let same : record { stimuli = c.fall-vectors.new.self.stimuli; engine = c.fall-vectors.new.self.engine; misses = c.self.inside.misses } ≡ c.args.self.now =
    ap (λ (d : Driving _). record { stimuli = d.stimuli; engine = d.engine; misses = c.self.inside.misses }) idle ∙ c.self.view_is in
    subst (λ (s : Checking _). IsCheckable s) (sym same) c.requires.ready

pub returns-then-vectors-eq0-clause-done : goal.returns-then-vectors-eq0-clause-done
returns-then-vectors-eq0-clause-done g c =
    let idle = (c.fall-vectors.ensures.idle c.if-vectors-eq0.true).0 in
    let same : record { stimuli = c.fall-vectors.new.self.stimuli; engine = c.fall-vectors.new.self.engine; misses = c.self.inside.misses } ≡ c.args.self.now =
    ap (λ (d : Driving _). record { stimuli = d.stimuli; engine = d.engine; misses = c.self.inside.misses }) idle ∙ c.self.view_is in
    let none : 0 ≡ count_by (λ s. s.live) c.args.self.now.stimuli = sym c.if-vectors-eq0.true ∙ c.fall-vectors.ensures.count ∙ ap (λ (s : Checking _). count_by (λ k. k.live) s.stimuli) c.self.view_is in
    λ run k contents h.
    subst (λ (s : Checking _). AreFoundBefore g.W.Word.lane run (suc k) s contents) (sym same)
    (compared c.line_law.ensures g.W.Word.lane run k c.args.self.now c.args.self.now contents (idle_compared g.W.Word.lane run c.args.self.now none) h)

pub returns-clause-ready : goal.returns-clause-ready
returns-clause-ready g c =
    let m : Checking _ = record { stimuli = c.self.inside.driven.stimuli; engine = c.self.inside.driven.engine; misses = c.self.inside.misses } in
    let new : Checking _ = record { stimuli = c.rise.new.self.stimuli; engine = c.rise.new.self.engine; misses = c.note.new.self } in
    let was = subst (λ (s : Checking _). IsCheckable s) (sym c.self.view_is) c.requires.ready in
    let columns = subst (λ (ks : List Known). HasColumns c.note.new.self (named ks)) (c.drive.ensures ∙ sym c.rise.ensures.stimuli) c.note.ensures.columns in
    checkable_round m new (c.rise.ensures.stimuli ∙ c.fall-vectors.ensures.stimuli) (c.rise.ensures.program ∙ c.fall-vectors.ensures.program) c.note.ensures.outputs columns was

pub returns-clause-done : goal.returns-clause-done
returns-clause-done g c =
    let m : Checking _ = record { stimuli = c.self.inside.driven.stimuli; engine = c.self.inside.driven.engine; misses = c.self.inside.misses } in
    let new : Checking _ = record { stimuli = c.rise.new.self.stimuli; engine = c.rise.new.self.engine; misses = c.note.new.self } in
    let few = subst (λ (s : Checking _). length s.stimuli ≤ g.W.Word.LANES) (sym c.self.view_is) c.requires.lanes in
    let Finds = λ (ks : List Known) (e : Running _). (i : ℕ) → i < length ks → found_at c.note.new.self.found i ≡ found_behind (found_at c.self.inside.misses.found i) (found_now c.self.inside.misses.outputs (lane_at ks i) (state g.W.Word.lane e i)) in
    let found = subst (λ (ks : List Known). Finds ks c.fall-vectors.new.self.engine) (c.drive.ensures ∙ c.fall-vectors.ensures.stimuli) (subst (λ (e : Running _). Finds c.drive.result.now e) c.engine.ensures c.note.ensures.found) in
    λ run k contents begun.
    let h = subst (λ (s : Checking _). AreFoundIn g.W.Word.lane run k s contents) (sym c.self.view_is) begun in
    let made : IsCompared g.W.Word.lane run m new = record {
      middle = c.fall-vectors.new.self.engine;
      stimuli = c.rise.ensures.stimuli ∙ c.fall-vectors.ensures.stimuli;
      program = c.rise.ensures.program ∙ c.fall-vectors.ensures.program;
      outputs = c.note.ensures.outputs;
      falls = λ i lt live. c.fall-vectors.ensures.falls run.design run.clocks i h.program lt live;
      rises = λ i lt live. c.rise.ensures.rises run.design run.clocks i (subst (λ (p : Program). IsProgramOf run.design run.clocks p) (sym c.fall-vectors.ensures.program) h.program) (omega (arith, few, lt));
      found = found;
    } in
    compared c.line_law.ensures g.W.Word.lane run k m new contents made h
