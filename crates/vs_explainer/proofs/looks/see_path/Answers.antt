use Rattle.std.proofs.Common.{◌≡◌, IsTrue, None, Some, subst}
use Rattle.std.specs.Prelude.{MatchOption}
use Rattle.vs_desk.specs.Desk.{Rose}
use Rattle.vs_reread.specs.Again.{IsFaultless}
use Rattle.vs_explainer.specs.Looks.{read_of}
use Rattle.vs_explainer.proofs.Sights.{no_starts, sees_stimulus, stimulus_unseen}
use Rattle.vs_explainer.proofs.looks.see_path.Goals as goal

pub returns-in-None-clause-sees : goal.returns-in-None-clause-sees
returns-in-None-clause-sees g c =
    let old = g.D.Desk.told c.args.desk.now in
    let new = g.D.Desk.told c.read_stimulus.new.desk in
    let path = c.args.path.now in
    let s = subst (λ o. MatchOption o (Rose old.register.faults new.register.faults) (λ text. (IsTrue g.D.Desk.tells → text.items ≡ read_of c.args.lines (old.contents.files path)) × IsFaultless old.register new.register)) c.in-None.is
    c.in_ok-read_stimulus.ensures.read in
    λ top. stimulus_unseen top path c.args.lines old new _ c.in_ok-read_stimulus.ensures.only s c.unseen.ensures.seen

pub returns-in-Some-clause-sees : goal.returns-in-Some-clause-sees
returns-in-Some-clause-sees g c =
    let old = g.D.Desk.told c.args.desk.now in
    let new = g.D.Desk.told c.read_stimulus.new.desk in
    let path = c.args.path.now in
    let s = subst (λ o. MatchOption o (Rose old.register.faults new.register.faults) (λ text. (IsTrue g.D.Desk.tells → text.items ≡ read_of c.args.lines (old.contents.files path)) × IsFaultless old.register new.register)) c.in-Some.is
    c.in_ok-read_stimulus.ensures.read in
    λ top. sees_stimulus top path c.args.lines old new c.in-Some.text.items _ c.in_ok-read_stimulus.ensures.only s.0 s.1 (no_starts (Some c.in-Some.text.items) _ 0 None None None cc)
