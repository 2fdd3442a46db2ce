use Rattle.std.proofs.Common.{◌≡◌, Option, Some, option_map, slice_get, sym, ap, ◌∙◌, subst}
use Rattle.vs_explainer.specs.Lent.{seen_of}
use Rattle.vs_explainer.specs.Looks.{Look, SeesOf, stimulus_look}
use Rattle.vs_explainer.proofs.Sights.{on_ok}
use Rattle.vs_explainer.proofs.looks.see_stimulus.Goals as goal

pub returns-clause-sees : goal.returns-clause-sees
returns-clause-sees g c =
    let old = g.D.Desk.told c.args.desk.now in
    let new = g.D.Desk.told c.see_path.new.desk in
    let top = c.args.job.now.top in
    let at : slice_get c.args.job.now.stimuli c.args.lane ≡ Some c.as_str-path.result.now = c.get.ensures ∙ ap Some (sym c.as_str-path.ensures) in
    on_ok _ _ c.see_path.result c.see_path.ensures.sees
    (λ view s. subst (λ (o : Option Look). SeesOf top o old new (seen_of view)) (sym (ap (λ o. option_map (stimulus_look c.args.lines) o) at)) (s top))
