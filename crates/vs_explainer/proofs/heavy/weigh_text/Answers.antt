use Rattle.std.proofs.Common.{Option, Some, None, option_map, refl, subst}
use Rattle.std.specs.Prelude.{IfSome}
use Rattle.vs_flat.specs.Lawful.{IsLawful}
use Rattle.vs_names.specs.Drawn.{Drawn}
use Rattle.vs_reread.specs.Drawings.{IsDrawing}
use Rattle.vs_explainer.proofs.Sights.{on_ok}
use Rattle.vs_explainer.proofs.heavy.weigh_text.Goals as goal

pub weigh-requires : goal.weigh-requires
weigh-requires c = subst (λ (o : Option Drawn). IfSome o (λ (d : Drawn). IsLawful d.flat)) c.in-Some.is c.in_ok-draw.ensures.lawful

pub returns-in-None : goal.returns-in-None
returns-in-None c = (None, subst (λ (o : Option Drawn). IsDrawing c.args.text.now (option_map (λ t. t.now) c.args.top) o) c.in-None.is c.in_ok-draw.ensures.drawing, refl)

pub returns-in-Some : goal.returns-in-Some
returns-in-Some c =
    on_ok _ _ c.weigh.result c.weigh.ensures (λ o e. (Some c.in-Some.drawing, subst (λ (x : Option Drawn). IsDrawing c.args.text.now (option_map (λ t. t.now) c.args.top) x) c.in-Some.is c.in_ok-draw.ensures.drawing, e))
