use Rattle.std.proofs.Common.{◌<◌, List, length, take, map, Some}
use Rattle.vs_ast.specs.Views as view
use Rattle.vs_elaborated.specs.Instances.{overrides_by_name}
use Rattle.vs_scope.specs.Frames.{env_at, envs}
use Rattle.vs_maps.specs.Maps.{AreDistinct}
use Rattle.vs_maps.specs.MapViews.{pairs}
use Rattle.vs_scope.specs.Overrides.{AreOverrides}
use Rattle.vs_scope.specs.declared.frames.Frame.{Frame}
use Rattle.vs_items.specs.Overriding.{AreSaid}
use Rattle.vs_items.proofs.overriding.by_name.Given as goal

-- those before this one are noted
abbrev pub invariant-loop-part : goal.invariant-loop-part
invariant-loop-part l = record {
  said : (frames : List Frame) → AreSaid frames l.overrides (overrides_by_name (map view.named_connection (take l.part-index l.parts)) (env_at (envs frames) (Some l.frame))).overrides;
  fine : (frames : List Frame) → l.frame < length frames → AreOverrides frames l.overrides;
  distinct : AreDistinct (pairs l.overrides);
}
