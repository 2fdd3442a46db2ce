use Rattle.std.proofs.Common.{◌≡◌, ◌<◌, List, ◌++◌, length, drop, map, Some}
use Rattle.vs_ast.specs.Views as view
use Rattle.vs_elaborated.specs.Instances.{overrides_by_order}
use Rattle.vs_elaborated.specs.Parameters as spec
use Rattle.vs_scope.specs.Frames.{env_at, envs}
use Rattle.vs_maps.specs.Maps.{AreDistinct}
use Rattle.vs_maps.specs.MapViews.{pairs}
use Rattle.vs_scope.specs.Overrides.{AreOverrides}
use Rattle.vs_scope.specs.declared.frames.Frame.{Frame}
use Rattle.vs_items.specs.Overriding.{AreSaid}
use Rattle.vs_items.specs.Ports.{name_bytes}
use Rattle.vs_items.proofs.overriding.by_order.Given as goal

-- those before this one are noted, and the rest comes behind them
abbrev pub invariant-loop-n : goal.invariant-loop-n
invariant-loop-n l = record {
  said : (frames : List Frame) → (done : List spec.Override) × AreSaid frames l.overrides done
      × (done ++ (overrides_by_order (map name_bytes l.parameters) l.n (map (view.option view.expr) (drop l.n l.parts)) (env_at (envs frames) (Some l.frame))).overrides
      ≡ (overrides_by_order (map name_bytes l.parameters) 0 (map (view.option view.expr) l.parts) (env_at (envs frames) (Some l.frame))).overrides);
  fine : (frames : List Frame) → l.frame < length frames → AreOverrides frames l.overrides;
  distinct : AreDistinct (pairs l.overrides);
}
