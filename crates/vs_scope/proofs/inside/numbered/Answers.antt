use Rattle.std.proofs.Common.{sym, ap, ◌∙◌}
use Rattle.vs_maps.specs.Places.{found_at, or_at}
use Rattle.vs_maps.specs.PlaceViews.{placed}
use Rattle.vs_scope.specs.declared.names.LocalSignal.{LocalSignal}
use Rattle.vs_scope.specs.Inside.{place_of_local}
use Rattle.vs_scope.proofs.NumberedKeys.{none_numbered, one_numbered, all_numbered}
use Rattle.vs_scope.proofs.inside.numbered.Goals as goal

pub loop-i-init : goal.loop-i-init
loop-i-init c = none_numbered place_of_local c.new-places.result c.args.signals.now c.new-places.ensures

pub loop-i-preserved : goal.loop-i-preserved
loop-i-preserved c =
    one_numbered place_of_local c.loop-i.places c.add.new.self c.args.signals.now c.loop-i.i c.index-signals-i.result c.loop-i-test.true c.index-signals-i.is
    (λ other. c.in_ok-add.ensures other ∙ ap (λ (x : LocalSignal). or_at other (found_at other (placed c.loop-i.places)) x.place c.loop-i.i) (sym c.index-signals-i.is))
    c.loop-i.invariant

pub returns : goal.returns
returns c = record { each = all_numbered place_of_local c.loop-i.places c.args.signals.now c.loop-i.i c.loop-i-test.false c.loop-i.invariant }
