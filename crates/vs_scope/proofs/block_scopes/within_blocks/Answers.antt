use Rattle.std.proofs.Common.{◌++◌, List, map, refl, ap, ◌∙◌, subst}
use Rattle.vs_elaborated.specs.Functions as functions
use Rattle.vs_elaborated.specs.NamedBlocks as spec
use Rattle.vs_scope.specs.declared.inside.Locals.{Locals}
use Rattle.vs_scope.specs.declared.names.LocalSignal.{LocalSignal}
use Rattle.vs_scope.specs.Frames.{view_env}
use Rattle.vs_scope.specs.Inside.{AreNumbered}
use Rattle.vs_scope.specs.Locals.{placed_local, placed_local_of}
use Rattle.vs_scope.specs.NamedBlocks.{blocks_start, named}
use Rattle.vs_scope.proofs.InsideNames.{declared_blocks, names_around}
use Rattle.vs_scope.proofs.NamedSignals.{scopes_are, signals_are, bits_are}
use Rattle.vs_scope.proofs.block_scopes.within_blocks.Goals as goal

pub returns-clause-names : goal.returns-clause-names
returns-clause-names c =
    let locals : Locals = record { signals = c.signal_blocks.new.self.signals; inputs = 0; passed = c.new-2.result; by_signal = c.new-3.result; names = c.new-4.result; places = c.in_ok-places.places } in
    names_around (record { here = c.args.here; locals = locals }) c.requires.outside c.new-4.ensures

pub returns-clause-said : goal.returns-clause-said
returns-clause-said c =
    let env = view_env c.args.here in
    let start = blocks_start c.args.start in
    let bs = map named c.args.blocks.now in
    let ss = spec.named_signals env start bs in
    let s = c.in_ok-signal_blocks.ensures in
    let signals = s.signals ∙ ap (λ (xs : List LocalSignal). map placed_local xs ++ map placed_local_of ss) c.new.ensures.items in
    let locals : Locals = record { signals = c.signal_blocks.new.self.signals; inputs = 0; passed = c.new-2.result; by_signal = c.new-3.result; names = c.new-4.result; places = c.in_ok-places.places } in
    record {
      signals = signals;
      declared = declared_blocks locals ss signals (subst (AreNumbered c.in_ok-places.places) c.as_slice.ensures.value c.in_ok-places.ensures);
      fault = s.fault;
      scope = ap (λ (x : functions.Start). x.scope) s.next ∙ scopes_are env start bs;
      signal = ap (λ (x : functions.Start). x.signal) s.next ∙ signals_are env start bs;
      bit = ap (λ (x : functions.Start). x.bit) s.next ∙ bits_are env start bs;
      top = refl;
    }
