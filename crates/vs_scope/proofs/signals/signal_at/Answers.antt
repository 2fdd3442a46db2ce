use Rattle.std.proofs.Common.{None, [], ◌∷◌, ap, false}
use Rattle.vs_ast.specs.Views as view
use Rattle.vs_elaborated.specs.Signals as spec
use Rattle.vs_scope.specs.declared.names.Sort.{Sort}
use Rattle.vs_scope.specs.declared.signals.Form.TheVariants.{Signals, Integer}
use Rattle.vs_scope.specs.Frames.{view_env}
use Rattle.vs_scope.specs.Views as scope
use Rattle.vs_scope.specs.Signalled.{start_of, signal_sort}
use Rattle.vs_scope.proofs.signals.signal_at.Goals as goal

pub returns-in_ok-one-in-Signal : goal.returns-in_ok-one-in-Signal
returns-in_ok-one-in-Signal c =
    let env = view_env c.args.here.now in
    let start = start_of c.args.start in
    let addresses = view.option view.range c.in-Signal.addresses.now in
    let second = view.option scope.declaration c.args.second in (
      spec.said_signal env start (record { first = scope.declaration c.args.first; second = second }) (signal_sort (Signals c.in-Signal.signals) addresses c.in-Signal.header),
      ap (λ (x : Sort). spec.said_signals env start (record { first = record { name = view.name c.args.first.name.now; sort = scope.sort x }; second = second } ∷ [])) c.in-Signal.is,
      c.in_ok-one-in-Signal.ensures addresses c.in-Signal.header c.in_ok-words-in-Signal.ensures.is,
    )

pub returns-in_ok-one-in-Variable : goal.returns-in_ok-one-in-Variable
returns-in_ok-one-in-Variable c =
    let env = view_env c.args.here.now in
    let start = start_of c.args.start in
    let second = view.option scope.declaration c.args.second in (
      spec.said_signal env start (record { first = scope.declaration c.args.first; second = second }) (signal_sort Integer None false),
      ap (λ (x : Sort). spec.said_signals env start (record { first = record { name = view.name c.args.first.name.now; sort = scope.sort x }; second = second } ∷ [])) c.in-Variable.is,
      c.in_ok-one-in-Variable.ensures None false (c.no_addresses-none.ensures.is env),
    )
