use Rattle.std.proofs.Common.{[], ◌∷◌, sym, ap, ◌∙◌}
use Rattle.vs_ast.specs.Views as view
use Rattle.vs_const.specs.Faults.{least}
use Rattle.vs_elaborated.specs.Parameters.{said_range, said_addresses}
use Rattle.vs_elaborated.specs.Signals as spec
use Rattle.vs_scope.specs.declared.names.Sort.{Sort}
use Rattle.vs_scope.specs.Frames.{view_env}
use Rattle.vs_scope.specs.Views as scope
use Rattle.vs_scope.proofs.FirstFaults.{both_first}
use Rattle.vs_scope.proofs.scope.range_fault.Goals as goal

pub returns-in_ok-words-in-Signal : goal.returns-in_ok-words-in-Signal
returns-in_ok-words-in-Signal c =
    let env = view_env c.args.here.now in
    let s = c.in-Signal in
    both_first (said_range (view.option view.range s.signals.now.range) env).faults (said_addresses (view.option view.range s.addresses.now) env).faults _ _ c.first_of.result
    c.in_ok-range-in-Signal.ensures.is.fault c.in_ok-words-in-Signal.ensures.is.fault c.first_of.ensures
    ∙ sym (ap (λ (x : Sort). least (spec.range_faults env (record { name = view.name c.args.d.now.name.now; sort = scope.sort x } ∷ []))) s.is)
