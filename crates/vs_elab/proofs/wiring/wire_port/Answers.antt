use Rattle.std.proofs.Common.{◌≡◌, OnOk, subst}
use Rattle.vs_elaborated.specs.Environments.{named}
use Rattle.vs_build.specs.Drafts.{Draft}
use Rattle.vs_build.specs.Growth.{draft}
use Rattle.vs_scope.specs.Frames.{view_env}
use Rattle.vs_elab.specs.Wiring.{own_names}
use Rattle.vs_elab.proofs.PortWiring.{inner_within, inner_plain, inner_entry, input_wired, output_wired}
use Rattle.vs_elab.proofs.wiring.wire_port.Goals as goal

pub input_port-requires-clause-there : goal.input_port-requires-clause-there
input_port-requires-clause-there c =
    inner_within (draft c.args.builder.now).design (named (view_env c.args.here.now)) (own_names (view_env c.args.inside.now)) c.args.c.now c.signal_number-inner.result c.requires.fine (c.signal_number-inner.ensures c.requires.fine.meaning c.requires.fine.is)

pub input_port-requires-clause-signal : goal.input_port-requires-clause-signal
input_port-requires-clause-signal c =
    inner_plain (draft c.args.builder.now).design (named (view_env c.args.here.now)) (own_names (view_env c.args.inside.now)) c.args.c.now c.signal_number-inner.result c.requires.fine (c.signal_number-inner.ensures c.requires.fine.meaning c.requires.fine.is)

pub output_port-requires-clause-there : goal.output_port-requires-clause-there
output_port-requires-clause-there c =
    inner_within (draft c.args.builder.now).design (named (view_env c.args.here.now)) (own_names (view_env c.args.inside.now)) c.args.c.now c.signal_number-inner.result c.requires.fine (c.signal_number-inner.ensures c.requires.fine.meaning c.requires.fine.is)

pub output_port-requires-clause-signal : goal.output_port-requires-clause-signal
output_port-requires-clause-signal c =
    inner_plain (draft c.args.builder.now).design (named (view_env c.args.here.now)) (own_names (view_env c.args.inside.now)) c.args.c.now c.signal_number-inner.result c.requires.fine (c.signal_number-inner.ensures c.requires.fine.meaning c.requires.fine.is)

pub input_port-requires-clause-outside : goal.input_port-requires-clause-outside
input_port-requires-clause-outside c = c.requires.outside

pub output_port-requires-clause-outside : goal.output_port-requires-clause-outside
output_port-requires-clause-outside c = c.requires.outside

pub returns-then-c : goal.returns-then-c
returns-then-c c =
    let d = draft c.args.builder.now in
    subst (λ (x : Draft). OnOk c.input_port.result (draft c.input_port.new.builder ≡ x))
    (input_wired d c.args.place (view_env c.args.here.now) (own_names (view_env c.args.inside.now)) c.args.c.now c.signal_number-inner.result
    (inner_entry d.design (named (view_env c.args.here.now)) (own_names (view_env c.args.inside.now)) c.args.c.now c.signal_number-inner.result c.requires.fine (c.signal_number-inner.ensures c.requires.fine.meaning c.requires.fine.is)) c.if-c.true)
    c.input_port.ensures

pub returns-else-c : goal.returns-else-c
returns-else-c c =
    let d = draft c.args.builder.now in
    subst (λ (x : Draft). OnOk c.output_port.result (draft c.output_port.new.builder ≡ x))
    (output_wired d c.args.place (view_env c.args.here.now) (own_names (view_env c.args.inside.now)) c.args.c.now c.signal_number-inner.result
    (inner_entry d.design (named (view_env c.args.here.now)) (own_names (view_env c.args.inside.now)) c.args.c.now c.signal_number-inner.result c.requires.fine (c.signal_number-inner.ensures c.requires.fine.meaning c.requires.fine.is)) c.if-c.false
    (c.requires.fine.output c.if-c.false))
    c.output_port.ensures
