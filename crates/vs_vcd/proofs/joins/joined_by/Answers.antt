use Rattle.std.proofs.Common.{sym, ◌∙◌}
use Rattle.vs_vcd.proofs.Naming.{assign_there, joins_none, joins_maybe, maybe_joined, maybe_none, maybe_within}
use Rattle.vs_vcd.proofs.joins.joined_by.Goals as goal

pub named_by-requires-clause-target : goal.named_by-requires-clause-target
named_by-requires-clause-target c = (assign_there c.names_law.ensures.processes c.args.flat.now c.requires.lawful.names c.args.p c.process.result.now _ _ _ c.process.ensures c.in-Assign.is).0

pub named_by-requires-clause-expr : goal.named_by-requires-clause-expr
named_by-requires-clause-expr c = (assign_there c.names_law.ensures.processes c.args.flat.now c.requires.lawful.names c.args.p c.process.result.now _ _ _ c.process.ensures c.in-Assign.is).1

pub returns-in_err-one-in-Assign-clause-joined : goal.returns-in_err-one-in-Assign-clause-joined
returns-in_err-one-in-Assign-clause-joined c = λ x is.
    c.from_residual.ensures
    ∙ sym ((joins_none c.trees_law.ensures.processes c.lawful_law.ensures.assign_targets c.lawful_law.ensures.design c.args.flat.now c.requires.lawful c.args.p c.in-Assign.target c.in-Assign.expr c.in-Assign.port c.process.result.now c.process.ensures c.in-Assign.is
    (sym c.named_by.ensures ∙ c.in_err-one-in-Assign.was)).none x is)

pub signal-requires : goal.signal-requires
signal-requires c =
    let maybe = joins_maybe c.trees_law.ensures.processes c.lawful_law.ensures.assign_targets c.lawful_law.ensures.design c.args.flat.now c.requires.lawful c.args.p c.in-Assign.target c.in-Assign.expr c.in-Assign.port c.process.result.now c.process.ensures c.in-Assign.is
    c.in_ok-one-in-Assign.one c.in_ok-one-in-Assign.other (sym c.named_by.ensures ∙ c.in_ok-one-in-Assign.was) in
    (maybe_within c.args.flat.now c.args.p c.in_ok-one-in-Assign.one c.in_ok-one-in-Assign.other maybe).0

pub signal-requires-in-Assign : goal.signal-requires-in-Assign
signal-requires-in-Assign c =
    let maybe = joins_maybe c.trees_law.ensures.processes c.lawful_law.ensures.assign_targets c.lawful_law.ensures.design c.args.flat.now c.requires.lawful c.args.p c.in-Assign.target c.in-Assign.expr c.in-Assign.port c.process.result.now c.process.ensures c.in-Assign.is
    c.in_ok-one-in-Assign.one c.in_ok-one-in-Assign.other (sym c.named_by.ensures ∙ c.in_ok-one-in-Assign.was) in
    (maybe_within c.args.flat.now c.args.p c.in_ok-one-in-Assign.one c.in_ok-one-in-Assign.other maybe).1

pub returns-then-range_bits-clause-joined : goal.returns-then-range_bits-clause-joined
returns-then-range_bits-clause-joined c =
    let maybe = joins_maybe c.trees_law.ensures.processes c.lawful_law.ensures.assign_targets c.lawful_law.ensures.design c.args.flat.now c.requires.lawful c.args.p c.in-Assign.target c.in-Assign.expr c.in-Assign.port c.process.result.now c.process.ensures c.in-Assign.is
    c.in_ok-one-in-Assign.one c.in_ok-one-in-Assign.other (sym c.named_by.ensures ∙ c.in_ok-one-in-Assign.was) in
    maybe_joined c.args.flat.now c.args.p c.in_ok-one-in-Assign.one c.in_ok-one-in-Assign.other c.signal.result.now c.signal-in-Assign.result.now maybe c.signal.ensures c.signal-in-Assign.ensures
    (sym c.range_bits.ensures ∙ c.if-range_bits.true ∙ c.range_bits-in-Assign.ensures)

pub returns-then-range_bits-clause-within : goal.returns-then-range_bits-clause-within
returns-then-range_bits-clause-within c =
    let maybe = joins_maybe c.trees_law.ensures.processes c.lawful_law.ensures.assign_targets c.lawful_law.ensures.design c.args.flat.now c.requires.lawful c.args.p c.in-Assign.target c.in-Assign.expr c.in-Assign.port c.process.result.now c.process.ensures c.in-Assign.is
    c.in_ok-one-in-Assign.one c.in_ok-one-in-Assign.other (sym c.named_by.ensures ∙ c.in_ok-one-in-Assign.was) in
    maybe_within c.args.flat.now c.args.p c.in_ok-one-in-Assign.one c.in_ok-one-in-Assign.other maybe

pub returns-else-range_bits-clause-joined : goal.returns-else-range_bits-clause-joined
returns-else-range_bits-clause-joined c =
    let maybe = joins_maybe c.trees_law.ensures.processes c.lawful_law.ensures.assign_targets c.lawful_law.ensures.design c.args.flat.now c.requires.lawful c.args.p c.in-Assign.target c.in-Assign.expr c.in-Assign.port c.process.result.now c.process.ensures c.in-Assign.is
    c.in_ok-one-in-Assign.one c.in_ok-one-in-Assign.other (sym c.named_by.ensures ∙ c.in_ok-one-in-Assign.was) in
    maybe_none c.args.flat.now c.args.p c.in_ok-one-in-Assign.one c.in_ok-one-in-Assign.other c.signal.result.now c.signal-in-Assign.result.now maybe c.signal.ensures c.signal-in-Assign.ensures
    (λ e. c.if-range_bits.false (c.range_bits.ensures ∙ e ∙ sym c.range_bits-in-Assign.ensures))
