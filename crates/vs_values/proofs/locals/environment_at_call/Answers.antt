use Rattle.std.proofs.Common.{◌∙◌, ℕ, ◌-◌, ap}
use Rattle.vs_values.specs.Environments.{local_slots}
use Rattle.vs_values.specs.Templates.{function_at, input_bits}
use Rattle.vs_values.proofs.Headers.{others_are}
use Rattle.vs_values.proofs.locals.environment_at_call.Goals as goal

pub overflow_sub-all : goal.overflow_sub-all
overflow_sub-all c = (others_are (function_at c.args.templates.now.arena c.args.function).header c.input_bits-inputs.result c.all_bits-all.result c.input_bits-inputs.ensures.is c.all_bits-all.ensures.is).0

pub returns : goal.returns
returns c =
    let h = (function_at c.args.templates.now.arena c.args.function).header in
    let o = (others_are h c.input_bits-inputs.result c.all_bits-all.result c.input_bits-inputs.ensures.is c.all_bits-all.ensures.is).1 in
    c.at_call.ensures ∙ ap (λ (k : ℕ). local_slots k (c.all_bits-all.result - c.input_bits-inputs.result)) c.input_bits-inputs.ensures.is ∙ ap (λ (k : ℕ). local_slots (input_bits h) k) o
