use Rattle.std.proofs.Common.{◌∙◌, Bool, if◌then◌else◌, sym, ap}
use Rattle.vs_four.specs.Lengths.{last_or}
use Rattle.vs_values.proofs.Constants.{last_is}
use Rattle.vs_values.proofs.slots.fill.Goals as goal

pub returns-then-length-gt0 : goal.returns-then-length-gt0
returns-then-length-gt0 c = last_is c.args.slots.now 0 c.if-length-gt0.true ∙ ap (λ (b : Bool). if b then last_or 0 c.args.slots.now else 0) (sym c.if-signed.true)
