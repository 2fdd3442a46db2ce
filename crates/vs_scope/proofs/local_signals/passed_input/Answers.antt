use Rattle.std.proofs.Common.{[], true, false, None, ap}
use Rattle.vs_const.specs.MentionViews.{Kept}
use Rattle.vs_const.specs.declared.names.Role.TheVariants.{InFunction}
use Rattle.vs_elaborated.specs.Functions.{Passed}
use Rattle.vs_scope.proofs.local_signals.passed_input.Goals as goal

pub returns : goal.returns
returns c = λ m k.
    let start = c.args.start in
    ap (λ (x : Kept).
    let p : Passed = record {
      number = x.number;
      input = record {
        signal = record { name = []; scope = start.scope; number = start.signal; net = true; input = true; range = x.range; signed = x.signed; first = start.bit; words = None; integer = false };
        input = true;
        role = InFunction;
        known = x.known;
      };
    } in p)
    k
