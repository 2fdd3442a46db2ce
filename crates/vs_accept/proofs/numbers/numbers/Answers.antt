use Rattle.std.proofs.Common.{◌≡◌, map, subst}
use Rattle.std.specs.Prelude.{IfOk}
use Rattle.vs_flat.specs.Arena.{Arena}
use Rattle.vs_flat.specs.DesignOf.{design_of}
use Rattle.vs_accept.specs.Numbers.{process_number}
use Rattle.vs_accept.proofs.numbers.numbers.Goals as goal

pub returns : goal.returns
returns c = subst (λ (a : Arena). IfOk c.flat_numbers.result (λ v. v.items ≡ map (process_number (design_of a)) c.args.processes.now)) c.flat.ensures.same c.flat_numbers.ensures
