use Rattle.std.proofs.Common.{◌≡◌, ◌∙◌, slice_get, Some, sym, ap}
use Rattle.vs_design.specs.Expressions.{addresses}
use Rattle.vs_flat.specs.Arena.{Arena}
use Rattle.vs_flat.specs.DesignOf.{arena_signals}
use Rattle.vs_flat.specs.Trees.{signal_of, signal_at}
use Rattle.vs_values.proofs.words.memory_addresses.Goals as goal

pub returns : goal.returns
returns c =
    let a = c.args.templates.now.arena in
    let s = c.signal.result.now in
    let at : slice_get a.signals c.args.signal ≡ Some s = ap (λ (x : Arena). slice_get x.signals c.args.signal) (sym c.flat.ensures.same) ∙ c.signal.ensures in
    let is : signal_at (arena_signals a) c.args.signal ≡ signal_of c.args.signal s = c.trees_law.ensures.signals a c.args.signal s at in
    c.addresses_of.ensures ∙ ap addresses (sym is)
