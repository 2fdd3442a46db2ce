use Rattle.std.proofs.Common.{◌≡◌, Some, subst}
use Rattle.vs_flat.specs.Arena.{Arena, declared_at}
use Rattle.vs_block.proofs.Latching.{place_is}
use Rattle.vs_block.proofs.functions.place.Goals as goal

pub returns : goal.returns
returns c x is =
    let at = subst (λ (y : Arena). declared_at y c.args.f ≡ Some c.function.result.now) c.flat.ensures.same c.function.ensures in
    place_is c.trees_law.ensures.functions c.args.typed.now c.args.f x c.function.result.now c.requires is at
