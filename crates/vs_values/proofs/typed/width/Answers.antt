use Rattle.std.proofs.Common.{arith}
use Rattle.vs_design.specs.Fits.{fits, divides_constants}
use Rattle.vs_flat.specs.DesignOf.{arena_trees}
use Rattle.vs_flat.specs.Trees.{tree_at}
use Rattle.vs_values.proofs.Readying.{fits_length}
use Rattle.vs_values.proofs.Values.{both_true}
use Rattle.vs_values.proofs.typed.width.Goals as goal

pub returns : goal.returns
returns c =
    let e = tree_at (arena_trees c.args.templates.now.arena) c.args.e in
    let l = fits_length e (both_true (fits e) (divides_constants e) c.requires.fit).0 in
    omega (arith, c.width.ensures, l.1)
