use Rattle.std.proofs.Common.{arith}
use Rattle.std.proofs.lemmas.Bool.{le-leb, lt-leb}
use Rattle.std.proofs.lemmas.Int.{ints}
use Rattle.vs_kern_select.specs.Operators.{part_of}
use Rattle.vs_kern_select.proofs.SelectPlaces.{base_down, base_up}
use Rattle.vs_kern_select.proofs.selects.base_of_place.Goals as goal

pub returns-in-true-false-clause-value : goal.returns-in-true-false-clause-value
returns-in-true-false-clause-value c =
    let base = base_down (part_of c.args.selection c.args.width) c.args.place c.args.bit (le-leb c.args.selection.range.right c.args.selection.range.left c.in-true-false.is-0) c.in-true-false.is-1 in
    omega (arith, ints, base)

pub returns-in-false-true-clause-value : goal.returns-in-false-true-clause-value
returns-in-false-true-clause-value c =
    let base = base_up (part_of c.args.selection c.args.width) c.args.place c.args.bit (lt-leb c.args.selection.range.right c.args.selection.range.left c.in-false-true.is-0) c.in-false-true.is-1 in
    omega (arith, ints, base)
