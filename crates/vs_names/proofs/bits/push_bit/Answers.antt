use Rattle.std.proofs.Common.{◌≡◌, ℕ, ◌++◌, List, find, Option, Some, codes, decimal, sym, ap}
use Rattle.std.specs.Option.{option_map_or}
use Rattle.vs_design.specs.Expressions as E
use Rattle.vs_flat.specs.DesignOf.{arena_signals, design_of}
use Rattle.vs_flat.specs.Trees.{signal_of}
use Rattle.vs_names.specs.Names as spec
use Rattle.vs_names.proofs.Added.{as_ok}
use Rattle.vs_names.proofs.bits.push_bit.Goals as goal

found : (f : E.Signal → List ℕ) (none : List ℕ) (o : Option E.Signal) (s r : E.Signal) → o ≡ Some s → s ≡ r → f r ≡ option_map_or f o none
found f none o s r h k = rw h (ap f (sym k))

pub returns-in-Some : goal.returns-in-Some
returns-in-Some c =
    let a = c.args.flat.now in
    let n = c.in-Some.n in
    let s = c.signal.result.now in
    as_ok c.push_bit_of.result _ _ _ _
    (found (spec.bit_of_signal (design_of a) c.args.bit) (codes "bit " ++ decimal c.args.bit) (find (spec.has_bit c.args.bit) (arena_signals a)) _ (signal_of n s) c.in-Some.ensures.1 (c.trees_law.ensures.signals a n s c.signal.ensures))
    (c.push_bit_of.ensures n)
