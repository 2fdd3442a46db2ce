use Rattle.std.proofs.Common.{Bool, Some, sym, ap, ◌∙◌}
use Rattle.vs_design.specs.Clocks.{name_of}
use Rattle.vs_flat.specs.DesignOf.{arena_signals}
use Rattle.vs_flat.specs.Trees.{signal_at}
use Rattle.vs_shape.specs.Nodes.{tree_of}
use Rattle.vs_full.proofs.Copying.{chosen, copied_is, copied_none, named_number_there}
use Rattle.vs_full.proofs.roots.copied_to.Goals as goal

pub are_as_long-requires-clause-first : goal.are_as_long-requires-clause-first
are_as_long-requires-clause-first c = c.requires.to

pub are_as_long-requires-clause-second : goal.are_as_long-requires-clause-second
are_as_long-requires-clause-second c = named_number_there c.args.flat.now (name_of (tree_of c.args.flat.now c.args.expr)) c.in-Some.from c.in-Some.ensures c.requires.from

pub returns-then-are_as_long : goal.returns-then-are_as_long
returns-then-are_as_long c =
    let a = c.args.flat.now in
    let o = name_of (tree_of a c.args.expr) in
    record {
      within = (named_number_there a o c.in-Some.from c.in-Some.ensures c.requires.from, c.requires.to);
      copied = ap (λ (t : Bool). chosen t c.in-Some.from c.args.to) (sym c.if-are_as_long.true) ∙ copied_is a c.args.to c.in-Some.from o c.are_as_long.result c.requires.to c.in-Some.ensures c.requires.from c.are_as_long.ensures;
    }

pub returns-else-are_as_long : goal.returns-else-are_as_long
returns-else-are_as_long c =
    let a = c.args.flat.now in
    let o = name_of (tree_of a c.args.expr) in
    record {
      within = tt;
      copied = ap (λ (t : Bool). chosen t c.in-Some.from c.args.to) (sym c.if-are_as_long.false) ∙ copied_is a c.args.to c.in-Some.from o c.are_as_long.result c.requires.to c.in-Some.ensures c.requires.from c.are_as_long.ensures;
    }

pub returns-in-None : goal.returns-in-None
returns-in-None c =
    let a = c.args.flat.now in
    record { within = tt; copied = copied_none (Some (signal_at (arena_signals a) c.args.to)) (name_of (tree_of a c.args.expr)) c.in-None.ensures }
