use Rattle.vs_design.specs.Clocks.{name_of}
use Rattle.vs_shape.specs.Nodes.{tree_of}
use Rattle.vs_full.proofs.Copying.{by_number, copied_to_none, named_number_there}
use Rattle.vs_full.proofs.roots.copied_by.Goals as goal

pub copied_to-requires-clause-to : goal.copied_to-requires-clause-to
copied_to-requires-clause-to c = named_number_there c.args.flat.now (name_of (tree_of c.args.flat.now c.args.target)) c.in-Some.to c.in-Some.ensures c.requires.to

pub returns-in-Some : goal.returns-in-Some
returns-in-Some c =
    let a = c.args.flat.now in
    record {
      within = c.copied_to.ensures.within;
      copied = by_number a (name_of (tree_of a c.args.target)) (name_of (tree_of a c.args.expr)) c.in-Some.to c.copied_to.result c.in-Some.ensures c.requires.to c.copied_to.ensures.copied;
    }

pub returns-in-None : goal.returns-in-None
returns-in-None c =
    let a = c.args.flat.now in
    record { within = tt; copied = copied_to_none (name_of (tree_of a c.args.target)) (name_of (tree_of a c.args.expr)) c.in-None.ensures }
