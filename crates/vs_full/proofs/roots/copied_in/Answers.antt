use Rattle.std.proofs.Common.{sym, ap, ◌∙◌}
use Rattle.vs_flat.specs.DesignOf.{arena_signals, design_of}
use Rattle.vs_flat.specs.Trees.{signal_at}
use Rattle.vs_reads.proofs.ByKind.{target_there, expr_there}
use Rattle.vs_shape.specs.Nodes.{tree_of}
use Rattle.vs_full.specs.Roots.{noted}
use Rattle.vs_full.proofs.Copying.{input_parts, noted_block, noted_input, noted_other, to_named}
use Rattle.vs_full.proofs.Rooting.{formed_named}
use Rattle.vs_full.proofs.roots.copied_in.Goals as goal

pub copied_by-requires-clause-target : goal.copied_by-requires-clause-target
copied_by-requires-clause-target c = target_there c.names_law.ensures.processes c.args.flat.now c.requires.lawful.names c.args.p c.process.result.now _ _ _ c.process.ensures c.in-Assign.is

pub copied_by-requires-clause-expr : goal.copied_by-requires-clause-expr
copied_by-requires-clause-expr c = expr_there c.names_law.ensures.processes c.args.flat.now c.requires.lawful.names c.args.p c.process.result.now _ _ _ c.process.ensures c.in-Assign.is

pub copied_by-requires-clause-to : goal.copied_by-requires-clause-to
copied_by-requires-clause-to c =
    let a = c.args.flat.now in
    let f = input_parts c.trees_law.ensures.processes a c.requires.lawful c.args.p c.process.result.now c.in-Assign.target c.in-Assign.expr c.in-Assign.port c.process.ensures c.in-Assign.is in
    to_named (design_of a) (tree_of a c.in-Assign.target) (tree_of a c.in-Assign.expr) f

pub copied_by-requires-clause-from : goal.copied_by-requires-clause-from
copied_by-requires-clause-from c =
    let a = c.args.flat.now in
    let f = input_parts c.trees_law.ensures.processes a c.requires.lawful c.args.p c.process.result.now c.in-Assign.target c.in-Assign.expr c.in-Assign.port c.process.ensures c.in-Assign.is in
    formed_named (design_of a) (tree_of a c.in-Assign.expr) f.read

pub returns-then-is_input : goal.returns-then-is_input
returns-then-is_input c = record {
  within = c.copied_by.ensures.within;
  copied = λ x at n inside.
      ap (noted n) c.copied_by.ensures.copied
      ∙ noted_input c.trees_law.ensures.processes c.args.flat.now c.requires.lawful c.args.p c.process.result.now c.in-Assign.target c.in-Assign.expr c.in-Assign.port x n (sym c.is_input.ensures ∙ c.if-is_input.true) c.process.ensures c.in-Assign.is at inside;
}

pub returns-else-is_input : goal.returns-else-is_input
returns-else-is_input c = record {
  within = tt;
  copied = λ x at n inside.
      noted_other c.trees_law.ensures.processes c.args.flat.now c.args.p c.process.result.now c.in-Assign.target c.in-Assign.expr c.in-Assign.port x (signal_at (arena_signals c.args.flat.now) n) (sym c.is_input.ensures ∙ c.if-is_input.false) c.process.ensures
      c.in-Assign.is at;
}

pub returns-in-Block : goal.returns-in-Block
returns-in-Block c = record {
  within = tt;
  copied = λ x at n inside. noted_block c.trees_law.ensures.processes c.args.flat.now c.args.p c.process.result.now _ _ _ x (signal_at (arena_signals c.args.flat.now) n) c.process.ensures c.in-Block.is at;
}
