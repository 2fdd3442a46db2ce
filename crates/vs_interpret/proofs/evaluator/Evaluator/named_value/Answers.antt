use Rattle.std.proofs.Common.{length, ap, ◌∙◌, arith}
use Rattle.vs_flat.specs.Targets.{source_of}
use Rattle.vs_sets.specs.Nodes.{tree_of}
use Rattle.vs_writes.specs.Held.{state_of}
use Rattle.vs_interpret.proofs.Named.{named_facts, source_long}
use Rattle.vs_interpret.proofs.evaluator.Evaluator.named_value.Goals as goal

pub bits_at-requires : goal.bits_at-requires
bits_at-requires c =
    let src = source_of (tree_of c.args.self.now.shapes.now c.args.e) in
    let facts = named_facts c.args.self.now.values.now src c.named_span.result.first c.named_span.result.len c.requires.is_name c.requires.within c.named_span.ensures.first c.named_span.ensures.len in
    record { some = omega (arith, facts.long, c.requires.few.0); most = omega (arith, facts.long, c.requires.few.1); there = facts.ends }

pub returns-clause-value : goal.returns-clause-value
returns-clause-value c =
    let src = source_of (tree_of c.args.self.now.shapes.now c.args.e) in
    let facts = named_facts c.args.self.now.values.now src c.named_span.result.first c.named_span.result.len c.requires.is_name c.requires.within c.named_span.ensures.first c.named_span.ensures.len in
    c.bits_at.ensures ∙ facts.is

pub returns-clause-length : goal.returns-clause-length
returns-clause-length c = ap length (returns-clause-value c) ∙ source_long (state_of c.args.self.now.values.now) (source_of (tree_of c.args.self.now.shapes.now c.args.e))
