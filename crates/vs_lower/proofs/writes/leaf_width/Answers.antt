use Rattle.std.proofs.Common.{◌∙◌, sym, ap, subst, arith}
use Rattle.vs_design.specs.Expressions.{signal_length}
use Rattle.vs_design.specs.Statements.{target_width}
use Rattle.vs_lower.specs.declared.leaves.Leaf.{Leaf}
use Rattle.vs_lower.specs.Leaves.{leaf_target, IsInside}
use Rattle.vs_lower.proofs.writes.leaf_width.Goals as goal

pub declared-requires : goal.declared-requires
declared-requires c = subst (IsInside c.args.templates.now) c.in-Whole.is c.requires

pub bits_of-requires : goal.bits_of-requires
bits_of-requires c = omega (arith, c.declared.ensures.few)

pub returns-in-Whole : goal.returns-in-Whole
returns-in-Whole c = c.bits_of.ensures ∙ ap signal_length (sym c.declared.ensures.is) ∙ sym (ap (λ (x : Leaf). target_width (leaf_target c.args.templates.now.arena x)) c.in-Whole.is)
