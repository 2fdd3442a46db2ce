use Rattle.std.proofs.Common.{◌≡◌, ◌<◌, ◌≤◌, ◌++◌, List, Some, length, map, vec_len}
use Rattle.vs_grammar.specs.Trees as tree
use Rattle.vs_scope.specs.declared.frames.Frame.{Frame}
use Rattle.vs_scope.specs.Frames.{env_at, envs}
use Rattle.vs_elab.specs.Stacks as stacks
use Rattle.vs_elab.specs.Fine.{AreFineParts}
use Rattle.vs_elab.specs.Pending.{parts_pieces, scope_around, stack_pieces}
use Rattle.vs_elab.specs.Reading.{ArePending}
use Rattle.vs_elab.proofs.stack.push_parts.Given as goal

-- the parts that are left come before those that are pending, and all stand where they are to
abbrev pub invariant-loop-part : goal.invariant-loop-part
invariant-loop-part l = record {
  pieces : (source : tree.Source) (frames : List Frame)
      → map (stacks.pending l.left) (parts_pieces source (scope_around frames l.frame l.depth) l.parts.items) ++ stack_pieces source frames l.stack.items
      ≡ map (stacks.pending l.left) (parts_pieces source (scope_around frames l.frame l.depth) l.fn.parts.items) ++ stack_pieces source frames l.fn.stack.items;
  left : (source : tree.Source) (frames : List Frame) → AreFineParts source (env_at (envs frames) (Some l.frame)) l.fn.parts.items → AreFineParts source (env_at (envs frames) (Some l.frame)) l.parts.items;
  pending : (source : tree.Source) (frames : List Frame) → ArePending source frames l.fn.stack.items → l.frame < length frames → l.depth ≤ 32
      → AreFineParts source (env_at (envs frames) (Some l.frame)) l.fn.parts.items → ArePending source frames l.stack.items;
}

abbrev pub decreases-loop-part : goal.decreases-loop-part
decreases-loop-part l = vec_len l.parts
