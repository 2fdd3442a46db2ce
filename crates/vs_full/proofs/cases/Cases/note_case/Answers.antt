use Rattle.std.proofs.Common.{List, Option, ℕ, sym, subst}
use Rattle.vs_flat.specs.DesignOf.{design_of}
use Rattle.vs_sets.specs.Nodes.{tree_of}
use Rattle.vs_sets.specs.StatementParts.{arms_of}
use Rattle.vs_full.specs.Roots.{AreRoots}
use Rattle.vs_full.proofs.Growing.{case_put}
use Rattle.vs_full.proofs.Noting.{case_formed}
use Rattle.vs_full.proofs.cases.Cases.note_case.Goals as goal

pub is_full-requires-clause-roots : goal.is_full-requires-clause-roots
is_full-requires-clause-roots c = subst (λ (rs : List (Option ℕ)). AreRoots (design_of c.args.shapes.now) rs) (sym c.roots.ensures) c.requires.sound.roots

pub is_full-requires-clause-of_formed : goal.is_full-requires-clause-of_formed
is_full-requires-clause-of_formed c =
    let a = c.args.shapes.now in
    (case_formed (design_of a) c.args.kind (tree_of a c.args.of) (arms_of a c.args.other c.args.arms.now) c.requires.formed).0

pub default_then-requires-clause-full : goal.default_then-requires-clause-full
default_then-requires-clause-full c = c.in_ok-full.ensures

pub put-requires-clause-both : goal.put-requires-clause-both
put-requires-clause-both c = c.requires.sound.both

pub returns : goal.returns
returns c =
    case_put c.args.shapes.now c.args.self.now c.put.new.self c.args.s c.args.kind c.args.of c.args.arms.now c.args.other c.in_ok-full.full c.in_ok-default.default c.put.ensures c.requires.sound c.requires.room c.requires.is c.in_ok-full.ensures c.in_ok-default.ensures
