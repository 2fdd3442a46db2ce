use Rattle.std.proofs.Common.{◌≡◌, ◌++◌, ◌∷◌, [], ℕ, List, map, sym, ap, ◌∙◌, subst}
use Rattle.std.proofs.lemmas.List.{append-nil, take_all}
use Rattle.vs_elaborated.specs.Generate.{Nested}
use Rattle.vs_elaborated.specs.Surveys.{nested_piece}
use Rattle.vs_grammar.specs.Trees as tree
use Rattle.vs_ast.specs.Views.{item, option}
use Rattle.vs_scope.specs.declared.made.Nested as declared
use Rattle.vs_scope.specs.Frames.{turn}
use Rattle.vs_scope.specs.Made as code
use Rattle.vs_elab.specs.Fine.{AreFineInside}
use Rattle.vs_elab.specs.Pending.{parts_pieces}
use Rattle.vs_elab.proofs.Sequences.{each_at}
use Rattle.vs_elab.proofs.FineParts.{part_fine}
use Rattle.vs_elab.proofs.PendingParts.{part_more}
use Rattle.vs_elab.proofs.PartItems.{block_more}
use Rattle.vs_elab.proofs.parts.push_blocks.Goals as goal

pub loop-b-init : goal.loop-b-init
loop-b-init c = record { pieces = λ source around. sym (append-nil (parts_pieces source around c.args.parts.now.items)); fine = λ source env all old. old }

pub loop-b-preserved : goal.loop-b-preserved
loop-b-preserved c = record {
  pieces = λ source around.
      let b = c.b-item.result in
      let same : c.in_ok-name.name.items ≡ b.name.items = c.in_ok-name.ensures.items_if_clones_equal (λ x y h. h) ∙ c.deref.ensures.value in
      block_more around c.args.blocks.now c.loop-b.b-index b (parts_pieces source around c.args.parts.now.items) (parts_pieces source around c.loop-b.parts.items) _ c.loop-b-test.true c.b-item.is (c.loop-b.invariant.pieces source around)
      (part_more source around c.loop-b.parts.items c.push.new.self.items _ c.in_ok-push.ensures.items
      ∙ ap (λ (n : List ℕ). parts_pieces source around c.loop-b.parts.items ++ nested_piece around (record { name = n; items = map item c.items_of-items.result.now; turn = option turn b.turn }) ∷ []) same
      ∙ ap (λ (is : List tree.Item). parts_pieces source around c.loop-b.parts.items ++ nested_piece around (record { name = b.name.items; items = is; turn = option turn b.turn }) ∷ []) c.items_of-items.ensures);
  fine = λ source env all old.
      part_fine source env c.loop-b.parts.items c.push.new.self.items _ c.in_ok-push.ensures.items (c.loop-b.invariant.fine source env all old)
      (subst AreFineInside (sym c.items_of-items.ensures) (each_at (λ (b : Nested). AreFineInside b.items) code.nested c.args.blocks.now c.loop-b.b-index c.b-item.result c.loop-b-test.true c.b-item.is all));
}

pub returns : goal.returns
returns c = record {
  pieces = λ source around.
      c.loop-b.invariant.pieces source around
      ∙ ap (λ (xs : List declared.Nested). parts_pieces source around c.args.parts.now.items ++ map (nested_piece around) (map code.nested xs)) (take_all c.loop-b.b-index c.args.blocks.now c.loop-b-test.false);
  fine = c.loop-b.invariant.fine;
}
