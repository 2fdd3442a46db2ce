use Rattle.std.proofs.Common.{◌≡◌, ◌<◌, ◌++◌, [], List, length, map, take, sym, ap, ◌∙◌, arith}
use Rattle.std.proofs.lemmas.List.{append-nil, take_all}
use Rattle.vs_ast.specs.declared.items.Item.{Item}
use Rattle.vs_ast.specs.Views as view
use Rattle.vs_elaborated.specs.Generate.{Made, nothing_made}
use Rattle.vs_scope.specs.Made as code
use Rattle.vs_elab.specs.Fine.{plains_said}
use Rattle.vs_elab.specs.Pending.{parts_pieces}
use Rattle.vs_elab.proofs.FineItems.{item_at}
use Rattle.vs_elab.proofs.PartItems.{alike_at, alike_length, made_at, item_more}
use Rattle.vs_elab.proofs.parts.push_items.Goals as goal

pub loop-i-init : goal.loop-i-init
loop-i-init c = record { pieces = λ source around ms same. sym (append-nil (parts_pieces source around c.args.parts.now.items)); fine = λ source around ms same all old. old }

pub loop-i-preserved : goal.loop-i-preserved
loop-i-preserved c = record {
  pieces = λ source around ms same.
      let many : length ms ≡ length c.args.items.now = alike_length code.made code.kept c.args.made.now ms same ∙ c.requires in
      let within : c.loop-i.i < length c.args.made.now = omega (arith, c.loop-i-test.true, c.requires) in
      item_more source around c.args.items.now ms c.loop-i.i c.index-items-i.result (parts_pieces source around c.args.parts.now.items) (parts_pieces source around c.loop-i.parts.items) _ c.loop-i-test.true c.index-items-i.is many
      (c.loop-i.invariant.pieces source around ms same)
      (c.in_ok-push_item.ensures.pieces source around (made_at ms c.loop-i.i) (alike_at code.made code.kept (nothing_made [] 0) c.args.made.now ms c.loop-i.i c.index-made-i.result same within c.index-made-i.is));
  fine = λ source around ms same all old.
      let many : length ms ≡ length c.args.items.now = alike_length code.made code.kept c.args.made.now ms same ∙ c.requires in
      let within : c.loop-i.i < length c.args.made.now = omega (arith, c.loop-i-test.true, c.requires) in
      c.in_ok-push_item.ensures.fine source around (made_at ms c.loop-i.i) (alike_at code.made code.kept (nothing_made [] 0) c.args.made.now ms c.loop-i.i c.index-made-i.result same within c.index-made-i.is)
      (item_at source around c.args.items.now ms c.loop-i.i c.index-items-i.result c.loop-i-test.true c.index-items-i.is many all)
      (c.loop-i.invariant.fine source around ms same all old);
}

pub returns : goal.returns
returns c = record {
  pieces = λ source around ms same.
      let many : length ms ≡ length c.args.items.now = alike_length code.made code.kept c.args.made.now ms same ∙ c.requires in
      c.loop-i.invariant.pieces source around ms same
      ∙ ap (λ (xs : List Made). parts_pieces source around c.args.parts.now.items ++ (plains_said source around (map view.item (take c.loop-i.i c.args.items.now)) xs).pieces) (take_all c.loop-i.i ms (omega (arith, many, c.loop-i-test.false)))
      ∙ ap (λ (xs : List Item). parts_pieces source around c.args.parts.now.items ++ (plains_said source around (map view.item xs) ms).pieces) (take_all c.loop-i.i c.args.items.now c.loop-i-test.false);
  fine = c.loop-i.invariant.fine;
}
