use Rattle.std.proofs.Common.{◌≡◌, ◌++◌, OnOk, sym, subst}
use Rattle.vs_scope.specs.declared.contents.BlockItems.{BlockItems}
use Rattle.vs_scope.specs.Contents.{block_items}
use Rattle.vs_elab.specs.Fine.{AreFineItems, plains_said}
use Rattle.vs_elab.specs.Pending.{parts_pieces}
use Rattle.vs_elab.proofs.parts.push_block.Goals as goal

pub returns-in-One : goal.returns-in-One
returns-in-One c = record {
  pieces = λ source around ms same.
      subst (λ (x : BlockItems). OnOk c.push_one.result (parts_pieces source around c.push_one.new.parts.items ≡ parts_pieces source around c.args.parts.now.items ++ (plains_said source around (block_items x) ms).pieces)) (sym c.in-One.is)
      (c.push_one.ensures.pieces source around ms same);
  fine = λ source around ms same all.
      c.push_one.ensures.fine source around ms same (subst (λ (x : BlockItems). AreFineItems source around (block_items x) ms) c.in-One.is all);
}

pub returns-in-Many : goal.returns-in-Many
returns-in-Many c = record {
  pieces = λ source around ms same.
      subst (λ (x : BlockItems). OnOk c.push_items.result (parts_pieces source around c.push_items.new.parts.items ≡ parts_pieces source around c.args.parts.now.items ++ (plains_said source around (block_items x) ms).pieces)) (sym c.in-Many.is)
      (c.push_items.ensures.pieces source around ms same);
  fine = λ source around ms same all.
      c.push_items.ensures.fine source around ms same (subst (λ (x : BlockItems). AreFineItems source around (block_items x) ms) c.in-Many.is all);
}
