use Rattle.std.proofs.Common.{◌≡◌, ◌++◌, List, OnOk, length, map, sym, ap, ◌∙◌, subst}
use Rattle.std.proofs.lemmas.List.{length-map}
use Rattle.vs_grammar.specs.Trees as tree
use Rattle.vs_ast.specs.Views as view
use Rattle.vs_scope.specs.declared.contents.Contents.{Contents}
use Rattle.vs_scope.specs.Contents.{contents_items}
use Rattle.vs_elab.specs.Fine.{AreFineItems, plains_said}
use Rattle.vs_elab.specs.Pending.{parts_pieces}
use Rattle.vs_elab.proofs.PartItems.{items_are}
use Rattle.vs_elab.proofs.parts.push_contents.Goals as goal

pub push_items-requires : goal.push_items-requires
push_items-requires c =
    c.requires
    ∙ ap (λ (is : List tree.Item). length is) (ap contents_items c.in-Module.is ∙ items_are c.in-Module.m.now.items.items ∙ ap (map view.item) (sym c.deref.ensures.value))
    ∙ length-map c.deref.result.now view.item

pub returns-in-Module : goal.returns-in-Module
returns-in-Module c =
    let all : contents_items c.args.contents ≡ map view.item c.deref.result.now =
    ap contents_items c.in-Module.is ∙ items_are c.in-Module.m.now.items.items ∙ ap (map view.item) (sym c.deref.ensures.value) in
    record {
      pieces = λ source around ms same.
          subst (λ (is : List tree.Item). OnOk c.push_items.result (parts_pieces source around c.push_items.new.parts.items ≡ parts_pieces source around c.args.parts.now.items ++ (plains_said source around is ms).pieces)) (sym all)
          (c.push_items.ensures.pieces source around ms same);
      fine = λ source around ms same f.
          c.push_items.ensures.fine source around ms same (subst (λ (is : List tree.Item). AreFineItems source around is ms) all f);
    }

pub returns-in-Block : goal.returns-in-Block
returns-in-Block c = record {
  pieces = λ source around ms same.
      subst (λ (x : Contents). OnOk c.push_block.result (parts_pieces source around c.push_block.new.parts.items ≡ parts_pieces source around c.args.parts.now.items ++ (plains_said source around (contents_items x) ms).pieces)) (sym c.in-Block.is)
      (c.push_block.ensures.pieces source around ms same);
  fine = λ source around ms same f.
      c.push_block.ensures.fine source around ms same (subst (λ (x : Contents). AreFineItems source around (contents_items x) ms) c.in-Block.is f);
}
