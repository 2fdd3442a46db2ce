use Rattle.std.proofs.Common.{◌≡◌, ◌++◌, [], List, OnOk, subst, ◌∙◌, arith}
use Rattle.vs_ast.specs.Views as view
use Rattle.vs_elaborated.specs.Generate.{nothing_made}
use Rattle.vs_elaborated.specs.Pieces.{Piece}
use Rattle.vs_scope.specs.Made as code
use Rattle.vs_elab.specs.Pending.{parts_pieces}
use Rattle.vs_elab.proofs.FineItems.{one_fine}
use Rattle.vs_elab.proofs.PartItems.{alike_at, alike_length, made_at, one_item}
use Rattle.vs_elab.proofs.parts.push_one.Goals as goal

pub returns : goal.returns
returns c = record {
  pieces = λ source around ms same.
      subst (λ (ps : List Piece). OnOk c.push_item.result (parts_pieces source around c.push_item.new.parts.items ≡ parts_pieces source around c.args.parts.now.items ++ ps))
      (one_item source around (view.item c.args.item.now) ms (alike_length code.made code.kept c.args.made.now ms same ∙ c.requires))
      (c.push_item.ensures.pieces source around (made_at ms 0) (alike_at code.made code.kept (nothing_made [] 0) c.args.made.now ms 0 c.index-made-0.result same (omega (arith, c.requires)) c.index-made-0.is));
  fine = λ source around ms same all.
      c.push_item.ensures.fine source around (made_at ms 0) (alike_at code.made code.kept (nothing_made [] 0) c.args.made.now ms 0 c.index-made-0.result same (omega (arith, c.requires)) c.index-made-0.is)
      (one_fine source around (view.item c.args.item.now) ms (alike_length code.made code.kept c.args.made.now ms same ∙ c.requires) all);
}
