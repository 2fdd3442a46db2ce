use Rattle.std.proofs.Common.{◌++◌, List, sym, ap, ◌∙◌, subst}
use Rattle.vs_elaborated.specs.Pieces.{Piece}
use Rattle.vs_elaborated.specs.Surveys.{ports_said}
use Rattle.vs_scope.specs.Contents.{contents_header, contents_items}
use Rattle.vs_elab.specs.declared.pending.Part.{Part}
use Rattle.vs_elab.specs.Fine.{AreFineParts, plains_said}
use Rattle.vs_elab.specs.Pending.{parts_pieces}
use Rattle.vs_elab.proofs.parts.parts_of.Goals as goal

pub returns : goal.returns
returns c = record {
  pieces = λ source around ms same.
      c.in_ok-push_contents.ensures.pieces source around ms same
      ∙ ap (λ (ps : List Piece). ps ++ (plains_said source around (contents_items c.args.contents) ms).pieces)
      (c.in_ok-push_values.ensures.pieces source around ∙ ap (λ (xs : List Part). parts_pieces source around xs ++ (ports_said around.env (contents_header c.args.contents)).pieces) c.new-parts.ensures.items);
  fine = λ source around ms same h f.
      c.in_ok-push_contents.ensures.fine source around ms same f (c.in_ok-push_values.ensures.fine source around h (subst (AreFineParts source around.env) (sym c.new-parts.ensures.items) tt));
}
