use Rattle.std.proofs.Common.{◌++◌, List, Option, sym, ap, ◌∙◌}
use Rattle.vs_ast.specs.declared.expressions.Expr.{Expr}
use Rattle.vs_ast.specs.Views as view
use Rattle.vs_elaborated.specs.Pieces.{Piece}
use Rattle.vs_elab.specs.Pending.{parts_pieces}
use Rattle.vs_elab.proofs.FineParts.{part_fine, said_given, value_given}
use Rattle.vs_elab.proofs.PendingParts.{part_more}
use Rattle.vs_elab.proofs.pending.push_declarator.Goals as goal

pub returns-in-None-clause-fine : goal.returns-in-None-clause-fine
returns-in-None-clause-fine c = λ source env w old. old

pub returns-in_ok-push-in-Some : goal.returns-in_ok-push-in-Some
returns-in_ok-push-in-Some c =
    let kind = view.signal_kind c.args.kind in
    let d = view.declarator c.args.d.now in
    let e = view.expr c.in-Some.value in
    let is = ap (λ (o : Option Expr). view.option view.expr o) c.in-Some.is in
    record {
      pieces = λ source around.
          part_more source around c.args.parts.now.items c.push.new.self.items c.value_part-part.result c.in_ok-push-in-Some.ensures.items
          ∙ ap (λ (ps : List Piece). parts_pieces source around c.args.parts.now.items ++ ps) (c.value_part-part.ensures.pieces source around ∙ sym (said_given around.env c.args.place kind d e is));
      fine = λ source env w old.
          part_fine source env c.args.parts.now.items c.push.new.self.items c.value_part-part.result c.in_ok-push-in-Some.ensures.items old (c.value_part-part.ensures.fine source env (value_given env kind d e is w));
    }
