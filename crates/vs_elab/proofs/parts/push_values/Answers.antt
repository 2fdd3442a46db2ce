use Rattle.std.proofs.Common.{◌≡◌, ◌++◌, OnOk, sym, ap, ◌∙◌, subst}
use Rattle.std.proofs.lemmas.List.{append-nil}
use Rattle.vs_elaborated.specs.Surveys.{ports_said}
use Rattle.vs_scope.specs.declared.contents.Contents.{Contents}
use Rattle.vs_scope.specs.Contents.{contents_header}
use Rattle.vs_elab.specs.Fine.{IsFineHeader}
use Rattle.vs_elab.specs.Pending.{parts_pieces}
use Rattle.vs_elab.proofs.parts.push_values.Goals as goal

pub returns-in-Module : goal.returns-in-Module
returns-in-Module c = record {
  pieces = λ source around.
      subst (λ (x : Contents). OnOk c.push_header.result (parts_pieces source around c.push_header.new.parts.items ≡ parts_pieces source around c.args.parts.now.items ++ (ports_said around.env (contents_header x)).pieces)) (sym c.in-Module.is)
      (c.push_header.ensures.pieces source around);
  fine = λ source around f. c.push_header.ensures.fine source around.env (subst (λ (x : Contents). IsFineHeader around.env (contents_header x)) c.in-Module.is f);
}

pub returns-in-Block : goal.returns-in-Block
returns-in-Block c = record {
  pieces = λ source around.
      sym (ap (λ (x : Contents). parts_pieces source around c.args.parts.now.items ++ (ports_said around.env (contents_header x)).pieces) c.in-Block.is ∙ append-nil (parts_pieces source around c.args.parts.now.items));
  fine = λ source around f old. old;
}
