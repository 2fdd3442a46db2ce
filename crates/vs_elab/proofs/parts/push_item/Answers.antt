use Rattle.std.proofs.Common.{◌≡◌, ◌++◌, List, OnOk, map, sym, ap, ◌∙◌, subst}
use Rattle.vs_grammar.specs.Shapes.{Each}
use Rattle.vs_ast.specs.declared.items.Item.{Item}
use Rattle.vs_ast.specs.declared.items.Assign.{Assign}
use Rattle.vs_ast.specs.Views as view
use Rattle.vs_elaborated.specs.Generate.{Nested}
use Rattle.vs_elaborated.specs.Pieces.{Piece, all_said}
use Rattle.vs_elaborated.specs.Surveys.{assign_said, nested_piece}
use Rattle.vs_scope.specs.Made as code
use Rattle.vs_elab.specs.Fine.{IsFineAssign, AreFineInside, IsFineItem, plain_said}
use Rattle.vs_elab.specs.Pending.{parts_pieces}
use Rattle.vs_elab.proofs.FineItems.{declared_fine, assigns_fine, initial_fine, instances_fine}
use Rattle.vs_elab.proofs.FineParts.{part_fine}
use Rattle.vs_elab.proofs.PartItems.{other_pieces}
use Rattle.vs_elab.proofs.PendingParts.{part_more}
use Rattle.vs_elab.proofs.parts.push_item.Goals as goal

pub returns-in-Signals : goal.returns-in-Signals
returns-in-Signals c = record {
  pieces = λ source around m same.
      subst (λ (x : Item). OnOk c.push_signals.result (parts_pieces source around c.push_signals.new.parts.items ≡ parts_pieces source around c.args.parts.now.items ++ (plain_said source around (view.item x) m).pieces)) (sym c.in-Signals.is)
      (c.push_signals.ensures.pieces source around);
  fine = λ source around m same f.
      c.push_signals.ensures.fine source around.env (declared_fine source around (view.signals c.in-Signals.s) m (subst (λ (x : Item). IsFineItem source around (view.item x) m) c.in-Signals.is f));
}

pub returns-in-Assigns : goal.returns-in-Assigns
returns-in-Assigns c = record {
  pieces = λ source around m same.
      subst (λ (x : Item). OnOk c.push_assigns.result (parts_pieces source around c.push_assigns.new.parts.items ≡ parts_pieces source around c.args.parts.now.items ++ (plain_said source around (view.item x) m).pieces)) (sym c.in-Assigns.is)
      (subst (λ (xs : List Assign). OnOk c.push_assigns.result (parts_pieces source around c.push_assigns.new.parts.items ≡ parts_pieces source around c.args.parts.now.items ++ (all_said (assign_said around.env c.in-Assigns.place) (map view.assign xs)).pieces))
      c.deref.ensures.value (c.push_assigns.ensures.pieces source around));
  fine = λ source around m same f.
      c.push_assigns.ensures.fine source around.env
      (subst (λ (xs : List Assign). Each (IsFineAssign around.env) (map view.assign xs)) (sym c.deref.ensures.value)
      (assigns_fine source around c.in-Assigns.place _ m (subst (λ (x : Item). IsFineItem source around (view.item x) m) c.in-Assigns.is f)));
}

pub returns-in_ok-push-in-Always-clause-pieces : goal.returns-in_ok-push-in-Always-clause-pieces
returns-in_ok-push-in-Always-clause-pieces c = λ source around m same.
    let old = c.args.parts.now.items in
    subst (λ (x : Item). parts_pieces source around c.push.new.self.items ≡ parts_pieces source around old ++ (plain_said source around (view.item x) m).pieces) (sym c.in-Always.is)
    (part_more source around old c.push.new.self.items c.in_ok-part-in-Always.part c.in_ok-push-in-Always.ensures.items ∙ ap (λ (ps : List Piece). parts_pieces source around old ++ ps) (c.in_ok-part-in-Always.ensures.pieces source around))

pub returns-in_ok-push-in-Always-clause-fine : goal.returns-in_ok-push-in-Always-clause-fine
returns-in_ok-push-in-Always-clause-fine c = λ source around m same f old.
    part_fine source around.env c.args.parts.now.items c.push.new.self.items _ c.in_ok-push-in-Always.ensures.items old
    (let g = subst (λ (x : Item). IsFineItem source around (view.item x) m) c.in-Always.is f in c.in_ok-part-in-Always.ensures.fine source around g.stated g.shallow g.clean)

pub returns-in_ok-push-in-Initial-clause-fine : goal.returns-in_ok-push-in-Initial-clause-fine
returns-in_ok-push-in-Initial-clause-fine c = λ source around m same f old.
    part_fine source around.env c.args.parts.now.items c.push-in-Initial.new.self.items _ c.in_ok-push-in-Initial.ensures.items old
    (initial_fine source around (view.initial_block c.in-Initial.b) m (subst (λ (x : Item). IsFineItem source around (view.item x) m) c.in-Initial.is f))

pub returns-in-Instances : goal.returns-in-Instances
returns-in-Instances c = record {
  pieces = λ source around m same.
      subst (λ (x : Item). OnOk c.push_instances.result (parts_pieces source around c.push_instances.new.parts.items ≡ parts_pieces source around c.args.parts.now.items ++ (plain_said source around (view.item x) m).pieces)) (sym c.in-Instances.is)
      (c.push_instances.ensures.pieces source around);
  fine = λ source around m same f.
      c.push_instances.ensures.fine source around.env
      (instances_fine source around (view.instances c.in-Instances.t) m (subst (λ (x : Item). IsFineItem source around (view.item x) m) c.in-Instances.is f));
}

pub returns-in_default : goal.returns-in_default
returns-in_default c = record {
  pieces = λ source around m same.
      let blocks : map code.nested c.deref-in_default.result.now ≡ m.blocks = ap (map code.nested) c.deref-in_default.ensures.value ∙ ap (λ (k : code.Kept). k.blocks) same in
      subst (λ (ps : List Piece). OnOk c.push_blocks.result (parts_pieces source around c.push_blocks.new.parts.items ≡ parts_pieces source around c.args.parts.now.items ++ ps))
      (ap (map (nested_piece around)) blocks ∙ sym (other_pieces source around c.args.item.now m c.in_default.not-Signals c.in_default.not-Assigns c.in_default.not-Always c.in_default.not-Initial c.in_default.not-Instances)) (c.push_blocks.ensures.pieces source around);
  fine = λ source around m same f.
      let blocks : map code.nested c.deref-in_default.result.now ≡ m.blocks = ap (map code.nested) c.deref-in_default.ensures.value ∙ ap (λ (k : code.Kept). k.blocks) same in
      c.push_blocks.ensures.fine source around.env (subst (Each (λ (b : Nested). AreFineInside b.items)) (sym blocks) f.made);
}
