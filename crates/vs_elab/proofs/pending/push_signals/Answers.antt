use Rattle.std.proofs.Common.{◌≡◌, ◌++◌, List, OnOk, map, sym, subst}
use Rattle.vs_grammar.specs.Shapes.{Each}
use Rattle.vs_ast.specs.declared.items.Declarator.{Declarator}
use Rattle.vs_ast.specs.Views as view
use Rattle.vs_elaborated.specs.Pieces.{all_said}
use Rattle.vs_elaborated.specs.Surveys.{declarator_said}
use Rattle.vs_elab.specs.Fine.{IsFineDeclarator}
use Rattle.vs_elab.specs.Pending.{parts_pieces}
use Rattle.vs_elab.proofs.pending.push_signals.Goals as goal

pub returns : goal.returns
returns c =
    let t = view.signals c.args.s.now in
    record {
      pieces = λ source around.
          subst (λ (xs : List Declarator). OnOk c.push_declarators.result (parts_pieces source around c.push_declarators.new.parts.items ≡ parts_pieces source around c.args.parts.now.items ++ (all_said (declarator_said around.env t.place t.kind) (map view.declarator xs)).pieces))
          c.deref.ensures.value (c.push_declarators.ensures.pieces source around);
      fine = λ source env f. c.push_declarators.ensures.fine source env (subst (λ (xs : List Declarator). Each (IsFineDeclarator env t.kind) (map view.declarator xs)) (sym c.deref.ensures.value) f);
    }
