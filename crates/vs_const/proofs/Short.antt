-- A constant whose value no fault leaves undefined has 1 to 64 bits, so its value can be told.
use Rattle.std.proofs.Common.{◌≡◌, ℕ, ◌≤◌, Bool, true, false, not, ◌&&◌, Option, Some, None, [], IfSome, refl, sym, ap, ◌∙◌, subst}
use Rattle.std.proofs.lemmas.Bool.{ltb-false}
use Rattle.vs_design.specs.Expressions.{Literal, width}
use Rattle.vs_grammar.specs.Trees as tree
use Rattle.vs_grammar.specs.Trees.{expr_place}
use Rattle.vs_grammar.specs.Shapes.{IsExpr}
use Rattle.vs_const.specs.Meanings.{Find, IsFair, steady}
use Rattle.vs_const.specs.Typed.{Typed, is_over, noted, unary_typed, binary_typed, choice_typed, copies_typed, fine}
use Rattle.vs_const.specs.Expressions.{replication_typed, call_typed, argument_needed, applied, typed, selected, typed_parts, typed_arguments}
use Rattle.vs_const.specs.declared.forms.Form.{Form}
use Rattle.vs_const.specs.declared.found.Found.{Found}
use Rattle.vs_const.specs.Found.{IsOf, Finds, AreValued, Says}
use Rattle.vs_const.proofs.Good.{typed_long}

short_noted : (place : ℕ) (t : Typed) → (noted true place t).good ≡ true → is_over 64 (noted true place t).length ≡ false
short_noted place t h = of t.good (is_over 64 t.length) h
  where
    of : (a b : Bool) → (a && not b) ≡ true → b ≡ false
    of true false k = refl
    of true true k = cc
    of false b k = cc

pub short : (e : tree.Expr) (find : Find) → (typed e find true).good ≡ true → is_over 64 (typed e find true).length ≡ false
short (tree.Number n) find h = short_noted n.place (fine (Literal n.bits n.signed n.sized) []) h
short (tree.Named name select) find h = short_noted name.place (selected select name find true) h
short (tree.Apply name arguments) find h = short_noted name.place (applied true name.place (find name.bytes) (typed_arguments arguments find true)) h
short (tree.Unary place op a) find h = short_noted place (unary_typed op (typed a find true)) h
short (tree.Binary op a b) find h = short_noted (expr_place a) (binary_typed op (typed a find true) (typed b find true)) h
short (tree.Choice c p q) find h = short_noted (expr_place c) (choice_typed (typed c find true) (typed p find true) (typed q find true)) h
short (tree.Concatenation place parts) find h = short_noted place (copies_typed 1 (typed_parts parts find true)) h
short (tree.Replication place count parts) find h = short_noted place (replication_typed (expr_place count) (typed count (steady find) true) (typed_parts parts find true)) h
short (tree.Call place function a) find h = short_noted place (call_typed function (expr_place a) (typed a find (argument_needed function true))) h
short (tree.Brackets place e) find h = short_noted place (typed e find true) h

pub at_most_64 : (e : tree.Expr) (find : Find) → IsFair find → IsExpr e → (typed e find true).good ≡ true → width (typed e find true).expression ≤ 64
at_most_64 e find fair x h = ltb-false 64 (width (typed e find true).expression) (ap (is_over 64) (sym (typed_long find fair e x h).length) ∙ short e find h)

pub valued : (e : tree.Expr) (find : Find) → IsFair find → IsExpr e → (c : Found) → Finds true c (typed e find true) → AreValued c.form
valued e find fair x c h = of c.form h.keeps.sound
  where
    of : (o : Option Form) → IfSome o (λ f. IsOf f (typed e find true)) → AreValued o
    of None k = tt
    of (Some f) k = (subst (λ z. width z ≤ 64) (sym k.same) (at_most_64 e find fair x k.good), k.well)

pub says : (needed : Bool) (e : tree.Expr) (find : Find) → IsFair find → IsExpr e → (c : Found) → needed ≡ true → Finds needed c (typed e find needed) → Says needed c (typed e find needed)
says true e find fair x c n h = record { finds = h; valued = valued e find fair x c h }
says false e find fair x c n h = cc
