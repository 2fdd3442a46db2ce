use Rattle.std.proofs.Common.{◌≡◌, ◌||◌, Bool, false, ◌-◌, IfOk, List, Option, None, inl, inr, refl, subst, sym, ap, ◌∙◌, true, length, arith, ◌<◌}
use Rattle.vs_four.specs.declared.Range.{Range}
use denote.Param.Weighed.{most}
use Rattle.vs_ast.specs.Views as view
use Rattle.vs_ast.proofs.expressions.Expr.TheLaws.{the_size}
use Rattle.vs_ast.specs.declared.expressions.Expr.{Expr}
use Rattle.vs_ast.specs.declared.expressions.SliceKind.{SliceKind}
use Rattle.vs_grammar.specs.Trees as tree
use Rattle.vs_grammar.specs.Trees.{expr_place}
use Rattle.vs_grammar.specs.Shapes.{IsExpr, AreParts}
use Rattle.vs_const.specs.declared.found.Found.{Found}
use Rattle.vs_const.specs.Checks.{ChecksNumber, ChecksTaken}
use Rattle.vs_const.specs.Expressions.{selected, typed, typed_parts, typed_arguments, taken_by, number, replication_typed, call_typed, argument_needed, applied, call_rule}
use Rattle.vs_const.specs.Faults.{fault}
use Rattle.vs_const.specs.Typed.{broken, unary_typed, choice_typed, noted, number_of}
use Rattle.vs_const.specs.Selects.{wrong_rule, is_array, bit_typed, further_typed, word_range, moving}
use Rattle.vs_const.specs.Found.{Finds, Says}
use Rattle.vs_const.specs.Meanings.{Means, steady}
use Rattle.vs_const.specs.Needs.{is_needed, names_for}
use Rattle.vs_const.proofs.Rows.{some_part, part_shaped, part_at_most, last_arm, more_arm, no_argument_left, argument_arm, argument_count}
use Rattle.vs_const.proofs.CalledFunctions.{needed_arm, misnamed_arm}
use Rattle.vs_const.proofs.Steady.{fair_for, steady_number, argument_says, address_says}
use Rattle.vs_const.proofs.Sizes.{arguments_size, application_view, unary_size, left_size, right_size, condition_size, yes_size, no_size, parts_size, count_size, copied_size, call_size, brackets_size, falls, concatenation_view, replication_view}
use Rattle.vs_const.proofs.Arms.{binary_arm, clog2_arm, between_arm, moving_arm}
use Rattle.vs_const.proofs.RangeArms.{between_taken}
use Rattle.vs_const.proofs.WordArms.{other_word, needed_word, memory_word}
use Rattle.vs_const.proofs.checks.+evaluation.Goals as goal

pub find-returns-in_ok-b-in-Binary : goal.find-returns-in_ok-b-in-Binary
find-returns-in_ok-b-in-Binary g t c =
    subst (λ x. IfOk c.find_binary.result (λ s. Finds (is_needed c.args.need) s (typed (view.expr x) (names_for c.args.need (g.E.Env.names c.args.env.now)) (is_needed c.args.need)))) (sym c.in-Binary.is)
    (binary_arm (is_needed c.args.need) (names_for c.args.need (g.E.Env.names c.args.env.now)) c.in-Binary.op c.in-Binary.left.value c.in-Binary.right.value _ _ _ c.place_of.result c.in_ok-a-in-Binary.a c.in_ok-b-in-Binary.b c.find_binary.result
    c.deref-in-Binary.ensures c.deref-in-Binary-2.ensures c.deref-in-Binary-3.ensures c.place_of.ensures
    c.in_ok-a-in-Binary.ensures c.in_ok-b-in-Binary.ensures (rw c.is_needed-needed.ensures at c.find_binary.ensures))

pub find-returns-in_ok-c-in-Unary : goal.find-returns-in_ok-c-in-Unary
find-returns-in_ok-c-in-Unary g t c =
    let find = names_for c.args.need (g.E.Env.names c.args.env.now) in
    let a = typed (view.expr c.in-Unary.operand.value) find (is_needed c.args.need) in
    let says : Says (is_needed c.args.need) c.in_ok-a-in-Unary.a a = subst (λ x. Says (is_needed c.args.need) c.in_ok-a-in-Unary.a (typed (view.expr x) find (is_needed c.args.need))) c.deref-in-Unary.ensures c.in_ok-a-in-Unary.ensures in
    subst (λ x. IfOk c.find_brackets-in-Unary.result (λ s. Finds (is_needed c.args.need) s (typed (view.expr x) find (is_needed c.args.need)))) (sym c.in-Unary.is)
    ((rw c.is_needed-needed.ensures at c.find_brackets-in-Unary.ensures) (unary_typed c.in-Unary.op a) (c.in_ok-c-in-Unary.ensures (is_needed c.args.need) a says))

pub find_call-returns-in_ok-a-in-Clog2 : goal.find_call-returns-in_ok-a-in-Clog2
find_call-returns-in_ok-a-in-Clog2 g t c =
    subst (λ x. Finds (is_needed c.args.need) c.find_clog2.result (call_typed (view.system_function x) (expr_place (view.expr c.args.operand.now)) (typed (view.expr c.args.operand.now) (names_for c.args.need (g.E.Env.names c.args.env.now)) (argument_needed (view.system_function x) (is_needed c.args.need))))) (sym c.in-Clog2.is)
    (clog2_arm (is_needed c.args.need) (names_for c.args.need (g.E.Env.names c.args.env.now)) c.args.operand.now c.place_of.result c.in_ok-a-in-Clog2.a c.find_clog2.result c.place_of.ensures (argument_says c.argument_need.result c.args.need (g.E.Env.names c.args.env.now) c.in_ok-a-in-Clog2.a (view.expr c.args.operand.now) c.argument_need.ensures.needed (c.argument_need.ensures.names (g.E.Env.names c.args.env.now)) c.in_ok-a-in-Clog2.ensures) c.find_clog2.ensures)

pub find-look-requires : goal.find-look-requires
find-look-requires g t c κs within =
    let w = c.in-Unary in
    let less = falls c.args.e.now c.deref-in-Unary.result.now _ _ (unary_size w.place w.op w.operand) w.is c.deref-in-Unary.ensures in
    let shaped : IsExpr (view.expr c.deref-in-Unary.result.now) = subst (λ x. IsExpr (view.expr x)) (sym c.deref-in-Unary.ensures) (subst (λ x. IsExpr (view.expr x)) w.is c.requires.shaped) in
    (omega (arith, less, c.decreases), (within, (shaped, c.requires.fair)))

pub find-look-requires-in-Binary : goal.find-look-requires-in-Binary
find-look-requires-in-Binary g t c κs within =
    let w = c.in-Binary in
    let less = falls c.args.e.now c.deref-in-Binary.result.now _ _ (left_size w.op w.left w.right) w.is c.deref-in-Binary.ensures in
    let shaped : IsExpr (view.expr c.deref-in-Binary.result.now) = subst (λ x. IsExpr (view.expr x)) (sym c.deref-in-Binary.ensures) (subst (λ x. IsExpr (view.expr x)) w.is c.requires.shaped).0 in
    (omega (arith, less, c.decreases), (within, (shaped, c.requires.fair)))

pub find-look-requires-in-Binary-2 : goal.find-look-requires-in-Binary-2
find-look-requires-in-Binary-2 g t c κs within =
    let w = c.in-Binary in
    let less = falls c.args.e.now c.deref-in-Binary-2.result.now _ _ (right_size w.op w.left w.right) w.is c.deref-in-Binary-2.ensures in
    let shaped : IsExpr (view.expr c.deref-in-Binary-2.result.now) = subst (λ x. IsExpr (view.expr x)) (sym c.deref-in-Binary-2.ensures) (subst (λ x. IsExpr (view.expr x)) w.is c.requires.shaped).1 in
    (omega (arith, less, c.decreases), (within, (shaped, c.requires.fair)))

pub find-look-requires-in-Choice : goal.find-look-requires-in-Choice
find-look-requires-in-Choice g t c κs within =
    let w = c.in-Choice in
    let less = falls c.args.e.now c.deref-in-Choice.result.now _ _ (condition_size w.condition w.yes w.no) w.is c.deref-in-Choice.ensures in
    let shaped : IsExpr (view.expr c.deref-in-Choice.result.now) = subst (λ x. IsExpr (view.expr x)) (sym c.deref-in-Choice.ensures) (subst (λ x. IsExpr (view.expr x)) w.is c.requires.shaped).0 in
    (omega (arith, less, c.decreases), (within, (shaped, c.requires.fair)))

pub find-look-requires-in-Choice-2 : goal.find-look-requires-in-Choice-2
find-look-requires-in-Choice-2 g t c κs within =
    let w = c.in-Choice in
    let less = falls c.args.e.now c.deref-in-Choice-2.result.now _ _ (yes_size w.condition w.yes w.no) w.is c.deref-in-Choice-2.ensures in
    let shaped : IsExpr (view.expr c.deref-in-Choice-2.result.now) = subst (λ x. IsExpr (view.expr x)) (sym c.deref-in-Choice-2.ensures) (subst (λ x. IsExpr (view.expr x)) w.is c.requires.shaped).1 in
    (omega (arith, less, c.decreases), (within, (shaped, c.requires.fair)))

pub find-look-requires-in-Choice-3 : goal.find-look-requires-in-Choice-3
find-look-requires-in-Choice-3 g t c κs within =
    let w = c.in-Choice in
    let less = falls c.args.e.now c.deref-in-Choice-3.result.now _ _ (no_size w.condition w.yes w.no) w.is c.deref-in-Choice-3.ensures in
    let shaped : IsExpr (view.expr c.deref-in-Choice-3.result.now) = subst (λ x. IsExpr (view.expr x)) (sym c.deref-in-Choice-3.ensures) (subst (λ x. IsExpr (view.expr x)) w.is c.requires.shaped).2 in
    (omega (arith, less, c.decreases), (within, (shaped, c.requires.fair)))

pub find-steady_number-requires : goal.find-steady_number-requires
find-steady_number-requires g t c κs within =
    let w = c.in-Replication in
    let less = falls c.args.e.now c.deref-in-Replication-2.result.now _ _ (count_size w.place w.count w.parts) w.is c.deref-in-Replication-2.ensures in
    let shaped : IsExpr (view.expr c.deref-in-Replication-2.result.now) = subst (λ x. IsExpr (view.expr x)) (sym c.deref-in-Replication-2.ensures) (subst IsExpr (ap view.expr w.is ∙ replication_view w.place w.count w.parts) c.requires.shaped).0 in
    (omega (arith, less, c.decreases), (within, (shaped, c.requires.fair)))

pub find-find_call-requires : goal.find-find_call-requires
find-find_call-requires g t c κs within =
    let w = c.in-Call in
    let less = falls c.args.e.now c.deref-in-Call.result.now _ _ (call_size w.place w.function w.operand) w.is c.deref-in-Call.ensures in
    let shaped : IsExpr (view.expr c.deref-in-Call.result.now) = subst (λ x. IsExpr (view.expr x)) (sym c.deref-in-Call.ensures) (subst (λ x. IsExpr (view.expr x)) w.is c.requires.shaped) in
    (omega (arith, less, c.decreases), (within, (shaped, c.requires.fair)))

pub find-find_applied-requires : goal.find-find_applied-requires
find-find_applied-requires g t c κs within =
    let w = c.in-Apply in
    let list = c.deref.ensures.value in
    let less : most the_size c.deref.result.now < the_size c.args.e.now = subst (λ es. most the_size es < the_size c.args.e.now) (sym list) (subst (λ x. most the_size w.arguments.items < the_size x) (sym w.is) (arguments_size w.name w.arguments)) in
    let shaped : AreParts (view.exprs c.deref.result.now) = subst (λ es. AreParts (view.exprs es)) (sym list) (subst IsExpr (ap view.expr w.is ∙ application_view w.name w.arguments) c.requires.shaped).1 in
    (omega (arith, less, c.decreases), (within, (shaped, c.requires.fair)))

pub find-find-requires : goal.find-find-requires
find-find-requires g t c κs within =
    let w = c.in-Brackets in
    let less = falls c.args.e.now c.deref-in-Brackets.result.now _ _ (brackets_size w.place w.inner) w.is c.deref-in-Brackets.ensures in
    let shaped : IsExpr (view.expr c.deref-in-Brackets.result.now) = subst (λ x. IsExpr (view.expr x)) (sym c.deref-in-Brackets.ensures) (subst (λ x. IsExpr (view.expr x)) w.is c.requires.shaped) in
    (omega (arith, less, c.decreases), (within, (shaped, c.requires.fair)))

pub find-find_parts-requires : goal.find-find_parts-requires
find-find_parts-requires g t c κs within =
    let w = c.in-Concatenation in
    let list = c.deref-in-Concatenation.ensures.value in
    let less : most the_size c.deref-in-Concatenation.result.now < the_size c.args.e.now = subst (λ es. most the_size es < the_size c.args.e.now) (sym list) (subst (λ x. most the_size w.parts.items < the_size x) (sym w.is) (parts_size w.place w.parts)) in
    let shaped : AreParts (view.exprs c.deref-in-Concatenation.result.now) = subst (λ es. AreParts (view.exprs es)) (sym list) (subst IsExpr (ap view.expr w.is ∙ concatenation_view w.place w.parts) c.requires.shaped) in
    (omega (arith, less, c.decreases), (within, (shaped, c.requires.fair)))

pub find-find_parts-requires-in-Replication : goal.find-find_parts-requires-in-Replication
find-find_parts-requires-in-Replication g t c κs within =
    let w = c.in-Replication in
    let list = c.deref-in-Replication.ensures.value in
    let less : most the_size c.deref-in-Replication.result.now < the_size c.args.e.now = subst (λ es. most the_size es < the_size c.args.e.now) (sym list) (subst (λ x. most the_size w.parts.items < the_size x) (sym w.is) (copied_size w.place w.count w.parts)) in
    let shaped : AreParts (view.exprs c.deref-in-Replication.result.now) = subst (λ es. AreParts (view.exprs es)) (sym list) (subst IsExpr (ap view.expr w.is ∙ replication_view w.place w.count w.parts) c.requires.shaped).1 in
    (omega (arith, less, c.decreases), (within, (shaped, c.requires.fair)))

pub find-returns-in_ok-c-in-Concatenation : goal.find-returns-in_ok-c-in-Concatenation
find-returns-in_ok-c-in-Concatenation g t c =
    let w = c.in-Concatenation in
    let find = names_for c.args.need (g.E.Env.names c.args.env.now) in
    let finds = subst (λ es. Finds (is_needed c.args.need) c.in_ok-c-in-Concatenation.c (typed_parts (view.exprs es) find (is_needed c.args.need))) c.deref-in-Concatenation.ensures.value c.in_ok-c-in-Concatenation.ensures in
    subst (λ x. IfOk c.find_concatenation.result (λ s. Finds (is_needed c.args.need) s (typed x find (is_needed c.args.need)))) (sym (ap view.expr w.is ∙ concatenation_view w.place w.parts))
    ((rw c.is_needed-needed.ensures at c.find_concatenation.ensures) (typed_parts (view.exprs w.parts.items) find (is_needed c.args.need)) finds)

pub find-returns-in_ok-c-in-Apply : goal.find-returns-in_ok-c-in-Apply
find-returns-in_ok-c-in-Apply g t c =
    let w = c.in-Apply in
    let n = is_needed c.args.need in
    let find = names_for c.args.need (g.E.Env.names c.args.env.now) in
    let said = λ (es : List Expr). applied n w.name.place (find (view.name w.name).bytes) (typed_arguments (view.exprs es) find n) in
    let finds = subst (λ es. Finds n c.in_ok-c-in-Apply.c (said es)) c.deref.ensures.value c.in_ok-c-in-Apply.ensures in
    subst (λ x. IfOk c.find_brackets-in-Apply.result (λ s. Finds n s (typed x find n))) (sym (ap view.expr w.is ∙ application_view w.name w.arguments))
    ((rw c.is_needed-needed.ensures at c.find_brackets-in-Apply.ensures) (said w.arguments.items) finds)

pub find-returns-in_ok-n-in-Replication : goal.find-returns-in_ok-n-in-Replication
find-returns-in_ok-n-in-Replication g t c =
    let w = c.in-Replication in
    let find = names_for c.args.need (g.E.Env.names c.args.env.now) in
    let count = view.expr w.count.value in
    let finds = subst (λ es. Finds (is_needed c.args.need) c.in_ok-c-in-Replication.c (typed_parts (view.exprs es) find (is_needed c.args.need))) c.deref-in-Replication.ensures.value c.in_ok-c-in-Replication.ensures in
    let at : c.place_of-in-Replication.result ≡ expr_place count = c.place_of-in-Replication.ensures ∙ ap (λ x. expr_place (view.expr x)) c.deref-in-Replication-3.ensures in
    let checks : ChecksNumber c.in_ok-n-in-Replication.n (number count (steady find)) = subst (λ x. ChecksNumber c.in_ok-n-in-Replication.n (number (view.expr x) (steady find))) c.deref-in-Replication-2.ensures (steady_number c.args.need (g.E.Env.names c.args.env.now) c.in_ok-n-in-Replication.n (view.expr c.deref-in-Replication-2.result.now) c.in_ok-n-in-Replication.ensures) in
    subst (λ x. IfOk c.find_replication.result (λ s. Finds (is_needed c.args.need) s (typed x find (is_needed c.args.need)))) (sym (ap view.expr w.is ∙ replication_view w.place w.count w.parts))
    (subst (λ p. IfOk c.find_replication.result (λ s. Finds (is_needed c.args.need) s (noted (is_needed c.args.need) w.place (replication_typed p (typed count (steady find) true) (typed_parts (view.exprs w.parts.items) find (is_needed c.args.need)))))) at
    ((rw c.is_needed-needed.ensures at c.find_replication.ensures) (typed count (steady find) true) (typed_parts (view.exprs w.parts.items) find (is_needed c.args.need)) (subst (λ p. ChecksNumber c.in_ok-n-in-Replication.n (number_of p (typed count (steady find) true))) (sym at) checks) finds))

pub find-returns-in_ok-q-in-Choice : goal.find-returns-in_ok-q-in-Choice
find-returns-in_ok-q-in-Choice g t c =
    let w = c.in-Choice in
    let find = names_for c.args.need (g.E.Env.names c.args.env.now) in
    let says = λ (f : Found) (x : Expr). Says (is_needed c.args.need) f (typed (view.expr x) find (is_needed c.args.need)) in
    let all = choice_typed (typed (view.expr w.condition.value) find (is_needed c.args.need)) (typed (view.expr w.yes.value) find (is_needed c.args.need)) (typed (view.expr w.no.value) find (is_needed c.args.need)) in
    subst (λ x. IfOk c.find_choice.result (λ s. Finds (is_needed c.args.need) s (typed (view.expr x) find (is_needed c.args.need)))) (sym w.is)
    (subst (λ p. IfOk c.find_choice.result (λ s. Finds (is_needed c.args.need) s (noted (is_needed c.args.need) p all))) (c.place_of-in-Choice.ensures ∙ ap (λ x. expr_place (view.expr x)) c.deref-in-Choice-4.ensures)
    ((rw c.is_needed-needed.ensures at c.find_choice.ensures) _ _ _ (subst (says c.in_ok-c-in-Choice.c) c.deref-in-Choice.ensures c.in_ok-c-in-Choice.ensures) (subst (says c.in_ok-p-in-Choice.p) c.deref-in-Choice-2.ensures c.in_ok-p-in-Choice.ensures) (subst (says c.in_ok-q-in-Choice.q) c.deref-in-Choice-3.ensures c.in_ok-q-in-Choice.ensures)))

pub find_applied-returns-then-needed : goal.find_applied-returns-then-needed
find_applied-returns-then-needed g t c =
    let n = is_needed c.args.need in
    let find = names_for c.args.need (g.E.Env.names c.args.env.now) in
    let name = view.name c.args.name.now in
    let means : Means c.meant-named.result (find name.bytes) = subst (λ b. Means c.meant-named.result (find b)) c.as_slice.ensures c.meant-named.ensures in
    needed_arm n name.place c.in-Function.f (find name.bytes) (typed_arguments (view.exprs c.args.arguments.now) find n) c.find_misnamed.result (sym c.is_needed-needed.ensures ∙ c.if-needed.true)
    (subst (λ k. Means k (find name.bytes)) c.in-Function.is means) (c.find_misnamed.ensures n)

pub find_applied-returns-in_default : goal.find_applied-returns-in_default
find_applied-returns-in_default g t c =
    let n = is_needed c.args.need in
    let find = names_for c.args.need (g.E.Env.names c.args.env.now) in
    let name = view.name c.args.name.now in
    let means : Means c.meant-named.result (find name.bytes) = subst (λ b. Means c.meant-named.result (find b)) c.as_slice.ensures c.meant-named.ensures in
    let rule : c.call_rule.result ≡ call_rule n (find name.bytes) = (rw c.is_needed-needed.ensures at c.call_rule.ensures) (find name.bytes) means in
    misnamed_arm n name.place c.meant-named.result (find name.bytes) (typed_arguments (view.exprs c.args.arguments.now) find n) c.find_misnamed-in_default.result c.in_default.not-Function means
    (subst (λ k. Finds n c.find_misnamed-in_default.result (broken None (fault k name.place))) rule (c.find_misnamed-in_default.ensures n))

pub find_selected-returns-in-Whole : goal.find_selected-returns-in-Whole
find_selected-returns-in-Whole g t c =
    let n = is_needed c.args.need in
    let find = names_for c.args.need (g.E.Env.names c.args.env.now) in
    let name = view.name c.args.name.now in
    subst (λ x. Finds n c.find_name.result (selected (view.select x) name find n)) (sym c.in-Whole.is)
    ((rw c.is_needed-needed.ensures at c.find_name.ensures) (find name.bytes) (fair_for c.args.need (g.E.Env.names c.args.env.now) c.requires.fair name.bytes)
    (subst (λ b. Means c.meant-named.result (find b)) c.as_slice.ensures c.meant-named.ensures))

pub find_selected-returns-then-needed : goal.find_selected-returns-then-needed
find_selected-returns-then-needed g t c =
    let n = is_needed c.args.need in
    let find = names_for c.args.need (g.E.Env.names c.args.env.now) in
    let name = view.name c.args.name.now in
    let means : Means c.meant-named.result (find name.bytes) = subst (λ b. Means c.meant-named.result (find b)) c.as_slice.ensures c.meant-named.ensures in
    subst (λ x. Finds n c.find_misnamed.result (selected (view.select x) name find n)) (sym c.in-Word.is)
    (needed_word n name.place c.in-Memory.s (find name.bytes) (expr_place (view.expr c.in-Word.address.value)) (typed (view.expr c.in-Word.address.value) find (is_array (find name.bytes) || n)) (taken_by (word_range (find name.bytes)) (view.select c.in-Word.part.value) find n) c.find_misnamed.result
    (sym c.is_needed-needed.ensures ∙ c.if-needed.true) (subst (λ k. Means k (find name.bytes)) c.in-Memory.is means) (c.find_misnamed.ensures n))

pub find_selected-returns-in_ok-bits-in-Memory : goal.find_selected-returns-in_ok-bits-in-Memory
find_selected-returns-in_ok-bits-in-Memory g t c =
    let n = is_needed c.args.need in
    let names = g.E.Env.names c.args.env.now in
    let find = names_for c.args.need names in
    let name = view.name c.args.name.now in
    let m = find name.bytes in
    let e = c.in-Word.address.value in
    let at = expr_place (view.expr e) in
    let means : Means c.meant-named.result m = subst (λ b. Means c.meant-named.result (find b)) c.as_slice.ensures c.meant-named.ensures in
    let take = λ (q : Option Range). taken_by q (view.select c.in-Word.part.value) find n in
    let says : Says (is_array m || n) c.in_ok-at-in-Memory.at (typed (view.expr e) find (is_array m || n)) =
    subst (λ x. Says (is_array m || n) c.in_ok-at-in-Memory.at (typed (view.expr x) find (is_array m || n))) c.deref-else-needed.ensures
    (address_says c.address_need-else-needed.result c.args.need names c.in_ok-at-in-Memory.at (view.expr c.deref-else-needed.result.now) (is_array m || n) (c.address_need-else-needed.ensures.needed m (subst (λ k. Means k m) c.in-Memory.is means)) (c.address_need-else-needed.ensures.names names) c.in_ok-at-in-Memory.ensures)
    in
    let place : c.place_of-else-needed.result ≡ at = c.place_of-else-needed.ensures ∙ ap (λ x. expr_place (view.expr x)) c.deref-else-needed-3.ensures in
    let bits : ChecksTaken c.in_ok-bits-in-Memory.bits (take c.in-Memory.s.range) = subst (λ x. ChecksTaken c.in_ok-bits-in-Memory.bits (taken_by c.in-Memory.s.range (view.select x) find n)) c.deref-else-needed-2.ensures c.in_ok-bits-in-Memory.ensures in
    subst (λ x. Finds n c.find_word_part.result (selected (view.select x) name find n)) (sym c.in-Word.is)
    (subst (λ k. Finds n c.find_word_part.result (further_typed n name.place m k (typed (view.expr e) find (is_array m || n)) (take (word_range m)))) place
    (memory_word n name.place c.in-Memory.s m c.place_of-else-needed.result (typed (view.expr e) find (is_array m || n)) take c.in_ok-at-in-Memory.at c.in_ok-bits-in-Memory.bits c.find_word_part.result
    (sym c.is_needed-needed.ensures ∙ c.if-needed.false) (subst (λ k. Means k m) c.in-Memory.is means) says bits c.find_word_part.ensures))

pub find_selected-returns-in_default : goal.find_selected-returns-in_default
find_selected-returns-in_default g t c =
    let n = is_needed c.args.need in
    let find = names_for c.args.need (g.E.Env.names c.args.env.now) in
    let name = view.name c.args.name.now in
    let means : Means c.meant-named.result (find name.bytes) = subst (λ b. Means c.meant-named.result (find b)) c.as_slice.ensures c.meant-named.ensures in
    let rule : c.wrong_rule.result ≡ wrong_rule n (find name.bytes) = (rw c.is_needed-needed.ensures at c.wrong_rule.ensures) (find name.bytes) means in
    subst (λ x. Finds n c.find_misnamed-in_default.result (selected (view.select x) name find n)) (sym c.in-Word.is)
    (other_word n name.place c.meant-named.result (find name.bytes) (expr_place (view.expr c.in-Word.address.value)) (typed (view.expr c.in-Word.address.value) find (is_array (find name.bytes) || n)) (taken_by (word_range (find name.bytes)) (view.select c.in-Word.part.value) find n) c.find_misnamed-in_default.result
    c.in_default.not-Memory means (subst (λ k. Finds n c.find_misnamed-in_default.result (broken None (fault k name.place))) rule (c.find_misnamed-in_default.ensures n)))

pub find_selected-returns-in_ok-i-in-Bit : goal.find_selected-returns-in_ok-i-in-Bit
find_selected-returns-in_ok-i-in-Bit g t c =
    let n = is_needed c.args.need in
    let names = g.E.Env.names c.args.env.now in
    let find = names_for c.args.need names in
    let name = view.name c.args.name.now in
    let m = find name.bytes in
    let e = c.in-Bit.index.value in
    let i = typed (view.expr e) find (is_array m || n) in
    let means : Means c.meant-named.result m = subst (λ b. Means c.meant-named.result (find b)) c.as_slice.ensures c.meant-named.ensures in
    let says : Says (is_array m || n) c.in_ok-i-in-Bit.i i =
    subst (λ x. Says (is_array m || n) c.in_ok-i-in-Bit.i (typed (view.expr x) find (is_array m || n))) c.deref.ensures
    (address_says c.address_need.result c.args.need names c.in_ok-i-in-Bit.i (view.expr c.deref.result.now) (is_array m || n) (c.address_need.ensures.needed m means) (c.address_need.ensures.names names) c.in_ok-i-in-Bit.ensures)
    in
    let place : c.place_of.result ≡ expr_place (view.expr e) = c.place_of.ensures ∙ ap (λ x. expr_place (view.expr x)) c.deref-in-Bit.ensures in
    subst (λ x. IfOk c.find_bit.result (λ s. Finds n s (selected (view.select x) name find n))) (sym c.in-Bit.is)
    (subst (λ k. IfOk c.find_bit.result (λ s. Finds n s (bit_typed n name.place m k i))) place
    ((rw c.is_needed-needed.ensures at c.find_bit.ensures) m i (fair_for c.args.need names c.requires.fair name.bytes) means says))

pub find_selected-returns-in_ok-m-in-Between : goal.find_selected-returns-in_ok-m-in-Between
find_selected-returns-in_ok-m-in-Between g t c =
    subst (λ x. IfOk c.find_between.result (λ s. Finds (is_needed c.args.need) s (selected (view.select x) (view.name c.args.name.now) (names_for c.args.need (g.E.Env.names c.args.env.now)) (is_needed c.args.need)))) (sym c.in-Slice.is)
    (subst (λ k. IfOk c.find_between.result (λ s. Finds (is_needed c.args.need) s (selected (tree.Slice c.in-Slice.bracket (view.slice_kind k) (view.expr c.in-Slice.left.value) (view.expr c.in-Slice.right.value)) (view.name c.args.name.now) (names_for c.args.need (g.E.Env.names c.args.env.now)) (is_needed c.args.need)))) (sym c.in-Between.is)
    (between_arm (is_needed c.args.need) (names_for c.args.need (g.E.Env.names c.args.env.now)) (view.name c.args.name.now) c.in-Slice.bracket c.in-Slice.left.value c.in-Slice.right.value _ _ _ _ c.place_of-in-Between.result c.place_of-in-Between-2.result c.meant-named.result c.in_ok-m-in-Between.m c.in_ok-n-in-Slice.n c.find_between.result
    (fair_for c.args.need (g.E.Env.names c.args.env.now) c.requires.fair) (subst (λ b. Means c.meant-named.result (names_for c.args.need (g.E.Env.names c.args.env.now) b)) c.as_slice.ensures c.meant-named.ensures) c.deref-in-Between.ensures c.deref-in-Slice.ensures c.deref-in-Between-2.ensures c.deref-in-Between-3.ensures c.place_of-in-Between.ensures c.place_of-in-Between-2.ensures
    (steady_number c.args.need (g.E.Env.names c.args.env.now) c.in_ok-m-in-Between.m (view.expr c.deref-in-Between.result.now) c.in_ok-m-in-Between.ensures) (steady_number c.args.need (g.E.Env.names c.args.env.now) c.in_ok-n-in-Slice.n (view.expr c.deref-in-Slice.result.now) c.in_ok-n-in-Slice.ensures) (rw c.is_needed-needed.ensures at c.find_between.ensures)))

pub find_selected-returns-in_ok-a-in-Upward : goal.find_selected-returns-in_ok-a-in-Upward
find_selected-returns-in_ok-a-in-Upward g t c =
    subst (λ x. IfOk c.find_moving.result (λ s. Finds (is_needed c.args.need) s (selected (view.select x) (view.name c.args.name.now) (names_for c.args.need (g.E.Env.names c.args.env.now)) (is_needed c.args.need)))) (sym c.in-Slice.is)
    (subst (λ k. IfOk c.find_moving.result (λ s. Finds (is_needed c.args.need) s (selected (tree.Slice c.in-Slice.bracket (view.slice_kind k) (view.expr c.in-Slice.left.value) (view.expr c.in-Slice.right.value)) (view.name c.args.name.now) (names_for c.args.need (g.E.Env.names c.args.env.now)) (is_needed c.args.need)))) (sym c.in-Upward.is)
    (moving_arm (is_needed c.args.need) true (names_for c.args.need (g.E.Env.names c.args.env.now)) (view.name c.args.name.now) c.in-Slice.left.value c.in-Slice.right.value _ _ _ c.place_of-in-Upward.result c.meant-named.result c.in_ok-a-in-Upward.a c.in_ok-n-in-Slice.n c.find_moving.result
    (fair_for c.args.need (g.E.Env.names c.args.env.now) c.requires.fair) (subst (λ b. Means c.meant-named.result (names_for c.args.need (g.E.Env.names c.args.env.now) b)) c.as_slice.ensures c.meant-named.ensures) c.deref-in-Upward.ensures c.deref-in-Slice.ensures c.deref-in-Upward-2.ensures c.place_of-in-Upward.ensures
    c.in_ok-a-in-Upward.ensures (steady_number c.args.need (g.E.Env.names c.args.env.now) c.in_ok-n-in-Slice.n (view.expr c.deref-in-Slice.result.now) c.in_ok-n-in-Slice.ensures) (rw c.is_needed-needed.ensures at c.find_moving.ensures)))

pub find_selected-returns-in_ok-a-in-Downward : goal.find_selected-returns-in_ok-a-in-Downward
find_selected-returns-in_ok-a-in-Downward g t c =
    subst (λ x. IfOk c.find_moving-in-Downward.result (λ s. Finds (is_needed c.args.need) s (selected (view.select x) (view.name c.args.name.now) (names_for c.args.need (g.E.Env.names c.args.env.now)) (is_needed c.args.need)))) (sym c.in-Slice.is)
    (subst (λ k. IfOk c.find_moving-in-Downward.result (λ s. Finds (is_needed c.args.need) s (selected (tree.Slice c.in-Slice.bracket (view.slice_kind k) (view.expr c.in-Slice.left.value) (view.expr c.in-Slice.right.value)) (view.name c.args.name.now) (names_for c.args.need (g.E.Env.names c.args.env.now)) (is_needed c.args.need)))) (sym c.in-Downward.is)
    (moving_arm (is_needed c.args.need) false (names_for c.args.need (g.E.Env.names c.args.env.now)) (view.name c.args.name.now) c.in-Slice.left.value c.in-Slice.right.value _ _ _ c.place_of-in-Downward.result c.meant-named.result c.in_ok-a-in-Downward.a c.in_ok-n-in-Slice.n c.find_moving-in-Downward.result
    (fair_for c.args.need (g.E.Env.names c.args.env.now) c.requires.fair) (subst (λ b. Means c.meant-named.result (names_for c.args.need (g.E.Env.names c.args.env.now) b)) c.as_slice.ensures c.meant-named.ensures) c.deref-in-Downward.ensures c.deref-in-Slice.ensures c.deref-in-Downward-2.ensures c.place_of-in-Downward.ensures
    c.in_ok-a-in-Downward.ensures (steady_number c.args.need (g.E.Env.names c.args.env.now) c.in_ok-n-in-Slice.n (view.expr c.deref-in-Slice.result.now) c.in_ok-n-in-Slice.ensures) (rw c.is_needed-needed.ensures at c.find_moving-in-Downward.ensures)))

pub look_part-returns-in_ok-i-in-Bit : goal.look_part-returns-in_ok-i-in-Bit
look_part-returns-in_ok-i-in-Bit g t c =
    let n = is_needed c.args.need in
    let find = names_for c.args.need (g.E.Env.names c.args.env.now) in
    let i = typed (view.expr c.in-Bit.index.value) find n in
    let says : Says n c.in_ok-i-in-Bit.i i = subst (λ x. Says n c.in_ok-i-in-Bit.i (typed (view.expr x) find n)) c.deref.ensures c.in_ok-i-in-Bit.ensures in
    let checks = says.finds.checks in
    subst (λ x. ChecksTaken c.bits_from.result (taken_by c.args.declared (view.select x) find n)) (sym c.in-Bit.is) (c.bits_from.ensures true 1 i i.faults refl checks.good checks.depth checks.flaws)

pub look_part-returns-in_ok-m-in-Between : goal.look_part-returns-in_ok-m-in-Between
look_part-returns-in_ok-m-in-Between g t c =
    let n = is_needed c.args.need in
    let find = names_for c.args.need (g.E.Env.names c.args.env.now) in
    let left = view.expr c.in-Slice.left.value in
    let right = view.expr c.in-Slice.right.value in
    let of = λ (e : Expr). number (view.expr e) (steady find) in
    let m = subst (λ x. ChecksNumber c.in_ok-m-in-Between.m (of x)) c.deref-in-Between.ensures (steady_number c.args.need (g.E.Env.names c.args.env.now) c.in_ok-m-in-Between.m (view.expr c.deref-in-Between.result.now) c.in_ok-m-in-Between.ensures) in
    let k = subst (λ x. ChecksNumber c.in_ok-n-in-Slice.n (of x)) c.deref-in-Slice.ensures (steady_number c.args.need (g.E.Env.names c.args.env.now) c.in_ok-n-in-Slice.n (view.expr c.deref-in-Slice.result.now) c.in_ok-n-in-Slice.ensures) in
    subst (λ x. ChecksTaken c.between.result (taken_by c.args.declared (view.select x) find n)) (sym c.in-Slice.is)
    (subst (λ kind. ChecksTaken c.between.result (taken_by c.args.declared (tree.Slice c.in-Slice.bracket (view.slice_kind kind) left right) find n)) (sym c.in-Between.is)
    (between_taken c.args.declared c.in-Slice.bracket (expr_place left) (expr_place right) c.place_of.result c.place_of-in-Between.result (typed left (steady find) true) (typed right (steady find) true)
    c.in_ok-m-in-Between.m c.in_ok-n-in-Slice.n c.range_of_bounds-bounds.result c.between.result (c.place_of.ensures ∙ ap (λ x. expr_place (view.expr x)) c.deref-in-Between-2.ensures) (c.place_of-in-Between.ensures ∙ ap (λ x. expr_place (view.expr x)) c.deref-in-Between-3.ensures)
    c.range_of_bounds-bounds.ensures.is m k c.between.ensures))

pub look_part-returns-in_ok-a-in-Upward : goal.look_part-returns-in_ok-a-in-Upward
look_part-returns-in_ok-a-in-Upward g t c =
    let n = is_needed c.args.need in
    let find = names_for c.args.need (g.E.Env.names c.args.env.now) in
    let left = view.expr c.in-Slice.left.value in
    let right = view.expr c.in-Slice.right.value in
    let says : Says n c.in_ok-a-in-Upward.a (typed left find n) = subst (λ x. Says n c.in_ok-a-in-Upward.a (typed (view.expr x) find n)) c.deref-in-Upward.ensures c.in_ok-a-in-Upward.ensures in
    let k : ChecksNumber c.in_ok-n-in-Slice.n (number right (steady find)) = subst (λ x. ChecksNumber c.in_ok-n-in-Slice.n (number (view.expr x) (steady find))) c.deref-in-Slice.ensures (steady_number c.args.need (g.E.Env.names c.args.env.now) c.in_ok-n-in-Slice.n (view.expr c.deref-in-Slice.result.now) c.in_ok-n-in-Slice.ensures) in
    let at : c.place_of-in-Upward.result ≡ expr_place right = c.place_of-in-Upward.ensures ∙ ap (λ x. expr_place (view.expr x)) c.deref-in-Upward-2.ensures in
    let moves : (up : Bool) → ChecksTaken c.moving.result (moving c.args.declared up (typed left find n) (expr_place right) (typed right (steady find) true)) =
    λ up. subst (λ p. ChecksTaken c.moving.result (moving c.args.declared up (typed left find n) p (typed right (steady find) true))) at
    (c.moving.ensures up (typed left find n) (typed right (steady find) true) says.finds.checks (subst (λ p. ChecksNumber c.in_ok-n-in-Slice.n (number_of p (typed right (steady find) true))) (sym at) k)) in
    let of = λ (kind : SliceKind). ChecksTaken c.moving.result (taken_by c.args.declared (tree.Slice c.in-Slice.bracket (view.slice_kind kind) left right) find n) in
    subst (λ x. ChecksTaken c.moving.result (taken_by c.args.declared (view.select x) find n)) (sym c.in-Slice.is)
    (elim c.in-Upward.is [ inl e ↦ subst of (sym e) (moves true) | inr e ↦ subst of (sym e) (moves false) ])

pub find_parts-find-requires : goal.find_parts-find-requires
find_parts-find-requires g t c κs within =
    let i = length c.args.parts.now - 1 in
    let inside : i < length c.args.parts.now = omega (arith, some_part c.args.parts.now c.requires.shaped) in
    (omega (arith, part_at_most c.args.parts.now i c.index-parts-i.result inside c.index-parts-i.is, c.decreases), (within, (part_shaped c.args.parts.now i c.index-parts-i.result c.requires.shaped inside c.index-parts-i.is, c.requires.fair)))

pub find_parts-loop-i-init : goal.find_parts-loop-i-init
find_parts-loop-i-init g t c =
    let some = some_part c.args.parts.now c.requires.shaped in (
      omega (arith, some),
      last_arm (is_needed c.args.need) (names_for c.args.need (g.E.Env.names c.args.env.now)) c.args.parts.now c.index-parts-i.result c.index-parts-i-2.result c.unsized_at.result c.in_ok-last.last c.find_last-whole.result
          some c.index-parts-i.is c.index-parts-i-2.is c.unsized_at.ensures c.in_ok-last.ensures c.find_last-whole.ensures,
    )

pub find_parts-find-requires-in-loop-i : goal.find_parts-find-requires-in-loop-i
find_parts-find-requires-in-loop-i g t c κs within =
    let i = c.loop-i.i - 1 in
    let inside : i < length c.args.parts.now = omega (arith, c.loop-i.invariant.0) in
    (omega (arith, part_at_most c.args.parts.now i c.index-parts-i-in-loop-i.result inside c.index-parts-i-in-loop-i.is, c.decreases), (within, (part_shaped c.args.parts.now i c.index-parts-i-in-loop-i.result c.requires.shaped inside c.index-parts-i-in-loop-i.is, c.requires.fair)))

pub find_parts-loop-i-preserved : goal.find_parts-loop-i-preserved
find_parts-loop-i-preserved g t c = (
  omega (arith, c.loop-i.invariant.0),
  more_arm (is_needed c.args.need) (names_for c.args.need (g.E.Env.names c.args.env.now)) c.args.parts.now c.loop-i.i c.index-parts-i-in-loop-i.result c.index-parts-i-in-loop-i-2.result c.unsized_at-in-loop-i.result c.in_ok-c.c c.loop-i.whole c.in_ok-whole.whole
      c.loop-i-test.true c.loop-i.invariant.0 c.index-parts-i-in-loop-i.is c.index-parts-i-in-loop-i-2.is c.unsized_at-in-loop-i.ensures c.in_ok-c.ensures c.loop-i.invariant.1 c.in_ok-whole.ensures,
)

pub find_arguments-look-requires : goal.find_arguments-look-requires
find_arguments-look-requires g t c κs within =
    let i = c.loop-i.i - 1 in
    let inside : i < length c.args.arguments.now = omega (arith, c.loop-i.invariant.0, c.loop-i-test.true) in
    (omega (arith, part_at_most c.args.arguments.now i c.index-arguments-i.result inside c.index-arguments-i.is, c.decreases), (within, (part_shaped c.args.arguments.now i c.index-arguments-i.result c.requires.shaped inside c.index-arguments-i.is, c.requires.fair)))

pub find_arguments-and_argument-said-requires : goal.find_arguments-and_argument-said-requires
find_arguments-and_argument-said-requires g t c =
    let some = some_part c.args.arguments.now c.requires.shaped in
    let n = argument_count (is_needed c.args.need) (names_for c.args.need (g.E.Env.names c.args.env.now)) c.args.arguments.now c.loop-i.i c.loop-i.said c.loop-i-test.true some c.loop-i.invariant.1 in
    omega (arith, n)

pub find_arguments-loop-i-init : goal.find_arguments-loop-i-init
find_arguments-loop-i-init g t c = (omega arith, no_argument_left (is_needed c.args.need) (names_for c.args.need (g.E.Env.names c.args.env.now)) c.args.arguments.now c.no_argument-said.result c.no_argument-said.ensures)

pub find_arguments-loop-i-preserved : goal.find_arguments-loop-i-preserved
find_arguments-loop-i-preserved g t c = (
  omega (arith, c.loop-i.invariant.0),
  argument_arm (is_needed c.args.need) (names_for c.args.need (g.E.Env.names c.args.env.now)) c.args.arguments.now c.loop-i.i c.index-arguments-i.result c.in_ok-c.c c.loop-i.said c.and_argument-said.result
      c.loop-i-test.true c.loop-i.invariant.0 c.index-arguments-i.is c.in_ok-c.ensures c.loop-i.invariant.1 c.and_argument-said.ensures,
)
