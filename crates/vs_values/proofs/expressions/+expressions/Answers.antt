use Rattle.std.proofs.Common.{Bool, ◌||◌, ◌&&◌, not, max, map, slice_index, Vec, Global, true, false, ◌≡◌, ◌∙◌, ◌<◌, ℕ, List, [], ◌∷◌, length, sym, ap, subst, subst₂, refl, arith, ◌⊎◌}
use Rattle.std.proofs.lemmas.Result.{IfOk-weaker}
use Rattle.vs_design.specs.Expressions as E
use Rattle.vs_design.specs.Values.{left_width, right_width, right_sign}
use Rattle.vs_design.specs.Sizes.{is_shift}
use Rattle.vs_design.specs.Values.{apply_binary}
use Rattle.vs_flat.specs.declared.expressions.Node.TheVariants as N
use Rattle.vs_values.specs.Constants.{AreConstant, constant_slots, constant_bits, extended_slots, shifted_slots}
use Rattle.std.specs.List.{range_with_len}
use Rattle.vs_values.specs.Choices.{binary_kernel, result_of_way}
use Rattle.vs_values.specs.Coded.{with_call}
use Rattle.vs_values.specs.Ready.{IsReady}
use Rattle.vs_values.proofs.Trees.{tree, ready_strip, adds_placed}
use Rattle.vs_values.proofs.Named.{adds_literal, adds_name}
use Rattle.vs_four.specs.declared.Bit4.TheVariants.{Zero, X}
use Rattle.vs_four.specs.Lengths.{last_or}
use Rattle.vs_four.specs.Tables.{is_known}
use Rattle.vs_design.specs.Values.{bits_of_signal}
use Rattle.vs_flat.specs.Trees.{signal_at}
use Rattle.vs_flat.specs.DesignOf.{arena_signals}
use Rattle.vs_flat.specs.DesignOf.{arena_trees}
use Rattle.vs_flat.specs.Trees.{tree_at}
use Rattle.vs_values.specs.Valued.{AddsValue}
use Rattle.vs_values.proofs.Readying.{ready_left, ready_right}
use Rattle.vs_values.proofs.Binary.{context_is, sign_context, adds_at, ready_at, operands_of, short_is, returns_folded, returns_moved, call_is, returns_called, both_ok}
use Rattle.vs_values.specs.Made.{IsCallable, IsUnary, IsChoice, IsSelect, IsWord, source_slots, word_kernel, select_kernel}
use Rattle.vs_values.specs.Products.{IsCheap, HasRoom, AddsProduct, product_cost}
use Rattle.vs_values.proofs.Summing.{summable, returns_summed}
use Rattle.vs_values.proofs.Unary.{ready_operand, operand_of, operand_long, callable_unary, returns_unary}
use Rattle.vs_values.proofs.Choosing.{ready_condition, own_value_of, ready_first, ready_second, Parts, parts_long, callable_choice, returns_choice}
use Rattle.std.specs.List.{All}
use Rattle.std.proofs.Common.{◌++◌}
use Rattle.std.proofs.lemmas.List.Elements.{All-take}
use Rattle.vs_four.specs.Lengths.{repeat}
use Rattle.vs_flat.specs.Trees.{joined, copy_count, first_copy}
use Rattle.vs_values.proofs.Concatenating.{rest, split_rest, one_part, rest_short, rest_all, parts_most, ready_low, ready_high, ready_one, ready_part, adds_one, adds_join, ready_copy, parts_some, adds_copies, each_below}
use Rattle.vs_four.specs.Selects.{Part, one_bit}
use Rattle.vs_flat.specs.Targets.{source_of}
use Rattle.vs_values.proofs.Taking.{ready_index, selectable, callable_select, returns_select, index_of, selectable_from, callable_from, select_from}
use Rattle.vs_values.proofs.Wording.{ready_address, address_of, address_long, callable_word, returns_word}
use Rattle.vs_values.proofs.PartWording.{word_fits, ready_word, Worded, ready_taken, part_selectable, part_callable, returns_part}
use Rattle.vs_flat.specs.declared.expressions.Node.{Node}
use Rattle.vs_flat.specs.DesignOf.{local_of}
use Rattle.vs_shape.specs.Nodes.{HasCalls}
use Rattle.vs_values.specs.Calling.{AddsArguments, CallsFirst, IsFormedCall, IsFormedCallOf, IsInlinable, IsInlined}
use Rattle.vs_values.specs.Templates.{function_at}
use Rattle.vs_design.specs.Within.{names_within, signal_within, source_within}
use Rattle.vs_values.proofs.Values.{both_true}
use Rattle.vs_values.proofs.Called.{ready_inputs, ready_template, adds_call}
use Rattle.vs_values.proofs.Passing.{argument_of, arguments_none, argument_ready, input_there, next_argument, all_arguments}
use Rattle.vs_values.proofs.expressions.+expressions.Goals as goal

pub binary-lower-requires : goal.binary-lower-requires
binary-lower-requires t c =
    let op = c.args.op in
    let a = tree_at (arena_trees c.args.templates.now.arena) c.args.a in
    let b = tree_at (arena_trees c.args.templates.now.arena) c.args.b in
    let lw : c.left-l.result.width ≡ left_width (E.way op) c.args.context.width (E.width a) (E.width b) =
    context_is (left_width (E.way op) c.args.context.width) c.left-l.result.width c.own_of-own_a.result.width c.own_of-own_b.result.width (E.width a) (E.width b) c.left-l.ensures.width c.own_of-own_a.ensures.width c.own_of-own_b.ensures.width in (
      omega (arith, c.decreases),
      (
        c.requires.a,
        ready_at c.args.env.now c.args.code.now a (left_width (E.way op) c.args.context.width (E.width a) (E.width b)) c.left-l.result.width lw
            (ready_left c.args.env.now c.args.code.now op a b c.args.context.width c.requires.ready),
      ),
    )

pub binary-lower-requires-2 : goal.binary-lower-requires-2
binary-lower-requires-2 t c =
    let op = c.args.op in
    let a = tree_at (arena_trees c.args.templates.now.arena) c.args.a in
    let b = tree_at (arena_trees c.args.templates.now.arena) c.args.b in
    let w = c.args.context.width in
    let lw : c.left-l.result.width ≡ left_width (E.way op) w (E.width a) (E.width b) =
    context_is (left_width (E.way op) w) c.left-l.result.width c.own_of-own_a.result.width c.own_of-own_b.result.width (E.width a) (E.width b) c.left-l.ensures.width c.own_of-own_a.ensures.width c.own_of-own_b.ensures.width in
    let rw : c.right-r.result.width ≡ right_width (E.way op) w (E.width a) (E.width b) =
    context_is (right_width (E.way op) w) c.right-r.result.width c.own_of-own_a.result.width c.own_of-own_b.result.width (E.width a) (E.width b) c.right-r.ensures.width c.own_of-own_a.ensures.width c.own_of-own_b.ensures.width in
    let va = adds_at c.args.env.now c.args.code.now.calls c.args.code.now.next c.lower.new.code.calls c.lower.new.code.next a c.left-l.result.width (left_width (E.way op) w (E.width a) (E.width b)) c.left-l.result.signed c.left-l.result.signed c.in_ok-p.p.items lw refl c.in_ok-p.ensures in (
      omega (arith, c.decreases),
      (
        c.requires.b,
        ready_at c.args.env.now c.lower.new.code b (right_width (E.way op) w (E.width a) (E.width b)) c.right-r.result.width rw
            (ready_right c.args.env.now c.args.code.now c.lower.new.code op a b w c.left-l.result.signed c.in_ok-p.p.items c.requires.ready va),
      ),
    )

pub binary-folded-requires-clause-some : goal.binary-folded-requires-clause-some
binary-folded-requires-clause-some t c =
    let op = c.args.op in
    let a = tree_at (arena_trees c.args.templates.now.arena) c.args.a in
    let b = tree_at (arena_trees c.args.templates.now.arena) c.args.b in
    let w = c.args.context.width in
    let s = c.args.context.signed in
    let env = c.args.env.now in
    let code = c.args.code.now in
    let ls = c.left-l.result.signed in
    let p = c.in_ok-p.p.items in
    let q = c.in_ok-q.q.items in
    let o = operands_of env code c.lower.new.code c.lower-2.new.code op a b w s c.left-l.result.width ls c.right-r.result.width c.right-r.result.signed c.own_of-own_a.result.width c.own_of-own_b.result.width c.own_of-own_a.result.signed c.own_of-own_b.result.signed p q
    c.left-l.ensures.width c.left-l.ensures.signed c.right-r.ensures.width c.right-r.ensures.signed c.own_of-own_a.ensures.width c.own_of-own_b.ensures.width c.own_of-own_a.ensures.signed c.own_of-own_b.ensures.signed c.requires.ready c.in_ok-p.ensures c.in_ok-q.ensures in
    let short = short_is env code c.lower.new.code c.lower-2.new.code op a b w s ls p q o in
    omega (arith, short.some, c.as_slice-in-Folded.ensures.len, c.as_slice-in-Folded.ensures.value)

pub binary-folded-requires-clause-most : goal.binary-folded-requires-clause-most
binary-folded-requires-clause-most t c =
    let op = c.args.op in
    let a = tree_at (arena_trees c.args.templates.now.arena) c.args.a in
    let b = tree_at (arena_trees c.args.templates.now.arena) c.args.b in
    let w = c.args.context.width in
    let s = c.args.context.signed in
    let env = c.args.env.now in
    let code = c.args.code.now in
    let ls = c.left-l.result.signed in
    let p = c.in_ok-p.p.items in
    let q = c.in_ok-q.q.items in
    let o = operands_of env code c.lower.new.code c.lower-2.new.code op a b w s c.left-l.result.width ls c.right-r.result.width c.right-r.result.signed c.own_of-own_a.result.width c.own_of-own_b.result.width c.own_of-own_a.result.signed c.own_of-own_b.result.signed p q
    c.left-l.ensures.width c.left-l.ensures.signed c.right-r.ensures.width c.right-r.ensures.signed c.own_of-own_a.ensures.width c.own_of-own_b.ensures.width c.own_of-own_a.ensures.signed c.own_of-own_b.ensures.signed c.requires.ready c.in_ok-p.ensures c.in_ok-q.ensures in
    let short = short_is env code c.lower.new.code c.lower-2.new.code op a b w s ls p q o in
    omega (arith, short.most, c.as_slice-in-Folded.ensures.len, c.as_slice-in-Folded.ensures.value)

pub binary-folded-requires-clause-some_b : goal.binary-folded-requires-clause-some_b
binary-folded-requires-clause-some_b t c =
    let op = c.args.op in
    let a = tree_at (arena_trees c.args.templates.now.arena) c.args.a in
    let b = tree_at (arena_trees c.args.templates.now.arena) c.args.b in
    let w = c.args.context.width in
    let s = c.args.context.signed in
    let env = c.args.env.now in
    let code = c.args.code.now in
    let ls = c.left-l.result.signed in
    let p = c.in_ok-p.p.items in
    let q = c.in_ok-q.q.items in
    let o = operands_of env code c.lower.new.code c.lower-2.new.code op a b w s c.left-l.result.width ls c.right-r.result.width c.right-r.result.signed c.own_of-own_a.result.width c.own_of-own_b.result.width c.own_of-own_a.result.signed c.own_of-own_b.result.signed p q
    c.left-l.ensures.width c.left-l.ensures.signed c.right-r.ensures.width c.right-r.ensures.signed c.own_of-own_a.ensures.width c.own_of-own_b.ensures.width c.own_of-own_a.ensures.signed c.own_of-own_b.ensures.signed c.requires.ready c.in_ok-p.ensures c.in_ok-q.ensures in
    let short = short_is env code c.lower.new.code c.lower-2.new.code op a b w s ls p q o in
    omega (arith, short.some_b, c.as_slice-in-Folded-2.ensures.len, c.as_slice-in-Folded-2.ensures.value)

pub binary-folded-requires-clause-most_b : goal.binary-folded-requires-clause-most_b
binary-folded-requires-clause-most_b t c =
    let op = c.args.op in
    let a = tree_at (arena_trees c.args.templates.now.arena) c.args.a in
    let b = tree_at (arena_trees c.args.templates.now.arena) c.args.b in
    let w = c.args.context.width in
    let s = c.args.context.signed in
    let env = c.args.env.now in
    let code = c.args.code.now in
    let ls = c.left-l.result.signed in
    let p = c.in_ok-p.p.items in
    let q = c.in_ok-q.q.items in
    let o = operands_of env code c.lower.new.code c.lower-2.new.code op a b w s c.left-l.result.width ls c.right-r.result.width c.right-r.result.signed c.own_of-own_a.result.width c.own_of-own_b.result.width c.own_of-own_a.result.signed c.own_of-own_b.result.signed p q
    c.left-l.ensures.width c.left-l.ensures.signed c.right-r.ensures.width c.right-r.ensures.signed c.own_of-own_a.ensures.width c.own_of-own_b.ensures.width c.own_of-own_a.ensures.signed c.own_of-own_b.ensures.signed c.requires.ready c.in_ok-p.ensures c.in_ok-q.ensures in
    let short = short_is env code c.lower.new.code c.lower-2.new.code op a b w s ls p q o in
    omega (arith, short.most_b, c.as_slice-in-Folded-2.ensures.len, c.as_slice-in-Folded-2.ensures.value)

pub binary-called-requires-clause-is : goal.binary-called-requires-clause-is
binary-called-requires-clause-is t c =
    let op = c.args.op in
    let a = tree_at (arena_trees c.args.templates.now.arena) c.args.a in
    let b = tree_at (arena_trees c.args.templates.now.arena) c.args.b in
    let w = c.args.context.width in
    let s = c.args.context.signed in
    let env = c.args.env.now in
    let code = c.args.code.now in
    let ls = c.left-l.result.signed in
    let p = c.in_ok-p.p.items in
    let q = c.in_ok-q.q.items in
    let o = operands_of env code c.lower.new.code c.lower-2.new.code op a b w s c.left-l.result.width ls c.right-r.result.width c.right-r.result.signed c.own_of-own_a.result.width c.own_of-own_b.result.width c.own_of-own_a.result.signed c.own_of-own_b.result.signed p q
    c.left-l.ensures.width c.left-l.ensures.signed c.right-r.ensures.width c.right-r.ensures.signed c.own_of-own_a.ensures.width c.own_of-own_b.ensures.width c.own_of-own_a.ensures.signed c.own_of-own_b.ensures.signed c.requires.ready c.in_ok-p.ensures c.in_ok-q.ensures in
    let route_p = c.as_slice.ensures.value in
    let route_q = c.as_slice-2.ensures.value in
    let out = c.in-Called.ensures.called refl in
    let f = λ (h : AreConstant p) (k : AreConstant q). out.0 (subst AreConstant (sym route_p) h) (subst AreConstant (sym route_q) k) in
    let g = λ (h : is_shift (E.way op) ≡ true) (k : AreConstant q). out.1 h (subst AreConstant (sym route_q) k) in
    (call_is env code c.lower.new.code c.lower-2.new.code op a b w s ls p q o f g).is

pub binary-called-requires-clause-slots : goal.binary-called-requires-clause-slots
binary-called-requires-clause-slots t c =
    let op = c.args.op in
    let a = tree_at (arena_trees c.args.templates.now.arena) c.args.a in
    let b = tree_at (arena_trees c.args.templates.now.arena) c.args.b in
    let w = c.args.context.width in
    let s = c.args.context.signed in
    let env = c.args.env.now in
    let code = c.args.code.now in
    let ls = c.left-l.result.signed in
    let p = c.in_ok-p.p.items in
    let q = c.in_ok-q.q.items in
    let o = operands_of env code c.lower.new.code c.lower-2.new.code op a b w s c.left-l.result.width ls c.right-r.result.width c.right-r.result.signed c.own_of-own_a.result.width c.own_of-own_b.result.width c.own_of-own_a.result.signed c.own_of-own_b.result.signed p q
    c.left-l.ensures.width c.left-l.ensures.signed c.right-r.ensures.width c.right-r.ensures.signed c.own_of-own_a.ensures.width c.own_of-own_b.ensures.width c.own_of-own_a.ensures.signed c.own_of-own_b.ensures.signed c.requires.ready c.in_ok-p.ensures c.in_ok-q.ensures in
    let route_p = c.as_slice.ensures.value in
    let route_q = c.as_slice-2.ensures.value in
    let out = c.in-Called.ensures.called refl in
    let f = λ (h : AreConstant p) (k : AreConstant q). out.0 (subst AreConstant (sym route_p) h) (subst AreConstant (sym route_q) k) in
    let g = λ (h : is_shift (E.way op) ≡ true) (k : AreConstant q). out.1 h (subst AreConstant (sym route_q) k) in
    (call_is env code c.lower.new.code c.lower-2.new.code op a b w s ls p q o f g).room

pub binary-called-requires-clause-few : goal.binary-called-requires-clause-few
binary-called-requires-clause-few t c =
    let op = c.args.op in
    let a = tree_at (arena_trees c.args.templates.now.arena) c.args.a in
    let b = tree_at (arena_trees c.args.templates.now.arena) c.args.b in
    let w = c.args.context.width in
    let s = c.args.context.signed in
    let env = c.args.env.now in
    let code = c.args.code.now in
    let ls = c.left-l.result.signed in
    let p = c.in_ok-p.p.items in
    let q = c.in_ok-q.q.items in
    let o = operands_of env code c.lower.new.code c.lower-2.new.code op a b w s c.left-l.result.width ls c.right-r.result.width c.right-r.result.signed c.own_of-own_a.result.width c.own_of-own_b.result.width c.own_of-own_a.result.signed c.own_of-own_b.result.signed p q
    c.left-l.ensures.width c.left-l.ensures.signed c.right-r.ensures.width c.right-r.ensures.signed c.own_of-own_a.ensures.width c.own_of-own_b.ensures.width c.own_of-own_a.ensures.signed c.own_of-own_b.ensures.signed c.requires.ready c.in_ok-p.ensures c.in_ok-q.ensures in
    let route_p = c.as_slice.ensures.value in
    let route_q = c.as_slice-2.ensures.value in
    let out = c.in-Called.ensures.called refl in
    let f = λ (h : AreConstant p) (k : AreConstant q). out.0 (subst AreConstant (sym route_p) h) (subst AreConstant (sym route_q) k) in
    let g = λ (h : is_shift (E.way op) ≡ true) (k : AreConstant q). out.1 h (subst AreConstant (sym route_q) k) in
    (call_is env code c.lower.new.code c.lower-2.new.code op a b w s ls p q o f g).few

pub binary-returns-in-Folded : goal.binary-returns-in-Folded
binary-returns-in-Folded t c =
    let op = c.args.op in
    let a = tree_at (arena_trees c.args.templates.now.arena) c.args.a in
    let b = tree_at (arena_trees c.args.templates.now.arena) c.args.b in
    let w = c.args.context.width in
    let s = c.args.context.signed in
    let env = c.args.env.now in
    let code = c.args.code.now in
    let ls = c.left-l.result.signed in
    let p = c.in_ok-p.p.items in
    let q = c.in_ok-q.q.items in
    let o = operands_of env code c.lower.new.code c.lower-2.new.code op a b w s c.left-l.result.width ls c.right-r.result.width c.right-r.result.signed c.own_of-own_a.result.width c.own_of-own_b.result.width c.own_of-own_a.result.signed c.own_of-own_b.result.signed p q
    c.left-l.ensures.width c.left-l.ensures.signed c.right-r.ensures.width c.right-r.ensures.signed c.own_of-own_a.ensures.width c.own_of-own_b.ensures.width c.own_of-own_a.ensures.signed c.own_of-own_b.ensures.signed c.requires.ready c.in_ok-p.ensures c.in_ok-q.ensures in
    let rs = c.right-r.result.signed in
    let both = c.in-Folded.ensures.folded refl in
    let slots_p = c.as_slice-in-Folded.ensures.value in
    let slots_q = c.as_slice-in-Folded-2.ensures.value in
    IfOk-weaker c.folded.result
    (λ (to : Vec ℕ Global). to.items ≡ extended_slots w s (constant_slots (apply_binary op ls rs (constant_bits c.as_slice-in-Folded.result.now) (constant_bits c.as_slice-in-Folded-2.result.now))))
    (λ (to : Vec ℕ Global). AddsValue env code.calls code.next c.lower-2.new.code.calls c.lower-2.new.code.next (E.Binary op a b) w s to.items)
    (λ to is. returns_folded c.value_law.ensures.length env code c.lower.new.code c.lower-2.new.code op a b w s ls rs p q to.items o
    (sign_context (right_sign (E.way op) s) rs c.own_of-own_a.result.signed c.own_of-own_b.result.signed (E.sign a) (E.sign b) c.right-r.ensures.signed c.own_of-own_a.ensures.signed c.own_of-own_b.ensures.signed)
    (subst AreConstant c.as_slice.ensures.value both.0) (subst AreConstant c.as_slice-2.ensures.value both.1)
    (is ∙ ap (λ (x : List ℕ). extended_slots w s (constant_slots (apply_binary op ls rs (constant_bits x) (constant_bits c.as_slice-in-Folded-2.result.now)))) slots_p ∙ ap (λ (x : List ℕ). extended_slots w s (constant_slots (apply_binary op ls rs (constant_bits p) (constant_bits x)))) slots_q))
    c.folded.ensures

pub binary-returns-in-Moved : goal.binary-returns-in-Moved
binary-returns-in-Moved t c =
    let op = c.args.op in
    let a = tree_at (arena_trees c.args.templates.now.arena) c.args.a in
    let b = tree_at (arena_trees c.args.templates.now.arena) c.args.b in
    let w = c.args.context.width in
    let s = c.args.context.signed in
    let env = c.args.env.now in
    let code = c.args.code.now in
    let ls = c.left-l.result.signed in
    let p = c.in_ok-p.p.items in
    let q = c.in_ok-q.q.items in
    let o = operands_of env code c.lower.new.code c.lower-2.new.code op a b w s c.left-l.result.width ls c.right-r.result.width c.right-r.result.signed c.own_of-own_a.result.width c.own_of-own_b.result.width c.own_of-own_a.result.signed c.own_of-own_b.result.signed p q
    c.left-l.ensures.width c.left-l.ensures.signed c.right-r.ensures.width c.right-r.ensures.signed c.own_of-own_a.ensures.width c.own_of-own_b.ensures.width c.own_of-own_a.ensures.signed c.own_of-own_b.ensures.signed c.requires.ready c.in_ok-p.ensures c.in_ok-q.ensures in
    let both = c.in-Moved.ensures.moved refl in
    let slots_p = c.as_slice-in-Moved.ensures.value in
    let slots_q = c.as_slice-in-Moved-2.ensures.value in
    IfOk-weaker c.shifted.result
    (λ (to : Vec ℕ Global). to.items ≡ extended_slots w s (shifted_slots op ls c.as_slice-in-Moved.result.now (constant_bits c.as_slice-in-Moved-2.result.now)))
    (λ (to : Vec ℕ Global). AddsValue env code.calls code.next c.lower-2.new.code.calls c.lower-2.new.code.next (E.Binary op a b) w s to.items)
    (λ to is. returns_moved env code c.lower.new.code c.lower-2.new.code op a b w s ls p q to.items o
    both.0 (subst AreConstant c.as_slice-2.ensures.value both.1)
    (is ∙ ap (λ (x : List ℕ). extended_slots w s (shifted_slots op ls x (constant_bits c.as_slice-in-Moved-2.result.now))) slots_p ∙ ap (λ (x : List ℕ). extended_slots w s (shifted_slots op ls p (constant_bits x))) slots_q))
    c.shifted.ensures

pub binary-summed-requires-clause-cheap : goal.binary-summed-requires-clause-cheap
binary-summed-requires-clause-cheap t c =
    let route = c.in-Summed.ensures.summed refl in
    subst₂ (λ x y. IsCheap x ⊎ IsCheap y) (c.as_slice.ensures.value ∙ sym c.as_slice-in-Summed.ensures.value) (c.as_slice-2.ensures.value ∙ sym c.as_slice-in-Summed-2.ensures.value) route.2

pub binary-summed-requires-clause-alike : goal.binary-summed-requires-clause-alike
binary-summed-requires-clause-alike t c =
    let op = c.args.op in
    let a = tree_at (arena_trees c.args.templates.now.arena) c.args.a in
    let b = tree_at (arena_trees c.args.templates.now.arena) c.args.b in
    let w = c.args.context.width in
    let s = c.args.context.signed in
    let env = c.args.env.now in
    let code = c.args.code.now in
    let ls = c.left-l.result.signed in
    let p = c.in_ok-p.p.items in
    let q = c.in_ok-q.q.items in
    let o = operands_of env code c.lower.new.code c.lower-2.new.code op a b w s c.left-l.result.width ls c.right-r.result.width c.right-r.result.signed c.own_of-own_a.result.width c.own_of-own_b.result.width c.own_of-own_a.result.signed c.own_of-own_b.result.signed p q
    c.left-l.ensures.width c.left-l.ensures.signed c.right-r.ensures.width c.right-r.ensures.signed c.own_of-own_a.ensures.width c.own_of-own_b.ensures.width c.own_of-own_a.ensures.signed c.own_of-own_b.ensures.signed c.requires.ready c.in_ok-p.ensures c.in_ok-q.ensures in
    let route = c.in-Summed.ensures.summed refl in
    let f = λ (h : AreConstant p) (k : AreConstant q). route.1 (subst AreConstant (sym c.as_slice.ensures.value) h) (subst AreConstant (sym c.as_slice-2.ensures.value) k) in
    let ready = summable env code c.lower.new.code c.lower-2.new.code op a b w s ls p q route.0 o f in
    subst₂ (λ x y. length x ≡ length y) (sym c.as_slice-in-Summed.ensures.value) (sym c.as_slice-in-Summed-2.ensures.value) ready.alike

pub binary-summed-requires-clause-room_a : goal.binary-summed-requires-clause-room_a
binary-summed-requires-clause-room_a t c =
    let op = c.args.op in
    let a = tree_at (arena_trees c.args.templates.now.arena) c.args.a in
    let b = tree_at (arena_trees c.args.templates.now.arena) c.args.b in
    let w = c.args.context.width in
    let s = c.args.context.signed in
    let env = c.args.env.now in
    let code = c.args.code.now in
    let ls = c.left-l.result.signed in
    let p = c.in_ok-p.p.items in
    let q = c.in_ok-q.q.items in
    let o = operands_of env code c.lower.new.code c.lower-2.new.code op a b w s c.left-l.result.width ls c.right-r.result.width c.right-r.result.signed c.own_of-own_a.result.width c.own_of-own_b.result.width c.own_of-own_a.result.signed c.own_of-own_b.result.signed p q
    c.left-l.ensures.width c.left-l.ensures.signed c.right-r.ensures.width c.right-r.ensures.signed c.own_of-own_a.ensures.width c.own_of-own_b.ensures.width c.own_of-own_a.ensures.signed c.own_of-own_b.ensures.signed c.requires.ready c.in_ok-p.ensures c.in_ok-q.ensures in
    let route = c.in-Summed.ensures.summed refl in
    let f = λ (h : AreConstant p) (k : AreConstant q). route.1 (subst AreConstant (sym c.as_slice.ensures.value) h) (subst AreConstant (sym c.as_slice-2.ensures.value) k) in
    let ready = summable env code c.lower.new.code c.lower-2.new.code op a b w s ls p q route.0 o f in
    subst (λ x. HasRoom c.lower-2.new.code x (product_cost (length x))) (sym c.as_slice-in-Summed.ensures.value) ready.room_a

pub binary-summed-requires-clause-room_b : goal.binary-summed-requires-clause-room_b
binary-summed-requires-clause-room_b t c =
    let op = c.args.op in
    let a = tree_at (arena_trees c.args.templates.now.arena) c.args.a in
    let b = tree_at (arena_trees c.args.templates.now.arena) c.args.b in
    let w = c.args.context.width in
    let s = c.args.context.signed in
    let env = c.args.env.now in
    let code = c.args.code.now in
    let ls = c.left-l.result.signed in
    let p = c.in_ok-p.p.items in
    let q = c.in_ok-q.q.items in
    let o = operands_of env code c.lower.new.code c.lower-2.new.code op a b w s c.left-l.result.width ls c.right-r.result.width c.right-r.result.signed c.own_of-own_a.result.width c.own_of-own_b.result.width c.own_of-own_a.result.signed c.own_of-own_b.result.signed p q
    c.left-l.ensures.width c.left-l.ensures.signed c.right-r.ensures.width c.right-r.ensures.signed c.own_of-own_a.ensures.width c.own_of-own_b.ensures.width c.own_of-own_a.ensures.signed c.own_of-own_b.ensures.signed c.requires.ready c.in_ok-p.ensures c.in_ok-q.ensures in
    let route = c.in-Summed.ensures.summed refl in
    let f = λ (h : AreConstant p) (k : AreConstant q). route.1 (subst AreConstant (sym c.as_slice.ensures.value) h) (subst AreConstant (sym c.as_slice-2.ensures.value) k) in
    let ready = summable env code c.lower.new.code c.lower-2.new.code op a b w s ls p q route.0 o f in
    subst₂ (λ x y. HasRoom c.lower-2.new.code y (product_cost (length x))) (sym c.as_slice-in-Summed.ensures.value) (sym c.as_slice-in-Summed-2.ensures.value) ready.room_b

pub binary-returns-in-Summed : goal.binary-returns-in-Summed
binary-returns-in-Summed t c =
    let op = c.args.op in
    let a = tree_at (arena_trees c.args.templates.now.arena) c.args.a in
    let b = tree_at (arena_trees c.args.templates.now.arena) c.args.b in
    let w = c.args.context.width in
    let s = c.args.context.signed in
    let env = c.args.env.now in
    let code = c.args.code.now in
    let ls = c.left-l.result.signed in
    let p = c.in_ok-p.p.items in
    let q = c.in_ok-q.q.items in
    let o = operands_of env code c.lower.new.code c.lower-2.new.code op a b w s c.left-l.result.width ls c.right-r.result.width c.right-r.result.signed c.own_of-own_a.result.width c.own_of-own_b.result.width c.own_of-own_a.result.signed c.own_of-own_b.result.signed p q
    c.left-l.ensures.width c.left-l.ensures.signed c.right-r.ensures.width c.right-r.ensures.signed c.own_of-own_a.ensures.width c.own_of-own_b.ensures.width c.own_of-own_a.ensures.signed c.own_of-own_b.ensures.signed c.requires.ready c.in_ok-p.ensures c.in_ok-q.ensures in
    let route = c.in-Summed.ensures.summed refl in
    let f = λ (h : AreConstant p) (k : AreConstant q). route.1 (subst AreConstant (sym c.as_slice.ensures.value) h) (subst AreConstant (sym c.as_slice-2.ensures.value) k) in
    let code3 = c.summed.new.code in
    let x = c.as_slice-in-Summed.result.now in
    let y = c.as_slice-in-Summed-2.result.now in
    IfOk-weaker c.summed.result
    (λ (to : Vec ℕ Global). AddsProduct c.lower-2.new.code code3 x y (product_cost (length x)) to.items)
    (λ (to : Vec ℕ Global). AddsValue env code.calls code.next code3.calls code3.next (E.Binary op a b) w s to.items)
    (λ to h. returns_summed env code c.lower.new.code c.lower-2.new.code code3 op a b w s ls p q to.items route.0 o f
    (subst₂ (λ u v. AddsProduct c.lower-2.new.code code3 u v (product_cost (length u)) to.items) c.as_slice-in-Summed.ensures.value c.as_slice-in-Summed-2.ensures.value h))
    c.summed.ensures

pub binary-returns-in-Called : goal.binary-returns-in-Called
binary-returns-in-Called t c =
    let op = c.args.op in
    let a = tree_at (arena_trees c.args.templates.now.arena) c.args.a in
    let b = tree_at (arena_trees c.args.templates.now.arena) c.args.b in
    let w = c.args.context.width in
    let s = c.args.context.signed in
    let env = c.args.env.now in
    let code = c.args.code.now in
    let ls = c.left-l.result.signed in
    let p = c.in_ok-p.p.items in
    let q = c.in_ok-q.q.items in
    let o = operands_of env code c.lower.new.code c.lower-2.new.code op a b w s c.left-l.result.width ls c.right-r.result.width c.right-r.result.signed c.own_of-own_a.result.width c.own_of-own_b.result.width c.own_of-own_a.result.signed c.own_of-own_b.result.signed p q
    c.left-l.ensures.width c.left-l.ensures.signed c.right-r.ensures.width c.right-r.ensures.signed c.own_of-own_a.ensures.width c.own_of-own_b.ensures.width c.own_of-own_a.ensures.signed c.own_of-own_b.ensures.signed c.requires.ready c.in_ok-p.ensures c.in_ok-q.ensures in
    let route_p = c.as_slice.ensures.value in
    let route_q = c.as_slice-2.ensures.value in
    let out = c.in-Called.ensures.called refl in
    let f = λ (h : AreConstant p) (k : AreConstant q). out.0 (subst AreConstant (sym route_p) h) (subst AreConstant (sym route_q) k) in
    let g = λ (h : is_shift (E.way op) ≡ true) (k : AreConstant q). out.1 h (subst AreConstant (sym route_q) k) in
    let code3 = c.called.new.code in
    let P = λ (to : Vec ℕ Global). to.items ≡ extended_slots w s (range_with_len c.lower-2.new.code.next (result_of_way (E.way op) w)) in
    let Q = code3 ≡ with_call c.lower-2.new.code (binary_kernel op ls) (p ∷ q ∷ []) (result_of_way (E.way op) w) in
    IfOk-weaker c.called.result
    (λ (to : Vec ℕ Global). P to × Q)
    (λ (to : Vec ℕ Global). AddsValue env code.calls code.next code3.calls code3.next (E.Binary op a b) w s to.items)
    (λ to h. returns_called env code c.lower.new.code c.lower-2.new.code code3 op a b w s ls p q to.items o f g h.1 h.0)
    (both_ok c.called.result P Q c.called.ensures.to c.called.ensures.ok)

pub lower-binary-requires : goal.lower-binary-requires
lower-binary-requires t c =
    let e = c.args.e in
    let node = N.Binary c.in-Binary.op c.in-Binary.a c.in-Binary.b in
    let tr = tree c.args.templates.now.arena e c.expr.result.now node c.expr.ensures.tree c.expr.ensures.names c.in-Binary.is in
    let below = tr.names in
    let plain = E.Binary c.in-Binary.op (tree_at (arena_trees c.args.templates.now.arena) c.in-Binary.a) (tree_at (arena_trees c.args.templates.now.arena) c.in-Binary.b) in (
      omega (arith, c.decreases, below.0, below.1),
      (
        omega (arith, below.0, c.requires.node),
        (
          omega (arith, below.1, c.requires.node),
          ready_strip c.args.env.now c.args.code.now tr.place plain c.args.context.width
              (subst (λ (x : E.Expression). IsReady c.args.env.now c.args.code.now x c.args.context.width) tr.is c.requires.ready),
        ),
      ),
    )

pub lower-returns-in-Binary : goal.lower-returns-in-Binary
lower-returns-in-Binary t c =
    let e = c.args.e in
    let node = N.Binary c.in-Binary.op c.in-Binary.a c.in-Binary.b in
    let tr = tree c.args.templates.now.arena e c.expr.result.now node c.expr.ensures.tree c.expr.ensures.names c.in-Binary.is in
    let plain = E.Binary c.in-Binary.op (tree_at (arena_trees c.args.templates.now.arena) c.in-Binary.a) (tree_at (arena_trees c.args.templates.now.arena) c.in-Binary.b) in
    let w = c.args.context.width in
    let s = c.args.context.signed in
    let env = c.args.env.now in
    let code = c.args.code.now in
    IfOk-weaker c.binary.result
    (λ (to : Vec ℕ Global). AddsValue env code.calls code.next c.binary.new.code.calls c.binary.new.code.next plain w s to.items)
    (λ (to : Vec ℕ Global). AddsValue env code.calls code.next c.binary.new.code.calls c.binary.new.code.next (tree_at (arena_trees c.args.templates.now.arena) e) w s to.items)
    (λ to v. subst (λ (x : E.Expression). AddsValue env code.calls code.next c.binary.new.code.calls c.binary.new.code.next x w s to.items) (sym tr.is)
    (adds_placed env code.calls code.next c.binary.new.code.calls c.binary.new.code.next tr.place plain w s to.items v))
    c.binary.ensures

pub lower-name-requires-clause-signal : goal.lower-name-requires-clause-signal
lower-name-requires-clause-signal t c =
    let e = c.args.e in
    let node = N.Name c.in-Name.signal in
    let tr = tree c.args.templates.now.arena e c.expr.result.now node c.expr.ensures.tree c.expr.ensures.names c.in-Name.is in
    tr.names

pub lower-returns-in-Name : goal.lower-returns-in-Name
lower-returns-in-Name t c =
    let e = c.args.e in
    let a = c.args.templates.now.arena in
    let node = N.Name c.in-Name.signal in
    let tr = tree a e c.expr.result.now node c.expr.ensures.tree c.expr.ensures.names c.in-Name.is in
    let below = tr.names in
    let signal = signal_at (arena_signals a) c.in-Name.signal in
    let plain = E.Name signal in
    let w = c.args.context.width in
    let s = c.args.context.signed in
    let env = c.args.env.now in
    let code = c.args.code.now in
    let ready = ready_strip env code tr.place plain w (subst (λ (x : E.Expression). IsReady env code x w) tr.is c.requires.ready) in
    IfOk-weaker c.name.result
    (λ (to : Vec ℕ Global). to.items ≡ extended_slots w s (map (slice_index env) (bits_of_signal signal)))
    (λ (to : Vec ℕ Global). AddsValue env code.calls code.next code.calls code.next (tree_at (arena_trees a) e) w s to.items)
    (λ to is. subst (λ (x : E.Expression). AddsValue env code.calls code.next code.calls code.next x w s to.items) (sym tr.is)
    (adds_placed env code.calls code.next code.calls code.next tr.place plain w s to.items
    (adds_name env code signal w s to.items ready is)))
    c.name.ensures

pub lower-returns-in-Literal : goal.lower-returns-in-Literal
lower-returns-in-Literal t c =
    let e = c.args.e in
    let node = N.Literal c.in-Literal.bits c.in-Literal.signed c.in-Literal.sized in
    let tr = tree c.args.templates.now.arena e c.expr.result.now node c.expr.ensures.tree c.expr.ensures.names c.in-Literal.is in
    let plain = E.Literal c.in-Literal.bits c.in-Literal.signed c.in-Literal.sized in
    let w = c.args.context.width in
    let s = c.args.context.signed in
    let env = c.args.env.now in
    let code = c.args.code.now in
    let ready = ready_strip env code tr.place plain w (subst (λ (x : E.Expression). IsReady env code x w) tr.is c.requires.ready) in
    IfOk-weaker c.literal.result
    (λ (to : Vec ℕ Global). to.items ≡ extended_slots w (s || (not c.in-Literal.sized && not (is_known (last_or Zero c.in-Literal.bits)))) (constant_slots c.in-Literal.bits))
    (λ (to : Vec ℕ Global). AddsValue env code.calls code.next code.calls code.next (tree_at (arena_trees c.args.templates.now.arena) e) w s to.items)
    (λ to is. subst (λ (x : E.Expression). AddsValue env code.calls code.next code.calls code.next x w s to.items) (sym tr.is)
    (adds_placed env code.calls code.next code.calls code.next tr.place plain w s to.items
    (adds_literal env code c.in-Literal.bits c.in-Literal.signed c.in-Literal.sized w s to.items ready (c.value_law.ensures.length plain w s (λ b. X) ready.wide) is)))
    c.literal.ensures

pub binary-shifted-requires-clause-most : goal.binary-shifted-requires-clause-most
binary-shifted-requires-clause-most t c =
    let op = c.args.op in
    let a = tree_at (arena_trees c.args.templates.now.arena) c.args.a in
    let b = tree_at (arena_trees c.args.templates.now.arena) c.args.b in
    let w = c.args.context.width in
    let s = c.args.context.signed in
    let env = c.args.env.now in
    let code = c.args.code.now in
    let ls = c.left-l.result.signed in
    let p = c.in_ok-p.p.items in
    let q = c.in_ok-q.q.items in
    let o = operands_of env code c.lower.new.code c.lower-2.new.code op a b w s c.left-l.result.width ls c.right-r.result.width c.right-r.result.signed c.own_of-own_a.result.width c.own_of-own_b.result.width c.own_of-own_a.result.signed c.own_of-own_b.result.signed p q
    c.left-l.ensures.width c.left-l.ensures.signed c.right-r.ensures.width c.right-r.ensures.signed c.own_of-own_a.ensures.width c.own_of-own_b.ensures.width c.own_of-own_a.ensures.signed c.own_of-own_b.ensures.signed c.requires.ready c.in_ok-p.ensures c.in_ok-q.ensures in
    let short = short_is env code c.lower.new.code c.lower-2.new.code op a b w s ls p q o in
    omega (arith, short.most, c.as_slice-in-Moved.ensures.len, c.as_slice-in-Moved.ensures.value)

pub unary-lower-requires : goal.unary-lower-requires
unary-lower-requires t c =
    let op = c.args.op in
    let a = tree_at (arena_trees c.args.templates.now.arena) c.args.a in
    let w = c.args.context.width in
    let s = c.args.context.signed in
    let env = c.args.env.now in
    let code = c.args.code.now in (
      omega (arith, c.decreases),
      (c.requires.a, ready_operand env code op a w c.operand-l.result.width c.own_of-own.result.width c.operand-l.ensures.width c.own_of-own.ensures.width c.requires.ready),
    )

pub unary-applied-requires-clause-some : goal.unary-applied-requires-clause-some
unary-applied-requires-clause-some t c =
    let op = c.args.op in
    let a = tree_at (arena_trees c.args.templates.now.arena) c.args.a in
    let w = c.args.context.width in
    let s = c.args.context.signed in
    let env = c.args.env.now in
    let code = c.args.code.now in
    let p = c.in_ok-p.p.items in
    let o = operand_of env code c.lower.new.code op a w s c.operand-l.result.width c.own_of-own.result.width c.operand-l.result.signed c.own_of-own.result.signed p
    c.operand-l.ensures.width c.operand-l.ensures.signed c.own_of-own.ensures.width c.own_of-own.ensures.signed c.requires.ready c.in_ok-p.ensures in
    (operand_long env code c.lower.new.code op a w s p o).0

pub unary-applied-requires-clause-most : goal.unary-applied-requires-clause-most
unary-applied-requires-clause-most t c =
    let op = c.args.op in
    let a = tree_at (arena_trees c.args.templates.now.arena) c.args.a in
    let w = c.args.context.width in
    let s = c.args.context.signed in
    let env = c.args.env.now in
    let code = c.args.code.now in
    let p = c.in_ok-p.p.items in
    let o = operand_of env code c.lower.new.code op a w s c.operand-l.result.width c.own_of-own.result.width c.operand-l.result.signed c.own_of-own.result.signed p
    c.operand-l.ensures.width c.operand-l.ensures.signed c.own_of-own.ensures.width c.own_of-own.ensures.signed c.requires.ready c.in_ok-p.ensures in
    (operand_long env code c.lower.new.code op a w s p o).1

pub unary-applied-requires-clause-call : goal.unary-applied-requires-clause-call
unary-applied-requires-clause-call t c =
    let op = c.args.op in
    let a = tree_at (arena_trees c.args.templates.now.arena) c.args.a in
    let w = c.args.context.width in
    let s = c.args.context.signed in
    let env = c.args.env.now in
    let code = c.args.code.now in
    let p = c.in_ok-p.p.items in
    let o = operand_of env code c.lower.new.code op a w s c.operand-l.result.width c.own_of-own.result.width c.operand-l.result.signed c.own_of-own.result.signed p
    c.operand-l.ensures.width c.operand-l.ensures.signed c.own_of-own.ensures.width c.own_of-own.ensures.signed c.requires.ready c.in_ok-p.ensures in
    callable_unary env code c.lower.new.code op a w s p o

pub unary-returns : goal.unary-returns
unary-returns t c =
    let op = c.args.op in
    let a = tree_at (arena_trees c.args.templates.now.arena) c.args.a in
    let w = c.args.context.width in
    let s = c.args.context.signed in
    let env = c.args.env.now in
    let code = c.args.code.now in
    let p = c.in_ok-p.p.items in
    let o = operand_of env code c.lower.new.code op a w s c.operand-l.result.width c.own_of-own.result.width c.operand-l.result.signed c.own_of-own.result.signed p
    c.operand-l.ensures.width c.operand-l.ensures.signed c.own_of-own.ensures.width c.own_of-own.ensures.signed c.requires.ready c.in_ok-p.ensures in
    let code2 = c.applied.new.code in
    IfOk-weaker c.applied.result
    (λ (to : Vec ℕ Global). IsUnary op w s p c.lower.new.code code2 to.items)
    (λ (to : Vec ℕ Global). AddsValue env code.calls code.next code2.calls code2.next (E.Unary op a) w s to.items)
    (λ to h. returns_unary c.value_law.ensures.length env code c.lower.new.code code2 op a w s p to.items o h)
    c.applied.ensures

pub choice-lower-requires : goal.choice-lower-requires
choice-lower-requires t c =
    let e = tree_at (arena_trees c.args.templates.now.arena) c.args.c in
    let a = tree_at (arena_trees c.args.templates.now.arena) c.args.p in
    let b = tree_at (arena_trees c.args.templates.now.arena) c.args.q in
    let w = c.args.context.width in
    let s = c.args.context.signed in
    let env = c.args.env.now in
    let code = c.args.code.now in
    (omega (arith, c.decreases), (c.requires.c, ready_condition env code e a b w c.own_of-own.result.width c.own_of-own.ensures.width c.requires.ready))

pub choice-lower-requires-2 : goal.choice-lower-requires-2
choice-lower-requires-2 t c =
    let e = tree_at (arena_trees c.args.templates.now.arena) c.args.c in
    let a = tree_at (arena_trees c.args.templates.now.arena) c.args.p in
    let b = tree_at (arena_trees c.args.templates.now.arena) c.args.q in
    let w = c.args.context.width in
    let s = c.args.context.signed in
    let env = c.args.env.now in
    let code = c.args.code.now in
    let tc = c.in_ok-t.t.items in
    let vc = own_value_of env code c.lower.new.code e c.own_of-own.result.width c.own_of-own.result.signed tc c.own_of-own.ensures.width c.own_of-own.ensures.signed c.in_ok-t.ensures in
    (omega (arith, c.decreases), (c.requires.p, ready_first env code c.lower.new.code e a b w tc c.requires.ready vc))

pub choice-lower-requires-3 : goal.choice-lower-requires-3
choice-lower-requires-3 t c =
    let e = tree_at (arena_trees c.args.templates.now.arena) c.args.c in
    let a = tree_at (arena_trees c.args.templates.now.arena) c.args.p in
    let b = tree_at (arena_trees c.args.templates.now.arena) c.args.q in
    let w = c.args.context.width in
    let s = c.args.context.signed in
    let env = c.args.env.now in
    let code = c.args.code.now in
    let tc = c.in_ok-t.t.items in
    let vc = own_value_of env code c.lower.new.code e c.own_of-own.result.width c.own_of-own.result.signed tc c.own_of-own.ensures.width c.own_of-own.ensures.signed c.in_ok-t.ensures in
    (omega (arith, c.decreases), (c.requires.q, ready_second env code c.lower.new.code c.lower-2.new.code e a b w s tc c.in_ok-x.x.items c.requires.ready vc c.in_ok-x.ensures))

pub choice-chosen-requires-clause-some_c : goal.choice-chosen-requires-clause-some_c
choice-chosen-requires-clause-some_c t c =
    let e = tree_at (arena_trees c.args.templates.now.arena) c.args.c in
    let a = tree_at (arena_trees c.args.templates.now.arena) c.args.p in
    let b = tree_at (arena_trees c.args.templates.now.arena) c.args.q in
    let w = c.args.context.width in
    let s = c.args.context.signed in
    let env = c.args.env.now in
    let code = c.args.code.now in
    let tc = c.in_ok-t.t.items in
    let vc = own_value_of env code c.lower.new.code e c.own_of-own.result.width c.own_of-own.result.signed tc c.own_of-own.ensures.width c.own_of-own.ensures.signed c.in_ok-t.ensures in
    let tp = c.in_ok-x.x.items in
    let tq = c.in_ok-y.y.items in
    let o : Parts env code c.lower.new.code c.lower-2.new.code c.lower-3.new.code e a b w s tc tp tq = record { ready = c.requires.ready; condition = vc; first = c.in_ok-x.ensures; second = c.in_ok-y.ensures } in
    (parts_long env code c.lower.new.code c.lower-2.new.code c.lower-3.new.code e a b w s tc tp tq o).some_c

pub choice-chosen-requires-clause-most_c : goal.choice-chosen-requires-clause-most_c
choice-chosen-requires-clause-most_c t c =
    let e = tree_at (arena_trees c.args.templates.now.arena) c.args.c in
    let a = tree_at (arena_trees c.args.templates.now.arena) c.args.p in
    let b = tree_at (arena_trees c.args.templates.now.arena) c.args.q in
    let w = c.args.context.width in
    let s = c.args.context.signed in
    let env = c.args.env.now in
    let code = c.args.code.now in
    let tc = c.in_ok-t.t.items in
    let vc = own_value_of env code c.lower.new.code e c.own_of-own.result.width c.own_of-own.result.signed tc c.own_of-own.ensures.width c.own_of-own.ensures.signed c.in_ok-t.ensures in
    let tp = c.in_ok-x.x.items in
    let tq = c.in_ok-y.y.items in
    let o : Parts env code c.lower.new.code c.lower-2.new.code c.lower-3.new.code e a b w s tc tp tq = record { ready = c.requires.ready; condition = vc; first = c.in_ok-x.ensures; second = c.in_ok-y.ensures } in
    (parts_long env code c.lower.new.code c.lower-2.new.code c.lower-3.new.code e a b w s tc tp tq o).most_c

pub choice-chosen-requires-clause-some : goal.choice-chosen-requires-clause-some
choice-chosen-requires-clause-some t c =
    let e = tree_at (arena_trees c.args.templates.now.arena) c.args.c in
    let a = tree_at (arena_trees c.args.templates.now.arena) c.args.p in
    let b = tree_at (arena_trees c.args.templates.now.arena) c.args.q in
    let w = c.args.context.width in
    let s = c.args.context.signed in
    let env = c.args.env.now in
    let code = c.args.code.now in
    let tc = c.in_ok-t.t.items in
    let vc = own_value_of env code c.lower.new.code e c.own_of-own.result.width c.own_of-own.result.signed tc c.own_of-own.ensures.width c.own_of-own.ensures.signed c.in_ok-t.ensures in
    let tp = c.in_ok-x.x.items in
    let tq = c.in_ok-y.y.items in
    let o : Parts env code c.lower.new.code c.lower-2.new.code c.lower-3.new.code e a b w s tc tp tq = record { ready = c.requires.ready; condition = vc; first = c.in_ok-x.ensures; second = c.in_ok-y.ensures } in
    (parts_long env code c.lower.new.code c.lower-2.new.code c.lower-3.new.code e a b w s tc tp tq o).some

pub choice-chosen-requires-clause-most : goal.choice-chosen-requires-clause-most
choice-chosen-requires-clause-most t c =
    let e = tree_at (arena_trees c.args.templates.now.arena) c.args.c in
    let a = tree_at (arena_trees c.args.templates.now.arena) c.args.p in
    let b = tree_at (arena_trees c.args.templates.now.arena) c.args.q in
    let w = c.args.context.width in
    let s = c.args.context.signed in
    let env = c.args.env.now in
    let code = c.args.code.now in
    let tc = c.in_ok-t.t.items in
    let vc = own_value_of env code c.lower.new.code e c.own_of-own.result.width c.own_of-own.result.signed tc c.own_of-own.ensures.width c.own_of-own.ensures.signed c.in_ok-t.ensures in
    let tp = c.in_ok-x.x.items in
    let tq = c.in_ok-y.y.items in
    let o : Parts env code c.lower.new.code c.lower-2.new.code c.lower-3.new.code e a b w s tc tp tq = record { ready = c.requires.ready; condition = vc; first = c.in_ok-x.ensures; second = c.in_ok-y.ensures } in
    (parts_long env code c.lower.new.code c.lower-2.new.code c.lower-3.new.code e a b w s tc tp tq o).most

pub choice-chosen-requires-clause-alike : goal.choice-chosen-requires-clause-alike
choice-chosen-requires-clause-alike t c =
    let e = tree_at (arena_trees c.args.templates.now.arena) c.args.c in
    let a = tree_at (arena_trees c.args.templates.now.arena) c.args.p in
    let b = tree_at (arena_trees c.args.templates.now.arena) c.args.q in
    let w = c.args.context.width in
    let s = c.args.context.signed in
    let env = c.args.env.now in
    let code = c.args.code.now in
    let tc = c.in_ok-t.t.items in
    let vc = own_value_of env code c.lower.new.code e c.own_of-own.result.width c.own_of-own.result.signed tc c.own_of-own.ensures.width c.own_of-own.ensures.signed c.in_ok-t.ensures in
    let tp = c.in_ok-x.x.items in
    let tq = c.in_ok-y.y.items in
    let o : Parts env code c.lower.new.code c.lower-2.new.code c.lower-3.new.code e a b w s tc tp tq = record { ready = c.requires.ready; condition = vc; first = c.in_ok-x.ensures; second = c.in_ok-y.ensures } in
    (parts_long env code c.lower.new.code c.lower-2.new.code c.lower-3.new.code e a b w s tc tp tq o).alike

pub choice-chosen-requires-clause-call : goal.choice-chosen-requires-clause-call
choice-chosen-requires-clause-call t c =
    let e = tree_at (arena_trees c.args.templates.now.arena) c.args.c in
    let a = tree_at (arena_trees c.args.templates.now.arena) c.args.p in
    let b = tree_at (arena_trees c.args.templates.now.arena) c.args.q in
    let w = c.args.context.width in
    let s = c.args.context.signed in
    let env = c.args.env.now in
    let code = c.args.code.now in
    let tc = c.in_ok-t.t.items in
    let vc = own_value_of env code c.lower.new.code e c.own_of-own.result.width c.own_of-own.result.signed tc c.own_of-own.ensures.width c.own_of-own.ensures.signed c.in_ok-t.ensures in
    let tp = c.in_ok-x.x.items in
    let tq = c.in_ok-y.y.items in
    let o : Parts env code c.lower.new.code c.lower-2.new.code c.lower-3.new.code e a b w s tc tp tq = record { ready = c.requires.ready; condition = vc; first = c.in_ok-x.ensures; second = c.in_ok-y.ensures } in
    callable_choice env code c.lower.new.code c.lower-2.new.code c.lower-3.new.code e a b w s tc tp tq o

pub choice-returns : goal.choice-returns
choice-returns t c =
    let e = tree_at (arena_trees c.args.templates.now.arena) c.args.c in
    let a = tree_at (arena_trees c.args.templates.now.arena) c.args.p in
    let b = tree_at (arena_trees c.args.templates.now.arena) c.args.q in
    let w = c.args.context.width in
    let s = c.args.context.signed in
    let env = c.args.env.now in
    let code = c.args.code.now in
    let tc = c.in_ok-t.t.items in
    let vc = own_value_of env code c.lower.new.code e c.own_of-own.result.width c.own_of-own.result.signed tc c.own_of-own.ensures.width c.own_of-own.ensures.signed c.in_ok-t.ensures in
    let tp = c.in_ok-x.x.items in
    let tq = c.in_ok-y.y.items in
    let o : Parts env code c.lower.new.code c.lower-2.new.code c.lower-3.new.code e a b w s tc tp tq = record { ready = c.requires.ready; condition = vc; first = c.in_ok-x.ensures; second = c.in_ok-y.ensures } in
    let code4 = c.chosen.new.code in
    IfOk-weaker c.chosen.result
    (λ (to : Vec ℕ Global). IsChoice w tc tp tq c.lower-3.new.code code4 to.items)
    (λ (to : Vec ℕ Global). AddsValue env code.calls code.next code4.calls code4.next (E.Choice e a b) w s to.items)
    (λ to h. returns_choice c.value_law.ensures.length env code c.lower.new.code c.lower-2.new.code c.lower-3.new.code code4 e a b w s tc tp tq to.items o h)
    c.chosen.ensures

pub lower-unary-requires : goal.lower-unary-requires
lower-unary-requires t c =
    let e = c.args.e in
    let node = N.Unary c.in-Unary.op c.in-Unary.a in
    let tr = tree c.args.templates.now.arena e c.expr.result.now node c.expr.ensures.tree c.expr.ensures.names c.in-Unary.is in
    let plain = E.Unary c.in-Unary.op (tree_at (arena_trees c.args.templates.now.arena) c.in-Unary.a) in
    let below = tr.names in (
      omega (arith, c.decreases, below),
      (
        omega (arith, below, c.requires.node),
        ready_strip c.args.env.now c.args.code.now tr.place plain c.args.context.width
            (subst (λ (x : E.Expression). IsReady c.args.env.now c.args.code.now x c.args.context.width) tr.is c.requires.ready),
      ),
    )

pub lower-returns-in-Unary : goal.lower-returns-in-Unary
lower-returns-in-Unary t c =
    let e = c.args.e in
    let node = N.Unary c.in-Unary.op c.in-Unary.a in
    let tr = tree c.args.templates.now.arena e c.expr.result.now node c.expr.ensures.tree c.expr.ensures.names c.in-Unary.is in
    let plain = E.Unary c.in-Unary.op (tree_at (arena_trees c.args.templates.now.arena) c.in-Unary.a) in
    let w = c.args.context.width in
    let s = c.args.context.signed in
    let env = c.args.env.now in
    let code = c.args.code.now in
    IfOk-weaker c.unary.result
    (λ (to : Vec ℕ Global). AddsValue env code.calls code.next c.unary.new.code.calls c.unary.new.code.next plain w s to.items)
    (λ (to : Vec ℕ Global). AddsValue env code.calls code.next c.unary.new.code.calls c.unary.new.code.next (tree_at (arena_trees c.args.templates.now.arena) e) w s to.items)
    (λ to v. subst (λ (x : E.Expression). AddsValue env code.calls code.next c.unary.new.code.calls c.unary.new.code.next x w s to.items) (sym tr.is)
    (adds_placed env code.calls code.next c.unary.new.code.calls c.unary.new.code.next tr.place plain w s to.items v))
    c.unary.ensures

pub lower-choice-requires : goal.lower-choice-requires
lower-choice-requires t c =
    let e = c.args.e in
    let node = N.Choice c.in-Choice.c c.in-Choice.p c.in-Choice.q in
    let tr = tree c.args.templates.now.arena e c.expr.result.now node c.expr.ensures.tree c.expr.ensures.names c.in-Choice.is in
    let plain = E.Choice (tree_at (arena_trees c.args.templates.now.arena) c.in-Choice.c) (tree_at (arena_trees c.args.templates.now.arena) c.in-Choice.p) (tree_at (arena_trees c.args.templates.now.arena) c.in-Choice.q) in
    let below = tr.names in (
      omega (arith, c.decreases, below.0, below.1, below.2),
      (
        omega (arith, below.0, c.requires.node),
        (
          omega (arith, below.1, c.requires.node),
          (
            omega (arith, below.2, c.requires.node),
            ready_strip c.args.env.now c.args.code.now tr.place plain c.args.context.width
                (subst (λ (x : E.Expression). IsReady c.args.env.now c.args.code.now x c.args.context.width) tr.is c.requires.ready),
          ),
        ),
      ),
    )

pub lower-returns-in-Choice : goal.lower-returns-in-Choice
lower-returns-in-Choice t c =
    let e = c.args.e in
    let node = N.Choice c.in-Choice.c c.in-Choice.p c.in-Choice.q in
    let tr = tree c.args.templates.now.arena e c.expr.result.now node c.expr.ensures.tree c.expr.ensures.names c.in-Choice.is in
    let plain = E.Choice (tree_at (arena_trees c.args.templates.now.arena) c.in-Choice.c) (tree_at (arena_trees c.args.templates.now.arena) c.in-Choice.p) (tree_at (arena_trees c.args.templates.now.arena) c.in-Choice.q) in
    let w = c.args.context.width in
    let s = c.args.context.signed in
    let env = c.args.env.now in
    let code = c.args.code.now in
    IfOk-weaker c.choice.result
    (λ (to : Vec ℕ Global). AddsValue env code.calls code.next c.choice.new.code.calls c.choice.new.code.next plain w s to.items)
    (λ (to : Vec ℕ Global). AddsValue env code.calls code.next c.choice.new.code.calls c.choice.new.code.next (tree_at (arena_trees c.args.templates.now.arena) e) w s to.items)
    (λ to v. subst (λ (x : E.Expression). AddsValue env code.calls code.next c.choice.new.code.calls c.choice.new.code.next x w s to.items) (sym tr.is)
    (adds_placed env code.calls code.next c.choice.new.code.calls c.choice.new.code.next tr.place plain w s to.items v))
    c.choice.ensures

pub concatenated-lower-requires : goal.concatenated-lower-requires
concatenated-lower-requires t c =
    let env = c.args.env.now in
    let code = c.args.code.now in
    let t1 = tree_at (arena_trees c.args.templates.now.arena) in
    let parts = c.args.parts.now in
    let first = slice_index parts 0 in
    let high = t1 first in (
      omega (arith, c.decreases, c.requires.parts 0 0 c.requires.some, c.requires.some),
      (
        omega (arith, c.requires.parts 0 0 c.requires.some, c.requires.e),
        ready_one env code (joined (map t1 parts)) high c.own_of-own.result.width (one_part t1 parts c.if-parts-eq1.true) c.own_of-own.ensures.width c.requires.ready,
      ),
    )

pub concatenated-concatenated-requires : goal.concatenated-concatenated-requires
concatenated-concatenated-requires t c =
    let env = c.args.env.now in
    let code = c.args.code.now in
    let t1 = tree_at (arena_trees c.args.templates.now.arena) in
    let parts = c.args.parts.now in
    let first = slice_index parts 0 in
    let high = t1 first in
    let low = joined (map t1 (rest parts)) in
    let is = split_rest t1 parts c.requires.some c.if-parts-eq1.false in
    let ready = ready_part env code (joined (map t1 parts)) (E.Join high low) is c.requires.ready in
    let short = rest_short parts c.requires.some in
    let more = ready_low env code high low ready in (
      omega (arith, c.decreases, short),
      (
        (parts_most env code t1 (rest parts) (E.width low) more).0,
        (rest_all (λ p. p < c.args.e) parts c.requires.parts, (c.requires.e, more)),
      ),
    )

pub concatenated-lower-requires-2 : goal.concatenated-lower-requires-2
concatenated-lower-requires-2 t c =
    let env = c.args.env.now in
    let code = c.args.code.now in
    let t1 = tree_at (arena_trees c.args.templates.now.arena) in
    let parts = c.args.parts.now in
    let first = slice_index parts 0 in
    let high = t1 first in
    let low = joined (map t1 (rest parts)) in
    let is = split_rest t1 parts c.requires.some c.if-parts-eq1.false in
    let ready = ready_part env code (joined (map t1 parts)) (E.Join high low) is c.requires.ready in (
      omega (arith, c.decreases, c.requires.parts 0 0 c.requires.some, c.requires.some),
      (
        omega (arith, c.requires.parts 0 0 c.requires.some, c.requires.e),
        ready_high env code c.concatenated.new.code high low c.own_of-own.result.width c.in_ok-low.low.items c.own_of-own.ensures.width ready c.in_ok-low.ensures,
      ),
    )

pub concatenated-returns-then-parts-eq1 : goal.concatenated-returns-then-parts-eq1
concatenated-returns-then-parts-eq1 t c =
    let env = c.args.env.now in
    let code = c.args.code.now in
    let t1 = tree_at (arena_trees c.args.templates.now.arena) in
    let parts = c.args.parts.now in
    let first = slice_index parts 0 in
    let high = t1 first in
    let e = joined (map t1 parts) in
    let code1 = c.lower.new.code in
    IfOk-weaker c.lower.result
    (λ (to : Vec ℕ Global). AddsValue env code.calls code.next code1.calls code1.next high c.own_of-own.result.width c.own_of-own.result.signed to.items)
    (λ (to : Vec ℕ Global). AddsValue env code.calls code.next code1.calls code1.next e (E.width e) (E.sign e) to.items)
    (λ to v. adds_one env code code1 e high c.own_of-own.result.width c.own_of-own.result.signed to.items (one_part t1 parts c.if-parts-eq1.true) c.own_of-own.ensures.width c.own_of-own.ensures.signed v)
    c.lower.ensures

pub concatenated-returns : goal.concatenated-returns
concatenated-returns t c =
    let env = c.args.env.now in
    let code = c.args.code.now in
    let t1 = tree_at (arena_trees c.args.templates.now.arena) in
    let parts = c.args.parts.now in
    let first = slice_index parts 0 in
    let high = t1 first in
    let low = joined (map t1 (rest parts)) in
    let is = split_rest t1 parts c.requires.some c.if-parts-eq1.false in
    let ready = ready_part env code (joined (map t1 parts)) (E.Join high low) is c.requires.ready in
    let e = joined (map t1 parts) in
    let code1 = c.concatenated.new.code in
    let code2 = c.lower-2.new.code in
    let tl = c.in_ok-low.low.items in
    let th = c.in_ok-high.high.items in
    IfOk-weaker c.appended.result
    (λ (to : Vec ℕ Global). to.items ≡ tl ++ th)
    (λ (to : Vec ℕ Global). AddsValue env code.calls code.next code2.calls code2.next e (E.width e) (E.sign e) to.items)
    (λ to h. adds_join env code code1 code2 e high low c.own_of-own.result.width c.own_of-own.result.signed tl th to.items is c.own_of-own.ensures.width c.own_of-own.ensures.signed ready c.in_ok-low.ensures c.in_ok-high.ensures h)
    c.appended.ensures

pub replication-copied-requires : goal.replication-copied-requires
replication-copied-requires t c =
    let env = c.args.env.now in
    let code = c.args.code.now in
    let t1 = tree_at (arena_trees c.args.templates.now.arena) in
    let parts = c.args.parts.now in
    record { some = parts_some env code t1 parts c.args.context.width c.requires.ready }

pub replication-concatenated-requires : goal.replication-concatenated-requires
replication-concatenated-requires t c =
    let env = c.args.env.now in
    let code = c.args.code.now in
    let t1 = tree_at (arena_trees c.args.templates.now.arena) in
    let parts = c.args.parts.now in
    let w = c.args.context.width in
    let s = c.args.context.signed in
    let one = joined (map t1 (first_copy parts)) in
    let first = c.first_copy-first.result.now in
    let is = c.first_copy-first.ensures.copy in
    let rest = subst (λ (x : List ℕ). IsReady env code (joined (map t1 x)) (E.width (joined (map t1 x)))) (sym is) (ready_copy env code (copy_count parts) one w c.requires.ready) in
    let most = parts_most env code t1 first (E.width (joined (map t1 first))) rest in (
      omega (arith, c.decreases, most.1),
      (most.0, (subst (All (λ p. p < c.args.e)) (sym c.first_copy-first.ensures.prefix) (All-take (λ p. p < c.args.e) (length first) parts c.requires.parts), (c.requires.e, rest))),
    )

pub replication-returns : goal.replication-returns
replication-returns t c =
    let env = c.args.env.now in
    let code = c.args.code.now in
    let t1 = tree_at (arena_trees c.args.templates.now.arena) in
    let parts = c.args.parts.now in
    let w = c.args.context.width in
    let s = c.args.context.signed in
    let one = joined (map t1 (first_copy parts)) in
    let first = c.first_copy-first.result.now in
    let is = c.first_copy-first.ensures.copy in
    let code1 = c.concatenated.new.code in
    let ta = c.in_ok-one.one.items in
    IfOk-weaker c.copied.result
    (λ (to : Vec ℕ Global). to.items ≡ extended_slots w s (repeat (copy_count parts) ta))
    (λ (to : Vec ℕ Global). AddsValue env code.calls code.next code1.calls code1.next (E.Repeat (copy_count parts) one) w s to.items)
    (λ to h. adds_copies env code code1 (copy_count parts) one (joined (map t1 first)) w s ta to.items (ap (λ (x : List ℕ). joined (map t1 x)) is) c.requires.ready c.in_ok-one.ensures h)
    c.copied.ensures

pub lower-replication-requires : goal.lower-replication-requires
lower-replication-requires t c =
    let e = c.args.e in
    let node = N.Join c.in-Join.parts in
    let tr = tree c.args.templates.now.arena e c.expr.result.now node c.expr.ensures.tree c.expr.ensures.names c.in-Join.is in
    let t1 = tree_at (arena_trees c.args.templates.now.arena) in
    let of : List ℕ → E.Expression = λ parts. E.Repeat (copy_count parts) (joined (map t1 (first_copy parts))) in
    let parts = c.as_slice.result.now in
    let plain = of parts in
    let same : tree_at (arena_trees c.args.templates.now.arena) e ≡ E.At tr.place plain = tr.is ∙ ap (λ (x : List ℕ). E.At tr.place (of x)) (sym c.as_slice.ensures) in
    let below = each_below e c.in-Join.parts tr.names in (
      omega (arith, c.decreases),
      (
        subst (λ (x : List ℕ). All (λ p. p < e) x) (sym c.as_slice.ensures) below,
        (
          c.requires.node,
          ready_strip c.args.env.now c.args.code.now tr.place plain c.args.context.width
              (subst (λ (x : E.Expression). IsReady c.args.env.now c.args.code.now x c.args.context.width) same c.requires.ready),
        ),
      ),
    )

pub lower-returns-in-Join : goal.lower-returns-in-Join
lower-returns-in-Join t c =
    let e = c.args.e in
    let node = N.Join c.in-Join.parts in
    let tr = tree c.args.templates.now.arena e c.expr.result.now node c.expr.ensures.tree c.expr.ensures.names c.in-Join.is in
    let t1 = tree_at (arena_trees c.args.templates.now.arena) in
    let of : List ℕ → E.Expression = λ parts. E.Repeat (copy_count parts) (joined (map t1 (first_copy parts))) in
    let parts = c.as_slice.result.now in
    let plain = of parts in
    let same : tree_at (arena_trees c.args.templates.now.arena) e ≡ E.At tr.place plain = tr.is ∙ ap (λ (x : List ℕ). E.At tr.place (of x)) (sym c.as_slice.ensures) in
    let w = c.args.context.width in
    let s = c.args.context.signed in
    let env = c.args.env.now in
    let code = c.args.code.now in
    let code1 = c.replication.new.code in
    IfOk-weaker c.replication.result
    (λ (to : Vec ℕ Global). AddsValue env code.calls code.next code1.calls code1.next plain w s to.items)
    (λ (to : Vec ℕ Global). AddsValue env code.calls code.next code1.calls code1.next (tree_at (arena_trees c.args.templates.now.arena) e) w s to.items)
    (λ to v. subst (λ (x : E.Expression). AddsValue env code.calls code.next code1.calls code1.next x w s to.items) (sym same)
    (adds_placed env code.calls code.next code1.calls code1.next tr.place plain w s to.items v))
    c.replication.ensures

pub select-lower-requires : goal.select-lower-requires
select-lower-requires t c =
    let env = c.args.env.now in
    let code = c.args.code.now in
    let t1 = tree_at (arena_trees c.args.templates.now.arena) in
    let of = source_of (t1 c.args.of) in
    let part : Part = record { range = c.args.range; up = c.args.up; width = c.args.width } in
    let index = t1 c.args.index in
    let w = c.args.context.width in
    let s = c.args.context.signed in
    (omega (arith, c.decreases), (c.requires.index, ready_index env code of part index w c.own_of-own.result.width c.own_of-own.ensures.width c.requires.ready))

pub select-source-requires-clause-within : goal.select-source-requires-clause-within
select-source-requires-clause-within t c =
    let of = source_of (tree_at (arena_trees c.args.templates.now.arena) c.args.of) in
    let index = tree_at (arena_trees c.args.templates.now.arena) c.args.index in
    (both_true (source_within (length c.args.env.now) of) (names_within (length c.args.env.now) index) c.requires.ready.has_bits).0

pub select-chosen_bits-requires-clause-of_range : goal.select-chosen_bits-requires-clause-of_range
select-chosen_bits-requires-clause-of_range t c =
    let env = c.args.env.now in
    let code = c.args.code.now in
    let t1 = tree_at (arena_trees c.args.templates.now.arena) in
    let of = source_of (t1 c.args.of) in
    let part : Part = record { range = c.args.range; up = c.args.up; width = c.args.width } in
    let index = t1 c.args.index in
    let w = c.args.context.width in
    let s = c.args.context.signed in
    let code1 = c.lower.new.code in
    let ti = c.in_ok-i.i.items in
    let from = c.in_ok-from.from.items in
    let vi = own_value_of env code code1 index c.own_of-own.result.width c.own_of-own.result.signed ti c.own_of-own.ensures.width c.own_of-own.ensures.signed c.in_ok-i.ensures in
    let o = index_of env code code1 of part index w ti c.requires.ready vi in
    (selectable_from part env of from ti c.in_ok-from.ensures (selectable env code code1 of part index w ti o)).of_range

pub select-chosen_bits-requires-clause-some : goal.select-chosen_bits-requires-clause-some
select-chosen_bits-requires-clause-some t c =
    let env = c.args.env.now in
    let code = c.args.code.now in
    let t1 = tree_at (arena_trees c.args.templates.now.arena) in
    let of = source_of (t1 c.args.of) in
    let part : Part = record { range = c.args.range; up = c.args.up; width = c.args.width } in
    let index = t1 c.args.index in
    let w = c.args.context.width in
    let s = c.args.context.signed in
    let code1 = c.lower.new.code in
    let ti = c.in_ok-i.i.items in
    let from = c.in_ok-from.from.items in
    let vi = own_value_of env code code1 index c.own_of-own.result.width c.own_of-own.result.signed ti c.own_of-own.ensures.width c.own_of-own.ensures.signed c.in_ok-i.ensures in
    let o = index_of env code code1 of part index w ti c.requires.ready vi in
    (selectable_from part env of from ti c.in_ok-from.ensures (selectable env code code1 of part index w ti o)).some

pub select-chosen_bits-requires-clause-at_most_64 : goal.select-chosen_bits-requires-clause-at_most_64
select-chosen_bits-requires-clause-at_most_64 t c =
    let env = c.args.env.now in
    let code = c.args.code.now in
    let t1 = tree_at (arena_trees c.args.templates.now.arena) in
    let of = source_of (t1 c.args.of) in
    let part : Part = record { range = c.args.range; up = c.args.up; width = c.args.width } in
    let index = t1 c.args.index in
    let w = c.args.context.width in
    let s = c.args.context.signed in
    let code1 = c.lower.new.code in
    let ti = c.in_ok-i.i.items in
    let from = c.in_ok-from.from.items in
    let vi = own_value_of env code code1 index c.own_of-own.result.width c.own_of-own.result.signed ti c.own_of-own.ensures.width c.own_of-own.ensures.signed c.in_ok-i.ensures in
    let o = index_of env code code1 of part index w ti c.requires.ready vi in
    (selectable_from part env of from ti c.in_ok-from.ensures (selectable env code code1 of part index w ti o)).most

pub select-chosen_bits-requires-clause-some_index : goal.select-chosen_bits-requires-clause-some_index
select-chosen_bits-requires-clause-some_index t c =
    let env = c.args.env.now in
    let code = c.args.code.now in
    let t1 = tree_at (arena_trees c.args.templates.now.arena) in
    let of = source_of (t1 c.args.of) in
    let part : Part = record { range = c.args.range; up = c.args.up; width = c.args.width } in
    let index = t1 c.args.index in
    let w = c.args.context.width in
    let s = c.args.context.signed in
    let code1 = c.lower.new.code in
    let ti = c.in_ok-i.i.items in
    let from = c.in_ok-from.from.items in
    let vi = own_value_of env code code1 index c.own_of-own.result.width c.own_of-own.result.signed ti c.own_of-own.ensures.width c.own_of-own.ensures.signed c.in_ok-i.ensures in
    let o = index_of env code code1 of part index w ti c.requires.ready vi in
    (selectable_from part env of from ti c.in_ok-from.ensures (selectable env code code1 of part index w ti o)).some_index

pub select-chosen_bits-requires-clause-index : goal.select-chosen_bits-requires-clause-index
select-chosen_bits-requires-clause-index t c =
    let env = c.args.env.now in
    let code = c.args.code.now in
    let t1 = tree_at (arena_trees c.args.templates.now.arena) in
    let of = source_of (t1 c.args.of) in
    let part : Part = record { range = c.args.range; up = c.args.up; width = c.args.width } in
    let index = t1 c.args.index in
    let w = c.args.context.width in
    let s = c.args.context.signed in
    let code1 = c.lower.new.code in
    let ti = c.in_ok-i.i.items in
    let from = c.in_ok-from.from.items in
    let vi = own_value_of env code code1 index c.own_of-own.result.width c.own_of-own.result.signed ti c.own_of-own.ensures.width c.own_of-own.ensures.signed c.in_ok-i.ensures in
    let o = index_of env code code1 of part index w ti c.requires.ready vi in
    (selectable_from part env of from ti c.in_ok-from.ensures (selectable env code code1 of part index w ti o)).index

pub select-chosen_bits-requires-clause-call : goal.select-chosen_bits-requires-clause-call
select-chosen_bits-requires-clause-call t c =
    let env = c.args.env.now in
    let code = c.args.code.now in
    let t1 = tree_at (arena_trees c.args.templates.now.arena) in
    let of = source_of (t1 c.args.of) in
    let part : Part = record { range = c.args.range; up = c.args.up; width = c.args.width } in
    let index = t1 c.args.index in
    let w = c.args.context.width in
    let s = c.args.context.signed in
    let code1 = c.lower.new.code in
    let ti = c.in_ok-i.i.items in
    let from = c.in_ok-from.from.items in
    let vi = own_value_of env code code1 index c.own_of-own.result.width c.own_of-own.result.signed ti c.own_of-own.ensures.width c.own_of-own.ensures.signed c.in_ok-i.ensures in
    let o = index_of env code code1 of part index w ti c.requires.ready vi in
    (λ variable. callable_from env code1 of part c.own_of-own.result.signed (E.sign index) from ti c.in_ok-from.ensures c.own_of-own.ensures.signed (callable_select env code code1 of part index w ti o variable))

pub select-returns : goal.select-returns
select-returns t c =
    let env = c.args.env.now in
    let code = c.args.code.now in
    let t1 = tree_at (arena_trees c.args.templates.now.arena) in
    let of = source_of (t1 c.args.of) in
    let part : Part = record { range = c.args.range; up = c.args.up; width = c.args.width } in
    let index = t1 c.args.index in
    let w = c.args.context.width in
    let s = c.args.context.signed in
    let code1 = c.lower.new.code in
    let ti = c.in_ok-i.i.items in
    let from = c.in_ok-from.from.items in
    let vi = own_value_of env code code1 index c.own_of-own.result.width c.own_of-own.result.signed ti c.own_of-own.ensures.width c.own_of-own.ensures.signed c.in_ok-i.ensures in
    let o = index_of env code code1 of part index w ti c.requires.ready vi in
    let code2 = c.chosen_bits.new.code in
    IfOk-weaker c.chosen_bits.result
    (λ (to : Vec ℕ Global). IsSelect part c.own_of-own.result.signed w s from ti code1 code2 to.items)
    (λ (to : Vec ℕ Global). AddsValue env code.calls code.next code2.calls code2.next (E.Select of part index) w s to.items)
    (λ to h. returns_select c.value_law.ensures.constant env code code1 code2 of part index w s ti to.items o (select_from env code1 code2 of part c.own_of-own.result.signed (E.sign index) w s from ti to.items c.in_ok-from.ensures c.own_of-own.ensures.signed h))
    c.chosen_bits.ensures

pub lower-select-requires : goal.lower-select-requires
lower-select-requires t c =
    let e = c.args.e in
    let node = N.Bit c.in-Bit.of c.in-Bit.range c.in-Bit.index in
    let tr = tree c.args.templates.now.arena e c.expr.result.now node c.expr.ensures.tree c.expr.ensures.names c.in-Bit.is in
    let plain = E.Select (source_of (tree_at (arena_trees c.args.templates.now.arena) c.in-Bit.of)) (one_bit c.in-Bit.range) (tree_at (arena_trees c.args.templates.now.arena) c.in-Bit.index) in
    let below = tr.names in (
      omega (arith, c.decreases, below.1),
      (
        omega (arith, below.0, c.requires.node),
        (
          omega (arith, below.1, c.requires.node),
          ready_strip c.args.env.now c.args.code.now tr.place plain c.args.context.width
              (subst (λ (x : E.Expression). IsReady c.args.env.now c.args.code.now x c.args.context.width) tr.is c.requires.ready),
        ),
      ),
    )

pub lower-returns-in-Bit : goal.lower-returns-in-Bit
lower-returns-in-Bit t c =
    let e = c.args.e in
    let node = N.Bit c.in-Bit.of c.in-Bit.range c.in-Bit.index in
    let tr = tree c.args.templates.now.arena e c.expr.result.now node c.expr.ensures.tree c.expr.ensures.names c.in-Bit.is in
    let plain = E.Select (source_of (tree_at (arena_trees c.args.templates.now.arena) c.in-Bit.of)) (one_bit c.in-Bit.range) (tree_at (arena_trees c.args.templates.now.arena) c.in-Bit.index) in
    let w = c.args.context.width in
    let s = c.args.context.signed in
    let env = c.args.env.now in
    let code = c.args.code.now in
    IfOk-weaker c.select.result
    (λ (to : Vec ℕ Global). AddsValue env code.calls code.next c.select.new.code.calls c.select.new.code.next plain w s to.items)
    (λ (to : Vec ℕ Global). AddsValue env code.calls code.next c.select.new.code.calls c.select.new.code.next (tree_at (arena_trees c.args.templates.now.arena) e) w s to.items)
    (λ to v. subst (λ (x : E.Expression). AddsValue env code.calls code.next c.select.new.code.calls c.select.new.code.next x w s to.items) (sym tr.is)
    (adds_placed env code.calls code.next c.select.new.code.calls c.select.new.code.next tr.place plain w s to.items v))
    c.select.ensures

pub lower-select-requires-in-Part : goal.lower-select-requires-in-Part
lower-select-requires-in-Part t c =
    let e = c.args.e in
    let node = N.Part c.in-Part.of c.in-Part.range c.in-Part.base c.in-Part.up c.in-Part.width in
    let tr = tree c.args.templates.now.arena e c.expr.result.now node c.expr.ensures.tree c.expr.ensures.names c.in-Part.is in
    let plain = E.Select (source_of (tree_at (arena_trees c.args.templates.now.arena) c.in-Part.of)) (record { range = c.in-Part.range; up = c.in-Part.up; width = c.in-Part.width }) (tree_at (arena_trees c.args.templates.now.arena) c.in-Part.base) in
    let below = tr.names in (
      omega (arith, c.decreases, below.1),
      (
        omega (arith, below.0, c.requires.node),
        (
          omega (arith, below.1, c.requires.node),
          ready_strip c.args.env.now c.args.code.now tr.place plain c.args.context.width
              (subst (λ (x : E.Expression). IsReady c.args.env.now c.args.code.now x c.args.context.width) tr.is c.requires.ready),
        ),
      ),
    )

pub lower-returns-in-Part : goal.lower-returns-in-Part
lower-returns-in-Part t c =
    let e = c.args.e in
    let node = N.Part c.in-Part.of c.in-Part.range c.in-Part.base c.in-Part.up c.in-Part.width in
    let tr = tree c.args.templates.now.arena e c.expr.result.now node c.expr.ensures.tree c.expr.ensures.names c.in-Part.is in
    let plain = E.Select (source_of (tree_at (arena_trees c.args.templates.now.arena) c.in-Part.of)) (record { range = c.in-Part.range; up = c.in-Part.up; width = c.in-Part.width }) (tree_at (arena_trees c.args.templates.now.arena) c.in-Part.base) in
    let w = c.args.context.width in
    let s = c.args.context.signed in
    let env = c.args.env.now in
    let code = c.args.code.now in
    IfOk-weaker c.select-in-Part.result
    (λ (to : Vec ℕ Global). AddsValue env code.calls code.next c.select-in-Part.new.code.calls c.select-in-Part.new.code.next plain w s to.items)
    (λ (to : Vec ℕ Global). AddsValue env code.calls code.next c.select-in-Part.new.code.calls c.select-in-Part.new.code.next (tree_at (arena_trees c.args.templates.now.arena) e) w s to.items)
    (λ to v. subst (λ (x : E.Expression). AddsValue env code.calls code.next c.select-in-Part.new.code.calls c.select-in-Part.new.code.next x w s to.items) (sym tr.is)
    (adds_placed env code.calls code.next c.select-in-Part.new.code.calls c.select-in-Part.new.code.next tr.place plain w s to.items v))
    c.select-in-Part.ensures

pub word-lower-requires : goal.word-lower-requires
word-lower-requires t c =
    let a = c.args.templates.now.arena in
    let env = c.args.env.now in
    let code = c.args.code.now in
    let signal = signal_at (arena_signals a) c.args.signal in
    let index = tree_at (arena_trees a) c.args.index in
    let w = c.args.context.width in
    (omega (arith, c.decreases), (c.requires.index, ready_address env code signal index w c.own_of-own.result.width c.own_of-own.ensures.width c.requires.ready))

pub word-chosen_word-requires-clause-within : goal.word-chosen_word-requires-clause-within
word-chosen_word-requires-clause-within t c =
    let signal = signal_at (arena_signals c.args.templates.now.arena) c.args.signal in
    let index = tree_at (arena_trees c.args.templates.now.arena) c.args.index in
    (both_true (signal_within (length c.args.env.now) signal) (names_within (length c.args.env.now) index) c.requires.ready.has_bits).0

pub word-chosen_word-requires-clause-some : goal.word-chosen_word-requires-clause-some
word-chosen_word-requires-clause-some t c =
    let a = c.args.templates.now.arena in
    let env = c.args.env.now in
    let code = c.args.code.now in
    let signal = signal_at (arena_signals a) c.args.signal in
    let index = tree_at (arena_trees a) c.args.index in
    let w = c.args.context.width in
    let code1 = c.lower.new.code in
    let ti = c.in_ok-i.i.items in
    let vi = own_value_of env code code1 index c.own_of-own.result.width c.own_of-own.result.signed ti c.own_of-own.ensures.width c.own_of-own.ensures.signed c.in_ok-i.ensures in
    let o = address_of env code code1 signal index w ti c.requires.ready vi in
    (address_long env code code1 signal index w ti o).0

pub word-chosen_word-requires-clause-most : goal.word-chosen_word-requires-clause-most
word-chosen_word-requires-clause-most t c =
    let a = c.args.templates.now.arena in
    let env = c.args.env.now in
    let code = c.args.code.now in
    let signal = signal_at (arena_signals a) c.args.signal in
    let index = tree_at (arena_trees a) c.args.index in
    let w = c.args.context.width in
    let code1 = c.lower.new.code in
    let ti = c.in_ok-i.i.items in
    let vi = own_value_of env code code1 index c.own_of-own.result.width c.own_of-own.result.signed ti c.own_of-own.ensures.width c.own_of-own.ensures.signed c.in_ok-i.ensures in
    let o = address_of env code code1 signal index w ti c.requires.ready vi in
    (address_long env code code1 signal index w ti o).1

pub word-chosen_word-requires-clause-call : goal.word-chosen_word-requires-clause-call
word-chosen_word-requires-clause-call t c =
    let a = c.args.templates.now.arena in
    let env = c.args.env.now in
    let code = c.args.code.now in
    let signal = signal_at (arena_signals a) c.args.signal in
    let index = tree_at (arena_trees a) c.args.index in
    let w = c.args.context.width in
    let code1 = c.lower.new.code in
    let ti = c.in_ok-i.i.items in
    let vi = own_value_of env code code1 index c.own_of-own.result.width c.own_of-own.result.signed ti c.own_of-own.ensures.width c.own_of-own.ensures.signed c.in_ok-i.ensures in
    let o = address_of env code code1 signal index w ti c.requires.ready vi in
    (λ variable.
    subst (λ (b : Bool). IsCallable code1 (word_kernel signal b) (source_slots env (E.OfSignal signal) ∷ ti ∷ []) (E.word_length signal)) (sym c.own_of-own.ensures.signed)
    (callable_word env code code1 signal index w ti o variable))

pub word-returns : goal.word-returns
word-returns t c =
    let a = c.args.templates.now.arena in
    let env = c.args.env.now in
    let code = c.args.code.now in
    let signal = signal_at (arena_signals a) c.args.signal in
    let index = tree_at (arena_trees a) c.args.index in
    let w = c.args.context.width in
    let code1 = c.lower.new.code in
    let ti = c.in_ok-i.i.items in
    let vi = own_value_of env code code1 index c.own_of-own.result.width c.own_of-own.result.signed ti c.own_of-own.ensures.width c.own_of-own.ensures.signed c.in_ok-i.ensures in
    let o = address_of env code code1 signal index w ti c.requires.ready vi in
    let s = c.args.context.signed in
    let code2 = c.chosen_word.new.code in
    let from = source_slots env (E.OfSignal signal) in
    IfOk-weaker c.chosen_word.result
    (λ (to : Vec ℕ Global). IsWord signal c.own_of-own.result.signed w s from ti code1 code2 to.items)
    (λ (to : Vec ℕ Global). AddsValue env code.calls code.next code2.calls code2.next (E.Word signal index) w s to.items)
    (λ to h. returns_word c.value_law.ensures.constant env code code1 code2 signal index w s ti to.items o (subst (λ (b : Bool). IsWord signal b w s from ti code1 code2 to.items) c.own_of-own.ensures.signed h))
    c.chosen_word.ensures

pub lower-word-requires : goal.lower-word-requires
lower-word-requires t c =
    let a = c.args.templates.now.arena in
    let e = c.args.e in
    let node = N.Word c.in-Word.signal c.in-Word.index in
    let tr = tree a e c.expr.result.now node c.expr.ensures.tree c.expr.ensures.names c.in-Word.is in
    let plain = E.Word (signal_at (arena_signals a) c.in-Word.signal) (tree_at (arena_trees a) c.in-Word.index) in
    let below = tr.names in (
      omega (arith, c.decreases, below.1),
      (
        below.0,
        (
          omega (arith, below.1, c.requires.node),
          ready_strip c.args.env.now c.args.code.now tr.place plain c.args.context.width
              (subst (λ (x : E.Expression). IsReady c.args.env.now c.args.code.now x c.args.context.width) tr.is c.requires.ready),
        ),
      ),
    )

pub lower-returns-in-Word : goal.lower-returns-in-Word
lower-returns-in-Word t c =
    let a = c.args.templates.now.arena in
    let e = c.args.e in
    let node = N.Word c.in-Word.signal c.in-Word.index in
    let tr = tree a e c.expr.result.now node c.expr.ensures.tree c.expr.ensures.names c.in-Word.is in
    let plain = E.Word (signal_at (arena_signals a) c.in-Word.signal) (tree_at (arena_trees a) c.in-Word.index) in
    let w = c.args.context.width in
    let s = c.args.context.signed in
    let env = c.args.env.now in
    let code = c.args.code.now in
    IfOk-weaker c.word.result
    (λ (to : Vec ℕ Global). AddsValue env code.calls code.next c.word.new.code.calls c.word.new.code.next plain w s to.items)
    (λ (to : Vec ℕ Global). AddsValue env code.calls code.next c.word.new.code.calls c.word.new.code.next (tree_at (arena_trees a) e) w s to.items)
    (λ to v. subst (λ (x : E.Expression). AddsValue env code.calls code.next c.word.new.code.calls c.word.new.code.next x w s to.items) (sym tr.is)
    (adds_placed env code.calls code.next c.word.new.code.calls c.word.new.code.next tr.place plain w s to.items v))
    c.word.ensures

pub word_part-lower-requires : goal.word_part-lower-requires
word_part-lower-requires t c =
    let a = c.args.templates.now.arena in
    let env = c.args.env.now in
    let code = c.args.code.now in
    let signal = signal_at (arena_signals a) c.args.signal in
    let address = tree_at (arena_trees a) c.args.address in
    let index = tree_at (arena_trees a) c.args.index in
    let part : Part = record { range = c.args.range; up = c.args.up; width = c.args.width } in
    let w = c.args.context.width in
    let k = E.word_length signal in
    let ready = ready_word signal address part index env code w (word_fits c.trees_law.ensures.counts a c.args.signal c.flat.ensures.lawful c.requires.signal) c.requires.ready in
    (omega (arith, c.decreases), (c.requires.address, ready_address env code signal address k c.own_of-own.result.width c.own_of-own.ensures.width ready))

pub word_part-chosen_word-requires-clause-within : goal.word_part-chosen_word-requires-clause-within
word_part-chosen_word-requires-clause-within t c =
    let a = c.args.templates.now.arena in
    let env = c.args.env.now in
    let code = c.args.code.now in
    let signal = signal_at (arena_signals a) c.args.signal in
    let address = tree_at (arena_trees a) c.args.address in
    let index = tree_at (arena_trees a) c.args.index in
    let part : Part = record { range = c.args.range; up = c.args.up; width = c.args.width } in
    let w = c.args.context.width in
    let k = E.word_length signal in
    let ready = ready_word signal address part index env code w (word_fits c.trees_law.ensures.counts a c.args.signal c.flat.ensures.lawful c.requires.signal) c.requires.ready in
    (both_true (signal_within (length env) signal) (names_within (length env) address) ready.has_bits).0

pub word_part-chosen_word-requires-clause-some : goal.word_part-chosen_word-requires-clause-some
word_part-chosen_word-requires-clause-some t c =
    let a = c.args.templates.now.arena in
    let env = c.args.env.now in
    let code = c.args.code.now in
    let signal = signal_at (arena_signals a) c.args.signal in
    let address = tree_at (arena_trees a) c.args.address in
    let index = tree_at (arena_trees a) c.args.index in
    let part : Part = record { range = c.args.range; up = c.args.up; width = c.args.width } in
    let w = c.args.context.width in
    let k = E.word_length signal in
    let ready = ready_word signal address part index env code w (word_fits c.trees_law.ensures.counts a c.args.signal c.flat.ensures.lawful c.requires.signal) c.requires.ready in
    let code1 = c.lower.new.code in
    let ta = c.in_ok-a.a.items in
    let va = own_value_of env code code1 address c.own_of-own.result.width c.own_of-own.result.signed ta c.own_of-own.ensures.width c.own_of-own.ensures.signed c.in_ok-a.ensures in
    let own = address_of env code code1 signal address k ta ready va in
    (address_long env code code1 signal address k ta own).0

pub word_part-chosen_word-requires-clause-most : goal.word_part-chosen_word-requires-clause-most
word_part-chosen_word-requires-clause-most t c =
    let a = c.args.templates.now.arena in
    let env = c.args.env.now in
    let code = c.args.code.now in
    let signal = signal_at (arena_signals a) c.args.signal in
    let address = tree_at (arena_trees a) c.args.address in
    let index = tree_at (arena_trees a) c.args.index in
    let part : Part = record { range = c.args.range; up = c.args.up; width = c.args.width } in
    let w = c.args.context.width in
    let k = E.word_length signal in
    let ready = ready_word signal address part index env code w (word_fits c.trees_law.ensures.counts a c.args.signal c.flat.ensures.lawful c.requires.signal) c.requires.ready in
    let code1 = c.lower.new.code in
    let ta = c.in_ok-a.a.items in
    let va = own_value_of env code code1 address c.own_of-own.result.width c.own_of-own.result.signed ta c.own_of-own.ensures.width c.own_of-own.ensures.signed c.in_ok-a.ensures in
    let own = address_of env code code1 signal address k ta ready va in
    (address_long env code code1 signal address k ta own).1

pub word_part-chosen_word-requires-clause-call : goal.word_part-chosen_word-requires-clause-call
word_part-chosen_word-requires-clause-call t c =
    let a = c.args.templates.now.arena in
    let env = c.args.env.now in
    let code = c.args.code.now in
    let signal = signal_at (arena_signals a) c.args.signal in
    let address = tree_at (arena_trees a) c.args.address in
    let index = tree_at (arena_trees a) c.args.index in
    let part : Part = record { range = c.args.range; up = c.args.up; width = c.args.width } in
    let w = c.args.context.width in
    let k = E.word_length signal in
    let ready = ready_word signal address part index env code w (word_fits c.trees_law.ensures.counts a c.args.signal c.flat.ensures.lawful c.requires.signal) c.requires.ready in
    let code1 = c.lower.new.code in
    let ta = c.in_ok-a.a.items in
    let va = own_value_of env code code1 address c.own_of-own.result.width c.own_of-own.result.signed ta c.own_of-own.ensures.width c.own_of-own.ensures.signed c.in_ok-a.ensures in
    let own = address_of env code code1 signal address k ta ready va in
    (λ variable.
    subst (λ (b : Bool). IsCallable code1 (word_kernel signal b) (source_slots env (E.OfSignal signal) ∷ ta ∷ []) k) (sym c.own_of-own.ensures.signed)
    (callable_word env code code1 signal address k ta own variable))

pub word_part-lower-requires-2 : goal.word_part-lower-requires-2
word_part-lower-requires-2 t c =
    let a = c.args.templates.now.arena in
    let env = c.args.env.now in
    let code = c.args.code.now in
    let signal = signal_at (arena_signals a) c.args.signal in
    let address = tree_at (arena_trees a) c.args.address in
    let index = tree_at (arena_trees a) c.args.index in
    let part : Part = record { range = c.args.range; up = c.args.up; width = c.args.width } in
    let w = c.args.context.width in
    let k = E.word_length signal in
    let ready = ready_word signal address part index env code w (word_fits c.trees_law.ensures.counts a c.args.signal c.flat.ensures.lawful c.requires.signal) c.requires.ready in
    let code1 = c.lower.new.code in
    let ta = c.in_ok-a.a.items in
    let va = own_value_of env code code1 address c.own_of-own.result.width c.own_of-own.result.signed ta c.own_of-own.ensures.width c.own_of-own.ensures.signed c.in_ok-a.ensures in
    let own = address_of env code code1 signal address k ta ready va in
    let code2 = c.chosen_word.new.code in
    let tw = c.in_ok-from.from.items in
    let is : IsWord signal (E.sign address) k false (source_slots env (E.OfSignal signal)) ta code1 code2 tw =
    subst (λ (b : Bool). IsWord signal b k false (source_slots env (E.OfSignal signal)) ta code1 code2 tw) c.own_of-own.ensures.signed
    (subst (λ n. IsWord signal c.own_of-own.result.signed n false (source_slots env (E.OfSignal signal)) ta code1 code2 tw) c.word_width.ensures c.in_ok-from.ensures)
    in
    let o : Worded signal address part index env code code1 code2 w ta tw = record { ready = c.requires.ready; own = own; word = is } in
    (omega (arith, c.decreases), (c.requires.index, ready_taken signal address part index c.value_law.ensures.constant env code code1 code2 w ta tw o c.own_of-by.result.width c.own_of-by.ensures.width))

pub word_part-chosen_bits-requires-clause-of_range : goal.word_part-chosen_bits-requires-clause-of_range
word_part-chosen_bits-requires-clause-of_range t c =
    let a = c.args.templates.now.arena in
    let env = c.args.env.now in
    let code = c.args.code.now in
    let signal = signal_at (arena_signals a) c.args.signal in
    let address = tree_at (arena_trees a) c.args.address in
    let index = tree_at (arena_trees a) c.args.index in
    let part : Part = record { range = c.args.range; up = c.args.up; width = c.args.width } in
    let w = c.args.context.width in
    let k = E.word_length signal in
    let ready = ready_word signal address part index env code w (word_fits c.trees_law.ensures.counts a c.args.signal c.flat.ensures.lawful c.requires.signal) c.requires.ready in
    let code1 = c.lower.new.code in
    let ta = c.in_ok-a.a.items in
    let va = own_value_of env code code1 address c.own_of-own.result.width c.own_of-own.result.signed ta c.own_of-own.ensures.width c.own_of-own.ensures.signed c.in_ok-a.ensures in
    let own = address_of env code code1 signal address k ta ready va in
    let code2 = c.chosen_word.new.code in
    let tw = c.in_ok-from.from.items in
    let is : IsWord signal (E.sign address) k false (source_slots env (E.OfSignal signal)) ta code1 code2 tw =
    subst (λ (b : Bool). IsWord signal b k false (source_slots env (E.OfSignal signal)) ta code1 code2 tw) c.own_of-own.ensures.signed
    (subst (λ n. IsWord signal c.own_of-own.result.signed n false (source_slots env (E.OfSignal signal)) ta code1 code2 tw) c.word_width.ensures c.in_ok-from.ensures)
    in
    let o : Worded signal address part index env code code1 code2 w ta tw = record { ready = c.requires.ready; own = own; word = is } in
    let code3 = c.lower-2.new.code in
    let ti = c.in_ok-i.i.items in
    let u = own_value_of env code2 code3 index c.own_of-by.result.width c.own_of-by.result.signed ti c.own_of-by.ensures.width c.own_of-by.ensures.signed c.in_ok-i.ensures in
    (part_selectable signal address part index c.value_law.ensures.constant env code code1 code2 w ta tw o code3 ti u).of_range

pub word_part-chosen_bits-requires-clause-some : goal.word_part-chosen_bits-requires-clause-some
word_part-chosen_bits-requires-clause-some t c =
    let a = c.args.templates.now.arena in
    let env = c.args.env.now in
    let code = c.args.code.now in
    let signal = signal_at (arena_signals a) c.args.signal in
    let address = tree_at (arena_trees a) c.args.address in
    let index = tree_at (arena_trees a) c.args.index in
    let part : Part = record { range = c.args.range; up = c.args.up; width = c.args.width } in
    let w = c.args.context.width in
    let k = E.word_length signal in
    let ready = ready_word signal address part index env code w (word_fits c.trees_law.ensures.counts a c.args.signal c.flat.ensures.lawful c.requires.signal) c.requires.ready in
    let code1 = c.lower.new.code in
    let ta = c.in_ok-a.a.items in
    let va = own_value_of env code code1 address c.own_of-own.result.width c.own_of-own.result.signed ta c.own_of-own.ensures.width c.own_of-own.ensures.signed c.in_ok-a.ensures in
    let own = address_of env code code1 signal address k ta ready va in
    let code2 = c.chosen_word.new.code in
    let tw = c.in_ok-from.from.items in
    let is : IsWord signal (E.sign address) k false (source_slots env (E.OfSignal signal)) ta code1 code2 tw =
    subst (λ (b : Bool). IsWord signal b k false (source_slots env (E.OfSignal signal)) ta code1 code2 tw) c.own_of-own.ensures.signed
    (subst (λ n. IsWord signal c.own_of-own.result.signed n false (source_slots env (E.OfSignal signal)) ta code1 code2 tw) c.word_width.ensures c.in_ok-from.ensures)
    in
    let o : Worded signal address part index env code code1 code2 w ta tw = record { ready = c.requires.ready; own = own; word = is } in
    let code3 = c.lower-2.new.code in
    let ti = c.in_ok-i.i.items in
    let u = own_value_of env code2 code3 index c.own_of-by.result.width c.own_of-by.result.signed ti c.own_of-by.ensures.width c.own_of-by.ensures.signed c.in_ok-i.ensures in
    (part_selectable signal address part index c.value_law.ensures.constant env code code1 code2 w ta tw o code3 ti u).some

pub word_part-chosen_bits-requires-clause-at_most_64 : goal.word_part-chosen_bits-requires-clause-at_most_64
word_part-chosen_bits-requires-clause-at_most_64 t c =
    let a = c.args.templates.now.arena in
    let env = c.args.env.now in
    let code = c.args.code.now in
    let signal = signal_at (arena_signals a) c.args.signal in
    let address = tree_at (arena_trees a) c.args.address in
    let index = tree_at (arena_trees a) c.args.index in
    let part : Part = record { range = c.args.range; up = c.args.up; width = c.args.width } in
    let w = c.args.context.width in
    let k = E.word_length signal in
    let ready = ready_word signal address part index env code w (word_fits c.trees_law.ensures.counts a c.args.signal c.flat.ensures.lawful c.requires.signal) c.requires.ready in
    let code1 = c.lower.new.code in
    let ta = c.in_ok-a.a.items in
    let va = own_value_of env code code1 address c.own_of-own.result.width c.own_of-own.result.signed ta c.own_of-own.ensures.width c.own_of-own.ensures.signed c.in_ok-a.ensures in
    let own = address_of env code code1 signal address k ta ready va in
    let code2 = c.chosen_word.new.code in
    let tw = c.in_ok-from.from.items in
    let is : IsWord signal (E.sign address) k false (source_slots env (E.OfSignal signal)) ta code1 code2 tw =
    subst (λ (b : Bool). IsWord signal b k false (source_slots env (E.OfSignal signal)) ta code1 code2 tw) c.own_of-own.ensures.signed
    (subst (λ n. IsWord signal c.own_of-own.result.signed n false (source_slots env (E.OfSignal signal)) ta code1 code2 tw) c.word_width.ensures c.in_ok-from.ensures)
    in
    let o : Worded signal address part index env code code1 code2 w ta tw = record { ready = c.requires.ready; own = own; word = is } in
    let code3 = c.lower-2.new.code in
    let ti = c.in_ok-i.i.items in
    let u = own_value_of env code2 code3 index c.own_of-by.result.width c.own_of-by.result.signed ti c.own_of-by.ensures.width c.own_of-by.ensures.signed c.in_ok-i.ensures in
    (part_selectable signal address part index c.value_law.ensures.constant env code code1 code2 w ta tw o code3 ti u).most

pub word_part-chosen_bits-requires-clause-some_index : goal.word_part-chosen_bits-requires-clause-some_index
word_part-chosen_bits-requires-clause-some_index t c =
    let a = c.args.templates.now.arena in
    let env = c.args.env.now in
    let code = c.args.code.now in
    let signal = signal_at (arena_signals a) c.args.signal in
    let address = tree_at (arena_trees a) c.args.address in
    let index = tree_at (arena_trees a) c.args.index in
    let part : Part = record { range = c.args.range; up = c.args.up; width = c.args.width } in
    let w = c.args.context.width in
    let k = E.word_length signal in
    let ready = ready_word signal address part index env code w (word_fits c.trees_law.ensures.counts a c.args.signal c.flat.ensures.lawful c.requires.signal) c.requires.ready in
    let code1 = c.lower.new.code in
    let ta = c.in_ok-a.a.items in
    let va = own_value_of env code code1 address c.own_of-own.result.width c.own_of-own.result.signed ta c.own_of-own.ensures.width c.own_of-own.ensures.signed c.in_ok-a.ensures in
    let own = address_of env code code1 signal address k ta ready va in
    let code2 = c.chosen_word.new.code in
    let tw = c.in_ok-from.from.items in
    let is : IsWord signal (E.sign address) k false (source_slots env (E.OfSignal signal)) ta code1 code2 tw =
    subst (λ (b : Bool). IsWord signal b k false (source_slots env (E.OfSignal signal)) ta code1 code2 tw) c.own_of-own.ensures.signed
    (subst (λ n. IsWord signal c.own_of-own.result.signed n false (source_slots env (E.OfSignal signal)) ta code1 code2 tw) c.word_width.ensures c.in_ok-from.ensures)
    in
    let o : Worded signal address part index env code code1 code2 w ta tw = record { ready = c.requires.ready; own = own; word = is } in
    let code3 = c.lower-2.new.code in
    let ti = c.in_ok-i.i.items in
    let u = own_value_of env code2 code3 index c.own_of-by.result.width c.own_of-by.result.signed ti c.own_of-by.ensures.width c.own_of-by.ensures.signed c.in_ok-i.ensures in
    (part_selectable signal address part index c.value_law.ensures.constant env code code1 code2 w ta tw o code3 ti u).some_index

pub word_part-chosen_bits-requires-clause-index : goal.word_part-chosen_bits-requires-clause-index
word_part-chosen_bits-requires-clause-index t c =
    let a = c.args.templates.now.arena in
    let env = c.args.env.now in
    let code = c.args.code.now in
    let signal = signal_at (arena_signals a) c.args.signal in
    let address = tree_at (arena_trees a) c.args.address in
    let index = tree_at (arena_trees a) c.args.index in
    let part : Part = record { range = c.args.range; up = c.args.up; width = c.args.width } in
    let w = c.args.context.width in
    let k = E.word_length signal in
    let ready = ready_word signal address part index env code w (word_fits c.trees_law.ensures.counts a c.args.signal c.flat.ensures.lawful c.requires.signal) c.requires.ready in
    let code1 = c.lower.new.code in
    let ta = c.in_ok-a.a.items in
    let va = own_value_of env code code1 address c.own_of-own.result.width c.own_of-own.result.signed ta c.own_of-own.ensures.width c.own_of-own.ensures.signed c.in_ok-a.ensures in
    let own = address_of env code code1 signal address k ta ready va in
    let code2 = c.chosen_word.new.code in
    let tw = c.in_ok-from.from.items in
    let is : IsWord signal (E.sign address) k false (source_slots env (E.OfSignal signal)) ta code1 code2 tw =
    subst (λ (b : Bool). IsWord signal b k false (source_slots env (E.OfSignal signal)) ta code1 code2 tw) c.own_of-own.ensures.signed
    (subst (λ n. IsWord signal c.own_of-own.result.signed n false (source_slots env (E.OfSignal signal)) ta code1 code2 tw) c.word_width.ensures c.in_ok-from.ensures)
    in
    let o : Worded signal address part index env code code1 code2 w ta tw = record { ready = c.requires.ready; own = own; word = is } in
    let code3 = c.lower-2.new.code in
    let ti = c.in_ok-i.i.items in
    let u = own_value_of env code2 code3 index c.own_of-by.result.width c.own_of-by.result.signed ti c.own_of-by.ensures.width c.own_of-by.ensures.signed c.in_ok-i.ensures in
    (part_selectable signal address part index c.value_law.ensures.constant env code code1 code2 w ta tw o code3 ti u).index

pub word_part-chosen_bits-requires-clause-call : goal.word_part-chosen_bits-requires-clause-call
word_part-chosen_bits-requires-clause-call t c =
    let a = c.args.templates.now.arena in
    let env = c.args.env.now in
    let code = c.args.code.now in
    let signal = signal_at (arena_signals a) c.args.signal in
    let address = tree_at (arena_trees a) c.args.address in
    let index = tree_at (arena_trees a) c.args.index in
    let part : Part = record { range = c.args.range; up = c.args.up; width = c.args.width } in
    let w = c.args.context.width in
    let k = E.word_length signal in
    let ready = ready_word signal address part index env code w (word_fits c.trees_law.ensures.counts a c.args.signal c.flat.ensures.lawful c.requires.signal) c.requires.ready in
    let code1 = c.lower.new.code in
    let ta = c.in_ok-a.a.items in
    let va = own_value_of env code code1 address c.own_of-own.result.width c.own_of-own.result.signed ta c.own_of-own.ensures.width c.own_of-own.ensures.signed c.in_ok-a.ensures in
    let own = address_of env code code1 signal address k ta ready va in
    let code2 = c.chosen_word.new.code in
    let tw = c.in_ok-from.from.items in
    let is : IsWord signal (E.sign address) k false (source_slots env (E.OfSignal signal)) ta code1 code2 tw =
    subst (λ (b : Bool). IsWord signal b k false (source_slots env (E.OfSignal signal)) ta code1 code2 tw) c.own_of-own.ensures.signed
    (subst (λ n. IsWord signal c.own_of-own.result.signed n false (source_slots env (E.OfSignal signal)) ta code1 code2 tw) c.word_width.ensures c.in_ok-from.ensures)
    in
    let o : Worded signal address part index env code code1 code2 w ta tw = record { ready = c.requires.ready; own = own; word = is } in
    let code3 = c.lower-2.new.code in
    let ti = c.in_ok-i.i.items in
    let u = own_value_of env code2 code3 index c.own_of-by.result.width c.own_of-by.result.signed ti c.own_of-by.ensures.width c.own_of-by.ensures.signed c.in_ok-i.ensures in
    (λ variable. subst (λ (b : Bool). IsCallable code3 (select_kernel part b) (tw ∷ ti ∷ []) part.width) (sym c.own_of-by.ensures.signed) (part_callable signal address part index c.value_law.ensures.constant env code code1 code2 w ta tw o code3 ti u variable))

pub word_part-returns : goal.word_part-returns
word_part-returns t c =
    let a = c.args.templates.now.arena in
    let env = c.args.env.now in
    let code = c.args.code.now in
    let signal = signal_at (arena_signals a) c.args.signal in
    let address = tree_at (arena_trees a) c.args.address in
    let index = tree_at (arena_trees a) c.args.index in
    let part : Part = record { range = c.args.range; up = c.args.up; width = c.args.width } in
    let w = c.args.context.width in
    let k = E.word_length signal in
    let ready = ready_word signal address part index env code w (word_fits c.trees_law.ensures.counts a c.args.signal c.flat.ensures.lawful c.requires.signal) c.requires.ready in
    let code1 = c.lower.new.code in
    let ta = c.in_ok-a.a.items in
    let va = own_value_of env code code1 address c.own_of-own.result.width c.own_of-own.result.signed ta c.own_of-own.ensures.width c.own_of-own.ensures.signed c.in_ok-a.ensures in
    let own = address_of env code code1 signal address k ta ready va in
    let code2 = c.chosen_word.new.code in
    let tw = c.in_ok-from.from.items in
    let is : IsWord signal (E.sign address) k false (source_slots env (E.OfSignal signal)) ta code1 code2 tw =
    subst (λ (b : Bool). IsWord signal b k false (source_slots env (E.OfSignal signal)) ta code1 code2 tw) c.own_of-own.ensures.signed
    (subst (λ n. IsWord signal c.own_of-own.result.signed n false (source_slots env (E.OfSignal signal)) ta code1 code2 tw) c.word_width.ensures c.in_ok-from.ensures)
    in
    let o : Worded signal address part index env code code1 code2 w ta tw = record { ready = c.requires.ready; own = own; word = is } in
    let code3 = c.lower-2.new.code in
    let ti = c.in_ok-i.i.items in
    let u = own_value_of env code2 code3 index c.own_of-by.result.width c.own_of-by.result.signed ti c.own_of-by.ensures.width c.own_of-by.ensures.signed c.in_ok-i.ensures in
    let code4 = c.chosen_bits.new.code in
    let s = c.args.context.signed in
    IfOk-weaker c.chosen_bits.result
    (λ (to : Vec ℕ Global). IsSelect part c.own_of-by.result.signed w s tw ti code3 code4 to.items)
    (λ (to : Vec ℕ Global). AddsValue env code.calls code.next code4.calls code4.next (E.WordPart signal address part index) w s to.items)
    (λ to h. returns_part signal address part index c.value_law.ensures.constant env code code1 code2 w ta tw o code3 ti u code4 s to.items (subst (λ (b : Bool). IsSelect part b w s tw ti code3 code4 to.items) c.own_of-by.ensures.signed h))
    c.chosen_bits.ensures

pub lower-word_part-requires : goal.lower-word_part-requires
lower-word_part-requires t c =
    let a = c.args.templates.now.arena in
    let e = c.args.e in
    let node = N.WordPart c.in-WordPart.signal c.in-WordPart.address c.in-WordPart.range c.in-WordPart.base c.in-WordPart.up c.in-WordPart.width in
    let tr = tree a e c.expr.result.now node c.expr.ensures.tree c.expr.ensures.names c.in-WordPart.is in
    let part : Part = record { range = c.in-WordPart.range; up = c.in-WordPart.up; width = c.in-WordPart.width } in
    let plain = E.WordPart (signal_at (arena_signals a) c.in-WordPart.signal) (tree_at (arena_trees a) c.in-WordPart.address) part (tree_at (arena_trees a) c.in-WordPart.base) in
    let below = tr.names in (
      omega (arith, c.decreases, below.1, below.2),
      (
        below.0,
        (
          omega (arith, below.1, c.requires.node),
          (
            omega (arith, below.2, c.requires.node),
            ready_strip c.args.env.now c.args.code.now tr.place plain c.args.context.width
                (subst (λ (x : E.Expression). IsReady c.args.env.now c.args.code.now x c.args.context.width) tr.is c.requires.ready),
          ),
        ),
      ),
    )

pub lower-returns-in-WordPart : goal.lower-returns-in-WordPart
lower-returns-in-WordPart t c =
    let a = c.args.templates.now.arena in
    let e = c.args.e in
    let node = N.WordPart c.in-WordPart.signal c.in-WordPart.address c.in-WordPart.range c.in-WordPart.base c.in-WordPart.up c.in-WordPart.width in
    let tr = tree a e c.expr.result.now node c.expr.ensures.tree c.expr.ensures.names c.in-WordPart.is in
    let part : Part = record { range = c.in-WordPart.range; up = c.in-WordPart.up; width = c.in-WordPart.width } in
    let plain = E.WordPart (signal_at (arena_signals a) c.in-WordPart.signal) (tree_at (arena_trees a) c.in-WordPart.address) part (tree_at (arena_trees a) c.in-WordPart.base) in
    let w = c.args.context.width in
    let s = c.args.context.signed in
    let env = c.args.env.now in
    let code = c.args.code.now in
    IfOk-weaker c.word_part.result
    (λ (to : Vec ℕ Global). AddsValue env code.calls code.next c.word_part.new.code.calls c.word_part.new.code.next plain w s to.items)
    (λ (to : Vec ℕ Global). AddsValue env code.calls code.next c.word_part.new.code.calls c.word_part.new.code.next (tree_at (arena_trees a) e) w s to.items)
    (λ to v. subst (λ (x : E.Expression). AddsValue env code.calls code.next c.word_part.new.code.calls c.word_part.new.code.next x w s to.items) (sym tr.is)
    (adds_placed env code.calls code.next c.word_part.new.code.calls c.word_part.new.code.next tr.place plain w s to.items v))
    c.word_part.ensures

-- ---- local signals and calls

pub lower-name-requires-clause-within : goal.lower-name-requires-clause-within
lower-name-requires-clause-within t c =
    let tr = tree c.args.templates.now.arena c.args.e c.expr.result.now (N.Name c.in-Name.signal) c.expr.ensures.tree c.expr.ensures.names c.in-Name.is in
    (subst (λ (x : E.Expression). IsReady c.args.env.now c.args.code.now x c.args.context.width) tr.is c.requires.ready).has_bits

pub lower-local-requires-clause-function : goal.lower-local-requires-clause-function
lower-local-requires-clause-function t c = (subst (λ (x : Node). HasCalls c.args.templates.now.arena x) c.in-Local.is c.expr.ensures.locals).0

pub lower-local-requires-clause-there : goal.lower-local-requires-clause-there
lower-local-requires-clause-there t c = (subst (λ (x : Node). HasCalls c.args.templates.now.arena x) c.in-Local.is c.expr.ensures.locals).1

pub lower-local-requires-clause-within : goal.lower-local-requires-clause-within
lower-local-requires-clause-within t c =
    let tr = tree c.args.templates.now.arena c.args.e c.expr.result.now (N.Local c.in-Local.function c.in-Local.signal) c.expr.ensures.tree c.expr.ensures.names c.in-Local.is in
    (subst (λ (x : E.Expression). IsReady c.args.env.now c.args.code.now x c.args.context.width) tr.is c.requires.ready).has_bits

pub lower-returns-in-Local : goal.lower-returns-in-Local
lower-returns-in-Local t c =
    let e = c.args.e in
    let a = c.args.templates.now.arena in
    let tr = tree a e c.expr.result.now (N.Local c.in-Local.function c.in-Local.signal) c.expr.ensures.tree c.expr.ensures.names c.in-Local.is in
    let signal = local_of a c.in-Local.function c.in-Local.signal in
    let plain = E.Name signal in
    let w = c.args.context.width in
    let s = c.args.context.signed in
    let env = c.args.env.now in
    let code = c.args.code.now in
    let ready = ready_strip env code tr.place plain w (subst (λ (x : E.Expression). IsReady env code x w) tr.is c.requires.ready) in
    IfOk-weaker c.local.result
    (λ (to : Vec ℕ Global). to.items ≡ extended_slots w s (map (slice_index env) (bits_of_signal signal)))
    (λ (to : Vec ℕ Global). AddsValue env code.calls code.next code.calls code.next (tree_at (arena_trees a) e) w s to.items)
    (λ to is. subst (λ (x : E.Expression). AddsValue env code.calls code.next code.calls code.next x w s to.items) (sym tr.is)
    (adds_placed env code.calls code.next code.calls code.next tr.place plain w s to.items
    (adds_name env code signal w s to.items ready is)))
    c.local.ensures

pub argument-lower-requires : goal.argument-lower-requires
argument-lower-requires t c =
    let x = tree_at (arena_trees c.args.templates.now.arena) c.args.e in
    let is : c.max.result ≡ max (E.width x) c.args.width = c.max.ensures ∙ ap (λ (n : ℕ). max n c.args.width) c.own_of-own.ensures.width in (
      omega (arith, c.decreases),
      (c.requires.node, subst (IsReady c.args.env.now c.args.code.now x) (sym is) c.requires.ready),
    )

pub argument-returns : goal.argument-returns
argument-returns t c =
    argument_of c.args.env.now c.args.code.now c.lower.new.code (tree_at (arena_trees c.args.templates.now.arena) c.args.e) c.args.width c.max.result c.own_of-own.result.signed c.in_ok-to.to.items c.truncate.new.self.items c.requires.ready.is_env
    (c.max.ensures ∙ ap (λ (n : ℕ). max n c.args.width) c.own_of-own.ensures.width) c.own_of-own.ensures.signed c.truncate.ensures.items c.in_ok-to.ensures

pub inputs-loop-n-init : goal.inputs-loop-n-init
inputs-loop-n-init t c = subst (AddsArguments c.args.env.now c.args.code.now c.args.code.now E.NoItem []) (sym c.new-to.ensures.items) (arguments_none c.args.env.now c.args.code.now c.requires.ready.is_env)

pub inputs-argument-requires : goal.inputs-argument-requires
inputs-argument-requires t c =
    let tree = tree_at (arena_trees c.args.templates.now.arena) in
    let args = c.args.arguments.now in
    let inputs = (function_at c.args.templates.now.arena c.args.function).header.inputs in
    let n = c.loop-n.n in
    let below = c.requires.arguments n 0 c.loop-n-test.true in
    let there = input_there inputs n (omega (arith, c.loop-n-test.true, c.requires.formed.as_many)) in (
      omega (arith, c.decreases, below),
      (
        omega (arith, below, c.requires.e),
        argument_ready c.args.env.now c.args.code.now c.loop-n.code tree args inputs n c.input_width-width.result there.0 c.loop-n.to.items c.loop-n-test.true there.1 (c.input_width-width.ensures there.0 there.1) c.requires.ready c.loop-n.invariant,
      ),
    )

pub inputs-loop-n-preserved : goal.inputs-loop-n-preserved
inputs-loop-n-preserved t c =
    let tree = tree_at (arena_trees c.args.templates.now.arena) in
    let args = c.args.arguments.now in
    let inputs = (function_at c.args.templates.now.arena c.args.function).header.inputs in
    let n = c.loop-n.n in
    let there = input_there inputs n (omega (arith, c.loop-n-test.true, c.requires.formed.as_many)) in
    next_argument c.args.env.now c.args.code.now c.loop-n.code c.argument.new.code tree args inputs n c.input_width-width.result there.0 c.loop-n.to.items c.in_ok-one.one.items c.in_ok-to.to.items c.requires.ready.is_env c.loop-n-test.true
    c.requires.formed.as_many there.1 (c.input_width-width.ensures there.0 there.1) c.in_ok-to.ensures c.loop-n.invariant c.in_ok-one.ensures

pub inputs-returns : goal.inputs-returns
inputs-returns t c =
    let tree = tree_at (arena_trees c.args.templates.now.arena) in
    all_arguments c.args.env.now c.args.code.now c.loop-n.code tree c.args.arguments.now (function_at c.args.templates.now.arena c.args.function).header.inputs c.loop-n.n c.loop-n.to.items (omega (arith, c.loop-n-test.false)) c.requires.formed.as_many c.loop-n.invariant

pub call-inputs-requires : goal.call-inputs-requires
call-inputs-requires t c =
    let f = function_at c.args.templates.now.arena c.args.function in
    let es = E.items_of (map (tree_at (arena_trees c.args.templates.now.arena)) c.args.arguments.now) in (
      omega (arith, c.decreases),
      (c.requires.function, (c.requires.e, (c.requires.arguments, (c.requires.formed, ready_inputs c.args.env.now c.args.code.now f es c.args.context.width c.requires.ready)))),
    )

pub call-inlined-requires-clause-ready : goal.call-inlined-requires-clause-ready
call-inlined-requires-clause-ready t c =
    let f = function_at c.args.templates.now.arena c.args.function in
    let es = E.items_of (map (tree_at (arena_trees c.args.templates.now.arena)) c.args.arguments.now) in
    subst (IsInlinable f c.inputs.new.code) (sym c.as_slice.ensures.value) (ready_template c.args.env.now c.args.code.now c.inputs.new.code f es c.args.context.width c.in_ok-slots.slots.items c.requires.ready c.in_ok-slots.ensures)

pub call-returns : goal.call-returns
call-returns t c =
    let f = function_at c.args.templates.now.arena c.args.function in
    let es = E.items_of (map (tree_at (arena_trees c.args.templates.now.arena)) c.args.arguments.now) in
    let env = c.args.env.now in
    let code = c.args.code.now in
    let code2 = c.inlined.new.code in
    let w = c.args.context.width in
    let s = c.args.context.signed in
    let inlined = subst (λ (xs : List ℕ). IsInlined f xs c.inputs.new.code code2 c.in_ok-to.to.items) c.as_slice.ensures.value c.in_ok-to.ensures in
    IfOk-weaker c.extended.result
    (λ (to : Vec ℕ Global). to.items ≡ extended_slots w s c.in_ok-to.to.items)
    (λ (to : Vec ℕ Global). AddsValue env code.calls code.next code2.calls code2.next (E.Call f.header f.statement es) w s to.items)
    (λ to is. adds_call c.value_law.ensures.assigned env code c.inputs.new.code code2 f es (length c.args.arguments.now) w s c.in_ok-slots.slots.items c.in_ok-to.to.items to.items c.requires.ready c.requires.formed c.in_ok-slots.ensures inlined is)
    c.extended.ensures

pub lower-call-requires : goal.lower-call-requires
lower-call-requires t c =
    let e = c.args.e in
    let a = c.args.templates.now.arena in
    let node = N.Call c.in-Call.function c.in-Call.arguments in
    let tr = tree a e c.expr.result.now node c.expr.ensures.tree c.expr.ensures.names c.in-Call.is in
    let f = function_at a c.in-Call.function in
    let plain = λ (args : List ℕ). E.Call f.header f.statement (E.items_of (map (tree_at (arena_trees a)) args)) in
    let same = sym c.as_slice-in-Call.ensures in (
      omega (arith, c.decreases),
      (
        subst (CallsFirst c.args.templates.now) c.in-Call.is c.expr.ensures.calls,
        (
          c.requires.node,
          (
            subst (λ (x : List ℕ). All (λ n. n < e) x) same (each_below e c.in-Call.arguments tr.names),
            (
              subst (λ (x : List ℕ). IsFormedCall f.header (length x)) same (subst (IsFormedCallOf a) c.in-Call.is c.expr.ensures.formed),
              subst (λ (x : List ℕ). IsReady c.args.env.now c.args.code.now (plain x) c.args.context.width) same
                  (ready_strip c.args.env.now c.args.code.now tr.place (plain c.in-Call.arguments) c.args.context.width (subst (λ (x : E.Expression). IsReady c.args.env.now c.args.code.now x c.args.context.width) tr.is c.requires.ready)),
            ),
          ),
        ),
      ),
    )

pub lower-returns-in-Call : goal.lower-returns-in-Call
lower-returns-in-Call t c =
    let e = c.args.e in
    let a = c.args.templates.now.arena in
    let node = N.Call c.in-Call.function c.in-Call.arguments in
    let tr = tree a e c.expr.result.now node c.expr.ensures.tree c.expr.ensures.names c.in-Call.is in
    let f = function_at a c.in-Call.function in
    let plain = λ (args : List ℕ). E.Call f.header f.statement (E.items_of (map (tree_at (arena_trees a)) args)) in
    let w = c.args.context.width in
    let s = c.args.context.signed in
    let env = c.args.env.now in
    let code = c.args.code.now in
    IfOk-weaker c.call.result
    (λ (to : Vec ℕ Global). AddsValue env code.calls code.next c.call.new.code.calls c.call.new.code.next (plain c.as_slice-in-Call.result.now) w s to.items)
    (λ (to : Vec ℕ Global). AddsValue env code.calls code.next c.call.new.code.calls c.call.new.code.next (tree_at (arena_trees a) e) w s to.items)
    (λ to v. subst (λ (x : E.Expression). AddsValue env code.calls code.next c.call.new.code.calls c.call.new.code.next x w s to.items) (sym tr.is)
    (adds_placed env code.calls code.next c.call.new.code.calls c.call.new.code.next tr.place (plain c.in-Call.arguments) w s to.items
    (subst (λ (x : List ℕ). AddsValue env code.calls code.next c.call.new.code.calls c.call.new.code.next (plain x) w s to.items) c.as_slice-in-Call.ensures v)))
    c.call.ensures
