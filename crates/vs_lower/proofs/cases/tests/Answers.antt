use Rattle.std.proofs.Common.{◌≡◌, ◌∙◌, ◌++◌, ◌<◌, ℕ, zero, suc, List, [], ◌∷◌, map, length, get_or, slice_index, sym, ap, subst, refl, arith, length-append}
use Rattle.std.specs.List.{range_with_len}
use Rattle.std.proofs.lemmas.List.{length-map}
use Rattle.std.proofs.lemmas.List.FromFn.{length-range_with_len}
use Rattle.vs_design.specs.Expressions.{Expression}
use Rattle.vs_flat.specs.DesignOf.{arena_trees}
use Rattle.vs_flat.specs.Trees.{tree_at}
use Rattle.vs_lower.specs.Cases.{match_kernel}
use Rattle.vs_values.specs.Coded.{with_call}
use Rattle.vs_values.specs.Made.{IsCallable}
use Rattle.vs_values.specs.Ready.{IsReady}
use Rattle.vs_values.specs.Valued.{AddsValue}
use Rattle.vs_lower.proofs.Testing.{no_tests, ready_item, callable_match, adds_test}
use Rattle.vs_lower.proofs.cases.tests.Goals as goal

item_at : (g : ℕ → Expression) (xs : List ℕ) (n : ℕ) → n < length xs → get_or (map g xs) n (g 0) ≡ g (slice_index xs n)
item_at g [] n l = refl
item_at g (x ∷ xs) zero l = refl
item_at g (x ∷ xs) (suc n) l = item_at g xs n (omega arith)

pub loop-n-init : goal.loop-n-init
loop-n-init c = (ap length c.new-matches.ensures.items, no_tests c.args.env.now c.args.subject.now c.args.code.now c.args.kind c.args.context.width c.args.context.signed c.new-matches.result.items c.new-matches.ensures.items)

pub lower-requires-clause-ready : goal.lower-requires-clause-ready
lower-requires-clause-ready c =
    let g = tree_at (arena_trees c.args.templates.now.arena) in
    let xs = c.args.items.now in
    let n = c.loop-n.n in
    let l : n < length (map g xs) = omega (arith, c.loop-n-test.true, length-map xs g) in
    subst (λ (x : Expression). IsReady c.args.env.now c.loop-n.code x c.args.context.width) (item_at g xs n c.loop-n-test.true)
    (ready_item c.args.env.now c.args.subject.now c.args.code.now c.loop-n.code c.args.kind c.args.context.width c.args.context.signed (map g xs) c.loop-n.matches.items n (g 0) l c.requires.ready c.loop-n.invariant.1)

pub matched-requires : goal.matched-requires
matched-requires c =
    let g = tree_at (arena_trees c.args.templates.now.arena) in
    let xs = c.args.items.now in
    let n = c.loop-n.n in
    let env = c.args.env.now in
    let te = c.in_ok-item.item.items in
    let l : n < length (map g xs) = omega (arith, c.loop-n-test.true, length-map xs g) in
    let v = subst (λ (x : Expression). AddsValue env c.loop-n.code.calls c.loop-n.code.next c.lower.new.code.calls c.lower.new.code.next x c.args.context.width c.args.context.signed te) (sym (item_at g xs n c.loop-n-test.true)) c.in_ok-item.ensures in
    record {
      call = subst (λ (x : List ℕ). IsCallable c.lower.new.code (match_kernel c.args.kind) (x ∷ te ∷ []) 1) (sym c.in_ok-copy.ensures.items)
          (callable_match env c.args.subject.now c.args.code.now c.loop-n.code c.lower.new.code c.args.kind c.args.context.width c.args.context.signed (map g xs) c.loop-n.matches.items te n (g 0) l c.requires.ready c.loop-n.invariant.1 v);
    }

pub loop-n-preserved : goal.loop-n-preserved
loop-n-preserved c =
    let g = tree_at (arena_trees c.args.templates.now.arena) in
    let xs = c.args.items.now in
    let n = c.loop-n.n in
    let env = c.args.env.now in
    let te = c.in_ok-item.item.items in
    let l : n < length (map g xs) = omega (arith, c.loop-n-test.true, length-map xs g) in
    let v = subst (λ (x : Expression). AddsValue env c.loop-n.code.calls c.loop-n.code.next c.lower.new.code.calls c.lower.new.code.next x c.args.context.width c.args.context.signed te) (sym (item_at g xs n c.loop-n-test.true)) c.in_ok-item.ensures in
    let more = c.in_ok-matches.ensures ∙ ap (λ (x : List ℕ). c.loop-n.matches.items ++ x) c.in_ok-to.ensures.to in (
      omega (arith, ap length more, length-append c.loop-n.matches.items (range_with_len c.lower.new.code.next 1), length-range_with_len c.lower.new.code.next 1, c.loop-n.invariant.0),
      adds_test env c.args.subject.now c.args.code.now c.loop-n.code c.lower.new.code c.matched.new.code c.args.kind c.args.context.width c.args.context.signed (map g xs) c.loop-n.matches.items te c.in_ok-matches.matches.items n (g 0) l
          c.requires.ready c.loop-n.invariant.1 v
          (c.in_ok-to.ensures.ok ∙ ap (λ (x : List ℕ). with_call c.lower.new.code (match_kernel c.args.kind) (x ∷ te ∷ []) 1) c.in_ok-copy.ensures.items)
          more,
    )
