use Rattle.std.proofs.Common.{◌≡◌, ◌∙◌, ◌<◌, ◌^◌, length, map, sym, ap, subst, rules, arith}
use Rattle.std.specs.List.{All}
use Rattle.vs_code.specs.Calls.{Call}
use Rattle.vs_code.specs.Placed.{lengths_in}
use Rattle.vs_code.proofs.Arena.{stands, fits_behind}
use Rattle.vs_code.proofs.Arguments.{one_to_three, args_short}
use Rattle.vs_code.proofs.placed.Placed.add.Goals as goal

pub of-requires-clause-few : goal.of-requires-clause-few
of-requires-clause-few c =
    omega (arith, one_to_three c.args.op.now c.requires, ap length c.as_slice.ensures, ap (λ (call : Call). length call.args) c.op.view_is)

pub of-requires-clause-short : goal.of-requires-clause-short
of-requires-clause-short c =
    let same = c.as_slice.ensures ∙ ap (λ (call : Call). call.args) c.op.view_is in
    subst (All (λ arg. length arg < 2 ^ 32)) (sym same) (args_short c.args.op.now c.requires)

pub returns-clause-call : goal.returns-clause-call
returns-clause-call c =
    let at : c.len-first.result ≡ length c.args.arena.now.items = search rules in
    let lengths = c.of.ensures ∙ ap (map length) (c.as_slice.ensures ∙ ap (λ (call : Call). call.args) c.op.view_is) in
    stands c.op.inside.kernel (lengths_in c.of.result) c.len-first.result c.len.result c.len-2.result c.args.arena.now.items c.append_slots.new.arena.items c.args.op.now
    c.in_ok-append_slots.ensures.ok at (ap (λ (call : Call). call.kernel) c.op.view_is) lengths
    (c.len.ensures ∙ ap (λ (call : Call). length call.to) c.op.view_is) (c.len-2.ensures ∙ ap (λ (call : Call). length call.scratch) c.op.view_is)

pub returns-clause-within : goal.returns-clause-within
returns-clause-within c =
    let at : c.len-first.result ≡ length c.args.arena.now.items = search rules in
    let lengths = c.of.ensures ∙ ap (map length) (c.as_slice.ensures ∙ ap (λ (call : Call). call.args) c.op.view_is) in
    fits_behind (lengths_in c.of.result) c.len-first.result c.len.result c.len-2.result c.args.arena.now.items c.append_slots.new.arena.items c.args.op.now
    c.in_ok-append_slots.ensures.ok at lengths
    (c.len.ensures ∙ ap (λ (call : Call). length call.to) c.op.view_is) (c.len-2.ensures ∙ ap (λ (call : Call). length call.scratch) c.op.view_is)
