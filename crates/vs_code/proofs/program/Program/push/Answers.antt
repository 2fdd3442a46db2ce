use Rattle.std.proofs.Common.{◌≡◌, ◌∙◌, ◌++◌, ◌∷◌, [], Result, Ok, Err, OnErr, length, sym, ap, subst, rules, arith}
use Rattle.vs_code.specs.Calls.{IsCall, call_cost, count_for, length_of}
use Rattle.vs_code.specs.Kept.{AreCounted}
use Rattle.vs_code.proofs.Arena.{cost_is, put_behind, takes_lengths}
use Rattle.vs_code.proofs.Counts.{max_is}
use Rattle.vs_code.proofs.Kept.{counted_longer, counted_push, same_longer, same_push}
use Rattle.vs_code.proofs.program.Program.push.Goals as goal

on_err : {T E P : Type 0} (r : Result T E) → P → OnErr r P
on_err (Ok x) h = tt
on_err (Err e) h = h

pub invariant_of-self : goal.invariant_of-self
invariant_of-self c =
    counted_longer c.self.inside.arena.items c.add.new.arena.items c.self.inside.calls.items c.self.inside.length c.self.inside.slots
    c.in_err-placed.ensures.longer c.self.invariant

pub returns-in_err-placed-clause-err : goal.returns-in_err-placed-clause-err
returns-in_err-placed-clause-err c =
    on_err c.from_residual.result
    (same_longer c.self.inside.arena.items c.add.new.arena.items c.self.inside.calls.items c.in_err-placed.ensures.longer c.self.invariant.within ∙ c.self.view_is)

pub cost-requires-clause-lengths : goal.cost-requires-clause-lengths
cost-requires-clause-lengths c =
    takes_lengths c.add.new.arena.items c.in_ok-placed.placed c.in_ok-placed.ensures.within (subst IsCall (sym c.in_ok-placed.ensures.call) c.requires.call)

pub cost-requires-clause-fits : goal.cost-requires-clause-fits
cost-requires-clause-fits c =
    omega (arith, c.requires.few, cost_is c.add.new.arena.items c.in_ok-placed.placed c.in_ok-placed.ensures.within, ap call_cost c.in_ok-placed.ensures.call)

pub overflow_add-length : goal.overflow_add-length
overflow_add-length c =
    omega (arith, c.requires.few, cost_is c.add.new.arena.items c.in_ok-placed.placed c.in_ok-placed.ensures.within, ap call_cost c.in_ok-placed.ensures.call, c.cost.ensures, c.self.invariant.few_stores)

pub invariant_of-self-in_err-push : goal.invariant_of-self-in_err-push
invariant_of-self-in_err-push c =
    subst (λ calls. AreCounted c.add.new.arena.items calls c.self.inside.length c.self.inside.slots) (sym c.in_err-push.ensures.items)
    (counted_longer c.self.inside.arena.items c.add.new.arena.items c.self.inside.calls.items c.self.inside.length c.self.inside.slots
    c.in_ok-placed.ensures.longer c.self.invariant)

pub returns-in_err-push-clause-err : goal.returns-in_err-push-clause-err
returns-in_err-push-clause-err c =
    on_err c.from_residual-in_err-push.result
    (rw c.in_err-push.ensures.items
    (same_longer c.self.inside.arena.items c.add.new.arena.items c.self.inside.calls.items c.in_ok-placed.ensures.longer c.self.invariant.within ∙ c.self.view_is))

pub invariant_of-self-2 : goal.invariant_of-self-2
invariant_of-self-2 c =
    let old = c.self.inside.arena.items in
    let at : c.len-first.result ≡ length old = search rules in
    let stores : c.cost.result ≡ call_cost c.args.op =
    c.cost.ensures ∙ sym (cost_is c.add.new.arena.items c.in_ok-placed.placed c.in_ok-placed.ensures.within) ∙ ap call_cost c.in_ok-placed.ensures.call in
    let behind = put_behind c.as_slice.result.now old _ c.len-first.result (c.as_slice.ensures.value ∙ c.in_ok-placed.ensures.appended) at in
    let count = c.count_for.ensures.exact ∙ ap count_for behind in
    counted_push old c.add.new.arena.items c.self.inside.calls.items c.push.new.self.items c.in_ok-placed.placed c.args.op
    c.self.inside.length _ c.self.inside.slots _
    c.in_ok-placed.ensures.longer c.self.invariant c.in_ok-push.ensures.items c.in_ok-placed.ensures.call c.in_ok-placed.ensures.within c.requires.call
    (omega (arith, stores)) (omega (arith, stores, c.requires.few, c.self.invariant.length, ap length_of c.self.view_is))
    (omega (arith, max_is, count)) (omega (arith, max_is, c.count_for.ensures.most, c.self.invariant.few_slots))

pub returns-clause-ok : goal.returns-clause-ok
returns-clause-ok c =
    same_push c.self.inside.arena.items c.add.new.arena.items c.self.inside.calls.items c.push.new.self.items c.in_ok-placed.placed c.args.op
    c.in_ok-placed.ensures.longer c.self.invariant.within c.in_ok-push.ensures.items c.in_ok-placed.ensures.call
    ∙ ap (λ calls. calls ++ c.args.op ∷ []) c.self.view_is
