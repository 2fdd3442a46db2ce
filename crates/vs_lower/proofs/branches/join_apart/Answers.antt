use Rattle.std.proofs.Common.{◌≡◌, ◌∙◌, ◌<◌, ℕ, List, length, map, slice_index, Some, sym, ap, subst, arith}
use Rattle.std.specs.List.{All}
use Rattle.std.proofs.lemmas.List.Elements.{All-weaker}
use Rattle.vs_values.specs.Coded.{Coding}
use Rattle.vs_values.specs.Environments.{placed}
use Rattle.vs_lower.specs.Joined.{AreJoinable, AreJoined, IsJoined}
use Rattle.vs_values.proofs.Environments.{placed_length}
use Rattle.vs_lower.proofs.Placing.{placed_other}
use Rattle.vs_lower.proofs.Restoring.{joined_kept, restored}
use Rattle.vs_lower.proofs.branches.join_apart.Goals as goal

as_long : (env mid bits to : List ℕ) → mid ≡ placed env (map Some bits) to → length mid ≡ length env
as_long env mid bits to e = ap (λ (x : List ℕ). length x) e ∙ placed_length env (map Some bits) to

still_inside : (env mid bits : List ℕ) → length mid ≡ length env → All (λ b. b < length env) bits → All (λ b. b < length mid) bits
still_inside env mid bits long h = All-weaker (λ b. b < length env) (λ b. b < length mid) (λ b l. omega (arith, l, long)) bits h

pub join_both-requires-clause-values : goal.join_both-requires-clause-values
join_both-requires-clause-values c =
    let mid = c.exchange.new.self.values in
    still_inside c.args.env.now.values mid c.args.bits.now (as_long c.args.env.now.values mid c.args.bits.now c.args.behind.now.values.items c.in_ok-before.ensures.values) c.requires.values

pub join_both-requires-clause-ahead : goal.join_both-requires-clause-ahead
join_both-requires-clause-ahead c =
    let mid = c.exchange.new.self.ahead in
    still_inside c.args.env.now.ahead mid c.args.bits.now (as_long c.args.env.now.ahead mid c.args.bits.now c.args.behind.now.ahead.items c.in_ok-before.ensures.ahead) c.requires.ahead

pub exchange-requires-2-clause-values : goal.exchange-requires-2-clause-values
exchange-requires-2-clause-values c =
    let mid = c.exchange.new.self.values in
    let kept = joined_kept c.args.condition.items c.args.bits.now c.args.first.now.values.items mid c.join_both.new.env.values c.args.code.now c.in_ok-join_both.ensures.mid c.in_ok-join_both.ensures.now_joined in
    still_inside c.args.env.now.values c.join_both.new.env.values c.args.bits.now (kept.0 ∙ as_long c.args.env.now.values mid c.args.bits.now c.args.behind.now.values.items c.in_ok-before.ensures.values) c.requires.values

pub exchange-requires-2-clause-ahead : goal.exchange-requires-2-clause-ahead
exchange-requires-2-clause-ahead c =
    let mid = c.exchange.new.self.ahead in
    let kept = joined_kept c.args.condition.items c.args.bits.now c.args.first.now.ahead.items mid c.join_both.new.env.ahead c.in_ok-join_both.ensures.mid c.join_both.new.code c.in_ok-join_both.ensures.later_joined in
    still_inside c.args.env.now.ahead c.join_both.new.env.ahead c.args.bits.now (kept.0 ∙ as_long c.args.env.now.ahead mid c.args.bits.now c.args.behind.now.ahead.items c.in_ok-before.ensures.ahead) c.requires.ahead

pub join_both-requires-clause-calls : goal.join_both-requires-clause-calls
join_both-requires-clause-calls c =
    let bits = c.args.bits.now in
    let ready = λ (v a : List ℕ). AreJoinable c.args.condition.items bits c.args.first.now.values.items c.args.first.now.ahead.items v a c.args.code.now in
    subst (λ (x : List ℕ). ready x c.exchange.new.self.ahead) (sym c.in_ok-before.ensures.values)
    (subst (λ (x : List ℕ). ready (placed c.args.env.now.values (map Some bits) c.args.behind.now.values.items) x) (sym c.in_ok-before.ensures.ahead) c.requires.calls)

pub returns-clause-adds : goal.returns-clause-adds
returns-clause-adds c =
    let bits = c.args.bits.now in
    let done = λ (v a : List ℕ). AreJoined c.args.condition.items bits c.args.first.now.values.items c.args.first.now.ahead.items v a c.join_both.new.env.values c.join_both.new.env.ahead c.args.code.now c.join_both.new.code in
    record {
      now_after = c.join_both.new.env.values;
      later_after = c.join_both.new.env.ahead;
      joined = subst (λ (x : List ℕ). done x (placed c.args.env.now.ahead (map Some bits) c.args.behind.now.ahead.items)) c.in_ok-before.ensures.values
          (subst (λ (x : List ℕ). done c.exchange.new.self.values x) c.in_ok-before.ensures.ahead c.in_ok-join_both.ensures);
      now_are = c.in_ok-slots.ensures.had_values;
      later_are = c.in_ok-slots.ensures.had_ahead;
    }

-- an environment after its join, put back
back : (bits first behind condition env mid joined after before : List ℕ) (old new : Coding) → All (λ b. b < length env) bits
    → mid ≡ placed env (map Some bits) behind → IsJoined condition bits first mid joined old new
    → before ≡ map (slice_index env) bits → after ≡ placed joined (map Some bits) before → after ≡ env
back bits first behind condition env mid joined after before old new inside put j is again =
    let kept = joined_kept condition bits first mid joined old new j in
    restored bits env joined after before (kept.0 ∙ as_long env mid bits behind put)
    (λ b out. kept.1 b out ∙ ap (λ (x : List ℕ). slice_index x b) put ∙ placed_other env bits behind b out) inside is again

pub returns-clause-values : goal.returns-clause-values
returns-clause-values c =
    back c.args.bits.now c.args.first.now.values.items c.args.behind.now.values.items c.args.condition.items c.args.env.now.values c.exchange.new.self.values c.join_both.new.env.values c.exchange-2.new.self.values c.in_ok-before.before.values.items c.args.code.now c.in_ok-join_both.ensures.mid
    c.requires.values c.in_ok-before.ensures.values c.in_ok-join_both.ensures.now_joined c.in_ok-before.ensures.had_values c.in_ok-slots.ensures.values

pub returns-clause-ahead : goal.returns-clause-ahead
returns-clause-ahead c =
    back c.args.bits.now c.args.first.now.ahead.items c.args.behind.now.ahead.items c.args.condition.items c.args.env.now.ahead c.exchange.new.self.ahead c.join_both.new.env.ahead c.exchange-2.new.self.ahead c.in_ok-before.before.ahead.items c.in_ok-join_both.ensures.mid c.join_both.new.code
    c.requires.ahead c.in_ok-before.ensures.ahead c.in_ok-join_both.ensures.later_joined c.in_ok-before.ensures.had_ahead c.in_ok-slots.ensures.ahead
