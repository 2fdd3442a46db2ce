use Rattle.std.proofs.Common.{ℕ, List, length, Result, Ok, Err, refl, arith, ap}
use Rattle.std.specs.Prelude.{IfOk}
use Rattle.vs_flat.specs.Arena.{bit_count}
use Rattle.vs_shape.specs.Bodies.{body_of}
use Rattle.vs_lower.specs.Stated.{IsStatementReady}
use Rattle.vs_lower.proofs.Blocking.{block_ready}
use Rattle.vs_lower.proofs.Homeward.{at_homes}
use Rattle.vs_lower.proofs.Sleeping.{can_own, settled_adds, settled_inside}
use Rattle.vs_lower.proofs.Reaching.{own_bits}
use Rattle.std.proofs.lemmas.List.FromFn.{length-range_with_len}
use Rattle.vs_lower.proofs.sleepers.settled.Goals as goal

if_ok : {V W : Type 0} {P Q : V → Type 0} (r : Result V W) → IfOk r P → ((v : V) → P v → Q v) → IfOk r Q
if_ok (Ok v) h k = k v h
if_ok (Err e) h k = h

pub statement-requires-clause-ready : goal.statement-requires-clause-ready
statement-requires-clause-ready c =
    let n = bit_count c.args.templates.now.arena.signals in
    let st = body_of c.args.templates.now.arena c.args.s in
    own_bits _ _ _ _ _
    (at_homes n c.args.count c.at_home.result c.at_home-2.result (λ (x y : List ℕ). IsStatementReady n x y c.args.code.now st) c.requires.count c.at_home.ensures c.at_home-2.ensures (block_ready n c.args.code.now st c.requires.ready))

pub statement-requires-clause-inside : goal.statement-requires-clause-inside
statement-requires-clause-inside c b h =
    let q = c.requires.ready.inside b h in
    omega (arith, q, c.requires.count, ap (λ (xs : List ℕ). length xs) c.at_home.ensures, length-range_with_len 4 c.args.count)

pub picked-requires : goal.picked-requires
picked-requires c =
    settled_inside (bit_count c.args.templates.now.arena.signals) c.args.count c.at_home.result c.at_home-2.result c.args.code.now c.statement.new.code (body_of c.args.templates.now.arena c.args.s) c.statement.new.env.values c.statement.new.env.ahead c.args.bits.now
    c.requires.count c.at_home.ensures c.at_home-2.ensures c.in_ok-statement.ensures c.requires.inside

pub owned-requires : goal.owned-requires
owned-requires c = record {
  call = λ others. can_own (bit_count c.args.templates.now.arena.signals) c.args.count c.at_home.result c.at_home-2.result c.args.code.now c.statement.new.code (body_of c.args.templates.now.arena c.args.s) c.statement.new.env.values c.statement.new.env.ahead c.args.bits.now
      c.requires.count c.at_home.ensures c.at_home-2.ensures c.in_ok-statement.ensures c.requires.inside
      c.in_ok-slots.slots.items (length c.args.bits.now) c.requires.ready c.requires.some c.requires.few c.in_ok-slots.ensures refl;
}

pub returns : goal.returns
returns c =
    if_ok c.owned.result c.owned.ensures
    (λ now is. settled_adds (bit_count c.args.templates.now.arena.signals) c.args.count c.at_home.result c.at_home-2.result c.args.code.now c.statement.new.code (body_of c.args.templates.now.arena c.args.s) c.statement.new.env.values c.statement.new.env.ahead c.args.bits.now
    c.requires.count c.at_home.ensures c.at_home-2.ensures c.in_ok-statement.ensures c.requires.inside
    c.owned.new.code c.in_ok-slots.slots.items now.items c.next-first.result (length c.args.bits.now) c.requires.ready c.requires.some c.requires.few c.in_ok-slots.ensures c.next-first.ensures refl is)
