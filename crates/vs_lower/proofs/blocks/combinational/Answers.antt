use Rattle.std.proofs.Common.{◌≡◌, ◌∙◌, ◌++◌, ℕ, List, sym, ap, subst, length, arith}
use Rattle.std.specs.List.{All}
use Rattle.vs_code.specs.Calls.{Call, IsCall}
use Rattle.vs_flat.specs.Arena.{bit_count}
use Rattle.vs_shape.specs.Bodies.{body_of}
use Rattle.vs_lower.specs.Copies.{home_copies}
use Rattle.vs_lower.specs.Processed.{IsBlockReady}
use Rattle.vs_lower.specs.Stated.{IsStatementReady, AddsStatement}
use Rattle.vs_lower.proofs.Blocking.{AddsBlock, adds_combinational, block_home_at, block_ready}
use Rattle.vs_lower.proofs.Homeward.{at_homes, from_homes}
use Rattle.vs_lower.proofs.Reaching.{own_bits}
use Rattle.std.proofs.lemmas.List.FromFn.{length-range_with_len}
use Rattle.vs_lower.proofs.blocks.combinational.Goals as goal

pub statement-requires-clause-ready : goal.statement-requires-clause-ready
statement-requires-clause-ready c =
    let n = bit_count c.args.templates.now.arena.signals in
    let st = body_of c.args.templates.now.arena c.args.s in
    own_bits _ _ _ _ _
    (at_homes n c.args.count c.at_home.result c.at_home-2.result (λ (x y : List ℕ). IsStatementReady n x y c.args.code.now st) c.requires.count c.at_home.ensures c.at_home-2.ensures (block_ready n c.args.code.now st c.requires.ready))

pub statement-requires-clause-inside : goal.statement-requires-clause-inside
statement-requires-clause-inside c b h =
    let q = c.requires.ready.inside b h in
    omega (arith, q, c.requires.count, ap (λ (xs : List ℕ). length xs) c.at_home.ensures, length-range_with_len 4 c.args.count)

pub copy_home-requires-clause-long : goal.copy_home-requires-clause-long
copy_home-requires-clause-long c =
    (block_home_at (bit_count c.args.templates.now.arena.signals) c.args.count c.at_home.result c.at_home-2.result c.in_ok-bits.bits.items c.as_slice.result.now c.statement.new.env.values c.statement.new.env.ahead c.args.code.now c.statement.new.code (body_of c.args.templates.now.arena c.args.s)
    c.requires.count c.at_home.ensures c.at_home-2.ensures c.requires.ready c.in_ok-statement.ensures c.in_ok-bits.ensures.rising c.in_ok-bits.ensures.same c.as_slice.ensures.value).long

pub copy_home-requires-clause-inside : goal.copy_home-requires-clause-inside
copy_home-requires-clause-inside c =
    (block_home_at (bit_count c.args.templates.now.arena.signals) c.args.count c.at_home.result c.at_home-2.result c.in_ok-bits.bits.items c.as_slice.result.now c.statement.new.env.values c.statement.new.env.ahead c.args.code.now c.statement.new.code (body_of c.args.templates.now.arena c.args.s)
    c.requires.count c.at_home.ensures c.at_home-2.ensures c.requires.ready c.in_ok-statement.ensures c.in_ok-bits.ensures.rising c.in_ok-bits.ensures.same c.as_slice.ensures.value).inside

pub copy_home-requires-clause-calls : goal.copy_home-requires-clause-calls
copy_home-requires-clause-calls c =
    (block_home_at (bit_count c.args.templates.now.arena.signals) c.args.count c.at_home.result c.at_home-2.result c.in_ok-bits.bits.items c.as_slice.result.now c.statement.new.env.values c.statement.new.env.ahead c.args.code.now c.statement.new.code (body_of c.args.templates.now.arena c.args.s)
    c.requires.count c.at_home.ensures c.at_home-2.ensures c.requires.ready c.in_ok-statement.ensures c.in_ok-bits.ensures.rising c.in_ok-bits.ensures.same c.as_slice.ensures.value).calls

pub copy_home-requires-clause-few : goal.copy_home-requires-clause-few
copy_home-requires-clause-few c =
    (block_home_at (bit_count c.args.templates.now.arena.signals) c.args.count c.at_home.result c.at_home-2.result c.in_ok-bits.bits.items c.as_slice.result.now c.statement.new.env.values c.statement.new.env.ahead c.args.code.now c.statement.new.code (body_of c.args.templates.now.arena c.args.s)
    c.requires.count c.at_home.ensures c.at_home-2.ensures c.requires.ready c.in_ok-statement.ensures c.in_ok-bits.ensures.rising c.in_ok-bits.ensures.same c.as_slice.ensures.value).few

pub returns : goal.returns
returns c l place star events hb hf comb =
    let n = bit_count c.args.templates.now.arena.signals in
    let st = body_of c.args.templates.now.arena c.args.s in
    let c0 = c.args.code.now in
    let c1 = c.statement.new.code in
    let now1 = c.statement.new.env.values in
    let later1 = c.statement.new.env.ahead in
    let bits = c.in_ok-bits.bits.items in
    let home = block_home_at n c.args.count c.at_home.result c.at_home-2.result bits c.as_slice.result.now now1 later1 c0 c1 st
    c.requires.count c.at_home.ensures c.at_home-2.ensures c.requires.ready c.in_ok-statement.ensures c.in_ok-bits.ensures.rising c.in_ok-bits.ensures.same c.as_slice.ensures.value in
    let all : c.args.count ≡ l.bits = c.requires.count ∙ sym hb in
    let calls = subst (λ (m : ℕ). All IsCall (home_copies m bits now1)) all (subst (λ (xs : List ℕ). All IsCall (home_copies c.args.count xs now1)) c.as_slice.ensures.value home.calls) in
    let copied : home_copies c.args.count c.as_slice.result.now now1 ≡ home_copies l.bits bits now1 =
    ap (λ (xs : List ℕ). home_copies c.args.count xs now1) c.as_slice.ensures.value ∙ ap (λ (m : ℕ). home_copies m bits now1) all in
    let added = from_homes n c.args.count c.at_home.result c.at_home-2.result (λ (x y : List ℕ). AddsStatement x y c0 c1 st now1 later1) c.requires.count c.at_home.ensures c.at_home-2.ensures c.in_ok-statement.ensures in
    adds_combinational l place star events c0 c1 c.copy_home.new.code st now1 later1 bits hf comb (subst (λ (m : ℕ). IsBlockReady m c0 st) (sym hb) c.requires.ready)
    (subst (λ (m : ℕ). AddsBlock m c0 c1 st now1 later1) (sym hb) added) c.in_ok-bits.ensures.rising c.in_ok-bits.ensures.same calls
    (c.in_ok-copy_home.ensures.calls ∙ ap (λ (cs : List Call). c1.calls ++ cs) copied)
