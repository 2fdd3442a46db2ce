use Rattle.std.proofs.Common.{◌≡◌, ◌∙◌, ◌++◌, ℕ, List, refl, sym, ap, subst}
use Rattle.std.specs.List.{All}
use Rattle.vs_code.specs.Calls.{IsCall}
use Rattle.vs_flat.specs.Arena.{bit_count}
use Rattle.vs_shape.specs.Bodies.{body_of}
use Rattle.vs_lower.specs.Copies.{copies}
use Rattle.vs_lower.specs.Next.{AddsNext}
use Rattle.vs_lower.specs.Processed.{IsClockedReady}
use Rattle.vs_lower.proofs.Blocking.{adds_clocked, block_copies_at, clocked_next}
use Rattle.vs_lower.proofs.Joining.{picked}
use Rattle.vs_lower.proofs.blocks.clocked.Goals as goal

pub next_values-requires-clause-ready : goal.next_values-requires-clause-ready
next_values-requires-clause-ready c = clocked_next (bit_count c.args.templates.now.arena.signals) c.args.code.now (body_of c.args.templates.now.arena c.args.s) c.requires.ready

pub copy_all-requires-clause-inside : goal.copy_all-requires-clause-inside
copy_all-requires-clause-inside c =
    let n = bit_count c.args.templates.now.arena.signals in
    let st = body_of c.args.templates.now.arena c.args.s in
    (block_copies_at n c.args.count c.in_ok-bits.bits.items c.as_slice.result.now c.in_ok-next.next c.args.shadows.now c.args.code.now c.next_values.new.code st c.requires.count c.requires.ready c.requires.long c.requires.layout c.in_ok-next.ensures c.in_ok-bits.ensures.rising c.in_ok-bits.ensures.same c.as_slice.ensures.value).inside

pub copy_all-requires-clause-places : goal.copy_all-requires-clause-places
copy_all-requires-clause-places c =
    let n = bit_count c.args.templates.now.arena.signals in
    let st = body_of c.args.templates.now.arena c.args.s in
    (block_copies_at n c.args.count c.in_ok-bits.bits.items c.as_slice.result.now c.in_ok-next.next c.args.shadows.now c.args.code.now c.next_values.new.code st c.requires.count c.requires.ready c.requires.long c.requires.layout c.in_ok-next.ensures c.in_ok-bits.ensures.rising c.in_ok-bits.ensures.same c.as_slice.ensures.value).places

pub copy_all-requires-clause-calls : goal.copy_all-requires-clause-calls
copy_all-requires-clause-calls c =
    let n = bit_count c.args.templates.now.arena.signals in
    let st = body_of c.args.templates.now.arena c.args.s in
    (block_copies_at n c.args.count c.in_ok-bits.bits.items c.as_slice.result.now c.in_ok-next.next c.args.shadows.now c.args.code.now c.next_values.new.code st c.requires.count c.requires.ready c.requires.long c.requires.layout c.in_ok-next.ensures c.in_ok-bits.ensures.rising c.in_ok-bits.ensures.same c.as_slice.ensures.value).calls

pub copy_all-requires-clause-few : goal.copy_all-requires-clause-few
copy_all-requires-clause-few c =
    let n = bit_count c.args.templates.now.arena.signals in
    let st = body_of c.args.templates.now.arena c.args.s in
    (block_copies_at n c.args.count c.in_ok-bits.bits.items c.as_slice.result.now c.in_ok-next.next c.args.shadows.now c.args.code.now c.next_values.new.code st c.requires.count c.requires.ready c.requires.long c.requires.layout c.in_ok-next.ensures c.in_ok-bits.ensures.rising c.in_ok-bits.ensures.same c.as_slice.ensures.value).few

pub returns : goal.returns
returns c l place star events h clocked =
    let n = bit_count c.args.templates.now.arena.signals in
    let st = body_of c.args.templates.now.arena c.args.s in
    let c0 = c.args.code.now in
    let c1 = c.next_values.new.code in
    let env = c.in_ok-next.next in
    let bits = c.in_ok-bits.bits.items in
    let shadows = c.args.shadows.now in
    let hb : l.bits ≡ n = h.bits_are in
    let copy = block_copies_at n c.args.count bits c.as_slice.result.now env shadows c0 c1 st c.requires.count c.requires.ready c.requires.long c.requires.layout c.in_ok-next.ensures c.in_ok-bits.ensures.rising c.in_ok-bits.ensures.same c.as_slice.ensures.value in
    let calls = subst (λ (xs : List ℕ). All IsCall (copies (picked env xs) (picked shadows xs))) c.as_slice.ensures.value copy.calls in
    adds_clocked l place star events c0 c1 c.copy_all.new.code st env bits shadows
    (record { bits_are = refl; temps_are = h.temps_are; layout = h.layout; are = h.are }) clocked (subst (λ (m : ℕ). IsClockedReady m c0 st) (sym hb) c.requires.ready)
    (subst (λ (m : ℕ). AddsNext m c0 c1 st env) (sym hb) c.in_ok-next.ensures) c.in_ok-bits.ensures.rising c.in_ok-bits.ensures.same calls
    (c.in_ok-copy_all.ensures.calls ∙ ap (λ (xs : List ℕ). c1.calls ++ copies (picked env xs) (picked shadows xs)) c.as_slice.ensures.value)
