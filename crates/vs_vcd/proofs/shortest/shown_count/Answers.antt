use Rattle.std.proofs.Common.{ℕ, suc, ◌-◌, ◌*◌, ◌^◌, ◌%◌, if◌then◌else◌, take, length, add-one, ◌∙◌, sym, ap, arith}
use Rattle.std.specs.Prelude.{reverse, slice_get, bit_and}
use Rattle.std.specs.Int.{bit_at}
use Rattle.std.specs.Int.Count.{count_leading_zeros}
use Rattle.vs_four.specs.declared.Bit4.{Bit4}
use Rattle.vs_four.specs.Planes.{decode}
use Rattle.vs_vcd.specs.Values.{is_redundant}
use Rattle.vs_vcd.proofs.Shown.{Found, found, digit_at, shown_is}
use Rattle.vs_vcd.proofs.shortest.shown_count.Goals as goal
use Rattle.vs_vcd.proofs.shortest.shown_count.Goals.{After-staying}

abbrev digit : After-staying → ℕ → Bit4
digit c i = decode (bit_at c.planes-number.result.0 i) (bit_at c.planes-number.result.1 i)

first : (c : After-staying) → Found (c.len.result - 1) (65 - count_leading_zeros 64 (bit_and c.staying.result (1 * 2 ^ (c.len.result - 1) % 2 ^ 64 - 1))) (λ i. is_redundant (digit c (suc i)) (digit c i))
first c =
    found c.staying.result (c.len.result - 1) (λ i. is_redundant (digit c (suc i)) (digit c i)) (omega (arith, c.len.ensures.at_most_64)) (omega (arith, c.staying.type_inv))
    (λ i h. c.staying.ensures i h ∙ ap (λ k. if is_redundant (digit c k) (digit c i) then 0 else 1) (add-one i))

pub returns-clause-within : goal.returns-clause-within
returns-clause-within c = let f = first c in omega (arith, f.is, f.within, c.len.ensures.length, c.len.ensures.some)

pub returns-clause-shortest : goal.returns-clause-shortest
returns-clause-shortest c =
    let f = first c in
    let value = c.args.value in
    ap (λ k. reverse (take k value)) f.is
    ∙ shown_is value (digit c) f.place (omega (arith, f.within, c.len.ensures.length, c.len.ensures.some))
    (λ i h. ap (λ bits. slice_get bits i) (sym c.planes-number.ensures.vector) ∙ digit_at (length value) c.planes-number.result.0 c.planes-number.result.1 i h)
    (λ i above h. f.out i above (omega (arith, c.len.ensures.length)))
    f.stays
