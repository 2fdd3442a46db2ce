use Rattle.std.proofs.Common.{◌≡◌, ℕ, ◌+◌, ◌-◌, ◌/◌, ◌^◌, ◌<◌, min, max, if◌then◌else◌, add-one, ◌∙◌, sym, ap, ap₂, arith}
use Rattle.std.specs.Prelude.{bit_and, bit_or, bit_xor}
use Rattle.std.specs.Int.{bit_at, bit_not, w64}
use Rattle.std.proofs.lemmas.Nat.{and_le_l}
use Rattle.std.proofs.lemmas.Nat.Bits.{bit_at-suc, bit_at-lt, bit_at_and, bit_at_or, bit_at_xor, bit_at_not}
use Rattle.vs_four.specs.Planes.{decode}
use Rattle.vs_vcd.specs.Values.{is_redundant}
use Rattle.vs_vcd.proofs.Shown.{stays}
use Rattle.vs_vcd.proofs.shortest.staying.Goals as goal

pub returns : goal.returns
returns c = λ n h.
    let v : ℕ = c.args.value in
    let u : ℕ = c.args.unknown in
    let a : ℕ = v / 2 in
    let b : ℕ = u / 2 in
    let both : ℕ = bit_and b u in
    let fits : both < 2 ^ 64 = omega (arith, and_le_l b u, c.ranges.unknown.fits) in
    let not_zero : bit_at (bit_or (bit_or a b) u) n ≡ max (max (bit_at a n) (bit_at b n)) (bit_at u n) = bit_at_or (bit_or a b) u n ∙ ap (λ x. max x (bit_at u n)) (bit_at_or a b n) in
    let not_both : bit_at (bit_not w64 both) n ≡ 1 - min (bit_at b n) (bit_at u n) = bit_at_not w64 both n fits h ∙ ap (λ x. 1 - x) (bit_at_and b u n) in
    let next : (x : ℕ) → bit_at (x / 2) n ≡ bit_at x (n + 1) = λ x. sym (ap (bit_at x) (add-one n) ∙ bit_at-suc x n) in
    bit_at_and (bit_or (bit_or a b) u) (bit_or (bit_xor a v) (bit_not w64 both)) n
    ∙ ap₂ (λ x y. min x y) not_zero (bit_at_or (bit_xor a v) (bit_not w64 both) n ∙ ap₂ (λ x y. max x y) (bit_at_xor a v n) not_both)
    ∙ stays (bit_at a n) (bit_at b n) (bit_at v n) (bit_at u n) (bit_at-lt a n) (bit_at-lt b n) (bit_at-lt v n) (bit_at-lt u n)
    ∙ ap₂ (λ x y. if is_redundant (decode x y) (decode (bit_at v n) (bit_at u n)) then 0 else 1) (next v) (next u)
