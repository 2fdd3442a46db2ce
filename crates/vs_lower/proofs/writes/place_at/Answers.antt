use Rattle.std.proofs.Common.{ℕ, ◌+◌, ◌<◌, ◌≤◌, Option, map, length, slice_index, sym, ap, ap₂, ◌∙◌, arith}
use Rattle.std.specs.Prelude.{option_map}
use Rattle.std.proofs.lemmas.List.{take_all}
use Rattle.vs_values.specs.Environments.{placed, put_at}
use Rattle.vs_lower.proofs.Scattered.{placed_next, put_length}
use Rattle.vs_lower.proofs.writes.place_at.Goals as goal

pub set_at-requires-clause-inside : goal.set_at-requires-clause-inside
set_at-requires-clause-inside c = λ n e.
    let inside : c.args.first + n < length c.args.env.now = c.requires.inside c.loop-k.k n (sym c.get.ensures ∙ e) in
    omega (arith, inside, c.loop-k.invariant.0)

pub set_at-requires-clause-few : goal.set_at-requires-clause-few
set_at-requires-clause-few c = λ n e. c.requires.few c.loop-k.k n (sym c.get.ensures ∙ e)

pub loop-k-preserved : goal.loop-k-preserved
loop-k-preserved c =
    let k : ℕ = c.loop-k.k in
    let bit : Option ℕ → Option ℕ = λ p. option_map (λ n. c.args.first + n) p in (
      ap length c.in_ok-set_at.ensures ∙ put_length c.loop-k.env _ (slice_index c.args.value.now k) ∙ c.loop-k.invariant.0,
      c.in_ok-set_at.ensures
          ∙ ap (λ (p : Option ℕ). put_at c.loop-k.env (bit p) (slice_index c.args.value.now k)) c.get.ensures
          ∙ placed_next c.args.env.now c.loop-k.env bit c.args.places.now c.args.value.now k (omega (arith, c.loop-k-test.true, c.len-k-end.ensures.value)) c.requires.alike c.loop-k.invariant.1,
    )

pub returns : goal.returns
returns c =
    let bit : Option ℕ → Option ℕ = λ p. option_map (λ n. c.args.first + n) p in
    let end : length c.args.places.now ≤ c.loop-k.k = omega (arith, c.loop-k-test.false, c.len-k-end.ensures.value) in
    c.loop-k.invariant.1
    ∙ ap₂ (placed c.args.env.now) (ap (map bit) (take_all c.loop-k.k c.args.places.now end)) (take_all c.loop-k.k c.args.value.now (omega (arith, end, c.requires.alike)))
