use Rattle.std.proofs.Common.{◌≡◌, ◌∙◌, ℕ, List, Some, map, length, slice_index, sym, ap, subst}
use Rattle.std.specs.Prelude.{OnOk}
use Rattle.std.proofs.lemmas.List.FromFn.{length-range_with_len}
use Rattle.vs_values.specs.Environments.{placed}
use Rattle.vs_lower.proofs.WordWrites.{callable_same, with_same, on_ok}
use Rattle.vs_lower.proofs.parts.call_on.Goals as goal

pub written_slots-requires : goal.written_slots-requires
written_slots-requires c = record {
  call = callable_same c.args.code.now c.args.kernel (map (slice_index c.args.env.now) c.args.bits.now) c.in_ok-under.under.items c.args.index.now c.in_ok-at.at.items c.args.value.now c.in_ok-with.with.items (length c.args.bits.now)
      (sym c.in_ok-under.ensures) (sym c.in_ok-at.ensures.items) (sym c.in_ok-with.ensures.items) c.requires.call;
}

pub place-requires-clause-alike : goal.place-requires-clause-alike
place-requires-clause-alike c = sym (ap length (c.as_slice.ensures.value ∙ c.in_ok-to.ensures.to) ∙ length-range_with_len c.args.code.now.next (length c.args.bits.now))

pub returns-clause-code : goal.returns-clause-code
returns-clause-code c =
    on_ok c.place.result c.place.ensures
    (λ done. c.in_ok-to.ensures.ok
    ∙ with_same c.args.code.now c.args.kernel (map (slice_index c.args.env.now) c.args.bits.now) c.in_ok-under.under.items c.args.index.now c.in_ok-at.at.items c.args.value.now c.in_ok-with.with.items (length c.args.bits.now)
    (sym c.in_ok-under.ensures) (sym c.in_ok-at.ensures.items) (sym c.in_ok-with.ensures.items))

pub returns-clause-env : goal.returns-clause-env
returns-clause-env c =
    subst (λ (xs : List ℕ). OnOk c.place.result (c.place.new.env ≡ placed c.args.env.now (map Some c.args.bits.now) xs)) (c.as_slice.ensures.value ∙ c.in_ok-to.ensures.to) c.place.ensures
