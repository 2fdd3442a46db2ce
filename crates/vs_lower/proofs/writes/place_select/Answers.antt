use Rattle.std.proofs.Common.{◌≡◌, ℕ, ◌+◌, ◌<◌, ◌∙◌, List, Option, map, sym, ap, subst, arith, length}
use Rattle.std.specs.Prelude.{OnOk, option_map}
use Rattle.vs_four.specs.Selects.{Part, places, range_length}
use Rattle.vs_design.specs.Bodies.{bits_at}
use Rattle.vs_design.specs.Expressions as E
use Rattle.vs_flat.specs.Trees.{signal_of}
use Rattle.vs_values.specs.Constants.{constant_bits}
use Rattle.vs_values.specs.Environments.{placed}
use Rattle.vs_lower.specs.Leaves.{named_number, named_signal}
use Rattle.vs_lower.proofs.Reaching.{within_is}
use Rattle.vs_lower.proofs.writes.place_select.Goals as goal

pub place_at-requires-clause-inside : goal.place_at-requires-clause-inside
place_at-requires-clause-inside c = λ k n e.
    let s = named_signal c.args.templates.now.arena c.args.signal in
    let low : n < range_length c.args.selection.range = c.places_of-places.ensures.inside k n e in
    let first : s.first ≡ c.declared.result.now.first_bit = ap (λ (x : E.Signal). x.first) c.declared.ensures.is in
    omega (arith, low, first, c.requires.of_range, within_is (length c.args.env.now) s c.requires.within)

pub place_at-requires-clause-few : goal.place_at-requires-clause-few
place_at-requires-clause-few c = λ k n e.
    let s = named_signal c.args.templates.now.arena c.args.signal in
    let low : n < range_length c.args.selection.range = c.places_of-places.ensures.inside k n e in
    let long : E.signal_length s ≡ E.signal_length (signal_of (named_number c.args.signal) c.declared.result.now) = ap E.signal_length c.declared.ensures.is in
    omega (arith, low, long, c.requires.of_range, c.declared.ensures.few)

pub returns : goal.returns
returns c =
    let signal = named_signal c.args.templates.now.arena c.args.signal in
    let part : Part = record { range = c.args.selection.range; up = c.args.selection.up; width = length c.args.value.now } in
    let are : map (λ p. option_map (λ n. c.declared.result.now.first_bit + n) p) c.places_of-places.result ≡ bits_at signal (places part c.args.selection.signed (constant_bits c.args.index.now)) =
    ap (λ (x : E.Signal). bits_at x c.places_of-places.result) (sym c.declared.ensures.is) ∙ ap (bits_at signal) (c.places_of-places.ensures.value ∙ ap (places part c.args.selection.signed) c.in_ok-bits.ensures) in
    subst (λ (ps : List (Option ℕ)). OnOk c.place_at.result (c.place_at.new.env ≡ placed c.args.env.now ps c.args.value.now)) are c.place_at.ensures
