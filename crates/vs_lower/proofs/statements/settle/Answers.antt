use Rattle.std.proofs.Common.{◌≡◌, ◌∙◌, ◌++◌, ◌<◌, ℕ, List, [], map, slice_index, Some, true, sym, ap, subst, length}
use Rattle.std.specs.List.{All}
use Rattle.std.proofs.lemmas.List.{length-map}
use Rattle.vs_design.specs.Fits.{fits_statement}
use Rattle.vs_design.specs.Footprints.{contains}
use Rattle.vs_design.specs.Races.{blocking_bits}
use Rattle.vs_flat.specs.Arena.{Arena}
use Rattle.vs_shape.specs.Bodies.{body_of}
use Rattle.vs_values.specs.Environments.{placed}
use Rattle.vs_lower.proofs.Homeward.{all_in}
use Rattle.vs_lower.proofs.statements.settle.Goals as goal

pub push_statement-requires-clause-fits : goal.push_statement-requires-clause-fits
push_statement-requires-clause-fits c = subst (λ (a : Arena). fits_statement (body_of a c.args.s) ≡ true) (sym c.shapes.ensures) c.requires.fits

-- what is gathered are the bits that it writes at once
gathered : (a b : Arena) (s : ℕ) (old new : List ℕ) → new ≡ old ++ blocking_bits (body_of a s) → old ≡ [] → a ≡ b → new ≡ blocking_bits (body_of b s)
gathered a b s old new e none same = e ∙ ap (λ (xs : List ℕ). xs ++ blocking_bits (body_of a s)) none ∙ ap (λ (x : Arena). blocking_bits (body_of x s)) same

pub picked-requires : goal.picked-requires
picked-requires c =
    let is = c.as_slice.ensures.value ∙ gathered c.shapes.result.now c.args.templates.now.arena c.args.s c.new-bits.result.items c.push_statement.new.out.items c.in_ok-push_statement.ensures c.new-bits.ensures.items c.shapes.ensures in
    let n = length c.args.env.now.values in
    subst (All (λ b. b < n)) (sym is) (all_in n (blocking_bits (body_of c.args.templates.now.arena c.args.s)) c.requires.values)

pub place-requires-clause-inside : goal.place-requires-clause-inside
place-requires-clause-inside c =
    let is = c.as_slice-2.ensures.value ∙ gathered c.shapes.result.now c.args.templates.now.arena c.args.s c.new-bits.result.items c.push_statement.new.out.items c.in_ok-push_statement.ensures c.new-bits.ensures.items c.shapes.ensures in
    let n = length c.args.env.now.ahead in
    subst (All (λ b. b < n)) (sym is) (all_in n (blocking_bits (body_of c.args.templates.now.arena c.args.s)) c.requires.ahead)

pub place-requires-clause-alike : goal.place-requires-clause-alike
place-requires-clause-alike c =
    ap (λ (xs : List ℕ). length xs) (c.as_slice-2.ensures.value ∙ sym c.as_slice.ensures.value)
    ∙ sym (length-map c.as_slice.result.now (slice_index c.args.env.now.values)) ∙ ap (λ (xs : List ℕ). length xs) (sym (c.as_slice-3.ensures.value ∙ c.in_ok-slots.ensures))

pub returns : goal.returns
returns c =
    let is = gathered c.shapes.result.now c.args.templates.now.arena c.args.s c.new-bits.result.items c.push_statement.new.out.items c.in_ok-push_statement.ensures c.new-bits.ensures.items c.shapes.ensures in
    let bits = c.push_statement.new.out.items in
    record {
      bits = bits;
      same = λ b. ap (λ (xs : List ℕ). contains xs b) is;
      are = c.in_ok-place.ensures
          ∙ ap (λ (xs : List ℕ). placed c.args.env.now.ahead (map Some xs) c.as_slice-3.result.now) c.as_slice-2.ensures.value
          ∙ ap (λ (xs : List ℕ). placed c.args.env.now.ahead (map Some bits) xs) (c.as_slice-3.ensures.value ∙ c.in_ok-slots.ensures ∙ ap (map (slice_index c.args.env.now.values)) c.as_slice.ensures.value);
    }
