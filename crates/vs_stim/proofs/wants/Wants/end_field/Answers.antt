use Rattle.std.proofs.Common.{◌≡◌, length, refl, sym, ap, ◌∙◌, subst, arith}
use Rattle.std.specs.Prelude.{slice_index}
use Rattle.vs_stim.specs.declared.wants.Part.{Part}
use Rattle.vs_stim.specs.Wanted.{wanted_sizes}
use Rattle.vs_stim.specs.Wants.{expected_lengths, IsPart}
use Rattle.vs_stim.proofs.Wanting.{length_at, wanted_sizes-set}
use Rattle.vs_stim.proofs.wants.Wants.end_field.Goals as goal

pub returns-then-len-length-clause-wants : goal.returns-then-len-length-clause-wants
returns-then-len-length-clause-wants c =
    let self = c.args.self.now in
    let n = self.column in
    let at = subst (λ (p : Part). IsPart p self.expected.items n self.digits) c.requires.part c.requires.wants.at in
    let here : slice_index (expected_lengths self.expected.items) n ≡ c.index.result.now.length = length_at self.expected.items n c.index.result.now _ c.index.ensures at.0 in
    let long : length c.wanted.result ≡ slice_index (wanted_sizes self.values.items) n =
    ap (λ ds. length ds) c.wanted.ensures ∙ sym c.len.ensures.count ∙ c.if-len-length.true ∙ sym here ∙ ap (λ lens. slice_index lens n) (sym c.requires.wants.sizes) in
    let within = at.0 in
    record {
      each = c.requires.wants.each;
      sizes = wanted_sizes-set self.values.items n c.wanted.result long ∙ c.requires.wants.sizes;
      at = omega (arith, within);
    }

pub returns-then-len-length-clause-form : goal.returns-then-len-length-clause-form
returns-then-len-length-clause-form c =
    let self = c.args.self.now in
    let n = self.column in
    let at = subst (λ (p : Part). IsPart p self.expected.items n self.digits) c.requires.part c.requires.wants.at in
    let here : slice_index (expected_lengths self.expected.items) n ≡ c.index.result.now.length = length_at self.expected.items n c.index.result.now _ c.index.ensures at.0 in
    let long : length c.wanted.result ≡ slice_index (wanted_sizes self.values.items) n =
    ap (λ ds. length ds) c.wanted.ensures ∙ sym c.len.ensures.count ∙ c.if-len-length.true ∙ sym here ∙ ap (λ lens. slice_index lens n) (sym c.requires.wants.sizes) in
    record { expected = refl; lengths = wanted_sizes-set self.values.items n c.wanted.result long }
