use Rattle.std.proofs.Common.{◌≡◌, Some, None, map, option_map, sym, ◌∙◌, subst}
use Rattle.vs_flat.specs.Arena.{Arena}
use Rattle.vs_flat.specs.DesignOf.{design_of}
use Rattle.vs_flat.specs.Lawful.{IsLawful}
use Rattle.vs_typed.specs.Refused.{first_refused}
use Rattle.vs_typed.specs.Weights.{told_weight}
use Rattle.vs_names.specs.Drawn.{byte_of}
use Rattle.vs_explanation.specs.Heavy.{heaviest_of as heaviest_in}
use Rattle.vs_explainer.specs.Heavy.{unless_refused}
use Rattle.vs_explainer.proofs.Sights.{on_ok}
use Rattle.vs_explainer.proofs.Weighed.{found_is, none_found, same_length, heaviest_is}
use Rattle.vs_explainer.proofs.heavy.weigh.Goals as goal

pub heaviest_of-requires : goal.heaviest_of-requires
heaviest_of-requires c =
    let d = c.args.drawing in
    let ps = (design_of d.flat).processes in
    let ws = c.in-Some.weights.items in
    let got = subst (λ o. option_map (λ v. v.items) o ≡ unless_refused (first_refused (design_of c.into_flat.result)) (map told_weight (design_of c.into_flat.result).processes)) c.in-Some.is c.in_ok-weights_of.ensures in
    let found = found_is (first_refused (design_of d.flat)) ws (map told_weight ps) (subst (λ (a : Arena). Some ws ≡ unless_refused (first_refused (design_of a)) (map told_weight (design_of a).processes)) c.into_flat.ensures got) in
    same_length (byte_of d) told_weight ps c.as_slice.result.now c.as_slice-in-Some.result.now (c.as_slice.ensures.value ∙ c.in_ok-bytes.ensures) (c.as_slice-in-Some.ensures.value ∙ found.1)

pub returns : goal.returns
returns c =
    let d = c.args.drawing in
    let ps = (design_of d.flat).processes in
    let ws = c.in-Some.weights.items in
    let got = subst (λ o. option_map (λ v. v.items) o ≡ unless_refused (first_refused (design_of c.into_flat.result)) (map told_weight (design_of c.into_flat.result).processes)) c.in-Some.is c.in_ok-weights_of.ensures in
    let found = found_is (first_refused (design_of d.flat)) ws (map told_weight ps) (subst (λ (a : Arena). Some ws ≡ unless_refused (first_refused (design_of a)) (map told_weight (design_of a).processes)) c.into_flat.ensures got) in
    on_ok _ _ c.heaviest_of.result c.heaviest_of.ensures
    (λ o h. h ∙ heaviest_is d c.as_slice.result.now c.as_slice-in-Some.result.now (c.as_slice.ensures.value ∙ c.in_ok-bytes.ensures) (c.as_slice-in-Some.ensures.value ∙ found.1) found.0)

pub returns-in-None : goal.returns-in-None
returns-in-None c =
    let d = c.args.drawing in
    let got = subst (λ o. option_map (λ v. v.items) o ≡ unless_refused (first_refused (design_of c.into_flat.result)) (map told_weight (design_of c.into_flat.result).processes)) c.in-None.is c.in_ok-weights_of.ensures in
    none_found (first_refused (design_of d.flat)) (map told_weight (design_of d.flat).processes) (heaviest_in d)
    (subst (λ (a : Arena). None ≡ unless_refused (first_refused (design_of a)) (map told_weight (design_of a).processes)) c.into_flat.ensures got)

pub weights_of-requires : goal.weights_of-requires
weights_of-requires c = subst IsLawful (sym c.into_flat.ensures) c.requires
