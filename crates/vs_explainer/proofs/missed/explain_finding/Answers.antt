use Rattle.std.proofs.Common.{◌≡◌, ◌⊎◌, ℕ, List, Option, option_map, ◌∙◌, subst}
use Rattle.vs_explanation.specs.Missed.{lent, no_spot, spot_in}
use Rattle.vs_explanation.specs.Subjects.{stimulus_path}
use Rattle.vs_misses.specs.Texts.{wanted_text, bits_text}
use Rattle.vs_explainer.specs.Missed.{SeesLane}
use Rattle.vs_explainer.proofs.Founds.{found_told, same_miss}
use Rattle.vs_explainer.proofs.missed.explain_finding.Goals as goal

pub returns : goal.returns
returns g c =
    let job = c.args.job.now in
    let lane = c.args.lane in
    let f = c.args.finding.now in
    let old = g.D.Desk.told c.args.desk.now in
    let middle = g.D.Desk.told c.read_row-text.new.desk in
    let new = g.D.Desk.told c.put_miss.new.desk in
    let seen : Option (List ℕ) = option_map (λ t. t.items) c.read_row-text.result in
    let spot = lent c.spot_seen-spot.result in
    found_told job lane f old middle new c.put_miss.result seen spot
    (subst (λ (n : ℕ). SeesLane job lane n old middle seen) c.line.ensures c.read_row-text.ensures)
    (subst (λ (n : ℕ). (spot ≡ spot_in seen f.line n) ⊎ (spot ≡ no_spot)) c.output.ensures
    (subst (λ (n : ℕ). (spot ≡ spot_in seen n c.output.result) ⊎ (spot ≡ no_spot)) c.line-2.ensures c.spot_seen-spot.ensures))
    (same_miss middle new (stimulus_path job lane) spot c.line-2.result f.line c.output.result f.miss.output c.as_slice.result.now (wanted_text f.miss.wanted) c.as_slice-2.result.now (bits_text f.miss.got)
    c.put_miss.result c.line-2.ensures c.output.ensures (c.as_slice.ensures ∙ c.wanted-wanted.ensures) (c.as_slice-2.ensures ∙ c.got-got.ensures) c.put_miss.ensures)
