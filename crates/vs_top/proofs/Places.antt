-- Places that are attached one behind the other.
use Rattle.std.proofs.Common.{◌≡◌, ℕ, ◌+◌, ◌<◌, ◌≤◌, true, List, length, Option, IsSomeAnd, IsNone, refl, sym, ap, ◌∙◌, subst, inl, inr, arith}
use Rattle.std.proofs.lemmas.Bool.{cases_lt, both_ways, ne_eqb, cond-false}
use Rattle.std.proofs.lemmas.List.{get_or_past}
use Rattle.vs_desk.specs.declared.desk.Way.{Way}
use Rattle.vs_desk.specs.declared.desk.Way.TheVariants.{Read, Write}
use Rattle.vs_desk.specs.Desk.{Attachment, Register, IsAttached, with_place}
use Rattle.vs_desk.specs.Laws.{OtherPlacesStay, EachPlaceIsAttached}
use Rattle.vs_desk.specs.Places.{most_lanes, with_places, design_place, other_place, waveform_place, stimulus_place}
use Rattle.vs_stim.specs.Known.{Known}
use Rattle.vs_feed.specs.Lanes.{lane_at, ended, AreLanes, AreAttached}
use Rattle.vs_waves.specs.Puts.{wave_place}
use Rattle.vs_waves.specs.Attached.{AreFree}
use Rattle.vs_job.specs.declared.job.Job.{Job}
use Rattle.vs_setup.specs.Places.{with_texts}
use Rattle.vs_setup.specs.DesignText.{with_design}

-- each of the places is attached
pub with_places-at : EachPlaceIsAttached → (r : Register) (first : ℕ) (way : Way) (paths : List (List ℕ)) (i : ℕ) → i < length paths → IsAttached (with_places r first way paths) (first + i) way
with_places-at law r first way paths i lt =
    let P : Option Attachment → Type 0 = λ o. IsSomeAnd o (λ a. a.way ≡ way) in
    subst P (sym (law r first way paths i lt)) refl

-- only a lane that is there is live
live_within : (ks : List Known) (i : ℕ) → (lane_at ks i).live ≡ true → i < length ks
live_within ks i live =
    elim (cases_lt i (length ks)) [
      | inl lt ↦ lt
      | inr le ↦ absurd (both_ways (lane_at ks i).live (ap (λ (k : Known). k.live) (get_or_past ks i ended le)) live)
    ]

-- the stimuli's places stay attached where those of the waveforms are attached too
pub still_attached : OtherPlacesStay → (r : Register) (paths : List (List ℕ)) (ks : List Known) → AreLanes ks → AreAttached r ks → AreAttached (with_places r (waveform_place 0) Write paths) ks
still_attached law r paths ks lanes attached = record {
  each = λ i live.
      let within = live_within ks i live in
      let few = lanes.few in
      let P : Option Attachment → Type 0 = λ o. IsSomeAnd o (λ a. a.way ≡ Read) in
      subst P (sym (law r (waveform_place 0) Write paths (stimulus_place i) (inl (omega arith)))) (attached.each i live);
}

-- the waveforms' places stay free where those of the texts are attached
pub still_free : OtherPlacesStay → (r : Register) (job : Job) (i : ℕ) → length job.stimuli ≤ most_lanes → AreFree r (length job.stimuli) → i < length job.stimuli → IsNone ((with_texts r job job.stimuli).attached (wave_place i))
still_free law r job i few free h =
    let P : Option Attachment → Type 0 = λ o. IsNone o in
    let first = with_place r design_place Read job.design in
    subst P
    (sym (law (with_design r job.design job.others) (stimulus_place 0) Read job.stimuli (wave_place i) (inr (omega arith)) ∙ law first (other_place 0) Read job.others (wave_place i) (inl (omega arith))
    ∙ cond-false _ _ _ (ne_eqb (wave_place i) design_place (λ e. omega arith))))
    (free i h)
