-- The ranges that every job keeps.
use Rattle.std.proofs.Common.{◌≡◌, ℕ, ◌≤◌, nat_le, eqb, not, ◌&&◌, List, [], ◌∷◌, length, get_or, Some, None, subst, arith}
use Rattle.std.specs.List.{list_all}
use Rattle.std.specs.Str.{all_ascii_digits}
use Rattle.std.specs.Str.Parse.{digits_value}
use Rattle.std.proofs.lemmas.Bool.{and_parts, leb-true}
use Rattle.std.proofs.lemmas.Option.{cond_some, option_and_then_some, same_Some}
use Rattle.vs_desk.specs.Places.{most_lanes, most_others}
use Rattle.vs_job.specs.declared.job.Job.{Job}
use Rattle.vs_job.specs.declared.job.Mode.{Mode}
use Rattle.vs_job.specs.declared.job.Mode.TheVariants.{Run, Check, Queue}
use Rattle.vs_job.specs.Job.{Text, verb_and_words, said, is_count, count_value, at_most_once, half_given, mode_given, most_defines, most_head, are_defines, is_define, head_of, head_given, others_given, Paths, most_stimuli, design_and_stimuli, share_given, job, IsJob, most_half}

pub record IsCount (most n : ℕ) : Type 0 where
  pub from : 1 ≤ n
  pub to : n ≤ most

pub count_value-range : (most : ℕ) (ds : List ℕ) (n : ℕ) → count_value most ds ≡ Some n → IsCount most n
count_value-range most ds n e =
    let h = cond_some (is_count most ds) (digits_value 10 ds) n e in
    let first = and_parts (not (eqb (get_or ds 0 0) 48)) _ (and_parts (all_ascii_digits ds) _ h.0).1 in
    let range = and_parts (nat_le 1 (digits_value 10 ds)) _ first.1 in
    let low = leb-true 1 (digits_value 10 ds) range.0 in
    let high = leb-true (digits_value 10 ds) most range.1 in
    let same : digits_value 10 ds ≡ n = h.1 in
    record { from = omega arith; to = omega arith }

half_given-range : (digits : List Text) (n : ℕ) → half_given digits ≡ Some n → IsCount most_half n
half_given-range [] n e =
    let value : 5 ≡ n = cc in
    record { from = omega arith; to = omega arith }
half_given-range (digits ∷ []) n e = count_value-range most_half digits n e
half_given-range (digits ∷ more ∷ rest) n e = absurd (cc)

head_given-short : (values : List Text) (head : Text) → head_given values ≡ Some head → length head ≤ most_head
head_given-short values head e =
    let h = cond_some (nat_le (length values) most_defines && are_defines values) (head_of values) head e in
    let are = and_parts (nat_le (length values) most_defines) _ h.0 in
    let short = leb-true (length (head_of values)) most_head (and_parts (list_all is_define values) _ are.1).1 in
    subst (λ (t : Text). length t ≤ most_head) h.1 short

others_given-few : (values others : List Text) → others_given values ≡ Some others → length others ≤ most_others
others_given-few values others e =
    let h = cond_some (nat_le (length values) most_others) values others e in
    subst (λ (ws : List Text). length ws ≤ most_others) h.1 (leb-true (length values) most_others h.0)

pub record IsFew (most : ℕ) (stimuli : List Text) : Type 0 where
  pub some : 1 ≤ length stimuli
  pub few : length stimuli ≤ most

design_and_stimuli-range : (most : ℕ) (paths : List Text) (r : Paths) → design_and_stimuli most paths ≡ Some r → IsFew most r.stimuli
design_and_stimuli-range most [] r e = absurd (cc)
design_and_stimuli-range most (design ∷ stimuli) r e =
    let h = cond_some (nat_le 1 (length stimuli) && nat_le (length stimuli) most) (record { design = design; stimuli = stimuli }) r e in
    let range = and_parts (nat_le 1 (length stimuli)) _ h.0 in
    let low = leb-true 1 (length stimuli) range.0 in
    let high = leb-true (length stimuli) most range.1 in
    let P : Paths → Type 0 = λ x. IsFew most x.stimuli in
    subst P h.1 (record { some = low; few = high })

few_lanes : (mode : Mode) (stimuli : List Text) → IsFew (most_stimuli mode) stimuli → length stimuli ≤ most_lanes
few_lanes Run stimuli few = few.few
few_lanes Check stimuli few = few.few
few_lanes (Queue order) stimuli few = omega arith

lone_lane : (mode : Mode) (stimuli : List Text) → IsFew (most_stimuli mode) stimuli → (order : ℕ) → mode ≡ Queue order → length stimuli ≡ 1
lone_lane Run stimuli few order e = absurd (cc)
lone_lane Check stimuli few order e = absurd (cc)
lone_lane (Queue number) stimuli few order e = omega arith

pub IsJob-job : (words : List Text) (j : Job) → job words ≡ Some j → IsJob j
unfolding job
IsJob-job words j e =
    option_and_then_some _ (verb_and_words words) j e (λ command _ e1.
    option_and_then_some _ (said None command.1) j e1 (λ s _ e2.
    option_and_then_some _ (mode_given command.0 s.orders) j e2 (λ mode _ e2'.
    option_and_then_some _ (at_most_once s.tops) j e2' (λ top _ e3.
    option_and_then_some _ (at_most_once s.clocks) j e3 (λ clock _ e4.
    option_and_then_some _ (half_given s.halves) j e4 (λ half is_half e5.
    option_and_then_some _ (head_given s.defines) j e5 (λ head is_head e6.
    option_and_then_some _ (others_given s.withs) j e6 (λ others are_others e6'.
    option_and_then_some _ (design_and_stimuli (most_stimuli mode) s.paths) j e6' (λ paths are_paths e7.
    option_and_then_some _ (share_given mode s.shares) j e7 (λ share _ e8.
    let range = half_given-range s.halves half is_half in
    let few = design_and_stimuli-range (most_stimuli mode) s.paths paths are_paths in
    let P : Job → Type 0 = λ x. IsJob x in
    subst P (same_Some _ j e8) (record { half_from = range.from; half_to = range.to; short = head_given-short s.defines head is_head; together = others_given-few s.withs others are_others; some = few.some; few = few_lanes mode paths.stimuli few; lone = lone_lane mode paths.stimuli few })))))))))))
