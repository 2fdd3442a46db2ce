-- The places of a job, one by one.
use Rattle.std.proofs.Common.{◌≡◌, ◌≢◌, ◌⊎◌, inl, inr, ℕ, zero, suc, ◌+◌, ◌*◌, ◌<◌, ◌≤◌, Bool, true, false, cond, List, [], ◌∷◌, ◌++◌, map, length, get_or, take, drop, Option, None, Some, refl, sym, ap, ◌∙◌, subst, arith, add-one, append_assoc}
use Rattle.std.specs.List.{slice_get}
use Rattle.std.specs.Option.{option_map}
use Rattle.std.specs.Str.{bytes_eq}
use Rattle.std.proofs.lemmas.Bool.{both_ways, cond-true, cond-false}
use Rattle.std.proofs.lemmas.List.{length-append, length-map, get_or_append_left, get_or-append-add, take_more, drop_more, at_drop_all, append-nil}
use Rattle.std.proofs.lemmas.List.Quantifiers.{all_pairs_push}
use Rattle.std.proofs.lemmas.Option.{slice_get-map, slice_get_within, slice_get-get_or}
use Rattle.std.proofs.lemmas.Slice.Eq.{bytes_eq-Decides}
use Rattle.vs_desk.specs.Places.{design_place, stimulus_place, waveform_place, other_place}
use Rattle.vs_job.specs.declared.job.Job.{Job}
use Rattle.vs_job.specs.declared.job.Mode.{Mode}
use Rattle.vs_job.specs.declared.job.Mode.TheVariants.{Run, Check, Queue}
use Rattle.vs_job.specs.Places.{Place, place, vcd_path, queue_path, places_from, waveforms, places, place_with, pair_or, same_from, same_paths, PathsDiffer}
use Rattle.vs_job.specs.Paths.{ending}

length-places_from : (n : ℕ) (ps : List (List ℕ)) → length (places_from n ps) ≡ length ps
length-places_from n [] = refl
length-places_from n (p ∷ ps) = ap (λ k. suc k) (length-places_from (suc n) ps)

get_or-places_from : (n : ℕ) (ps : List (List ℕ)) (i : ℕ) (d : Place) (path : List ℕ) → slice_get ps i ≡ Some path → get_or (places_from n ps) i d ≡ place (n + i) path
get_or-places_from n [] i d path e = absurd (cc)
get_or-places_from n (p ∷ ps) zero d path e =
    let same : p ≡ path = cc in
    ap (λ (x : List ℕ). place n x) same ∙ ap (λ (k : ℕ). place k path) (omega arith)
get_or-places_from n (p ∷ ps) (suc i) d path e = get_or-places_from (suc n) ps i d path e ∙ ap (λ (k : ℕ). place k path) (omega arith)

length-by_mode : (j : Job) (mode : Mode) → j.mode ≡ mode → length (places j) ≡ 1 + (length j.stimuli + (length (waveforms mode j.stimuli) + length j.others))
unfolding places
length-by_mode j mode e =
    let waves = waveforms j.mode j.stimuli in
    let others = places_from (other_place 0) j.others in
    let a = length-append (places_from (stimulus_place 0) j.stimuli) (waves ++ others) in
    let b = length-append waves others in
    let c = length-places_from (stimulus_place 0) j.stimuli in
    let d = length-places_from (other_place 0) j.others in
    let f = ap (λ (m : Mode). length (waveforms m j.stimuli)) e in
    omega arith

-- how many places there are
pub length_places : (j : Job) → length (places j) ≡ 1 + (length j.stimuli + (length (waveforms j.mode j.stimuli) + length j.others))
length_places j = length-by_mode j j.mode refl

-- the path of a waveform where this is done with the lanes
abbrev with_ending : Mode → List ℕ → List ℕ
with_ending mode stimulus = stimulus ++ ending mode

-- a waveform for each lane
abbrev by_lane : Mode → List (List ℕ) → List Place
by_lane mode stimuli = places_from (waveform_place 0) (map (with_ending mode) stimuli)

length-by_lane : (mode : Mode) (stimuli : List (List ℕ)) → length (by_lane mode stimuli) ≡ length stimuli
length-by_lane mode stimuli = length-places_from (waveform_place 0) (map (with_ending mode) stimuli) ∙ length-map stimuli (with_ending mode)

waves_of : (j : Job) (mode : Mode) → j.mode ≡ mode → waveforms mode j.stimuli ≡ by_lane mode j.stimuli → waveforms j.mode j.stimuli ≡ by_lane j.mode j.stimuli
waves_of j mode e waves = rw e waves

-- where waveforms are written there is one for each lane
written : (j : Job) → (j.mode ≡ Run) ⊎ ((order : ℕ) × (j.mode ≡ Queue order)) → waveforms j.mode j.stimuli ≡ by_lane j.mode j.stimuli
written j (inl e) = waves_of j Run e refl
written j (inr e) = waves_of j (Queue e.0) e.1 refl

pub length-written : (j : Job) → (j.mode ≡ Run) ⊎ ((order : ℕ) × (j.mode ≡ Queue order)) → length (waveforms j.mode j.stimuli) ≡ length j.stimuli
length-written j h = ap (λ (ps : List Place). length ps) (written j h) ∙ length-by_lane j.mode j.stimuli

-- and a check has none
pub length-unwritten : (j : Job) → j.mode ≡ Check → length (waveforms j.mode j.stimuli) ≡ 0
length-unwritten j e = ap (λ (m : Mode). length (waveforms m j.stimuli)) e

pub few_waveforms : (j : Job) → length (waveforms j.mode j.stimuli) ≤ length j.stimuli
few_waveforms j = go j.mode refl
  where
    go : (mode : Mode) → j.mode ≡ mode → length (waveforms j.mode j.stimuli) ≤ length j.stimuli
    go Run e = let size = length-written j (inl e) in omega arith
    go (Queue order) e = let size = length-written j (inr (order, e)) in omega arith
    go Check e = let size = length-unwritten j e in omega arith

-- a run has a waveform for each lane
pub length-run : (j : Job) → j.mode ≡ Run → length (places j) ≡ 1 + 2 * length j.stimuli + length j.others
length-run j e = let all = length_places j in let waves = length-written j (inl e) in omega arith

-- and so has a run of the queue
pub length-queue : (j : Job) (order : ℕ) → j.mode ≡ Queue order → length (places j) ≡ 1 + 2 * length j.stimuli + length j.others
length-queue j order e = let all = length_places j in let waves = length-written j (inr (order, e)) in omega arith

pub length-check : (j : Job) → j.mode ≡ Check → length (places j) ≡ 1 + length j.stimuli + length j.others
length-check j e = let all = length_places j in let waves = length-unwritten j e in omega arith

-- where there is any waveform there is one for each lane
pub some_waveforms : (j : Job) → 0 < length (waveforms j.mode j.stimuli) → waveforms j.mode j.stimuli ≡ by_lane j.mode j.stimuli
some_waveforms j some = go j.mode refl
  where
    go : (mode : Mode) → j.mode ≡ mode → waveforms j.mode j.stimuli ≡ by_lane j.mode j.stimuli
    go Run e = written j (inl e)
    go (Queue order) e = written j (inr (order, e))
    go Check e = let size = length-unwritten j e in absurd (omega arith)

-- the design and the stimuli have places
pub stimuli_have_places : (j : Job) → 1 + length j.stimuli ≤ length (places j)
stimuli_have_places j = let a = length_places j in omega arith

pub place-design : (j : Job) (d : Place) → get_or (places j) 0 d ≡ place design_place j.design
unfolding places
place-design j d = refl

pub place-stimulus : (j : Job) (n i : ℕ) (d : Place) (path : List ℕ) → n ≡ i + 1 → slice_get j.stimuli i ≡ Some path → get_or (places j) n d ≡ place (stimulus_place i) path
unfolding places
place-stimulus j n i d path e is =
    let stimuli = places_from (stimulus_place 0) j.stimuli in
    let behind = waveforms j.mode j.stimuli ++ places_from (other_place 0) j.others in
    let within = slice_get_within j.stimuli i path is in
    let size = length-places_from (stimulus_place 0) j.stimuli in
    ap (λ (k : ℕ). get_or (places j) k d) (e ∙ add-one i) ∙ get_or_append_left stimuli behind d i (omega arith) ∙ get_or-places_from (stimulus_place 0) j.stimuli i d path is

pub place-waveform : (j : Job) (n i : ℕ) (d : Place) (path : List ℕ) → waveforms j.mode j.stimuli ≡ by_lane j.mode j.stimuli → n ≡ 1 + (length j.stimuli + i) → slice_get j.stimuli i ≡ Some path
    → get_or (places j) n d ≡ place (waveform_place i) (path ++ ending j.mode)
unfolding places
place-waveform j n i d path waves e is =
    let stimuli = places_from (stimulus_place 0) j.stimuli in
    let vcds = waveforms j.mode j.stimuli in
    let others = places_from (other_place 0) j.others in
    let size = length-places_from (stimulus_place 0) j.stimuli in
    let count : length vcds ≡ length j.stimuli = ap (λ (ps : List Place). length ps) waves ∙ length-by_lane j.mode j.stimuli in
    let within = slice_get_within j.stimuli i path is in
    let at_vcd : n ≡ suc (length stimuli + i) = omega arith in
    ap (λ (k : ℕ). get_or (places j) k d) at_vcd ∙ get_or-append-add stimuli (vcds ++ others) i d ∙ get_or_append_left vcds others d i (omega arith) ∙ ap (λ (ps : List Place). get_or ps i d) waves
    ∙ get_or-places_from (waveform_place 0) (map (with_ending j.mode) j.stimuli) i d (path ++ ending j.mode) (slice_get-map (with_ending j.mode) j.stimuli i ∙ ap (λ (o : Option (List ℕ)). option_map (with_ending j.mode) o) is)

pub place-other : (j : Job) (n i : ℕ) (d : Place) (path : List ℕ) → n ≡ 1 + (length j.stimuli + (length (waveforms j.mode j.stimuli) + i)) → slice_get j.others i ≡ Some path → get_or (places j) n d ≡ place (other_place i) path
unfolding places
place-other j n i d path e is =
    let stimuli = places_from (stimulus_place 0) j.stimuli in
    let vcds = waveforms j.mode j.stimuli in
    let others = places_from (other_place 0) j.others in
    let size = length-places_from (stimulus_place 0) j.stimuli in
    let at_other : n ≡ suc (length stimuli + (length vcds + i)) = omega arith in
    ap (λ (k : ℕ). get_or (places j) k d) at_other ∙ get_or-append-add stimuli (vcds ++ others) (length vcds + i) d ∙ get_or-append-add vcds others i d
    ∙ get_or-places_from (other_place 0) j.others i d path is

-- a first place that isn't taken
passed : (b : Bool) (n : ℕ) (o : Option ℕ) → cond b (Some n) o ≡ None → (b ≡ false) × (o ≡ None)
passed true n o e = absurd (cc)
passed false n o e = (refl, e)

-- the first of n places that has a path is the one before which none has it
place_with-found : (path : List ℕ) (ps : List Place) (i n : ℕ) (d : Place) → i < n → n ≤ length ps → place_with path (take i ps) ≡ None → bytes_eq (get_or ps i d).path path ≡ true → place_with path (take n ps) ≡ Some (get_or ps i d).number
place_with-found path [] i n d lt le none same = absurd (omega arith)
place_with-found path (p ∷ ps) i zero d lt le none same = absurd (omega arith)
place_with-found path (p ∷ ps) zero (suc n) d lt le none same = cond-true _ _ _ same
place_with-found path (p ∷ ps) (suc i) (suc n) d lt le none same =
    let first = passed (bytes_eq p.path path) p.number (place_with path (take i ps)) none in
    cond-false _ _ _ first.0 ∙ place_with-found path ps i n d (omega arith) (omega arith) first.1 same

place_with-push : (path : List ℕ) (ps : List Place) (q : Place) → place_with path ps ≡ None → bytes_eq q.path path ≡ false → place_with path (ps ++ q ∷ []) ≡ None
place_with-push path [] q none other = cond-false _ _ _ other
place_with-push path (p ∷ ps) q none other =
    let first = passed (bytes_eq p.path path) p.number (place_with path ps) none in
    cond-false _ _ _ first.0 ∙ place_with-push path ps q first.1 other

pub place_with-at : (path : List ℕ) (ps : List Place) (i n : ℕ) (q : Place) → i < n → n ≤ length ps → place_with path (take i ps) ≡ None → get_or ps i q ≡ q → bytes_eq q.path path ≡ true → place_with path (take n ps) ≡ Some q.number
place_with-at path ps i n q lt le none is same =
    place_with-found path ps i n q lt le none (ap (λ (x : Place). bytes_eq x.path path) is ∙ same) ∙ ap (λ (x : Place). Some x.number) is

pub place_with-more : (path : List ℕ) (ps : List Place) (i : ℕ) (q : Place) → i < length ps → place_with path (take i ps) ≡ None → get_or ps i q ≡ q → bytes_eq q.path path ≡ false → place_with path (take (i + 1) ps) ≡ None
place_with-more path ps i q lt none is other =
    ap (λ (xs : List Place). place_with path xs) (take_more ps i q lt ∙ ap (λ (x : Place). take i ps ++ x ∷ []) is) ∙ place_with-push path (take i ps) q none other

found_step : (earlier : List Place) (p : Place) (rest : List Place) (first : ℕ) → place_with p.path earlier ≡ Some first → same_from earlier (p ∷ rest) ≡ Some (first, p.number)
found_step earlier p rest first e = ap (λ (o : Option ℕ). pair_or o p.number (same_from (earlier ++ p ∷ []) rest)) e

more_step : (earlier : List Place) (p : Place) (rest : List Place) → place_with p.path earlier ≡ None → same_from earlier (p ∷ rest) ≡ same_from (earlier ++ p ∷ []) rest
more_step earlier p rest e = ap (λ (o : Option ℕ). pair_or o p.number (same_from (earlier ++ p ∷ []) rest)) e

split_at : (ps : List Place) (n : ℕ) (q : Place) → n < length ps → get_or ps n q ≡ q → same_from (take n ps) (drop n ps) ≡ same_from (take n ps) (q ∷ drop (n + 1) ps)
split_at ps n q lt is =
    ap (λ (xs : List Place). same_from (take n ps) xs) (drop_more ps n q lt ∙ ap (λ (x : Place). x ∷ drop (n + 1) ps) is)

pub same_from-found : (ps : List Place) (n : ℕ) (q : Place) (first : ℕ) → n < length ps → get_or ps n q ≡ q → place_with q.path (take n ps) ≡ Some first → same_from (take n ps) (drop n ps) ≡ Some (first, q.number)
same_from-found ps n q first lt is found = split_at ps n q lt is ∙ found_step (take n ps) q (drop (n + 1) ps) first found

pub same_from-more : (ps : List Place) (n : ℕ) (q : Place) → n < length ps → get_or ps n q ≡ q → place_with q.path (take n ps) ≡ None → same_from (take n ps) (drop n ps) ≡ same_from (take (n + 1) ps) (drop (n + 1) ps)
same_from-more ps n q lt is none =
    split_at ps n q lt is ∙ more_step (take n ps) q (drop (n + 1) ps) none ∙ ap (λ (xs : List Place). same_from xs (drop (n + 1) ps)) (sym (take_more ps n q lt ∙ ap (λ (x : Place). take n ps ++ x ∷ []) is))

pub same_from-end : (ps : List Place) (n : ℕ) → length ps ≤ n → same_from (take n ps) (drop n ps) ≡ None
same_from-end ps n le = at_drop_all (λ (xs : List Place). same_from (take n ps) xs) ps n le

other_paths : (path : List ℕ) (ps : List Place) → place_with path ps ≡ None → (k : ℕ) (d : Place) → k < length ps → (get_or ps k d).path ≢ path
other_paths path [] none k d lt e = absurd (omega arith)
other_paths path (p ∷ ps) none zero d lt e =
    both_ways _ (passed (bytes_eq p.path path) p.number (place_with path ps) none).0 ((bytes_eq-Decides p.path path).1 e)
other_paths path (p ∷ ps) none (suc k) d lt e =
    other_paths path ps (passed (bytes_eq p.path path) p.number (place_with path ps) none).1 k d (omega arith) e

step_none : (o : Option ℕ) (n : ℕ) (later : Option (ℕ × ℕ)) → pair_or o n later ≡ None → (o ≡ None) × (later ≡ None)
step_none None n later e = (refl, e)
step_none (Some first) n later e = absurd (cc)

differ_from : (earlier rest : List Place) → PathsDiffer earlier → same_from earlier rest ≡ None → PathsDiffer (earlier ++ rest)
differ_from earlier [] differ none = let P : List Place → Type 0 = λ ps. PathsDiffer ps in subst P (sym (append-nil earlier)) differ
differ_from earlier (p ∷ rest) differ none =
    let first = step_none (place_with p.path earlier) p.number (same_from (earlier ++ p ∷ []) rest) none in
    let P : List Place → Type 0 = λ ps. PathsDiffer ps in
    let pushed : PathsDiffer (earlier ++ p ∷ []) = all_pairs_push (λ (a b : Place). a.path ≢ b.path) earlier p differ (λ k d lt. other_paths p.path earlier first.0 k d lt) in
    subst P (append_assoc earlier (p ∷ []) rest) (differ_from (earlier ++ p ∷ []) rest pushed first.1)

-- where no two places have the same path, the paths differ
pub same_paths-none : (j : Job) → same_paths j ≡ None → PathsDiffer (places j)
unfolding same_paths
same_paths-none j none = differ_from [] (places j) (λ i k d lt le. absurd (omega arith)) none

pub slice_get-design : (j : Job) → slice_get (places j) 0 ≡ Some (place design_place j.design)
unfolding places
slice_get-design j = refl

pub slice_get-stimulus : (j : Job) (i : ℕ) (path : List ℕ) → slice_get j.stimuli i ≡ Some path → slice_get (places j) (1 + i) ≡ Some (place (stimulus_place i) path)
slice_get-stimulus j i path is =
    let size = stimuli_have_places j in
    let within = slice_get_within j.stimuli i path is in
    slice_get-get_or (places j) (1 + i) (place 0 []) (omega arith) ∙ ap (λ (p : Place). Some p) (place-stimulus j (1 + i) i (place 0 []) path (omega arith) is)

slice_get-waveform : (j : Job) (i : ℕ) (path : List ℕ) → waveforms j.mode j.stimuli ≡ by_lane j.mode j.stimuli → slice_get j.stimuli i ≡ Some path
    → slice_get (places j) (1 + length j.stimuli + i) ≡ Some (place (waveform_place i) (path ++ ending j.mode))
slice_get-waveform j i path waves is =
    let size = length_places j in
    let count : length (waveforms j.mode j.stimuli) ≡ length j.stimuli = ap (λ (ps : List Place). length ps) waves ∙ length-by_lane j.mode j.stimuli in
    let within = slice_get_within j.stimuli i path is in
    slice_get-get_or (places j) (1 + length j.stimuli + i) (place 0 []) (omega arith) ∙ ap (λ (p : Place). Some p) (place-waveform j (1 + length j.stimuli + i) i (place 0 []) path waves (omega arith) is)

pub slice_get-vcd : (j : Job) (i : ℕ) (path : List ℕ) → j.mode ≡ Run → slice_get j.stimuli i ≡ Some path → slice_get (places j) (1 + length j.stimuli + i) ≡ Some (place (waveform_place i) (vcd_path path))
slice_get-vcd j i path run is =
    slice_get-waveform j i path (written j (inl run)) is ∙ ap (λ (m : Mode). Some (place (waveform_place i) (path ++ ending m))) run

pub slice_get-queue : (j : Job) (order i : ℕ) (path : List ℕ) → j.mode ≡ Queue order → slice_get j.stimuli i ≡ Some path → slice_get (places j) (1 + length j.stimuli + i) ≡ Some (place (waveform_place i) (queue_path path))
slice_get-queue j order i path queue is =
    slice_get-waveform j i path (written j (inr (order, queue))) is ∙ ap (λ (m : Mode). Some (place (waveform_place i) (path ++ ending m))) queue

pub slice_get-other : (j : Job) (i : ℕ) (path : List ℕ) → slice_get j.others i ≡ Some path → slice_get (places j) (1 + length j.stimuli + length (waveforms j.mode j.stimuli) + i) ≡ Some (place (other_place i) path)
slice_get-other j i path is =
    let n = 1 + length j.stimuli + length (waveforms j.mode j.stimuli) + i in
    let size = length_places j in
    let within = slice_get_within j.others i path is in
    slice_get-get_or (places j) n (place 0 []) (omega arith) ∙ ap (λ (p : Place). Some p) (place-other j n i (place 0 []) path (omega arith) is)
