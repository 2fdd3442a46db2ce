-- The lines of waveforms, some of which were put.
use Rattle.std.proofs.Common.{◌≡◌, ℕ, suc, ◌+◌, ◌≤◌, List, [], ◌∷◌, ◌++◌, length, drop, Some, append_assoc, append-nil, add-one, sym, ap, ◌∙◌}
use Rattle.std.specs.List.{slice_get}
use Rattle.std.proofs.Math.Seq.{drop-cons}
use Rattle.std.proofs.lemmas.List.{drop_all}
use Rattle.std.proofs.lemmas.Option.{slice_get_within, get_or_from_slice_get}
use Rattle.vs_job.specs.declared.job.Mode.{Mode}
use Rattle.vs_explanation.specs.Ended.{wave_line, waves_from}

rest_of : (lane : ℕ) (stimuli : List (List ℕ)) (x : List ℕ) → slice_get stimuli lane ≡ Some x → drop lane stimuli ≡ x ∷ drop (suc lane) stimuli
rest_of lane stimuli x at = drop-cons stimuli lane x (slice_get_within stimuli lane x at) ∙ ap (λ (y : List ℕ). y ∷ drop (suc lane) stimuli) (get_or_from_slice_get stimuli lane x x at)

-- the lines before those of a lane, its own, and those behind it
pub split_at : (mode : Mode) (before whole : List ℕ) (lane : ℕ) (stimuli : List (List ℕ)) (x : List ℕ) → slice_get stimuli lane ≡ Some x → before ++ waves_from mode lane (drop lane stimuli) ≡ whole
    → whole ≡ before ++ (wave_line mode lane x ++ waves_from mode (suc lane) (drop (suc lane) stimuli))
split_at mode before whole lane stimuli x at so_far = sym so_far ∙ ap (λ (ys : List (List ℕ)). before ++ waves_from mode lane ys) (rest_of lane stimuli x at)

-- one more line
pub one_more : (mode : Mode) (before whole : List ℕ) (lane : ℕ) (stimuli : List (List ℕ)) (x : List ℕ) → slice_get stimuli lane ≡ Some x → before ++ waves_from mode lane (drop lane stimuli) ≡ whole
    → (before ++ wave_line mode lane x) ++ waves_from mode (lane + 1) (drop (lane + 1) stimuli) ≡ whole
one_more mode before whole lane stimuli x at so_far =
    rw (add-one lane)
    (append_assoc before (wave_line mode lane x) (waves_from mode (suc lane) (drop (suc lane) stimuli)) ∙ sym (split_at mode before whole lane stimuli x at so_far))

-- and no line is left
pub none_left : (mode : Mode) (before whole : List ℕ) (lane : ℕ) (stimuli : List (List ℕ)) → length stimuli ≤ lane → before ++ waves_from mode lane (drop lane stimuli) ≡ whole → before ≡ whole
none_left mode before whole lane stimuli end so_far =
    sym (append-nil before) ∙ sym (ap (λ (ys : List (List ℕ)). before ++ waves_from mode lane ys) (drop_all lane stimuli end)) ∙ so_far
