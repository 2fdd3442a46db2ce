-- The job of a line whose words are known.
use Rattle.std.proofs.Common.{◌≡◌, ℕ, ◌≤◌, nat_le, Bool, true, ◌&&◌, List, length, Option, Some, refl, sym, ap, ◌∙◌}
use Rattle.std.proofs.lemmas.Bool.{and_from, le-leb}
use Rattle.vs_desk.specs.Places.{most_others}
use Rattle.vs_job.specs.declared.job.Job.{Job}
use Rattle.vs_job.specs.declared.job.Mode.{Mode}
use Rattle.vs_job.specs.Job.{Text, Paths, mode_given, half_given, most_defines, are_defines, head_of, most_stimuli, design_and_stimuli, share_given, names_given, called}
use Rattle.vs_job.specs.Lines.{Line, values, shares, said_of}
use Rattle.vs_job.proofs.Once.{at_most_once_values}

known : (l : Line) (mode : Mode) (half : ℕ) (paths : Paths) (share : Bool) → mode_given l.verb (values l.order) ≡ Some mode → half_given (values l.half) ≡ Some half
    → (nat_le (length l.defines) most_defines && are_defines l.defines) ≡ true → nat_le (length l.withs) most_others ≡ true → design_and_stimuli (most_stimuli mode) l.paths ≡ Some paths
    → share_given mode (shares l.share) ≡ Some share
    → called l.verb (said_of l)
    ≡ Some (record { mode = mode; top = l.top; clocks = names_given l.clock; half = half; share = share; head = head_of l.defines; design = paths.design; others = l.withs; stimuli = paths.stimuli })
known l mode half paths share a b d w p s = rw (a, at_most_once_values l.top, at_most_once_values l.clock, b, d, w, p, s) refl

-- where macros, further files and paths are lists that equal the line's
pub called_with : (l : Line) (mode : Mode) (half : ℕ) (paths : Paths) (share : Bool) (defines others words : List Text) (most : ℕ) → Some mode ≡ mode_given l.verb (values l.order) → Some half ≡ half_given (values l.half)
    → defines ≡ l.defines → length defines ≤ most_defines → are_defines defines ≡ true → others ≡ l.withs → length others ≤ most_others → most ≡ most_stimuli mode → words ≡ l.paths
    → Some paths ≡ design_and_stimuli most words → Some share ≡ share_given mode (shares l.share)
    → ◌≡◌ {A = Option Job} (Some (record { mode = mode; top = l.top; clocks = names_given l.clock; half = half; share = share; head = head_of defines; design = paths.design; others = others; stimuli = paths.stimuli })) (called l.verb (said_of l))
called_with l mode half paths share defines others words most a b same few are same_others together limit alike p s =
    let all : (nat_le (length l.defines) most_defines && are_defines l.defines) ≡ true =
    ap (λ (ds : List Text). nat_le (length ds) most_defines && are_defines ds) (sym same) ∙ and_from _ _ (le-leb _ _ few) are in
    let given : nat_le (length l.withs) most_others ≡ true = ap (λ (ws : List Text). nat_le (length ws) most_others) (sym same_others) ∙ le-leb _ _ together in
    let found : design_and_stimuli (most_stimuli mode) l.paths ≡ Some paths =
    ap (design_and_stimuli (most_stimuli mode)) (sym alike) ∙ ap (λ (n : ℕ). design_and_stimuli n words) (sym limit) ∙ sym p in
    ap (λ (ds : List Text). Some (let j : Job = record { mode = mode; top = l.top; clocks = names_given l.clock; half = half; share = share; head = head_of ds; design = paths.design; others = others; stimuli = paths.stimuli } in j)) same
    ∙ ap (λ (ws : List Text). Some (let j : Job = record { mode = mode; top = l.top; clocks = names_given l.clock; half = half; share = share; head = head_of l.defines; design = paths.design; others = ws; stimuli = paths.stimuli } in j)) same_others
    ∙ sym (known l mode half paths share (sym a) (sym b) all given found (sym s))
