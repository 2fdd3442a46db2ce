-- What is missed where one vector more was run.
use Rattle.std.proofs.Common.{◌≡◌, ◌*◌, ◌+◌, ◌∙◌, ℕ, suc, List, [], ◌∷◌, ◌++◌, length, ap, refl, arith, None, Some, Option}
use Rattle.vs_net.specs.Network.{State}
use Rattle.vs_program.specs.declared.compiled.Span.{Span}
use Rattle.vs_stim.specs.declared.input.Expected.{Expected}
use Rattle.vs_stim.specs.declared.wanted.Digit.{Digit}
use Rattle.vs_stim.specs.Numbers.{line_of_vector}
use Rattle.vs_misses.specs.Missed.{Miss, Found, first_miss, on_line, found_behind}
use Rattle.vs_rounds.specs.Missed.{Missed, at_vector, missed_from, told_of}

-- what was missed before counts
abbrev or_later : Option Missed → Option Missed → Option Missed
or_later None later = later
or_later (Some m) later = Some m

at_before : (k : ℕ) (m : Option Miss) (a b : Option Missed) → at_vector k m (or_later a b) ≡ or_later (at_vector k m a) b
at_before k None a b = refl
at_before k (Some m) a b = refl

-- The first miss of one vector more is that of the vectors before it, or else what is missed when the clock is low with it.
pub missed_push : (spans : List Span) (es : List Expected) (k : ℕ) (ws : List (List (List Digit))) (w : List (List Digit)) (ends : List State) (s t : State) → length ends ≡ 2 * length ws
    → missed_from spans es k (ws ++ w ∷ []) (ends ++ s ∷ t ∷ []) ≡ or_later (missed_from spans es k ws ends) (at_vector (k + length ws) (first_miss spans s 0 es w) None)
missed_push spans es k [] w [] s t long = ap (λ (n : ℕ). at_vector n (first_miss spans s 0 es w) None) (omega arith)
missed_push spans es k [] w (x ∷ ends) s t long = absurd (omega arith)
missed_push spans es k (v ∷ ws) w [] s t long = absurd (omega arith)
missed_push spans es k (v ∷ ws) w (x ∷ []) s t long = absurd (omega arith)
missed_push spans es k (v ∷ ws) w (x ∷ y ∷ ends) s t long =
    let here = first_miss spans x 0 es v in
    let before = missed_from spans es (k + 1) ws ends in
    let next : k + 1 + length ws ≡ k + suc (length ws) = omega arith in
    ap (at_vector k here) (missed_push spans es (k + 1) ws w ends s t (omega arith))
    ∙ at_before k here before (at_vector (k + 1 + length ws) (first_miss spans s 0 es w) None)
    ∙ ap (λ (n : ℕ). or_later (at_vector k here before) (at_vector n (first_miss spans s 0 es w) None)) next

told_later : (text : List ℕ) (a b : Option Missed) → told_of text (or_later a b) ≡ found_behind (told_of text a) (told_of text b)
told_later text None b = refl
told_later text (Some m) b = refl

told_at : (text : List ℕ) (k : ℕ) (m : Option Miss) → told_of text (at_vector k m None) ≡ on_line (line_of_vector text k) m
told_at text k None = refl
told_at text k (Some m) = refl

-- as it is told
pub told_push : (text : List ℕ) (spans : List Span) (es : List Expected) (ws : List (List (List Digit))) (w : List (List Digit)) (ends : List State) (s t : State) → length ends ≡ 2 * length ws
    → told_of text (missed_from spans es 0 (ws ++ w ∷ []) (ends ++ s ∷ t ∷ [])) ≡ found_behind (told_of text (missed_from spans es 0 ws ends)) (on_line (line_of_vector text (length ws)) (first_miss spans s 0 es w))
told_push text spans es ws w ends s t long =
    let now = first_miss spans s 0 es w in
    let before = missed_from spans es 0 ws ends in
    let count : 0 + length ws ≡ length ws = omega arith in
    ap (told_of text) (missed_push spans es 0 ws w ends s t long)
    ∙ told_later text before (at_vector (0 + length ws) now None)
    ∙ ap (found_behind (told_of text before)) (told_at text (0 + length ws) now)
    ∙ ap (λ (n : ℕ). found_behind (told_of text before) (on_line (line_of_vector text n) now)) count

pub nothing_found : (found : Option Found) → found ≡ found_behind found None
nothing_found None = refl
nothing_found (Some f) = refl
