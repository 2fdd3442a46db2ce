-- Where a byte of a design's text lies, file by file.
use Rattle.std.proofs.Common.{◌≡◌, ℕ, ◌+◌, ◌-◌, ◌<◌, ◌≤◌, nat_le, min, List, [], ◌∷◌, length, get_or, drop, Option, None, Some, option_map, refl, sym, ap, ◌∙◌, inl, inr, ◌⊎◌, arith}
use Rattle.std.specs.List.{slice_get}
use Rattle.std.proofs.lemmas.Bool.{cases_lt, cond-true, cond-false, le-leb, false_from_ne_true, leb-true}
use Rattle.std.proofs.lemmas.List.{drop_more, at_drop_all}
use Rattle.std.proofs.lemmas.Option.{get_or_from_slice_get, slice_get_within}
use Rattle.vs_explanation.specs.Files.{FilePlace, between, place_from}

-- the next file begins at or before the byte
pub next_file : (path : List ℕ) (from at : ℕ) (text : Option (List ℕ)) (starts : List ℕ) (paths : List (List ℕ)) (n next : ℕ) (other : List ℕ) → n < length starts → get_or starts n 0 ≡ next
    → slice_get paths n ≡ Some other → next ≤ at → place_from path from text (drop n starts) (drop n paths) at ≡ place_from other next text (drop (n + 1) starts) (drop (n + 1) paths) at
next_file path from at text starts paths n next other lt is there le =
    let within = slice_get_within paths n other there in
    let here = get_or_from_slice_get paths n other [] there in
    ap (λ (ns : List ℕ). place_from path from text ns (drop n paths) at) (drop_more starts n 0 lt ∙ ap (λ (s : ℕ). s ∷ drop (n + 1) starts) is)
    ∙ ap (λ (ps : List (List ℕ)). place_from path from text (next ∷ drop (n + 1) starts) ps at) (drop_more paths n [] within ∙ ap (λ (p : List ℕ). p ∷ drop (n + 1) paths) here)
    ∙ cond-true (nat_le next at) _ _ (le-leb next at le)

-- it begins behind the byte
pub this_file : (path : List ℕ) (from at : ℕ) (text : Option (List ℕ)) (starts : List ℕ) (paths : List (List ℕ)) (n next : ℕ) → n < length starts → n < length paths → get_or starts n 0 ≡ next
    → at < next → place_from path from text (drop n starts) (drop n paths) at ≡ record { path = path; file = option_map (between from (next - 1)) text; at = at - from }
this_file path from at text starts paths n next lt within is below =
    ap (λ (ns : List ℕ). place_from path from text ns (drop n paths) at) (drop_more starts n 0 lt ∙ ap (λ (s : ℕ). s ∷ drop (n + 1) starts) is)
    ∙ ap (λ (ps : List (List ℕ)). place_from path from text (next ∷ drop (n + 1) starts) ps at) (drop_more paths n [] within)
    ∙ cond-false (nat_le next at) _ _ (false_from_ne_true (nat_le next at) (λ e. let le = leb-true next at e in absurd (omega arith)))

no_paths : (path : List ℕ) (from at : ℕ) (text : Option (List ℕ)) (starts : List ℕ) → place_from path from text starts [] at ≡ record { path = path; file = option_map (drop from) text; at = at - from }
no_paths path from at text [] = refl
no_paths path from at text (next ∷ starts) = refl

-- there is no further file
pub last_file : (path : List ℕ) (from at : ℕ) (text : Option (List ℕ)) (starts : List ℕ) (paths : List (List ℕ)) (n : ℕ) → (length starts ≤ n) ⊎ (length paths ≤ n)
    → place_from path from text (drop n starts) (drop n paths) at ≡ record { path = path; file = option_map (drop from) text; at = at - from }
last_file path from at text starts paths n (inl le) =
    at_drop_all (λ (ns : List ℕ). place_from path from text ns (drop n paths) at) starts n le
last_file path from at text starts paths n (inr le) =
    at_drop_all (λ (ps : List (List ℕ)). place_from path from text (drop n starts) ps at) paths n le ∙ no_paths path from at text (drop n starts)

-- the loop over both lists is at the end of one of them
pub one_ends : (a b n : ℕ) → min a b ≤ n → (a ≤ n) ⊎ (b ≤ n)
one_ends a b n h = elim (cases_lt n a) [ inl lt ↦ inr (omega arith) | inr le ↦ inl le ]

pub same_place : (path : List ℕ) (file other : Option (List ℕ)) (at also : ℕ) → file ≡ other → at ≡ also
    → ◌≡◌ {A = FilePlace} (record { path = path; file = file; at = at }) (record { path = path; file = other; at = also })
same_place path file other at also e a = rw (e, a) refl
