-- The first lines of a text, and what was taken of a file to have them.
use Rattle.std.proofs.Common.{◌≡◌, ℕ, zero, suc, ◌+◌, ◌-◌, ◌≤◌, ◌<◌, Bool, true, false, IsTrue, cond, List, [], ◌∷◌, ◌++◌, length, take, drop, get_or, append_assoc, append-nil, refl, sym, ap, ◌∙◌, arith}
use Rattle.std.specs.Prelude.{if◌then◌else◌}
use Rattle.std.specs.List.{count_by}
use Rattle.std.proofs.lemmas.List.{take_more, drop_more, take_all, take_at, take-take, take-append-drop}
use Rattle.std.proofs.lemmas.List.Sums.{sum_by-cons}
use Rattle.vs_excerpt.specs.Positions.{is_newline}
use Rattle.vs_reread.specs.Again.{most_stimulus, first_lines}
use Rattle.vs_reread.proofs.Taken.{IsTaken}

fewer : (c : Bool) (n k t : ℕ) → suc n ≤ t → t ≡ cond c 1 0 + k → (if c then n else suc n) ≤ k
fewer true n k t h e = omega (arith, h, e)
fewer false n k t h e = omega (arith, h, e)

-- a text that has as many lines has them, whatever stands behind
pub lines_only : (n : ℕ) (xs ys : List ℕ) → n ≤ count_by is_newline xs → first_lines n (xs ++ ys) ≡ first_lines n xs
lines_only zero xs ys h = refl
lines_only (suc n) [] ys h = absurd (omega (arith, h))
lines_only (suc n) (b ∷ bs) ys h =
    ap (λ (zs : List ℕ). b ∷ zs)
    (lines_only (if is_newline b then n else suc n) bs ys
    (fewer (is_newline b) n (count_by is_newline bs) (count_by is_newline (b ∷ bs)) h (sum_by-cons (λ (x : ℕ). cond (is_newline x) 1 0) b bs)))

pub no_lines : (n : ℕ) → first_lines n [] ≡ []
no_lines zero = refl
no_lines (suc n) = refl

next_is : (c : Bool) (k left next : ℕ) → left ≡ suc k → next ≡ (if c then left - 1 else left) → next ≡ (if c then k else suc k)
next_is true k left next l e = omega (arith, l, e)
next_is false k left next l e = e ∙ l

-- one more byte of a text was looked at
pub one_further : (text : List ℕ) (end left next : ℕ) → end < length text → 0 < left → next ≡ (if is_newline (get_or text end 0) then left - 1 else left)
    → take (end + 1) text ++ first_lines next (drop (end + 1) text) ≡ take end text ++ first_lines left (drop end text)
one_further text end left next h some e =
    let l : left ≡ suc (left - 1) = omega (arith, some) in
    let x = get_or text end 0 in
    let rest = drop (end + 1) text in
    let n = next_is (is_newline x) (left - 1) left next l e in
    ap (λ (zs : List ℕ). zs ++ first_lines next rest) (take_more text end 0 h)
    ∙ append_assoc (take end text) (x ∷ []) (first_lines next rest)
    ∙ ap (λ (zs : List ℕ). take end text ++ zs)
    (ap (λ (m : ℕ). x ∷ first_lines m rest) n ∙ sym (ap (λ (m : ℕ). first_lines m (x ∷ rest)) l) ∙ sym (ap (λ (zs : List ℕ). first_lines left zs) (drop_more text end 0 h)))

-- the first bytes of a text and another begin with the text
begins : (most : ℕ) (text rest : List ℕ) → length text ≤ most → take most (text ++ rest) ≡ text ++ drop (length text) (take most (text ++ rest))
begins most text rest h =
    let all = take most (text ++ rest) in
    sym (take-append-drop (length text) all)
    ∙ ap (λ (xs : List ℕ). xs ++ drop (length text) all) (take-take (length text) most (text ++ rest) h ∙ take_at text rest (length text) refl)

taken_is : {tells : Bool} {file left text : List ℕ} (s : IsTaken tells [] file left text) → text ≡ s.taken
taken_is s = s.text_is

split_is : {tells : Bool} {file left text : List ℕ} → IsTaken tells [] file left text → IsTrue tells → text ++ left ≡ file
split_is s t = ap (λ (xs : List ℕ). xs ++ _) (taken_is s) ∙ s.split t

-- enough lines were taken
pub lines_taken : (tells : Bool) (file left text : List ℕ) (n : ℕ) → IsTaken tells [] file left text → length text ≤ most_stimulus → n ≤ count_by is_newline text
    → IsTrue tells → first_lines n text ≡ first_lines n (take most_stimulus file)
lines_taken tells file left text n s short enough t =
    sym (lines_only n text (drop (length text) (take most_stimulus (text ++ left))) enough)
    ∙ ap (λ (xs : List ℕ). first_lines n xs) (sym (begins most_stimulus text left short))
    ∙ ap (λ (xs : List ℕ). first_lines n (take most_stimulus xs)) (split_is s t)

-- as many bytes as a stimulus may have were taken
pub most_taken : (tells : Bool) (file left text : List ℕ) (n : ℕ) → IsTaken tells [] file left text → length text ≡ most_stimulus
    → IsTrue tells → first_lines n text ≡ first_lines n (take most_stimulus file)
most_taken tells file left text n s full t =
    ap (λ (xs : List ℕ). first_lines n xs) (sym (take_at text left most_stimulus full) ∙ ap (λ (xs : List ℕ). take most_stimulus xs) (split_is s t))

-- the whole file was taken
pub file_taken : (tells : Bool) (file left text : List ℕ) (n : ℕ) → IsTaken tells [] file left text → length text ≤ most_stimulus → (IsTrue tells → left ≡ [])
    → IsTrue tells → first_lines n text ≡ first_lines n (take most_stimulus file)
file_taken tells file left text n s short none t =
    let whole : text ≡ file = sym (append-nil text) ∙ ap (λ (xs : List ℕ). text ++ xs) (sym (none t)) ∙ split_is s t in
    ap (λ (xs : List ℕ). first_lines n xs) (sym (take_all most_stimulus text short) ∙ ap (λ (xs : List ℕ). take most_stimulus xs) whole)
