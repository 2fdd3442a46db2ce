-- How many bytes the lines of macros have.
use Rattle.std.proofs.Common.{◌≡◌, ℕ, suc, ◌+◌, ◌-◌, ◌<◌, ◌≤◌, nat_le, eqb, Bool, true, false, List, [], ◌∷◌, ◌++◌, length, take, get_or, map, codes, refl, sym, ap, ◌∙◌, arith}
use Rattle.std.specs.List.{before_first, position_or_len}
use Rattle.std.proofs.lemmas.Bool.{leb-true, false_from_ne_true}
use Rattle.std.proofs.lemmas.Grind.{flat_map-append}
use Rattle.std.proofs.lemmas.List.{length-append, take_more, map-append}
use Rattle.std.proofs.lemmas.List.Folds.{flat_map-map, length-flat_map-take}
use Rattle.vs_job.specs.Job.{Text, is_equals, attached, body_text, define_line, head_of, most_head}

first_at : (b : ℕ) (bs : Text) → eqb b 61 ≡ true → position_or_len is_equals (b ∷ bs) ≡ 0
first_at b bs e = rw e refl

first_behind : (b : ℕ) (bs : Text) → eqb b 61 ≡ false → position_or_len is_equals (b ∷ bs) ≡ suc (position_or_len is_equals bs)
first_behind b bs e = rw e (omega arith)

attached_behind : (b : ℕ) (bs : Text) → eqb b 61 ≡ false → attached (b ∷ bs) ≡ attached bs
attached_behind b bs e =
    let n = position_or_len is_equals bs in
    let at = first_behind b bs e in
    let same : suc n + 1 ≡ suc (n + 1) = omega arith in
    rw (at, e, same) refl

-- a name, and what stands behind it
length-parts : (value : Text) → length (before_first is_equals value) + length (body_text (attached value)) ≡ length value
length-parts [] = refl
length-parts (b ∷ bs) = go (length-parts bs) (eqb b 61) refl
  where
    go : length (before_first is_equals bs) + length (body_text (attached bs)) ≡ length bs → (t : Bool) → eqb b 61 ≡ t → length (before_first is_equals (b ∷ bs)) + length (body_text (attached (b ∷ bs))) ≡ length (b ∷ bs)
    go rest true e = rw (first_at b bs e, e) (omega arith)
    go rest false e = rw (attached_behind b bs e, first_behind b bs e) (omega arith)

-- a line has nine bytes beside its value
pub length-define_line : (value : Text) → length (define_line value) ≡ length value + 9
length-define_line value =
    let parts = length-parts value in
    let name = before_first is_equals value in
    let body = body_text (attached value) in
    let a = length-append (codes "`define ") (name ++ (body ++ codes "\n")) in
    let b = length-append name (body ++ codes "\n") in
    let c = length-append body (codes "\n") in
    omega arith

-- a line that doesn't fit into what is left of the bytes
pub too_long : {X : Type 0} (f : X → Text) (xs : List X) (i room : ℕ) (d : X) → i < length xs → room + length (head_of (map f (take i xs))) ≡ most_head
    → room < length (f (get_or xs i d)) + 9 → false ≡ nat_le (length (head_of (map f xs))) most_head
too_long f xs i room d within left above =
    let line = length-define_line (f (get_or xs i d)) in
    let part = length-flat_map-take (λ x. define_line (f x)) xs i d within in
    let before = ap (λ (t : Text). length t) (flat_map-map define_line f (take i xs)) in
    let all = ap (λ (t : Text). length t) (flat_map-map define_line f xs) in
    sym (false_from_ne_true (nat_le (length (head_of (map f xs))) most_head) (λ is.
    let few = leb-true (length (head_of (map f xs))) most_head is in
    absurd (omega arith)))

-- a line that fits
pub one_more : {X : Type 0} (f : X → Text) (xs : List X) (i room : ℕ) (d : X) → i < length xs → room + length (head_of (map f (take i xs))) ≡ most_head
    → 9 ≤ room → length (f (get_or xs i d)) ≤ room - 9 → room - 9 - length (f (get_or xs i d)) + length (head_of (map f (take (i + 1) xs))) ≡ most_head
one_more {X} f xs i room d within left some fits =
    let x = get_or xs i d in
    let line = length-define_line (f x) in
    let more : head_of (map f (take (i + 1) xs)) ≡ head_of (map f (take i xs)) ++ (define_line (f x) ++ []) =
    ap (λ (ys : List X). head_of (map f ys)) (take_more xs i d within) ∙ ap head_of (map-append f (take i xs) (x ∷ []))
    ∙ flat_map-append define_line (map f (take i xs)) (f x ∷ []) in
    let sizes = ap (λ (t : Text). length t) more in
    let both = length-append (head_of (map f (take i xs))) (define_line (f x) ++ []) in
    let alone = length-append (define_line (f x)) [] in
    omega arith
