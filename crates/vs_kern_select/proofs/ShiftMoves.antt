-- Vectors moved down and up, place by place.
use Rattle.std.proofs.Common.{◌≡◌, ℕ, zero, suc, ◌+◌, ◌-◌, ◌<◌, ◌≤◌, Bool, true, false, if◌then◌else◌, List, [], ◌∷◌, ◌++◌, map, reverse, length, get_or, drop, replicate, refl, sym, ap, ◌∙◌, arith, inl, inr, length-append}
use Rattle.std.proofs.lemmas.Bool.{cases_lt}
use Rattle.std.proofs.lemmas.List.{ext_get_or, get_or_past, get_or-take, get_or-drop, get_or_append_left, get_or-append_right, get_or-replicate, get_or-reverse, get_or-map, length-map, length-replicate, length-reverse, length-take, reverse-reverse}
use Rattle.vs_four.specs.Shifts.{move_up, move_down}
use Rattle.vs_kern_select.specs.Moves.{turns}

pub by_order : {P : Type 0} (m n : ℕ) → (m < n → P) → (n ≤ m → P) → P
by_order m n f g = elim (cases_lt m n) [ inl h ↦ f h | inr h ↦ g h ]

-- ---- down

pub length-down : {A : Type 0} (fill : A) (n : ℕ) (xs : List A) → length (move_down fill n xs) ≡ length xs
length-down fill n xs =
    omega (arith, length-take (length xs) (drop n xs ++ replicate (length xs) fill), length-append (drop n xs) (replicate (length xs) fill), length-replicate (length xs) fill)

-- past a list's end its own default stands there
get_or-fills : {A : Type 0} (fill : A) (xs : List A) (m k : ℕ) → get_or (xs ++ replicate m fill) k fill ≡ get_or xs k fill
get_or-fills fill [] zero k = refl
get_or-fills fill [] (suc m) zero = refl
get_or-fills fill [] (suc m) (suc k) = get_or-fills fill [] m k
get_or-fills fill (x ∷ xs) m zero = refl
get_or-fills fill (x ∷ xs) m (suc k) = get_or-fills fill xs m k

-- place k of what is moved down is place n + k, or the fill past the end
pub down_at : {A : Type 0} (fill : A) (n : ℕ) (xs : List A) (k : ℕ) → get_or (move_down fill n xs) k fill ≡ get_or xs (n + k) fill
down_at fill n xs k = by_order k (length xs)
    (λ h. get_or-take (length xs) (drop n xs ++ replicate (length xs) fill) k fill h ∙ get_or-fills fill (drop n xs) (length xs) k ∙ get_or-drop n xs k fill)
    (λ h. get_or_past (move_down fill n xs) k fill (omega (arith, h, length-down fill n xs)) ∙ sym (get_or_past xs (n + k) fill (omega (arith, h))))

-- moves add up
pub down_twice : {A : Type 0} (fill : A) (m n : ℕ) (xs : List A) → move_down fill m (move_down fill n xs) ≡ move_down fill (n + m) xs
down_twice fill m n xs =
    ext_get_or fill (move_down fill m (move_down fill n xs)) (move_down fill (n + m) xs)
    (length-down fill m (move_down fill n xs) ∙ length-down fill n xs ∙ sym (length-down fill (n + m) xs))
    (λ k h.
    let place : n + (m + k) ≡ n + m + k = omega arith in
    down_at fill m (move_down fill n xs) k ∙ down_at fill n xs (m + k) ∙ ap (λ (j : ℕ). get_or xs j fill) place ∙ sym (down_at fill (n + m) xs k))

pub down_none : {A : Type 0} (fill : A) (xs : List A) → move_down fill 0 xs ≡ xs
down_none fill xs =
    ext_get_or fill (move_down fill 0 xs) xs (length-down fill 0 xs)
    (λ k h. let place : 0 + k ≡ k = omega arith in down_at fill 0 xs k ∙ ap (λ (j : ℕ). get_or xs j fill) place)

-- a list of fills stays
pub down_fills : {A : Type 0} (fill : A) (n w : ℕ) → move_down fill n (replicate w fill) ≡ replicate w fill
down_fills fill n w =
    ext_get_or fill (move_down fill n (replicate w fill)) (replicate w fill) (length-down fill n (replicate w fill))
    (λ k h. down_at fill n (replicate w fill) k ∙ get_or-fills fill [] w (n + k) ∙ sym (get_or-fills fill [] w k))

-- each bit is moved out
pub down_all : {A : Type 0} (fill : A) (n : ℕ) (xs : List A) → length xs ≤ n → move_down fill n xs ≡ replicate (length xs) fill
down_all fill n xs h =
    ext_get_or fill (move_down fill n xs) (replicate (length xs) fill) (length-down fill n xs ∙ sym (length-replicate (length xs) fill))
    (λ k l. down_at fill n xs k ∙ get_or_past xs (n + k) fill (omega (arith, h)) ∙ sym (get_or-fills fill [] (length xs) k))

-- ---- up

pub length-up : {A : Type 0} (fill : A) (n : ℕ) (xs : List A) → length (move_up fill n xs) ≡ length xs
length-up fill n xs =
    omega (arith, length-take (length xs) (replicate n fill ++ xs), length-append (replicate n fill) xs)

up_low : {A : Type 0} (fill : A) (n : ℕ) (xs : List A) (k : ℕ) → k < length xs → k < n → get_or (move_up fill n xs) k fill ≡ fill
up_low fill n xs k h l =
    get_or-take (length xs) (replicate n fill ++ xs) k fill h
    ∙ get_or_append_left (replicate n fill) xs fill k (omega (arith, l, length-replicate n fill))
    ∙ get_or-replicate n k fill fill l

up_high : {A : Type 0} (fill : A) (n : ℕ) (xs : List A) (k : ℕ) → k < length xs → n ≤ k → get_or (move_up fill n xs) k fill ≡ get_or xs (k - n) fill
up_high fill n xs k h l =
    get_or-take (length xs) (replicate n fill ++ xs) k fill h
    ∙ get_or-append_right (replicate n fill) xs n k fill (length-replicate n fill) l

-- a move up is one down in the other order
pub down_reversed : {A : Type 0} (fill : A) (n : ℕ) (xs : List A) → reverse (move_down fill n (reverse xs)) ≡ move_up fill n xs
down_reversed fill n xs =
    let w : ℕ = length xs in
    let long : length (move_down fill n (reverse xs)) ≡ w = length-down fill n (reverse xs) ∙ length-reverse xs in
    ext_get_or fill (reverse (move_down fill n (reverse xs))) (move_up fill n xs)
    (length-reverse (move_down fill n (reverse xs)) ∙ long ∙ sym (length-up fill n xs))
    (λ k h.
    let within : k < w = omega (arith, h, long, length-reverse (move_down fill n (reverse xs))) in
    let first : get_or (reverse (move_down fill n (reverse xs))) k fill ≡ get_or (reverse xs) (n + (w - 1 - k)) fill =
    get_or-reverse (move_down fill n (reverse xs)) k fill (omega (arith, within, long))
    ∙ ap (λ (m : ℕ). get_or (move_down fill n (reverse xs)) (m - 1 - k) fill) long
    ∙ down_at fill n (reverse xs) (w - 1 - k) in
    first
    ∙ by_order k n
    (λ l. get_or_past (reverse xs) (n + (w - 1 - k)) fill (omega (arith, l, within, length-reverse xs)) ∙ sym (up_low fill n xs k within l))
    (λ l.
    let place : w - 1 - (n + (w - 1 - k)) ≡ k - n = omega (arith, l, within) in
    get_or-reverse xs (n + (w - 1 - k)) fill (omega (arith, l, within))
    ∙ ap (λ (j : ℕ). get_or xs j fill) place
    ∙ sym (up_high fill n xs k within l)))

-- ---- the order of the turns

pub length-turns : {A : Type 0} (left : Bool) (xs : List A) → length (turns left xs) ≡ length xs
length-turns true xs = length-reverse xs
length-turns false xs = refl

pub turns_twice : {A : Type 0} (left : Bool) (xs : List A) → turns left (turns left xs) ≡ xs
turns_twice true xs = reverse-reverse xs
turns_twice false xs = refl

reverse-map : {A B : Type 0} (f : A → B) (xs : List A) → map f (reverse xs) ≡ reverse (map f xs)
reverse-map {A} {B} f xs = at xs where
  at : (d : List A) → map f (reverse d) ≡ reverse (map f d)
  at [] = refl
  at (x ∷ ys) =
      ext_get_or (f x) (map f (reverse (x ∷ ys))) (reverse (map f (x ∷ ys)))
      (length-map (reverse (x ∷ ys)) f ∙ length-reverse (x ∷ ys) ∙ sym (length-map (x ∷ ys) f) ∙ sym (length-reverse (map f (x ∷ ys))))
      (λ k h.
      let within : k < length (x ∷ ys) = omega (arith, h, length-map (reverse (x ∷ ys)) f, length-reverse (x ∷ ys)) in
      get_or-map f (reverse (x ∷ ys)) k x (f x) (omega (arith, within, length-reverse (x ∷ ys)))
      ∙ ap f (get_or-reverse (x ∷ ys) k x within)
      ∙ sym (get_or-map f (x ∷ ys) (length (x ∷ ys) - 1 - k) x (f x) (omega (arith, within)))
      ∙ ap (λ (m : ℕ). get_or (map f (x ∷ ys)) (m - 1 - k) (f x)) (sym (length-map (x ∷ ys) f))
      ∙ sym (get_or-reverse (map f (x ∷ ys)) k (f x) (omega (arith, within, length-map (x ∷ ys) f))))

pub map-turns : {A B : Type 0} (left : Bool) (f : A → B) (xs : List A) → map f (turns left xs) ≡ turns left (map f xs)
map-turns true f xs = reverse-map f xs
map-turns false f xs = refl

pub turns-fills : {A : Type 0} (left : Bool) (w : ℕ) (fill : A) → turns left (replicate w fill) ≡ replicate w fill
turns-fills true w fill =
    ext_get_or fill (reverse (replicate w fill)) (replicate w fill) (length-reverse (replicate w fill))
    (λ k h.
    let within : k < length (replicate w fill) = omega (arith, h, length-reverse (replicate w fill)) in
    get_or-reverse (replicate w fill) k fill within
    ∙ get_or-fills fill [] w (length (replicate w fill) - 1 - k)
    ∙ sym (get_or-fills fill [] w k))
turns-fills false w fill = refl

pub down_turned : {A : Type 0} (left : Bool) (fill : A) (n : ℕ) (xs : List A) → turns left (move_down fill n (turns left xs)) ≡ (if left then move_up fill n xs else move_down fill n xs)
down_turned true fill n xs = down_reversed fill n xs
down_turned false fill n xs = refl
