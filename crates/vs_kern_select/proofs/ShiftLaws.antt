-- Shifts by stages: in each lane the moves by 1, 2, 4 places and so on add up to the shift.
use Rattle.std.proofs.Common.{◌≡◌, ℕ, ◌+◌, ◌*◌, ◌^◌, ◌<◌, ◌≤◌, Bool, true, false, not, ◌&&◌, if◌then◌else◌, nat_lt, [], ◌∷◌, length, get_or, take, drop, replicate, refl, sym, ap, ◌∙◌, arith, inl, inr}
use Rattle.std.proofs.lemmas.Bool.{cases_lt, cond_both, ltb-true, false≢true}
use Rattle.std.proofs.Math.Nat.{mul-le-mul_left}
use Rattle.std.proofs.lemmas.List.{drop_all}
use Rattle.std.specs.List.{list_any}
use Rattle.vs_four.specs.declared.Bit4.{Bit4}
use Rattle.vs_four.specs.declared.Bit4.TheVariants.{Zero, One, X, Z}
use Rattle.vs_four.specs.Tables.{is_one}
use Rattle.vs_four.specs.Logic.{BitList, all_known}
use Rattle.vs_four.specs.Numbers.{digit, number, log_up, if_known}
use Rattle.vs_four.specs.Shifts.{move_up, move_down, distance}
use Rattle.vs_kern_select.specs.Costs.{moving_bits}
use Rattle.vs_kern_select.specs.Moves.{turns, first, moved, shifted}
use Rattle.vs_kern_select.proofs.ShiftDigits.{number-parts, number-more, some_one, no_one, log_up-reaches}
use Rattle.vs_kern_select.proofs.ShiftMoves.{length-down, down_at, down_twice, down_none, down_fills, down_all, down_turned, length-turns, turns_twice, turns-fills}

-- ---- a stage

pub length-moved : (moves : Bool) (fill : Bit4) (n : ℕ) (xs : BitList) → length (moved moves fill n xs) ≡ length xs
length-moved true fill n xs = length-down fill n xs
length-moved false fill n xs = refl

-- the bit that a turn stores
pub moved_at : (moves : Bool) (fill : Bit4) (n : ℕ) (xs : BitList) (k : ℕ)
    → (if moves then get_or xs (k + n) fill else get_or xs k fill) ≡ get_or (moved moves fill n xs) k fill
moved_at true fill n xs k =
    let place : k + n ≡ n + k = omega arith in
    ap (λ (j : ℕ). get_or xs j fill) place ∙ sym (down_at fill n xs k)
moved_at false fill n xs k = refl

-- ---- the moves so far

-- the vector after the moves by the first `bits` bits of the amount, in the order of the turns
abbrev pub moved_so_far : Bool → Bit4 → Bool → BitList → BitList → ℕ → BitList
moved_so_far left fill out a amount bits =
    moved (all_known amount) fill (number (take bits amount)) (turns left (first (not (all_known amount)) out fill a))

moved_none : (moves : Bool) (fill : Bit4) (xs : BitList) → moved moves fill 0 xs ≡ xs
moved_none true fill xs = down_none fill xs
moved_none false fill xs = refl

pub moves_begin : (left : Bool) (fill : Bit4) (out : Bool) (a amount : BitList)
    → turns left (first (not (all_known amount)) out fill a) ≡ moved_so_far left fill out a amount 0
moves_begin left fill out a amount = sym (moved_none (all_known amount) fill (turns left (first (not (all_known amount)) out fill a)))

moved_more : (known : Bool) (b : Bit4) (fill : Bit4) (p m n : ℕ) (xs : BitList) → n ≡ m + digit b * p
    → moved (is_one b && not (not known)) fill p (moved known fill m xs) ≡ moved known fill n xs
moved_more true Zero fill p m n xs h = let same : m ≡ n = omega arith in ap (λ (k : ℕ). move_down fill k xs) same
moved_more true One fill p m n xs h = let same : m + p ≡ n = omega arith in down_twice fill p m xs ∙ ap (λ (k : ℕ). move_down fill k xs) same
moved_more true X fill p m n xs h = let same : m ≡ n = omega arith in ap (λ (k : ℕ). move_down fill k xs) same
moved_more true Z fill p m n xs h = let same : m ≡ n = omega arith in ap (λ (k : ℕ). move_down fill k xs) same
moved_more false Zero fill p m n xs h = refl
moved_more false One fill p m n xs h = refl
moved_more false X fill p m n xs h = refl
moved_more false Z fill p m n xs h = refl

-- one more stage
pub moves_next : (left : Bool) (fill : Bit4) (out : Bool) (a amount : BitList) (bits : ℕ) → bits < length amount
    → moved (is_one (get_or amount bits X) && not (not (all_known amount))) fill (2 ^ bits) (moved_so_far left fill out a amount bits)
    ≡ moved_so_far left fill out a amount (bits + 1)
moves_next left fill out a amount bits h =
    moved_more (all_known amount) (get_or amount bits X) fill (2 ^ bits) (number (take bits amount)) (number (take (bits + 1) amount))
    (turns left (first (not (all_known amount)) out fill a)) (number-more amount bits h)

-- ---- the end

first_x : (out : Bool) (fill : Bit4) (a : BitList) → first true out fill a ≡ replicate (length a) X
first_x out fill [] = refl
first_x out fill (b ∷ bs) = ap (λ (r : BitList). X ∷ r) (first_x out fill bs)

first_fills : (fill : Bit4) (a : BitList) → first false true fill a ≡ replicate (length a) fill
first_fills fill [] = refl
first_fills fill (b ∷ bs) = ap (λ (r : BitList). fill ∷ r) (first_fills fill bs)

first_same : (fill : Bit4) (a : BitList) → first false false fill a ≡ a
first_same fill [] = refl
first_same fill (b ∷ bs) = ap (λ (r : BitList). b ∷ r) (first_same fill bs)

-- an amount with a 1 at a place that moves no bit within the length moves each bit out
out-number : (a amount : BitList) (bits : ℕ) → bits ≡ moving_bits (length a) (length amount) → list_any is_one (drop bits amount) ≡ true
    → length a ≤ number amount
out-number a amount bits h out = elim (cases_lt bits (length amount)) [
  | inl more ↦
      let most : bits ≡ log_up (length a) (length a) = omega arith in
      let power : length a ≤ 2 ^ bits = omega (arith, log_up-reaches (length a), ap (λ (n : ℕ). 2 ^ n) most) in
      let row : 2 ^ bits * 1 ≤ 2 ^ bits * number (drop bits amount) = mul-le-mul_left (2 ^ bits) (some_one (drop bits amount) out) in
      omega (arith, power, row, number-parts amount bits)
  | inr all ↦
      let none : list_any is_one (drop bits amount) ≡ false = ap (λ (r : BitList). list_any is_one r) (drop_all bits amount all) in
      absurd (let e : ⊥ = false≢true (sym none ∙ out) in e)
]

at_distance : (fill : Bit4) (amount xs : BitList) → move_down fill (number amount) xs ≡ move_down fill (distance (length xs) amount) xs
at_distance fill amount xs =
    cond_both (nat_lt (length xs) (number amount)) (length xs) (number amount) (λ n. move_down fill (number amount) xs ≡ move_down fill n xs)
    (λ e. down_all fill (number amount) xs (let h : length xs < number amount = ltb-true (length xs) (number amount) e in omega (arith, h)) ∙ sym (down_all fill (length xs) xs (omega arith)))
    (λ e. refl)

-- a whole number of places either way
moved_whole : (left : Bool) (fill : Bit4) (a amount : BitList)
    → turns left (move_down fill (number amount) (turns left a))
    ≡ (if left then move_up fill (distance (length a) amount) a else move_down fill (distance (length a) amount) a)
moved_whole left fill a amount =
    ap (λ (r : BitList). turns left r) (at_distance fill amount (turns left a))
    ∙ ap (λ (n : ℕ). turns left (move_down fill (distance n amount) (turns left a))) (length-turns left a)
    ∙ down_turned left fill (distance (length a) amount) a

pub moves_end : (left : Bool) (fill : Bit4) (a amount : BitList) (bits : ℕ) → bits ≡ moving_bits (length a) (length amount)
    → turns left (moved_so_far left fill (list_any is_one (drop bits amount)) a amount bits) ≡ shifted left fill a amount
moves_end left fill a amount bits h = at (all_known amount) (list_any is_one (drop bits amount)) refl where
  at : (known out : Bool) → list_any is_one (drop bits amount) ≡ out
      → turns left (moved known fill (number (take bits amount)) (turns left (first (not known) out fill a)))
      ≡ if_known known (length a) (if left then move_up fill (distance (length a) amount) a else move_down fill (distance (length a) amount) a)
  at false out e = turns_twice left (first true out fill a) ∙ first_x out fill a
  at true true e =
      ap (λ (r : BitList). turns left (move_down fill (number (take bits amount)) (turns left r))) (first_fills fill a)
      ∙ ap (λ (r : BitList). turns left (move_down fill (number (take bits amount)) r)) (turns-fills left (length a) fill)
      ∙ ap (λ (r : BitList). turns left r) (down_fills fill (number (take bits amount)) (length a))
      ∙ turns-fills left (length a) fill
      ∙ sym (ap (λ (r : BitList). turns left r)
      (down_all fill (number amount) (turns left a) (omega (arith, length-turns left a, out-number a amount bits h e))
      ∙ ap (λ (w : ℕ). replicate w fill) (length-turns left a))
      ∙ turns-fills left (length a) fill)
      ∙ moved_whole left fill a amount
  at true false e =
      let row : 2 ^ bits * number (drop bits amount) ≡ 2 ^ bits * 0 = ap (λ (m : ℕ). 2 ^ bits * m) (no_one (drop bits amount) e) in
      let same : number (take bits amount) ≡ number amount = omega (arith, row, number-parts amount bits) in
      ap (λ (r : BitList). turns left (move_down fill (number (take bits amount)) (turns left r))) (first_same fill a)
      ∙ ap (λ (m : ℕ). turns left (move_down fill m (turns left a))) same
      ∙ moved_whole left fill a amount
