-- Folds over the bits of slots, one place further.
use Rattle.std.proofs.Common.{◌≡◌, ℕ, ◌+◌, ◌<◌, ◌≤◌, Bool, List, ◌∷◌, length, get_or, drop, sym, ap, ◌∙◌}
use Rattle.std.proofs.lemmas.List.{at_drop_more, at_drop_all}
use Rattle.vs_four.specs.declared.Bit4.{Bit4}
use Rattle.vs_four.specs.Tables.{and_bit}
use Rattle.vs_four.specs.Logic.{map2, fold_with}
use Rattle.vs_plane.specs.declared.pairs.Pair.{Pair}
use Rattle.vs_plane.specs.Lanes.{slot_lane}
use Rattle.vs_plane.specs.Kernels.{lane_bits}

-- what is left of a fold over a lane's bits
abbrev pub rest : {W : Type 0} → (W → ℕ → Bool) → List (Pair W) → ℕ → (Bit4 → Bit4 → Bit4) → Bit4 → List ℕ → Bit4
rest lane file i g b slots = fold_with g b (lane_bits lane file slots i)

pub fold_more : {W : Type 0} (lane : W → ℕ → Bool) (file : List (Pair W)) (i : ℕ) (g : Bit4 → Bit4 → Bit4) (b c : Bit4) (slots : List ℕ) (n : ℕ)
    → n < length slots → c ≡ g b (slot_lane lane file (get_or slots n 0) i)
    → rest lane file i g c (drop (n + 1) slots) ≡ rest lane file i g b (drop n slots)
fold_more lane file i g b c slots n within is =
    ap (λ (x : Bit4). rest lane file i g x (drop (n + 1) slots)) is
    ∙ sym (at_drop_more (λ (ns : List ℕ). rest lane file i g b ns) slots n 0 within)

pub fold_all : {W : Type 0} (lane : W → ℕ → Bool) (file : List (Pair W)) (i : ℕ) (g : Bit4 → Bit4 → Bit4) (b : Bit4) (slots : List ℕ) (n : ℕ)
    → length slots ≤ n → b ≡ rest lane file i g b (drop n slots)
fold_all lane file i g b slots n past = sym (at_drop_all (λ (ns : List ℕ). rest lane file i g b ns) slots n past)

-- what is left of the `&` over what g gives at each place of two lists
abbrev pub rest_of_two : {W : Type 0} → (W → ℕ → Bool) → List (Pair W) → ℕ → (Bit4 → Bit4 → Bit4) → Bit4 → List ℕ → List ℕ → Bit4
rest_of_two lane file i g b xs ys = fold_with and_bit b (map2 g (lane_bits lane file xs i) (lane_bits lane file ys i))

pub fold_two_more : {W : Type 0} (lane : W → ℕ → Bool) (file : List (Pair W)) (i : ℕ) (g : Bit4 → Bit4 → Bit4) (b c : Bit4) (xs ys : List ℕ) (n : ℕ)
    → n < length xs → n < length ys
    → c ≡ and_bit b (g (slot_lane lane file (get_or xs n 0) i) (slot_lane lane file (get_or ys n 0) i))
    → rest_of_two lane file i g c (drop (n + 1) xs) (drop (n + 1) ys) ≡ rest_of_two lane file i g b (drop n xs) (drop n ys)
fold_two_more lane file i g b c xs ys n in_xs in_ys is =
    let x : ℕ = get_or xs n 0 in
    ap (λ (d : Bit4). rest_of_two lane file i g d (drop (n + 1) xs) (drop (n + 1) ys)) is
    ∙ sym (at_drop_more (λ (ns : List ℕ). rest_of_two lane file i g b (x ∷ drop (n + 1) xs) ns) ys n 0 in_ys)
    ∙ sym (at_drop_more (λ (ns : List ℕ). rest_of_two lane file i g b ns (drop n ys)) xs n 0 in_xs)

pub fold_two_all : {W : Type 0} (lane : W → ℕ → Bool) (file : List (Pair W)) (i : ℕ) (g : Bit4 → Bit4 → Bit4) (b : Bit4) (xs ys : List ℕ) (n : ℕ)
    → length xs ≤ n → b ≡ rest_of_two lane file i g b (drop n xs) (drop n ys)
fold_two_all lane file i g b xs ys n past = sym (at_drop_all (λ (ns : List ℕ). rest_of_two lane file i g b ns (drop n ys)) xs n past)
