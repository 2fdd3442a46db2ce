-- The texts of a bench, one step after the other.
use Rattle.std.proofs.Common.{◌≡◌, ℕ, suc, ◌<◌, ◌≤◌, ◌+◌, ◌-◌, ◌*◌, ◌^◌, ◌/◌, ◌%◌, nat_eq, List, [], ◌∷◌, ◌++◌, sym, ap, ◌∙◌, append_assoc, add-one, arith}
use Rattle.std.proofs.Math.Nat.{mod-add-mod, div-div-eq-div-mul, pow-suc}
use Rattle.vs_bench.specs.Texts.{after, state, binary, vector_line, header, line, lines, stimulus}

-- a product and a sum that both wrap come to the next state
pub after_wraps : (s : ℕ) → (s * 6364136223846793005 % 2 ^ 64 + 1442695040888963407) % 2 ^ 64 ≡ after s
unfolding after
after_wraps s = mod-add-mod (s * 6364136223846793005) (2 ^ 64) 1442695040888963407

-- the digits down to a place end with the digit at that place
pub binary_more : (n w place : ℕ) → binary (suc w) (n / 2 ^ place) ≡ binary w (n / 2 ^ suc place) ++ (48 + n / 2 ^ place % 2) ∷ []
unfolding binary
binary_more n w place =
    ap (λ m. binary w m ++ (48 + n / 2 ^ place % 2) ∷ [])
    (div-div-eq-div-mul n (2 ^ place) 2 ∙ ap (λ m. n / m) (sym (pow-suc 2 place)))

-- one more digit, at the place below
pub digit_pushed : (start text new : List ℕ) (n place : ℕ) → 0 < place → place ≤ 32
    → text ≡ start ++ binary (32 - place) (n / 2 ^ place) → new ≡ text ++ (48 + n / 2 ^ (place - 1) % 2) ∷ []
    → new ≡ start ++ binary (32 - (place - 1)) (n / 2 ^ (place - 1))
digit_pushed start text new n place some few before pushed =
    let w = 32 - place in
    let digit = 48 + n / 2 ^ (place - 1) % 2 in
    let same : place ≡ suc (place - 1) = omega arith in
    let more : suc w ≡ 32 - (place - 1) = omega arith in
    pushed ∙ ap (λ (t : List ℕ). t ++ digit ∷ []) before ∙ append_assoc start (binary w (n / 2 ^ place)) (digit ∷ [])
    ∙ ap (λ (t : List ℕ). start ++ t)
    (ap (λ p. binary w (n / 2 ^ p) ++ digit ∷ []) same ∙ sym (binary_more n w (place - 1)) ∙ ap (λ v. binary v (n / 2 ^ (place - 1))) more)

-- the generator's next state
pub state_more : (lane k s next : ℕ) → s ≡ state lane k → next ≡ after s → next ≡ state lane (k + 1)
state_more lane k s next at is = is ∙ ap after at ∙ ap (λ n. state lane n) (sym (add-one k))

-- one more line, of the generator's next state
pub line_pushed : (text new : List ℕ) (lane k s next : ℕ) → text ≡ stimulus lane k → s ≡ state lane k → next ≡ after s
    → new ≡ text ++ vector_line (nat_eq k 0) (next / 2 ^ 32) → new ≡ stimulus lane (k + 1)
line_pushed text new lane k s next before at is pushed =
    pushed ∙ ap (λ (t : List ℕ). t ++ vector_line (nat_eq k 0) (next / 2 ^ 32)) before
    ∙ ap (λ m. stimulus lane k ++ vector_line (nat_eq k 0) (m / 2 ^ 32)) (is ∙ ap after at)
    ∙ append_assoc header (lines lane k) (line lane k) ∙ ap (λ n. stimulus lane n) (sym (add-one k))
