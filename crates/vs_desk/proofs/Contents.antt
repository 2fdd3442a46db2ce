-- When two contents and two registers are the same, and what adding bytes in two parts gives.
use Rattle.std.proofs.Common.{◌≡◌, ℕ, Bool, true, false, not, ◌&&◌, List, [], ◌++◌, ◌==◌, refl, append_assoc, append-nil, drop, drop-drop, ◌+◌}
use Rattle.std.specs.Prelude.{if◌then◌else◌}
use Rattle.std.specs.Str.{bytes_eq}
use Rattle.std.proofs.Math.Path.{fun_ext}
use Rattle.vs_desk.specs.Desk.{Register, Contents, path_at, with_put, with_taken}

pub same_contents : (c d : Contents) → ((q : List ℕ) → c.files q ≡ d.files q) → ((p : ℕ) → c.left p ≡ d.left p) → ((p : ℕ) → c.put p ≡ d.put p) → c ≡ d
same_contents c d files left put = λ i. record { files = fun_ext files i; left = fun_ext left i; put = fun_ext put i }

-- where nothing is added, what was there stays
if_none : (b : Bool) (xs : List ℕ) → (if b then xs ++ [] else xs) ≡ xs
if_none true xs = append-nil xs
if_none false xs = refl

-- two parts are added as one
if_both : (b : Bool) (xs ys zs : List ℕ) → (if b then (if b then xs ++ ys else xs) ++ zs else (if b then xs ++ ys else xs)) ≡ (if b then xs ++ (ys ++ zs) else xs)
if_both true xs ys zs = append_assoc xs ys zs
if_both false xs ys zs = refl

pub with_put-nil : (r : Register) (c : Contents) (place : ℕ) → with_put r c place [] ≡ c
with_put-nil r c place =
    same_contents _ _
    (λ q. if_none (not (place == 0) && bytes_eq (path_at r place) q) (c.files q))
    (λ p. refl)
    (λ p. if_none (p == place) (c.put p))

pub with_put-with_put : (r : Register) (c : Contents) (place : ℕ) (xs ys : List ℕ) → with_put r (with_put r c place xs) place ys ≡ with_put r c place (xs ++ ys)
with_put-with_put r c place xs ys =
    same_contents _ _
    (λ q. if_both (not (place == 0) && bytes_eq (path_at r place) q) (c.files q) xs ys)
    (λ p. refl)
    (λ p. if_both (p == place) (c.put p) xs ys)

drop_none : (b : Bool) (xs : List ℕ) → (if b then drop 0 xs else xs) ≡ xs
drop_none true xs = refl
drop_none false xs = refl

drop_both : (b : Bool) (m n : ℕ) (xs : List ℕ) → (if b then drop n (if b then drop m xs else xs) else (if b then drop m xs else xs)) ≡ (if b then drop (m + n) xs else xs)
drop_both true m n xs = drop-drop n m xs
drop_both false m n xs = refl

pub with_taken-zero : (c : Contents) (place : ℕ) → with_taken c place 0 ≡ c
with_taken-zero c place = same_contents _ _ (λ q. refl) (λ p. drop_none (p == place) (c.left p)) (λ p. refl)

pub with_taken-with_taken : (c : Contents) (place m n : ℕ) → with_taken (with_taken c place m) place n ≡ with_taken c place (m + n)
with_taken-with_taken c place m n = same_contents _ _ (λ q. refl) (λ p. drop_both (p == place) m n (c.left p)) (λ p. refl)
