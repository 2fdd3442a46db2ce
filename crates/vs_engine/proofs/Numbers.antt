-- Numbers that are the same, and values at them.
use Rattle.std.proofs.Common.{◌≡◌, ◌≢◌, ℕ, Bool, true, false, if◌then◌else◌, ◌==◌, ap, refl, eqb-true, eq-eqb, ne_eqb}
use Rattle.std.proofs.lemmas.Bool.{both_ways}
use Rattle.vs_net.specs.Network.{put}

pub by_test : {P : Type 0} (b : Bool) → (b ≡ true → P) → (b ≡ false → P) → P
by_test true f g = f refl
by_test false f g = g refl

pub same_number : {P : Type 0} (a b : ℕ) → (a ≡ b → P) → (a ≢ b → P) → P
same_number a b f g = by_test (a == b) (λ e. f (eqb-true a b e)) (λ e. g (λ h. both_ways (a == b) e (eq-eqb a b h)))

pub put-same : {A : Type 0} (f : ℕ → A) (p : ℕ) (x : A) → put f p x p ≡ x
put-same f p x = ap (λ (c : Bool). if c then x else f p) (eq-eqb p p refl)

pub put-other : {A : Type 0} (f : ℕ → A) (p : ℕ) (x : A) (r : ℕ) → r ≢ p → put f p x r ≡ f r
put-other f p x r h = ap (λ (c : Bool). if c then x else f r) (ne_eqb r p h)
