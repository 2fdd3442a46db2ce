-- How far the loop of `put_all` has come.
use Rattle.std.proofs.Common.{◌≡◌, ℕ, ◌+◌, ◌<◌, ◌≤◌, Bool, List, length, take, drop, IsTrue, arith, length-drop, sym, ◌∙◌, ap}
use Rattle.std.proofs.Math.Seq.{take-add}
use Rattle.vs_desk.specs.Desk.{Told, with_put}
use Rattle.vs_desk.proofs.Contents.{with_put-with_put}

-- the first bytes were put at the place, and nothing else has changed
pub record PutSoFar {tells : Bool} {D : Type 0} (told : D → Told tells) (start now : D) (place : ℕ) (bytes : List ℕ) (done : ℕ) : Type 0 where
  pub within : done ≤ length bytes
  pub unmoved : done ≡ 0 → now ≡ start
  pub same : (told now).register ≡ (told start).register
  pub put : IsTrue tells → (told now).contents ≡ with_put (told start).register (told start).contents place (take done bytes)

-- one more piece was put
pub put_more : {tells : Bool} {D : Type 0} (told : D → Told tells) (start now next : D) (place : ℕ) (bytes : List ℕ) (done n : ℕ) (piece : List ℕ)
    → PutSoFar told start now place bytes done → piece ≡ drop done bytes → 0 < n → n ≤ length piece → (told next).register ≡ (told now).register
    → (IsTrue tells → (told next).contents ≡ with_put (told now).register (told now).contents place (take n piece))
    → PutSoFar told start next place bytes (done + n)
put_more told start now next place bytes done n piece before rest some fits same put = record {
  within = omega (arith, length-drop done bytes, ap length rest);
  unmoved = λ none. absurd (omega arith);
  same = same ∙ before.same;
  put = λ t. put t
      ∙ ap (λ p. with_put (told now).register (told now).contents place (take n p)) rest
      ∙ ap (λ r. with_put r (told now).contents place (take n (drop done bytes))) before.same
      ∙ ap (λ c. with_put (told start).register c place (take n (drop done bytes))) (before.put t)
      ∙ with_put-with_put (told start).register (told start).contents place (take done bytes) (take n (drop done bytes))
      ∙ ap (with_put (told start).register (told start).contents place) (sym (take-add done n bytes));
}
