-- A part of a list that was written.
use Rattle.std.proofs.Common.{◌≡◌, ℕ, zero, suc, ◌+◌, ◌-◌, ◌<◌, ◌≤◌, List, [], ◌∷◌, length, take, drop, slice_get, refl, sym, ap, ◌∙◌, subst, arith, length-drop, length-take-le, Vec}
use Rattle.std.proofs.lemmas.Slice.{take-put_mid_below, between-put_mid, drop-put_mid}
use Rattle.std.proofs.lemmas.List.{take_at}
use Rattle.std.specs.Vec.{with_items}
use borrow.Rule.Slice.PartMut.{put_mid, same_len_mid}

pub slice_get-take : {A : Type 0} (k : ℕ) (xs : List A) (n : ℕ) → n < k → slice_get (take k xs) n ≡ slice_get xs n
slice_get-take zero xs n h = absurd (omega arith)
slice_get-take (suc k) [] n h = refl
slice_get-take (suc k) (x ∷ xs) zero h = refl
slice_get-take (suc k) (x ∷ xs) (suc n) h = slice_get-take k xs n (omega arith)

pub slice_get-drop : {A : Type 0} (k : ℕ) (xs : List A) (n : ℕ) → slice_get (drop k xs) n ≡ slice_get xs (k + n)
slice_get-drop zero xs n = ap (slice_get xs) (omega arith)
slice_get-drop (suc k) [] n = refl
slice_get-drop (suc k) (x ∷ xs) n = slice_get-drop k xs n ∙ ap (slice_get (x ∷ xs)) (let e : suc (k + n) ≡ suc k + n = omega arith in e)

-- from element a on stand these now, and the others are as before
pub record IsPlaced {A : Type 0} (a : ℕ) (xs ys zs : List A) : Type 0 where
  pub long : length zs ≡ length xs
  pub before : (n : ℕ) → n < a → slice_get zs n ≡ slice_get xs n
  pub inside : (n : ℕ) → n < length ys → slice_get zs (a + n) ≡ slice_get ys n
  pub behind : (n : ℕ) → a + length ys ≤ n → slice_get zs n ≡ slice_get xs n

pub placed : {A : Type 0} (a k : ℕ) (xs ys : List A) → a + k ≤ length xs → length ys ≡ k → IsPlaced a xs ys (put_mid a k xs ys)
placed a k xs ys room long =
    let zs : List _ = put_mid a k xs ys in
    record {
      long = same_len_mid a k xs ys (omega (arith, long, length-take-le k (drop a xs) (omega (arith, room, length-drop a xs))));
      before = λ n h. sym (slice_get-take a zs n h) ∙ ap (λ (l : List _). slice_get l n) (take-put_mid_below a k xs ys a (omega arith) (omega arith)) ∙ slice_get-take a xs n h;
      inside = λ n h.
          let size : k ≡ a + k - a = omega arith in
          sym (slice_get-drop a zs n)
          ∙ sym (slice_get-take (a + k - a) (drop a zs) n (omega arith))
          ∙ ap (λ (l : List _). slice_get l n) (between-put_mid a k xs ys (a + k) (omega arith) (long ∙ size));
      behind = λ n h.
          let m : ℕ = n - (a + k) in
          let e : a + k + m ≡ n = omega arith in
          subst (λ (j : ℕ). slice_get zs j ≡ slice_get xs j) e
          (sym (slice_get-drop (a + k) zs m) ∙ ap (λ (l : List _). slice_get l m) (drop-put_mid a k xs ys (a + k) (omega arith) (omega arith) long) ∙ slice_get-drop (a + k) xs m);
    }

-- and of a vector
pub placed_in : {A Z : Type 0} (v : Vec A Z) (a k : ℕ) (xs ys : List A) → xs ≡ v.items → a + k ≤ length v.items → length ys ≡ k → IsPlaced a v.items ys (with_items v (put_mid a k xs ys)).items
placed_in v a k xs ys is room long =
    let there = placed a k v.items ys room long in
    subst (λ (l : List _). IsPlaced a v.items ys l)
    (sym (ap (λ (l : List _). (with_items v (put_mid a k l ys)).items) is ∙ take_at (put_mid a k v.items ys) (drop (length (put_mid a k v.items ys)) v.items) v.len (there.long ∙ sym v.ok.0)))
    there
