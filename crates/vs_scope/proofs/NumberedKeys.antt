-- The numbers of things in a list by keys of theirs.
use Rattle.std.proofs.Common.{◌≡◌, ℕ, zero, suc, ◌<◌, ◌≤◌, ◌+◌, Bool, true, false, ◌==◌, List, [], ◌∷◌, ◌++◌, length, get_or, slice_get, take, Option, Some, None, if◌then◌else◌, refl, sym, ap, ◌∙◌, subst, arith}
use Rattle.std.proofs.lemmas.List.{take_more, take_all}
use Rattle.vs_maps.specs.Places.{found_at, or_at}
use Rattle.vs_maps.specs.PlaceViews.{placed as by_place}
use Rattle.vs_maps.specs.declared.places.PlaceMap.{PlaceMap}
use Rattle.vs_scope.specs.Inside.{first_by}
use Rattle.vs_scope.specs.Locals.{numbered}

module _ {A : Type 0} where
  -- of a key there is none, or the first
  abbrev IsNumberOf : List A → Option ℕ → Option A → Type 0
  IsNumberOf xs None o = o ≡ None
  IsNumberOf xs (Some k) o = (x : A) × (slice_get xs k ≡ Some x) × (o ≡ Some x)

  abbrev or_else : Option A → Option A → Option A
  or_else None b = b
  or_else (Some a) b = Some a

  first_behind : (key : A → ℕ) (xs : List A) (x : A) (n : ℕ) → first_by key (xs ++ x ∷ []) n ≡ or_else (first_by key xs n) (if key x == n then Some x else None)
  first_behind key [] x n = refl
  first_behind key (y ∷ xs) x n = by (key y == n) (first_behind key xs x n)
    where
      by : (b : Bool) → first_by key (xs ++ x ∷ []) n ≡ or_else (first_by key xs n) (if key x == n then Some x else None)
          → (if b then Some y else first_by key (xs ++ x ∷ []) n) ≡ or_else (if b then Some y else first_by key xs n) (if key x == n then Some x else None)
      by true h = refl
      by false h = h

  got : (xs : List A) (i : ℕ) (x : A) → i < length xs → x ≡ get_or xs i x → slice_get xs i ≡ Some x
  got [] i x h e = absurd (omega arith)
  got (y ∷ xs) zero x h e = ap Some (sym e)
  got (y ∷ xs) (suc i) x h e = got xs i x (omega arith) e

-- the first of them are numbered
pub record AreNumberedTo {A : Type 0} (key : A → ℕ) (numbers : PlaceMap ℕ) (xs : List A) (i : ℕ) : Type 0 where
  pub each : (n : ℕ) → IsNumberOf xs (found_at n (by_place numbers)) (first_by key (take i xs) n)

module _ {A : Type 0} where
  pub none_numbered : (key : A → ℕ) (numbers : PlaceMap ℕ) (xs : List A) → by_place numbers ≡ [] → AreNumberedTo key numbers xs 0
  none_numbered key numbers xs h = record { each = λ n. subst (λ ps. IsNumberOf xs (found_at n ps) None) (sym h) refl }

  pub one_numbered : (key : A → ℕ) (old new : PlaceMap ℕ) (xs : List A) (i : ℕ) (x : A) → i < length xs → x ≡ get_or xs i x
      → ((other : ℕ) → found_at other (by_place new) ≡ or_at other (found_at other (by_place old)) (key x) i) → AreNumberedTo key old xs i → AreNumberedTo key new xs (i + 1)
  one_numbered key old new xs i x h e put before = record { each = λ n. at n (found_at n (by_place old)) (before.each n) (put n) }
    where
      more : (n : ℕ) → first_by key (take (i + 1) xs) n ≡ or_else (first_by key (take i xs) n) (if key x == n then Some x else None)
      more n = ap (λ ys. first_by key ys n) (take_more xs i x h ∙ ap (λ (y : A). take i xs ++ y ∷ []) (sym e)) ∙ first_behind key (take i xs) x n

      last : (b : Bool) → IsNumberOf xs (if b then Some i else None) (or_else None (if b then Some x else None))
      last true = (x, got xs i x h e, refl)
      last false = refl

      at : (n : ℕ) (o : Option ℕ) → IsNumberOf xs o (first_by key (take i xs) n) → found_at n (by_place new) ≡ or_at n o (key x) i → IsNumberOf xs (found_at n (by_place new)) (first_by key (take (i + 1) xs) n)
      at n None k is =
          subst (λ (o : Option ℕ). IsNumberOf xs o (first_by key (take (i + 1) xs) n)) (sym is)
          (subst (IsNumberOf xs (if key x == n then Some i else None)) (sym (more n ∙ ap (λ (o : Option A). or_else o (if key x == n then Some x else None)) k)) (last (key x == n)))
      at n (Some m) k is =
          subst (λ (o : Option ℕ). IsNumberOf xs o (first_by key (take (i + 1) xs) n)) (sym is)
          (k.0, k.1, more n ∙ ap (λ (o : Option A). or_else o (if key x == n then Some x else None)) k.2)

  pub all_numbered : (key : A → ℕ) (numbers : PlaceMap ℕ) (xs : List A) (i : ℕ) → length xs ≤ i → AreNumberedTo key numbers xs i → (n : ℕ) → numbered xs (found_at n (by_place numbers)) ≡ first_by key xs n
  all_numbered key numbers xs i h a n = at (found_at n (by_place numbers)) (first_by key (take i xs) n) (a.each n) ∙ ap (λ ys. first_by key ys n) (take_all i xs h)
    where
      at : (m : Option ℕ) (o : Option A) → IsNumberOf xs m o → numbered xs m ≡ o
      at None o k = sym k
      at (Some m) o k = k.1 ∙ sym k.2
