-- One listener after the other.
use Rattle.std.proofs.Common.{◌≡◌, ℕ, zero, suc, ◌+◌, ◌<◌, ◌≤◌, List, [], ◌∷◌, ◌++◌, map, drop, take, length, get_or, refl, sym, ap, ap₂, ◌∙◌, subst, arith, Some}
use Rattle.std.specs.Prelude.{slice_get}
use Rattle.std.proofs.lemmas.List.{length-set}
use Rattle.vs_design.specs.Designs.{Process}
use Rattle.vs_writes.proofs.Writing.{drop_at, drop_end}
use Rattle.vs_events.specs.declared.listener.Listener.{Listener}
use Rattle.vs_events.specs.Wired.{Sensitivity, after_listen, after_listens}
use Rattle.vs_queue.specs.Listens.{process_listens, listens_from}
use Rattle.vs_queue.specs.There.{AllThere}

-- the listeners of these things, as far as they are told, and those of the rest
pub record AreTold {A : Type 0} (to : A → Sensitivity) (xs : List A) (first now : List (List Listener)) (k : ℕ) : Type 0 where
  pub told : after_listens now (map to (drop k xs)) ≡ after_listens first (map to xs)
  pub there : (count : ℕ) × AllThere (length now) count (map to (drop k xs))

got_is : {A : Type 0} (xs : List A) (k : ℕ) (x : A) → slice_get xs k ≡ Some x → x ≡ get_or xs k x
got_is [] k x h = refl
got_is (y ∷ ys) zero x h = let same : y ≡ x = cc in sym same
got_is (y ∷ ys) (suc k) x h = got_is ys k x h

pub number_got : (ns : List ℕ) (k : ℕ) → k < length ns → slice_get ns k ≡ Some (get_or ns k 0)
number_got [] k l = absurd (omega (arith, l))
number_got (n ∷ ns) zero l = refl
number_got (n ∷ ns) (suc k) l = number_got ns k (omega (arith, l))

module _ {A : Type 0} (to : A → Sensitivity) (xs : List A) (first now : List (List Listener)) (k : ℕ) (x : A) (is : slice_get xs k ≡ Some x) (l : k < length xs) (r : AreTold to xs first now k) where
  here : drop k xs ≡ x ∷ drop (k + 1) xs
  here = drop_at xs k x (got_is xs k x is) l

  all : AllThere (length now) r.there.0 (to x ∷ map to (drop (k + 1) xs))
  all = subst (λ (ys : List A). AllThere (length now) r.there.0 (map to ys)) here r.there.1

  pub bit_there : (to x).bit < length now
  bit_there = all.0

  pub told_more : (next : List (List Listener)) → next ≡ after_listen now (to x) → AreTold to xs first next (k + 1)
  told_more next e = record {
    told = ap (λ w. after_listens w (map to (drop (k + 1) xs))) e ∙ ap (λ (ys : List A). after_listens now (map to ys)) (sym here) ∙ r.told;
    there = (r.there.0, subst (λ n. AllThere n r.there.0 (map to (drop (k + 1) xs))) (sym (ap length e ∙ length-set now (to x).bit (get_or now (to x).bit [] ++ (to x).listener ∷ []))) all.2);
  }

pub told_all : {A : Type 0} (to : A → Sensitivity) (xs : List A) (first now : List (List Listener)) (k : ℕ) → length xs ≤ k → AreTold to xs first now k → now ≡ after_listens first (map to xs)
told_all to xs first now k l r = ap (λ ys. after_listens now (map to ys)) (sym (drop_end k xs l)) ∙ r.told

map_drop : {A B : Type 0} (f : A → B) (xs : List A) (k : ℕ) → map f (drop k xs) ≡ drop k (map f xs)
map_drop f xs zero = refl
map_drop f [] (suc k) = refl
map_drop f (x ∷ xs) (suc k) = map_drop f xs k

-- ---- process after process

pub both_listen : (ss ts : List Sensitivity) (table : List (List Listener)) → after_listens table (ss ++ ts) ≡ after_listens (after_listens table ss) ts
both_listen [] ts table = refl
both_listen (s ∷ ss) ts table = both_listen ss ts (after_listen table s)

pub listens_length : (ss : List Sensitivity) (table : List (List Listener)) → length (after_listens table ss) ≡ length table
listens_length [] table = refl
listens_length (s ∷ ss) table = listens_length ss (after_listen table s) ∙ length-set table s.bit (get_or table s.bit [] ++ s.listener ∷ [])

append_nil : {A : Type 0} (xs : List A) → xs ++ [] ≡ xs
append_nil [] = refl
append_nil (x ∷ xs) = ap (λ ys. x ∷ ys) (append_nil xs)

assoc : {A : Type 0} (xs ys zs : List A) → (xs ++ ys) ++ zs ≡ xs ++ (ys ++ zs)
assoc [] ys zs = refl
assoc (x ∷ xs) ys zs = ap (λ ws. x ∷ ws) (assoc xs ys zs)

one_process_next : (count r k : ℕ) (xs : List Process) (x : Process) → slice_get xs k ≡ Some x → listens_from count r (take (suc k) xs) ≡ listens_from count r (take k xs) ++ process_listens count (r + k) x
one_process_next count r k [] x at = cc
one_process_next count r zero (y ∷ ys) x at =
    let same : y ≡ x = cc in
    let here : r ≡ r + 0 = omega arith in
    append_nil (process_listens count r y) ∙ ap₂ (λ q z. process_listens count q z) here same
one_process_next count r (suc k) (y ∷ ys) x at =
    let next : suc r + k ≡ r + suc k = omega arith in
    ap (λ zs. process_listens count r y ++ zs) (one_process_next count (suc r) k ys x at ∙ ap (λ q. listens_from count (suc r) (take k ys) ++ process_listens count q x) next)
    ∙ sym (assoc (process_listens count r y) (listens_from count (suc r) (take k ys)) (process_listens count (r + suc k) x))

pub one_process_more : (count k : ℕ) (xs : List Process) (x : Process) → slice_get xs k ≡ Some x → listens_from count 0 (take (k + 1) xs) ≡ listens_from count 0 (take k xs) ++ process_listens count k x
one_process_more count k xs x at =
    ap (λ m. listens_from count 0 (take m xs)) (let e : k + 1 ≡ suc k = omega arith in e) ∙ one_process_next count 0 k xs x at
    ∙ ap (λ q. listens_from count 0 (take k xs) ++ process_listens count q x) (let e : 0 + k ≡ k = omega arith in e)

-- ---- events

pub map_twice : {A B C : Type 0} (f : B → C) (g : A → B) (xs : List A) → map f (map g xs) ≡ map (λ x. f (g x)) xs
map_twice f g [] = refl
map_twice f g (x ∷ xs) = ap (λ ys. f (g x) ∷ ys) (map_twice f g xs)

pub item_got : {A : Type 0} (xs : List A) (k : ℕ) (x : A) → x ≡ get_or xs k x → k < length xs → slice_get xs k ≡ Some x
item_got [] k x is l = absurd (omega (arith, l))
item_got (y ∷ ys) zero x is l = ap Some (sym is)
item_got (y ∷ ys) (suc k) x is l = item_got ys k x is (omega (arith, l))

pub item_at : {A : Type 0} (xs : List A) (k : ℕ) (d : A) → k < length xs → slice_get xs k ≡ Some (get_or xs k d)
item_at [] k d l = absurd (omega (arith, l))
item_at (x ∷ xs) zero d l = refl
item_at (x ∷ xs) (suc k) d l = item_at xs k d (omega (arith, l))
