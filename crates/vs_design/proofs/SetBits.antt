-- Values that are in sets, and operators on them.
use Rattle.std.proofs.Common.{◌≡◌, ℕ, zero, suc, ◌-◌, Bool, true, false, List, [], ◌∷◌, ◌++◌, ◌||◌, ◌&&◌, not, refl, sym, ap, subst, map, length, take, drop, replicate}
use Rattle.std.specs.List.{list_any, list_all}
use Rattle.vs_four.specs.declared.Bit4.{Bit4}
use Rattle.vs_four.specs.declared.Bit4.TheVariants.{Zero, One, X, Z}
use Rattle.vs_four.specs.Logic.{BitList, map2, fold_with, all_known}
use Rattle.vs_four.specs.Lengths.{last_or, extend, extend_with, repeat}
use Rattle.vs_four.specs.Tables.{is_known}
use Rattle.vs_four.specs.Shifts.{move_up, move_down}
use Rattle.vs_design.specs.Sets.{Set4, has, only, union, when, image, image2, is_unknown_set, is_known_set}
use Rattle.vs_design.specs.Lifted.{extend_sets}
use Rattle.vs_design.specs.TreeLaws.{AllIn, none_in, one_in}
use Rattle.vs_design.proofs.Lists.{by_test, or_left, or_right, and_both}

pub union_left : (s t : Set4) (v : Bit4) → has s v ≡ true → has (union s t) v ≡ true
union_left s t Zero h = or_left s.zero? t.zero? h
union_left s t One h = or_left s.one? t.one? h
union_left s t X h = or_left s.x? t.x? h
union_left s t Z h = or_left s.z? t.z? h

pub union_right : (s t : Set4) (v : Bit4) → has t v ≡ true → has (union s t) v ≡ true
union_right s t Zero h = or_right s.zero? t.zero? h
union_right s t One h = or_right s.one? t.one? h
union_right s t X h = or_right s.x? t.x? h
union_right s t Z h = or_right s.z? t.z? h

pub has_only : (v : Bit4) → has (only v) v ≡ true
has_only Zero = refl
has_only One = refl
has_only X = refl
has_only Z = refl

and_true : (a b : Bool) → a ≡ true → b ≡ true → (a && b) ≡ true
and_true true b h k = k
and_true false b h k = h

pub has_when : (c : Bool) (s : Set4) (v : Bit4) → c ≡ true → has s v ≡ true → has (when c s) v ≡ true
has_when c s Zero h k = and_true c s.zero? h k
has_when c s One h k = and_true c s.one? h k
has_when c s X h k = and_true c s.x? h k
has_when c s Z h k = and_true c s.z? h k

pub image_has : (f : Bit4 → Bit4) (s : Set4) (v : Bit4) → has s v ≡ true → has (image f s) (f v) ≡ true
image_has f s Zero h = union_left (when s.zero? (only (f Zero))) _ (f Zero) (has_when s.zero? (only (f Zero)) (f Zero) h (has_only (f Zero)))
image_has f s One h = union_right (when s.zero? (only (f Zero))) _ (f One) (union_left (when s.one? (only (f One))) _ (f One) (has_when s.one? (only (f One)) (f One) h (has_only (f One))))
image_has f s X h = union_right (when s.zero? (only (f Zero))) _ (f X) (union_right (when s.one? (only (f One))) _ (f X) (union_left (when s.x? (only (f X))) _ (f X) (has_when s.x? (only (f X)) (f X) h (has_only (f X)))))
image_has f s Z h = union_right (when s.zero? (only (f Zero))) _ (f Z) (union_right (when s.one? (only (f One))) _ (f Z) (union_right (when s.x? (only (f X))) _ (f Z) (has_when s.z? (only (f Z)) (f Z) h (has_only (f Z)))))

pub image2_has : (f : Bit4 → Bit4 → Bit4) (s t : Set4) (u v : Bit4) → has s u ≡ true → has t v ≡ true → has (image2 f s t) (f u v) ≡ true
image2_has f s t Zero v h k = union_left (when s.zero? (image (f Zero) t)) _ (f Zero v) (has_when s.zero? (image (f Zero) t) (f Zero v) h (image_has (f Zero) t v k))
image2_has f s t One v h k = union_right (when s.zero? (image (f Zero) t)) _ (f One v) (union_left (when s.one? (image (f One) t)) _ (f One v) (has_when s.one? (image (f One) t) (f One v) h (image_has (f One) t v k)))
image2_has f s t X v h k = union_right (when s.zero? (image (f Zero) t)) _ (f X v) (union_right (when s.one? (image (f One) t)) _ (f X v) (union_left (when s.x? (image (f X) t)) _ (f X v) (has_when s.x? (image (f X) t) (f X v) h (image_has (f X) t v k))))
image2_has f s t Z v h k = union_right (when s.zero? (image (f Zero) t)) _ (f Z v) (union_right (when s.one? (image (f One) t)) _ (f Z v) (union_right (when s.x? (image (f X) t)) _ (f Z v) (has_when s.z? (image (f Z) t) (f Z v) h (image_has (f Z) t v k))))

pub all_length : {ss : List Set4} {vs : BitList} → AllIn ss vs → length ss ≡ length vs
all_length none_in = refl
all_length (one_in e h) = ap suc (all_length h)

pub all_map : (f : Bit4 → Bit4) {ss : List Set4} {vs : BitList} → AllIn ss vs → AllIn (map (image f) ss) (map f vs)
all_map f none_in = none_in
all_map f (one_in {s} {v} e h) = one_in (image_has f s v e) (all_map f h)

pub all_map2 : (f : Bit4 → Bit4 → Bit4) {ss ts : List Set4} {us vs : BitList} → AllIn ss us → AllIn ts vs → AllIn (map2 (image2 f) ss ts) (map2 f us vs)
all_map2 f none_in k = none_in
all_map2 f (one_in e h) none_in = none_in
all_map2 f (one_in {s} {v = u} e h) (one_in {s = t} {v} d k) = one_in (image2_has f s t u v e d) (all_map2 f h k)

pub all_fold : (f : Bit4 → Bit4 → Bit4) (s : Set4) (v : Bit4) {ss : List Set4} {vs : BitList} → has s v ≡ true → AllIn ss vs → has (fold_with (image2 f) s ss) (fold_with f v vs) ≡ true
all_fold f s v k none_in = k
all_fold f s v k (one_in {s = t} {v = u} e h) = all_fold f (image2 f s t) (f v u) (image2_has f s t v u k e) h

pub all_append : {ss ts : List Set4} {us vs : BitList} → AllIn ss us → AllIn ts vs → AllIn (ss ++ ts) (us ++ vs)
all_append none_in k = k
all_append (one_in e h) k = one_in e (all_append h k)

pub all_replicate : (n : ℕ) (s : Set4) (v : Bit4) → has s v ≡ true → AllIn (replicate n s) (replicate n v)
all_replicate zero s v h = none_in
all_replicate (suc n) s v h = one_in h (all_replicate n s v h)

pub all_take : (n : ℕ) {ss : List Set4} {vs : BitList} → AllIn ss vs → AllIn (take n ss) (take n vs)
all_take zero h = none_in
all_take (suc n) none_in = none_in
all_take (suc n) (one_in e h) = one_in e (all_take n h)

pub all_drop : (n : ℕ) {ss : List Set4} {vs : BitList} → AllIn ss vs → AllIn (drop n ss) (drop n vs)
all_drop zero h = h
all_drop (suc n) none_in = none_in
all_drop (suc n) (one_in e h) = all_drop n h

pub all_last : (s : Set4) (v : Bit4) {ss : List Set4} {vs : BitList} → has s v ≡ true → AllIn ss vs → has (last_or s ss) (last_or v vs) ≡ true
all_last s v k none_in = k
all_last s v k (one_in {s = t} {v = u} e h) = all_last t u e h

pub all_repeat : (n : ℕ) {ss : List Set4} {vs : BitList} → AllIn ss vs → AllIn (repeat n ss) (repeat n vs)
all_repeat zero h = none_in
all_repeat (suc n) h = all_append h (all_repeat n h)

pub all_only : (vs : BitList) → AllIn (map only vs) vs
all_only [] = none_in
all_only (v ∷ vs) = one_in (has_only v) (all_only vs)

pub all_extend_with : (s : Set4) (v : Bit4) (w : ℕ) {ss : List Set4} {vs : BitList} → has s v ≡ true → AllIn ss vs → AllIn (extend_with s w ss) (extend_with v w vs)
all_extend_with s v w {ss} {vs} k h = all_append h (subst (λ n. AllIn (replicate (w - length ss) s) (replicate (w - n) v)) (all_length h) (all_replicate (w - length ss) s v k))

pub all_extend : (w : ℕ) (g : Bool) {ss : List Set4} {vs : BitList} → AllIn ss vs → AllIn (extend_sets w g ss) (extend w g vs)
all_extend w true h = all_extend_with _ _ w (all_last (only Zero) Zero refl h) h
all_extend w false h = all_extend_with (only Zero) Zero w refl h

pub all_move_up : (s : Set4) (v : Bit4) (n : ℕ) {ss : List Set4} {vs : BitList} → has s v ≡ true → AllIn ss vs → AllIn (move_up s n ss) (move_up v n vs)
all_move_up s v n {ss} {vs} k h = subst (λ m. AllIn (move_up s n ss) (take m (replicate n v ++ vs))) (all_length h) (all_take (length ss) (all_append (all_replicate n s v k) h))

pub all_move_down : (s : Set4) (v : Bit4) (n : ℕ) {ss : List Set4} {vs : BitList} → has s v ≡ true → AllIn ss vs → AllIn (move_down s n ss) (move_down v n vs)
all_move_down s v n {ss} {vs} k h = subst (λ m. AllIn (move_down s n ss) (take m (drop n vs ++ replicate m v))) (all_length h) (all_take (length ss) (all_append (all_drop n h) (all_replicate (length ss) s v k)))

-- ---- known and unknown bits

pub unknown_is : (s : Set4) (v : Bit4) → is_unknown_set s ≡ true → has s v ≡ true → is_known v ≡ false
unknown_is s Zero h k = subst (λ c. (not c && not s.one?) ≡ true → true ≡ false) (sym k) (λ e. cc) h
unknown_is s One h k = subst (λ c. (not s.zero? && not c) ≡ true → true ≡ false) (sym k) (λ e. absurd (go s.zero? e)) h
  where
    go : (b : Bool) → (not b && false) ≡ true → ⊥
    go true e = cc
    go false e = cc
unknown_is s X h k = refl
unknown_is s Z h k = refl

pub known_is : (s : Set4) (v : Bit4) → is_known_set s ≡ true → has s v ≡ true → is_known v ≡ true
known_is s Zero h k = refl
known_is s One h k = refl
known_is s X h k = subst (λ c. (not c && not s.z?) ≡ true → false ≡ true) (sym k) (λ e. e) h
known_is s Z h k = subst (λ c. (not s.x? && not c) ≡ true → false ≡ true) (sym k) (λ e. absurd (go s.x? e)) h
  where
    go : (b : Bool) → (not b && false) ≡ true → ⊥
    go true e = cc
    go false e = cc

pub some_unknown : {ss : List Set4} {vs : BitList} → AllIn ss vs → list_any is_unknown_set ss ≡ true → all_known vs ≡ false
some_unknown none_in k = cc
some_unknown (one_in {s} {v} {ss} {vs} e h) k =
    by_test (is_unknown_set s)
    (λ q. ap (λ c. c && all_known vs) (unknown_is s v q e))
    (λ q. subst (λ c. (is_known v && c) ≡ false) (sym (some_unknown h (subst (λ c. (c || list_any is_unknown_set ss) ≡ true) q k))) (go (is_known v)))
  where
    go : (b : Bool) → (b && false) ≡ false
    go true = refl
    go false = refl

pub each_known : {ss : List Set4} {vs : BitList} → AllIn ss vs → list_all is_known_set ss ≡ true → all_known vs ≡ true
each_known none_in k = refl
each_known (one_in {s} {v} {ss} {vs} e h) k =
    let p = and_both (is_known_set s) (list_all is_known_set ss) k in
    and_true (is_known v) (all_known vs) (known_is s v p.0 e) (each_known h p.1)
