-- Rings of processes: where one is cut, and how it is turned.
use Rattle.std.proofs.Common.{◌≡◌, ℕ, suc, ◌≤◌, ◌<◌, List, [], ◌∷◌, ◌++◌, refl, sym, ap, ◌∙◌, subst, length, get_or, take, drop}
use Rattle.std.proofs.Math.Seq.{drop-cons}
use Rattle.std.proofs.lemmas.List.{take-append-drop}
use Rattle.vs_design.specs.Cycles.{AreAtLeast}
use Rattle.vs_level.specs.Graph.{Feeding, IsLinked, IsRing, IsCircle}
use Rattle.vs_level.proofs.Apart.{apart_turned, least_join, least_parts, least_of}

linked_parts : (g : Feeding) (xs : List ℕ) (y : ℕ) (ys : List ℕ) (last : ℕ) → IsLinked g (xs ++ y ∷ ys) last → IsLinked g xs y × IsLinked g (y ∷ ys) last
linked_parts g [] y ys last h = (tt, h)
linked_parts g (x ∷ []) y ys last h = (h.0, h.1)
linked_parts g (x ∷ z ∷ xs) y ys last h = let k = linked_parts g (z ∷ xs) y ys last h.1 in ((h.0, k.0), k.1)

linked_join : (g : Feeding) (xs : List ℕ) (y : ℕ) (ys : List ℕ) (last : ℕ) → IsLinked g xs y → IsLinked g (y ∷ ys) last → IsLinked g (xs ++ y ∷ ys) last
linked_join g [] y ys last h k = k
linked_join g (x ∷ []) y ys last h k = (h, k)
linked_join g (x ∷ z ∷ xs) y ys last h k = (h.0, linked_join g (z ∷ xs) y ys last h.1 k)

append_nil : (ys : List ℕ) → ys ++ [] ≡ ys
append_nil [] = refl
append_nil (y ∷ ys) = ap {B = List ℕ} (λ zs. y ∷ zs) (append_nil ys)

by_parts : (g : Feeding) (before : List ℕ) (m : ℕ) (after : List ℕ) → IsRing g (before ++ m ∷ after) → AreAtLeast m before → AreAtLeast m after → IsCircle g (m ∷ (after ++ before))
by_parts g [] m after h k l = (subst (λ zs. IsLinked g (m ∷ zs) m) (sym (append_nil after)) h.0, apart_turned [] (m ∷ after) h.1, least_join m after [] l k)
by_parts g (b ∷ bs) m after h k l =
    let c = linked_parts g (b ∷ bs) m after b h.0 in
    (linked_join g (m ∷ after) b bs m c.1 c.0, apart_turned (b ∷ bs) (m ∷ after) h.1, least_join m after (b ∷ bs) l k)

-- a ring that is turned to its least one
pub turned : (g : Feeding) (ring : List ℕ) (k : ℕ) → k < length ring → ((i : ℕ) → i < length ring → get_or ring k 0 ≤ get_or ring i 0) → IsRing g ring → IsCircle g (drop k ring ++ take k ring)
turned g ring k l h r =
    let m : ℕ = get_or ring k 0 in
    let d : drop k ring ≡ m ∷ drop (suc k) ring = drop-cons ring k 0 l in
    let e : take k ring ++ m ∷ drop (suc k) ring ≡ ring = ap {B = List ℕ} (λ zs. take k ring ++ zs) (sym d) ∙ take-append-drop k ring in
    let parts = least_parts m (take k ring) (m ∷ drop (suc k) ring) (subst (AreAtLeast m) (sym e) (least_of m ring h)) in
    subst (λ zs. IsCircle g (zs ++ take k ring)) (sym d) (by_parts g (take k ring) m (drop (suc k) ring) (subst (IsRing g) (sym e) r) parts.0 parts.1.1)
