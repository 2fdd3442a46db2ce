-- The least of the places of mixed assignments.
use Rattle.std.proofs.Common.{◌≡◌, ℕ, ◌+◌, ◌<◌, false, List, [], ◌∷◌, ◌++◌, map, min, take, length, get_or, refl, sym, ap, ◌∙◌, append_assoc, append-nil, Option, Some}
use Rattle.vs_design.specs.Statements as T
use Rattle.vs_design.specs.Rules.{mixed_in, mixed_in_arms}
use Rattle.vs_design.specs.Refusals.{least_with, least}
use Rattle.vs_design.specs.Expressions as E
use Rattle.vs_flat.specs.declared.statements.Arm.{Arm}
use Rattle.vs_flat.specs.Trees.{branch, sequence, arms_tree}
use Rattle.vs_block.specs.Mixed.{mixed_of}
use Rattle.vs_block.proofs.Truth.{map_more}

least_more : (n p : ℕ) (ms : List ℕ) → least_with n (ms ++ p ∷ []) ≡ min (least_with n ms) p
least_more n p [] = refl
least_more n p (m ∷ ms) = least_more (min n m) p ms

-- one place more
pub least_one : (places : List ℕ) (p before : ℕ) → Some before ≡ least places → Some (min before p) ≡ least (places ++ p ∷ [])
least_one [] p before h = cc
least_one (n ∷ ns) p before h = let e : before ≡ least_with n ns = cc in ap (λ m. Some (min m p)) e ∙ ap Some (sym (least_more n p ns))

pub mixed_append : (xs ys : List T.Statement) → mixed_of (xs ++ ys) ≡ mixed_of xs ++ mixed_of ys
mixed_append [] ys = refl
mixed_append (x ∷ xs) ys = ap (λ zs. mixed_in false x ++ zs) (mixed_append xs ys) ∙ sym (append_assoc (mixed_in false x) (mixed_of xs) (mixed_of ys))

pub mixed_one_more : (xs : List T.Statement) (x : T.Statement) → mixed_of (xs ++ x ∷ []) ≡ mixed_of xs ++ mixed_in false x
mixed_one_more xs x = mixed_append xs (x ∷ []) ∙ ap (λ zs. mixed_of xs ++ zs) (append-nil (mixed_in false x))

pub mixed_sequence : (ss : List T.Statement) → mixed_in false (sequence ss) ≡ mixed_of ss
mixed_sequence [] = refl
mixed_sequence (s ∷ []) = sym (append-nil (mixed_in false s))
mixed_sequence (s ∷ t ∷ ss) = ap (λ zs. mixed_in false s ++ zs) (mixed_sequence (t ∷ ss))

pub mixed_arms : (tree : ℕ → E.Expression) (body : ℕ → T.Statement) (other : Option ℕ) (arms : List Arm)
    → mixed_in_arms false (arms_tree tree body other arms) ≡ mixed_of (map (λ (arm : Arm). body arm.statement) arms) ++ mixed_in false (branch body other)
mixed_arms tree body other [] = refl
mixed_arms tree body other (arm ∷ arms) =
    ap (λ zs. mixed_in false (body arm.statement) ++ zs) (mixed_arms tree body other arms)
    ∙ sym (append_assoc (mixed_in false (body arm.statement)) (mixed_of (map (λ (x : Arm). body x.statement) arms)) (mixed_in false (branch body other)))

-- one statement more
pub more_mixed : {A : Type 0} (f : A → T.Statement) (xs : List A) (i : ℕ) (x : A) (places : List ℕ) → i < length xs → x ≡ get_or xs i x
    → (places ++ mixed_of (map f (take i xs))) ++ mixed_in false (f x) ≡ places ++ mixed_of (map f (take (i + 1) xs))
more_mixed {A} f xs i x places h is =
    append_assoc places (mixed_of (map f (take i xs))) (mixed_in false (f x))
    ∙ ap (λ zs. places ++ zs) (sym (mixed_one_more (map f (take i xs)) (f x)) ∙ ap mixed_of (sym (map_more f xs i x h is)))
