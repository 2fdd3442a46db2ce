-- An assignment by the parts of its target.
use Rattle.std.proofs.Common.{◌≡◌, ℕ, zero, suc, ◌+◌, ◌*◌, ◌≤◌, Bool, true, false, ◌&&◌, ◌==◌, List, [], ◌∷◌, ◌++◌, map, length, take, drop, sum_by, Option, Some, None, IsSome, sym, ap, ◌∙◌, subst, refl, arith, append-nil, append_assoc, if◌then◌else◌}
use Rattle.std.specs.Prelude.{unwrap_or}
use Rattle.std.specs.List.{All, flat_map}
use Rattle.std.proofs.lemmas.List.{drop-take}
use Rattle.std.proofs.lemmas.List.Concat.{flat_map-append}
use Rattle.std.proofs.lemmas.List.Sums.{sum_by-append, sum_by-cons}
use Rattle.std.proofs.lemmas.List.Elements.{All-nil, All-cons, All-append}
use Rattle.vs_four.specs.Logic.{BitList}
use Rattle.vs_net.specs.Network as N
use Rattle.vs_design.specs.Expressions as E
use Rattle.vs_design.specs.Expressions.{width, sign, is_constant}
use Rattle.vs_design.specs.Fits.{fits_64, fits_target}
use Rattle.vs_design.specs.Statements.{Target, Whole, PartOf, WordOf, WordPartOf, Both, target_width}
use Rattle.vs_design.specs.Bodies.{target_writes}
use Rattle.vs_design.specs.Footprints.{contains, target_bits}
use Rattle.vs_design.specs.Sizes.{target_weight}
use Rattle.vs_flat.specs.Targets.{target_of, both_of}
use Rattle.vs_flat.specs.Trees.{no_signal, target_tree}
use Rattle.vs_code.specs.Calls.{Call}
use Rattle.vs_lower.specs.Done.{index_values, IsWritten}
use Rattle.vs_values.specs.Added.{Holds}
use Rattle.vs_lower.specs.Leaves.{leaves_of, joined_target}
use Rattle.vs_lower.specs.Written.{write_weight, index_weight}
use Rattle.vs_values.proofs.Folding.{constant_weight}
use Rattle.vs_lower.proofs.Rejoined.{width_joined}
use Rattle.vs_values.proofs.Values.{both_true}

-- ---- a target and its parts

pub some_leaf : (t : Target) → 1 ≤ length (leaves_of t)
some_leaf (Whole signal) = omega arith
some_leaf (PartOf signal part index) = omega arith
some_leaf (WordOf signal index) = omega arith
some_leaf (WordPartOf signal address part index) = omega arith
some_leaf (Both high low) = omega (arith, some_leaf high, some_length (leaves_of high) (leaves_of low))
  where
    some_length : (xs ys : List Target) → length xs ≤ length (xs ++ ys)
    some_length [] ys = omega arith
    some_length (x ∷ xs) ys = omega (arith, some_length xs ys)

pub leaf_widths : (t : Target) → target_width t ≡ sum_by target_width (leaves_of t)
leaf_widths (Whole signal) = sym (sum_by-cons target_width (Whole signal) [] ∙ omega arith)
leaf_widths (PartOf signal part index) = sym (sum_by-cons target_width (PartOf signal part index) [] ∙ omega arith)
leaf_widths (WordOf signal index) = sym (sum_by-cons target_width (WordOf signal index) [] ∙ omega arith)
leaf_widths (WordPartOf signal address part index) = sym (sum_by-cons target_width (WordPartOf signal address part index) [] ∙ omega arith)
leaf_widths (Both high low) = omega (arith, leaf_widths high, leaf_widths low, sum_by-append target_width (leaves_of high) (leaves_of low))

split_weight : (signal : E.Signal) (part : _) (index : E.Expression) (b : Bool) → is_constant index ≡ b → target_weight (PartOf signal part index) ≡ write_weight (PartOf signal part index) + index_weight (PartOf signal part index)
split_weight signal part index true h = grind (arith, constant_weight index (width index) h)
split_weight signal part index false h = grind arith

word_weight : (signal : E.Signal) (index : E.Expression) (b : Bool) → is_constant index ≡ b → target_weight (WordOf signal index) ≡ write_weight (WordOf signal index) + index_weight (WordOf signal index)
word_weight signal index true h = grind (arith, constant_weight index (width index) h)
word_weight signal index false h = grind arith

word_part_weight : (signal : E.Signal) (address : E.Expression) (part : _) (index : E.Expression) (a b : Bool) → is_constant address ≡ a → is_constant index ≡ b
    → target_weight (WordPartOf signal address part index) ≡ write_weight (WordPartOf signal address part index) + index_weight (WordPartOf signal address part index)
word_part_weight signal address part index true true g h = grind (arith, constant_weight address (width address) g, constant_weight index (width index) h)
word_part_weight signal address part index true false g h = grind (arith, constant_weight address (width address) g)
word_part_weight signal address part index false true g h = grind (arith, constant_weight index (width index) h)
word_part_weight signal address part index false false g h = grind arith

pub leaf_weights : (t : Target) → target_weight t ≡ sum_by write_weight (leaves_of t) + sum_by index_weight (leaves_of t)
leaf_weights (Whole signal) = sym (omega (arith, sum_by-cons write_weight (Whole signal) [], sum_by-cons index_weight (Whole signal) []))
leaf_weights (PartOf signal part index) =
    let here = split_weight signal part index (is_constant index) refl in
    omega (arith, here, sum_by-cons write_weight (PartOf signal part index) [], sum_by-cons index_weight (PartOf signal part index) [])
leaf_weights (WordOf signal index) =
    let here = word_weight signal index (is_constant index) refl in
    omega (arith, here, sum_by-cons write_weight (WordOf signal index) [], sum_by-cons index_weight (WordOf signal index) [])
leaf_weights (WordPartOf signal address part index) =
    let here = word_part_weight signal address part index (is_constant address) (is_constant index) refl refl in
    omega (arith, here, sum_by-cons write_weight (WordPartOf signal address part index) [], sum_by-cons index_weight (WordPartOf signal address part index) [])
leaf_weights (Both high low) = omega (arith, leaf_weights high, leaf_weights low, sum_by-append write_weight (leaves_of high) (leaves_of low), sum_by-append index_weight (leaves_of high) (leaves_of low))

pub leaf_fits : (t : Target) → fits_target t ≡ true → All (λ x. fits_target x ≡ true) (leaves_of t)
leaf_fits (Whole signal) h = All-cons (λ x. fits_target x ≡ true) (Whole signal) [] h (All-nil (λ x. fits_target x ≡ true))
leaf_fits (PartOf signal part index) h = All-cons (λ x. fits_target x ≡ true) (PartOf signal part index) [] h (All-nil (λ x. fits_target x ≡ true))
leaf_fits (WordOf signal index) h = All-cons (λ x. fits_target x ≡ true) (WordOf signal index) [] h (All-nil (λ x. fits_target x ≡ true))
leaf_fits (WordPartOf signal address part index) h = All-cons (λ x. fits_target x ≡ true) (WordPartOf signal address part index) [] h (All-nil (λ x. fits_target x ≡ true))
leaf_fits (Both high low) h =
    let p = both_true (fits_64 (target_width high + target_width low) && fits_target high) (fits_target low) h in
    let q = both_true (fits_64 (target_width high + target_width low)) (fits_target high) p.0 in
    All-append (λ x. fits_target x ≡ true) (leaves_of high) (leaves_of low) (leaf_fits high q.1) (leaf_fits low p.1)

pub leaf_indices : (t : Target) (state : N.State) → index_values t state ≡ flat_map (λ x. index_values x state) (leaves_of t)
leaf_indices (Whole signal) state = sym (append-nil ([] ∷ []))
leaf_indices (PartOf signal part index) state = sym (append-nil (index_values (PartOf signal part index) state))
leaf_indices (WordOf signal index) state = sym (append-nil (index_values (WordOf signal index) state))
leaf_indices (WordPartOf signal address part index) state = sym (append-nil (index_values (WordPartOf signal address part index) state))
leaf_indices (Both high low) state =
    ap (λ (vs : List BitList). vs ++ index_values low state) (leaf_indices high state)
    ∙ ap (λ (vs : List BitList). flat_map (λ x. index_values x state) (leaves_of high) ++ vs) (leaf_indices low state)
    ∙ sym (flat_map-append (λ x. index_values x state) (leaves_of high) (leaves_of low))

-- ---- the concatenation of the parts

joined_bits : (t : Target) (ts : List Target) → target_bits (joined_target (t ∷ ts)) ≡ flat_map target_bits (t ∷ ts)
joined_bits t [] = sym (append-nil (target_bits t))
joined_bits t (u ∷ ts) = ap (λ (bs : List ℕ). target_bits t ++ bs) (joined_bits u ts)

joined_indices : (t : Target) (ts : List Target) (state : N.State) → index_values (joined_target (t ∷ ts)) state ≡ flat_map (λ x. index_values x state) (t ∷ ts)
joined_indices t [] state = sym (append-nil (index_values t state))
joined_indices t (u ∷ ts) state = ap (λ (vs : List BitList). index_values t state ++ vs) (joined_indices u ts state)

leaf_bits : (t : Target) → target_bits t ≡ flat_map target_bits (leaves_of t)
leaf_bits (Whole signal) = sym (append-nil (target_bits (Whole signal)))
leaf_bits (PartOf signal part index) = sym (append-nil (target_bits (PartOf signal part index)))
leaf_bits (WordOf signal index) = sym (append-nil (target_bits (WordOf signal index)))
leaf_bits (WordPartOf signal address part index) = sym (append-nil (target_bits (WordPartOf signal address part index)))
leaf_bits (Both high low) =
    ap (λ (bs : List ℕ). bs ++ target_bits low) (leaf_bits high) ∙ ap (λ (bs : List ℕ). flat_map target_bits (leaves_of high) ++ bs) (leaf_bits low) ∙ sym (flat_map-append target_bits (leaves_of high) (leaves_of low))

drop_sum : {A : Type 0} (j k : ℕ) (v : List A) → drop (j + k) v ≡ drop j (drop k v)
drop_sum j zero v = let z : j + 0 ≡ j = omega arith in ap (λ n. drop n v) z
drop_sum j (suc k) [] = none (j + suc k) ∙ sym (none j)
  where
    none : {A : Type 0} (n : ℕ) → drop {A = A} n [] ≡ []
    none zero = refl
    none (suc n) = refl
drop_sum j (suc k) (x ∷ v) = let z : j + suc k ≡ suc (j + k) = omega arith in ap (λ n. drop n (x ∷ v)) z ∙ drop_sum j k v

take_sum : {A : Type 0} (j k : ℕ) (v : List A) → take k (take (j + k) v) ≡ take k v
take_sum j zero v = refl
take_sum j (suc k) [] = let z : j + suc k ≡ suc (j + k) = omega arith in ap (λ n. take (suc k) (take n [])) z
take_sum j (suc k) (x ∷ v) = let z : j + suc k ≡ suc (j + k) = omega arith in ap (λ n. take (suc k) (take n (x ∷ v))) z ∙ ap (λ ys. x ∷ ys) (take_sum j k v)

joined_append : (xs ys : List Target) (v : BitList) (s : N.State) → 1 ≤ length xs → 1 ≤ length ys
    → target_writes (joined_target (xs ++ ys)) v s ≡ target_writes (joined_target xs) (drop (target_width (joined_target ys)) v) s ++ target_writes (joined_target ys) (take (target_width (joined_target ys)) v) s
joined_append [] ys v s l m = absurd (omega arith)
joined_append (x ∷ xs) [] v s l m = absurd (omega arith)
joined_append (x ∷ []) (y ∷ ys) v s l m = refl
joined_append (x ∷ z ∷ zs) (y ∷ ys) v s l m =
    let j = target_width (joined_target (z ∷ zs)) in
    let k = target_width (joined_target (y ∷ ys)) in
    let total : target_width (joined_target (z ∷ (zs ++ y ∷ ys))) ≡ j + k =
    omega (arith, width_joined z (zs ++ y ∷ ys), width_joined z zs, width_joined y ys, sum_by-append target_width (z ∷ zs) (y ∷ ys)) in
    ap (λ (n : ℕ). target_writes x (drop n v) s ++ target_writes (joined_target (z ∷ (zs ++ y ∷ ys))) (take n v) s) total
    ∙ ap (λ (ws : List N.Write). target_writes x (drop (j + k) v) s ++ ws) (joined_append (z ∷ zs) (y ∷ ys) (take (j + k) v) s (omega arith) m)
    ∙ ap (λ (u : BitList). target_writes x u s ++ (target_writes (joined_target (z ∷ zs)) (drop k (take (j + k) v)) s ++ target_writes (joined_target (y ∷ ys)) (take k (take (j + k) v)) s)) (drop_sum j k v)
    ∙ ap (λ (u : BitList). target_writes x (drop j (drop k v)) s ++ (target_writes (joined_target (z ∷ zs)) u s ++ target_writes (joined_target (y ∷ ys)) (take k (take (j + k) v)) s)) (flip j k v)
    ∙ ap (λ (u : BitList). target_writes x (drop j (drop k v)) s ++ (target_writes (joined_target (z ∷ zs)) (take j (drop k v)) s ++ target_writes (joined_target (y ∷ ys)) u s)) (take_sum j k v)
    ∙ sym (append_assoc (target_writes x (drop j (drop k v)) s) (target_writes (joined_target (z ∷ zs)) (take j (drop k v)) s) (target_writes (joined_target (y ∷ ys)) (take k v) s))
  where
    flip : (j k : ℕ) (u : BitList) → drop k (take (j + k) u) ≡ take j (drop k u)
    flip j k u = let z : j + k ≡ k + j = omega arith in ap (λ n. drop k (take n u)) z ∙ drop-take k j u

pub joined_width : (ts : List Target) → 1 ≤ length ts → target_width (joined_target ts) ≡ sum_by target_width ts
joined_width [] l = absurd (omega arith)
joined_width (t ∷ ts) l = width_joined t ts

pub joined_writes : (t : Target) (v : BitList) (s : N.State) → target_writes t v s ≡ target_writes (joined_target (leaves_of t)) v s
joined_writes (Whole signal) v s = refl
joined_writes (PartOf signal part index) v s = refl
joined_writes (WordOf signal index) v s = refl
joined_writes (WordPartOf signal address part index) v s = refl
joined_writes (Both high low) v s =
    let k : target_width low ≡ target_width (joined_target (leaves_of low)) = leaf_widths low ∙ sym (joined_width (leaves_of low) (some_leaf low)) in
    ap (λ (n : ℕ). target_writes high (drop n v) s ++ target_writes low (take n v) s) k
    ∙ ap (λ (ws : List N.Write). ws ++ target_writes low (take (target_width (joined_target (leaves_of low))) v) s) (joined_writes high (drop (target_width (joined_target (leaves_of low))) v) s)
    ∙ ap (λ (ws : List N.Write). target_writes (joined_target (leaves_of high)) (drop (target_width (joined_target (leaves_of low))) v) s ++ ws) (joined_writes low (take (target_width (joined_target (leaves_of low))) v) s)
    ∙ sym (joined_append (leaves_of high) (leaves_of low) v s (some_leaf high) (some_leaf low))

by_some : (P : List Target → Type 0) (ts : List Target) → 1 ≤ length ts → ((x : Target) (xs : List Target) → P (x ∷ xs)) → P ts
by_some P [] l f = absurd (omega arith)
by_some P (x ∷ xs) l f = f x xs

pub same_bits : (t : Target) → target_bits t ≡ target_bits (joined_target (leaves_of t))
same_bits t = leaf_bits t ∙ by_some (λ ts. flat_map target_bits ts ≡ target_bits (joined_target ts)) (leaves_of t) (some_leaf t) (λ x xs. sym (joined_bits x xs))

pub same_indices : (t : Target) (s : N.State) → index_values t s ≡ index_values (joined_target (leaves_of t)) s
same_indices t s = leaf_indices t s ∙ by_some (λ ts. flat_map (λ x. index_values x s) ts ≡ index_values (joined_target ts) s) (leaves_of t) (some_leaf t) (λ x xs. sym (joined_indices x xs s))

-- what is written to the parts is written to the target
pub written_whole : (env : List ℕ) (mark : ℕ) (t : Target) (tis : List (List ℕ)) (tv : List ℕ) (most : ℕ) (calls : List Call) (env_after : List ℕ) (next : ℕ)
    → IsWritten env mark (joined_target (leaves_of t)) tis tv most calls env_after next → IsWritten env mark t tis tv most calls env_after next
written_whole env mark t tis tv most calls env_after next w = record {
  added = w.added;
  is_env = w.is_env;
  same_length = w.same_length;
  kept = λ b h. w.kept b (ap (λ (bs : List ℕ). contains bs b) (sym (same_bits t)) ∙ h);
  from = w.from;
  values = λ before after state base h is called.
      subst (λ (ws : List N.Write). Holds env_after after (N.write_all base ws)) (sym (joined_writes t (map before tv) state))
      (w.values before after state base h (is ∙ same_indices t state) called);
}

-- ---- the length of a target is that of its expression

some_both : (x y : Option Target) → IsSome (both_of x y) → (IsSome x × IsSome y) × (target_width (unwrap_or (both_of x y) (Whole no_signal)) ≡ target_width (unwrap_or x (Whole no_signal)) + target_width (unwrap_or y (Whole no_signal)))
some_both (Some h) (Some l) s = ((refl, refl), refl)
some_both (Some h) None s = cc
some_both None y s = cc

pub width_of_target : (e : E.Expression) → IsSome (target_of e) → width e ≡ target_width (target_tree e)
width_of_target (E.Literal bits signed sized) s = cc
width_of_target (E.Name signal) s = refl
width_of_target (E.Select (E.OfSignal signal) part index) s = refl
width_of_target (E.Select (E.OfConstant bits) part index) s = cc
width_of_target (E.Word signal index) s = refl
width_of_target (E.WordPart signal address part index) s = refl
width_of_target (E.Unary op a) s = cc
width_of_target (E.Binary op a b) s = cc
width_of_target (E.Choice c p q) s = cc
width_of_target (E.Join high low) s =
    let p = some_both (target_of high) (target_of low) s in
    omega (arith, width_of_target high p.0.0, width_of_target low p.0.1, p.1)
width_of_target (E.Repeat count a) s = by (width_of_target a) (count == 1) refl s
  where
    is_one : (n : ℕ) → (n == 1) ≡ true → n ≡ 1
    is_one n h = grind arith

    by : (IsSome (target_of a) → width a ≡ target_width (target_tree a)) → (b : Bool) → (count == 1) ≡ b → IsSome (if b then target_of a else None) → width (E.Repeat count a) ≡ target_width (target_tree (E.Repeat count a))
    by again true h k =
        let one : width (E.Repeat count a) ≡ width a = ap (λ (n : ℕ). n * width a) (is_one count h) ∙ omega arith in
        one ∙ again k ∙ ap (λ (b : Bool). target_width (unwrap_or (if b then target_of a else None) (Whole no_signal))) (sym h)
    by again false h k = cc
width_of_target (E.At place e) s = width_of_target e s
width_of_target (E.Call header statement arguments) s = cc
