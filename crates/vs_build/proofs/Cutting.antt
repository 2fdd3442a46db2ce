-- Arms that are cut from one list of labels and one of statements.
use Rattle.std.proofs.Common.{◌≡◌, ℕ, zero, suc, ◌+◌, ◌-◌, ◌<◌, ◌≤◌, Bool, true, ◌&&◌, nat_lt, List, [], ◌∷◌, ◌++◌, length, get_or, map, take, drop, Option, slice_get, refl, sym, ap, ◌∙◌, arith, append_assoc, drop-cons}
use Rattle.std.specs.Prelude.{option_to_list}
use Rattle.std.specs.List.{list_all, flat_map}
use Rattle.std.proofs.lemmas.Bool.{ltb-true}
use Rattle.std.proofs.lemmas.List.{take-append-drop, length-drop, length-map, get_or-map, get_or-drop}
use Rattle.vs_design.specs.Expressions as E
use Rattle.vs_design.specs.Statements as T
use Rattle.vs_design.specs.Designs.{Design}
use Rattle.vs_design.specs.Elaborated.{has_items, are_formed, is_formed, is_formed_statement, are_formed_arms}
use Rattle.vs_ast.specs.declared.statements.CaseArm.{CaseArm}
use Rattle.vs_flat.specs.declared.statements.Arm.{Arm}
use Rattle.vs_flat.specs.Trees.{branch, arms_tree}
use Rattle.vs_flat.proofs.Agreeing.{and_both, and_true}
use Rattle.vs_build.specs.Drafts.{Labelled, total, arms_with}
use Rattle.vs_build.specs.Cut.{label_counts, cut}

-- ---- lists

pub drop_drop : (n c : ℕ) (xs : List ℕ) → drop c (drop n xs) ≡ drop (n + c) xs
drop_drop zero c [] = ap (λ n. drop n []) (let e : c ≡ 0 + c = omega arith in e)
drop_drop zero c (x ∷ xs) = ap (λ n. drop n (x ∷ xs)) (let e : c ≡ 0 + c = omega arith in e)
drop_drop (suc n) c [] = none_of c ∙ sym (none_of (suc n + c))
  where
    none_of : (m : ℕ) → drop {A = ℕ} m [] ≡ []
    none_of zero = refl
    none_of (suc m) = refl
drop_drop (suc n) c (x ∷ xs) = drop_drop n c xs ∙ ap (λ m. drop m (x ∷ xs)) (let e : suc (n + c) ≡ suc n + c = omega arith in e)

pub last_entry : (xs : List ℕ) (k : ℕ) → length xs ≤ k + 1 → drop k xs ≡ option_to_list (slice_get xs k)
last_entry [] zero h = refl
last_entry [] (suc k) h = refl
last_entry (x ∷ []) zero h = refl
last_entry (x ∷ (y ∷ ys)) zero h = absurd (let no : ⊥ = omega (arith, h) in no)
last_entry (x ∷ xs) (suc k) h = last_entry xs k (omega (arith, h))

pub all_mapped : {A : Type 0} (f : ℕ → A) (p : A → Bool) (xs : List ℕ) → list_all (λ k. p (f k)) xs ≡ true → list_all p (map f xs) ≡ true
all_mapped f p [] h = refl
all_mapped f p (x ∷ xs) h = let b = and_both (p (f x)) (list_all (λ k. p (f k)) xs) h in and_true (p (f x)) (list_all p (map f xs)) b.0 (all_mapped f p xs b.1)

pub all_taken : (p : ℕ → Bool) (n : ℕ) (xs : List ℕ) → list_all p xs ≡ true → list_all p (take n xs) ≡ true
all_taken p zero [] h = refl
all_taken p zero (x ∷ xs) h = refl
all_taken p (suc n) [] h = refl
all_taken p (suc n) (x ∷ xs) h = let b = and_both (p x) (list_all p xs) h in and_true (p x) (list_all p (take n xs)) b.0 (all_taken p n xs b.1)

pub all_dropped : (p : ℕ → Bool) (n : ℕ) (xs : List ℕ) → list_all p xs ≡ true → list_all p (drop n xs) ≡ true
all_dropped p zero [] h = refl
all_dropped p zero (x ∷ xs) h = h
all_dropped p (suc n) [] h = refl
all_dropped p (suc n) (x ∷ xs) h = all_dropped p n xs (and_both (p x) (list_all p xs) h).1

taken_end : {A : Type 0} (xs ys : List A) → take (length xs) (xs ++ ys) ≡ xs
taken_end [] [] = refl
taken_end [] (y ∷ ys) = refl
taken_end (x ∷ xs) ys = ap (λ zs. x ∷ zs) (taken_end xs ys)

dropped_end : {A : Type 0} (xs ys : List A) → drop (length xs) (xs ++ ys) ≡ ys
dropped_end [] [] = refl
dropped_end [] (y ∷ ys) = refl
dropped_end (x ∷ xs) ys = dropped_end xs ys

map_take : {A : Type 0} (f : ℕ → A) (n : ℕ) (xs : List ℕ) → map f (take n xs) ≡ take n (map f xs)
map_take f zero [] = refl
map_take f zero (x ∷ xs) = refl
map_take f (suc n) [] = refl
map_take f (suc n) (x ∷ xs) = ap (λ ys. f x ∷ ys) (map_take f n xs)

map_drop : {A : Type 0} (f : ℕ → A) (n : ℕ) (xs : List ℕ) → map f (drop n xs) ≡ drop n (map f xs)
map_drop f zero [] = refl
map_drop f zero (x ∷ xs) = refl
map_drop f (suc n) [] = refl
map_drop f (suc n) (x ∷ xs) = map_drop f n xs

-- ---- what the arms name

pub cut_labels : (ns labels statements : List ℕ) → length labels ≡ total ns → flat_map (λ (a : Arm). a.items) (cut ns labels statements) ≡ labels
cut_labels [] [] statements h = refl
cut_labels [] (x ∷ xs) statements h = absurd (let no : ⊥ = omega (arith, h) in no)
cut_labels (n ∷ ns) labels statements h =
    ap (λ xs. take n labels ++ xs) (cut_labels ns (drop n labels) (drop 1 statements) (omega (arith, h, length-drop n labels))) ∙ take-append-drop n labels

pub cut_statements : (ns labels statements : List ℕ) → length ns ≤ length statements → map (λ (a : Arm). a.statement) (cut ns labels statements) ≡ take (length ns) statements
cut_statements [] labels [] h = refl
cut_statements [] labels (x ∷ xs) h = refl
cut_statements (n ∷ ns) labels [] h = absurd (let no : ⊥ = omega (arith, h) in no)
cut_statements (n ∷ ns) labels (x ∷ xs) h = ap (λ ys. x ∷ ys) (cut_statements ns (drop n labels) xs (omega (arith, h)))

-- ---- what they stand for

some_taken : (f : ℕ → E.Expression) (n : ℕ) (xs : List ℕ) → 0 < n → 0 < length xs → has_items (E.items_of (map f (take n xs))) ≡ true
some_taken f zero xs h k = absurd (let no : ⊥ = omega (arith, h) in no)
some_taken f (suc n) [] h k = absurd (let no : ⊥ = omega (arith, k) in no)
some_taken f (suc n) (x ∷ xs) h k = refl

all_items : (d : Design) (es : List E.Expression) → list_all (is_formed d) es ≡ true → are_formed d (E.items_of es) ≡ true
all_items d [] h = refl
all_items d (e ∷ es) h = let b = and_both (is_formed d e) (list_all (is_formed d) es) h in and_true (is_formed d e) (are_formed d (E.items_of es)) b.0 (all_items d es b.1)

pub cut_formed : (d : Design) (tree : ℕ → E.Expression) (statement : ℕ → T.Statement) (other : Option ℕ) (ns labels statements : List ℕ) → length labels ≡ total ns → length ns ≤ length statements → list_all (λ n. nat_lt 0 n) ns ≡ true
    → list_all (λ k. is_formed d (tree k)) labels ≡ true → list_all (λ k. is_formed_statement d (statement k)) statements ≡ true → is_formed_statement d (branch statement other) ≡ true
    → are_formed_arms d (arms_tree tree statement other (cut ns labels statements)) ≡ true
cut_formed d tree statement other [] labels statements l k some h g f = f
cut_formed d tree statement other (n ∷ ns) labels [] l k some h g f = absurd (let no : ⊥ = omega (arith, k) in no)
cut_formed d tree statement other (n ∷ ns) labels (x ∷ xs) l k some h g f =
    let b = and_both (nat_lt 0 n) (list_all (λ m. nat_lt 0 m) ns) some in
    let positive : 0 < n = ltb-true 0 n b.0 in
    let c = and_both (is_formed_statement d (statement x)) (list_all (λ m. is_formed_statement d (statement m)) xs) g in
    let rest = arms_tree tree statement other (cut ns (drop n labels) xs) in
    let items = E.items_of (map tree (take n labels)) in
    and_true (has_items items && are_formed d items && is_formed_statement d (statement x)) (are_formed_arms d rest)
    (and_true (has_items items && are_formed d items) (is_formed_statement d (statement x))
    (and_true (has_items items) (are_formed d items) (some_taken tree n labels positive (omega (arith, l, positive))) (all_items d (map tree (take n labels)) (all_mapped tree (is_formed d) (take n labels) (all_taken (λ m. is_formed d (tree m)) n labels h)))) c.0)
    (cut_formed d tree statement other ns (drop n labels) xs (omega (arith, l, length-drop n labels)) (omega (arith, k)) b.1 (all_dropped (λ m. is_formed d (tree m)) n labels h) c.1 f)

pub cut_tree : (tree : ℕ → E.Expression) (statement : ℕ → T.Statement) (other : Option ℕ) (made : List Labelled) (labels statements : List ℕ) → map tree labels ≡ flat_map (λ (a : Labelled). a.labels) made
    → map statement (take (length made) statements) ≡ map (λ (a : Labelled). a.statement) made
    → arms_tree tree statement other (cut (map (λ (a : Labelled). length a.labels) made) labels statements) ≡ arms_with made (branch statement other)
cut_tree tree statement other [] labels statements h g = refl
cut_tree tree statement other (a ∷ made) labels [] h g = cc
cut_tree tree statement other (a ∷ made) labels (x ∷ xs) h g =
    let n = length a.labels in
    let more = flat_map (λ (b : Labelled). b.labels) made in
    let first : statement x ≡ a.statement = cc in
    let later : map statement (take (length made) xs) ≡ map (λ (b : Labelled). b.statement) made = cc in
    let items : map tree (take n labels) ≡ a.labels = map_take tree n labels ∙ ap (take n) h ∙ taken_end a.labels more in
    let rest : map tree (drop n labels) ≡ more = map_drop tree n labels ∙ ap (drop n) h ∙ dropped_end a.labels more in
    ap (λ es. T.Arm (E.items_of es) (statement x) (arms_tree tree statement other (cut (map (λ (b : Labelled). length b.labels) made) (drop n labels) xs))) items
    ∙ ap (λ s. T.Arm (E.items_of a.labels) s (arms_tree tree statement other (cut (map (λ (b : Labelled). length b.labels) made) (drop n labels) xs))) first
    ∙ ap (λ r. T.Arm (E.items_of a.labels) a.statement r) (cut_tree tree statement other made (drop n labels) xs rest later)

-- ---- the loop

-- as far as it has come
pub record IsCutSoFar (arms : List CaseArm) (labels statements : List ℕ) (i next number : ℕ) (made : List Arm) : Type 0 where
  pub whole : made ++ cut (drop i (label_counts arms)) (drop next labels) (drop number statements) ≡ cut (label_counts arms) labels statements
  pub left : next + total (drop i (label_counts arms)) ≡ length labels
  pub counted : number ≡ i

dropped_none : (xs : List ℕ) → drop 0 xs ≡ xs
dropped_none [] = refl
dropped_none (x ∷ xs) = refl

pub cut_begins : (arms : List CaseArm) (labels statements : List ℕ) → length labels ≡ total (label_counts arms) → IsCutSoFar arms labels statements 0 0 0 []
cut_begins arms labels statements h = record {
  whole = ap (λ ns. cut ns (drop 0 labels) (drop 0 statements)) (dropped_none (label_counts arms)) ∙ ap (λ xs. cut (label_counts arms) xs (drop 0 statements)) (dropped_none labels) ∙ ap (cut (label_counts arms) labels) (dropped_none statements);
  left = omega (arith, h, ap total (dropped_none (label_counts arms)));
  counted = refl;
}

next_count : (arms : List CaseArm) (i : ℕ) (x : CaseArm) → i < length arms → x ≡ get_or arms i x → drop i (label_counts arms) ≡ length x.labels.items ∷ drop (i + 1) (label_counts arms)
next_count arms i x h e =
    let f : CaseArm → ℕ = λ a. length a.labels.items in
    let more : suc i ≡ i + 1 = omega arith in
    drop-cons (label_counts arms) i 0 (omega (arith, h, length-map arms f)) ∙ ap (λ n. n ∷ drop (suc i) (label_counts arms)) (get_or-map f arms i x 0 h ∙ ap f (sym e)) ∙ ap (λ k. length x.labels.items ∷ drop k (label_counts arms)) more

pub cut_fits : (arms : List CaseArm) (labels statements : List ℕ) (i next number : ℕ) (made : List Arm) (x : CaseArm) → IsCutSoFar arms labels statements i next number made → i < length arms → x ≡ get_or arms i x → next + length x.labels.items ≤ length labels
cut_fits arms labels statements i next number made x c h e = omega (arith, c.left, ap total (next_count arms i x h e))

pub cut_goes_on : (arms : List CaseArm) (labels statements : List ℕ) (i next number end taken : ℕ) (made : List Arm) (x : CaseArm) (items : List ℕ) → IsCutSoFar arms labels statements i next number made → i < length arms → x ≡ get_or arms i x
    → number < length statements → end ≡ next + length x.labels.items → items ≡ take (end - next) (drop next labels) → taken ≡ get_or statements number 0
    → IsCutSoFar arms labels statements (i + 1) end (number + 1) (made ++ (let a : Arm = record { items = items; statement = taken } in a) ∷ [])
cut_goes_on arms labels statements i next number end taken made x items c h e k f g s =
    let n = length x.labels.items in
    let ns = drop (i + 1) (label_counts arms) in
    let is : drop i (label_counts arms) ≡ n ∷ ns = next_count arms i x h e in
    let new : Arm = record { items = items; statement = taken } in
    let same : items ≡ take n (drop next labels) = g ∙ ap (λ m. take m (drop next labels)) (omega (arith, f)) in
    let on : drop n (drop next labels) ≡ drop end labels = drop_drop next n labels ∙ ap (λ m. drop m labels) (sym f) in
    let further : drop 1 (drop number statements) ≡ drop (number + 1) statements = drop_drop number 1 statements in
    let here : taken ≡ get_or (drop number statements) 0 0 = s ∙ ap (λ m. get_or statements m 0) (let e : number ≡ number + 0 = omega arith in e) ∙ sym (get_or-drop number statements 0 0) in
    record {
      whole =
          append_assoc made (new ∷ []) (cut ns (drop end labels) (drop (number + 1) statements))
          ∙ ap (λ xs. made ++ (let a : Arm = record { items = xs; statement = taken } in a) ∷ cut ns (drop end labels) (drop (number + 1) statements)) same
          ∙ ap (λ m. made ++ (let a : Arm = record { items = take n (drop next labels); statement = m } in a) ∷ cut ns (drop end labels) (drop (number + 1) statements)) here
          ∙ ap (λ xs. made ++ (let a : Arm = record { items = take n (drop next labels); statement = get_or (drop number statements) 0 0 } in a) ∷ cut ns xs (drop (number + 1) statements)) (sym on)
          ∙ ap (λ xs. made ++ (let a : Arm = record { items = take n (drop next labels); statement = get_or (drop number statements) 0 0 } in a) ∷ cut ns (drop n (drop next labels)) xs) (sym further)
          ∙ ap (λ xs. made ++ cut xs (drop next labels) (drop number statements)) (sym is)
          ∙ c.whole;
      left = omega (arith, f, c.left, ap total is);
      counted = omega (arith, c.counted);
    }

appended_none : {A : Type 0} (xs : List A) → xs ++ [] ≡ xs
appended_none [] = refl
appended_none (x ∷ xs) = ap (λ ys. x ∷ ys) (appended_none xs)

pub cut_ends : (arms : List CaseArm) (labels statements : List ℕ) (i next number : ℕ) (made : List Arm) → IsCutSoFar arms labels statements i next number made → length arms ≤ i → made ≡ cut (label_counts arms) labels statements
cut_ends arms labels statements i next number made c h =
    let f : CaseArm → ℕ = λ a. length a.labels.items in
    sym (appended_none made) ∙ ap (λ ns. made ++ cut ns (drop next labels) (drop number statements)) (sym (none_left (label_counts arms) i (omega (arith, h, length-map arms f)))) ∙ c.whole
  where
    none_left : (xs : List ℕ) (k : ℕ) → length xs ≤ k → drop k xs ≡ []
    none_left [] zero l = refl
    none_left [] (suc k) l = refl
    none_left (y ∷ ys) zero l = absurd (let no : ⊥ = omega (arith, l) in no)
    none_left (y ∷ ys) (suc k) l = none_left ys k (omega (arith, l))
