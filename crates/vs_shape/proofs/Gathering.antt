-- What is gathered from an expression, by its parts.
use Rattle.std.proofs.Common.{◌≡◌, ℕ, zero, suc, ◌+◌, ◌<◌, ◌*◌, Bool, true, false, ◌&&◌, if◌then◌else◌, List, [], ◌∷◌, ◌++◌, map, drop, length, get_or, refl, sym, ap, ◌∙◌, subst, arith, append_assoc, append-nil}
use Rattle.std.specs.Prelude.{OnOk, Result, Ok, Err, not}
use Rattle.vs_four.specs.Logic.{BitList}
use Rattle.vs_four.specs.Selects.{Part, places}
use Rattle.vs_design.specs.Expressions as E
use Rattle.vs_design.specs.Fits.{fits, fits_64, fits_signal, fit_items, is_fit, divides_constants, fits_statement}
use Rattle.std.specs.List.{list_all}
use Rattle.vs_design.specs.Statements as T
use Rattle.vs_flat.specs.DesignOf.{callee_of}
use Rattle.vs_design.specs.Values.{constant_value, bits_of_signal}
use Rattle.vs_design.specs.Footprints.{somes, signals_bits, read_signals, items_signals, source_signals, read_bits}
use Rattle.vs_flat.specs.Arena.{Arena}
use Rattle.vs_flat.specs.declared.expressions.Node.{Node}
use Rattle.vs_flat.specs.declared.expressions.Node.TheVariants as N
use Rattle.vs_flat.specs.Trees.{joined, first_copy, copy_count}
use Rattle.vs_shape.specs.Nodes.{tree_of, place_of, tree_of_node}
use Rattle.vs_design.specs.Statements.{Target, Both}
use Rattle.vs_design.specs.Footprints.{target_signals}
use Rattle.vs_shape.specs.Gathered.{bits_from, gathered_items, gathered, gathered_source, gathered_word_part, gathered_target}
use Rattle.vs_shape.proofs.Names.{and_both}

pub tree_is : (a kept : Arena) (e : ℕ) (n m : Node) → kept ≡ a → tree_of kept e ≡ E.At (place_of kept e) (tree_of_node kept n) → n ≡ m → tree_of a e ≡ E.At (place_of a e) (tree_of_node a m)
tree_is a kept e n m same tree is =
    ap (λ x. tree_of x e) (sym same) ∙ tree ∙ ap (λ x. E.At (place_of x e) (tree_of_node x n)) same ∙ ap (λ y. E.At (place_of a e) (tree_of_node a y)) is

pub signals_bits-append : (ss ts : List E.Signal) → signals_bits (ss ++ ts) ≡ signals_bits ss ++ signals_bits ts
signals_bits-append [] ts = refl
signals_bits-append (s ∷ ss) ts = ap (λ bs. bits_of_signal s ++ bs) (signals_bits-append ss ts) ∙ sym (append_assoc (bits_of_signal s) (signals_bits ss) (signals_bits ts))

gathered_at : (w : Bool) (p : ℕ) (e : E.Expression) → gathered w (E.At p e) ≡ gathered w e
gathered_at true p e = refl
gathered_at false p e = refl

pub gathered_select : (w : Bool) (s : E.Source) (part : Part) (i : E.Expression) → gathered w (E.Select s part i) ≡ gathered_source w s part i ++ gathered w i
gathered_select true s part i = signals_bits-append (source_signals s) (read_signals i)
gathered_select false s part i = refl

gathered_binary : (w : Bool) (op : E.BinaryOp) (a b : E.Expression) → gathered w (E.Binary op a b) ≡ gathered w a ++ gathered w b
gathered_binary true op a b = signals_bits-append (read_signals a) (read_signals b)
gathered_binary false op a b = refl

gathered_choice : (w : Bool) (c p q : E.Expression) → gathered w (E.Choice c p q) ≡ gathered w c ++ (gathered w p ++ gathered w q)
gathered_choice true c p q = signals_bits-append (read_signals c) (read_signals p ++ read_signals q) ∙ ap (λ bs. signals_bits (read_signals c) ++ bs) (signals_bits-append (read_signals p) (read_signals q))
gathered_choice false c p q = refl

gathered_joined : (w : Bool) (t : E.Expression) (ts : List E.Expression) → gathered w (joined (t ∷ ts)) ≡ gathered w t ++ gathered w (joined ts)
gathered_joined true t [] = sym (append-nil (signals_bits (read_signals t)))
gathered_joined false t [] = sym (append-nil (read_bits t))
gathered_joined true t (u ∷ ts) = signals_bits-append (read_signals t) (read_signals (joined (u ∷ ts)))
gathered_joined false t (u ∷ ts) = refl

gathered_from : (w : Bool) (tree : ℕ → E.Expression) (ps : List ℕ) (n : ℕ) → n < length ps → gathered w (joined (map tree (drop n ps))) ≡ gathered w (tree (get_or ps n 0)) ++ gathered w (joined (map tree (drop (suc n) ps)))
gathered_from w tree [] n h = absurd (omega arith)
gathered_from w tree (p ∷ ps) zero h = gathered_joined w (tree p) (map tree ps)
gathered_from w tree (p ∷ ps) (suc n) h = gathered_from w tree ps n (omega arith)

-- one more part is gathered
pub with_part : (w : Bool) (tree : ℕ → E.Expression) (ps : List ℕ) (n : ℕ) (before after all : List ℕ) → n < length ps → before ++ gathered w (joined (map tree (drop n ps))) ≡ all → after ≡ before ++ gathered w (tree (get_or ps n 0))
    → after ++ gathered w (joined (map tree (drop (n + 1) ps))) ≡ all
with_part w tree ps n before after all h is pushed =
    let next : n + 1 ≡ suc n = omega arith in
    ap (λ k. after ++ gathered w (joined (map tree (drop k ps)))) next
    ∙ ap (λ bs. bs ++ gathered w (joined (map tree (drop (suc n) ps)))) pushed
    ∙ append_assoc before (gathered w (tree (get_or ps n 0))) (gathered w (joined (map tree (drop (suc n) ps))))
    ∙ ap (λ bs. before ++ bs) (sym (gathered_from w tree ps n h)) ∙ is

-- two lists added one after the other, the second perhaps not
pub two_added : {E : Type 0} (r : Result (Unit {0}) E) (first second third xs ys all : List ℕ) → second ≡ first ++ xs → OnOk r (third ≡ second ++ ys) → all ≡ xs ++ ys → OnOk r (third ≡ first ++ all)
two_added (Ok u) first second third xs ys all h k is = k ∙ ap (λ bs. bs ++ ys) h ∙ append_assoc first xs ys ∙ ap (λ bs. first ++ bs) (sym is)
two_added (Err e) first second third xs ys all h k is = tt

pub one_added : {E : Type 0} (r : Result (Unit {0}) E) (first second xs ys : List ℕ) → OnOk r (second ≡ first ++ xs) → ys ≡ xs → OnOk r (second ≡ first ++ ys)
one_added (Ok u) first second xs ys h is = h ∙ ap (λ bs. first ++ bs) (sym is)
one_added (Err e) first second xs ys h is = tt

module _ (a kept : Arena) (e : ℕ) (n : Node) (w : Bool) (same : kept ≡ a) (tree : tree_of kept e ≡ E.At (place_of kept e) (tree_of_node kept n)) where
  pub gathered_node : (m : Node) → n ≡ m → gathered w (tree_of a e) ≡ gathered w (tree_of_node a m)
  gathered_node m is = ap (gathered w) (tree_is a kept e n m same tree is) ∙ gathered_at w (place_of a e) (tree_of_node a m)

-- the parts of a concatenation fit
join_fits : (e f : E.Expression) → fits (E.Join e f) ≡ true → (fits e ≡ true) × (fits f ≡ true)
join_fits e f h =
    let whole = and_both (fits_64 (E.width e + E.width f) && fits e) (fits f) h in
    ((and_both (fits_64 (E.width e + E.width f)) (fits e) whole.0).1, whole.1)

fits_part : (tree : ℕ → E.Expression) (ps : List ℕ) (k : ℕ) → fits (joined (map tree ps)) ≡ true → k < length ps → fits (tree (get_or ps k 0)) ≡ true
fits_part tree [] k f h = absurd (omega arith)
fits_part tree (p ∷ []) zero f h = f
fits_part tree (p ∷ []) (suc k) f h = absurd (omega arith)
fits_part tree (p ∷ q ∷ ps) zero f h = (join_fits (tree p) (joined (map tree (q ∷ ps))) f).0
fits_part tree (p ∷ q ∷ ps) (suc k) f h = fits_part tree (q ∷ ps) k (join_fits (tree p) (joined (map tree (q ∷ ps))) f).1 (omega arith)

pub part_fits : (a kept : Arena) (e k : ℕ) (n : Node) (parts slice items : List ℕ) → kept ≡ a → tree_of kept e ≡ E.At (place_of kept e) (tree_of_node kept n) → n ≡ N.Join parts → items ≡ first_copy slice → slice ≡ parts
    → fits (tree_of a e) ≡ true → k < length items → fits (tree_of a (get_or items k 0)) ≡ true
part_fits a kept e k n parts slice items same tree is copy sliced f h =
    let whole : fits (E.Repeat (copy_count parts) (joined (map (tree_of a) (first_copy parts)))) ≡ true = ap fits (sym (tree_is a kept e n (N.Join parts) same tree is)) ∙ f in
    let these : items ≡ first_copy parts = copy ∙ ap first_copy sliced in
    fits_part (tree_of a) items k
    (subst (λ xs. fits (joined (map (tree_of a) xs)) ≡ true) (sym these) (and_both (fits_64 (copy_count parts * E.width (joined (map (tree_of a) (first_copy parts))))) (fits (joined (map (tree_of a) (first_copy parts)))) whole).1) h

-- a select by a constant index
pub selected_constant : (w constant : Bool) (source : E.Source) (signal : E.Signal) (part : Part) (index : E.Expression) (first : ℕ) (signed : Bool) (value : BitList) → w ≡ false → not constant ≡ false → constant ≡ E.is_constant index → source ≡ E.OfSignal signal
    → first ≡ signal.first → signed ≡ E.sign index → value ≡ constant_value index → gathered_source w source part index ≡ somes (bits_from first (places part signed value))
selected_constant w constant source signal part index first signed value narrow known is_known from begins sign_is value_is =
    ap (λ b. gathered_source b source part index) narrow
    ∙ ap (λ s. gathered_source false s part index) from
    ∙ picked (E.is_constant index) (sym is_known ∙ yes constant known) (somes (bits_from signal.first (places part (E.sign index) (constant_value index)))) (bits_of_signal signal)
    ∙ ap (λ f. somes (bits_from f (places part (E.sign index) (constant_value index)))) (sym begins)
    ∙ ap (λ b. somes (bits_from first (places part b (constant_value index)))) (sym sign_is)
    ∙ ap (λ v. somes (bits_from first (places part signed v))) (sym value_is)
  where
    yes : (b : Bool) → not b ≡ false → b ≡ true
    yes true h = refl
    yes false h = cc

    picked : (b : Bool) → b ≡ true → (xs ys : List ℕ) → (if b then xs else ys) ≡ xs
    picked true h xs ys = refl
    picked false h xs ys = cc

pub binary_gathered : (w : Bool) (op : E.BinaryOp) (a b : E.Expression) → gathered w (E.Binary op a b) ≡ gathered w a ++ gathered w b
binary_gathered w op a b = gathered_binary w op a b

pub choice_gathered : (w : Bool) (c p q : E.Expression) → gathered w (E.Choice c p q) ≡ gathered w c ++ (gathered w p ++ gathered w q)
choice_gathered w c p q = gathered_choice w c p q

pub both_gathered : (w : Bool) (s t : Target) → gathered_target w (Both s t) ≡ gathered_target w s ++ gathered_target w t
both_gathered true s t = signals_bits-append (target_signals s) (target_signals t)
both_gathered false s t = refl

-- ---- a part of a word

pub word_part_gathered : (w : Bool) (s : E.Signal) (a : E.Expression) (part : Part) (i : E.Expression) → gathered w (E.WordPart s a part i) ≡ gathered_word_part w s a part i ++ (gathered w a ++ gathered w i)
word_part_gathered true s a part i = ap (λ bs. bits_of_signal s ++ bs) (signals_bits-append (read_signals a) (read_signals i))
word_part_gathered false s a part i = refl

pub indices_gathered : (w : Bool) (s : E.Signal) (a : E.Expression) (part : Part) (i : E.Expression) → gathered_target w (T.WordPartOf s a part i) ≡ gathered w a ++ gathered w i
indices_gathered true s a part i = signals_bits-append (read_signals a) (read_signals i)
indices_gathered false s a part i = refl

-- ---- the arguments of a call

gathered_item : (w : Bool) (e : E.Expression) (es : E.Items) → gathered_items w (E.Item e es) ≡ gathered w e ++ gathered_items w es
gathered_item true e es = signals_bits-append (read_signals e) (items_signals es)
gathered_item false e es = refl

items_from : (w : Bool) (tree : ℕ → E.Expression) (ps : List ℕ) (n : ℕ) → n < length ps → gathered_items w (E.items_of (map tree (drop n ps))) ≡ gathered w (tree (get_or ps n 0)) ++ gathered_items w (E.items_of (map tree (drop (suc n) ps)))
items_from w tree [] n h = absurd (omega arith)
items_from w tree (p ∷ ps) zero h = gathered_item w (tree p) (E.items_of (map tree ps))
items_from w tree (p ∷ ps) (suc n) h = items_from w tree ps n (omega arith)

-- one more argument is gathered
pub with_argument : (w : Bool) (tree : ℕ → E.Expression) (ps : List ℕ) (n : ℕ) (before after all : List ℕ) → n < length ps → before ++ gathered_items w (E.items_of (map tree (drop n ps))) ≡ all → after ≡ before ++ gathered w (tree (get_or ps n 0))
    → after ++ gathered_items w (E.items_of (map tree (drop (n + 1) ps))) ≡ all
with_argument w tree ps n before after all h is pushed =
    let next : n + 1 ≡ suc n = omega arith in
    ap (λ k. after ++ gathered_items w (E.items_of (map tree (drop k ps)))) next
    ∙ ap (λ bs. bs ++ gathered_items w (E.items_of (map tree (drop (suc n) ps)))) pushed
    ∙ append_assoc before (gathered w (tree (get_or ps n 0))) (gathered_items w (E.items_of (map tree (drop (suc n) ps))))
    ∙ ap (λ bs. before ++ bs) (sym (items_from w tree ps n h)) ∙ is

fits_item : (tree : ℕ → E.Expression) (ps : List ℕ) (k : ℕ) → fit_items (E.items_of (map tree ps)) ≡ true → k < length ps → fits (tree (get_or ps k 0)) ≡ true
fits_item tree [] k f h = absurd (omega arith)
fits_item tree (p ∷ ps) zero f h = (and_both (fits (tree p)) (divides_constants (tree p)) (and_both (is_fit (tree p)) (fit_items (E.items_of (map tree ps))) f).0).0
fits_item tree (p ∷ ps) (suc k) f h = fits_item tree ps k (and_both (is_fit (tree p)) (fit_items (E.items_of (map tree ps))) f).1 (omega arith)

-- the arguments of a call fit
call_items : (h : E.Header) (st : T.Statement) (es : E.Items) → fits (E.Call h st es) ≡ true → fit_items es ≡ true
call_items h st es f =
    let p = and_both (fits_64 (E.signal_length h.result) && list_all fits_signal h.inputs && fit_items es) (fits_statement st) f in
    (and_both (fits_64 (E.signal_length h.result) && list_all fits_signal h.inputs) (fit_items es) p.0).1

pub argument_fits : (a kept : Arena) (e k f : ℕ) (n : Node) (arguments slice : List ℕ) → kept ≡ a → tree_of kept e ≡ E.At (place_of kept e) (tree_of_node kept n) → n ≡ N.Call f arguments → slice ≡ arguments → fits (tree_of a e) ≡ true → k < length slice
    → fits (tree_of a (get_or slice k 0)) ≡ true
argument_fits a kept e k f n arguments slice same tree is sliced fit h =
    let c = callee_of a (tree_of a) f in
    let whole : fits (E.Call c.header c.statement (E.items_of (map (tree_of a) arguments))) ≡ true = ap fits (sym (tree_is a kept e n (N.Call f arguments) same tree is)) ∙ fit in
    fits_item (tree_of a) slice k (subst (λ xs. fit_items (E.items_of (map (tree_of a) xs)) ≡ true) (sym sliced) (call_items c.header c.statement (E.items_of (map (tree_of a) arguments)) whole)) h
