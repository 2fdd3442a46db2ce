-- The step for each kind of node.
use Rattle.std.proofs.Common.{◌≡◌, ℕ, zero, suc, ◌+◌, ◌-◌, ◌<◌, ◌≤◌, Bool, true, false, not, ◌&&◌, ◌||◌, ◌==◌, nat_lt, List, [], ◌∷◌, ◌++◌, length, get_or, take, max, slice_get, Option, Some, None, Result, OnOk, refl, sym, ap, ◌∙◌, subst, arith}
use Rattle.std.specs.Prelude.{is_some}
use Rattle.std.specs.List.{list_all}
use Rattle.std.proofs.lemmas.Bool.{lt-ltb, ltb-true}
use Rattle.vs_four.specs.declared.Range.{Range}
use Rattle.vs_four.specs.Selects.{one_bit, Part}
use Rattle.vs_design.specs.Expressions as E
use Rattle.vs_design.specs.Designs.{Design}
use Rattle.vs_design.specs.Footprints.{is_input, is_variable, is_memory}
use Rattle.vs_design.specs.Fits.{fits_64}
use Rattle.vs_design.specs.Elaborated.{is_nil, are_numbered, have_bits_from, is_lawful_range, is_signal, is_this, has_words, same_range, is_formed, is_formed_select, is_formed_word_part, is_local, is_formed_header}
use Rattle.vs_flat.specs.declared.expressions.Node.{Node}
use Rattle.vs_flat.specs.declared.functions.Declared.{Declared}
use Rattle.vs_flat.specs.declared.functions.Function.{Function}
use Rattle.vs_flat.specs.declared.processes.Signal.{Signal}
use Rattle.vs_flat.specs.declared.expressions.Node.TheVariants as N
use Rattle.vs_base.specs.declared.operators.UnaryOp.{UnaryOp}
use Rattle.vs_base.specs.declared.operators.BinaryOp.{BinaryOp}
use Rattle.vs_flat.specs.Arena.{Arena, placed}
use Rattle.vs_flat.specs.Named.{all_below, node_expressions, locals_in, covers_node}
use Rattle.vs_flat.specs.Targets.{source_of}
use Rattle.vs_flat.specs.Trees.{signals_from, signal_at, tree_at, placed_tree, node_tree}
use Rattle.vs_flat.specs.DesignOf.{header_of, arena_names, arena_signals, arena_trees, design_of}
use Rattle.vs_flat.specs.Lawful.{deepest, node_depths, node_names, has_copies, has_locals}
use Rattle.vs_flat.proofs.Agreeing.{and_both, and_true}
use Rattle.vs_build.specs.Drafts.{Root, Draft, home_in, home, most_levels, EndsWith, EndsInSelect, AddsExpression}
use Rattle.vs_flat.proofs.Growing.{length-signals, header_locals}
use Rattle.vs_build.specs.Growth.{times, open_function, open_header, header_if, current, Growing, IsGrowing, root_at, draft_of, draft}
use Rattle.vs_build.proofs.Counting.{times-append}
use Rattle.vs_build.proofs.SignalNames.{same_signals}
use Rattle.vs_build.proofs.Steps.{ends_enough, last_one, last_two, last_three, parts_are, levels_are, used_below, used_formed, IsStep, IsAdded, step_kept, step_adds, added_two, added_three}

pub nil_right : (xs : List ℕ) → xs ≡ xs ++ []
nil_right [] = refl
nil_right (x ∷ xs) = ap (λ ys. x ∷ ys) (nil_right xs)

-- a node over these that calls nothing
pub covered : (below : Bool) → below ≡ true → (below && true) ≡ true
covered below h = and_true below true h refl

-- ---- leaves

pub leaf_step : (a : Arena) (rs bs : List ℕ) (n : Node) (at : ℕ) → IsGrowing a rs bs → node_names n ≡ [] → node_expressions n ≡ [] → covers_node a n ≡ true → has_copies n ≡ true
    → is_formed (current a) (placed_tree (arena_names a) (tree_at (arena_trees a)) (placed n at)) ≡ true → IsStep a rs bs rs [] n at
leaf_step a rs bs n at g names parts covers copies formed = record {
  growing = g;
  is = nil_right rs;
  names = λ k. ap (times k) (sym names);
  covers = covers;
  copies = copies;
  formed = formed;
  few = omega (arith, ap (deepest (node_depths a.nodes)) parts);
}

pub leaf_adds : {U F : Type 0} (r : Result U F) (a b : Arena) (rs after bs : List ℕ) (n : Node) (at : ℕ) (tree : E.Expression) → IsStep a rs bs rs [] n at → IsAdded r a b rs after rs n at
    → placed_tree (arena_names a) (tree_at (arena_trees a)) (placed n at) ≡ tree → node_expressions n ≡ [] → OnOk r (AddsExpression (draft_of a rs bs) (draft_of b after bs) tree 1)
leaf_adds r a b rs after bs n at tree s d is parts = step_adds r a b rs after bs rs [] n at (draft_of a rs bs) tree 0 s d refl is (omega (arith, ap (deepest (node_depths a.nodes)) parts))

pub covers_name : (a : Arena) (n : ℕ) → n < length a.signals → covers_node a (N.Name n) ≡ true
covers_name a n h = covered ((nat_lt n (length a.signals) && true) && true) (covered (nat_lt n (length a.signals) && true) (covered (nat_lt n (length a.signals)) (lt-ltb n (length a.signals) h)))

-- ---- over the last ones

pub few_used : (count : ℕ) (a : Arena) (rs rest used bs : List ℕ) → rs ≡ rest ++ used → length used ≡ count → EndsWith count (draft_of a rs bs) → deepest (node_depths a.nodes) used ≤ 254
few_used count a rs rest used bs e h ends =
    let p = parts_are a rest used bs ends.before ends.last (ap (λ xs. draft_of a xs bs) (sym e) ∙ ends.is) (h ∙ sym ends.many) in
    omega (arith, levels_are a used, ap most_levels p.0, ends.few)

head_is : (x y : Root) (xs ys : List Root) → x ∷ xs ≡ y ∷ ys → x ≡ y
head_is x y xs ys e = cc

tail_is : (x y : Root) (xs ys : List Root) → x ∷ xs ≡ y ∷ ys → xs ≡ ys
tail_is x y xs ys e = cc

pub unary_step : (a : Arena) (rs rest bs : List ℕ) (op : UnaryOp) (x at : ℕ) → IsGrowing a rs bs → rs ≡ rest ++ x ∷ [] → EndsWith 1 (draft_of a rs bs) → IsStep a rs bs rest (x ∷ []) (N.Unary op x) at
unary_step a rs rest bs op x at g e ends =
    let below = used_below a rs rest (x ∷ []) bs g e in
    record {
      growing = g;
      is = e;
      names = λ k. refl;
      covers = covered (all_below (length a.nodes) (x ∷ [])) below;
      copies = refl;
      formed = (used_formed a rs rest (x ∷ []) bs g e).0;
      few = omega (arith, few_used 1 a rs rest (x ∷ []) bs e refl ends);
    }

pub unary_adds : {U F : Type 0} (r : Result U F) (a b : Arena) (rs after rest bs : List ℕ) (op : UnaryOp) (x at : ℕ) (s : Draft) (t : E.Expression) (m : ℕ)
    → IsStep a rs bs rest (x ∷ []) (N.Unary op x) at → IsAdded r a b rs after rest (N.Unary op x) at → AddsExpression s (draft_of a rs bs) t m
    → OnOk r (AddsExpression s (draft_of b after bs) (E.At at (E.Unary op t)) (1 + m))
unary_adds r a b rs after rest bs op x at s t m p d h =
    let root : Root = record { tree = t; levels = h.levels } in
    let q = parts_are a rest (x ∷ []) bs s (root ∷ []) (ap (λ xs. draft_of a xs bs) (sym p.is) ∙ h.is) refl in
    let is : root_at a x ≡ root = head_is (root_at a x) root [] [] q.0 in
    step_adds r a b rs after bs rest (x ∷ []) (N.Unary op x) at s (E.At at (E.Unary op t)) m p d q.1
    (ap (λ (z : Root). E.At at (E.Unary op z.tree)) is) (omega (arith, ap (λ (z : Root). z.levels) is, h.few))

pub word_step : (a : Arena) (rs rest bs : List ℕ) (n x at : ℕ) → IsGrowing a rs bs → rs ≡ rest ++ x ∷ [] → n < length a.signals → open_header a ≡ None → has_words (design_of a) (signal_at (arena_signals a) n) ≡ true → EndsWith 1 (draft_of a rs bs)
    → IsStep a rs bs rest (x ∷ []) (N.Word n x) at
word_step a rs rest bs n x at g e there outside words ends =
    let below = used_below a rs rest (x ∷ []) bs g e in
    record {
      growing = g;
      is = e;
      names = λ k. refl;
      covers =
          covered ((nat_lt n (length a.signals) && true) && all_below (length a.nodes) (x ∷ []))
          (and_true (nat_lt n (length a.signals) && true) (all_below (length a.nodes) (x ∷ [])) (covered (nat_lt n (length a.signals)) (lt-ltb n (length a.signals) there)) below);
      copies = refl;
      formed =
          and_true (has_words (current a) (signal_at (arena_signals a) n)) (is_formed (current a) (tree_at (arena_trees a) x)) (subst (λ o. has_words (home_in (design_of a) o) (signal_at (arena_signals a) n) ≡ true) (sym outside) words)
          (used_formed a rs rest (x ∷ []) bs g e).0;
      few = omega (arith, few_used 1 a rs rest (x ∷ []) bs e refl ends);
    }

pub word_adds : {U F : Type 0} (r : Result U F) (a b : Arena) (rs after rest bs : List ℕ) (n x at : ℕ) (memory : E.Signal) (s : Draft) (t : E.Expression) (m : ℕ) → signal_at (arena_signals a) n ≡ memory
    → IsStep a rs bs rest (x ∷ []) (N.Word n x) at → IsAdded r a b rs after rest (N.Word n x) at → AddsExpression s (draft_of a rs bs) t m
    → OnOk r (AddsExpression s (draft_of b after bs) (E.At at (E.Word memory t)) (1 + m))
word_adds r a b rs after rest bs n x at memory s t m e p d h =
    let root : Root = record { tree = t; levels = h.levels } in
    let q = parts_are a rest (x ∷ []) bs s (root ∷ []) (ap (λ xs. draft_of a xs bs) (sym p.is) ∙ h.is) refl in
    let is : root_at a x ≡ root = head_is (root_at a x) root [] [] q.0 in
    step_adds r a b rs after bs rest (x ∷ []) (N.Word n x) at s (E.At at (E.Word memory t)) m p d q.1
    (ap (λ z. E.At at (E.Word z (tree_at (arena_trees a) x))) e ∙ ap (λ (z : Root). E.At at (E.Word memory z.tree)) is) (omega (arith, ap (λ (z : Root). z.levels) is, h.few))

pub binary_step : (a : Arena) (rs rest bs : List ℕ) (op : BinaryOp) (x y at : ℕ) → IsGrowing a rs bs → rs ≡ rest ++ x ∷ y ∷ [] → EndsWith 2 (draft_of a rs bs) → IsStep a rs bs rest (x ∷ y ∷ []) (N.Binary op x y) at
binary_step a rs rest bs op x y at g e ends =
    let below = used_below a rs rest (x ∷ y ∷ []) bs g e in
    record {
      growing = g;
      is = e;
      names = λ k. refl;
      covers = covered (all_below (length a.nodes) (x ∷ y ∷ [])) below;
      copies = refl;
      formed = let f = used_formed a rs rest (x ∷ y ∷ []) bs g e in and_true (is_formed (current a) (tree_at (arena_trees a) x)) (is_formed (current a) (tree_at (arena_trees a) y)) f.0 f.1.0;
      few = omega (arith, few_used 2 a rs rest (x ∷ y ∷ []) bs e refl ends);
    }

-- the last two roots
pub record AreTwo (a : Arena) (rest bs : List ℕ) (x y : ℕ) (s : Draft) (t u : E.Expression) (m n : ℕ) : Type 0 where
  pub before : draft_of a rest bs ≡ s
  pub first : tree_at (arena_trees a) x ≡ t
  pub second : tree_at (arena_trees a) y ≡ u
  pub few : deepest (node_depths a.nodes) (x ∷ y ∷ []) ≤ max m n

pub two_are : (a : Arena) (rs rest bs : List ℕ) (x y : ℕ) (s r : Draft) (t u : E.Expression) (m n : ℕ) → rs ≡ rest ++ x ∷ y ∷ [] → AddsExpression s r t m → AddsExpression r (draft_of a rs bs) u n → AreTwo a rest bs x y s t u m n
two_are a rs rest bs x y s r t u m n e h k =
    let one : Root = record { tree = t; levels = h.levels } in
    let two : Root = record { tree = u; levels = k.levels } in
    let q = parts_are a rest (x ∷ y ∷ []) bs s (one ∷ two ∷ []) (ap (λ xs. draft_of a xs bs) (sym e) ∙ added_two s r (draft_of a rs bs) t u m n h k) refl in
    let first : root_at a x ≡ one = head_is (root_at a x) one (root_at a y ∷ []) (two ∷ []) q.0 in
    let second : root_at a y ≡ two = head_is (root_at a y) two [] [] (tail_is (root_at a x) one (root_at a y ∷ []) (two ∷ []) q.0) in
    record {
      before = q.1;
      first = ap (λ (z : Root). z.tree) first;
      second = ap (λ (z : Root). z.tree) second;
      few = omega (arith, ap (λ (z : Root). z.levels) first, ap (λ (z : Root). z.levels) second, h.few, k.few);
    }

pub binary_adds : {U F : Type 0} (r : Result U F) (a b : Arena) (rs after rest bs : List ℕ) (op : BinaryOp) (x y at : ℕ) (s q : Draft) (t u : E.Expression) (m n : ℕ)
    → IsStep a rs bs rest (x ∷ y ∷ []) (N.Binary op x y) at → IsAdded r a b rs after rest (N.Binary op x y) at → AddsExpression s q t m → AddsExpression q (draft_of a rs bs) u n
    → OnOk r (AddsExpression s (draft_of b after bs) (E.At at (E.Binary op t u)) (1 + max m n))
binary_adds r a b rs after rest bs op x y at s q t u m n p d h k =
    let w = two_are a rs rest bs x y s q t u m n p.is h k in
    step_adds r a b rs after bs rest (x ∷ y ∷ []) (N.Binary op x y) at s (E.At at (E.Binary op t u)) (max m n) p d w.before
    (ap (λ z. E.At at (E.Binary op z (tree_at (arena_trees a) y))) w.first ∙ ap (λ z. E.At at (E.Binary op t z)) w.second) w.few

pub word_part_step : (a : Arena) (rs rest bs : List ℕ) (n : ℕ) (range : Range) (up : Bool) (width x y at : ℕ) → IsGrowing a rs bs → rs ≡ rest ++ x ∷ y ∷ [] → n < length a.signals → open_header a ≡ None
    → is_formed_word_part (design_of a) (signal_at (arena_signals a) n) (record { range = range; up = up; width = width }) ≡ true → EndsWith 2 (draft_of a rs bs) → IsStep a rs bs rest (x ∷ y ∷ []) (N.WordPart n x range y up width) at
word_part_step a rs rest bs n range up width x y at g e there outside words ends =
    let part : Part = record { range = range; up = up; width = width } in
    let below = used_below a rs rest (x ∷ y ∷ []) bs g e in
    let f = used_formed a rs rest (x ∷ y ∷ []) bs g e in
    let s = signal_at (arena_signals a) n in
    record {
      growing = g;
      is = e;
      names = λ k. refl;
      covers =
          covered ((nat_lt n (length a.signals) && true) && all_below (length a.nodes) (x ∷ y ∷ []))
          (and_true (nat_lt n (length a.signals) && true) (all_below (length a.nodes) (x ∷ y ∷ [])) (covered (nat_lt n (length a.signals)) (lt-ltb n (length a.signals) there)) below);
      copies = refl;
      formed =
          and_true (is_formed_word_part (current a) s part && is_formed (current a) (tree_at (arena_trees a) x)) (is_formed (current a) (tree_at (arena_trees a) y))
          (and_true (is_formed_word_part (current a) s part) (is_formed (current a) (tree_at (arena_trees a) x)) (subst (λ o. is_formed_word_part (home_in (design_of a) o) s part ≡ true) (sym outside) words) f.0) f.1.0;
      few = omega (arith, few_used 2 a rs rest (x ∷ y ∷ []) bs e refl ends);
    }

pub word_part_adds : {U F : Type 0} (r : Result U F) (a b : Arena) (rs after rest bs : List ℕ) (n : ℕ) (range : Range) (up : Bool) (width x y at : ℕ) (memory : E.Signal) (s q : Draft) (t u : E.Expression) (m k : ℕ) → signal_at (arena_signals a) n ≡ memory
    → IsStep a rs bs rest (x ∷ y ∷ []) (N.WordPart n x range y up width) at → IsAdded r a b rs after rest (N.WordPart n x range y up width) at → AddsExpression s q t m → AddsExpression q (draft_of a rs bs) u k
    → OnOk r (AddsExpression s (draft_of b after bs) (E.At at (E.WordPart memory t (record { range = range; up = up; width = width }) u)) (1 + max m k))
word_part_adds r a b rs after rest bs n range up width x y at memory s q t u m k e p d h j =
    let part : Part = record { range = range; up = up; width = width } in
    let w = two_are a rs rest bs x y s q t u m k p.is h j in
    step_adds r a b rs after bs rest (x ∷ y ∷ []) (N.WordPart n x range y up width) at s (E.At at (E.WordPart memory t part u)) (max m k) p d w.before
    (ap (λ z. E.At at (E.WordPart z (tree_at (arena_trees a) x) part (tree_at (arena_trees a) y))) e ∙ ap (λ z. E.At at (E.WordPart memory z part (tree_at (arena_trees a) y))) w.first ∙ ap (λ z. E.At at (E.WordPart memory t part z)) w.second) w.few

-- ---- selects: the index, and then what bits are taken of

-- a select of either kind
pub record IsSelect (a : Arena) (n : Node) (part : Part) (index of : ℕ) : Type 0 where
  pub names : node_names n ≡ of ∷ index ∷ []
  pub expressions : node_expressions n ≡ of ∷ index ∷ []
  pub covers : covers_node a n ≡ (all_below (length a.nodes) (of ∷ index ∷ []) && true)
  pub copies : has_copies n ≡ true
  pub tree : node_tree (arena_names a) (tree_at (arena_trees a)) n ≡ E.Select (source_of (tree_at (arena_trees a) of)) part (tree_at (arena_trees a) index)

turned : (k x y : ℕ) → times k (x ∷ y ∷ []) ≡ times k (y ∷ x ∷ [])
turned k x y = omega (arith, times-append k (x ∷ []) (y ∷ []), times-append k (y ∷ []) (x ∷ []))

turned_below : (l x y : ℕ) → all_below l (x ∷ y ∷ []) ≡ true → all_below l (y ∷ x ∷ []) ≡ true
turned_below l x y h =
    let b = and_both (nat_lt x l) (nat_lt y l && true) h in
    and_true (nat_lt y l) (nat_lt x l && true) (and_both (nat_lt y l) true b.1).0 (and_true (nat_lt x l) true b.0 refl)

pub select_step : (a : Arena) (rs rest bs : List ℕ) (n : Node) (part : Part) (index of at : ℕ) → IsGrowing a rs bs → rs ≡ rest ++ index ∷ of ∷ [] → IsSelect a n part index of → EndsInSelect part (draft_of a rs bs)
    → IsStep a rs bs rest (index ∷ of ∷ []) n at
select_step a rs rest bs n part index of at g e is ends =
    let below = used_below a rs rest (index ∷ of ∷ []) bs g e in
    let q = parts_are a rest (index ∷ of ∷ []) bs ends.before (ends.index ∷ ends.of ∷ []) (ap (λ xs. draft_of a xs bs) (sym e) ∙ ends.is) refl in
    let second : root_at a of ≡ ends.of = head_is (root_at a of) ends.of [] [] (tail_is (root_at a index) ends.index (root_at a of ∷ []) (ends.of ∷ []) q.0) in
    let select : is_formed_select (current a) (source_of (tree_at (arena_trees a) of)) part ≡ true = subst (λ (z : Root). is_formed_select (current a) (source_of z.tree) part ≡ true) (sym second) ends.formed in
    let formed : is_formed (current a) (E.Select (source_of (tree_at (arena_trees a) of)) part (tree_at (arena_trees a) index)) ≡ true =
    and_true (is_formed_select (current a) (source_of (tree_at (arena_trees a) of)) part) (is_formed (current a) (tree_at (arena_trees a) index)) select (used_formed a rs rest (index ∷ of ∷ []) bs g e).0
    in
    record {
      growing = g;
      is = e;
      names = λ k. turned k index of ∙ ap (times k) (sym is.names);
      covers = is.covers ∙ covered (all_below (length a.nodes) (of ∷ index ∷ [])) (turned_below (length a.nodes) index of below);
      copies = is.copies;
      formed = ap (is_formed (current a)) is.tree ∙ formed;
      few = omega (arith, ap (deepest (node_depths a.nodes)) is.expressions, levels_are a (index ∷ of ∷ []), ap most_levels q.0, ends.few);
    }

pub select_adds : {U F : Type 0} (r : Result U F) (a b : Arena) (rs after rest bs : List ℕ) (n : Node) (part : Part) (index of at : ℕ) (s q : Draft) (t u : E.Expression) (m k : ℕ)
    → IsSelect a n part index of → IsStep a rs bs rest (index ∷ of ∷ []) n at → IsAdded r a b rs after rest n at → AddsExpression s q t m → AddsExpression q (draft_of a rs bs) u k
    → OnOk r (AddsExpression s (draft_of b after bs) (E.At at (E.Select (source_of u) part t)) (1 + max m k))
select_adds r a b rs after rest bs n part index of at s q t u m k is p d h j =
    let w = two_are a rs rest bs index of s q t u m k p.is h j in
    step_adds r a b rs after bs rest (index ∷ of ∷ []) n at s (E.At at (E.Select (source_of u) part t)) (max m k) p d w.before
    (ap (E.At at) (is.tree ∙ ap (λ z. E.Select (source_of (tree_at (arena_trees a) of)) part z) w.first ∙ ap (λ z. E.Select (source_of z) part t) w.second))
    (omega (arith, ap (deepest (node_depths a.nodes)) is.expressions, w.few))

pub bit_is : (a : Arena) (range : Range) (index of : ℕ) → IsSelect a (N.Bit of range index) (one_bit range) index of
bit_is a range index of = record { names = refl; expressions = refl; covers = refl; copies = refl; tree = refl }

pub part_is : (a : Arena) (range : Range) (up : Bool) (width index of : ℕ) → IsSelect a (N.Part of range index up width) (record { range = range; up = up; width = width }) index of
part_is a range up width index of = record { names = refl; expressions = refl; covers = refl; copies = refl; tree = refl }

-- ---- choices

pub choice_step : (a : Arena) (rs rest bs : List ℕ) (x y z at : ℕ) → IsGrowing a rs bs → rs ≡ rest ++ x ∷ y ∷ z ∷ [] → EndsWith 3 (draft_of a rs bs) → IsStep a rs bs rest (x ∷ y ∷ z ∷ []) (N.Choice x y z) at
choice_step a rs rest bs x y z at g e ends =
    let below = used_below a rs rest (x ∷ y ∷ z ∷ []) bs g e in
    let here = used_formed a rs rest (x ∷ y ∷ z ∷ []) bs g e in
    let f = λ (k : ℕ). is_formed (current a) (tree_at (arena_trees a) k) in
    record {
      growing = g;
      is = e;
      names = λ k. refl;
      covers = covered (all_below (length a.nodes) (x ∷ y ∷ z ∷ [])) below;
      copies = refl;
      formed = and_true (f x && f y) (f z) (and_true (f x) (f y) here.0 here.1.0) here.1.1.0;
      few = omega (arith, few_used 3 a rs rest (x ∷ y ∷ z ∷ []) bs e refl ends);
    }

pub choice_adds : {U F : Type 0} (r : Result U F) (a b : Arena) (rs after rest bs : List ℕ) (x y z at : ℕ) (s q w : Draft) (t u v : E.Expression) (m n k : ℕ)
    → IsStep a rs bs rest (x ∷ y ∷ z ∷ []) (N.Choice x y z) at → IsAdded r a b rs after rest (N.Choice x y z) at → AddsExpression s q t m → AddsExpression q w u n → AddsExpression w (draft_of a rs bs) v k
    → OnOk r (AddsExpression s (draft_of b after bs) (E.At at (E.Choice t u v)) (1 + max m (max n k)))
choice_adds r a b rs after rest bs x y z at s q w t u v m n k p d h i j =
    let one : Root = record { tree = t; levels = h.levels } in
    let two : Root = record { tree = u; levels = i.levels } in
    let three : Root = record { tree = v; levels = j.levels } in
    let o = parts_are a rest (x ∷ y ∷ z ∷ []) bs s (one ∷ two ∷ three ∷ []) (ap (λ xs. draft_of a xs bs) (sym p.is) ∙ added_three s q w (draft_of a rs bs) t u v m n k h i j) refl in
    let first : root_at a x ≡ one = head_is (root_at a x) one (root_at a y ∷ root_at a z ∷ []) (two ∷ three ∷ []) o.0 in
    let more = tail_is (root_at a x) one (root_at a y ∷ root_at a z ∷ []) (two ∷ three ∷ []) o.0 in
    let second : root_at a y ≡ two = head_is (root_at a y) two (root_at a z ∷ []) (three ∷ []) more in
    let third : root_at a z ≡ three = head_is (root_at a z) three [] [] (tail_is (root_at a y) two (root_at a z ∷ []) (three ∷ []) more) in
    step_adds r a b rs after bs rest (x ∷ y ∷ z ∷ []) (N.Choice x y z) at s (E.At at (E.Choice t u v)) (max m (max n k)) p d o.1
    (ap (λ (g : Root). E.At at (E.Choice g.tree (tree_at (arena_trees a) y) (tree_at (arena_trees a) z))) first ∙ ap (λ (g : Root). E.At at (E.Choice t g.tree (tree_at (arena_trees a) z))) second
    ∙ ap (λ (g : Root). E.At at (E.Choice t u g.tree)) third)
    (omega (arith, ap (λ (g : Root). g.levels) first, ap (λ (g : Root). g.levels) second, ap (λ (g : Root). g.levels) third, h.few, i.few, j.few))

-- ---- found at the end of the stack

pub ends_in : (count : ℕ) (a : Arena) (rs bs : List ℕ) (v : Growing) → (let w : Growing = record { arena = a; roots = rs; bodies = bs } in w) ≡ v → EndsWith count (draft v) → EndsWith count (draft_of a rs bs)
ends_in count a rs bs v e h = subst (λ (w : Growing). EndsWith count (draft w)) (sym e) h

at_last : (rs : List ℕ) (len k x : ℕ) → len ≡ length rs → x ≡ get_or rs (len - k) x → x ≡ get_or rs (length rs - k) x
at_last rs len k x e h = h ∙ ap (λ n. get_or rs (n - k) x) e

pub unary_found : (a : Arena) (rs bs : List ℕ) (v : Growing) (op : UnaryOp) (len x at : ℕ) → IsGrowing a rs bs → (let w : Growing = record { arena = a; roots = rs; bodies = bs } in w) ≡ v → EndsWith 1 (draft v)
    → len ≡ length rs → x ≡ get_or rs (len - 1) x → IsStep a rs bs (take (length rs - 1) rs) (x ∷ []) (N.Unary op x) at
unary_found a rs bs v op len x at g view h e f =
    let ends = ends_in 1 a rs bs v view h in
    unary_step a rs (take (length rs - 1) rs) bs op x at g (last_one rs x (ends_enough 1 a rs bs ends) (at_last rs len 1 x e f)) ends

pub binary_found : (a : Arena) (rs bs : List ℕ) (v : Growing) (op : BinaryOp) (len x y at : ℕ) → IsGrowing a rs bs → (let w : Growing = record { arena = a; roots = rs; bodies = bs } in w) ≡ v → EndsWith 2 (draft v)
    → len ≡ length rs → x ≡ get_or rs (len - 2) x → y ≡ get_or rs (len - 1) y → IsStep a rs bs (take (length rs - 2) rs) (x ∷ y ∷ []) (N.Binary op x y) at
binary_found a rs bs v op len x y at g view h e f k =
    let ends = ends_in 2 a rs bs v view h in
    binary_step a rs (take (length rs - 2) rs) bs op x y at g (last_two rs x y (ends_enough 2 a rs bs ends) (at_last rs len 2 x e f) (at_last rs len 1 y e k)) ends

pub choice_found : (a : Arena) (rs bs : List ℕ) (v : Growing) (len x y z at : ℕ) → IsGrowing a rs bs → (let w : Growing = record { arena = a; roots = rs; bodies = bs } in w) ≡ v → EndsWith 3 (draft v)
    → len ≡ length rs → x ≡ get_or rs (len - 3) x → y ≡ get_or rs (len - 2) y → z ≡ get_or rs (len - 1) z → IsStep a rs bs (take (length rs - 3) rs) (x ∷ y ∷ z ∷ []) (N.Choice x y z) at
choice_found a rs bs v len x y z at g view h e f k l =
    let ends = ends_in 3 a rs bs v view h in
    choice_step a rs (take (length rs - 3) rs) bs x y z at g (last_three rs x y z (ends_enough 3 a rs bs ends) (at_last rs len 3 x e f) (at_last rs len 2 y e k) (at_last rs len 1 z e l)) ends

pub select_found : (a : Arena) (rs bs : List ℕ) (v : Growing) (n : Node) (part : Part) (len x y at : ℕ) → IsGrowing a rs bs → (let w : Growing = record { arena = a; roots = rs; bodies = bs } in w) ≡ v → EndsInSelect part (draft v)
    → IsSelect a n part x y → len ≡ length rs → x ≡ get_or rs (len - 2) x → y ≡ get_or rs (len - 1) y → IsStep a rs bs (take (length rs - 2) rs) (x ∷ y ∷ []) n at
select_found a rs bs v n part len x y at g view h is e f k =
    let ends : EndsInSelect part (draft_of a rs bs) = subst (λ (w : Growing). EndsInSelect part (draft w)) (sym view) h in
    let enough : 2 ≤ length rs = ends_enough 2 a rs bs (record { before = ends.before; last = ends.index ∷ ends.of ∷ []; is = ends.is; many = refl; few = ends.few }) in
    select_step a rs (take (length rs - 2) rs) bs n part x y at g (last_two rs x y enough (at_last rs len 2 x e f) (at_last rs len 1 y e k)) is ends

pub select_enough : (a : Arena) (rs bs : List ℕ) (v : Growing) (part : Part) → (let w : Growing = record { arena = a; roots = rs; bodies = bs } in w) ≡ v → EndsInSelect part (draft v) → 2 ≤ length rs
select_enough a rs bs v part view h =
    let ends : EndsInSelect part (draft_of a rs bs) = subst (λ (w : Growing). EndsInSelect part (draft w)) (sym view) h in
    ends_enough 2 a rs bs (record { before = ends.before; last = ends.index ∷ ends.of ∷ []; is = ends.is; many = refl; few = ends.few })

pub with_enough : (count : ℕ) (a : Arena) (rs bs : List ℕ) (v : Growing) → (let w : Growing = record { arena = a; roots = rs; bodies = bs } in w) ≡ v → EndsWith count (draft v) → count ≤ length rs
with_enough count a rs bs v view h = ends_enough count a rs bs (ends_in count a rs bs v view h)

pub last_added : (a : Arena) (rs bs : List ℕ) (v : Growing) (s : Draft) (t : E.Expression) (m : ℕ) → (let w : Growing = record { arena = a; roots = rs; bodies = bs } in w) ≡ v → AddsExpression s (draft v) t m → AddsExpression s (draft_of a rs bs) t m
last_added a rs bs v s t m e h = subst (λ (w : Growing). AddsExpression s (draft w) t m) (sym e) h

pub first_added : {U F : Type 0} (r : Result U F) (a : Arena) (rs bs : List ℕ) (v : Growing) (new : Draft) (t : E.Expression) (m : ℕ) → (let w : Growing = record { arena = a; roots = rs; bodies = bs } in w) ≡ v → OnOk r (AddsExpression (draft_of a rs bs) new t m) → OnOk r (AddsExpression (draft v) new t m)
first_added r a rs bs v new t m e h = subst (λ (w : Growing). OnOk r (AddsExpression (draft w) new t m)) e h

pub formed_in : (a : Arena) (rs bs : List ℕ) (v : Growing) (t : E.Expression) → (let w : Growing = record { arena = a; roots = rs; bodies = bs } in w) ≡ v → is_formed (home (draft v)) t ≡ true → is_formed (current a) t ≡ true
formed_in a rs bs v t e h = subst (λ (w : Growing). is_formed (home (draft w)) t ≡ true) (sym e) h

-- no local signal of a function is a memory
local_plain : (d : Design) (h : E.Header) (m : E.Signal) (ss : List E.Signal) (n : ℕ) → list_all (is_local d h) ss ≡ true → is_this m (slice_get ss n) ≡ true → is_memory m ≡ false
local_plain d h m [] n l t = cc
local_plain d h m (s ∷ ss) zero l t =
    let k = and_both (is_local d h s) (list_all (is_local d h) ss) l in
    ap is_memory (same_signals m s t) ∙ last ((s.scope == h.result.scope) && nat_lt s.scope (length d.scopes) && is_lawful_range s.range && (not s.net || s.input)) (is_memory s) k.0
  where
    last : (p q : Bool) → (p && not q) ≡ true → q ≡ false
    last true false e = refl
    last true true e = cc
    last false q e = cc
local_plain d h m (s ∷ ss) (suc n) l t = local_plain d h m ss n (and_both (is_local d h s) (list_all (is_local d h) ss) l).1 t

locals_of_header : (d : Design) (h : E.Header) → is_formed_header d h ≡ true → list_all (is_local d h) (E.local_signals h) ≡ true
locals_of_header d h k =
    let first = not (is_nil h.inputs) && are_numbered 0 0 (E.local_signals h) && have_bits_from 0 (E.local_signals h) in
    let p = and_both (first && list_all (is_local d h) (E.local_signals h) && list_all is_input h.inputs) (list_all is_variable (h.result ∷ h.own)) k in
    let q = and_both (first && list_all (is_local d h) (E.local_signals h)) (list_all is_input h.inputs) p.0 in
    (and_both first (list_all (is_local d h) (E.local_signals h)) q.0).1

-- so where a memory is named, no function is open
outside_function : (a : Arena) (rs bs : List ℕ) (m : E.Signal) → IsGrowing a rs bs → has_words (current a) m ≡ true → open_header a ≡ None
outside_function a rs bs m g h = by (open_header a) refl h
  where
    clash : is_memory m ≡ true → is_memory m ≡ false → ⊥
    clash e f = cc

    by : (o : Option E.Header) → open_header a ≡ o → has_words (home_in (design_of a) o) m ≡ true → o ≡ None
    by None e k = refl
    by (Some l) e k =
        let b = and_both (is_signal (home_in (design_of a) (Some l)) m) (is_memory m) k in
        absurd (clash b.1 (local_plain (design_of a) l m (E.local_signals l) m.number (locals_of_header (design_of a) l (g.header l e)) b.0))

pub words_of_part : (d : Design) (s : E.Signal) (part : Part) → is_formed_word_part d s part ≡ true → has_words d s ≡ true
words_of_part d s part h = (and_both (has_words d s) (same_range s.range (Some part.range)) (and_both (has_words d s && same_range s.range (Some part.range)) (fits_64 part.width) h).0).0

-- a memory of the design
pub record IsMemory (a : Arena) (v : Growing) (n : ℕ) : Type 0 where
  pub outside : open_header a ≡ None
  pub there : n < length a.signals
  pub words : has_words (design_of a) (signal_at (arena_signals a) n) ≡ true
  pub same : signal_at (arena_signals a) n ≡ signal_at (home (draft v)).signals n

pub memory_is : (a : Arena) (rs bs : List ℕ) (v : Growing) (n : ℕ) → IsGrowing a rs bs → (let w : Growing = record { arena = a; roots = rs; bodies = bs } in w) ≡ v → n < length (home (draft v)).signals
    → has_words (home (draft v)) (signal_at (home (draft v)).signals n) ≡ true → IsMemory a v n
memory_is a rs bs v n g view there words =
    let here : has_words (current a) (signal_at (current a).signals n) ≡ true = subst (λ (w : Growing). has_words (home (draft w)) (signal_at (home (draft w)).signals n) ≡ true) (sym view) words in
    let within : n < length (current a).signals = subst (λ (w : Growing). n < length (home (draft w)).signals) (sym view) there in
    let out = outside_function a rs bs (signal_at (current a).signals n) g here in
    record {
      outside = out;
      there = omega (arith, subst (λ o. n < length (home_in (design_of a) o).signals) out within, length-signals a);
      words = subst (λ o. has_words (home_in (design_of a) o) (signal_at (home_in (design_of a) o).signals n) ≡ true) out here;
      same = ap (λ o. signal_at (home_in (design_of a) o).signals n) (sym out) ∙ ap (λ (w : Growing). signal_at (home (draft w)).signals n) view;
    }

pub word_found : (a : Arena) (rs bs : List ℕ) (v : Growing) (n len x at : ℕ) → IsGrowing a rs bs → (let w : Growing = record { arena = a; roots = rs; bodies = bs } in w) ≡ v → n < length (home (draft v)).signals
    → has_words (home (draft v)) (signal_at (home (draft v)).signals n) ≡ true → EndsWith 1 (draft v) → len ≡ length rs → x ≡ get_or rs (len - 1) x → IsStep a rs bs (take (length rs - 1) rs) (x ∷ []) (N.Word n x) at
word_found a rs bs v n len x at g view there words h e f =
    let ends = ends_in 1 a rs bs v view h in
    let m = memory_is a rs bs v n g view there words in
    word_step a rs (take (length rs - 1) rs) bs n x at g (last_one rs x (ends_enough 1 a rs bs ends) (at_last rs len 1 x e f)) m.there m.outside m.words ends

pub word_part_found : (a : Arena) (rs bs : List ℕ) (v : Growing) (n : ℕ) (range : Range) (up : Bool) (width len x y at : ℕ) → IsGrowing a rs bs → (let w : Growing = record { arena = a; roots = rs; bodies = bs } in w) ≡ v → n < length (home (draft v)).signals
    → is_formed_word_part (home (draft v)) (signal_at (home (draft v)).signals n) (record { range = range; up = up; width = width }) ≡ true → EndsWith 2 (draft v) → len ≡ length rs → x ≡ get_or rs (len - 2) x → y ≡ get_or rs (len - 1) y
    → IsStep a rs bs (take (length rs - 2) rs) (x ∷ y ∷ []) (N.WordPart n x range y up width) at
word_part_found a rs bs v n range up width len x y at g view there formed h e f k =
    let part : Part = record { range = range; up = up; width = width } in
    let ends = ends_in 2 a rs bs v view h in
    let m = memory_is a rs bs v n g view there (words_of_part (home (draft v)) (signal_at (home (draft v)).signals n) part formed) in
    let here : is_formed_word_part (current a) (signal_at (current a).signals n) part ≡ true = subst (λ (w : Growing). is_formed_word_part (home (draft w)) (signal_at (home (draft w)).signals n) part ≡ true) (sym view) formed in
    word_part_step a rs (take (length rs - 2) rs) bs n range up width x y at g (last_two rs x y (ends_enough 2 a rs bs ends) (at_last rs len 2 x e f) (at_last rs len 1 y e k)) m.there m.outside
    (subst (λ o. is_formed_word_part (home_in (design_of a) o) (signal_at (home_in (design_of a) o).signals n) part ≡ true) m.outside here) ends

-- ---- names: of the design's signals, and in a function of its local ones

-- what `name` adds
pub record IsName (a : Arena) (n : ℕ) (node : Node) : Type 0 where
  pub names : node_names node ≡ []
  pub expressions : node_expressions node ≡ []
  pub covers : covers_node a node ≡ true
  pub copies : has_copies node ≡ true
  pub tree : node_tree (arena_names a) (tree_at (arena_trees a)) node ≡ E.Name (signal_at (current a).signals n)

pub name_is : (a : Arena) (n : ℕ) → open_function a ≡ None → n < length (current a).signals → IsName a n (N.Name n)
name_is a n none there = record {
  names = refl;
  expressions = refl;
  covers = covers_name a n (omega (arith, subst (λ o. n < length (home_in (design_of a) (header_if o)).signals) none there, length-signals a));
  copies = refl;
  tree = ap (λ o. E.Name (signal_at (home_in (design_of a) (header_if o)).signals n)) (sym none);
}

-- a function's local signals, in the order of their numbers
length_from : (n : ℕ) (ss : List Signal) → length (signals_from n ss) ≡ length ss
length_from n [] = refl
length_from n (s ∷ ss) = ap suc (length_from (suc n) ss)

pub locals_are : (f : Function) → has_locals f ≡ true → E.local_signals (header_of f) ≡ signals_from 0 f.signals
locals_are f h = header_locals f (ltb-true f.inputs (length f.signals) (first (nat_lt f.inputs (length f.signals)) _ _ h))
  where
    first : (p q r : Bool) → (p && q && r) ≡ true → p ≡ true
    first true true r e = refl
    first true false r e = cc
    first false q r e = cc

pub local_is : (a : Arena) (n : ℕ) (d : Declared) → open_function a ≡ Some d → has_locals d.function ≡ true → n < length (current a).signals → IsName a n (N.Local (length a.bodies) n)
local_is a n d some locals there =
    let same : (current a).signals ≡ signals_from 0 d.function.signals = ap (λ o. (home_in (design_of a) (header_if o)).signals) some ∙ locals_are d.function locals in
    let own : locals_in (open_function a) ≡ d.function.signals = ap locals_in some in
    let within : n < length d.function.signals = omega (arith, subst (λ ss. n < length ss) same there, length_from 0 d.function.signals) in
    record {
      names = refl;
      expressions = refl;
      covers = and_true (true && true) (nat_lt n (length (locals_in (open_function a)))) refl (lt-ltb n (length (locals_in (open_function a))) (subst (λ ss. n < length ss) (sym own) within));
      copies = refl;
      tree = ap (λ ss. E.Name (signal_at (signals_from 0 ss) n)) own ∙ ap (λ ss. E.Name (signal_at ss n)) (sym same);
    }

pub name_step : (a : Arena) (rs bs : List ℕ) (n : ℕ) (node : Node) (at : ℕ) → IsGrowing a rs bs → IsName a n node → is_formed (current a) (E.Name (signal_at (current a).signals n)) ≡ true → IsStep a rs bs rs [] node at
name_step a rs bs n node at g i formed = leaf_step a rs bs node at g i.names i.expressions i.covers i.copies (ap (is_formed (current a)) i.tree ∙ formed)

-- the last function, while it has no statement
some_open : (b : Bool) (o : Option Declared) → b ≡ is_some o → b ≡ true → (d : Declared) × (o ≡ Some d)
some_open b None e h = absurd (no (sym e ∙ h))
  where
    no : false ≡ true → ⊥
    no q = cc
some_open b (Some d) e h = (d, refl)

none_open : (b : Bool) (o : Option Declared) → b ≡ is_some o → b ≡ false → o ≡ None
none_open b None e h = refl
none_open b (Some d) e h = absurd (no (sym e ∙ h))
  where
    no : true ≡ false → ⊥
    no q = cc

all_get : {X : Type 0} (p : X → Bool) (xs : List X) (n : ℕ) (x : X) → list_all p xs ≡ true → slice_get xs n ≡ Some x → p x ≡ true
all_get p [] zero x h e = cc
all_get p [] (suc n) x h e = cc
all_get p (y ∷ ys) zero x h e = ap p (sym (same e)) ∙ (and_both (p y) (list_all p ys) h).0
  where
    same : Some y ≡ Some x → y ≡ x
    same q = cc
all_get p (y ∷ ys) (suc n) x h e = all_get p ys n x (and_both (p y) (list_all p ys) h).1 e

pub name_found : (a : Arena) (rs bs : List ℕ) (v : Growing) (n : ℕ) (inside : Bool) → (let w : Growing = record { arena = a; roots = rs; bodies = bs } in w) ≡ v → inside ≡ is_some (open_function a) → inside ≡ false → n < length (home (draft v)).signals
    → IsName a n (N.Name n)
name_found a rs bs v n inside view e h there = name_is a n (none_open inside (open_function a) e h) (subst (λ (w : Growing). n < length (home (draft w)).signals) (sym view) there)

pub local_found : (a : Arena) (rs bs : List ℕ) (v : Growing) (n function : ℕ) (inside : Bool) → IsGrowing a rs bs → (let w : Growing = record { arena = a; roots = rs; bodies = bs } in w) ≡ v → inside ≡ is_some (open_function a) → inside ≡ true
    → function ≡ length a.bodies → n < length (home (draft v)).signals → IsName a n (N.Local function n)
local_found a rs bs v n function inside g view e h is there =
    let d = some_open inside (open_function a) e h in
    let locals = all_get (λ (x : Declared). has_locals x.function) a.functions (length a.bodies) d.0 g.locals d.1 in
    subst (λ f. IsName a n (N.Local f n)) (sym is) (local_is a n d.0 d.1 locals (subst (λ (w : Growing). n < length (home (draft w)).signals) (sym view) there))

named_step : (a : Arena) (rs bs : List ℕ) (v : Growing) (n : ℕ) (node : Node) (at : ℕ) → IsGrowing a rs bs → (let w : Growing = record { arena = a; roots = rs; bodies = bs } in w) ≡ v → IsName a n node
    → is_formed (home (draft v)) (E.Name (signal_at (home (draft v)).signals n)) ≡ true → IsStep a rs bs rs [] node at
named_step a rs bs v n node at g view i formed = name_step a rs bs n node at g i (subst (λ (w : Growing). is_formed (home (draft w)) (E.Name (signal_at (home (draft w)).signals n)) ≡ true) (sym view) formed)

pub name_kept : {U F : Type 0} (r : Result U F) (a b : Arena) (rs after bs : List ℕ) (v : Growing) (n : ℕ) (node : Node) (at : ℕ) → IsGrowing a rs bs → (let w : Growing = record { arena = a; roots = rs; bodies = bs } in w) ≡ v → IsName a n node
    → is_formed (home (draft v)) (E.Name (signal_at (home (draft v)).signals n)) ≡ true → IsAdded r a b rs after rs node at → IsGrowing b after bs
name_kept r a b rs after bs v n node at g view i formed d = step_kept r a b rs after bs rs [] node at (named_step a rs bs v n node at g view i formed) d

pub name_adds : {U F : Type 0} (r : Result U F) (a b : Arena) (rs after bs : List ℕ) (v : Growing) (n : ℕ) (node : Node) (at : ℕ) → IsGrowing a rs bs → (let w : Growing = record { arena = a; roots = rs; bodies = bs } in w) ≡ v → IsName a n node
    → is_formed (home (draft v)) (E.Name (signal_at (home (draft v)).signals n)) ≡ true → IsAdded r a b rs after rs node at → OnOk r (AddsExpression (draft v) (draft_of b after bs) (E.At at (E.Name (signal_at (home (draft v)).signals n))) 1)
name_adds r a b rs after bs v n node at g view i formed d =
    first_added r a rs bs v (draft_of b after bs) (E.At at (E.Name (signal_at (home (draft v)).signals n))) 1 view
    (leaf_adds r a b rs after bs node at (E.At at (E.Name (signal_at (home (draft v)).signals n))) (named_step a rs bs v n node at g view i formed) d
    (ap (E.At at) i.tree ∙ ap (λ (w : Growing). E.At at (E.Name (signal_at (home (draft w)).signals n))) view) i.expressions)
