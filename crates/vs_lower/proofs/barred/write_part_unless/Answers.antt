use Rattle.std.proofs.Common.{◌≡◌, ◌∙◌, ◌++◌, ◌+◌, ◌<◌, ◌&&◌, ℕ, zero, suc, true, List, [], ◌∷◌, length, take, drop, sym, ap, ap₂, subst, refl, arith, true≢false}
use Rattle.std.specs.Prelude.{OnOk}
use Rattle.std.specs.List.{All}
use Rattle.std.proofs.lemmas.List.{length-take}
use Rattle.std.proofs.lemmas.List.Elements.{All-head}
use Rattle.std.proofs.lemmas.List.Sums.{sum_by-cons}
use Rattle.vs_four.specs.Selects.{Part}
use Rattle.vs_design.specs.Expressions.{sign, width}
use Rattle.vs_design.specs.Fits.{fits_target}
use Rattle.vs_design.specs.Statements.{Target}
use Rattle.vs_design.specs.Within.{names_within, signal_within}
use Rattle.vs_flat.specs.Arena.{Arena}
use Rattle.vs_flat.specs.DesignOf.{arena_signals, arena_trees}
use Rattle.vs_flat.specs.Trees.{signal_at, tree_at}
use Rattle.vs_values.specs.Coded.{Coding}
use Rattle.vs_values.specs.Constants.{AreConstant}
use Rattle.vs_values.specs.Templates.{Templated, node_bound}
use Rattle.vs_values.proofs.Lists.{all_left, all_right}
use Rattle.vs_values.proofs.Values.{both_true}
use Rattle.vs_lower.specs.declared.leaves.Leaf.{Leaf}
use Rattle.vs_lower.specs.declared.parts.WordPart.{WordPart}
use Rattle.vs_lower.specs.Leaves.{leaf_target}
use Rattle.vs_lower.specs.Parts.{part_target}
use Rattle.vs_lower.specs.Unless.{AddsUnlessWrite, IsUnlessWriteReady, IsVariedReady, unless_weight}
use Rattle.vs_lower.specs.Written.{IsIndexed, IsVariedPart, write_weight}
use Rattle.vs_lower.proofs.Barring.{leaf_ready}
use Rattle.vs_lower.proofs.Partwise.{fit_word_part}
use Rattle.vs_lower.proofs.barred.write_part_unless.Goals as goal

halves : (n : ℕ) (xs : List ℕ) → take n xs ++ drop n xs ≡ xs
halves zero xs = refl
halves (suc n) [] = refl
halves (suc n) (x ∷ xs) = ap (λ (ys : List ℕ). x ∷ ys) (halves n xs)

-- what is known of the part, in the words of the word's part
known : (t : Templated) (env : List ℕ) (code : Coding) (p : WordPart) (target : Target) (ti tv : List ℕ) (bar : ℕ) → target ≡ part_target t.arena p (length tv) → p.signal < length t.arena.signals → p.address < node_bound t → p.selection.signed ≡ sign (tree_at (arena_trees t.arena) p.index)
    → IsUnlessWriteReady env code target (ti ∷ []) tv bar
    → (AreConstant (take (width (tree_at (arena_trees t.arena) p.address)) ti) → ⊥) → (AreConstant (drop (width (tree_at (arena_trees t.arena) p.address)) ti) → ⊥)
    → IsVariedReady t env code p (take (width (tree_at (arena_trees t.arena) p.address)) ti) (drop (width (tree_at (arena_trees t.arena) p.address)) ti) tv bar
known t env code p target ti tv bar is s at g r0 v j =
    let u = part_target t.arena p (length tv) in
    let r = subst (λ (x : Target). IsUnlessWriteReady env code x (ti ∷ []) tv bar) is r0 in
    let signal = signal_at (arena_signals t.arena) p.signal in
    let address = tree_at (arena_trees t.arena) p.address in
    let index = tree_at (arena_trees t.arena) p.index in
    let w = width address in
    let weighs : unless_weight u ≡ length tv + write_weight u = omega (arith, sum_by-cons write_weight u []) in
    let P : List ℕ → Type 0 = λ to. All (λ slot. slot < code.next) to in
    let whole : P (take w ti ++ drop w ti) = subst P (sym (halves w ti)) (All-head P ti [] r.at_below) in
    let n = length env in
    let names = both_true (signal_within n signal && names_within n address) (names_within n index) r.names in
    record {
      part = record {
        signal = s;
        at = at;
        within = (both_true (signal_within n signal) (names_within n address) names.0).0;
        room = record { is_env = r.is_env; light = omega (arith, r.light, weighs); slots = omega (arith, r.slots, weighs); few = omega (arith, r.few, weighs) };
        fit = r.fit;
        sign_is = g;
        value_below = r.value_below;
        address_below = all_left (λ slot. slot < code.next) (take w ti) (drop w ti) whole;
        index_below = all_right (λ slot. slot < code.next) (take w ti) (drop w ti) whole;
        addressed = r.indexed.0.0;
        indexed = r.indexed.0.1;
      };
      room = record { is_env = r.is_env; light = omega (arith, r.light, weighs); slots = omega (arith, r.slots, weighs); few = omega (arith, r.few, weighs) };
      address_varies = v;
      index_varies = j;
      bar_below = r.bar_below;
    }

fits_part : (a : Arena) (p : WordPart) (n : ℕ) (target : Target) → target ≡ part_target a p n → fits_target target ≡ true → fits_target (part_target a p n) ≡ true
fits_part a p n target is f = subst (λ (x : Target). fits_target x ≡ true) is f

pub own-split-requires-clause-fit : goal.own-split-requires-clause-fit
own-split-requires-clause-fit c =
    let a = c.args.templates.now.arena in
    let p = c.args.part in
    let part : Part = record { range = p.selection.range; up = p.selection.up; width = length c.args.value.now } in
    (fit_word_part (signal_at (arena_signals a) p.signal) (tree_at (arena_trees a) p.address) part (tree_at (arena_trees a) p.index) (fits_part a p (length c.args.value.now) (leaf_target a c.args.leaf) c.requires.leaf c.requires.ready.fit)).address_fit

-- the slots of the address, and of the index
indexed_part : (a : Arena) (env : List ℕ) (code : Coding) (p : WordPart) (leaf : Leaf) (ti tv : List ℕ) (bar : ℕ) → leaf_target a leaf ≡ part_target a p (length tv) → IsUnlessWriteReady env code (leaf_target a leaf) (ti ∷ []) tv bar
    → IsIndexed (part_target a p (length tv)) ti
indexed_part a env code p leaf ti tv bar is r = subst (λ (x : Target). IsIndexed x ti) is (leaf_ready a env code leaf ti tv bar r).indexed

pub split_at-requires : goal.split_at-requires
split_at-requires c =
    let a = c.args.templates.now.arena in
    let i = indexed_part a c.args.env.now c.args.code.now c.args.part c.args.leaf c.args.index.now c.args.value.now c.args.bar c.requires.leaf c.requires.ready in
    omega (arith, c.own-split.ensures.width, i.0.long, length-take (width (tree_at (arena_trees a) c.args.part.address)) c.args.index.now)

pub write_joined-requires-clause-few : goal.write_joined-requires-clause-few
write_joined-requires-clause-few c =
    let a = c.args.templates.now.arena in
    let ti = c.args.index.now in
    let high = c.split_at.ensures.front ∙ ap (λ (n : ℕ). take n ti) c.own-split.ensures.width in
    subst (λ (x : Target). IsVariedPart x (ti ∷ []) → ⊥) (sym c.requires.leaf) (λ v. v.0 (subst AreConstant high (c.are_constant.ensures.0 c.if-are_constant.true)))

pub write_joined-requires-then-are_constant-2-clause-few : goal.write_joined-requires-then-are_constant-2-clause-few
write_joined-requires-then-are_constant-2-clause-few c =
    let a = c.args.templates.now.arena in
    let ti = c.args.index.now in
    let low = c.split_at.ensures.back ∙ ap (λ (n : ℕ). drop n ti) c.own-split.ensures.width in
    subst (λ (x : Target). IsVariedPart x (ti ∷ []) → ⊥) (sym c.requires.leaf) (λ v. v.1 (subst AreConstant low (c.are_constant-2.ensures.0 c.if-are_constant-2.true)))

pub write_varied-requires : goal.write_varied-requires
write_varied-requires c =
    let t = c.args.templates.now in
    let a = t.arena in
    let p = c.args.part in
    let ti = c.args.index.now in
    let tv = c.args.value.now in
    let w = width (tree_at (arena_trees a) p.address) in
    let high = c.split_at.ensures.front ∙ ap (λ (n : ℕ). take n ti) c.own-split.ensures.width in
    let low = c.split_at.ensures.back ∙ ap (λ (n : ℕ). drop n ti) c.own-split.ensures.width in
    subst (λ (x : List ℕ). IsVariedReady t c.args.env.now c.args.code.now p x c.split_at.result.1.now tv c.args.bar) (sym high)
    (subst (λ (x : List ℕ). IsVariedReady t c.args.env.now c.args.code.now p (take w ti) x tv c.args.bar) (sym low)
    (known t c.args.env.now c.args.code.now p (leaf_target a c.args.leaf) ti tv c.args.bar c.requires.leaf c.requires.signal c.requires.at c.requires.sign c.requires.ready
    (λ h. true≢false (sym (c.are_constant.ensures.1 (subst AreConstant (sym high) h)) ∙ c.if-are_constant.false))
    (λ h. true≢false (sym (c.are_constant-2.ensures.1 (subst AreConstant (sym low) h)) ∙ c.if-are_constant-2.false))))

pub returns : goal.returns
returns c =
    let a = c.args.templates.now.arena in
    let p = c.args.part in
    let ti = c.args.index.now in
    let tv = c.args.value.now in
    let env = c.args.env.now in
    let env1 = c.write_varied.new.env in
    let code = c.args.code.now in
    let code1 = c.write_varied.new.code in
    let high = c.split_at.ensures.front ∙ ap (λ (n : ℕ). take n ti) c.own-split.ensures.width in
    let low = c.split_at.ensures.back ∙ ap (λ (n : ℕ). drop n ti) c.own-split.ensures.width in
    subst (λ (x : Target). OnOk c.write_varied.result (AddsUnlessWrite env env1 code code1 x (ti ∷ []) tv c.args.bar)) (sym c.requires.leaf)
    (subst (λ (xs : List ℕ). OnOk c.write_varied.result (AddsUnlessWrite env env1 code code1 (part_target a p (length tv)) (xs ∷ []) tv c.args.bar))
    (ap₂ (λ (x y : List ℕ). x ++ y) high low ∙ halves (width (tree_at (arena_trees a) p.address)) ti) c.write_varied.ensures)
