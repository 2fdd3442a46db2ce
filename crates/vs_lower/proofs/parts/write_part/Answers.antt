use Rattle.std.proofs.Common.{◌≡◌, ◌∙◌, ◌++◌, ◌<◌, ℕ, zero, suc, List, [], ◌∷◌, length, take, drop, sym, ap, ap₂, subst, refl, arith}
use Rattle.std.specs.Prelude.{OnOk}
use Rattle.std.specs.List.{All}
use Rattle.std.proofs.lemmas.List.{length-take}
use Rattle.vs_four.specs.Selects.{Part}
use Rattle.vs_design.specs.Expressions.{width}
use Rattle.vs_flat.specs.DesignOf.{arena_signals, arena_trees}
use Rattle.vs_flat.specs.Trees.{signal_at, tree_at}
use Rattle.vs_lower.specs.Parts.{part_target}
use Rattle.vs_lower.specs.Written.{AddsWrites, IsIndex, write_weight}
use Rattle.vs_values.proofs.Lists.{all_left, all_right}
use Rattle.vs_lower.proofs.Partwise.{fit_word_part}
use Rattle.vs_lower.proofs.parts.write_part.Goals as goal

halves : (n : ℕ) (xs : List ℕ) → take n xs ++ drop n xs ≡ xs
halves zero xs = refl
halves (suc n) [] = refl
halves (suc n) (x ∷ xs) = ap (λ (ys : List ℕ). x ∷ ys) (halves n xs)

pub own-split-requires-clause-fit : goal.own-split-requires-clause-fit
own-split-requires-clause-fit c =
    let a = c.args.templates.now.arena in
    let p = c.args.part in
    let part : Part = record { range = p.selection.range; up = p.selection.up; width = length c.args.value.now } in
    (fit_word_part (signal_at (arena_signals a) p.signal) (tree_at (arena_trees a) p.address) part (tree_at (arena_trees a) p.index) c.requires.fit).address_fit

pub split_at-requires : goal.split_at-requires
split_at-requires c =
    let a = c.args.templates.now.arena in
    omega (arith, c.own-split.ensures.width, c.requires.indexed.0.long, length-take (width (tree_at (arena_trees a) c.args.part.address)) c.args.index.now)

pub write_word_part-requires : goal.write_word_part-requires
write_word_part-requires c =
    let a = c.args.templates.now.arena in
    let p = c.args.part in
    let ti = c.args.index.now in
    let P : List ℕ → Type 0 = λ to. All (λ slot. slot < c.args.code.now.next) to in
    let whole : P (take (width (tree_at (arena_trees a) p.address)) ti ++ drop (width (tree_at (arena_trees a) p.address)) ti) = subst P (sym (halves (width (tree_at (arena_trees a) p.address)) ti)) c.requires.index in
    let w = width (tree_at (arena_trees a) p.address) in
    let high = c.split_at.ensures.front ∙ ap (λ (n : ℕ). take n ti) c.own-split.ensures.width in
    let low = c.split_at.ensures.back ∙ ap (λ (n : ℕ). drop n ti) c.own-split.ensures.width in
    record {
      signal = c.requires.signal;
      at = c.requires.at;
      within = c.requires.within;
      room = c.requires.room;
      fit = c.requires.fit;
      sign_is = c.requires.sign;
      value_below = c.requires.value;
      address_below = subst P (sym high) (all_left (λ slot. slot < c.args.code.now.next) (take w ti) (drop w ti) whole);
      index_below = subst P (sym low) (all_right (λ slot. slot < c.args.code.now.next) (take w ti) (drop w ti) whole);
      addressed = subst (IsIndex (tree_at (arena_trees a) p.address)) (sym high) c.requires.indexed.0;
      indexed = subst (IsIndex (tree_at (arena_trees a) p.index)) (sym low) c.requires.indexed.1;
    }

pub returns : goal.returns
returns c =
    let a = c.args.templates.now.arena in
    let p = c.args.part in
    let ti = c.args.index.now in
    let tv = c.args.value.now in
    let target = part_target a p (length tv) in
    let high = c.split_at.ensures.front ∙ ap (λ (n : ℕ). take n ti) c.own-split.ensures.width in
    let low = c.split_at.ensures.back ∙ ap (λ (n : ℕ). drop n ti) c.own-split.ensures.width in
    subst (λ (xs : List ℕ). OnOk c.write_word_part.result (AddsWrites c.args.env.now c.write_word_part.new.env c.args.code.now c.write_word_part.new.code target (xs ∷ []) tv (write_weight target)))
    (ap₂ (λ (x y : List ℕ). x ++ y) high low ∙ halves (width (tree_at (arena_trees a) p.address)) ti) c.write_word_part.ensures
