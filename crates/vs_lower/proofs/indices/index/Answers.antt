use Rattle.std.proofs.Common.{◌≡◌, ◌&&◌, refl, sym, subst, true, length}
use Rattle.vs_four.specs.Selects.{Part}
use Rattle.vs_design.specs.Fits.{fits_target}
use Rattle.vs_design.specs.Statements.{PartOf, WordOf}
use Rattle.vs_flat.specs.DesignOf.{arena_signals, arena_trees}
use Rattle.vs_flat.specs.Trees.{signal_at, tree_at}
use Rattle.vs_lower.specs.declared.leaves.Leaf.{Leaf}
use Rattle.vs_lower.specs.Leaves.{leaf_target, named_signal}
use Rattle.vs_lower.specs.Written.{AddsIndex, HasRoom, index_weight}
use Rattle.vs_values.proofs.Choosing.{own_value_of}
use Rattle.vs_lower.proofs.Indexing.{if_ok, ready_index_of, adds_whole_index, adds_part_index, adds_word_index, adds_word_part_index}
use Rattle.vs_lower.proofs.Partwise.{fit_part, fit_word, fit_word_part}
use Rattle.vs_design.specs.Within.{names_within, signal_within, target_within}
use Rattle.vs_values.proofs.Values.{both_true}
use Rattle.vs_lower.proofs.indices.index.Goals as goal

pub lower-requires-clause-ready : goal.lower-requires-clause-ready
lower-requires-clause-ready c =
    let a = c.args.templates.now.arena in
    let part : Part = record { range = c.in-Select.range; up = c.in-Select.up; width = c.in-Select.width } in
    let signal = named_signal a c.in-Select.signal in
    let index = tree_at (arena_trees a) c.in-Select.index in
    let f = fit_part signal part index (subst (λ (x : Leaf). fits_target (leaf_target a x) ≡ true) c.in-Select.is c.requires.fit) in
    ready_index_of c.args.env.now c.args.code.now (PartOf signal part index) index c.own-own.result.width c.own-own.ensures.width f.index_fit f.index_most refl
    (both_true (signal_within (length c.args.env.now) signal) (names_within (length c.args.env.now) index) (subst (λ (x : Leaf). target_within (length c.args.env.now) (leaf_target a x) ≡ true) c.in-Select.is c.requires.names)).1
    (subst (λ (x : Leaf). HasRoom c.args.env.now c.args.code.now (index_weight (leaf_target a x))) c.in-Select.is c.requires.room)

pub lower-requires-in-Word-clause-ready : goal.lower-requires-in-Word-clause-ready
lower-requires-in-Word-clause-ready c =
    let a = c.args.templates.now.arena in
    let signal = signal_at (arena_signals a) c.in-Word.signal in
    let index = tree_at (arena_trees a) c.in-Word.index in
    let f = fit_word signal index (subst (λ (x : Leaf). fits_target (leaf_target a x) ≡ true) c.in-Word.is c.requires.fit) in
    ready_index_of c.args.env.now c.args.code.now (WordOf signal index) index c.own-own-in-Word.result.width c.own-own-in-Word.ensures.width f.index_fit f.index_most refl
    (both_true (signal_within (length c.args.env.now) signal) (names_within (length c.args.env.now) index) (subst (λ (x : Leaf). target_within (length c.args.env.now) (leaf_target a x) ≡ true) c.in-Word.is c.requires.names)).1
    (subst (λ (x : Leaf). HasRoom c.args.env.now c.args.code.now (index_weight (leaf_target a x))) c.in-Word.is c.requires.room)

pub returns-in-Whole : goal.returns-in-Whole
returns-in-Whole c =
    let a = c.args.templates.now.arena in
    subst (λ (x : Leaf). AddsIndex c.args.env.now c.args.code.now c.args.code.now (leaf_target a x) c.new.result.items) (sym c.in-Whole.is)
    (adds_whole_index c.args.env.now c.args.code.now (named_signal a c.in-Whole.signal) c.new.result.items _ c.requires.room c.new.ensures.items)

pub returns-in_ok-to-in-Select : goal.returns-in_ok-to-in-Select
returns-in_ok-to-in-Select c =
    let a = c.args.templates.now.arena in
    let part : Part = record { range = c.in-Select.range; up = c.in-Select.up; width = c.in-Select.width } in
    let index = tree_at (arena_trees a) c.in-Select.index in
    let ti = c.in_ok-to-in-Select.to.items in
    subst (λ (x : Leaf). AddsIndex c.args.env.now c.args.code.now c.lower.new.code (leaf_target a x) ti) (sym c.in-Select.is)
    (adds_part_index c.value_law.ensures.constant c.args.env.now c.args.code.now c.lower.new.code (named_signal a c.in-Select.signal) part index ti
    (own_value_of c.args.env.now c.args.code.now c.lower.new.code index c.own-own.result.width c.own-own.result.signed ti c.own-own.ensures.width c.own-own.ensures.signed c.in_ok-to-in-Select.ensures))

pub returns-in_ok-to-in-Word : goal.returns-in_ok-to-in-Word
returns-in_ok-to-in-Word c =
    let a = c.args.templates.now.arena in
    let index = tree_at (arena_trees a) c.in-Word.index in
    let ti = c.in_ok-to-in-Word.to.items in
    subst (λ (x : Leaf). AddsIndex c.args.env.now c.args.code.now c.lower-in-Word.new.code (leaf_target a x) ti) (sym c.in-Word.is)
    (adds_word_index c.value_law.ensures.constant c.args.env.now c.args.code.now c.lower-in-Word.new.code (signal_at (arena_signals a) c.in-Word.signal) index ti
    (own_value_of c.args.env.now c.args.code.now c.lower-in-Word.new.code index c.own-own-in-Word.result.width c.own-own-in-Word.result.signed ti c.own-own-in-Word.ensures.width c.own-own-in-Word.ensures.signed c.in_ok-to-in-Word.ensures))

pub part_index-requires-clause-ready : goal.part_index-requires-clause-ready
part_index-requires-clause-ready c =
    let a = c.args.templates.now.arena in
    let n = length c.args.env.now in
    let part : Part = record { range = c.in-WordPart.range; up = c.in-WordPart.up; width = c.in-WordPart.width } in
    let signal = signal_at (arena_signals a) c.in-WordPart.signal in
    let address = tree_at (arena_trees a) c.in-WordPart.address in
    let index = tree_at (arena_trees a) c.in-WordPart.index in
    let f = fit_word_part signal address part index (subst (λ (x : Leaf). fits_target (leaf_target a x) ≡ true) c.in-WordPart.is c.requires.fit) in
    let names = both_true (signal_within n signal && names_within n address) (names_within n index) (subst (λ (x : Leaf). target_within n (leaf_target a x) ≡ true) c.in-WordPart.is c.requires.names) in
    record {
      address_fit = f.address_fit;
      address_most = f.address_most;
      address_names = (both_true (signal_within n signal) (names_within n address) names.0).1;
      index_fit = f.index_fit;
      index_most = f.index_most;
      index_names = names.1;
      room = subst (λ (x : Leaf). HasRoom c.args.env.now c.args.code.now (index_weight (leaf_target a x))) c.in-WordPart.is c.requires.room;
    }

pub returns-in-WordPart : goal.returns-in-WordPart
returns-in-WordPart c =
    let a = c.args.templates.now.arena in
    let part : Part = record { range = c.in-WordPart.range; up = c.in-WordPart.up; width = c.in-WordPart.width } in
    if_ok c.part_index.result c.part_index.ensures
    (λ ti both. subst (λ (x : Leaf). AddsIndex c.args.env.now c.args.code.now c.part_index.new.code (leaf_target a x) ti.items) (sym c.in-WordPart.is)
    (adds_word_part_index c.value_law.ensures.constant c.args.env.now c.args.code.now c.part_index.new.code (signal_at (arena_signals a) c.in-WordPart.signal) (tree_at (arena_trees a) c.in-WordPart.address) part (tree_at (arena_trees a) c.in-WordPart.index) ti.items
    c.requires.room.is_env both))
