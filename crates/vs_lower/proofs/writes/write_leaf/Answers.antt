use Rattle.std.proofs.Common.{◌≡◌, ◌∙◌, ◌+◌, ◌≤◌, ◌<◌, ◌&&◌, ℕ, List, [], ◌∷◌, Bool, true, map, length, slice_index, sym, ap, subst, refl, arith, true≢false}
use Rattle.std.specs.Prelude.{OnOk}
use Rattle.std.specs.List.{All}
use Rattle.vs_four.specs.Selects.{Part, places}
use Rattle.vs_design.specs.Bodies.{bits_at}
use Rattle.vs_design.specs.Expressions as E
use Rattle.vs_design.specs.Expressions.{is_constant, sign, width, signal_length}
use Rattle.vs_design.specs.Fits.{fits_target}
use Rattle.vs_design.specs.Statements.{Target, PartOf, WordPartOf, target_width}
use Rattle.vs_design.specs.Values.{bits_of_signal}
use Rattle.vs_flat.specs.Arena.{Arena}
use Rattle.vs_flat.specs.DesignOf.{arena_signals, arena_trees}
use Rattle.vs_flat.specs.Trees.{signal_at, tree_at}
use Rattle.vs_kern_select.specs.declared.costs.Kernel.TheVariants as S
use Rattle.vs_code.specs.declared.kernels.AnyKernel.TheVariants as K
use Rattle.vs_lower.specs.declared.leaves.Leaf.{Leaf}
use Rattle.vs_lower.specs.declared.leaves.Leaf.TheVariants as L
use Rattle.vs_values.specs.Coded.{Coding, with_call}
use Rattle.vs_values.specs.Constants.{AreConstant, constant_bits}
use Rattle.vs_values.specs.Environments.{placed}
use Rattle.vs_lower.specs.Leaves.{leaf_target, named_signal, IsInside}
use Rattle.vs_values.specs.Made.{IsCallable}
use Rattle.vs_lower.specs.Written.{AddsWrites, HasRoom, IsIndexed, IsIndex, write_weight}
use Rattle.vs_values.proofs.Values.{both_true}
use Rattle.vs_design.specs.Within.{names_within, signal_within, target_within}
use Rattle.vs_lower.specs.declared.named.Named.{Named}
use Rattle.vs_lower.proofs.Reaching.{within_is}
use Rattle.vs_values.proofs.Selecting.{selection}
use Rattle.vs_lower.proofs.Partwise.{fit_part, part_few, whole_adds, fixed_adds, part_selecting, part_writer, CanWrite, can_write, called_adds}
use Rattle.vs_lower.proofs.writes.write_leaf.Goals as goal

-- what is known of a select
record IsSelect (a : Arena) (env : List ℕ) (code : Coding) (signal : E.Signal) (part : Part) (index : E.Expression) (ti tv : List ℕ) : Type 0 where
  fit : fits_target (PartOf signal part index) ≡ true
  room : HasRoom env code (write_weight (PartOf signal part index))
  long : length tv ≡ part.width
  indexed : IsIndex index ti

of_leaf : (a : Arena) (env : List ℕ) (code : Coding) (leaf : Leaf) (signal : Named) (part : Part) (at : ℕ) (ti tv : List ℕ) → leaf ≡ L.Select signal part.range part.up part.width at
    → fits_target (leaf_target a leaf) ≡ true → HasRoom env code (write_weight (leaf_target a leaf)) → length tv ≡ target_width (leaf_target a leaf) → IsIndexed (leaf_target a leaf) ti
    → IsSelect a env code (named_signal a signal) part (tree_at (arena_trees a) at) ti tv
of_leaf a env code leaf signal part at ti tv is f r l i = record {
  fit = subst (λ (x : Leaf). fits_target (leaf_target a x) ≡ true) is f;
  room = subst (λ (x : Leaf). HasRoom env code (write_weight (leaf_target a x))) is r;
  long = subst (λ (x : Leaf). length tv ≡ target_width (leaf_target a x)) is l;
  indexed = subst (λ (x : Leaf). IsIndexed (leaf_target a x) ti) is i;
}

pub place_select-requires-clause-some_index : goal.place_select-requires-clause-some_index
place_select-requires-clause-some_index c =
    let part : Part = record { range = c.in-Select.range; up = c.in-Select.up; width = c.in-Select.width } in
    let q = of_leaf c.args.templates.now.arena c.args.env.now c.args.code.now c.args.leaf c.in-Select.signal part c.in-Select.at c.args.index.now c.args.value.now c.in-Select.is c.requires.fit c.requires.room c.requires.long c.requires.indexed in
    let p = fit_part (named_signal c.args.templates.now.arena c.in-Select.signal) part (tree_at (arena_trees c.args.templates.now.arena) c.in-Select.at) q.fit in
    omega (arith, q.indexed.long, p.index_some)

pub place_select-requires-clause-index : goal.place_select-requires-clause-index
place_select-requires-clause-index c =
    let part : Part = record { range = c.in-Select.range; up = c.in-Select.up; width = c.in-Select.width } in
    let q = of_leaf c.args.templates.now.arena c.args.env.now c.args.code.now c.args.leaf c.in-Select.signal part c.in-Select.at c.args.index.now c.args.value.now c.in-Select.is c.requires.fit c.requires.room c.requires.long c.requires.indexed in
    let p = fit_part (named_signal c.args.templates.now.arena c.in-Select.signal) part (tree_at (arena_trees c.args.templates.now.arena) c.in-Select.at) q.fit in
    omega (arith, q.indexed.long, p.index_most)

pub returns-then-are_constant : goal.returns-then-are_constant
returns-then-are_constant c =
    let a = c.args.templates.now.arena in
    let part : Part = record { range = c.in-Select.range; up = c.in-Select.up; width = c.in-Select.width } in
    let signal = named_signal a c.in-Select.signal in
    let index = tree_at (arena_trees a) c.in-Select.at in
    let ti = c.args.index.now in
    let tv = c.args.value.now in
    let q = of_leaf a c.args.env.now c.args.code.now c.args.leaf c.in-Select.signal part c.in-Select.at ti tv c.in-Select.is c.requires.fit c.requires.room c.requires.long c.requires.indexed in
    subst (λ (x : Leaf). AddsWrites c.args.env.now c.place_select.new.env c.args.code.now c.args.code.now (leaf_target a x) (ti ∷ []) tv (write_weight (leaf_target a x))) (sym c.in-Select.is)
    (fixed_adds c.args.env.now c.place_select.new.env c.args.code.now (PartOf signal part index) signal index (places part (sign index)) ti tv
    (part_selecting signal part index (fit_part signal part index q.fit).range) q.room c.requires.value (c.are_constant.ensures.0 c.if-are_constant.true) q.indexed
    (let few = part_few signal part index q.fit 0 (is_constant index) refl (λ e. refl) (omega arith) in omega (arith, few))
    (c.in_ok-place_select-in-Select.ensures
    ∙ ap (λ (n : ℕ). placed c.args.env.now (bits_at signal (places (record { range = part.range; up = part.up; width = n }) c.signed.result (constant_bits ti))) tv) q.long
    ∙ ap (λ (b : Bool). placed c.args.env.now (bits_at signal (places part b (constant_bits ti))) tv) c.signed.ensures))

can : (a : Arena) (env : List ℕ) (code : Coding) (signal : E.Signal) (part : Part) (index : E.Expression) (ti tv : List ℕ) → IsSelect a env code signal part index ti tv
    → signal.first + signal_length signal ≤ length env → All (λ slot. slot < code.next) ti → All (λ slot. slot < code.next) tv → (AreConstant ti → ⊥) → CanWrite env code (S.Write (selection part (sign index))) (PartOf signal part index) signal index ti tv
can a env code signal part index ti tv q l bi bv v =
    can_write env code (S.Write (selection part (sign index))) (PartOf signal part index) signal index (places part (sign index)) part.width ti tv (part_writer signal part index q.fit) q.room l bi bv q.long v q.indexed

pub call_write-requires-clause-call : goal.call_write-requires-clause-call
call_write-requires-clause-call c =
    let a = c.args.templates.now.arena in
    let part : Part = record { range = c.in-Select.range; up = c.in-Select.up; width = c.in-Select.width } in
    let signal = named_signal a c.in-Select.signal in
    let index = tree_at (arena_trees a) c.in-Select.at in
    let q = of_leaf a c.args.env.now c.args.code.now c.args.leaf c.in-Select.signal part c.in-Select.at c.args.index.now c.args.value.now c.in-Select.is c.requires.fit c.requires.room c.requires.long c.requires.indexed in
    let names = both_true (signal_within (length c.args.env.now) signal) (names_within (length c.args.env.now) index) (subst (λ (x : Leaf). target_within (length c.args.env.now) (leaf_target a x) ≡ true) c.in-Select.is c.requires.names) in
    subst (λ (b : Bool). IsCallable c.args.code.now (K.Select (S.Write (record { range = c.in-Select.range; signed = b; up = c.in-Select.up }))) (map (slice_index c.args.env.now) (bits_of_signal signal) ∷ c.args.index.now ∷ c.args.value.now ∷ []) (signal_length signal))
    (sym c.signed.ensures)
    (can a c.args.env.now c.args.code.now signal part index c.args.index.now c.args.value.now q (within_is (length c.args.env.now) signal names.0) c.requires.index c.requires.value
    (λ h. true≢false (sym (c.are_constant.ensures.1 h) ∙ c.if-are_constant.false))).call

pub returns-in_ok-call_write-in-Select : goal.returns-in_ok-call_write-in-Select
returns-in_ok-call_write-in-Select c =
    let a = c.args.templates.now.arena in
    let part : Part = record { range = c.in-Select.range; up = c.in-Select.up; width = c.in-Select.width } in
    let signal = named_signal a c.in-Select.signal in
    let index = tree_at (arena_trees a) c.in-Select.at in
    let env = c.args.env.now in
    let code = c.args.code.now in
    let ti = c.args.index.now in
    let tv = c.args.value.now in
    let q = of_leaf a env code c.args.leaf c.in-Select.signal part c.in-Select.at ti tv c.in-Select.is c.requires.fit c.requires.room c.requires.long c.requires.indexed in
    let names = both_true (signal_within (length c.args.env.now) signal) (names_within (length c.args.env.now) index) (subst (λ (x : Leaf). target_within (length c.args.env.now) (leaf_target a x) ≡ true) c.in-Select.is c.requires.names) in
    let w = can a env code signal part index ti tv q (within_is (length c.args.env.now) signal names.0) c.requires.index c.requires.value (λ h. true≢false (sym (c.are_constant.ensures.1 h) ∙ c.if-are_constant.false)) in
    subst (λ (x : Leaf). AddsWrites env c.call_write.new.env code c.call_write.new.code (leaf_target a x) (ti ∷ []) tv (write_weight (leaf_target a x))) (sym c.in-Select.is)
    (called_adds env c.call_write.new.env code c.call_write.new.code (S.Write (selection part (sign index))) (PartOf signal part index) signal index (places part (sign index)) part.width ti tv (part_writer signal part index q.fit) q.room c.requires.index c.requires.value q.long w
    (c.in_ok-call_write-in-Select.ensures.code ∙ ap (λ (b : Bool). with_call code (K.Select (S.Write (record { range = c.in-Select.range; signed = b; up = c.in-Select.up }))) (map (slice_index env) (bits_of_signal signal) ∷ ti ∷ tv ∷ []) (signal_length signal)) c.signed.ensures)
    c.in_ok-call_write-in-Select.ensures.env)

pub returns-in_ok-place_signal-in-Whole : goal.returns-in_ok-place_signal-in-Whole
returns-in_ok-place_signal-in-Whole c =
    let a = c.args.templates.now.arena in
    subst (λ (x : Leaf). AddsWrites c.args.env.now c.place_signal.new.env c.args.code.now c.args.code.now (leaf_target a x) (c.args.index.now ∷ []) c.args.value.now (write_weight (leaf_target a x))) (sym c.in-Whole.is)
    (whole_adds c.args.env.now c.place_signal.new.env c.args.code.now (named_signal a c.in-Whole.signal) c.args.index.now c.args.value.now _ c.requires.room c.requires.value c.in_ok-place_signal-in-Whole.ensures)

pub write_word-requires : goal.write_word-requires
write_word-requires c =
    let a = c.args.templates.now.arena in
    let inside = subst (λ (x : Leaf). IsInside c.args.templates.now x) c.in-Word.is c.requires.inside in
    let signal = signal_at (arena_signals a) c.in-Word.signal in
    record {
      signal = inside.0;
      at = inside.1;
      within = (both_true (signal_within (length c.args.env.now) signal) (names_within (length c.args.env.now) (tree_at (arena_trees a) c.in-Word.at)) (subst (λ (x : Leaf). target_within (length c.args.env.now) (leaf_target a x) ≡ true) c.in-Word.is c.requires.names)).0;
      room = subst (λ (x : Leaf). HasRoom c.args.env.now c.args.code.now (write_weight (leaf_target a x))) c.in-Word.is c.requires.room;
      fit = subst (λ (x : Leaf). fits_target (leaf_target a x) ≡ true) c.in-Word.is c.requires.fit;
      long = subst (λ (x : Leaf). length c.args.value.now ≡ target_width (leaf_target a x)) c.in-Word.is c.requires.long;
      value = c.requires.value;
      address = c.requires.index;
      indexed = subst (λ (x : Leaf). IsIndexed (leaf_target a x) c.args.index.now) c.in-Word.is c.requires.indexed;
    }

pub returns-in-Word : goal.returns-in-Word
returns-in-Word c =
    let a = c.args.templates.now.arena in
    subst (λ (x : Leaf). OnOk c.write_word.result (AddsWrites c.args.env.now c.write_word.new.env c.args.code.now c.write_word.new.code (leaf_target a x) (c.args.index.now ∷ []) c.args.value.now (write_weight (leaf_target a x)))) (sym c.in-Word.is) c.write_word.ensures

pub place_select-requires-clause-signal : goal.place_select-requires-clause-signal
place_select-requires-clause-signal c = (subst (λ (x : Leaf). IsInside c.args.templates.now x) c.in-Select.is c.requires.inside).0

pub call_write-requires-clause-signal : goal.call_write-requires-clause-signal
call_write-requires-clause-signal c = (subst (λ (x : Leaf). IsInside c.args.templates.now x) c.in-Select.is c.requires.inside).0

pub place_select-requires-clause-within : goal.place_select-requires-clause-within
place_select-requires-clause-within c =
    let a = c.args.templates.now.arena in
    (both_true (signal_within (length c.args.env.now) (named_signal a c.in-Select.signal)) (names_within (length c.args.env.now) (tree_at (arena_trees a) c.in-Select.at)) (subst (λ (x : Leaf). target_within (length c.args.env.now) (leaf_target a x) ≡ true) c.in-Select.is c.requires.names)).0

pub call_write-requires-clause-within : goal.call_write-requires-clause-within
call_write-requires-clause-within c =
    let a = c.args.templates.now.arena in
    (both_true (signal_within (length c.args.env.now) (named_signal a c.in-Select.signal)) (names_within (length c.args.env.now) (tree_at (arena_trees a) c.in-Select.at)) (subst (λ (x : Leaf). target_within (length c.args.env.now) (leaf_target a x) ≡ true) c.in-Select.is c.requires.names)).0

-- what is known of a part of a word
record IsOfWord (a : Arena) (env : List ℕ) (code : Coding) (signal : E.Signal) (address : E.Expression) (part : Part) (index : E.Expression) (ti tv : List ℕ) : Type 0 where
  fit : fits_target (WordPartOf signal address part index) ≡ true
  room : HasRoom env code (write_weight (WordPartOf signal address part index))
  within : signal_within (length env) signal ≡ true

of_word : (a : Arena) (env : List ℕ) (code : Coding) (leaf : Leaf) (signal address at : ℕ) (part : Part) (k : ℕ) (ti tv : List ℕ) → leaf ≡ L.WordPart signal address part.range part.up k at
    → fits_target (leaf_target a leaf) ≡ true → HasRoom env code (write_weight (leaf_target a leaf)) → length tv ≡ target_width (leaf_target a leaf) → target_within (length env) (leaf_target a leaf) ≡ true
    → IsOfWord a env code (signal_at (arena_signals a) signal) (tree_at (arena_trees a) address) (record { range = part.range; up = part.up; width = length tv }) (tree_at (arena_trees a) at) ti tv
of_word a env code leaf signal address at part k ti tv is f r l n =
    let s = signal_at (arena_signals a) signal in
    let x = tree_at (arena_trees a) address in
    let y = tree_at (arena_trees a) at in
    let long : k ≡ length tv = sym (subst (λ (z : Leaf). length tv ≡ target_width (leaf_target a z)) is l) in
    let made : ℕ → Target = λ m. WordPartOf s x (record { range = part.range; up = part.up; width = m }) y in
    record {
      fit = subst (λ (m : ℕ). fits_target (made m) ≡ true) long (subst (λ (z : Leaf). fits_target (leaf_target a z) ≡ true) is f);
      room = subst (λ (m : ℕ). HasRoom env code (write_weight (made m))) long (subst (λ (z : Leaf). HasRoom env code (write_weight (leaf_target a z))) is r);
      within = (both_true (signal_within (length env) s) (names_within (length env) x)
          (both_true (signal_within (length env) s && names_within (length env) x) (names_within (length env) y) (subst (λ (z : Leaf). target_within (length env) (leaf_target a z) ≡ true) is n)).0).0;
    }

pub write_part-requires : goal.write_part-requires
write_part-requires c =
    let t = c.args.templates.now in
    let a = t.arena in
    let part : Part = record { range = c.in-WordPart.range; up = c.in-WordPart.up; width = length c.args.value.now } in
    let inside = subst (λ (x : Leaf). IsInside t x) c.in-WordPart.is c.requires.inside in
    let q = of_word a c.args.env.now c.args.code.now c.args.leaf c.in-WordPart.signal c.in-WordPart.address c.in-WordPart.at part c.in-WordPart.width c.args.index.now c.args.value.now c.in-WordPart.is c.requires.fit c.requires.room c.requires.long c.requires.names in
    record {
      signal = inside.0;
      at = inside.1;
      within = q.within;
      room = q.room;
      fit = q.fit;
      sign = c.signed-in-WordPart.ensures;
      value = c.requires.value;
      index = c.requires.index;
      indexed = subst (λ (x : Leaf). IsIndexed (leaf_target a x) c.args.index.now) c.in-WordPart.is c.requires.indexed;
    }

pub returns-in-WordPart : goal.returns-in-WordPart
returns-in-WordPart c =
    let a = c.args.templates.now.arena in
    let ti = c.args.index.now in
    let tv = c.args.value.now in
    let long : length tv ≡ c.in-WordPart.width = subst (λ (x : Leaf). length tv ≡ target_width (leaf_target a x)) c.in-WordPart.is c.requires.long in
    let made : ℕ → Target = λ m. WordPartOf (signal_at (arena_signals a) c.in-WordPart.signal) (tree_at (arena_trees a) c.in-WordPart.address) (record { range = c.in-WordPart.range; up = c.in-WordPart.up; width = m }) (tree_at (arena_trees a) c.in-WordPart.at) in
    subst (λ (x : Leaf). OnOk c.write_part.result (AddsWrites c.args.env.now c.write_part.new.env c.args.code.now c.write_part.new.code (leaf_target a x) (ti ∷ []) tv (write_weight (leaf_target a x)))) (sym c.in-WordPart.is)
    (subst (λ (m : ℕ). OnOk c.write_part.result (AddsWrites c.args.env.now c.write_part.new.env c.args.code.now c.write_part.new.code (made m) (ti ∷ []) tv (write_weight (made m)))) long c.write_part.ensures)
