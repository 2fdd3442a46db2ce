-- Writes to parts of words.
use Rattle.std.proofs.Common.{◌≡◌, ℕ, zero, suc, ◌+◌, ◌*◌, Bool, true, false, Some, None, List, [], ◌∷◌, replicate, refl, sym, ap, ap₂, ◌∙◌}
use Rattle.std.specs.Prelude.{◌&&◌, if◌then◌else◌}
use Rattle.std.proofs.lemmas.Bool.{cond-true, cond-false}
use mathlib.Core.Path.{fun_ext}
use Rattle.vs_four.specs.Selects.{Part, range_length, places}
use Rattle.vs_design.specs.Expressions.{Expression, Signal, WordPart, signal_length, word_length, is_constant, sign}
use Rattle.vs_design.specs.Bodies.{bits_at}
use Rattle.vs_design.specs.Footprints.{somes, addressed_bits}
use Rattle.vs_design.specs.Lifted.{Family}
use Rattle.vs_design.specs.LiftedBodies.{put_each, widen, write_sets}
use Rattle.vs_design.specs.Sets.{Set4, all_of}
use Rattle.vs_design.specs.TreeLaws.{PartsOfWord, PartsOfNone}
use Rattle.vs_design.specs.Values.{bits_of_signal, constant_value, count_from, spread, address_place, word_places, word_part_places}
use Rattle.vs_shape.proofs.Addressed.{word_run}
use Rattle.vs_sets.specs.Tables.{bits_from}
use Rattle.vs_sets.specs.TargetsOf.{target_tree}

none_widened : (set : Set4) (f : Family) → widen [] set f ≡ f
none_widened set f = fun_ext (λ b. refl)

no_puts : (n : ℕ) (sets : List Set4) (f : Family) → put_each (replicate n None) sets f ≡ f
no_puts zero sets f = refl
no_puts (suc n) [] f = refl
no_puts (suc n) (s ∷ sets) f = no_puts n sets f

no_bits : (first n : ℕ) → somes (bits_from first (replicate n None)) ≡ []
no_bits first zero = refl
no_bits first (suc n) = no_bits first n

module _ (s : Signal) (address : Expression) (p : Part) (index : Expression) (sets : List Set4) (f : Family) where
  abbrev put_there : Family
  put_there = put_each (bits_at s (word_part_places s (sign address) (constant_value address) p (sign index) (constant_value index))) sets f

  -- by a variable address, by constants, and by a variable index alone
  by_address : is_constant address ≡ false → write_sets (target_tree (WordPart s address p index)) sets f ≡ widen (bits_of_signal s) (all_of sets) f
  by_address e = of (is_constant address) e
    where
      of : (a : Bool) → a ≡ false → (if a && is_constant index then put_there else widen (if a then somes (bits_at s (word_places s (sign address) (constant_value address))) else bits_of_signal s) (all_of sets) f) ≡ widen (bits_of_signal s) (all_of sets) f
      of false h = refl
      of true h = cc

  by_constants : is_constant address ≡ true → is_constant index ≡ true → write_sets (target_tree (WordPart s address p index)) sets f ≡ put_there
  by_constants e h = of (is_constant address) (is_constant index) e h
    where
      of : (a i : Bool) → a ≡ true → i ≡ true → (if a && i then put_there else widen (addressed_bits s address) (all_of sets) f) ≡ put_there
      of true true e h = refl
      of true false e h = cc
      of false i e h = cc

  by_index : is_constant address ≡ true → is_constant index ≡ false → write_sets (target_tree (WordPart s address p index)) sets f ≡ widen (somes (bits_at s (word_places s (sign address) (constant_value address)))) (all_of sets) f
  by_index e h = of (is_constant address) (is_constant index) e h
    where
      of : (a i : Bool) → a ≡ true → i ≡ false
          → (if a && i then put_there else widen (if a then somes (bits_at s (word_places s (sign address) (constant_value address))) else bits_of_signal s) (all_of sets) f) ≡ widen (somes (bits_at s (word_places s (sign address) (constant_value address)))) (all_of sets) f
      of true false e h = refl
      of true true e h = cc
      of false i e h = cc

  pub part_anywhere : (first len : ℕ) (constant : Bool) (set : Set4) (g : Family) → first ≡ s.first → len ≡ signal_length s → constant ≡ false → constant ≡ is_constant address → set ≡ all_of sets → g ≡ widen (count_from first len) set f
      → g ≡ write_sets (target_tree (WordPart s address p index)) sets f
  part_anywhere first len constant set g begins long unknown is all written =
      written ∙ ap₂ (λ m n. widen (count_from m n) set f) begins long ∙ ap (λ x. widen (bits_of_signal s) x f) all ∙ sym (by_address (sym is ∙ unknown))

  -- no word is there
  pub part_nowhere : PartsOfNone → (g : Family) → is_constant address ≡ true → address_place s (sign address) (constant_value address) ≡ None → g ≡ f → g ≡ write_sets (target_tree (WordPart s address p index)) sets f
  part_nowhere law g e none same = same ∙ of (is_constant index) refl
    where
      of : (i : Bool) → is_constant index ≡ i → f ≡ write_sets (target_tree (WordPart s address p index)) sets f
      of true h = sym (by_constants e h ∙ ap (λ ps. put_each ps sets f) (law s (sign address) (constant_value address) p (sign index) (constant_value index) none) ∙ no_puts p.width sets f)
      of false h = sym
          (by_index e h ∙ ap (λ o. widen (somes (bits_from s.first (spread (word_length s) o))) (all_of sets) f) none
          ∙ ap (λ bs. widen bs (all_of sets) f) (no_bits s.first (word_length s)) ∙ none_widened (all_of sets) f)

  -- the word at this place
  pub part_there : PartsOfWord → (n first len : ℕ) (g : Family) → range_length p.range ≡ word_length s → is_constant address ≡ true → address_place s (sign address) (constant_value address) ≡ Some n → first ≡ s.first + n * word_length s → len ≡ word_length s
      → g ≡ (if is_constant index then put_each (bits_from first (places p (sign index) (constant_value index))) sets f else widen (count_from first len) (all_of sets) f) → g ≡ write_sets (target_tree (WordPart s address p index)) sets f
  part_there law n first len g range e place begins long written = of (is_constant index) refl
    where
      of : (i : Bool) → is_constant index ≡ i → g ≡ write_sets (target_tree (WordPart s address p index)) sets f
      of true h =
          written ∙ cond-true (is_constant index) _ _ h ∙ ap (λ m. put_each (bits_from m (places p (sign index) (constant_value index))) sets f) begins
          ∙ ap (λ qs. put_each qs sets f) (sym (law s (sign address) (constant_value address) p (sign index) (constant_value index) n range place)) ∙ sym (by_constants e h)
      of false h =
          written ∙ cond-false (is_constant index) _ _ h ∙ ap₂ (λ m k. widen (count_from m k) (all_of sets) f) begins long
          ∙ ap (λ bs. widen bs (all_of sets) f) (sym (word_run s.first (word_length s) n (address_place s (sign address) (constant_value address)) place)) ∙ sym (by_index e h)
