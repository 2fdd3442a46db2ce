-- The bits of a part of a word by constants.
use Rattle.std.proofs.Common.{◌≡◌, ℕ, ◌+◌, ◌*◌, ◌≤◌, ◌==◌, nat_le, Bool, true, false, ◌&&◌, if◌then◌else◌, List, [], ◌++◌, replicate, zero, suc, refl, sym, ap, ◌∙◌, append-nil}
use Rattle.std.specs.Prelude.{not, Option, Some, None}
use Rattle.std.proofs.lemmas.Bool.{leb-true, eqb-true}
use Rattle.vs_four.specs.Logic.{BitList, all_known}
use Rattle.vs_four.specs.Numbers.{integer}
use Rattle.vs_four.specs.declared.Range.{Range}
use Rattle.vs_four.specs.Selects.{Part, range_length, place_of, places}
use Rattle.vs_design.specs.Expressions as E
use Rattle.vs_design.specs.Values.{address_place, word_part_places, constant_value}
use Rattle.vs_design.specs.Bodies.{bits_at}
use Rattle.vs_design.specs.Fits.{fits_64, fits_word_part}
use Rattle.vs_design.specs.Footprints.{somes, addressed_bits}
use Rattle.vs_design.specs.TreeLaws.{PartsOfWord, PartsOfNone}
use Rattle.vs_shape.specs.Gathered.{bits_from, gathered_word_part}
use Rattle.vs_shape.proofs.Names.{and_both}

-- how many bits a part has, and its range
pub part_fits : (signal : E.Signal) (part : Part) → fits_word_part signal part ≡ true → (1 ≤ part.width) × (part.width ≤ 64) × (range_length part.range ≡ E.word_length signal)
part_fits signal part h =
    let b = and_both (fits_64 part.width) (range_length part.range == E.word_length signal) h in
    let w = and_both (nat_le 1 part.width) (nat_le part.width 64) b.0 in
    (leb-true 1 part.width w.0, leb-true part.width 64 w.1, eqb-true (range_length part.range) (E.word_length signal) b.1)

-- by constants those at its places, and by any other those that the address may name
pub by_constants : (signal : E.Signal) (address : E.Expression) (part : Part) (index : E.Expression) → (E.is_constant address && E.is_constant index) ≡ true
    → gathered_word_part false signal address part index ≡ somes (bits_at signal (word_part_places signal (E.sign address) (constant_value address) part (E.sign index) (constant_value index)))
by_constants signal address part index h = rw h refl

pub by_variables : (signal : E.Signal) (address : E.Expression) (part : Part) (index : E.Expression) → (E.is_constant address && E.is_constant index) ≡ false → gathered_word_part false signal address part index ≡ addressed_bits signal address
by_variables signal address part index h = rw h refl

pub not_true : (b : Bool) → not b ≡ true → b ≡ false
not_true true h = cc
not_true false h = refl

pub not_false : (b : Bool) → not b ≡ false → b ≡ true
not_false true h = refl
not_false false h = cc

none_there : (w : ℕ) → somes (replicate w None) ≡ []
none_there zero = refl
none_there (suc w) = none_there w

-- where no word has the address nothing is added
pub part_of_none : PartsOfNone → (xs : List ℕ) (signal : E.Signal) (g : Bool) (address : BitList) (part : Part) (j : Bool) (index : BitList) → address_place signal g address ≡ None → xs ≡ xs ++ somes (bits_at signal (word_part_places signal g address part j index))
part_of_none law xs signal g address part j index a =
    sym (append-nil xs) ∙ ap (λ zs. xs ++ zs) (sym (ap somes (law signal g address part j index a) ∙ none_there part.width))

pub part_of_some : PartsOfWord → (signal : E.Signal) (g : Bool) (address : BitList) (part : Part) (j : Bool) (index : BitList) (n start : ℕ) (ps : List (Option ℕ)) → range_length part.range ≡ E.word_length signal → address_place signal g address ≡ Some n
    → start ≡ signal.first + n * E.word_length signal → ps ≡ places part j index → somes (bits_at signal (word_part_places signal g address part j index)) ≡ somes (bits_from start ps)
part_of_some law signal g address part j index n start ps l a begins is =
    ap somes (law signal g address part j index n l a) ∙ ap (λ f. somes (bits_from f (places part j index))) (sym begins) ∙ ap (λ qs. somes (bits_from start qs)) (sym is)

-- the place of the word, by its declaration
pub place_at : (signal : E.Signal) (g : Bool) (v : BitList) (addresses : Range) (signed : Bool) (value : BitList) (place : Option ℕ) → addresses ≡ E.addresses signal → signed ≡ g → value ≡ v
    → place ≡ (if all_known value then place_of addresses (integer signed value) else None) → address_place signal g v ≡ place
place_at signal g v addresses signed value place from sign_is value_is is =
    sym
    (is
    ∙ ap (λ x. if all_known x then place_of addresses (integer signed x) else None) value_is
    ∙ ap (λ h. if all_known v then place_of addresses (integer h v) else None) sign_is
    ∙ ap (λ r. if all_known v then place_of r (integer g v) else None) from)

pub place_found : (signal : E.Signal) (index : E.Expression) (addresses : Range) (signed : Bool) (value : BitList) (place : Option ℕ) → addresses ≡ E.addresses signal → signed ≡ E.sign index → value ≡ constant_value index
    → place ≡ (if all_known value then place_of addresses (integer signed value) else None) → address_place signal (E.sign index) (constant_value index) ≡ place
place_found signal index addresses signed value place from sign_is value_is is = place_at signal (E.sign index) (constant_value index) addresses signed value place from sign_is value_is is
