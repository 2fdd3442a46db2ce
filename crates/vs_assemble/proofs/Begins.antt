-- What the slots of a design begin with.
use Rattle.std.proofs.Common.{◌≡◌, ℕ, ◌+◌, ◌<◌, ◌≤◌, Bool, true, false, List, [], ◌∷◌, ◌++◌, ◌||◌, ◌==◌, if◌then◌else◌, nat_lt, length, get_or, replicate, sym, ap, ◌∙◌, subst, refl, arith, length-append}
use Rattle.std.proofs.lemmas.List.{get_or-replicate, get_or_append_left, get_or-append-add, get_or_past}
use mathlib.Core.Path.{fun_ext}
use Rattle.vs_four.specs.declared.Bit4.{Bit4}
use Rattle.vs_four.specs.declared.Bit4.TheVariants.{Zero, One, X, Z}
use Rattle.vs_net.specs.Network.{State}
use Rattle.vs_design.specs.Designs.{Design, bit_count}
use Rattle.vs_design.specs.Footprints.{contains}
use Rattle.vs_design.specs.Initials.{start_value}
use Rattle.vs_design.specs.Sizes.{distinct, register_bits}
use Rattle.vs_program.specs.Lowered.{home, HasConstants}
use Rattle.vs_program.specs.Program.{beyond, values}
use Rattle.vs_program.specs.Layouts.{place_of, sleepers, mask_of}
use Rattle.vs_assemble.specs.Plans.{AreStarts, begin_bits}
use Rattle.vs_assemble.proofs.Lists.{by_test}

-- how many slots the constants and the bits have
pub begin_length : (d : Design) (starts : List Bit4) → AreStarts d starts → length (begin_bits starts) ≡ home (bit_count d)
begin_length d starts are = let all = length-append (Zero ∷ One ∷ X ∷ Z ∷ []) starts in let count = are.count in omega (arith, count, all)

module _ (d : Design) (starts : List Bit4) (are : AreStarts d starts) (n : ℕ) where
  abbrev padded : List Bit4
  padded = begin_bits starts ++ replicate n Zero

  pub constants_are : HasConstants (λ slot. get_or padded slot X)
  constants_are = record { zero = refl; one = refl; x = refl; z = refl }

  value_at : (b : ℕ) → get_or starts b X ≡ start_value d b
  value_at b = ap (λ (s : State). s b) are.values

  inside : (clocks : List ℕ) (b : ℕ) → nat_lt b (bit_count d) ≡ true → values (bit_count d) clocks X (λ slot. get_or padded slot X) b ≡ start_value d b
  inside clocks b h =
      let lt : b < bit_count d = grind arith in
      let count = are.count in
      ap (λ (c : Bool). if c then get_or padded (home b) X else beyond clocks X b) h
      ∙ get_or-append-add (Zero ∷ One ∷ X ∷ Z ∷ []) (starts ++ replicate n Zero) b X
      ∙ get_or_append_left starts (replicate n Zero) X b (omega (arith, count, lt))
      ∙ value_at b

  -- past the bits nothing is written
  outside : (clocks : List ℕ) (b : ℕ) → nat_lt b (bit_count d) ≡ false → values (bit_count d) clocks X (λ slot. get_or padded slot X) b ≡ start_value d b
  outside clocks b h =
      let ge : bit_count d ≤ b = grind arith in
      let count = are.count in
      ap (λ (c : Bool). if c then get_or padded (home b) X else beyond clocks X b) h
      ∙ either (contains clocks b)
      ∙ sym (get_or_past starts b X (omega (arith, count, ge)))
      ∙ value_at b
    where
      either : (c : Bool) → (if c then X else X) ≡ X
      either true = refl
      either false = refl

  pub starts_are : (clocks : List ℕ) → values (bit_count d) clocks X (λ slot. get_or padded slot X) ≡ start_value d
  starts_are clocks = fun_ext (λ b. by_test (nat_lt b (bit_count d)) (inside clocks b) (outside clocks b))

  below : (bs : List ℕ) (b : ℕ) → contains bs b ≡ true → place_of bs b < length bs
  below [] b h = cc
  below (c ∷ cs) b h =
      by_test (b == c)
      (λ e. rw e (omega arith))
      (λ e. rw e (let r = below cs b (subst (λ z. (z || contains cs b) ≡ true) e h) in omega (arith, r)))

  pub masks_are : distinct (register_bits d.processes) + length (sleepers d) ≤ n → (q : ℕ) → contains (sleepers d) q ≡ true → get_or padded (mask_of d q) X ≡ Zero
  masks_are room q h =
      let place = below (sleepers d) q h in
      let long = begin_length d starts are in
      let at : mask_of d q ≡ length (begin_bits starts) + (distinct (register_bits d.processes) + place_of (sleepers d) q) = omega (arith, long) in
      ap (λ k. get_or padded k X) at
      ∙ get_or-append-add (begin_bits starts) (replicate n Zero) (distinct (register_bits d.processes) + place_of (sleepers d) q) X
      ∙ get_or-replicate n (distinct (register_bits d.processes) + place_of (sleepers d) q) Zero X (omega (arith, place, room))
