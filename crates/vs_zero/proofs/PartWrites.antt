-- Writes to parts of words by constants.
use Rattle.std.proofs.Common.{◌≡◌, ℕ, zero, suc, ◌+◌, ◌*◌, ◌<◌, Bool, true, false, ◌&&◌, List, ◌∷◌, get_or, replicate, Option, Some, None, refl, sym, ap, ap₂, ◌∙◌}
use Rattle.std.specs.Prelude.{if◌then◌else◌}
use Rattle.vs_four.specs.Logic.{BitList}
use Rattle.vs_four.specs.Selects.{Part, range_length, places}
use Rattle.vs_net.specs.Network.{State, write_all}
use Rattle.vs_design.specs.Bodies.{bits_at, target_writes}
use Rattle.vs_design.specs.Expressions as E
use Rattle.vs_design.specs.Footprints.{contains, somes, addressed_bits}
use Rattle.vs_design.specs.TreeLaws.{PartsOfWord, PartsOfNone}
use Rattle.vs_design.specs.Values.{address_place, constant_value, word_part_places}
use Rattle.vs_sets.specs.Tables.{bits_from}
use Rattle.vs_sets.specs.TargetsOf.{target_tree}
use Rattle.vs_zero.specs.Constants.{TargetBelow}
use Rattle.vs_zero.specs.States.{unknown, written}
use Rattle.vs_zero.proofs.Below.{place_has}
use Rattle.vs_zero.proofs.Writing.{no_writes}

module _ (s : E.Signal) (address : E.Expression) (p : Part) (index : E.Expression) where
  -- a bit of the part is one of those that the target may write
  pub part_below : (n : ℕ) → PartsOfWord → E.is_constant address ≡ true → E.is_constant index ≡ true → range_length p.range ≡ E.word_length s → (w : ℕ) → address_place s (E.sign address) (constant_value address) ≡ Some w
      → TargetBelow n (target_tree (E.WordPart s address p index)) → (k m : ℕ) → get_or (places p (E.sign index) (constant_value index)) k None ≡ Some m → (s.first + w * E.word_length s) + m < n
  part_below n law a i long w place h k m at =
      let first = s.first + w * E.word_length s in
      let there : bits_at s (word_part_places s (E.sign address) (constant_value address) p (E.sign index) (constant_value index)) ≡ bits_from first (places p (E.sign index) (constant_value index)) =
      law s (E.sign address) (constant_value address) p (E.sign index) (constant_value index) w long place
      in
      h (first + m) (ap (λ bs. contains bs (first + m)) (both (E.is_constant address) (E.is_constant index) a i ∙ ap somes there) ∙ place_has first (places p (E.sign index) (constant_value index)) k m at)
    where
      both : (x y : Bool) → x ≡ true → y ≡ true → (if x && y then somes (bits_at s (word_part_places s (E.sign address) (constant_value address) p (E.sign index) (constant_value index))) else addressed_bits s address)
          ≡ somes (bits_at s (word_part_places s (E.sign address) (constant_value address) p (E.sign index) (constant_value index)))
      both true true e h = refl
      both true false e h = cc
      both false y e h = cc

  module _ (value : BitList) (st : State) where
    -- no word is there
    pub part_unput : PartsOfNone → address_place s (E.sign address) (constant_value address) ≡ None → st ≡ write_all st (target_writes (target_tree (E.WordPart s address p index)) value unknown)
    part_unput law none =
        sym (ap (λ ps. written ps value st) (law s (E.sign address) (constant_value address) p (E.sign index) (constant_value index) none ∙ nowhere p.width) ∙ no_writes s.first p.width value st)
      where
        nowhere : (n : ℕ) → replicate n None ≡ bits_from s.first (replicate n None)
        nowhere zero = refl
        nowhere (suc n) = ap (λ ps. None ∷ ps) (nowhere n)

    pub part_put : PartsOfWord → (w first : ℕ) (ps : List (Option ℕ)) → range_length p.range ≡ E.word_length s → address_place s (E.sign address) (constant_value address) ≡ Some w → first ≡ s.first + w * E.word_length s
        → ps ≡ places p (E.sign index) (constant_value index) → written (bits_from first ps) value st ≡ write_all st (target_writes (target_tree (E.WordPart s address p index)) value unknown)
    part_put law w first ps long place begins places_are =
        ap₂ (λ f qs. written (bits_from f qs) value st) begins places_are
        ∙ ap (λ qs. written qs value st) (sym (law s (E.sign address) (constant_value address) p (E.sign index) (constant_value index) w long place))
