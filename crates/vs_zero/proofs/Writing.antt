-- Tables of values, and what is written to them.
use Rattle.std.proofs.Common.{◌≡◌, ℕ, zero, suc, ◌+◌, ◌-◌, ◌*◌, ◌<◌, ◌≤◌, ◌≢◌, Bool, true, false, List, [], ◌∷◌, ◌++◌, length, map, drop, get_or, set, Option, Some, None, refl, sym, ap, ◌∙◌, arith, get_or-set_other, get_or-set_same, ◌⊎◌, inl, inr}
use Rattle.std.specs.Prelude.{◌==◌, if◌then◌else◌, option_map, replicate}
use mathlib.Core.Path.{fun_ext}
use Rattle.std.proofs.lemmas.List.{drop_all, drop_more}
use Rattle.vs_four.specs.declared.Bit4.{Bit4}
use Rattle.vs_four.specs.declared.Bit4.TheVariants.{X}
use Rattle.vs_four.specs.declared.Range.{Range}
use Rattle.vs_four.specs.Logic.{BitList, all_known}
use Rattle.vs_four.specs.Numbers.{integer}
use Rattle.vs_four.specs.Selects.{place_of}
use Rattle.vs_net.specs.Network.{State, Write, put, write_all}
use Rattle.vs_design.specs.Bodies.{target_writes}
use Rattle.vs_design.specs.Expressions as E
use Rattle.vs_design.specs.Statements.{WordOf}
use Rattle.vs_design.specs.Values.{count_from, spread, address_place, constant_value}
use Rattle.vs_sets.specs.Tables.{bits_from}
use Rattle.vs_zero.specs.States.{state_of, unknown, written}
use Rattle.vs_sets.proofs.Families.{same_or_other}
use Rattle.vs_sets.proofs.WordSteps.{run_places}

-- ---- writes

pub write_all-append : (xs ys : List Write) (s : State) → write_all s (xs ++ ys) ≡ write_all (write_all s xs) ys
unfolding write_all
write_all-append [] ys s = refl
write_all-append (x ∷ xs) ys s = write_all-append xs ys (put s x.bit x.value)

pub written_some : (b : ℕ) (ps : List (Option ℕ)) (v : Bit4) (vs : BitList) (s : State) → written (Some b ∷ ps) (v ∷ vs) s ≡ written ps vs (put s b v)
unfolding write_all
written_some b ps v vs s = refl

pub written_nothing : (ps : List (Option ℕ)) (s : State) → written ps [] s ≡ s
unfolding write_all
written_nothing [] s = refl
written_nothing (p ∷ ps) s = refl

nowhere : (vs : BitList) (s : State) → written [] vs s ≡ s
unfolding write_all
nowhere vs s = refl

-- ---- tables

pub put_state : (t : List Bit4) (b : ℕ) (v : Bit4) → b < length t → state_of (set t b v) ≡ put (state_of t) b v
put_state t b v h = fun_ext (λ c. at c (same_or_other c b)) where
  at : (c : ℕ) → (((c == b) ≡ true) × (c ≡ b)) ⊎ (((c == b) ≡ false) × (c ≢ b)) → get_or (set t b v) c X ≡ (if c == b then v else get_or t c X)
  at c (inl e) = rw (e.0, e.1) (get_or-set_same t b v X h)
  at c (inr e) = rw e.0 (get_or-set_other t b c v X e.1)

-- one bit more of a run
pub run_step : (t : List Bit4) (first k : ℕ) (value : BitList) (x : Bit4) → k < length value → first + k < length t → x ≡ get_or value k X
    → written (map Some (count_from (first + (k + 1)) (length value - (k + 1)))) (drop (k + 1) value) (state_of (set t (first + k) x))
    ≡ written (map Some (count_from (first + k) (length value - k))) (drop k value) (state_of t)
run_step t first k value x h inside is =
    let count : length value - k ≡ suc (length value - (k + 1)) = omega arith in
    let on : first + (k + 1) ≡ suc (first + k) = omega arith in
    let left = length value - (k + 1) in
    let f = put_state t (first + k) x inside in
    let goal_side : written (map Some (count_from (first + k) (length value - k))) (drop k value) (state_of t) ≡ written (map Some (count_from (suc (first + k)) left)) (drop (k + 1) value) (put (state_of t) (first + k) x) =
    ap (λ n. written (map Some (count_from (first + k) n)) (drop k value) (state_of t)) count
    ∙ ap (λ ss. written (map Some (count_from (first + k) (suc left))) ss (state_of t)) (drop_more value k X h)
    ∙ ap (λ v. written (map Some (count_from (first + k) (suc left))) (v ∷ drop (k + 1) value) (state_of t)) (sym is)
    ∙ written_some (first + k) (map Some (count_from (suc (first + k)) left)) x (drop (k + 1) value) (state_of t)
    in
    ap (λ n. written (map Some (count_from n left)) (drop (k + 1) value) (state_of (set t (first + k) x))) on
    ∙ ap (λ g. written (map Some (count_from (suc (first + k)) left)) (drop (k + 1) value) g) f ∙ sym goal_side

-- no bit is left
pub run_done : (first k : ℕ) (value : BitList) (s : State) → length value ≤ k → written (map Some (count_from (first + k) (length value - k))) (drop k value) s ≡ s
run_done first k value s h = let none : length value - k ≡ 0 = omega arith in ap (λ n. written (map Some (count_from (first + k) n)) (drop k value) s) none ∙ nowhere (drop k value) s

-- ---- places

-- one place more: where there is one its bit is written
place_step : (first : ℕ) (ps : List (Option ℕ)) (value : BitList) (k : ℕ) (s : State) → k < length ps → k < length value → (p : Option ℕ) → p ≡ get_or ps k None
    → written (bits_from first (drop k ps)) (drop k value) s ≡ written (option_map (λ n. first + n) p ∷ bits_from first (drop (k + 1) ps)) (get_or value k X ∷ drop (k + 1) value) s
place_step first ps value k s h i p e =
    ap (λ qs. written (bits_from first qs) (drop k value) s) (drop_more ps k None h)
    ∙ ap (λ vs. written (bits_from first (get_or ps k None ∷ drop (k + 1) ps)) vs s) (drop_more value k X i)
    ∙ ap (λ q. written (option_map (λ n. first + n) q ∷ bits_from first (drop (k + 1) ps)) (get_or value k X ∷ drop (k + 1) value) s) (sym e)

pub place_none : (first : ℕ) (ps : List (Option ℕ)) (value : BitList) (k : ℕ) (t : List Bit4) → k < length ps → k < length value → get_or ps k None ≡ None
    → written (bits_from first (drop (k + 1) ps)) (drop (k + 1) value) (state_of t) ≡ written (bits_from first (drop k ps)) (drop k value) (state_of t)
place_none first ps value k t h i e = sym (place_step first ps value k (state_of t) h i None (sym e))

pub place_some : (first : ℕ) (ps : List (Option ℕ)) (value : BitList) (k n : ℕ) (t : List Bit4) (x : Bit4) → k < length ps → k < length value → get_or ps k None ≡ Some n → first + n < length t → x ≡ get_or value k X
    → written (bits_from first (drop (k + 1) ps)) (drop (k + 1) value) (state_of (set t (first + n) x)) ≡ written (bits_from first (drop k ps)) (drop k value) (state_of t)
place_some first ps value k n t x h i e inside is =
    ap (λ g. written (bits_from first (drop (k + 1) ps)) (drop (k + 1) value) g) (put_state t (first + n) x inside)
    ∙ ap (λ v. written (bits_from first (drop (k + 1) ps)) (drop (k + 1) value) (put (state_of t) (first + n) v)) is
    ∙ sym (written_some (first + n) (bits_from first (drop (k + 1) ps)) (get_or value k X) (drop (k + 1) value) (state_of t))
    ∙ sym (place_step first ps value k (state_of t) h i (Some n) (sym e))

-- no place is left
pub places_done : (first : ℕ) (ps : List (Option ℕ)) (value : BitList) (k : ℕ) (s : State) → length ps ≤ k → written (bits_from first (drop k ps)) (drop k value) s ≡ s
places_done first ps value k s h = ap (λ qs. written (bits_from first qs) (drop k value) s) (drop_all k ps h) ∙ nowhere (drop k value) s

-- ---- words of memories

pub no_writes : (first n : ℕ) (value : BitList) (s : State) → written (bits_from first (replicate n None)) value s ≡ s
no_writes first zero value s = nowhere value s
no_writes first (suc n) [] s = written_nothing (bits_from first (replicate (suc n) None)) s
no_writes first (suc n) (v ∷ vs) s = no_writes first n vs s

pub word_unput : (first k : ℕ) (place : Option ℕ) (value : BitList) (s : State) → place ≡ None → s ≡ written (bits_from first (spread k place)) value s
word_unput first k place value s e = sym (ap (λ p. written (bits_from first (spread k p)) value s) e ∙ no_writes first k value s)

pub word_put : (first k n : ℕ) (place : Option ℕ) (value : BitList) (s : State) → place ≡ Some n → written (map Some (count_from (first + n * k) k)) value s ≡ written (bits_from first (spread k place)) value s
word_put first k n place value s e = ap (λ ps. written ps value s) (sym (run_places first (n * k) k)) ∙ sym (ap (λ p. written (bits_from first (spread k p)) value s) e)

-- a word by a constant address
pub word_written : (signal : E.Signal) (index : E.Expression) (first : ℕ) (addresses : Range) (signed : Bool) (address value : BitList) (place : Option ℕ) (s : State)
    → first ≡ signal.first → addresses ≡ E.addresses signal → signed ≡ E.sign index → address ≡ constant_value index → length value ≡ E.word_length signal
    → place ≡ (if all_known address then place_of addresses (integer signed address) else None)
    → written (bits_from first (spread (length value) place)) value s ≡ write_all s (target_writes (WordOf signal index) value unknown)
word_written signal index first addresses signed address value place s begins from sign_is address_is many place_is =
    ap (λ f. written (bits_from f (spread (length value) place)) value s) begins
    ∙ ap (λ k. written (bits_from signal.first (spread k place)) value s) many
    ∙ ap (λ p. written (bits_from signal.first (spread (E.word_length signal) p)) value s) found
  where
    found : place ≡ address_place signal (E.sign index) (constant_value index)
    found =
        place_is
        ∙ ap (λ v. if all_known v then place_of addresses (integer signed v) else None) address_is
        ∙ ap (λ g. if all_known (constant_value index) then place_of addresses (integer g (constant_value index)) else None) sign_is
        ∙ ap (λ r. if all_known (constant_value index) then place_of r (integer (E.sign index) (constant_value index)) else None) from
