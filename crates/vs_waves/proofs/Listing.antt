-- The lines of changes, one after the other.
use Rattle.std.proofs.Common.{◌≡◌, ℕ, zero, suc, ◌+◌, ◌*◌, ◌<◌, ◌≤◌, Bool, true, false, if◌then◌else◌, List, [], ◌∷◌, ◌++◌, append-nil, length, map, get_or, slice_get, Some, refl, sym, ap, ap₂, ◌∙◌, subst, arith}
use Rattle.std.proofs.Math.Nat.{mul-le-mul_right, suc-mul}
use Rattle.std.proofs.lemmas.Grind.{flat_map-append}
use Rattle.std.proofs.lemmas.List.{length-append}
use Rattle.std.proofs.lemmas.Option.{unwrap_or-slice_get}
use Rattle.std.specs.List.{flat_map}
use Rattle.std.specs.Prelude.{unwrap_or, Option, None}
use Rattle.vs_four.specs.declared.Bit4.{Bit4}
use Rattle.vs_four.specs.Logic.{BitList}
use Rattle.vs_net.specs.Network.{State}
use Rattle.vs_design.specs.Values.{count_from, read}
use Rattle.vs_engine.proofs.Spans.{count_from-more}
use Rattle.vs_plane.specs.declared.pairs.Pair.{Pair}
use Rattle.vs_plane.specs.Lanes.{lane_or_x, pair_lane, slot_lane}
use Rattle.vs_program.specs.declared.compiled.Span.{Span}
use Rattle.vs_program.specs.Compiled.{span_bits}
use Rattle.vs_vcd.specs.Values.{value_line}
use Rattle.vs_waves.specs.declared.changes.Change.{Change}
use Rattle.vs_waves.specs.declared.changes.Changes.{Changes}
use Rattle.vs_waves.specs.Changes.{change_line, change_value, changes_text, line_at}

-- where there is no change there is no line
pub no_lines : {W : Type 0} (lane : W → ℕ → Bool) (lanes : ℕ) (c : Changes W) (i : ℕ) → c.changed.items ≡ [] → changes_text lane lanes c i ≡ []
unfolding changes_text
no_lines lane lanes c i none = ap (λ (l : List (Change _)). flat_map (line_at lane lanes c i) (count_from 0 (length l))) none

-- the place of a value
pub place_below : (m n lanes i : ℕ) → m < n → i < lanes → m * lanes + i < n * lanes
place_below m n lanes i h l =
    let more : suc m * lanes ≤ n * lanes = mul-le-mul_right lanes (let e : suc m ≤ n = omega arith in e) in
    omega (arith, suc-mul m lanes)

same_lines : (f g : ℕ → List ℕ) (first n : ℕ) → ((k : ℕ) → k < n → f (first + k) ≡ g (first + k)) → flat_map f (count_from first n) ≡ flat_map g (count_from first n)
same_lines f g first zero same = refl
same_lines f g first (suc n) same =
    let here : first + 0 ≡ first = omega arith in
    ap₂ (λ (xs ys : List ℕ). xs ++ ys)
    (subst (λ (k : ℕ). f k ≡ g k) here (same 0 (omega arith)))
    (same_lines f g (suc first) n (λ k h. let e : first + suc k ≡ suc first + k = omega arith in subst (λ (j : ℕ). f j ≡ g j) e (same (suc k) (omega arith))))

pub slice_get-before : {A : Type 0} (xs ys : List A) (n : ℕ) → n < length xs → slice_get (xs ++ ys) n ≡ slice_get xs n
slice_get-before [] ys n h = absurd (omega arith)
slice_get-before (x ∷ xs) ys zero h = refl
slice_get-before (x ∷ xs) ys (suc n) h = slice_get-before xs ys n (omega arith)

pub slice_get-last : {A : Type 0} (xs : List A) (y : A) → slice_get (xs ++ y ∷ []) (length xs) ≡ Some y
slice_get-last [] y = refl
slice_get-last (x ∷ xs) y = slice_get-last xs y

-- a line that is there only if so
where_so : (t : Bool) (signal : ℕ) (v value : BitList) → (t ≡ true → v ≡ value) → (if t then value_line signal v else []) ≡ (if t then value_line signal value else [])
where_so true signal v value is = ap (value_line signal) (is refl)
where_so false signal v value is = refl

-- one change more, behind the rows of the others
pub one_more : {W : Type 0} (lane : W → ℕ → Bool) (lanes i : ℕ) (old new : Changes W) (change : Change W) (value : BitList) → i < lanes
    → new.changed.items ≡ old.changed.items ++ change ∷ []
    → ((n : ℕ) → n < length old.changed.items * lanes → slice_get new.values.items n ≡ slice_get old.values.items n)
    → (lane change.lanes i ≡ true → change_value lane i (get_or new.values.items (length old.changed.items * lanes + i) []) change.bit ≡ value)
    → changes_text lane lanes new i ≡ changes_text lane lanes old i ++ (if lane change.lanes i then value_line change.signal value else [])
unfolding changes_text
one_more lane lanes i old new change value in_lanes added before is =
    let n : ℕ = length old.changed.items in
    let f : ℕ → List ℕ = line_at lane lanes old i in
    let g : ℕ → List ℕ = line_at lane lanes new i in
    let long : length new.changed.items ≡ n + 1 = ap length added ∙ length-append old.changed.items (change ∷ []) in
    let others : (k : ℕ) → k < n → g (0 + k) ≡ f (0 + k) = λ k h.
    let e : 0 + k ≡ k = omega arith in
    subst (λ (m : ℕ). g m ≡ f m) (sym e)
    (ap₂ (λ (x : Option (Change _)) (v : BitList). elim x [ None ↦ [] | Some it ↦ change_line lane i v it ])
    (ap (λ (l : List (Change _)). slice_get l k) added ∙ slice_get-before old.changed.items (change ∷ []) k h)
    (value_is (k * lanes + i) (before (k * lanes + i) (place_below k n lanes i h in_lanes)))) in
    let last : g n ≡ (if lane change.lanes i then value_line change.signal value else []) =
    ap (λ (x : Option (Change _)). elim x [ None ↦ [] | Some it ↦ change_line lane i (get_or new.values.items (n * lanes + i) []) it ])
    (ap (λ (l : List (Change _)). slice_get l n) added ∙ slice_get-last old.changed.items change)
    ∙ where_so (lane change.lanes i) change.signal _ value is in
    ap (λ (k : ℕ). flat_map g (count_from 0 k)) long
    ∙ ap (flat_map g) (count_from-more 0 n)
    ∙ flat_map-append g (count_from 0 n) ((0 + n) ∷ [])
    ∙ ap₂ (λ (xs ys : List ℕ). xs ++ ys) (same_lines g f 0 n others)
    (append-nil (g (0 + n)) ∙ ap g (let e : 0 + n ≡ n = omega arith in e) ∙ last)
  where
    value_is : (k : ℕ) → slice_get new.values.items k ≡ slice_get old.values.items k → get_or new.values.items k [] ≡ get_or old.values.items k []
    value_is k e = sym (unwrap_or-slice_get new.values.items k []) ∙ ap (λ (x : Option BitList). unwrap_or x []) e ∙ unwrap_or-slice_get old.values.items k []

-- a signal of one bit has the value that the bit has
pub lone_value : {W : Type 0} (lane : W → ℕ → Bool) (i : ℕ) (planes : List (Pair W)) (pair : Pair W) (f : State) (s : Span) → slice_get planes 0 ≡ Some pair → length planes ≡ 1 → length planes ≡ s.length
    → ((k : ℕ) → k < s.length → slot_lane lane planes k i ≡ f (s.first + k)) → pair_lane lane pair i ∷ [] ≡ read f (span_bits s)
lone_value lane i planes pair f s is one long each =
    ap (λ (b : Bit4). b ∷ [])
    (sym (ap (λ o. lane_or_x lane o i) is) ∙ each 0 (omega (arith, one, long)) ∙ ap f (let e : s.first + 0 ≡ s.first = omega arith in e))
    ∙ ap (λ (n : ℕ). map f (count_from s.first n)) (sym one ∙ long)
