-- The line of a change.
use Rattle.std.proofs.Common.{◌≡◌, ◌+◌, ◌*◌, ◌<◌, ℕ, List, [], ◌∷◌, ◌++◌, length, get_or, refl, subst, sym, ap, ◌∙◌, true, false, Bool}
use Rattle.std.specs.Prelude.{slice_get, slice_index_or, Some, Option, None, All, if◌then◌else◌}
use Rattle.std.proofs.lemmas.Option.{get_or_from_slice_get}
use Rattle.vs_four.specs.Logic.{BitList}
use Rattle.vs_plane.specs.declared.pairs.Pair.{Pair}
use Rattle.vs_plane.specs.Lanes.{pair_lane}
use Rattle.vs_vcd.specs.Values.{value_line, tail_text}
use Rattle.vs_waves.specs.declared.changes.Change.{Change}
use Rattle.vs_waves.specs.declared.changes.Changes.{Changes}
use Rattle.vs_waves.specs.Changes.{line_at, change_line, change_value}
use Rattle.vs_waves.specs.Slots.{AreTails}
use Rattle.vs_desk.specs.Desk.{Contents, Register}
use Rattle.vs_waves.specs.Puts.{PutsFront}
use Rattle.vs_waves.proofs.Draining.{front-more}
use Rattle.vs_waves.proofs.Lists.{All-at, read_here}

-- by the change itself
at_change : {W : Type 0} (lane : W → ℕ → Bool) (lanes : ℕ) (c : Changes W) (i n : ℕ) (change : Change W) → slice_get c.changed.items n ≡ Some change
    → line_at lane lanes c i n ≡ change_line lane i (slice_index_or c.values.items (n * lanes + i) []) change
at_change lane lanes c i n change is =
    ap (λ (o : Option (Change _)). elim o [ None ↦ [] | Some x ↦ change_line lane i (slice_index_or c.values.items (n * lanes + i) []) x ]) is

-- a signal that didn't change in the lane has no line
pub line_not_here : {W : Type 0} (lane : W → ℕ → Bool) (lanes : ℕ) (c : Changes W) (i n : ℕ) (change : Change W) → slice_get c.changed.items n ≡ Some change
    → (b : Bool) → b ≡ lane change.lanes i → b ≡ false → line_at lane lanes c i n ≡ []
line_not_here lane lanes c i n change is b bit none =
    at_change lane lanes c i n change is
    ∙ ap (λ (x : Bool). if x then value_line change.signal (change_value lane i (slice_index_or c.values.items (n * lanes + i) []) change.bit) else []) (sym bit ∙ none)

-- one that did has that of its value
line_here : {W : Type 0} (lane : W → ℕ → Bool) (lanes : ℕ) (c : Changes W) (i n : ℕ) (change : Change W) → slice_get c.changed.items n ≡ Some change
    → (b : Bool) → b ≡ lane change.lanes i → b ≡ true → line_at lane lanes c i n ≡ value_line change.signal (change_value lane i (slice_index_or c.values.items (n * lanes + i) []) change.bit)
line_here lane lanes c i n change is b bit some =
    at_change lane lanes c i n change is
    ∙ ap (λ (x : Bool). if x then value_line change.signal (change_value lane i (slice_index_or c.values.items (n * lanes + i) []) change.bit) else []) (sym bit ∙ some)

-- which is its only bit's
pub bit_here : {W : Type 0} (lane : W → ℕ → Bool) (lanes : ℕ) (c : Changes W) (i n : ℕ) (change : Change W) (pair : Pair W) → slice_get c.changed.items n ≡ Some change
    → (b : Bool) → b ≡ lane change.lanes i → b ≡ true → change.bit ≡ Some pair → line_at lane lanes c i n ≡ value_line change.signal (pair_lane lane pair i ∷ [])
bit_here lane lanes c i n change pair is b bit some lone =
    line_here lane lanes c i n change is b bit some
    ∙ ap (λ (o : Option (Pair _)). value_line change.signal (change_value lane i (slice_index_or c.values.items (n * lanes + i) []) o)) lone

-- or stands in its row
pub row_here : {W : Type 0} (lane : W → ℕ → Bool) (lanes : ℕ) (c : Changes W) (i n : ℕ) (change : Change W) (value : BitList) → slice_get c.changed.items n ≡ Some change
    → (b : Bool) → b ≡ lane change.lanes i → b ≡ true → change.bit ≡ None → slice_get c.values.items (n * lanes + i) ≡ Some value → line_at lane lanes c i n ≡ value_line change.signal value
row_here lane lanes c i n change value is b bit some more read =
    line_here lane lanes c i n change is b bit some
    ∙ ap (λ (o : Option (Pair _)). value_line change.signal (change_value lane i (slice_index_or c.values.items (n * lanes + i) []) o)) more
    ∙ ap (value_line change.signal) (get_or_from_slice_get c.values.items (n * lanes + i) value [] read)

pub named_here : {W : Type 0} (c : Changes W) (n : ℕ) (change : Change W) (signals : ℕ) → slice_get c.changed.items n ≡ Some change → All (λ (x : Change W). x.signal < signals) c.changed.items → change.signal < signals
named_here c n change signals is all = All-at (λ (x : Change _). x.signal < signals) c.changed.items n change is all

-- what the lines of its signal end with
pub tail_here : (tails : List (List ℕ)) (n : ℕ) (t : List ℕ) → AreTails tails → n < length tails → t ≡ get_or tails n t → t ≡ tail_text n
tail_here tails n t all inside is = all.each n t (read_here tails tails n t refl inside is)

-- a line that was written behind what is left to put
pub front_line : (r : Register) (old new : Contents) (place : ℕ) (kept others line text out : List ℕ) → PutsFront r old new place kept others → line ≡ text → out ≡ others ++ text
    → PutsFront r old new place (kept ++ line) out
front_line r old new place kept others line text out front is written =
    subst (λ (l : List ℕ). PutsFront r old new place (kept ++ line) l) (ap (λ (l : List ℕ). others ++ l) is ∙ sym written) (front-more r old new place kept others line front)
