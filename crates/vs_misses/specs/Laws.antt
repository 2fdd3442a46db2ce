-- What is missed, in the words of each digit.
use Rattle.std.specs.Prelude.{◌≡◌, ◌⊎◌, ℕ, ◌<◌, ◌↔◌, List, slice_get, Some, None}
use Rattle.vs_four.specs.declared.Bit4.{Bit4}
use Rattle.vs_four.specs.Logic.{BitList}
use Rattle.vs_net.specs.Network.{State}
use Rattle.vs_program.specs.declared.compiled.Span.{Span}
use Rattle.vs_stim.specs.declared.input.Expected.{Expected}
use Rattle.vs_stim.specs.declared.wanted.Digit.{Digit}
use Rattle.vs_stim.specs.declared.wanted.Digit.TheVariants.{Exactly, Any}
use Rattle.vs_stim.specs.Vectors.{wanted_of}
use Rattle.vs_misses.specs.Missed.{value_of, Miss, first_miss}
use Rattle.vs_misses.specs.Texts.{wanted_text}

-- each of these digits has a bit, and stands for any or is exactly it
abbrev pub MeetsAll : List Digit → BitList → Type 0
MeetsAll w bits = (j : ℕ) (d : Digit) → slice_get w j ≡ Some d → (b : Bit4) × (slice_get bits j ≡ Some b) × ((d ≡ Any) ⊎ (d ≡ Exactly b))

-- each digit of the first columns, so many, is met
abbrev pub ColumnsMet : List Span → State → ℕ → List Expected → List (List Digit) → Type 0
ColumnsMet outputs s count es ws = (c : ℕ) (e : Expected) (w : List Digit) → c < count → slice_get es c ≡ Some e → slice_get ws c ≡ Some w → MeetsAll w (value_of outputs s e)

-- each digit of each column is met
abbrev pub AllMet : List Span → State → List Expected → List (List Digit) → Type 0
AllMet outputs s es ws = (c : ℕ) (e : Expected) (w : List Digit) → slice_get es c ≡ Some e → slice_get ws c ≡ Some w → MeetsAll w (value_of outputs s e)

-- nothing is missed exactly where each digit of each column is met
abbrev pub NoneIsMissed : Type 0
NoneIsMissed = (outputs : List Span) (s : State) (n : ℕ) (es : List Expected) (ws : List (List Digit)) → (first_miss outputs s n es ws ≡ None) ↔ AllMet outputs s es ws

-- the column of a miss, with its digits and its bits: they aren't met, and those of the columns before it are
pub record IsFirstMiss (outputs : List Span) (s : State) (es : List Expected) (ws : List (List Digit)) (m : Miss) : Type 0 where
  pub column : Expected
  pub column_is : slice_get es m.output ≡ Some column
  pub wanted_is : slice_get ws m.output ≡ Some m.wanted
  pub got_is : m.got ≡ value_of outputs s column
  pub unmet : ¬ MeetsAll m.wanted m.got
  pub before : ColumnsMet outputs s m.output es ws

-- what is missed is the first column that isn't met
abbrev pub FirstIsMissed : Type 0
FirstIsMissed = (outputs : List Span) (s : State) (es : List Expected) (ws : List (List Digit)) (m : Miss) → first_miss outputs s 0 es ws ≡ Some m → IsFirstMiss outputs s es ws m

-- digits are read from their text as they were
abbrev pub TextReadsBack : Type 0
TextReadsBack = (w : List Digit) → wanted_of (wanted_text w) ≡ Some w
