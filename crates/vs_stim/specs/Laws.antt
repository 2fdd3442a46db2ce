-- What holds of every text's reading.
use Rattle.std.specs.Prelude.{◌≡◌, ◌≢◌, ℕ, ◌-◌, ◌<◌, Bool, not, ◌&&◌, ◌||◌, List, [], ◌∷◌, ◌++◌, length, take, Option, Some, None, IfSome, true, All}
use Rattle.vs_four.specs.declared.Bit4.{Bit4}
use Rattle.vs_stim.specs.declared.input.Input.{Input}
use Rattle.vs_stim.specs.declared.error.StimError.TheVariants.{NoExpectation}
use Rattle.vs_stim.specs.Header.{PortLists, ColumnLists, undemanded, IsInput, lengths}
use Rattle.vs_stim.specs.Known.{IsReadTo}
use Rattle.vs_stim.specs.Numbers.{line_of_vector}
use Rattle.vs_stim.specs.Reading.{Place, reading, refused, header_refusal, columns}
use Rattle.vs_stim.specs.Row.{sizes}
use Rattle.vs_stim.specs.Vectors.{all_known, vector_known}

-- the first vector has no x or z bit
abbrev pub FirstIsKnown : Type 0
FirstIsKnown = (ports : PortLists) (text : List ℕ) (first : List (List Bit4)) (later : List (List (List Bit4)))
    → (reading ports text).vectors ≡ first ∷ later → vector_known first ≡ true

-- a whole text has a vector
abbrev pub WholeHasVector : Type 0
WholeHasVector = (ports : PortLists) (text : List ℕ) → (reading ports text).refusal ≡ None → 0 < length (reading ports text).vectors

-- each vector has a value for each input, of its length
abbrev pub VectorsFit : Type 0
VectorsFit = (ports : PortLists) (text : List ℕ) → All IsInput ports.inputs → All (λ vector. sizes vector ≡ lengths ports.inputs) (reading ports text).vectors

-- The vectors of the lines before an LF begin those of any text that begins with these lines, whatever stands behind it.
abbrev pub LaterLinesChangeNothing : Type 0
LaterLinesChangeNothing = (ports : PortLists) (text later : List ℕ)
    → let vectors = (reading ports (text ++ 10 ∷ [])).vectors in take (length vectors) (reading ports (text ++ 10 ∷ later)).vectors ≡ vectors

-- these values, one for each input, have no x or z bit in a reset input or a select input
abbrev pub known_in_controls : List Input → List (List Bit4) → Bool
known_in_controls [] vs = true
known_in_controls (i ∷ is) [] = true
known_in_controls (i ∷ is) (v ∷ vs) = (not (i.reset || i.select) || all_known v) && known_in_controls is vs

-- no vector of a text has an x or z bit in such an input
abbrev pub ControlsAreKnown : Type 0
ControlsAreKnown = (ports : PortLists) (text : List ℕ) → All IsInput ports.inputs → All (λ vector. known_in_controls ports.inputs vector ≡ true) (reading ports text).vectors

-- ---- the lines of vectors

-- Where a text was read up to a vector, that vector stands on the line that was read last.
abbrev pub LinesOfVectors : Type 0
LinesOfVectors = (ports : PortLists) (text : List ℕ) (count : ℕ) (cs : ColumnLists) (line : ℕ) (at : Place) (rest : List ℕ)
    → IsReadTo ports text count cs line at rest → 0 < count → line_of_vector text (count - 1) ≡ line

-- ---- headers that have to name outputs

-- the columns of a header, which names no output
abbrev pub NamesNone : Option ColumnLists → Type 0
NamesNone None = ⊥
NamesNone (Some cs) = cs.expected ≡ []

-- But for that refusal a text gives what it gives where no output is demanded.
abbrev pub DemandChangesNothing : Type 0
DemandChangesNothing = (ports : PortLists) (text : List ℕ) → (reading ports text).refusal ≢ Some NoExpectation → reading ports text ≡ reading (undemanded ports) text

-- And so up to its header.
abbrev pub DemandChangesNoHeader : Type 0
DemandChangesNoHeader = (ports : PortLists) (text : List ℕ) → header_refusal ports text ≢ Some NoExpectation → header_refusal ports text ≡ header_refusal (undemanded ports) text

-- Where outputs are demanded, the columns of a header name one.
abbrev pub DemandedAreNamed : Type 0
DemandedAreNamed = (ports : PortLists) (text : List ℕ) → ports.demanded ≡ true → IfSome (columns ports text) (λ cs. 0 < length cs.expected)

-- A header that names none is refused then.
abbrev pub LackingIsRefused : Type 0
LackingIsRefused = (ports : PortLists) (text : List ℕ) → ports.demanded ≡ true → NamesNone (columns (undemanded ports) text) → reading ports text ≡ refused NoExpectation

-- Nothing else is refused so.
abbrev pub RefusedIsLacking : Type 0
RefusedIsLacking = (ports : PortLists) (text : List ℕ) → header_refusal ports text ≡ Some NoExpectation → (ports.demanded ≡ true) × NamesNone (columns (undemanded ports) text)
