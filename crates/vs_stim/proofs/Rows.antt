-- Worked texts, computed.
use Rattle.std.proofs.Common.{◌≡◌, ℕ, true, false, List, [], ◌∷◌, ◌++◌, map, refl}
use Rattle.std.specs.Prelude.{codes, Option, Some, None}
use Rattle.vs_four.specs.declared.Bit4.{Bit4}
use Rattle.vs_four.specs.declared.Bit4.TheVariants.{Zero, One, X, Z}
use Rattle.vs_stim.specs.declared.input.Input.{Input}
use Rattle.vs_stim.specs.declared.wanted.Digit.TheVariants.{Exactly, Any}
use Rattle.vs_stim.specs.declared.error.StimError.{StimError}
use Rattle.vs_stim.specs.declared.error.StimError.TheVariants.{BadHeader, NoExpectation, BadVector, FirstUnknown, UnknownReset, UnknownSelect, NoVector, TooManyVectors, StimulusTooLong, LineTooLong}
use Rattle.vs_stim.specs.Header.{PortLists}
use Rattle.vs_stim.specs.Numbers.{line_of_vector}
use Rattle.vs_stim.specs.Reading.{Reading, Limits, reading, reading_within, columns, refused}

-- a line with its LF
abbrev line : List ℕ → List ℕ
line text = text ++ 10 ∷ []

-- a line with CR and LF
abbrev crlf : List ℕ → List ℕ
crlf text = text ++ 13 ∷ 10 ∷ []

-- the vectors, and then this refusal or none
abbrev gives : List (List (List Bit4)) → Option StimError → Reading
gives vs e = record { vectors = vs; wanted = map (λ v. []) vs; refusal = e }

-- these inputs, and no outputs
abbrev inputs_alone : List Input → PortLists
inputs_alone is = record { inputs = is; outputs = []; demanded = false }

abbrev none : PortLists
none = inputs_alone []

abbrev two_inputs : List Input
two_inputs = record { name = codes "a"; length = 1; reset = false; select = false } ∷ record { name = codes "b"; length = 1; reset = false; select = false } ∷ []

abbrev two : PortLists
two = inputs_alone two_inputs

abbrev wide : PortLists
wide = inputs_alone (record { name = codes "a"; length = 4; reset = false; select = false } ∷ record { name = codes "b"; length = 2; reset = false; select = false } ∷ [])

abbrev with_reset : PortLists
with_reset = inputs_alone (record { name = codes "a"; length = 1; reset = false; select = false } ∷ record { name = codes "b"; length = 1; reset = true; select = false } ∷ [])

abbrev with_select : PortLists
with_select = inputs_alone (record { name = codes "r"; length = 1; reset = true; select = false } ∷ record { name = codes "s"; length = 1; reset = false; select = true } ∷ [])

abbrev small : Limits
small = record { vectors = 2; line = 10; bytes = 20 }

abbrev one_zero : List (List Bit4)
one_zero = (One ∷ []) ∷ (Zero ∷ []) ∷ []

abbrev one_one : List (List Bit4)
one_one = (One ∷ []) ∷ (One ∷ []) ∷ []

two_vectors : reading two (line (codes "inputs a b") ++ line (codes "1 0") ++ line (codes "1 1")) ≡ gives (one_zero ∷ one_one ∷ []) None
two_vectors = refl

-- the vector is in the design's order of inputs, and the last line may lack its LF
other_order : reading two (line (codes "inputs b a") ++ line (codes "0 1") ++ codes "1 1") ≡ gives (one_zero ∷ one_one ∷ []) None
other_order = refl

-- the first digit is the most significant bit
digits : reading wide (line (codes "inputs b a") ++ line (codes "10 0011") ++ line (codes "zZ 0xX1")) ≡ gives (((One ∷ One ∷ Zero ∷ Zero ∷ []) ∷ (Zero ∷ One ∷ []) ∷ []) ∷ ((One ∷ X ∷ X ∷ Zero ∷ []) ∷ (Z ∷ Z ∷ []) ∷ []) ∷ []) None
digits = refl

-- one CR before the LF is dropped
with_cr : reading two (crlf (codes "inputs a b") ++ crlf (codes "1 0") ++ crlf [] ++ crlf (codes "1 1")) ≡ gives (one_zero ∷ one_one ∷ []) None
with_cr = refl

-- one in the middle stays, and one at the end of a last line without LF
cr_inside : reading two (line (codes "inputs a b") ++ codes "1 0" ++ crlf (13 ∷ [])) ≡ refused (BadVector 2)
cr_inside = refl

cr_at_end : reading two (line (codes "inputs a b") ++ codes "1 0" ++ 13 ∷ []) ≡ refused (BadVector 2)
cr_at_end = refl

-- skipped lines count
skipped : reading two (line (codes "# s") ++ line [] ++ line (codes " \t") ++ line (codes " inputs a\tb ") ++ line (codes " # 1 0") ++ line (codes "\t1  0") ++ line (codes "1 2")) ≡ gives (one_zero ∷ []) (Some (BadVector 7))
skipped = refl

-- no inputs: the one field `-`
no_inputs : reading none (line (codes "inputs") ++ line (codes " - ") ++ line (codes "-")) ≡ gives ([] ∷ [] ∷ []) None
no_inputs = refl

no_dash : reading none (line (codes "inputs") ++ line (codes "- -")) ≡ refused (BadVector 2)
no_dash = refl

empty : reading two [] ≡ refused BadHeader
empty = refl

header_alone : reading two (line (codes "inputs a b")) ≡ refused NoVector
header_alone = refl

header_missing : reading two (line (codes "inputs a")) ≡ refused BadHeader
header_missing = refl

header_twice : reading two (line (codes "inputs a b a")) ≡ refused BadHeader
header_twice = refl

header_unknown : reading two (line (codes "inputs a c")) ≡ refused BadHeader
header_unknown = refl

header_word : reading two (line (codes "input a b")) ≡ refused BadHeader
header_word = refl

short_vector : reading two (line (codes "inputs a b") ++ line (codes "1 0") ++ line (codes "1 1") ++ line (codes "1")) ≡ gives (one_zero ∷ one_one ∷ []) (Some (BadVector 4))
short_vector = refl

first_unknown : reading two (line (codes "inputs a b") ++ line (codes "1 x")) ≡ refused FirstUnknown
first_unknown = refl

-- a malformed first vector comes before an unknown digit
malformed_first : reading two (line (codes "inputs a b") ++ line (codes "x 2")) ≡ refused (BadVector 2)
malformed_first = refl

-- a reset input is known in later vectors too, and other inputs needn't be
unknown_reset : reading with_reset (line (codes "inputs b a") ++ line (codes "0 1") ++ line (codes "1 z") ++ line [] ++ line (codes "x 1") ++ line (codes "2"))
    ≡ gives (one_zero ∷ ((Z ∷ []) ∷ (One ∷ []) ∷ []) ∷ []) (Some (UnknownReset 5))
unknown_reset = refl

floating_reset : reading with_reset (line (codes "inputs a b") ++ line (codes "1 0") ++ line (codes "1 Z")) ≡ gives (one_zero ∷ []) (Some (UnknownReset 3))
floating_reset = refl

-- in the first vector it is unknown as any other
first_reset : reading with_reset (line (codes "inputs a b") ++ line (codes "1 x")) ≡ refused FirstUnknown
first_reset = refl

-- a malformed line comes before an unknown reset
malformed_reset : reading with_reset (line (codes "inputs a b") ++ line (codes "1 0") ++ line (codes "2 x")) ≡ gives (one_zero ∷ []) (Some (BadVector 3))
malformed_reset = refl

-- a select input is known in later vectors too
unknown_select : reading with_select (line (codes "inputs s r") ++ line (codes "0 1") ++ line (codes "z 1")) ≡ gives (one_zero ∷ []) (Some (UnknownSelect 3))
unknown_select = refl

-- of a reset input and a select input the first in the design's order is told
both_unknown : reading with_select (line (codes "inputs s r") ++ line (codes "0 1") ++ line (codes "x x")) ≡ gives (one_zero ∷ []) (Some (UnknownReset 3))
both_unknown = refl

-- the limits, small ones
line_limit : reading_within small none (line (codes "#") ++ line (codes "# 34567890")) ≡ refused BadHeader
line_limit = refl

line_too_long : reading_within small none (line (codes "#") ++ line (codes "2 345678901")) ≡ refused (LineTooLong 2)
line_too_long = refl

-- twenty bytes are kept, and the LF would be one more
bytes_kept : reading_within small none (line (codes "inputs") ++ line (codes "-") ++ line (codes "-") ++ codes "# 3456789") ≡ gives ([] ∷ [] ∷ []) None
bytes_kept = refl

bytes_limit : reading_within small none (line (codes "inputs") ++ line (codes "-") ++ line (codes "-") ++ line (codes "# 3456789")) ≡ gives ([] ∷ [] ∷ []) (Some StimulusTooLong)
bytes_limit = refl

-- of two limits at one byte the line's is answered
both_limits : reading_within (record { vectors = 2; line = 10; bytes = 12 }) none (line (codes "#") ++ codes "# 345678901") ≡ refused (LineTooLong 2)
both_limits = refl

vectors_limit : reading_within small none (line (codes "inputs") ++ line (codes "-") ++ line (codes "-") ++ line (codes "-")) ≡ gives ([] ∷ [] ∷ []) (Some TooManyVectors)
vectors_limit = refl

-- a malformed line comes before the limit on vectors
malformed_past : reading_within small none (line (codes "inputs") ++ line (codes "-") ++ line (codes "-") ++ line (codes "=")) ≡ gives ([] ∷ [] ∷ []) (Some (BadVector 4))
malformed_past = refl

-- and so does an unknown reset
reset_past : reading_within (record { vectors = 1; line = 10; bytes = 40 }) with_reset (line (codes "inputs a b") ++ line (codes "1 0") ++ line (codes "1 x")) ≡ gives (one_zero ∷ []) (Some (UnknownReset 3))
reset_past = refl

-- ---- expectations

abbrev with_outputs : PortLists
with_outputs = record { inputs = two_inputs; outputs = record { name = codes "y"; length = 1 } ∷ record { name = codes "q"; length = 3 } ∷ []; demanded = false }

abbrev bare_outputs : PortLists
bare_outputs = record { inputs = []; outputs = record { name = codes "y"; length = 1 } ∷ []; demanded = false }

-- in the header's order, most significant first; `-` is any bit
expected : reading with_outputs (line (codes "inputs b a -> q y") ++ line (codes "0 1 -> 01- 1") ++ line (codes "1 1 -> zXx  -"))
    ≡ record {
      vectors = one_zero ∷ one_one ∷ [];
      wanted = ((Any ∷ Exactly One ∷ Exactly Zero ∷ []) ∷ (Exactly One ∷ []) ∷ []) ∷ ((Exactly X ∷ Exactly X ∷ Exactly Z ∷ []) ∷ (Any ∷ []) ∷ []) ∷ [];
      refusal = None;
    }
expected = refl

-- no inputs
bare_expected : reading bare_outputs (line (codes "inputs -> y") ++ line (codes "- -> 0")) ≡ record { vectors = [] ∷ []; wanted = ((Exactly Zero ∷ []) ∷ []) ∷ []; refusal = None }
bare_expected = refl

-- a header that names no outputs
none_expected : reading with_outputs (line (codes "inputs a b") ++ line (codes "1 0") ++ line (codes "1 1 -> 1")) ≡ gives (one_zero ∷ []) (Some (BadVector 3))
none_expected = refl

-- one name at least, of outputs alone, each at most once
no_names : reading with_outputs (line (codes "inputs a b ->")) ≡ refused BadHeader
no_names = refl

input_expected : reading with_outputs (line (codes "inputs a b -> a")) ≡ refused BadHeader
input_expected = refl

twice_expected : reading with_outputs (line (codes "inputs a b -> y y")) ≡ refused BadHeader
twice_expected = refl

second_arrow : reading with_outputs (line (codes "inputs a b -> y -> q")) ≡ refused BadHeader
second_arrow = refl

input_missing : reading with_outputs (line (codes "inputs a -> y")) ≡ refused BadHeader
input_missing = refl

-- each vector has all fields
arrow_missing : reading with_outputs (line (codes "inputs a b -> y") ++ line (codes "1 0")) ≡ refused (BadVector 2)
arrow_missing = refl

field_missing : reading with_outputs (line (codes "inputs a b -> y q") ++ line (codes "1 0 -> 1")) ≡ refused (BadVector 2)
field_missing = refl

field_short : reading with_outputs (line (codes "inputs a b -> q") ++ line (codes "1 0 -> 11")) ≡ refused (BadVector 2)
field_short = refl

no_blank : reading with_outputs (line (codes "inputs a b -> y") ++ line (codes "1 0 ->1")) ≡ refused (BadVector 2)
no_blank = refl

-- `-` is no digit of an input, and digits of outputs needn't be known
dash_input : reading with_outputs (line (codes "inputs a b -> y") ++ line (codes "1 - -> 1")) ≡ refused (BadVector 2)
dash_input = refl

-- the columns of a header
header_is : columns with_outputs (line (codes "# s") ++ line (codes "inputs b a -> q y"))
    ≡ Some (record {
      inputs = record { input = 1; length = 1; reset = false; select = false } ∷ record { input = 0; length = 1; reset = false; select = false } ∷ [];
      expected = record { output = 1; length = 3 } ∷ record { output = 0; length = 1 } ∷ [];
    })
header_is = refl

-- where outputs are demanded, a header names one
abbrev demanded : PortLists
demanded = record with_outputs { demanded = true }

lacking : reading demanded (line (codes "inputs a b") ++ line (codes "1 0")) ≡ refused NoExpectation
lacking = refl

-- the line is a header but for that, and has no byte past a limit
bad_lacking : reading demanded (line (codes "inputs a")) ≡ refused BadHeader
bad_lacking = refl

long_lacking : reading_within small demanded (line (codes "inputs a b ")) ≡ refused (LineTooLong 1)
long_lacking = refl

-- it comes before any vector
lacking_first : reading demanded (line (codes "inputs a b") ++ line (codes "2 0")) ≡ refused NoExpectation
lacking_first = refl

named : reading demanded (line (codes "inputs a b -> y") ++ line (codes "1 0 -> 1")) ≡ record { vectors = one_zero ∷ []; wanted = ((Exactly One ∷ []) ∷ []) ∷ []; refusal = None }
named = refl

-- ---- the lines of vectors

abbrev numbered : List ℕ
numbered = line (codes "# s") ++ line (codes "inputs a b") ++ line [] ++ line (codes "1 0") ++ crlf (codes " ") ++ codes "1 1"

first_number : line_of_vector numbered 0 ≡ 4
first_number = refl

-- the last line may lack its LF
last_number : line_of_vector numbered 1 ≡ 6
last_number = refl
