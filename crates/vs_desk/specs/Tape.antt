-- The bytes of a place that is held in memory.
use Rattle.std.specs.Str.{bytes_eq}
use Rattle.std.specs.Ordering.{nat_cmp}
use Rattle.std.specs.BTreeMap.{BTreeMap, get}
use Rattle.std.specs.Prelude.{Bool, false, if◌then◌else◌, ◌==◌, List, ℕ, [], drop, Option, None, Some}
use Rattle.vs_desk.specs.declared.desk.Way.{Way}
use Rattle.vs_desk.specs.declared.desk.Way.TheVariants.{Read, Write}
use Rattle.vs_desk.specs.declared.place.Place.{Place}
use Rattle.vs_desk.specs.declared.tape.Tape.{Tape}

-- the bytes that weren't taken yet
abbrev pub rest_of : Tape → List ℕ
rest_of tape = drop tape.taken tape.bytes.items

-- what is left to take from a tape, only with Read
abbrev pub left_by : Way → Tape → List ℕ
left_by Read tape = rest_of tape
left_by Write tape = []

-- what was put on a tape, only with Write
abbrev pub put_by : Way → Tape → List ℕ
put_by Read tape = []
put_by Write tape = tape.bytes.items

-- what is left to take at a place, nothing where it isn't attached
abbrev pub left_on : Option (Place Tape) → List ℕ
left_on None = []
left_on (Some attached) = left_by attached.way attached.stream

-- what was put at a place, nothing where it isn't attached
abbrev pub put_on : Option (Place Tape) → List ℕ
put_on None = []
put_on (Some attached) = put_by attached.way attached.stream

-- what is left to take at a place that was just attached to a path with these bytes
abbrev pub left_first : Way → List ℕ → List ℕ
left_first Read bytes = bytes
left_first Write bytes = []

-- whether an attach to the path empties the file at this one
abbrev pub is_emptied : Way → List ℕ → List ℕ → Bool
is_emptied Read path q = false
is_emptied Write path q = bytes_eq path q

-- what was put at each place, where place 0 is the report
abbrev pub put_in : List ℕ → BTreeMap ℕ (Place Tape) → ℕ → List ℕ
put_in report tapes place = if place == 0 then report else put_on (get nat_cmp tapes place)
