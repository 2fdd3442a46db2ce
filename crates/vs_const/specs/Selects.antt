-- Selects and ranges (IEEE 1364-2005, 3.3 and 5.2.1).
use Rattle.std.specs.Prelude.{ℕ, ◌+◌, ◌-◌, ◌*◌, Bool, true, false, not, ◌&&◌, ◌||◌, List, [], ◌++◌, min, ◌==◌, nat_le, is_none, Option, Some, None}
use Rattle.vs_four.specs.declared.Range.{Range}
use Rattle.vs_four.specs.Numbers.{bits_of}
use Rattle.vs_four.specs.Selects.{Part, range_length, is_descending}
use Rattle.vs_design.specs.Expressions.{Signal, word_length, addresses, Source, OfSignal, OfConstant, Expression, Literal, Name, Select, Word, WordPart, At}
use Rattle.vs_grammar.specs.Trees.{SliceKind, Between, Upward, Downward}
use Rattle.vs_const.specs.declared.faults.Fault.{Fault}
use Rattle.vs_const.specs.Faults.{Rule, fault, fault_if, BadRange, NotConstant, UnknownName, WrongKind}
use Rattle.vs_const.specs.Meanings.{SignalMeaning, Meaning, AValue, Undefined, ASignal, AMemory, AFunction, Incomplete, Another, Barred, Unknown, Find, steady}
use Rattle.vs_const.specs.Typed.{Typed, nothing, broken, fine, natural}

-- ---- ranges

-- `[left:right]`, declared or of a select
pub record Bounds : Type 0 where
  pub range : Option Range
  pub faults : List Fault

-- the range, unless it is too long
abbrev pub range_if : (short : Bool) → ℕ → Range → Bounds
range_if true bracket r = record { range = Some r; faults = [] }
range_if false bracket r = record { range = None; faults = fault BadRange bracket }

-- a range of at most so many numbers
abbrev pub up_to : (most : ℕ) → ℕ → Range → Bounds
up_to most bracket r = range_if (nat_le (range_length r) most) bracket r

-- of two numbers, where a fault leaves neither undefined
abbrev pub range_of : (most : ℕ) → ℕ → Option ℕ → Option ℕ → Bounds
range_of most bracket (Some left) (Some right) = up_to most bracket (record { left = left; right = right })
range_of most bracket _ _ = record { range = None; faults = [] }

-- two numbers up to 65,535, and no more than so many from one to the other; each bound with its place
abbrev pub bounds_of : (most : ℕ) → (bracket : ℕ) → (left_place : ℕ) → Typed → (right_place : ℕ) → Typed → Bounds
bounds_of most bracket left_place left right_place right =
    let m = natural 0 65535 left_place left in
    let n = natural 0 65535 right_place right in
    let r = range_of most bracket m.number n.number in
    record { range = r.range; faults = m.faults ++ (n.faults ++ r.faults) }

-- of a vector or a select: at most 64 bits
abbrev pub bounds : (bracket : ℕ) → (left_place : ℕ) → Typed → (right_place : ℕ) → Typed → Bounds
bounds bracket left_place left right_place right = bounds_of 64 bracket left_place left right_place right

-- of a memory: at most 1,024 words
abbrev pub address_bounds : (bracket : ℕ) → (left_place : ℕ) → Typed → (right_place : ℕ) → Typed → Bounds
address_bounds bracket left_place left right_place right = bounds_of 1024 bracket left_place left right_place right

-- ---- names

-- a signal, whose range a fault may leave undefined
abbrev pub known_signal : (known : Bool) → Signal → Typed
known_signal true signal = fine (Name signal) []
known_signal false signal = broken None []

-- a signal is no constant
abbrev pub signal_typed : Bool → ℕ → SignalMeaning → Typed
signal_typed true place s = broken None (fault NotConstant place)
signal_typed false place s = known_signal s.known s.signal

-- What is no constant breaks that rule where one is needed, and elsewhere another: of a memory that its name alone has no value (4.9.3).
abbrev pub rule_where : (needed : Bool) → Rule → Rule
rule_where true rule = NotConstant
rule_where false rule = rule

-- a name alone
abbrev pub name_typed : Bool → ℕ → Meaning → Typed
name_typed needed place (AValue v range turns) = fine (Literal v.bits v.signed true) []
name_typed needed place (Undefined range) = broken None []
name_typed needed place (ASignal s) = signal_typed needed place s
name_typed needed place (AMemory m) = broken None (fault (rule_where needed WrongKind) place)
name_typed needed place (AFunction f) = broken None (fault WrongKind place)
name_typed needed place Incomplete = broken None (fault WrongKind place)
name_typed needed place Another = broken None (fault WrongKind place)
name_typed needed place (Barred rule) = broken None (fault (rule_where needed rule) place)
name_typed needed place Unknown = broken None (fault UnknownName place)

-- what a select takes bits of; no range where a select has no meaning
pub record Base : Type 0 where
  pub source : Source
  pub range : Option Range
  pub good : Bool
  pub faults : List Fault

-- nothing to take bits of
abbrev pub no_base : Option Range → List Fault → Base
no_base range faults = record { source = OfConstant []; range = range; good = false; faults = faults }

-- a select of a scalar is wrong
abbrev pub is_scalar : SignalMeaning → Bool
is_scalar s = s.known && is_none s.signal.range

-- the bits of a signal
abbrev pub signal_base : List Fault → SignalMeaning → Base
signal_base faults s = record { source = OfSignal s.signal; range = s.signal.range; good = s.known; faults = faults }

-- which is no constant
abbrev pub signal_base_of : Bool → ℕ → SignalMeaning → Base
signal_base_of true place s = no_base None (fault NotConstant place)
signal_base_of false place s = signal_base (fault_if (is_scalar s) WrongKind place) s

-- by what the name means
abbrev pub base_of : Bool → ℕ → Meaning → Base
base_of needed place (AValue v range turns) = record { source = OfConstant v.bits; range = Some range; good = true; faults = [] }
base_of needed place (Undefined range) = no_base range []
base_of needed place (ASignal s) = signal_base_of needed place s
base_of needed place (AMemory m) = no_base None (fault (rule_where needed WrongKind) place)
base_of needed place (AFunction f) = no_base None (fault WrongKind place)
base_of needed place Incomplete = no_base None (fault WrongKind place)
base_of needed place Another = no_base None (fault WrongKind place)
base_of needed place (Barred rule) = no_base None (fault (rule_where needed rule) place)
base_of needed place Unknown = no_base None (fault UnknownName place)

-- ---- selects

-- which bits are taken
pub record Taken : Type 0 where
  pub part : Part
  pub index : Expression
  pub length : Option ℕ
  pub good : Bool
  pub faults : List Fault

-- no bits
abbrev pub nowhere : Part
nowhere = record { range = record { left = 0; right = 0 }; up = true; width = 1 }

-- bits that a fault leaves undefined, of which the number may be known
abbrev pub not_taken : Option ℕ → List Fault → Taken
not_taken length faults = record { part = nowhere; index = nothing; length = length; good = false; faults = faults }

-- this many bits from an index on
abbrev pub taken : Option Range → Bool → ℕ → Typed → List Fault → Taken
taken None up n index faults = not_taken (Some n) faults
taken (Some declared) up n index faults = record { part = record { range = declared; up = up; width = n }; index = index.expression; length = Some n; good = index.good; faults = faults }

-- as many bits from an index on as a number says
abbrev pub if_width : Option Range → Bool → Option ℕ → Typed → List Fault → Taken
if_width declared up None index faults = not_taken None faults
if_width declared up (Some n) index faults = taken declared up n index faults

-- `[a +: w]` and `[a -: w]`
abbrev pub moving : Option Range → Bool → Typed → ℕ → Typed → Taken
moving declared up a place w = let n = natural 1 64 place w in if_width declared up n.number a (a.faults ++ n.faults)

-- both ranges are descending, or neither
abbrev pub same_direction : Range → Range → Bool
same_direction a b = (is_descending a && is_descending b) || (not (is_descending a) && not (is_descending b))

-- `[a:b]` against the declared direction
abbrev pub is_against : Option Range → Range → Bool
is_against None r = false
is_against (Some declared) r = not (r.left == r.right) && not (same_direction declared r)

-- the index of `[a:b]` is the lesser bound, 32 bits and signed
abbrev pub lesser_bound : ℕ → Range → Typed
lesser_bound place r = fine (At place (Literal (bits_of 32 (min r.left r.right)) true true)) []

-- the bits of a range, unless it goes against the declared direction
abbrev pub along : (against : Bool) → Option Range → ℕ → ℕ → Range → List Fault → Taken
along true declared bracket place r faults = not_taken (Some (range_length r)) (faults ++ fault BadRange bracket)
along false declared bracket place r faults = taken declared true (range_length r) (lesser_bound place r) faults

-- the bits of a range, unless a fault leaves it undefined
abbrev pub between : Option Range → ℕ → ℕ → Option Range → List Fault → Taken
between declared bracket place None faults = not_taken None faults
between declared bracket place (Some r) faults = along (is_against declared r) declared bracket place r faults

-- by the kind of the select
abbrev pub slice_taken : Option Range → (bracket : ℕ) → SliceKind → (a_place : ℕ) → Typed → (b_place : ℕ) → Typed → Taken
slice_taken declared bracket Between a_place a b_place b = let r = bounds bracket a_place a b_place b in between declared bracket a_place r.range r.faults
slice_taken declared bracket Upward a_place a b_place b = moving declared true a b_place b
slice_taken declared bracket Downward a_place a b_place b = moving declared false a b_place b

-- the bounds of `[a:b]` are constants
abbrev pub first_needed : SliceKind → Bool → Bool
first_needed Between needed = true
first_needed _ needed = needed

-- and name no integer
abbrev pub first_names : SliceKind → Find → Find
first_names Between find = steady find
first_names _ find = find

-- the select, unless a fault leaves it undefined
abbrev pub select_if : (good : Bool) → Base → Taken → Typed
select_if true b t = record { expression = Select b.source t.part t.index; length = t.length; good = true; faults = b.faults ++ t.faults }
select_if false b t = broken t.length (b.faults ++ t.faults)

-- bits of a name
abbrev pub select_typed : Base → Taken → Typed
select_typed b t = select_if (b.good && t.good) b t

-- ---- names of another kind

-- the rule that a name breaks where something of another kind has to stand
abbrev pub wrong_rule : (needed : Bool) → Meaning → Rule
wrong_rule needed (ASignal s) = rule_where needed WrongKind
wrong_rule needed (AMemory m) = rule_where needed WrongKind
wrong_rule needed (Barred rule) = rule_where needed rule
wrong_rule needed Unknown = UnknownName
wrong_rule needed _ = WrongKind

-- ---- words (4.9.3)

-- the length of a memory's words, unless a fault leaves it undefined
abbrev pub length_if : (known : Bool) → Signal → Option ℕ
length_if true memory = Some (word_length memory)
length_if false memory = None

-- whether a name means an array of nets, whose addresses are constants
abbrev pub is_array : Meaning → Bool
is_array (AMemory m) = m.signal.net
is_array m = false

-- The net of an array at this address: a memory of one word. By ascending address the nets are numbered, and have their bits, one after the other.
abbrev pub array_net : Signal → ℕ → Signal
array_net s n = let k = n - (addresses s).right in record s { number = s.number + k; first = s.first + k * word_length s; words = Some (record { left = n; right = n }) }

-- what has the word at an address, and the address
pub record Addressed : Type 0 where
  pub signal : Signal
  pub index : Expression
  pub good : Bool
  pub faults : List Fault

-- of an array the net at its address, if it has one there
abbrev pub in_array : SignalMeaning → Typed → Option ℕ → List Fault → Addressed
in_array m i None faults = record { signal = m.signal; index = i.expression; good = false; faults = faults }
in_array m i (Some n) faults = record { signal = array_net m.signal n; index = i.expression; good = i.good; faults = faults }

-- a memory has all of its words, by any address; an array's address is a constant, and one that it has
abbrev pub addressed_in : (array : Bool) → SignalMeaning → (place : ℕ) → Typed → Addressed
addressed_in false m place i = record { signal = m.signal; index = i.expression; good = i.good; faults = i.faults }
addressed_in true m place i = let n = natural (addresses m.signal).right (addresses m.signal).left place i in in_array m i n.number n.faults

abbrev pub addressed : SignalMeaning → (place : ℕ) → Typed → Addressed
addressed m place i = addressed_in m.signal.net m place i

-- the word at an address, unless a fault leaves it undefined
abbrev pub word_if : (good : Bool) → SignalMeaning → Addressed → Typed
word_if true m a = fine (Word a.signal a.index) a.faults
word_if false m a = broken (length_if m.known m.signal) a.faults

-- a word is no constant
abbrev pub word_typed : (needed : Bool) → (place : ℕ) → SignalMeaning → Addressed → Typed
word_typed true place m a = broken None (fault NotConstant place ++ a.faults)
word_typed false place m a = word_if (m.known && a.good) m a

-- `name[i]`, where i stands at the place `at`: a word of a memory, a bit of anything else
abbrev pub bit_typed : (needed : Bool) → (place : ℕ) → Meaning → (at : ℕ) → Typed → Typed
bit_typed needed place (AMemory m) at i = word_typed needed place m (addressed m at i)
bit_typed needed place m at i = let b = base_of needed place m in select_typed b (taken b.range true 1 i i.faults)

-- ---- parts of words (5.2.2)

-- the declared range of a memory's words
abbrev pub word_range : Meaning → Option Range
word_range (AMemory m) = m.signal.range
word_range m = None

-- bits of the word at an address, unless a fault leaves them undefined
abbrev pub word_part_if : (good : Bool) → SignalMeaning → List Fault → Addressed → Taken → Typed
word_part_if true m faults a t = record { expression = WordPart a.signal a.index t.part t.index; length = t.length; good = true; faults = faults ++ (a.faults ++ t.faults) }
word_part_if false m faults a t = broken t.length (faults ++ (a.faults ++ t.faults))

-- a word of one bit without a range has none to select
abbrev pub word_part_typed : (place : ℕ) → SignalMeaning → Addressed → Taken → Typed
word_part_typed place m a t = word_part_if (m.known && a.good && t.good) m (fault_if (is_scalar m) WrongKind place) a t

-- `name[i]` with a further select, where i stands at the place `at`: of a memory, where no constant is needed. Of any other name what stands in the brackets comes behind it
abbrev pub further_typed : (needed : Bool) → (place : ℕ) → Meaning → (at : ℕ) → Typed → Taken → Typed
further_typed false place (AMemory m) at i t = word_part_typed place m (addressed m at i) t
further_typed needed place m at i t = broken None (fault (wrong_rule needed m) place)
