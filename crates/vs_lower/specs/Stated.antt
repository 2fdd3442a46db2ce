-- What the lowering of statements needs and gives.
use Rattle.std.specs.Prelude.{◌≡◌, ◌⊎◌, ℕ, ◌+◌, ◌<◌, ◌≤◌, ◌^◌, Bool, true, false, List, [], ◌∷◌, map, ◌++◌, length, slice_index, All, Some}
use Rattle.std.specs.List.Sorted.{IsStrictlyIncreasing}
use Rattle.vs_four.specs.Logic.{BitList}
use Rattle.vs_net.specs.Network as N
use Rattle.vs_design.specs.Expressions.{Expression, Items, NoItem, Item, items_of, width}
use Rattle.vs_design.specs.Statements.{CaseKind, Statement, Arms, Arm, Default}
use Rattle.vs_design.specs.Bodies.{body, arms_body}
use Rattle.vs_design.specs.Fits.{is_fit, fits_statement, fits_arms}
use Rattle.vs_design.specs.Footprints.{contains}
use Rattle.vs_design.specs.Races.{blocking_bits, arms_blocking, nonblocking_bits, arms_nonblocking}
use Rattle.vs_design.specs.Within.{names_within, statement_within, arms_within}
use Rattle.vs_design.specs.Sizes.{statement_weight, arms_weight, items_weight}
use Rattle.vs_flat.specs.declared.statements.Arm as F
use Rattle.vs_flat.specs.declared.statements.Statement as S
use Rattle.vs_flat.specs.declared.statements.Statement.TheVariants as V
use Rattle.vs_code.specs.Calls.{Call, length_of}
use Rattle.vs_values.specs.Added.{IsEnv}
use Rattle.vs_lower.specs.Assigned.{AddsRun}
use Rattle.vs_values.specs.Coded.{Coding}
use Rattle.vs_lower.specs.Done.{IsDone}
use Rattle.vs_values.specs.Environments.{placed}
use Rattle.vs_lower.specs.Joined.{AreJoined}
use Rattle.vs_lower.specs.Tested.{AddsTests}

-- no bit is written both at once and by an update
abbrev pub AreApart : (at_once updated : List ℕ) → Type 0
AreApart at_once updated = (b : ℕ) → contains updated b ≡ true → contains at_once b ≡ false

-- what a call of the lowering of a statement needs, where there are so many bits: those of the design, or a function's local ones. The slots of the bits, now and after the updates so far, are known,
-- the statement names these bits alone and fits, it writes no bit both by a blocking and by a nonblocking assignment (9.2), and there is room
pub record IsStatementReady (bits : ℕ) (now later : List ℕ) (code : Coding) (st : Statement) : Type 0 where
  pub now_env : IsEnv now code.next
  pub later_env : IsEnv later code.next
  pub now_bits : length now ≡ bits
  pub later_bits : length later ≡ bits
  pub names : statement_within bits st ≡ true
  pub fit : fits_statement st ≡ true
  pub apart : AreApart (blocking_bits st) (nonblocking_bits st)
  pub light : statement_weight st ≤ 16777216
  pub slots : code.next + statement_weight st < 2 ^ 32
  pub few : length_of code.calls + statement_weight st ≤ 2 ^ 32

-- what is added for a statement
abbrev pub AddsStatement : (now later : List ℕ) (old new : Coding) (st : Statement) (now_after later_after : List ℕ) → Type 0
AddsStatement now later old new st now_after later_after = AddsRun now later old new (body st) (blocking_bits st) (nonblocking_bits st) (statement_weight st) now_after later_after

-- each arm has an item (9.5)
abbrev pub HasItems : S.Statement → Type 0
HasItems (V.Case kind of arms other) = All (λ (arm : F.Arm). 1 ≤ length arm.items) arms
HasItems s = Unit {0}

-- ---- bits

-- bits of a design or of a function, which has as many
abbrev pub AreInside : ℕ → List ℕ → Type 0
AreInside count bits = (b : ℕ) → contains bits b ≡ true → b < count

-- each of these is among those
abbrev pub AreAmong : List ℕ → List ℕ → Type 0
AreAmong these those = (b : ℕ) → contains these b ≡ true → contains those b ≡ true

-- these bits in ascending order and each once, of as many
pub record AreInOrder (count : ℕ) (bits these : List ℕ) : Type 0 where
  pub rising : IsStrictlyIncreasing bits
  pub inside : All (λ b. b < count) bits
  pub all : AreAmong these bits
  pub alone : AreAmong bits these

-- the bits that are written at once have ahead the slots that they have now, and any other has its own
pub record AreSettled (at_once now later after : List ℕ) : Type 0 where
  pub bits : List ℕ
  pub same : (b : ℕ) → contains bits b ≡ contains at_once b
  pub are : after ≡ placed later (map Some bits) (map (slice_index now) bits)

-- ---- a branch, after which the environments are put back

-- what is added for a statement, after which these bits have these slots, now and ahead
pub record AddsBranch (now later : List ℕ) (old new : Coding) (st : Statement) (bits now_slots later_slots : List ℕ) : Type 0 where
  pub now_after : List ℕ
  pub later_after : List ℕ
  pub adds : AddsStatement now later old new st now_after later_after
  pub now_are : now_slots ≡ map (slice_index now_after) bits
  pub later_are : later_slots ≡ map (slice_index later_after) bits

-- after the join these bits have these slots
pub record AddsJoin (condition bits first_now first_later now later : List ℕ) (old new : Coding) (now_slots later_slots : List ℕ) : Type 0 where
  pub now_after : List ℕ
  pub later_after : List ℕ
  pub joined : AreJoined condition bits first_now first_later now later now_after later_after old new
  pub now_are : now_slots ≡ map (slice_index now_after) bits
  pub later_are : later_slots ≡ map (slice_index later_after) bits

-- ---- the arms of a case

-- what is added for these arms: `subject` are the slots of the case's expression, which have this value, and `written` is the number of bits that the case writes
pub record AddsArms (now ahead subject : List ℕ) (sv : N.State → BitList) (old new : Coding) (kind : CaseKind) (w : ℕ) (s : Bool) (written : ℕ) (arms : Arms) (now_after ahead_after : List ℕ) : Type 0 where
  pub calls : List Call
  pub is : new.calls ≡ old.calls ++ calls
  pub done : IsDone now ahead subject sv old.next (λ state. arms_body arms kind w s (sv state) state) (arms_blocking arms) (arms_nonblocking arms) (arms_weight arms w written) calls now_after ahead_after new.next

-- whatever value the expression has, after which these bits have these slots
pub record AddsCases (now later subject : List ℕ) (old new : Coding) (kind : CaseKind) (w : ℕ) (s : Bool) (many : ℕ) (arms : Arms) (bits now_slots later_slots : List ℕ) : Type 0 where
  pub now_after : List ℕ
  pub later_after : List ℕ
  pub adds : (sv : N.State → BitList) → AddsArms now later subject sv old new kind w s many arms now_after later_after
  pub now_are : now_slots ≡ map (slice_index now_after) bits
  pub later_are : later_slots ≡ map (slice_index later_after) bits

-- the items as a list
abbrev pub listed : Items → List Expression
listed NoItem = []
listed (Item e rest) = e ∷ listed rest

-- no item is longer
abbrev pub ItemsWithin : ℕ → Arms → Type 0
ItemsWithin w (Arm items st rest) = All (λ e. width e ≤ w) (listed items) × ItemsWithin w rest
ItemsWithin w (Default st) = Unit {0}

-- The arms fit into the context that they share with the case's expression, whose slots these are, and there is room.
pub record AreArmsReady (count : ℕ) (now later subject : List ℕ) (code : Coding) (w many : ℕ) (arms : Arms) : Type 0 where
  pub now_env : IsEnv now code.next
  pub later_env : IsEnv later code.next
  pub now_bits : length now ≡ count
  pub later_bits : length later ≡ count
  pub long : length subject ≡ w
  pub below : All (λ slot. slot < code.next) subject
  pub some : 1 ≤ w
  pub at_most_64 : w ≤ 64
  pub wide : ItemsWithin w arms
  pub names : arms_within count arms ≡ true
  pub fit : fits_arms arms ≡ true
  pub apart : AreApart (arms_blocking arms) (arms_nonblocking arms)
  pub light : arms_weight arms w many ≤ 16777216
  pub slots : code.next + arms_weight arms w many < 2 ^ 32
  pub few : length_of code.calls + arms_weight arms w many ≤ 2 ^ 32

-- each bit keeps its slot among the values now after the statement, and after what stands behind it, or its slot among those ahead
abbrev pub HasKeptSides : (now later : List ℕ) (st : Statement) (bits behind_now behind_later : List ℕ) → Type 0
HasKeptSides now later st bits behind_now behind_later = (b : ℕ) →
    ((contains (blocking_bits st) b ≡ false) × (slice_index (placed now (map Some bits) behind_now) b ≡ slice_index now b))
    ⊎ ((contains (nonblocking_bits st) b ≡ false) × (slice_index (placed later (map Some bits) behind_later) b ≡ slice_index later b))

-- one arm: `bits` have these slots after what stands behind it
pub record IsArmReady (count : ℕ) (now later subject : List ℕ) (code : Coding) (w : ℕ) (items : List Expression) (st : Statement) (bits behind_now behind_later : List ℕ) : Type 0 where
  pub now_env : IsEnv now code.next
  pub later_env : IsEnv later code.next
  pub now_bits : length now ≡ count
  pub later_bits : length later ≡ count
  pub long : length subject ≡ w
  pub below : All (λ slot. slot < code.next) subject
  pub some : 1 ≤ w
  pub at_most_64 : w ≤ 64
  pub items_some : 1 ≤ length items
  pub items_fit : All (λ e. is_fit e ≡ true) items
  pub items_wide : All (λ e. width e ≤ w) items
  pub items_names : All (λ e. names_within count e ≡ true) items
  pub names : statement_within count st ≡ true
  pub fit : fits_statement st ≡ true
  pub apart : AreApart (blocking_bits st) (nonblocking_bits st)
  pub sides : HasKeptSides now later st bits behind_now behind_later
  pub now_long : length bits ≡ length behind_now
  pub later_long : length bits ≡ length behind_later
  pub now_below : All (λ slot. slot < code.next) behind_now
  pub later_below : All (λ slot. slot < code.next) behind_later
  pub light : items_weight (items_of items) w + statement_weight st + length bits ≤ 16777216
  pub slots : code.next + (items_weight (items_of items) w + statement_weight st + length bits) < 2 ^ 32
  pub few : length_of code.calls + (items_weight (items_of items) w + statement_weight st + length bits) ≤ 2 ^ 32

-- what is added for its tests, its statement, and the join with what stands behind it
pub record AddsArm (now later subject : List ℕ) (old new : Coding) (kind : CaseKind) (w : ℕ) (s : Bool) (items : List Expression) (st : Statement) (bits behind_now behind_later now_slots later_slots : List ℕ) : Type 0 where
  pub tested : Coding
  pub branched : Coding
  pub matches : List ℕ
  pub first_now : List ℕ
  pub first_later : List ℕ
  pub tests : AddsTests now subject old tested kind w s items matches
  pub alike : length matches ≡ length items
  pub branch : AddsBranch now later tested branched st bits first_now first_later
  pub join : AddsJoin matches bits first_now first_later (placed now (map Some bits) behind_now) (placed later (map Some bits) behind_later) branched new now_slots later_slots
