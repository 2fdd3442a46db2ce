-- What the check of an expression tells: of what the definitions say, all but the expression itself.
use Rattle.std.specs.Prelude.{◌≡◌, ℕ, suc, min, List, [], Option, Some, None, option_map}
use Rattle.vs_design.specs.Expressions.{sign, Items, NoItem, Item}
use Rattle.vs_const.specs.Faults.{fault, flaws_of, WrongKind}
use Rattle.vs_const.specs.declared.faults.Fault.{Fault}
use Rattle.vs_const.specs.Typed.{Typed, Numbered, Natural}
use Rattle.vs_const.specs.Selects.{Bounds, Base, Taken, Addressed}
use Rattle.vs_const.specs.Expressions.{TypedItems}
use Rattle.vs_const.specs.CallDepths.{call_depth, items_depth}
use Rattle.vs_const.specs.declared.calls.Arguments.{Arguments as ArgumentsOf}
use Rattle.vs_const.specs.declared.found.Checked.{Checked}
use Rattle.vs_const.specs.declared.ranges.Numbered.{Numbered as NumberedOf}
use Rattle.vs_const.specs.declared.ranges.Natural.{Natural as NaturalOf}
use Rattle.vs_const.specs.declared.ranges.Bounds.{Bounds as BoundsOf}
use Rattle.vs_const.specs.declared.selects.Base.{Base as BaseOf}
use Rattle.vs_const.specs.declared.selects.Taken.{Taken as TakenOf}
use Rattle.vs_const.specs.declared.selects.Addressed.{Addressed as AddressedOf}

-- how many there are
abbrev pub item_count : Items → ℕ
item_count NoItem = 0
item_count (Item e es) = suc (item_count es)

-- a length, of which no more is told than that it is over 64
abbrev pub capped : Option ℕ → Option ℕ
capped length = option_map (min 65) length

-- of an expression
pub record Checks (c : Checked) (t : Typed) : Type 0 where
  pub flaws : c.flaws ≡ flaws_of t.faults
  pub good : c.good ≡ t.good
  pub length : c.length ≡ capped t.length
  pub signed : c.signed ≡ sign t.expression
  pub depth : c.depth ≡ call_depth t.expression

-- of the number of a needed constant
pub record ChecksNumber (c : NumberedOf) (n : Numbered) : Type 0 where
  pub number : c.number ≡ n.number
  pub flaws : c.flaws ≡ flaws_of n.faults

-- of a number within bounds
pub record ChecksNatural (c : NaturalOf) (n : Natural) : Type 0 where
  pub number : c.number ≡ n.number
  pub flaws : c.flaws ≡ flaws_of n.faults

-- of a range
pub record ChecksBounds (c : BoundsOf) (b : Bounds) : Type 0 where
  pub range : c.range ≡ b.range
  pub flaws : c.flaws ≡ flaws_of b.faults

-- of what a select takes bits of, but for the source itself
pub record ChecksBase (c : BaseOf) (b : Base) : Type 0 where
  pub range : c.range ≡ b.range
  pub good : c.good ≡ b.good
  pub flaws : c.flaws ≡ flaws_of b.faults

-- of which bits are taken: how many, and how deep calls nest in the index
pub record ChecksTaken (c : TakenOf) (t : Taken) : Type 0 where
  pub length : c.length ≡ capped t.length
  pub good : c.good ≡ t.good
  pub flaws : c.flaws ≡ flaws_of t.faults
  pub depth : c.depth ≡ call_depth t.index

-- of an address: how deep calls nest in it
pub record ChecksAddress (c : AddressedOf) (a : Addressed) : Type 0 where
  pub good : c.good ≡ a.good
  pub flaws : c.flaws ≡ flaws_of a.faults
  pub depth : c.depth ≡ call_depth a.index

-- of the arguments of a call: how many there are
pub record ChecksArguments (c : ArgumentsOf) (t : TypedItems) : Type 0 where
  pub flaws : c.flaws ≡ flaws_of t.faults
  pub good : c.good ≡ t.good
  pub count : c.count ≡ item_count t.items
  pub depth : c.depth ≡ items_depth t.items

-- where a part of a concatenation begins that is a literal without a size
abbrev pub IsUnsizedAt : Option ℕ → List Fault → Type 0
IsUnsizedAt None fs = fs ≡ []
IsUnsizedAt (Some place) fs = fs ≡ fault WrongKind place
