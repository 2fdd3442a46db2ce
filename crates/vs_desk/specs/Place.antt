-- How the places of a map are attached.
use Rattle.std.specs.Prelude.{ℕ, Option, string_bytes}
use Rattle.std.specs.Option.{option_map}
use Rattle.std.specs.Ordering.{nat_cmp}
use Rattle.std.specs.BTreeMap.{BTreeMap, get}
use Rattle.vs_desk.specs.declared.place.Place.{Place}
use Rattle.vs_desk.specs.Desk.{Attachment}

abbrev pub attachment_of : {S : Type 0} → Place S → Attachment
attachment_of attached = record { way = attached.way; path = string_bytes attached.path }

-- how a place is attached
abbrev pub attached_in : {S : Type 0} → BTreeMap ℕ (Place S) → ℕ → Option Attachment
attached_in places place = option_map attachment_of (get nat_cmp places place)
