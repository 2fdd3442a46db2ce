-- Local signals, one after the other.
use Rattle.std.specs.Prelude.{◌≡◌, ◌&&◌, List, [], ◌∷◌, ◌++◌, map, flat_map}
use Rattle.vs_grammar.specs.Shapes.{IsValueType}
use Rattle.vs_const.specs.declared.faults.Fault.{Fault}
use Rattle.vs_const.specs.Faults.{least, better}
use Rattle.vs_elaborated.specs.Statements.{Local}
use Rattle.vs_elaborated.specs.Functions as spec
use Rattle.vs_scope.specs.declared.local_signals.Signalling.{Signalling}
use Rattle.vs_scope.specs.Locals.{local_start, placed_local, placed_local_of}

-- each has a type of the grammar
abbrev pub AreShapedLocals : List Local → Type 0
AreShapedLocals [] = Unit {0}
AreShapedLocals (v ∷ vs) = IsValueType v.value_type × AreShapedLocals vs

-- the faults of ranges
abbrev pub local_faults : List spec.LocalSignal → List Fault
local_faults ss = flat_map (λ (s : spec.LocalSignal). s.faults) ss

-- the next one begins here; all else is as before
pub record IsSkipped (old new : Signalling) (next : spec.Start) : Type 0 where
  pub signals : new.signals.items ≡ old.signals.items
  pub next_is : local_start new.next ≡ next
  pub fault : new.fault ≡ old.fault
  pub known : new.known ≡ old.known

-- these local signals more, wherever the next one begins
pub record AreAdded (old new : Signalling) (ss : List spec.LocalSignal) : Type 0 where
  pub signals : map placed_local new.signals.items ≡ map placed_local old.signals.items ++ map placed_local_of ss
  pub fault : new.fault ≡ better old.fault (least (local_faults ss))
  pub known : new.known ≡ (old.known && spec.are_known ss)

-- these local signals more
pub record IsSigned (old new : Signalling) (ss : List spec.LocalSignal) : Type 0 where
  pub signals : map placed_local new.signals.items ≡ map placed_local old.signals.items ++ map placed_local_of ss
  pub next : local_start new.next ≡ spec.behind_all (local_start old.next) ss
  pub fault : new.fault ≡ better old.fault (least (local_faults ss))
  pub known : new.known ≡ (old.known && spec.are_known ss)
