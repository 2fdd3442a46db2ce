-- Two declarations of one signal, by the kinds of those that may be.
use Rattle.std.proofs.Common.{◌≡◌, Bool, true, false, not, ◌&&◌, Option, Some, None, refl, if◌then◌else◌}
use Rattle.vs_grammar.specs.Trees.{SignalKind}
use Rattle.vs_elaborated.specs.Declarations.{Sort, SignalOf, ParameterOf, FunctionOf, GenvarSort, IntegerSort, InstanceSort, has_addresses, are_kinds_of_one, are_sorts_of_one}
use Rattle.vs_scope.specs.Declares.{both_kinds, open_kind}

by_flags : (h g a b : Bool) (x y : SignalKind) → (not h && (not g && (not a && (not b && are_kinds_of_one x y)))) ≡ both_kinds (if not h && not a then Some x else None) (if not g && not b then Some y else None)
by_flags true g a b x y = refl
by_flags false true true b x y = refl
by_flags false true false b x y = refl
by_flags false false true b x y = refl
by_flags false false false true x y = refl
by_flags false false false false x y = refl

none_second : (o : Option SignalKind) → false ≡ both_kinds o None
none_second None = refl
none_second (Some a) = refl

pub sorts_by_kinds : (a b : Sort) → are_sorts_of_one a b ≡ both_kinds (open_kind a) (open_kind b)
sorts_by_kinds (SignalOf x) (SignalOf y) = by_flags x.header y.header (has_addresses x) (has_addresses y) x.kind y.kind
sorts_by_kinds (SignalOf x) (ParameterOf p) = none_second (open_kind (SignalOf x))
sorts_by_kinds (SignalOf x) (FunctionOf f) = none_second (open_kind (SignalOf x))
sorts_by_kinds (SignalOf x) GenvarSort = none_second (open_kind (SignalOf x))
sorts_by_kinds (SignalOf x) IntegerSort = none_second (open_kind (SignalOf x))
sorts_by_kinds (SignalOf x) InstanceSort = none_second (open_kind (SignalOf x))
sorts_by_kinds (ParameterOf p) b = refl
sorts_by_kinds (FunctionOf f) b = refl
sorts_by_kinds GenvarSort b = refl
sorts_by_kinds IntegerSort b = refl
sorts_by_kinds InstanceSort b = refl
