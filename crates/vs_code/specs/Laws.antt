-- What holds of all calls.
use Rattle.std.specs.Prelude.{◌↔◌, ◌≤◌, List, [], ◌∷◌, ◌++◌, All}
use Rattle.vs_code.specs.Calls.{Call, State, IsCall, IsCalled, AreCalled, length_of, weight_of_calls}

-- calls after calls: the first ones lead to a state from which the others go on
abbrev pub SequenceIsBoth : Type 0
SequenceIsBoth =
    (first second : List Call) (before after : State)
    → AreCalled (first ++ second) before after ↔ ((middle : State) × AreCalled first before middle × AreCalled second middle after)

-- one call alone
abbrev pub OneIsCalled : Type 0
OneIsCalled = (call : Call) (before after : State) → AreCalled (call ∷ []) before after ↔ IsCalled call before after

-- no program makes more stores than its calls weigh
abbrev pub LengthIsWithinWeight : Type 0
LengthIsWithinWeight = (calls : List Call) → All IsCall calls → length_of calls ≤ weight_of_calls calls
