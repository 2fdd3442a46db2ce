-- The outcomes of errors.
use Rattle.std.specs.Prelude.{ℕ, ◌<◌}
use Rattle.vs_desk.specs.Places.{stimulus_place, most_lanes}
use Rattle.vs_stim.specs.declared.error.StimError.{StimError}
use Rattle.vs_stim.specs.declared.error.StimError.TheVariants as E
use Rattle.vs_waves.specs.Puts.{wave_place}
use Rattle.vs_refusal.specs.declared.refusal.Refusal.TheVariants.{Bare, Lane, Line}
use Rattle.vs_refusal.specs.declared.names.BareName.TheVariants as bare
use Rattle.vs_refusal.specs.declared.names.LaneName.TheVariants as lane
use Rattle.vs_refusal.specs.declared.names.LineName.TheVariants as line
use Rattle.vs_setup.specs.declared.error.SetupError.{SetupError}
use Rattle.vs_setup.specs.declared.error.SetupError.TheVariants as S
use Rattle.vs_rounds.specs.declared.stop.Stop.{Stop}
use Rattle.vs_rounds.specs.declared.stop.Stop.TheVariants as R
use Rattle.vs_top.specs.declared.outcome.Outcome.{Outcome}
use Rattle.vs_top.specs.declared.outcome.Outcome.TheVariants.{Refused, ReadFault, WriteFault, Memory}

-- the stimulus of lane i can't be read on
abbrev pub stimulus_outcome : ℕ → StimError → Outcome
stimulus_outcome i E.BadHeader = Refused (Lane lane.BadHeader i)
stimulus_outcome i E.NoExpectation = Refused (Lane lane.NoExpectation i)
stimulus_outcome i (E.BadVector n) = Refused (Line line.BadVector i n)
stimulus_outcome i E.FirstUnknown = Refused (Lane lane.FirstUnknown i)
stimulus_outcome i (E.UnknownReset n) = Refused (Line line.UnknownReset i n)
stimulus_outcome i (E.UnknownSelect n) = Refused (Line line.UnknownSelect i n)
stimulus_outcome i E.NoVector = Refused (Lane lane.NoVector i)
stimulus_outcome i E.TooManyVectors = Refused (Lane lane.TooManyVectors i)
stimulus_outcome i E.StimulusTooLong = Refused (Lane lane.StimulusTooLong i)
stimulus_outcome i (E.LineTooLong n) = Refused (Line line.LineTooLong i n)
stimulus_outcome i E.ReadFault = ReadFault (stimulus_place i)
stimulus_outcome i E.Memory = Memory

-- a run can't begin
abbrev pub setup_outcome : SetupError → Outcome
setup_outcome S.TooLong = Refused (Bare bare.TooLong)
setup_outcome (S.Refused r) = Refused r
setup_outcome (S.Stimulus i error) = stimulus_outcome i error
setup_outcome (S.ReadFault place) = ReadFault place
setup_outcome S.Memory = Memory

-- a run stops in a round
abbrev pub stop_outcome : Stop → Outcome
stop_outcome (R.Refused i error) = stimulus_outcome i error
stop_outcome (R.ReadFault i) = ReadFault (stimulus_place i)
stop_outcome (R.WriteFault i) = WriteFault (wave_place i)

-- the lane of a set-up's error is one of those that there can be
abbrev pub IsSmallError : SetupError → Type 0
IsSmallError (S.Stimulus i error) = i < most_lanes
IsSmallError _ = Unit {0}
