-- What is kept of a stimulus between calls.
use Rattle.std.specs.Prelude.{◌≡◌, ◌<◌, ◌≤◌, true, IsTrue}
use Rattle.vs_desk.specs.Places.{stimulus_place, waveform_place}
use Rattle.vs_stim.specs.Reading.{limits}
use Rattle.vs_stim.specs.declared.stimulus.Stimulus.TheInside.{Inside}
use Rattle.vs_stim.specs.Row.{IsRow, each_input, columns_in}
use Rattle.vs_stim.specs.Source.{IsSource}
use Rattle.vs_stim.specs.Known.{Known}

abbrev pub known : Inside → Known
known s = record {
  lane = s.lane;
  live = s.live;
  columns = columns_in s.row;
  count = s.count;
  line = s.line;
  vector = s.row.values.items;
  wanted = s.row.wants.values.items;
  at = record { number = s.source.number; start = s.source.start };
  pending = s.source.block;
}

pub record IsStimulus (s : Inside) : Type 0 where
  pub source : IsSource s.source
  pub place : s.source.place ≡ stimulus_place s.lane
  pub lane : stimulus_place s.lane < waveform_place 0
  pub row : IsRow s.row
  pub each : IsTrue (each_input s.row)
  pub count : s.count ≤ limits.vectors
  pub begins : s.live ≡ true → s.source.length ≡ 0
