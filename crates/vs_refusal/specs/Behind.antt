-- Refusals of a text that stands behind another one.
use Rattle.std.specs.Prelude.{ℕ, ◌-◌}
use Rattle.vs_refusal.specs.declared.refusal.Refusal.{Refusal}
use Rattle.vs_refusal.specs.declared.refusal.Refusal.TheVariants.{Bare, SamePath, At, TooLarge, Latch, Sensitivity, TwoDrivers, Process, Cycle, Race, Lane, Line}

-- The refusal, its place in the text counted from byte n on, and 0 where it is before that byte. What counts anything else is kept: paths, sizes,
-- processes, bits, signals, lanes and lines.
abbrev pub behind : ℕ → Refusal → Refusal
behind n (Bare kind) = Bare kind
behind n (SamePath first second) = SamePath first second
behind n (At kind at) = At kind (at - n)
behind n (TooLarge size) = TooLarge size
behind n (Latch process bit at) = Latch process bit (at - n)
behind n (Sensitivity process signal at) = Sensitivity process signal (at - n)
behind n (TwoDrivers bit first second at) = TwoDrivers bit first second (at - n)
behind n (Process kind process at) = Process kind process (at - n)
behind n (Cycle processes at) = Cycle processes (at - n)
behind n (Race process bit at) = Race process bit (at - n)
behind n (Lane kind lane) = Lane kind lane
behind n (Line kind lane row) = Line kind lane row
