use Rattle.std.proofs.Common.{◌++◌, refl, ◌∙◌}
use Rattle.vs_job.proofs.Equal.{bytes_eq-append}
use Rattle.vs_job.proofs.places.is_same.Goals as goal

pub returns-in-Waveform-Waveform : goal.returns-in-Waveform-Waveform
returns-in-Waveform-Waveform c = rw (c.in-Waveform-Waveform.is-0, c.in-Waveform-Waveform.is-1) (c.eq-in-Waveform-Waveform.ensures ∙ bytes_eq-append (c.in-Waveform-Waveform.a.now ++ c.args.added.now) c.in-Waveform-Waveform.a.now c.in-Waveform-Waveform.b.now c.args.added.now refl)
