-- What was read of the words, and a job, whose texts are words of the command line.
use Rattle.std.specs.Prelude.{ℕ, List, map, option_map}
use Rattle.std.specs.Borrow.{Bor}
use Rattle.vs_job.specs.declared.job.Job.{Job}
use Rattle.vs_job.specs.declared.words.Command.{Command}
use Rattle.vs_job.specs.declared.words.Line.{Line as Lent}
use Rattle.vs_job.specs.Job.{Paths, head_of, names_given}
use Rattle.vs_job.specs.Lines.{Line}

abbrev pub line_of : Lent → Line
line_of l = record {
  verb = l.verb;
  next = l.next;
  top = option_map (λ s. s.now) l.top;
  clock = option_map (λ s. s.now) l.clock;
  half = option_map (λ s. s.now) l.half;
  order = option_map (λ s. s.now) l.order;
  defines = map (λ s. s.now) l.defines.items;
  withs = map (λ s. s.now) l.withs.items;
  share = l.share;
  paths = map (λ s. s.now) l.paths.items;
}

abbrev pub job_of : Command → Job
job_of c = record {
  mode = c.mode;
  top = option_map (λ s. s.now) c.top;
  clocks = names_given (option_map (λ s. s.now) c.clock);
  half = c.half;
  share = c.share;
  head = head_of (map (λ s. s.now) c.defines.now);
  design = c.design.now;
  others = map (λ s. s.now) c.others.now;
  stimuli = map (λ s. s.now) c.stimuli.now;
}

-- a design and stimuli that are words
abbrev pub paths_of : (Bor (List ℕ) × Bor (List (Bor (List ℕ)))) → Paths
paths_of p = record { design = p.0.now; stimuli = map (λ s. s.now) p.1.now }
