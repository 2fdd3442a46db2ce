use Rattle.std.proofs.Common.{◌≡◌, map, drop, string_bytes}
use Rattle.vs_job.specs.Lines as lines
use Rattle.vs_job.specs.Command.{line_of}
use Rattle.vs_job.proofs.words.read_words.Given as goal

abbrev pub invariant-loop-word : goal.invariant-loop-word
invariant-loop-word l = lines.read (line_of l.line) (map string_bytes (drop l.word-index l.words)) ≡ lines.read (lines.start l.fn.verb) (map string_bytes l.fn.words)
