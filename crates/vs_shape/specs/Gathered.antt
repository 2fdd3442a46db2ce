-- What a walk gathers: the bits that are read, or all bits of the signals that are named.
use Rattle.std.specs.Prelude.{ℕ, ◌+◌, Bool, true, false, if◌then◌else◌, List, [], map, Option, option_map}
use Rattle.vs_four.specs.Selects.{Part}
use Rattle.vs_design.specs.Expressions.{Signal, Source, Expression, Items}
use Rattle.vs_design.specs.Values.{bits_of_signal}
use Rattle.vs_design.specs.Statements.{Target, Statement, Arms}
use Rattle.vs_design.specs.Footprints.{source_bits, source_signals, addressed_bits, word_part_bits, read_bits, read_signals, target_bits, target_reads, target_signals, items_reads, items_signals, statement_bits, statement_reads, statement_signals, arms_bits, arms_reads, arms_signals, signals_bits}
use Rattle.vs_design.specs.Races.{blocking_bits, arms_blocking, nonblocking_bits, arms_nonblocking}
use Rattle.vs_shape.specs.declared.bodies.Walk.{Walk}
use Rattle.vs_shape.specs.declared.bodies.Walk.TheVariants as W

-- the bits at these places, the first place having this bit
abbrev pub bits_from : ℕ → List (Option ℕ) → List (Option ℕ)
bits_from first ps = map (λ p. option_map (λ n. first + n) p) ps

abbrev pub gathered_source : Bool → Source → Part → Expression → List ℕ
gathered_source true source part index = signals_bits (source_signals source)
gathered_source false source part index = source_bits source part index

abbrev pub gathered_word : Bool → Signal → Expression → List ℕ
gathered_word true signal index = bits_of_signal signal
gathered_word false signal index = addressed_bits signal index

abbrev pub gathered_word_part : Bool → Signal → Expression → Part → Expression → List ℕ
gathered_word_part true signal address part index = bits_of_signal signal
gathered_word_part false signal address part index = word_part_bits signal address part index

abbrev pub gathered : Bool → Expression → List ℕ
gathered true e = signals_bits (read_signals e)
gathered false e = read_bits e

abbrev pub gathered_items : Bool → Items → List ℕ
gathered_items true es = signals_bits (items_signals es)
gathered_items false es = items_reads es

abbrev pub gathered_target : Bool → Target → List ℕ
gathered_target true target = signals_bits (target_signals target)
gathered_target false target = target_reads target

-- what a walk over a statement gathers: the bits that it writes, or those of them by `=` or by `<=` alone, those that it reads, or all bits of the signals that it names in reading
abbrev pub walked_expression : Walk → Expression → List ℕ
walked_expression W.Writes e = []
walked_expression W.Blocking e = []
walked_expression W.Nonblocking e = []
walked_expression W.Reads e = read_bits e
walked_expression W.Signals e = signals_bits (read_signals e)

-- of the target of an assignment, by `=` or not
abbrev pub walked_target : Walk → Bool → Target → List ℕ
walked_target W.Writes blocking target = target_bits target
walked_target W.Blocking blocking target = if blocking then target_bits target else []
walked_target W.Nonblocking blocking target = if blocking then [] else target_bits target
walked_target W.Reads blocking target = target_reads target
walked_target W.Signals blocking target = signals_bits (target_signals target)

abbrev pub walked_items : Walk → Items → List ℕ
walked_items W.Writes es = []
walked_items W.Blocking es = []
walked_items W.Nonblocking es = []
walked_items W.Reads es = items_reads es
walked_items W.Signals es = signals_bits (items_signals es)

abbrev pub walked_statement : Walk → Statement → List ℕ
walked_statement W.Writes s = statement_bits s
walked_statement W.Blocking s = blocking_bits s
walked_statement W.Nonblocking s = nonblocking_bits s
walked_statement W.Reads s = statement_reads s
walked_statement W.Signals s = signals_bits (statement_signals s)

abbrev pub walked_arms : Walk → Arms → List ℕ
walked_arms W.Writes arms = arms_bits arms
walked_arms W.Blocking arms = arms_blocking arms
walked_arms W.Nonblocking arms = arms_nonblocking arms
walked_arms W.Reads arms = arms_reads arms
walked_arms W.Signals arms = signals_bits (arms_signals arms)
