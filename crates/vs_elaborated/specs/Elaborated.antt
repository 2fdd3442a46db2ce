-- Elaboration of a text from its top: a design, or the first fault (IEEE 1364-2005, clause 12).
use Rattle.std.specs.Prelude.{ℕ, zero, suc, ◌+◌, ◌*◌, ◌&&◌, List, [], ◌∷◌, ◌++◌, map, flat_map, sum_by, length, if◌then◌else◌, nat_lt, Option, Some, None, Result, Ok, Err}
use Rattle.vs_design.specs.Expressions.{Signal, signal_length, At, Name as NameOf}
use Rattle.vs_design.specs.Statements.{Whole, Statement}
use Rattle.vs_design.specs.Designs.{InputPort, OutputPort, Process, Continuous, Always, Initial, Design}
use Rattle.vs_grammar.specs.Trees.{Name, Module, Source}
use Rattle.vs_const.specs.declared.faults.Fault.{Fault}
use Rattle.vs_const.specs.Faults.{fault, fault_if, least}
use Rattle.vs_const.specs.declared.rules.Rule.TheVariants.{NoTop, DuplicateModule, InstanceDepth, TooManyInstances, TooManyBits}
use Rattle.vs_elaborated.specs.Limits.{Limits, the_limits}
use Rattle.vs_elaborated.specs.Environments.{Declared, OfSignal, Entry, find_entry, named, no_env}
use Rattle.vs_elaborated.specs.Targets.{no_signal}
use Rattle.vs_elaborated.specs.Ports.{find_module, is_named}
use Rattle.vs_elaborated.specs.Pieces.{OfModule, Task, is_instance, Connection, IntoInput, FromOutput, ScopedBlock, Piece, Own, OfScopes, Initially, Instance, Within}
use Rattle.vs_elaborated.specs.Surveys.{Totals, no_totals, Survey, survey, scoped_signals, scoped_statement}
use Rattle.vs_elaborated.specs.Statements.{TypedStatement, typed_control}
use Rattle.vs_elaborated.specs.Functions.{LocalSignal}
use Rattle.vs_elaborated.specs.NamedBlocks.{named_blocks, clashes_within, named_scopes}

-- ---- designs one after the other

-- an initial process behind so many processes more
abbrev pub moved : ℕ → Initial → Initial
moved n i = record i { behind = n + i.behind }

-- what the first has comes first
abbrev pub both_designs : Design → Design → Design
both_designs a b =
    record { scopes = a.scopes ++ b.scopes; signals = a.signals ++ b.signals; processes = a.processes ++ b.processes; initials = a.initials ++ map (moved (length a.processes)) b.initials; functions = a.functions ++ b.functions }

-- processes alone
abbrev pub of_processes : List Process → Design
of_processes ps = record { scopes = []; signals = []; processes = ps; initials = []; functions = [] }

-- an initial process alone
abbrev pub of_initial : (place : ℕ) → Statement → Design
of_initial place statement = record { scopes = []; signals = []; processes = []; initials = record { place = place; behind = 0; statement = statement } ∷ []; functions = [] }

-- what follows, unless there was a fault
abbrev pub then_do : {A B : Type 0} → Result A Fault → (A → Result B Fault) → Result B Fault
then_do (Ok a) f = f a
then_do (Err e) f = Err e

-- the first fault, or what follows
abbrev pub unless_fault : {A : Type 0} → List Fault → (ℕ → Result A Fault) → Result A Fault
unless_fault fs f = elim (least fs) [ None ↦ f 0 | Some a ↦ Err a ]

-- ---- ports (12.3.9.2)

-- the signal that a port's name means in its module
abbrev pub entry_signal : Option Entry → Signal
entry_signal None = no_signal
entry_signal (Some e) = of_declared e.declared
  where
    of_declared : Declared → Signal
    of_declared (OfSignal s) = s.signal
    of_declared _ = no_signal

-- an assign from the outer expression to the inner net, or from the inner signal to the outer net
abbrev pub port_assign : (place : ℕ) → List Entry → Connection → Process
port_assign place inner (IntoInput name e) = Continuous place InputPort place (Whole (entry_signal (find_entry inner name))) e
port_assign place inner (FromOutput name target_place target) = Continuous place OutputPort target_place target (At place (NameOf (entry_signal (find_entry inner name))))

-- ---- scopes, each before those within it (12.1)

-- what was read: the names of the scope, all that it and the scopes within it have, and the counts then
pub record Read : Type 0 where
  pub entries : List Entry
  pub design : Design
  pub totals : Totals

-- all that pieces have, and the counts then
pub record ReadPieces : Type 0 where
  pub design : Design
  pub totals : Totals

-- an always block with named blocks that are scopes, behind all that was read: these scopes, their signals, and its process (9.8.2)
abbrev pub scoped_design : ScopedBlock → Totals → List LocalSignal → TypedStatement → Design
scoped_design b totals ss s =
    let c = typed_control b.block.control (named b.env) in
    record {
      scopes = named_scopes b.scope totals.scopes (named_blocks b.block.statement);
      signals = map (λ (x : LocalSignal). x.meaning.signal) ss;
      processes = Always b.block.place c.star c.events s.statement ∷ [];
      initials = [];
      functions = [];
    }

-- the first variable with whose bits there are more than the most
abbrev pub variables_over : (most total : ℕ) → List LocalSignal → List Fault
variables_over most total [] = []
variables_over most total (s ∷ ss) =
    let sum = total + (if s.meaning.known then signal_length s.meaning.signal else 0) in
    if nat_lt most sum then fault TooManyBits s.place else variables_over most sum ss

-- the counts behind it
abbrev pub scoped_totals : ScopedBlock → Totals → List LocalSignal → TypedStatement → Totals
scoped_totals b totals ss s =
    record totals {
      scopes = totals.scopes + length (named_blocks b.block.statement);
      signals = totals.signals + length ss;
      bits = totals.bits + sum_by (λ (x : LocalSignal). signal_length x.meaning.signal) ss;
      loops = record totals.loops { copies = totals.loops.copies + s.copies };
    }

-- its faults, but for those of its event control and of the integers that head its loops
abbrev pub scoped_faults : Limits → ScopedBlock → Totals → List Fault
scoped_faults limits b totals =
    let ss = scoped_signals b totals in
    flat_map clashes_within (named_blocks b.block.statement) ++ (flat_map (λ (x : LocalSignal). x.faults) ss ++ ((scoped_statement limits b totals).faults ++ variables_over limits.bits totals.bits ss))

abbrev pub read_scoped : Limits → ScopedBlock → Totals → Result ReadPieces Fault
read_scoped limits b totals =
    let ss = scoped_signals b totals in
    let s = scoped_statement limits b totals in
    unless_fault (scoped_faults limits b totals) λ u. Ok (record { design = scoped_design b totals ss s; totals = scoped_totals b totals ss s })

-- one piece; `read` reads a scope
abbrev pub read_piece : Limits → (Task → Totals → Result Read Fault) → Piece → Totals → Result ReadPieces Fault
read_piece limits read (Own p) totals = Ok (record { design = of_processes (p ∷ []); totals = totals })
read_piece limits read (OfScopes b) totals = read_scoped limits b totals
read_piece limits read (Initially place statement) totals = Ok (record { design = of_initial place statement; totals = totals })
read_piece limits read (Instance connections task) totals =
    then_do (read task totals) λ r. Ok (record { design = both_designs (of_processes (map (port_assign task.place r.entries) connections)) r.design; totals = r.totals })
read_piece limits read (Within task) totals = then_do (read task totals) λ r. Ok (record { design = r.design; totals = r.totals })

-- the pieces in text order
abbrev pub read_pieces : Limits → (Task → Totals → Result Read Fault) → List Piece → Totals → Result ReadPieces Fault
read_pieces limits read [] totals = Ok (record { design = of_processes []; totals = totals })
read_pieces limits read (p ∷ ps) totals =
    then_do (read_piece limits read p totals) λ a. then_do (read_pieces limits read ps a.totals) λ b. Ok (record { design = both_designs a.design b.design; totals = b.totals })

-- an instance more; its depth and its number come before anything in it
abbrev pub counted : Task → Totals → Totals
counted t totals = if is_instance t.contents then record totals { instances = totals.instances + 1 } else totals

-- an instance too deep, or one too many
abbrev pub limit_faults : Limits → Task → Totals → List Fault
limit_faults limits t totals = fault_if (is_instance t.contents && nat_lt limits.depth t.depth) InstanceDepth t.place ++ fault_if (is_instance t.contents && nat_lt limits.instances totals.instances) TooManyInstances t.place

-- a scope with its signals, before all within it
abbrev pub scope_design : Task → Survey → Design → Design
scope_design t s inner = both_designs (record { scopes = record { name = t.name; parent = t.parent; instance = is_instance t.contents } ∷ []; signals = s.signals; processes = []; initials = []; functions = s.functions }) inner

-- a scope, and then those within it in text order; `left` bounds how deep scopes stand within one another
abbrev pub read_scope : (left : ℕ) → Limits → Source → Task → Totals → Result Read Fault
read_scope zero limits source t totals = Err (record { rule = InstanceDepth; place = t.place })
read_scope (suc left) limits source t totals =
    unless_fault (limit_faults limits t (counted t totals)) λ u.
    let s = survey limits source t (counted t totals) in
    unless_fault s.faults λ v.
    then_do (read_pieces limits (read_scope left limits source) s.pieces s.totals) λ r. Ok (record { entries = s.entries; design = scope_design t s r.design; totals = r.totals })

-- ---- the whole

-- each module after the first of its name; `seen` came before
abbrev pub repeated_modules : List Name → List Module → List Fault
repeated_modules seen [] = []
repeated_modules seen (m ∷ ms) = fault_if (is_named m.name.bytes seen) DuplicateModule m.name.place ++ repeated_modules (m.name ∷ seen) ms

-- the top is an instance of its module, without overrides
abbrev pub top_task : Module → Task
top_task m = record { name = m.name.bytes; parent = None; contents = OfModule m []; depth = 1; place = 0; env = no_env }

-- each instance has at most 200 blocks around the next one, and there is one instance too many
abbrev pub scope_depth : Limits → ℕ
scope_depth limits = suc (limits.depth * 201)

-- the design of a top, if there is one
abbrev pub elaborated_top : Limits → Source → Option Module → Result Design Fault
elaborated_top limits source None = Err (record { rule = NoTop; place = 0 })
elaborated_top limits source (Some m) = then_do (read_scope (scope_depth limits) limits source (top_task m) no_totals) λ r. Ok r.design

-- no module is declared twice, and then the top is read
abbrev pub elaborated_within : Limits → Source → List ℕ → Result Design Fault
elaborated_within limits source top = unless_fault (repeated_modules [] source.modules) λ u. elaborated_top limits source (find_module source top)

-- the design of a text's tree from a top, or the first rule that is broken, with its place
abbrev pub elaborated : Source → List ℕ → Result Design Fault
elaborated source top = elaborated_within the_limits source top
