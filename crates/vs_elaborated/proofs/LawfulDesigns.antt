-- Every design that elaboration gives of a shaped source is lawful.
use Rattle.std.proofs.Common.{◌≡◌, ℕ, zero, suc, ◌+◌, ◌≤◌, ◌<◌, Bool, true, false, not, ◌&&◌, ◌||◌, ◌==◌, List, [], ◌∷◌, map, length, Option, Some, None, is_none, if◌then◌else◌, nat_lt, refl, sym, ap, ◌∙◌, subst, arith, eq-eqb}
use Rattle.std.specs.Prelude.{Result, Ok, Err, fold}
use Rattle.std.specs.List.{list_all}
use Rattle.std.proofs.lemmas.Bool.{lt-ltb}
use Rattle.vs_design.specs.Expressions.{Signal, signal_length}
use Rattle.vs_design.specs.Statements.{Function}
use Rattle.vs_design.specs.Designs.{Process, Initial, Design, bit_count}
use Rattle.vs_design.specs.Elaborated.{is_signal, is_lawful_range, is_declared, is_formed_process, is_formed_initial, is_formed_function, is_lawful_memory, has_clocked_words, IsLawfulDesign}
use Rattle.vs_grammar.specs.Trees.{Module, Source}
use Rattle.vs_grammar.specs.Shapes.{Each, OneOrMore, IsModule, IsShaped}
use Rattle.vs_const.specs.declared.faults.Fault.{Fault}
use Rattle.vs_const.specs.Faults.{least}
use Rattle.vs_const.proofs.Formed.{both}
use Rattle.vs_elaborated.specs.Limits.{Limits, the_limits}
use Rattle.vs_elaborated.specs.Environments.{Entry}
use Rattle.vs_elaborated.specs.Ports.{find_module, find_in}
use Rattle.vs_elaborated.specs.Pieces.{Task, Piece, Own, OfScopes, Initially, Instance, Within, Connection, IntoInput, FromOutput, is_instance}
use Rattle.vs_elaborated.specs.Functions.{LocalSignal}
use Rattle.vs_elaborated.specs.Surveys.{declarations_of, Totals, no_totals, scoped_signals, survey}
use Rattle.vs_elaborated.specs.Elaborated.{moved, both_designs, of_processes, then_do, port_assign, Read, ReadPieces, scoped_faults, read_piece, read_pieces, counted, limit_faults, scope_design, read_scope, repeated_modules, top_task, scope_depth, elaborated_top, elaborated_within, elaborated}
use Rattle.vs_elaborated.specs.Sound.{IsFineConnection, IsSoundTask, IsFinePiece, AreFinePieces, AreModules}
use Rattle.vs_elaborated.proofs.ScopedBlocks.{IsFineVariable, lawful_memory, scoped_fine}
use Rattle.vs_elaborated.proofs.NumberedSignals.{local_signals, scoped_read, own_part, bits_of_all, AreBelow, GoodRead, GoodPieces, good_pieces, good_scope, good_survey, GoodDesign, elaborated_numbered, unless}
use Rattle.vs_elaborated.proofs.NestedScopes.{IsChild, AreChildren, survey_children, counted_scopes, NestedDesign, elaborated_nested}
use Rattle.vs_elaborated.proofs.FewProcesses.{least_none, if_none, FewDesign, elaborated_few}
use Rattle.vs_elaborated.proofs.EachOf.{each_append, each_split}
use Rattle.vs_elaborated.proofs.BehindProcesses.{AreBehind, both_behind}
use Rattle.vs_elaborated.proofs.SurveyNames.{survey_functions, survey_names}
use Rattle.vs_elaborated.proofs.FinePieces.{found_shaped, survey_pieces}
use Rattle.vs_elaborated.proofs.PortNames.{IsDirected, IsDirectedPiece, AreDirectedPieces, survey_directed}
use Rattle.vs_elaborated.proofs.PortsFormed.{IsDeclaredSignal, AreFineSignals, survey_signals, port_formed}
use Rattle.vs_elaborated.proofs.InDesign.{AreIn, in_design}

-- a process that writes words of memories only if it is clocked
abbrev pub IsGoodProcess : Design → Process → Type 0
IsGoodProcess d p = (is_formed_process d p ≡ true) × (has_clocked_words p ≡ true)

abbrev pub AreFormed : Design → List Process → Type 0
AreFormed d ps = Each (IsGoodProcess d) ps

-- initial processes that are formed, wherever they stand
abbrev pub AreFormedInitials : Design → List Initial → Type 0
AreFormedInitials d is = Each (λ (i : Initial). is_formed_initial d i ≡ true) is

moved_formed : (d : Design) (n : ℕ) (is : List Initial) → AreFormedInitials d is → AreFormedInitials d (map (moved n) is)
moved_formed d n [] h = tt
moved_formed d n (i ∷ is) h = (h.0, moved_formed d n is h.1)

both_initials : (d a b : Design) → AreFormedInitials d a.initials → AreFormedInitials d b.initials → AreFormedInitials d (both_designs a b).initials
both_initials d a b h k = each_append (λ (i : Initial). is_formed_initial d i ≡ true) a.initials (map (moved (length a.processes)) b.initials) h (moved_formed d (length a.processes) b.initials k)

-- functions that are formed
abbrev pub AreFormedFunctions : Design → List Function → Type 0
AreFormedFunctions d fs = Each (λ (f : Function). is_formed_function d f ≡ true) fs

-- a signal of lawful range, an input only where it is a net of the top, a memory only where it is a variable of few words
abbrev pub IsFineSignal : Signal → Type 0
IsFineSignal s = (is_lawful_range s.range ≡ true) × (s.input ≡ true → (s.net ≡ true) × (s.scope ≡ 0)) × (is_lawful_memory s ≡ true)

pub record FineRead (d : Design) (limits : Limits) (k : Task) (r : Read) : Type 0 where
  pub formed : AreFormed d r.design.processes
  pub initials : AreFormedInitials d r.design.initials
  pub behind : AreBehind r.design
  pub declared : Each IsFineSignal r.design.signals
  pub functions : AreFormedFunctions d r.design.functions
  pub bits : r.totals.bits ≤ limits.bits
  pub ports : is_none k.parent ≡ false → (place : ℕ) (c : Connection) → IsFineConnection d c → IsDirected (declarations_of k.contents) c → IsGoodProcess d (port_assign place r.entries c)

pub record FineParts (d : Design) (limits : Limits) (r : ReadPieces) : Type 0 where
  pub formed : AreFormed d r.design.processes
  pub initials : AreFormedInitials d r.design.initials
  pub behind : AreBehind r.design
  pub declared : Each IsFineSignal r.design.signals
  pub functions : AreFormedFunctions d r.design.functions
  pub bits : r.totals.bits ≤ limits.bits

-- where the signals and the scopes that were read are those of the design
abbrev pub ReadIsFine : Design → Limits → Task → Result Read Fault → Type 0
ReadIsFine d limits k (Ok r) = AreIn d r.design.signals → r.totals.scopes ≤ length d.scopes → FineRead d limits k r
ReadIsFine d limits k (Err e) = Unit {0}

abbrev pub PartsAreFine : Design → Limits → Result ReadPieces Fault → Type 0
PartsAreFine d limits (Ok r) = AreIn d r.design.signals → r.totals.scopes ≤ length d.scopes → FineParts d limits r
PartsAreFine d limits (Err e) = Unit {0}

abbrev pub ReadsFine : Design → Limits → (Task → Totals → Result Read Fault) → Type 0
ReadsFine d limits read = (k : Task) (t : Totals) → IsSoundTask d k → (is_none k.parent ≡ true → t.scopes ≡ 0) → t.bits ≤ limits.bits → ReadIsFine d limits k (read k t)

ports_formed : (d : Design) (place : ℕ) (k : Task) (limits : Limits) (r : Read) → FineRead d limits k r → is_none k.parent ≡ false → (cs : List Connection) → Each (IsFineConnection d) cs → Each (IsDirected (declarations_of k.contents)) cs
    → AreFormed d (map (port_assign place r.entries) cs)
ports_formed d place k limits r f top [] x y = tt
ports_formed d place k limits r f top (c ∷ cs) x y = (f.ports top place c x.0 y.0, ports_formed d place k limits r f top cs x.1 y.1)

has_parent : (o : Option ℕ) (m : ℕ) → o ≡ Some m → is_none o ≡ false
has_parent o m h = ap is_none h

never_top : (o : Option ℕ) (m n : ℕ) → o ≡ Some m → is_none o ≡ true → n ≡ 0
never_top o m n h k = absurd (no (sym k ∙ has_parent o m h))
  where
    no : true ≡ false → ⊥
    no e = cc

-- the variables of named blocks are no inputs and no memories
fine_variables : (ss : List LocalSignal) → Each IsFineVariable ss → Each IsFineSignal (local_signals ss)
fine_variables [] h = tt
fine_variables (s ∷ ss) h = ((h.0.lawful, λ e. absurd (no (sym h.0.signal_input ∙ e)), lawful_memory s.meaning.signal h.0.words), fine_variables ss h.1)
  where
    no : false ≡ true → ⊥
    no e = cc

piece_fine : (d : Design) (limits : Limits) (read : Task → Totals → Result Read Fault) → ReadsFine d limits read → (m : ℕ) (p : Piece) → IsFinePiece d p → IsDirectedPiece p → IsChild m p → (t : Totals) → t.bits ≤ limits.bits → PartsAreFine d limits (read_piece limits read p t)
piece_fine d limits read h m (Own p) f g c t b = λ i l. record { formed = (f, tt); initials = tt; behind = refl; declared = tt; functions = tt; bits = b }
piece_fine d limits read h m (OfScopes s) f g c t b = if_none (PartsAreFine d limits) (λ e. tt) (least (scoped_faults limits s t)) (λ n. Ok (scoped_read limits s t)) λ none n i l.
    let u = scoped_fine d limits s t f b i (least_none (scoped_faults limits s t) none) in
    record { formed = ((u.formed, u.clocked), tt); initials = tt; behind = refl; declared = fine_variables (scoped_signals s t) u.variables; functions = tt; bits = u.bits }
piece_fine d limits read h m (Initially place statement) f g c t b = λ i l. record { formed = tt; initials = (f, tt); behind = refl; declared = tt; functions = tt; bits = b }
piece_fine d limits read h m (Instance connections task) f g c t b = of (read task t) (h task t f.1 (never_top task.parent m t.scopes c) b)
  where
    of : (r : Result Read Fault) → ReadIsFine d limits task r → PartsAreFine d limits (then_do r λ s. Ok (record { design = both_designs (of_processes (map (port_assign task.place s.entries) connections)) s.design; totals = s.totals }))
    of (Err e) q = tt
    of (Ok s) q = λ i l.
        let u = q i l in
        let ports = of_processes (map (port_assign task.place s.entries) connections) in
        record {
          initials = both_initials d ports s.design tt u.initials;
          behind = both_behind ports s.design refl u.behind;
          formed = each_append (IsGoodProcess d) (map (port_assign task.place s.entries) connections) s.design.processes (ports_formed d task.place task limits s u (has_parent task.parent m c) connections f.0 g) u.formed;
          declared = u.declared;
          functions = u.functions;
          bits = u.bits;
        }
piece_fine d limits read h m (Within task) f g c t b = of (read task t) (h task t f (never_top task.parent m t.scopes c) b)
  where
    of : (r : Result Read Fault) → ReadIsFine d limits task r → PartsAreFine d limits (then_do r λ s. Ok (record { design = s.design; totals = s.totals }))
    of (Err e) q = tt
    of (Ok s) q = λ i l. let u = q i l in record { formed = u.formed; initials = u.initials; behind = u.behind; declared = u.declared; functions = u.functions; bits = u.bits }

pieces_fine : (d : Design) (limits : Limits) (read : Task → Totals → Result Read Fault) → ((k : Task) (t : Totals) → GoodRead t (read k t)) → ReadsFine d limits read → (m : ℕ) (ps : List Piece) → AreFinePieces d ps → AreDirectedPieces ps → AreChildren m ps → (t : Totals) → t.bits ≤ limits.bits
    → PartsAreFine d limits (read_pieces limits read ps t)
pieces_fine d limits read good h m [] f g c t b = λ i l. record { formed = tt; initials = tt; behind = refl; declared = tt; functions = tt; bits = b }
pieces_fine d limits read good h m (p ∷ ps) f g c t b =
    of (read_piece limits read p t) (piece_fine d limits read h m p f.0 g.0 c.0 t b) (λ u l. pieces_fine d limits read good h m ps f.1 g.1 c.1 u l)
  where
    of : (r : Result ReadPieces Fault) → PartsAreFine d limits r → ((u : Totals) → u.bits ≤ limits.bits → PartsAreFine d limits (read_pieces limits read ps u))
        → PartsAreFine d limits (then_do r λ a. then_do (read_pieces limits read ps a.totals) λ b. Ok (record { design = both_designs a.design b.design; totals = b.totals }))
    of (Err e) q k = tt
    of (Ok a) q k = rest (read_pieces limits read ps a.totals) (good_pieces limits read good ps a.totals) (λ l. k a.totals l)
      where
        both_fine : (b : ReadPieces) → FineParts d limits a → FineParts d limits b → FineParts d limits (record { design = both_designs a.design b.design; totals = b.totals })
        both_fine b u v = record {
          formed = each_append (IsGoodProcess d) a.design.processes b.design.processes u.formed v.formed;
          initials = both_initials d a.design b.design u.initials v.initials;
          behind = both_behind a.design b.design u.behind v.behind;
          declared = each_append IsFineSignal a.design.signals b.design.signals u.declared v.declared;
          functions = each_append (λ (f : Function). is_formed_function d f ≡ true) a.design.functions b.design.functions u.functions v.functions;
          bits = v.bits;
        }

        rest : (r : Result ReadPieces Fault) → GoodPieces a.totals r → (a.totals.bits ≤ limits.bits → PartsAreFine d limits r) → PartsAreFine d limits (then_do r λ b. Ok (record { design = both_designs a.design b.design; totals = b.totals }))
        rest (Err e) n l = tt
        rest (Ok b) n l = λ i o.
            let s = each_split (λ (s : Signal). is_signal d s ≡ true) a.design.signals b.design.signals i in
            let u = q s.0 (omega (arith, n.scopes, o)) in
            both_fine b u (l u.bits s.1 o)

counted_bits : (k : Task) (t : Totals) → (counted k t).bits ≡ t.bits
counted_bits k t = of (is_instance k.contents)
  where
    of : (b : Bool) → (if b then record t { instances = t.instances + 1 } else t).bits ≡ t.bits
    of true = refl
    of false = refl

fine_signals : (top : Bool) (scope : ℕ) → (top ≡ true → scope ≡ 0) → (ss : List Signal) → Each (IsDeclaredSignal top scope) ss → Each IsFineSignal ss
fine_signals top scope h [] x = tt
fine_signals top scope h (s ∷ ss) x = ((x.0.0, λ i. let k = x.0.1 i in (k.0, x.0.2 ∙ h k.1), x.0.3), fine_signals top scope h ss x.1)

-- a port's assign is no block
port_clocked : (place : ℕ) (es : List Entry) (c : Connection) → has_clocked_words (port_assign place es c) ≡ true
port_clocked place es (IntoInput name e) = refl
port_clocked place es (FromOutput name target_place target) = refl

pub scope_fine : (d : Design) (left : ℕ) (limits : Limits) (source : Source) → AreModules source.modules → ReadsFine d limits (read_scope left limits source)
scope_fine d zero limits source x k t s top b = tt
scope_fine d (suc left) limits source x k t s top b =
    unless (ReadIsFine d limits k) (λ e. tt) (least (limit_faults limits k (counted k t))) _ λ n.
    if_none (ReadIsFine d limits k) (λ e. tt) (least (survey limits source k (counted k t)).faults) _ λ none i.
    let y = survey limits source k (counted k t) in
    let h = least_none y.faults none in
    let c = subst (λ b. b ≤ limits.bits) (sym (counted_bits k t)) b in
    let g = survey_signals d limits source k (counted k t) s c h in
    let good = good_survey limits source k (counted k t) in
    of (read_pieces limits (read_scope left limits source) y.pieces y.totals) (good_pieces limits (read_scope left limits source) (good_scope left limits source) y.pieces y.totals) h g
    (λ there own.
    pieces_fine d limits (read_scope left limits source) (good_scope left limits source) (scope_fine d left limits source x) (counted k t).scopes y.pieces (survey_pieces d limits source k (counted k t) x s there own h)
    (survey_directed limits source k (counted k t)) (survey_children limits source k (counted k t)) y.totals (omega (arith, g.bits, good.bits)))
  where
    of : (r : Result ReadPieces Fault) → GoodPieces (survey limits source k (counted k t)).totals r → (survey limits source k (counted k t)).faults ≡ [] → AreFineSignals d limits source k (counted k t)
        → ((counted k t).scopes < length d.scopes → AreIn d (survey limits source k (counted k t)).signals → PartsAreFine d limits r)
        → ReadIsFine d limits k (then_do r λ q. Ok (record { entries = (survey limits source k (counted k t)).entries; design = scope_design k (survey limits source k (counted k t)) q.design; totals = q.totals }))
    of (Err e) n h g f = tt
    of (Ok q) n h g f = λ i o.
        let y = survey limits source k (counted k t) in
        let w = each_split (λ (s : Signal). is_signal d s ≡ true) y.signals q.design.signals i in
        let there : (counted k t).scopes < length d.scopes = omega (arith, n.scopes, o) in
        let u = f there w.0 w.1 o in
        let whole = survey_functions d limits source k (counted k t) s.frames s.overrides s.shaped there w.0 h in
        record {
          formed = u.formed;
          initials = moved_formed d 0 q.design.initials u.initials;
          behind = both_behind (own_part k y) q.design refl u.behind;
          declared = each_append IsFineSignal y.signals q.design.signals (fine_signals (is_none k.parent) (counted k t).scopes (λ e. counted_scopes k t ∙ top e) y.signals g.declared) u.declared;
          functions = each_append (λ (f : Function). is_formed_function d f ≡ true) y.functions q.design.functions whole.functions u.functions;
          bits = u.bits;
          ports = λ e place c g l. (port_formed d limits source k (counted k t) s.shaped (survey_names d limits source k (counted k t) s.frames s.overrides s.shaped there w.0 h) h e place c g l, port_clocked place y.entries c);
        }

-- ---- the whole

all_true : {A : Type 0} (f : A → Bool) (xs : List A) → Each (λ (a : A). f a ≡ true) xs → list_all f xs ≡ true
all_true f [] h = refl
all_true f (x ∷ xs) h = both (f x) (list_all f xs) h.0 (all_true f xs h.1)

declared_one : (d : Design) (s : Signal) → s.scope < length d.scopes → IsFineSignal s → is_declared d s ≡ true
declared_one d s b f = three (nat_lt s.scope (length d.scopes)) (is_lawful_range s.range) (not s.input || (s.net && (s.scope == 0))) (lt-ltb s.scope (length d.scopes) b) f.0 (input s.input refl)
  where
    three : (a b c : Bool) → a ≡ true → b ≡ true → c ≡ true → (a && b && c) ≡ true
    three true true true h k l = refl
    three true true false h k l = cc
    three true false c h k l = cc
    three false b c h k l = cc

    input : (c : Bool) → s.input ≡ c → (not c || (s.net && (s.scope == 0))) ≡ true
    input false e = refl
    input true e = let g = f.1 e in both s.net (s.scope == 0) g.0 (eq-eqb s.scope 0 g.1)

declared_all : (d : Design) (ss : List Signal) → AreBelow (length d.scopes) ss → Each IsFineSignal ss → Each (λ (s : Signal). is_declared d s ≡ true) ss
declared_all d [] b f = tt
declared_all d (s ∷ ss) b f = (declared_one d s b.0 f.0, declared_all d ss b.1 f.1)

memories_all : (ss : List Signal) → Each IsFineSignal ss → Each (λ (s : Signal). is_lawful_memory s ≡ true) ss
memories_all [] f = tt
memories_all (s ∷ ss) f = (f.0.2, memories_all ss f.1)

formed_all : (d : Design) (ps : List Process) → AreFormed d ps → Each (λ (p : Process). is_formed_process d p ≡ true) ps
formed_all d [] f = tt
formed_all d (p ∷ ps) f = (f.0.0, formed_all d ps f.1)

clocked_all : (d : Design) (ps : List Process) → AreFormed d ps → Each (λ (p : Process). has_clocked_words p ≡ true) ps
clocked_all d [] f = tt
clocked_all d (p ∷ ps) f = (f.0.1, clocked_all d ps f.1)

sum_from : (k : ℕ) (ss : List Signal) → fold (λ (n : ℕ) (s : Signal). n + signal_length s) k ss ≡ k + bits_of_all ss
sum_from k [] = omega arith
sum_from k (s ∷ ss) = sum_from (k + signal_length s) ss ∙ omega arith

abbrev pub IsFineDesign : Limits → Design → Type 0
IsFineDesign limits d = AreFormed d d.processes × Each IsFineSignal d.signals × (bit_count d ≤ limits.bits) × AreFormedFunctions d d.functions × AreFormedInitials d d.initials × AreBehind d

abbrev pub DesignIsFine : Limits → Result Design Fault → Type 0
DesignIsFine limits (Ok d) = IsFineDesign limits d
DesignIsFine limits (Err e) = Unit {0}

modules_each : (ms : List Module) → OneOrMore IsModule ms → AreModules ms
modules_each [] x = absurd x
modules_each (m ∷ ms) x = x

pub elaborated_fine : (limits : Limits) (source : Source) (top : List ℕ) → IsShaped source → DesignIsFine limits (elaborated_within limits source top)
elaborated_fine limits source top x = unless (DesignIsFine limits) (λ e. tt) (least (repeated_modules [] source.modules)) (λ u. elaborated_top limits source (find_module source top)) (λ u. found (find_module source top) refl)
  where
    modules : AreModules source.modules
    modules = modules_each source.modules x.modules

    sound : (d : Design) (m : Module) → IsModule m → IsSoundTask d (top_task m)
    sound d m y = record { frames = tt; overrides = tt; shaped = y }

    read : (m : Module) → (r : Result Read Fault) → GoodRead no_totals r → ((d : Design) → ReadIsFine d limits (top_task m) r) → DesignIsFine limits (then_do r λ s. Ok s.design)
    read m (Err e) g f = tt
    read m (Ok s) g f = let u = f s.design (in_design s.design g.numbered) (omega (arith, g.scopes)) in (u.formed, u.declared, subst (λ n. n ≤ limits.bits) (g.bits ∙ sym (sum_from 0 s.design.signals)) u.bits, u.functions, u.initials, u.behind)

    found : (o : Option Module) → find_in source.modules top ≡ o → DesignIsFine limits (elaborated_top limits source o)
    found None e = tt
    found (Some m) e = read m (read_scope (scope_depth limits) limits source (top_task m) no_totals) (good_scope (scope_depth limits) limits source (top_task m) no_totals)
        (λ d. scope_fine d (scope_depth limits) limits source modules (top_task m) no_totals (sound d m (found_shaped source.modules top m modules e)) (λ i. refl) (omega arith))

abbrev pub LawfulResult : Result Design Fault → Type 0
LawfulResult (Ok d) = IsLawfulDesign d
LawfulResult (Err e) = Unit {0}

lawful_result : (r : Result Design Fault) → GoodDesign r → NestedDesign r → FewDesign the_limits r → DesignIsFine the_limits r → LawfulResult r
lawful_result (Err e) g n f x = tt
lawful_result (Ok d) g n f x = record {
  scopes = n;
  numbered = g.numbered;
  bits_numbered = g.bits_numbered;
  declared = all_true (is_declared d) d.signals (declared_all d d.signals g.below x.1);
  memories = all_true is_lawful_memory d.signals (memories_all d.signals x.1);
  formed = all_true (is_formed_process d) d.processes (formed_all d d.processes x.0);
  initials = all_true (is_formed_initial d) d.initials x.4;
  behind = x.5;
  functions = all_true (is_formed_function d) d.functions x.3;
  clocked_words = all_true has_clocked_words d.processes (clocked_all d d.processes x.0);
  few_bits = x.2;
  few_processes = f;
}

-- every design that a shaped source elaborates to
pub elaborated_lawful : (source : Source) (top : List ℕ) (d : Design) → IsShaped source → elaborated source top ≡ Ok d → IsLawfulDesign d
elaborated_lawful source top d x h =
    subst LawfulResult h (lawful_result (elaborated source top) (elaborated_numbered the_limits source top) (elaborated_nested the_limits source top) (elaborated_few the_limits source top) (elaborated_fine the_limits source top x))
