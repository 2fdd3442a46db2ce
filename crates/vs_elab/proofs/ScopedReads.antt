-- An always block of whose named blocks some are scopes is built where it breaks no rule, and has been read then.
use Rattle.std.proofs.Common.{◌≡◌, ℕ, ◌+◌, ◌<◌, ◌≤◌, ◌^◌, false, List, [], ◌∷◌, ◌++◌, length, length-append, map, flat_map, Some, None, refl, sym, ap, ◌∙◌, subst, arith}
use mathlib.Core.Path.{fun_ext}
use Rattle.std.specs.Prelude.{sum_by}
use Rattle.std.proofs.lemmas.List.{append-nil, length-map}
use Rattle.std.proofs.lemmas.List.Sums.{sum_by-append}
use Rattle.vs_design.specs.Expressions.{Signal, signal_length}
use Rattle.vs_design.specs.Statements.{Function}
use Rattle.vs_design.specs.Designs.{Scope, Process, Initial, Design, bit_count}
use Rattle.vs_grammar.specs.Trees as tree
use Rattle.vs_grammar.specs.Depths.{statement_depth}
use Rattle.vs_grammar.specs.Spelled.{depth_limit}
use Rattle.vs_const.specs.declared.faults.Fault.{Fault}
use Rattle.vs_const.specs.Faults.{least}
use Rattle.vs_const.specs.Meanings.{Meaning, Find}
use Rattle.vs_const.proofs.Formed.{both_nil}
use Rattle.vs_elaborated.specs.Limits.{the_limits}
use Rattle.vs_elaborated.specs.Environments.{Env, named as names_of}
use Rattle.vs_elaborated.specs.Statements.{TypedStatement}
use Rattle.vs_elaborated.specs.Functions.{LocalSignal, meaning_or, signal_at}
use Rattle.vs_elaborated.specs.NamedBlocks.{NamedBlock, named_blocks, named_scope, named_scopes, named_signals, clashes_within}
use Rattle.vs_elaborated.specs.Numbers.{NamesAreNumbered}
use Rattle.vs_elaborated.specs.Pieces.{ScopedBlock}
use Rattle.vs_elaborated.specs.Surveys.{Loops, Totals, scoped_signals, scoped_statement}
use Rattle.vs_elaborated.specs.Elaborated.{both_designs, scoped_design, scoped_faults, scoped_totals, variables_over}
use Rattle.vs_elaborated.specs.Sound.{AreSoundFrames, NamesAreSound}
use Rattle.vs_elaborated.specs.Scoped.{VariablesAreCounted, VariablesAreFew, VariablesAreSound, variables_in}
use Rattle.vs_build.specs.Drafts.{Draft, and_process, home}
use Rattle.vs_build.specs.Executable.{IsRunnable, block_process}
use Rattle.vs_build.specs.Growth.{draft}
use Rattle.vs_build.specs.Items.{ScopedBlocksAreFine, scoped_declared}
use Rattle.vs_build.proofs.Wider.{IsWider}
use Rattle.vs_scope.specs.declared.frames.Frame.{Frame}
use Rattle.vs_scope.specs.declared.block_scopes.NamedBlock.{NamedBlock as NamedBlockOf}
use Rattle.vs_scope.specs.declared.block_scopes.SaidBlocks.{SaidBlocks}
use Rattle.vs_scope.specs.Frames.{KeepShapes, env_at, envs}
use Rattle.vs_scope.specs.Locals.{inside_declared, inside_names}
use Rattle.vs_scope.specs.NamedBlocks.{IsSaidBlocks, blocks_start, named}
use Rattle.vs_elab.specs.declared.reading.Counts.{Counts}
use Rattle.vs_elab.specs.declared.reading.Reading.{Reading}
use Rattle.vs_elab.specs.Fine.{IsFineScoped}
use Rattle.vs_elab.specs.Functions.{IsIdle, signals_of}
use Rattle.vs_elab.specs.Opening.{Follow}
use Rattle.vs_elab.specs.Reading.{AreNumberedIn, AreSeen, IsRead, design_so_far, totals_of, totals_so_far}
use Rattle.vs_elab.specs.Scoped.{AreMoreFrames, ScopedIsRead, block_at, loops_with, totals_at, with_scoped, with_variables}
use Rattle.vs_elab.proofs.NewSignals.{variables_there}
use Rattle.vs_elab.proofs.NumberedNames.{frames_numbered, names_numbered, same_functions}
use Rattle.vs_elab.proofs.OpenedScopes.{wider_by}
use Rattle.vs_elab.proofs.OwnSteps.{at_home}
use Rattle.vs_elab.proofs.ScopedParts.{numbered_follow, same_variables, sum_mapped}
use Rattle.vs_elab.proofs.ScopedSteps.{empties_kept, empties_numbered, empties_seen}
use Rattle.vs_elab.proofs.Wider.{sound_wider}
use Rattle.vs_elab.proofs.WiderScopes.{frames_wider}

none_of : (fs : List Fault) → least fs ≡ None → fs ≡ []
none_of [] h = refl
none_of (f ∷ fs) h = cc

low : (n : ℕ) → n ≤ depth_limit → n ≤ 253
low n h = omega (arith, h)

module _ (old : Reading) (frame : ℕ) (b : tree.AlwaysBlock) where
  abbrev pub env : Env
  env = env_at (envs old.frames.items) (Some frame)

  abbrev pub block : ScopedBlock
  block = block_at frame env b

  abbrev pub t : Totals
  t = totals_so_far old

  abbrev pub ss : List LocalSignal
  ss = scoped_signals block t

  abbrev pub s : TypedStatement
  s = scoped_statement the_limits block t

  abbrev pub scopes : List Scope
  scopes = named_scopes frame t.scopes (named_blocks b.statement)

  abbrev pub variables : List Signal
  variables = variables_in block t

  abbrev pub d : Design
  d = design_so_far old

  abbrev pub drafted : Draft
  drafted = with_variables (draft old.builder) scopes variables

  -- what was found of it, of these named blocks
  pub record IsChecked (said : SaidBlocks) (blocks : List NamedBlockOf) (loops : Loops) : Type 0 where
    pub names : inside_names said.inside ≡ names_of env
    pub declared : (place : ℕ) → inside_declared said.inside place ≡ scoped_declared block t place
    pub fair : least (scoped_faults the_limits block t) ≡ None
    pub scopes_are : named_scopes frame t.scopes (map named blocks) ≡ scopes
    pub variables_are : signals_of said.inside.locals.signals.items ≡ variables
    pub count : length blocks ≡ length (named_blocks b.statement)
    pub counts : (c : Counts) → c ≡ old.counts → totals_of (record c { start = said.next }) loops ≡ scoped_totals block t ss s
    pub top : said.next.top ≡ old.counts.start.top

  abbrev totals_by : (scopes signals bits : ℕ) → Loops → Totals
  totals_by x y z l = record t { scopes = x; signals = y; bits = z; loops = l }

  pub checked : (said : SaidBlocks) (blocks : List NamedBlockOf) (loops : Loops) (fs : List Frame) → fs ≡ old.frames.items → map named blocks ≡ named_blocks b.statement → inside_names said.inside ≡ names_of (env_at (envs fs) (Some frame))
      → IsSaidBlocks said (env_at (envs fs) (Some frame)) old.counts.start (map named blocks) → least (scoped_faults the_limits (block_at frame (env_at (envs fs) (Some frame)) b) (totals_at old.counts.start old.loops)) ≡ None
      → loops ≡ loops_with old.loops (scoped_statement the_limits (block_at frame (env_at (envs fs) (Some frame)) b) (totals_at old.counts.start old.loops)) → IsChecked said blocks loops
  checked said blocks loops fs same e n h fair l =
      let start = blocks_start old.counts.start in
      let found = subst (λ (x : List Frame). IsSaidBlocks said (env_at (envs x) (Some frame)) old.counts.start (map named blocks)) same h in
      let loops_are : loops ≡ record t.loops { copies = t.loops.copies + s.copies } = l ∙ ap (λ (x : List Frame). loops_with old.loops (scoped_statement the_limits (block_at frame (env_at (envs x) (Some frame)) b) (totals_at old.counts.start old.loops))) same in
      record {
        names = n ∙ ap (λ (x : List Frame). names_of (env_at (envs x) (Some frame))) same;
        declared = λ place. found.declared place ∙ ap (λ (xs : List NamedBlock). meaning_or (signal_at (named_signals env start xs) place)) e;
        fair = subst (λ (x : List Frame). least (scoped_faults the_limits (block_at frame (env_at (envs x) (Some frame)) b) (totals_at old.counts.start old.loops)) ≡ None) same fair;
        scopes_are = ap (named_scopes frame t.scopes) e;
        variables_are = same_variables said.inside.locals.signals.items (named_signals env start (map named blocks)) found.signals ∙ ap (λ (xs : List NamedBlock). map (λ (x : LocalSignal). x.meaning.signal) (named_signals env start xs)) e;
        count = sym (length-map blocks named) ∙ ap length e;
        counts = λ c k.
            ap (λ (x : Counts). totals_of (record x { start = said.next }) loops) k
            ∙ ap (λ (n : ℕ). totals_by n said.next.signal said.next.bit loops) (found.scope ∙ ap (λ (xs : List NamedBlock). t.scopes + length xs) e)
            ∙ ap (λ (n : ℕ). totals_by (t.scopes + length (named_blocks b.statement)) n said.next.bit loops) (found.signal ∙ ap (λ (xs : List NamedBlock). t.signals + length (named_signals env start xs)) e)
            ∙ ap (λ (n : ℕ). totals_by (t.scopes + length (named_blocks b.statement)) (t.signals + length ss) n loops) (found.bit ∙ ap (λ (xs : List NamedBlock). t.bits + sum_by (λ (x : LocalSignal). signal_length x.meaning.signal) (named_signals env start xs)) e)
            ∙ ap (totals_by (t.scopes + length (named_blocks b.statement)) (t.signals + length ss) (t.bits + sum_by (λ (x : LocalSignal). signal_length x.meaning.signal) ss)) loops_are;
        top = found.top;
      }

  module _ (within : frame < length old.frames.items) (r : IsRead old) (f : IsFineScoped env b) (none : least (scoped_faults the_limits block t) ≡ None) where
    clean : scoped_faults the_limits block t ≡ []
    clean = none_of (scoped_faults the_limits block t) none

    statement_clean : s.faults ≡ []
    statement_clean =
        let ranges = flat_map (λ (x : LocalSignal). x.faults) ss in
        let over = variables_over the_limits.bits t.bits ss in
        let l = both_nil (flat_map clashes_within (named_blocks b.statement)) (ranges ++ (s.faults ++ over)) clean in
        let n = both_nil ranges (s.faults ++ over) l.1 in
        (both_nil s.faults over n.1).0

    seen : AreSoundFrames d false env.frames
    seen = r.seen frame within

    pub few : VariablesAreFew → t.bits + sum_by (λ (x : LocalSignal). signal_length x.meaning.signal) ss ≤ 2 ^ 20
    few law = law d the_limits block t seen f.shaped r.few_bits clean

    pub follow : VariablesAreCounted → VariablesAreFew → Follow (t.scopes + length (named_blocks b.statement)) (length d.signals) (bit_count d) variables
    follow counted law =
        let sum : sum_by signal_length variables ≡ sum_by (λ (x : LocalSignal). signal_length x.meaning.signal) ss = sum_mapped (λ (x : LocalSignal). x.meaning.signal) ss in
        let most : t.bits + sum_by (λ (x : LocalSignal). signal_length x.meaning.signal) ss ≤ 2 ^ 20 = few law in
        subst (λ (n : ℕ). Follow (t.scopes + length (named_blocks b.statement)) n (bit_count d) variables) (sym r.signals)
        (subst (λ (n : ℕ). Follow (t.scopes + length (named_blocks b.statement)) t.signals n variables) (sym r.bits)
        (numbered_follow (t.scopes + length (named_blocks b.statement)) t.signals t.bits variables (counted block t) (omega (arith, sum, most))))

    wide : IsWider d drafted.design
    wide = wider_by d drafted.design variables (omega (arith, length-append d.scopes scopes)) refl

    runs : VariablesAreCounted → VariablesAreSound → NamesAreSound → NamesAreNumbered → ScopedBlocksAreFine
        → IsRunnable drafted.design (scoped_declared block t) (names_of env) b × ((scoped_design block t ss s).processes ≡ block_process (scoped_declared block t) b (names_of env) ∷ [])
    runs counted sound names numbers fine =
        let there = variables_there drafted.design d.signals (t.scopes + length (named_blocks b.statement)) t.signals t.bits variables refl r.signals (counted block t) in
        fine drafted.design the_limits block t f.shaped (sound_wider d drafted.design wide false (names_of env) (names d false env seen))
        (names_numbered d drafted.design [] (same_functions d drafted.design refl) (names_of env) (numbers d env (r.numbered frame within)))
        (sound drafted.design the_limits block t (frames_wider d drafted.design wide false env.frames seen) f.shaped clean there) (low (statement_depth b.statement) f.shallow) f.clean statement_clean

    -- in what the code has then
    pub runnable : VariablesAreCounted → VariablesAreSound → NamesAreSound → NamesAreNumbered → ScopedBlocksAreFine → (xs : List Scope) (vs : List Signal) (declared : ℕ → Meaning) (find : Find) → xs ≡ scopes → vs ≡ variables
        → ((place : ℕ) → declared place ≡ scoped_declared block t place) → find ≡ names_of env → IsRunnable (home (with_variables (draft old.builder) xs vs)) declared find b
    runnable counted sound names numbers fine xs vs declared find e g h k =
        subst (λ (x : List Scope). IsRunnable (home (with_variables (draft old.builder) x vs)) declared find b) (sym e)
        (subst (λ (x : List Signal). IsRunnable (home (with_variables (draft old.builder) scopes x)) declared find b) (sym g)
        (subst (λ (m : ℕ → Meaning). IsRunnable (home drafted) m find b) (sym (fun_ext (λ place. h place)))
        (subst (λ (m : Find). IsRunnable (home drafted) (scoped_declared block t) m b) (sym k) (subst (λ (x : Design). IsRunnable x (scoped_declared block t) (names_of env) b) (at_home drafted r.idle.outside) (runs counted sound names numbers fine).0))))

    abbrev of_parts : List Process → List Initial → List Function → Draft
    of_parts ps is fs = record drafted { design = record drafted.design { processes = ps; initials = is; functions = fs } }

    pub built : VariablesAreCounted → VariablesAreSound → NamesAreSound → NamesAreNumbered → ScopedBlocksAreFine → (xs : List Scope) (vs : List Signal) (declared : ℕ → Meaning) (find : Find) (new : Draft) → xs ≡ scopes → vs ≡ variables
        → ((place : ℕ) → declared place ≡ scoped_declared block t place) → find ≡ names_of env → new ≡ and_process (with_variables (draft old.builder) xs vs) (block_process declared b find) → new ≡ with_scoped (draft old.builder) block t
    built counted sound names numbers fine xs vs declared find new e g h k is =
        is ∙ ap (λ (x : List Scope). and_process (with_variables (draft old.builder) x vs) (block_process declared b find)) e
        ∙ ap (λ (x : List Signal). and_process (with_variables (draft old.builder) scopes x) (block_process declared b find)) g
        ∙ ap (λ (m : ℕ → Meaning). and_process drafted (block_process m b find)) (fun_ext (λ place. h place))
        ∙ ap (λ (m : Find). and_process drafted (block_process (scoped_declared block t) b m)) k
        ∙ ap (λ (qs : List Process). of_parts (d.processes ++ qs) d.initials d.functions) (sym (runs counted sound names numbers fine).1)
        ∙ ap (λ (is : List Initial). of_parts (d.processes ++ (scoped_design block t ss s).processes) is d.functions) (sym (append-nil d.initials))
        ∙ ap (λ (fs : List Function). of_parts (d.processes ++ (scoped_design block t ss s).processes) (d.initials ++ []) fs) (sym (append-nil d.functions))

    -- ---- read

    module _ (new : Reading) (made : draft new.builder ≡ with_scoped (draft old.builder) block t) (same : totals_so_far new ≡ scoped_totals block t ss s) (more : AreMoreFrames old.frames.items new.frames.items (length (named_blocks b.statement)))
        (top : new.counts.start.top ≡ old.counts.start.top) where
      abbrev e : Design
      e = both_designs d (scoped_design block t ss s)

      is : design_so_far new ≡ e
      is = ap (λ (x : Draft). x.design) made

      wider : IsWider d e
      wider = wider_by d e variables (omega (arith, length-append d.scopes scopes)) refl

      idle : IsIdle (draft new.builder)
      idle = subst IsIdle (sym made) (record { outside = r.idle.outside; expressions = r.idle.expressions; statements = r.idle.statements })

      old_seen : AreSeen e old.frames.items
      old_seen i h = frames_wider d e wider false (env_at (envs old.frames.items) (Some i)).frames (r.seen i h)

      old_numbered : AreNumberedIn e old.frames.items
      old_numbered i h = frames_numbered d e [] refl (env_at (envs old.frames.items) (Some i)).frames (r.numbered i h)

      read : VariablesAreFew → IsRead new
      read law = record {
        scopes =
            let a : length (design_so_far new).scopes ≡ length d.scopes + length scopes = ap (λ (x : Design). length x.scopes) is ∙ length-append d.scopes scopes in
            let m : length scopes ≡ length (named_blocks b.statement) = length-map (named_blocks b.statement) (named_scope frame t.scopes) in
            let o : new.counts.start.scope ≡ old.counts.start.scope + length (named_blocks b.statement) = ap (λ (x : Totals). x.scopes) same in
            let k : length d.scopes ≡ old.counts.start.scope = r.scopes in
            omega (arith, a, m, o, k);
        frames =
            let a : length new.frames.items ≡ length old.frames.items + length more.more = ap length more.is ∙ length-append old.frames.items more.more in
            let m : length more.more ≡ length (named_blocks b.statement) = more.count_is in
            let o : new.counts.start.scope ≡ old.counts.start.scope + length (named_blocks b.statement) = ap (λ (x : Totals). x.scopes) same in
            let k : length old.frames.items ≡ old.counts.start.scope = r.frames in
            omega (arith, a, m, o, k);
        signals =
            let a : length (design_so_far new).signals ≡ length d.signals + length variables = ap (λ (x : Design). length x.signals) is ∙ length-append d.signals variables in
            let m : length variables ≡ length ss = length-map ss (λ (x : LocalSignal). x.meaning.signal) in
            let o : new.counts.start.signal ≡ old.counts.start.signal + length ss = ap (λ (x : Totals). x.signals) same in
            let k : length d.signals ≡ old.counts.start.signal = r.signals in
            omega (arith, a, m, o, k);
        bits =
            let sum = sum_by (λ (x : LocalSignal). signal_length x.meaning.signal) ss in
            let a : bit_count (design_so_far new) ≡ bit_count d + sum_by signal_length variables = ap (λ (x : Design). bit_count x) is ∙ sum_by-append signal_length d.signals variables in
            let m : sum_by signal_length variables ≡ sum = sum_mapped (λ (x : LocalSignal). x.meaning.signal) ss in
            let o : new.counts.start.bit ≡ old.counts.start.bit + sum = ap (λ (x : Totals). x.bits) same in
            let k : bit_count d ≡ old.counts.start.bit = r.bits in
            omega (arith, a, m, o, k);
        functions = ap (λ (x : Design). length x.functions) is ∙ ap length (append-nil d.functions) ∙ r.functions ∙ sym (ap (λ (x : Totals). x.functions) same);
        idle = idle;
        few_bits = subst (λ (n : ℕ). n ≤ 2 ^ 20) (sym (ap (λ (x : Totals). x.bits) same)) (few law);
        few_instances = subst (λ (n : ℕ). n ≤ 4096) (sym (ap (λ (x : Totals). x.instances) same)) r.few_instances;
        few_processes = subst (λ (n : ℕ). n ≤ 2 ^ 16) (sym (ap (λ (x : Totals). x.processes) same)) r.few_processes;
        kept = subst KeepShapes (sym more.is) (empties_kept old.frames.items more.more more.empty r.kept);
        seen = subst (λ (x : Design). AreSeen x new.frames.items) (sym is) (subst (AreSeen e) (sym more.is) (empties_seen e old.frames.items more.more more.empty old_seen));
        numbered = subst (λ (x : Design). AreNumberedIn x new.frames.items) (sym is) (subst (AreNumberedIn e) (sym more.is) (empties_numbered e old.frames.items more.more more.empty old_numbered));
      }

      pub scoped_is_read : VariablesAreFew → ScopedIsRead old new block
      scoped_is_read law = record { fair = none; design = is; idle = idle; totals = same; frames = more; read = read law; top = top }
