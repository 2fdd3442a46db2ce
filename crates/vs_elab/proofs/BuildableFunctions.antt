-- The functions of a scope without a fault can be built (IEEE 1364-2005, 10.4).
use Rattle.std.proofs.Common.{◌≡◌, ◌<◌, ◌≤◌, ◌^◌, ℕ, suc, ◌+◌, ◌-◌, ◌||◌, Bool, true, false, List, [], ◌∷◌, ◌++◌, length, length-append, flat_map, nat_lt, Some, None, if◌then◌else◌, refl, sym, ap, ◌∙◌, arith}
use Rattle.std.specs.Prelude.{slice_get, sum_by}
use Rattle.std.proofs.lemmas.Bool.{ltb-false}
use Rattle.vs_design.specs.Clocks.{same_name}
use Rattle.vs_design.specs.Expressions.{signal_length, local_signals}
use Rattle.vs_design.specs.Statements.{Function}
use Rattle.vs_design.specs.Designs.{Design}
use Rattle.vs_design.specs.Elaborated.{is_nil}
use Rattle.vs_grammar.specs.Trees as tree
use Rattle.vs_grammar.specs.Shapes.{Each, IsFunction}
use Rattle.vs_grammar.specs.Depths.{statement_depth}
use Rattle.vs_const.specs.CallDepths.{calls_in}
use Rattle.vs_const.specs.Faults.{fault_if}
use Rattle.vs_const.specs.declared.rules.Rule.TheVariants.{FunctionRule}
use Rattle.vs_const.specs.Meanings.{FunctionMeaning}
use Rattle.vs_const.specs.Sound.{IsSoundFunction}
use Rattle.vs_const.proofs.Formed.{both_nil}
use Rattle.vs_elaborated.specs.Limits.{the_limits}
use Rattle.vs_elaborated.specs.Environments.{Declared, Later, OfSignal, OfParameter, OfGenvar, OfInteger, OfFunction, OfScope, Entry, Env, within}
use Rattle.vs_elaborated.specs.Declarations.{Sort, SignalOf, ParameterOf, FunctionOf, GenvarSort, IntegerSort, InstanceSort, Declaration}
use Rattle.vs_elaborated.specs.Statements.{repeated_locals, unrolled_within}
use Rattle.vs_elaborated.specs.Functions.{Counts, SaidFunction, LocalSignal, declared_locals, all_locals, locals_in, function_body, function_names, header_of, most_bits, most_calls, size_faults, and_function, next_function, completed, put_function, said_functions}
use Rattle.vs_elaborated.specs.Numbers.{IsAtNumber, IsNumberedDeclared, AreNumberedEntries, AreNumberedFrames, FunctionNamesAreNumbered}
use Rattle.vs_elaborated.specs.Sound.{IsSoundDeclared, AreSoundEntries, AreSoundFrames, FunctionsAreFormed, FunctionsSeeSound}
use Rattle.vs_build.specs.Items.{FunctionsAreFine}
use Rattle.vs_build.proofs.Wider.{IsWider, same_signals}
use Rattle.vs_elab.specs.Functions.{AreBuildable, CanBuild, function_in, function_of, with_function}
use Rattle.vs_elab.proofs.NumberedNames.{entries_numbered, frames_numbered}
use Rattle.vs_elab.proofs.WiderScopes.{entries_wider, frames_wider}

-- ---- entries of which one function more is complete

module _ (d : Design) (f : FunctionMeaning) where
  completed_sound : IsSoundFunction d false f → (x : Declared) → IsSoundDeclared d false x → IsSoundDeclared d false (completed f x)
  completed_sound k Later h = h
  completed_sound k (OfSignal s) h = h
  completed_sound k (OfParameter v r) h = h
  completed_sound k OfGenvar h = h
  completed_sound k (OfInteger owner) h = h
  completed_sound k (OfFunction None) h = k
  completed_sound k (OfFunction (Some g)) h = h
  completed_sound k OfScope h = h

  put_sound : IsSoundFunction d false f → (name : List ℕ) (es : List Entry) → AreSoundEntries d false es → AreSoundEntries d false (put_function name f es)
  put_sound k name [] h = tt
  put_sound k name (e ∷ es) h = (of (same_name e.name name), put_sound k name es h.1)
    where
      of : (b : Bool) → IsSoundDeclared d false (if b then record e { declared = completed f e.declared } else e).declared
      of true = completed_sound k e.declared h.0
      of false = h.0

  completed_numbered : IsAtNumber d f → (x : Declared) → IsNumberedDeclared d x → IsNumberedDeclared d (completed f x)
  completed_numbered k Later h = tt
  completed_numbered k (OfSignal s) h = tt
  completed_numbered k (OfParameter v r) h = tt
  completed_numbered k OfGenvar h = tt
  completed_numbered k (OfInteger owner) h = tt
  completed_numbered k (OfFunction None) h = k
  completed_numbered k (OfFunction (Some g)) h = h
  completed_numbered k OfScope h = tt

  put_numbered : IsAtNumber d f → (name : List ℕ) (es : List Entry) → AreNumberedEntries d es → AreNumberedEntries d (put_function name f es)
  put_numbered k name [] h = tt
  put_numbered k name (e ∷ es) h = (of (same_name e.name name), put_numbered k name es h.1)
    where
      of : (b : Bool) → IsNumberedDeclared d (if b then record e { declared = completed f e.declared } else e).declared
      of true = completed_numbered k e.declared h.0
      of false = h.0

  -- and the other way round
  incomplete_sound : (x : Declared) → IsSoundDeclared d false (completed f x) → IsSoundDeclared d false x
  incomplete_sound Later h = h
  incomplete_sound (OfSignal s) h = h
  incomplete_sound (OfParameter v r) h = h
  incomplete_sound OfGenvar h = h
  incomplete_sound (OfInteger owner) h = h
  incomplete_sound (OfFunction None) h = tt
  incomplete_sound (OfFunction (Some g)) h = h
  incomplete_sound OfScope h = h

  before_put : (name : List ℕ) (es : List Entry) → AreSoundEntries d false (put_function name f es) → AreSoundEntries d false es
  before_put name [] h = tt
  before_put name (e ∷ es) h = (of (same_name e.name name) h.0, before_put name es h.1)
    where
      of : (b : Bool) → IsSoundDeclared d false (if b then record e { declared = completed f e.declared } else e).declared → IsSoundDeclared d false e.declared
      of true k = incomplete_sound e.declared k
      of false k = k

-- names are sound before their functions are complete
pub before_functions : (d : Design) (scope : ℕ) (outer : Env) (ds : List Declaration) (counts : Counts) (es : List Entry)
    → AreSoundEntries d false (said_functions the_limits scope outer counts ds es).entries → AreSoundEntries d false es
before_functions d scope outer [] counts es h = h
before_functions d scope outer (x ∷ ds) counts es h = of x.sort (λ c e k. before_functions d scope outer ds c e k) h
  where
    of : (sort : Sort) → ((c : Counts) (e : List Entry) → AreSoundEntries d false (said_functions the_limits scope outer c ds e).entries → AreSoundEntries d false e)
        → AreSoundEntries d false (said_functions the_limits scope outer counts (record { name = x.name; sort = sort } ∷ ds) es).entries → AreSoundEntries d false es
    of (FunctionOf f) g k =
        let s = next_function the_limits scope (within outer es) counts f in
        before_put d s.meaning x.name.bytes es (g (and_function counts s) (put_function x.name.bytes s.meaning es) k)
    of (SignalOf s) g k = g counts es k
    of (ParameterOf p) g k = g counts es k
    of GenvarSort g k = g counts es k
    of IntegerSort g k = g counts es k
    of InstanceSort g k = g counts es k

-- ---- one function

-- it is shaped, and its statement isn't too deep
abbrev pub IsLow : Declaration → Type 0
IsLow d = elim d.sort [ FunctionOf f ↦ (IsFunction f × (statement_depth f.statement ≤ 253)) | _ ↦ Unit {0} ]

get_behind : (fs : List Function) (f : Function) → slice_get (fs ++ f ∷ []) (length fs) ≡ Some f
get_behind [] f = refl
get_behind (g ∷ fs) f = get_behind fs f

no_fault : (b : Bool) (place : ℕ) → fault_if b FunctionRule place ≡ [] → b ≡ false
no_fault true place h = cc
no_fault false place h = refl

or_false : (a b : Bool) → (a || b) ≡ false → (a ≡ false) × (b ≡ false)
or_false true b h = cc
or_false false b h = (refl, h)

module _ (formed : FunctionsAreFormed) (inside : FunctionsSeeSound) (numbers : FunctionNamesAreNumbered) (fine : FunctionsAreFine) (scope : ℕ) (outer : Env) where
  -- what holds before a function
  pub record IsReady (d : Design) (counts : Counts) (es : List Entry) : Type 0 where
    pub within_design : scope < length d.scopes
    pub count : length d.functions ≡ counts.functions
    pub around : AreSoundFrames d false outer.frames
    pub names : AreSoundEntries d false es
    pub around_numbered : AreNumberedFrames d outer.frames
    pub numbered : AreNumberedEntries d es

  module _ (d : Design) (counts : Counts) (es : List Entry) (ready : IsReady d counts es) (f : tree.Function) (low : IsFunction f × (statement_depth f.statement ≤ 253))
      (clean : (next_function the_limits scope (within outer es) counts f).faults ≡ []) where
    abbrev env : Env
    env = within outer es

    abbrev most : ℕ
    most = the_limits.copies - counts.copies

    abbrev said : SaidFunction
    said = next_function the_limits scope env counts f

    abbrev next : Design
    next = with_function d (function_of said)

    frames : AreSoundFrames d false env.frames
    frames = (ready.names, ready.around)

    sound : IsSoundFunction d false said.meaning
    sound = formed d counts.functions most scope env f frames low.0 ready.within_design clean

    can : CanBuild d scope env f × (function_in scope env f ≡ function_of said)
    can =
        let l = locals_in scope env f in
        let s = unrolled_within most f.statement (function_body l) (function_names scope env f) in
        let built = fine d counts.functions most scope env f low.0 (inside d counts.functions most scope env f frames low.0 ready.within_design clean) (numbers d scope env f (ready.numbered, ready.around_numbered)) low.1 clean in
        let ranges = flat_map (λ (v : LocalSignal). v.faults) (all_locals l) in
        let sizes = size_faults f.place l (header_of f l) (suc (calls_in s.statement)) in
        let a = both_nil (repeated_locals [] (declared_locals f)) (ranges ++ (s.faults ++ sizes)) clean in
        let b = both_nil ranges (s.faults ++ sizes) a.1 in
        let c = both_nil s.faults sizes b.1 in
        let over = no_fault (is_nil l.inputs || (nat_lt most_calls (suc (calls_in s.statement)) || nat_lt most_bits (sum_by signal_length (local_signals (header_of f l))))) f.place c.1 in
        let calls = or_false (is_nil l.inputs) (nat_lt most_calls (suc (calls_in s.statement)) || nat_lt most_bits (sum_by signal_length (local_signals (header_of f l)))) over in
        let bits = or_false (nat_lt most_calls (suc (calls_in s.statement))) (nat_lt most_bits (sum_by signal_length (local_signals (header_of f l)))) calls.1 in (
          record { formed = sound.1.header; few = few_bits (sum_by signal_length (local_signals (header_of f l))) bits.1; executable = built.executable },
          ap (λ t. let x : Function = record { header = header_of f l; statement = t } in x) (sym built.statement),
        )
      where
        few_bits : (n : ℕ) → nat_lt most_bits n ≡ false → n ≤ 2 ^ 20
        few_bits n h = let k = ltb-false most_bits n h in omega (arith, k)

    wider : IsWider d next
    wider = same_signals d next (omega arith) refl

    ready_next : (name : List ℕ) → IsReady next (and_function counts said) (put_function name said.meaning es)
    ready_next name =
        let c = ready.count in
        let n = length-append d.functions (function_of said ∷ []) in
        let at : IsAtNumber next said.meaning = ap (slice_get next.functions) (sym c) ∙ get_behind d.functions (function_of said) in
        record {
          within_design = ready.within_design;
          count = omega (arith, c, n);
          around = frames_wider d next wider false outer.frames ready.around;
          names = put_sound next said.meaning (formed_next) name es (entries_wider d next wider false es ready.names);
          around_numbered = frames_numbered d next (function_of said ∷ []) refl outer.frames ready.around_numbered;
          numbered = put_numbered next said.meaning at name es (entries_numbered d next (function_of said ∷ []) refl es ready.numbered);
        }
      where
        formed_next : IsSoundFunction next false said.meaning
        formed_next = formed next counts.functions most scope env f (frames_wider d next wider false env.frames frames) low.0 ready.within_design clean

  -- all of them
  pub all_buildable : (d : Design) (counts : Counts) (es : List Entry) (ds : List Declaration) → IsReady d counts es → Each IsLow ds → (said_functions the_limits scope outer counts ds es).faults ≡ []
      → AreBuildable d scope outer counts es ds
  all_buildable d counts es [] ready low clean = tt
  all_buildable d counts es (x ∷ ds) ready low clean = of x.sort low.0 (λ e c es ready k. all_buildable e c es ds ready low.1 k) clean
    where
      of : (sort : Sort) → (elim sort as (λ s. Type 0) [ FunctionOf f ↦ (IsFunction f × (statement_depth f.statement ≤ 253)) | _ ↦ Unit {0} ])
          → ((e : Design) (c : Counts) (gs : List Entry) → IsReady e c gs → (said_functions the_limits scope outer c ds gs).faults ≡ [] → AreBuildable e scope outer c gs ds)
          → (said_functions the_limits scope outer counts (record { name = x.name; sort = sort } ∷ ds) es).faults ≡ [] → AreBuildable d scope outer counts es (record { name = x.name; sort = sort } ∷ ds)
      of (FunctionOf f) l k h =
          let s = next_function the_limits scope (within outer es) counts f in
          let both = both_nil s.faults (said_functions the_limits scope outer (and_function counts s) ds (put_function x.name.bytes s.meaning es)).faults h in
          let c = can d counts es ready f l both.0 in
          (c.0, c.1, k (with_function d (function_of s)) (and_function counts s) (put_function x.name.bytes s.meaning es) (ready_next d counts es ready f l both.0 x.name.bytes) both.1)
      of (SignalOf s) l k h = k d counts es ready h
      of (ParameterOf p) l k h = k d counts es ready h
      of GenvarSort l k h = k d counts es ready h
      of IntegerSort l k h = k d counts es ready h
      of InstanceSort l k h = k d counts es ready h
