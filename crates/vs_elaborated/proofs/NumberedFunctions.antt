-- Functions stand at their numbers in a design that has them.
use Rattle.std.proofs.Common.{◌≡◌, ℕ, zero, suc, ◌+◌, Bool, true, false, List, [], ◌∷◌, ◌++◌, map, length, Option, Some, None, if◌then◌else◌, refl, sym, ap, ◌∙◌, arith, append_assoc, length-append}
use Rattle.std.specs.Prelude.{slice_get}
use Rattle.vs_four.specs.declared.Range.{Range}
use Rattle.vs_design.specs.Clocks.{same_name}
use Rattle.vs_design.specs.Statements.{Function}
use Rattle.vs_design.specs.Designs.{Design}
use Rattle.vs_grammar.specs.Trees as tree
use Rattle.vs_grammar.specs.Trees.{Module, Source}
use Rattle.vs_grammar.specs.Shapes.{Each}
use Rattle.vs_const.specs.Meanings.{ConstantValue, SignalMeaning, FunctionMeaning, Meaning, AValue, Undefined, ASignal, AMemory, AFunction, Incomplete, Another, Barred, Unknown, is_local}
use Rattle.vs_const.specs.Typed.{Typed}
use Rattle.vs_const.specs.Expressions.{constant}
use Rattle.vs_elaborated.specs.Limits.{Limits}
use Rattle.vs_elaborated.specs.Environments.{Declared, Later, OfSignal, OfParameter, OfGenvar, OfInteger, OfFunction, OfScope, Entry, Env, Turn, within, up_to, turn_of, is_late, find_entry, find_name, parameter_meaning, turn_meaning, with_words, declared_meaning, entry_meaning, inside_function, named}
use Rattle.vs_elaborated.specs.Statements.{Local, find_local, local_or}
use Rattle.vs_elaborated.specs.Declarations.{Sort, SignalOf, ParameterOf, FunctionOf, GenvarSort, IntegerSort, InstanceSort, Declaration, Named}
use Rattle.vs_elaborated.specs.Parameters.{Override, declared_if, valued, put_value, first_declared, first_entries, said_parameter, said_parameters, said_type, is_signed, chosen}
use Rattle.vs_elaborated.specs.Signals.{SaidSignal, put_signal, put_signals}
use Rattle.vs_elaborated.specs.Functions.{LocalSignal, Locals, locals_in, declared_locals, all_locals, signal_at, meaning_or, own_meaning, find_passed, passed_or, passed_on, called_within, passed_meaning, Counts, next_function, and_function, completed, put_function, said_functions}
use Rattle.vs_elaborated.specs.Generate.{BlockName, Nested, Made}
use Rattle.vs_elaborated.specs.Ports.{find_module}
use Rattle.vs_elaborated.specs.Pieces.{Said, all_said}
use Rattle.vs_elaborated.specs.Instances.{Around, said_overrides, instance_said}
use Rattle.vs_elaborated.specs.NamedBlocks.{NamedBlock, named_blocks}
use Rattle.vs_elaborated.specs.Surveys.{Loops, block_by, loops_after, items_of, declarations_of, overrides_of, block_entries, turned, counts_of, survey, header_said, assign_said, nested_piece, item_said, items_said}
use Rattle.vs_elaborated.specs.Numbers.{IsAtNumber, IsNumbered, IsNumberedDeclared, AreNumberedEntries, AreNumberedFrames, IsNumberedPiece, HasFunctions, NamesAreNumbered, FunctionNamesAreNumbered, FunctionsAreNumbered, ScopesAreNumbered, FunctionsAreCounted, NumbersStay, MoreFunctionsStand}
use Rattle.vs_elaborated.proofs.EachOf.{each_append, each_weaker}
use Rattle.vs_elaborated.proofs.ValuePieces.{signals_each, header_each}
use Rattle.vs_elaborated.proofs.SurveyParts.{names_in, first_in, parameters_in, signals_in, entries_in, functions_in, made_in, blocks_in, around_in, loops_in}

-- ---- names

words_numbered : (d : Design) (words : Option Range) (m : SignalMeaning) → IsNumbered d (with_words words m)
words_numbered d None m = tt
words_numbered d (Some r) m = tt

parameter_numbered : (d : Design) (late : Bool) (v : Option ConstantValue) (r : Option Range) → IsNumbered d (if late then Unknown else parameter_meaning v r)
parameter_numbered d true v r = tt
parameter_numbered d false None r = tt
parameter_numbered d false (Some v) None = tt
parameter_numbered d false (Some v) (Some r) = tt

turn_numbered : (d : Design) (o : Option ℕ) → IsNumbered d (turn_meaning o)
turn_numbered d None = tt
turn_numbered d (Some v) = tt

declared_numbered : (d : Design) (env : Env) (place : ℕ) (x : Declared) → IsNumberedDeclared d x → IsNumbered d (declared_meaning env place x)
declared_numbered d env place Later s = tt
declared_numbered d env place (OfSignal m) s = words_numbered d m.signal.words m
declared_numbered d env place (OfParameter v r) s = parameter_numbered d (is_late env.before place) v r
declared_numbered d env place OfGenvar s = turn_numbered d (turn_of env.turns place)
declared_numbered d env place (OfInteger owner) s = tt
declared_numbered d env place (OfFunction None) s = tt
declared_numbered d env place (OfFunction (Some f)) s = s
declared_numbered d env place OfScope s = tt

entry_numbered : (d : Design) (env : Env) (es : List Entry) (name : List ℕ) → AreNumberedEntries d es → IsNumbered d (entry_meaning env (find_entry es name))
entry_numbered d env [] name s = tt
entry_numbered d env (e ∷ es) name s = of (same_name e.name name) (entry_numbered d env es name s.1)
  where
    of : (b : Bool) → IsNumbered d (entry_meaning env (find_entry es name)) → IsNumbered d (entry_meaning env (if b then Some e else find_entry es name))
    of true k = declared_numbered d env e.place e.declared s.0
    of false k = k

name_numbered : (d : Design) (env : Env) (fs : List (List Entry)) (name : List ℕ) → AreNumberedFrames d fs → IsNumbered d (entry_meaning env (find_name fs name))
name_numbered d env [] name s = tt
name_numbered d env (f ∷ fs) name s = of (find_entry f name) (entry_numbered d env f name s.0) (name_numbered d env fs name s.1)
  where
    of : (o : Option Entry) → IsNumbered d (entry_meaning env o) → IsNumbered d (entry_meaning env (find_name fs name)) → IsNumbered d (entry_meaning env (elim o [ Some e ↦ Some e | None ↦ find_name fs name ]))
    of None k l = l
    of (Some e) k l = k

pub names_numbered : NamesAreNumbered
names_numbered d env s name = name_numbered d env env.frames name s

-- a function of its number stays it, whatever is passed to it
passed_numbered : (d : Design) (input : ℕ → Option SignalMeaning) (m : Meaning) → IsNumbered d m → IsNumbered d (passed_meaning input m)
passed_numbered d input (ASignal s) h = own (is_local s)
  where
    of : (o : Option SignalMeaning) → IsNumbered d (passed_or o)
    of None = tt
    of (Some t) = tt

    own : (b : Bool) → IsNumbered d (if b then ASignal s else passed_or (input s.signal.number))
    own true = tt
    own false = of (input s.signal.number)
passed_numbered d input (AMemory m) h = tt
passed_numbered d input (AFunction f) h = of (passed_on input f.passed)
  where
    of : (o : Option (List SignalMeaning)) → IsNumbered d (called_within o f)
    of None = tt
    of (Some ss) = h
passed_numbered d input (AValue v r turns) h = tt
passed_numbered d input (Undefined r) h = tt
passed_numbered d input Incomplete h = tt
passed_numbered d input Another h = tt
passed_numbered d input (Barred rule) h = tt
passed_numbered d input Unknown h = tt

pub inside_numbered : FunctionNamesAreNumbered
inside_numbered d scope env f s name =
    let l = locals_in scope env f in
    let inner = inside_function env [] in
    own_or d l (find_local (declared_locals f) name) (passed_meaning (find_passed l.passed) (named inner name)) (passed_numbered d (find_passed l.passed) (named inner name) (name_numbered d inner inner.frames name (tt, s)))
  where
    own : (d : Design) (o : Option LocalSignal) → IsNumbered d (meaning_or o)
    own d None = tt
    own d (Some s) = tt

    own_or : (d : Design) (l : Locals) (o : Option Local) (m : Meaning) → IsNumbered d m → IsNumbered d (local_or (own_meaning l) o m)
    own_or d l None m k = k
    own_or d l (Some v) m k = own d (signal_at (all_locals l) v.name.place)

-- ---- the functions of a scope

completed_numbered : (d : Design) (f : FunctionMeaning) (x : Declared) → IsAtNumber d f → IsNumberedDeclared d x → IsNumberedDeclared d (completed f x)
completed_numbered d f Later k s = tt
completed_numbered d f (OfSignal m) k s = tt
completed_numbered d f (OfParameter v r) k s = tt
completed_numbered d f OfGenvar k s = tt
completed_numbered d f (OfInteger owner) k s = tt
completed_numbered d f (OfFunction None) k s = k
completed_numbered d f (OfFunction (Some g)) k s = s
completed_numbered d f OfScope k s = tt

put_numbered : (d : Design) (name : List ℕ) (f : FunctionMeaning) (es : List Entry) → IsAtNumber d f → AreNumberedEntries d es → AreNumberedEntries d (put_function name f es)
put_numbered d name f [] k s = tt
put_numbered d name f (e ∷ es) k s = (of (same_name e.name name), put_numbered d name f es k s.1)
  where
    of : (b : Bool) → IsNumberedDeclared d (if b then record e { declared = completed f e.declared } else e).declared
    of true = completed_numbered d f e.declared k s.0
    of false = s.0

module _ (d : Design) (limits : Limits) (scope : ℕ) (outer : Env) where
  one_numbered : (ds : List Declaration) (counts : Counts) (es : List Entry) → AreNumberedEntries d es
      → ((c : Counts) (fs : List Entry) → AreNumberedEntries d fs → HasFunctions d c.functions (said_functions limits scope outer c ds fs).functions → AreNumberedEntries d (said_functions limits scope outer c ds fs).entries)
      → (n : tree.Name) (k : Sort) → HasFunctions d counts.functions (said_functions limits scope outer counts (record { name = n; sort = k } ∷ ds) es).functions
      → AreNumberedEntries d (said_functions limits scope outer counts (record { name = n; sort = k } ∷ ds) es).entries
  one_numbered ds counts es s next n (SignalOf q) h = next counts es s h
  one_numbered ds counts es s next n (ParameterOf p) h = next counts es s h
  one_numbered ds counts es s next n GenvarSort h = next counts es s h
  one_numbered ds counts es s next n IntegerSort h = next counts es s h
  one_numbered ds counts es s next n InstanceSort h = next counts es s h
  one_numbered ds counts es s next n (FunctionOf f) h =
      let one = next_function limits scope (within outer es) counts f in
      next (and_function counts one) (put_function n.bytes one.meaning es) (put_numbered d n.bytes one.meaning es h.0 s) h.1

  all_numbered : (ds : List Declaration) (counts : Counts) (es : List Entry) → AreNumberedEntries d es → HasFunctions d counts.functions (said_functions limits scope outer counts ds es).functions
      → AreNumberedEntries d (said_functions limits scope outer counts ds es).entries
  all_numbered [] counts es s h = s
  all_numbered (a ∷ ds) counts es s h = one_numbered ds counts es s (λ c fs k l. all_numbered ds c fs k l) a.name a.sort h

pub functions_numbered : FunctionsAreNumbered
functions_numbered d limits scope outer counts ds es s h = all_numbered d limits scope outer ds counts es s h

module _ (limits : Limits) (scope : ℕ) (outer : Env) where
  one_counted : (ds : List Declaration) (counts : Counts) (es : List Entry)
      → ((c : Counts) (fs : List Entry) → (said_functions limits scope outer c ds fs).counts.functions ≡ c.functions + length (said_functions limits scope outer c ds fs).functions)
      → (n : tree.Name) (k : Sort) → (said_functions limits scope outer counts (record { name = n; sort = k } ∷ ds) es).counts.functions
      ≡ counts.functions + length (said_functions limits scope outer counts (record { name = n; sort = k } ∷ ds) es).functions
  one_counted ds counts es next n (SignalOf q) = next counts es
  one_counted ds counts es next n (ParameterOf p) = next counts es
  one_counted ds counts es next n GenvarSort = next counts es
  one_counted ds counts es next n IntegerSort = next counts es
  one_counted ds counts es next n InstanceSort = next counts es
  one_counted ds counts es next n (FunctionOf f) =
      let one = next_function limits scope (within outer es) counts f in
      let h = next (and_function counts one) (put_function n.bytes one.meaning es) in
      omega (arith, h)

  all_counted : (ds : List Declaration) (counts : Counts) (es : List Entry) → (said_functions limits scope outer counts ds es).counts.functions ≡ counts.functions + length (said_functions limits scope outer counts ds es).functions
  all_counted [] counts es = omega arith
  all_counted (a ∷ ds) counts es = one_counted ds counts es (λ c fs. all_counted ds c fs) a.name a.sort

pub functions_counted : FunctionsAreCounted
functions_counted limits source t totals = all_counted limits totals.scopes t.env (declarations_of t.contents) (counts_of totals) (entries_in t totals)

-- ---- no function is complete before

first_numbered : (d : Design) (scope : ℕ) (names : List Named) → AreNumberedEntries d (first_entries scope names)
first_numbered d scope [] = tt
first_numbered d scope (n ∷ ns) = (of n.first.sort, first_numbered d scope ns)
  where
    of : (k : Sort) → IsNumberedDeclared d (first_declared scope k)
    of (SignalOf s) = tt
    of (ParameterOf p) = tt
    of (FunctionOf f) = tt
    of GenvarSort = tt
    of IntegerSort = tt
    of InstanceSort = tt

value_numbered : (d : Design) (known good signed : Bool) (r : Option Range) (t : Typed) → IsNumberedDeclared d (declared_if known good signed r t)
value_numbered d false good signed r t = tt
value_numbered d true false signed r t = tt
value_numbered d true true signed None t = tt
value_numbered d true true signed (Some r) t = tt

valued_numbered : (d : Design) (value x : Declared) → IsNumberedDeclared d value → IsNumberedDeclared d x → IsNumberedDeclared d (valued value x)
valued_numbered d value Later k s = k
valued_numbered d value (OfSignal m) k s = s
valued_numbered d value (OfParameter v r) k s = s
valued_numbered d value OfGenvar k s = s
valued_numbered d value (OfInteger owner) k s = s
valued_numbered d value (OfFunction f) k s = s
valued_numbered d value OfScope k s = s

value_put : (d : Design) (name : List ℕ) (value : Declared) (es : List Entry) → IsNumberedDeclared d value → AreNumberedEntries d es → AreNumberedEntries d (put_value name value es)
value_put d name value [] k s = tt
value_put d name value (e ∷ es) k s = (of (same_name e.name name), value_put d name value es k s.1)
  where
    of : (b : Bool) → IsNumberedDeclared d (if b then record e { declared = valued value e.declared } else e).declared
    of true = valued_numbered d value e.declared k s.0
    of false = s.0

one_parameter : (d : Design) (outer : Env) (os : List Override) (ds : List Declaration) (es : List Entry) → AreNumberedEntries d es
    → ((fs : List Entry) → AreNumberedEntries d fs → AreNumberedEntries d (said_parameters outer os ds fs).entries)
    → (n : tree.Name) (k : Sort) → AreNumberedEntries d (said_parameters outer os (record { name = n; sort = k } ∷ ds) es).entries
one_parameter d outer os ds es s next n (SignalOf q) = next es s
one_parameter d outer os ds es s next n (FunctionOf f) = next es s
one_parameter d outer os ds es s next n GenvarSort = next es s
one_parameter d outer os ds es s next n IntegerSort = next es s
one_parameter d outer os ds es s next n InstanceSort = next es s
one_parameter d outer os ds es s next n (ParameterOf p) =
    let env = up_to (within outer es) n.place in
    let r = said_type p.value_type env in
    let t = chosen p os n.bytes (constant p.value (named env)) in
    next (put_value n.bytes (said_parameter env os n p).declared es) (value_put d n.bytes (said_parameter env os n p).declared es (value_numbered d r.known t.good (is_signed p.value_type) r.range t) s)

parameters_numbered : (d : Design) (outer : Env) (os : List Override) (ds : List Declaration) (es : List Entry) → AreNumberedEntries d es → AreNumberedEntries d (said_parameters outer os ds es).entries
parameters_numbered d outer os [] es s = s
parameters_numbered d outer os (a ∷ ds) es s = one_parameter d outer os ds es s (λ fs k. parameters_numbered d outer os ds fs k) a.name a.sort

signal_put : (d : Design) (m : SignalMeaning) (es : List Entry) → AreNumberedEntries d es → AreNumberedEntries d (put_signal m es)
signal_put d m [] s = tt
signal_put d m (e ∷ es) s = (of (same_name e.name m.signal.name), signal_put d m es s.1)
  where
    of : (b : Bool) → IsNumberedDeclared d (if b then record e { declared = OfSignal m } else e).declared
    of true = tt
    of false = s.0

signals_put : (d : Design) (ss : List SaidSignal) (es : List Entry) → AreNumberedEntries d es → AreNumberedEntries d (put_signals ss es)
signals_put d [] es s = s
signals_put d (x ∷ ss) es s = signals_put d ss (put_signal x.meaning es) (signal_put d x.meaning es s)

blocks_numbered : (d : Design) (bs : List BlockName) → AreNumberedEntries d (block_entries bs)
blocks_numbered d [] = tt
blocks_numbered d (b ∷ bs) = of b.written (blocks_numbered d bs)
  where
    of : (c : Bool) → AreNumberedEntries d (block_entries bs) → AreNumberedEntries d ((if c then (record { name = b.name; place = b.place; declared = OfScope } ∷ []) else []) ++ block_entries bs)
    of true h = (tt, h)
    of false h = h

-- ---- what is still to be read

abbrev AreNumberedPieces : Design → Said → Type 0
AreNumberedPieces d s = Each (IsNumberedPiece d) s.pieces

every_said : {A : Type 0} (d : Design) (f : A → Said) (xs : List A) → ((a : A) → AreNumberedPieces d (f a)) → AreNumberedPieces d (all_said f xs)
every_said d f [] h = tt
every_said d f (a ∷ xs) h = each_append (IsNumberedPiece d) (f a).pieces (all_said f xs).pieces (h a) (every_said d f xs h)

instance_numbered : (d : Design) (around : Around) (place : ℕ) (m : Option Module) (os : List Override) (i : tree.Instance) → AreNumberedPieces d (instance_said around place m os i)
instance_numbered d around place None os i = tt
instance_numbered d around place (Some m) os i = (tt, tt)

nested_numbered : (d : Design) (around : Around) → AreNumberedFrames d around.env.frames → (bs : List Nested) → Each (IsNumberedPiece d) (map (nested_piece around) bs)
nested_numbered d around s [] = tt
nested_numbered d around s (b ∷ bs) = (of b.turn, nested_numbered d around s bs)
  where
    of : (t : Option Turn) → AreNumberedFrames d (turned around.env t).frames
    of None = s
    of (Some t) = s

block_numbered : (d : Design) (limits : Limits) (around : Around) (loops : Loops) → AreNumberedFrames d around.env.frames → (b : tree.AlwaysBlock) (ns : List NamedBlock) → AreNumberedPieces d (block_by ns limits around loops b)
block_numbered d limits around loops s b [] = (tt, tt)
block_numbered d limits around loops s b (n ∷ ns) = (s, tt)

item_numbered : (d : Design) (limits : Limits) (source : Source) (around : Around) (loops : Loops) → AreNumberedFrames d around.env.frames → (item : tree.Item) (made : Made) → AreNumberedPieces d (item_said limits source around loops item made)
item_numbered d limits source around loops s (tree.SignalsItem t) made = signals_each (IsNumberedPiece d) (λ p. tt) (λ q st. tt) around.env t
item_numbered d limits source around loops s (tree.ParametersItem t) made = nested_numbered d around s made.blocks
item_numbered d limits source around loops s (tree.AssignsItem place assigns) made = every_said d (assign_said around.env place) assigns (λ a. (tt, tt))
item_numbered d limits source around loops s (tree.AlwaysItem block) made = block_numbered d limits around loops s block (named_blocks block.statement)
item_numbered d limits source around loops s (tree.InitialItem block) made = (tt, tt)
item_numbered d limits source around loops s (tree.GenvarsItem place names) made = nested_numbered d around s made.blocks
item_numbered d limits source around loops s (tree.IntegersItem place names) made = nested_numbered d around s made.blocks
item_numbered d limits source around loops s (tree.FunctionItem function) made = nested_numbered d around s made.blocks
item_numbered d limits source around loops s (tree.InstancesItem t) made =
    let m = find_module source t.of.bytes in
    let o = said_overrides t.of m t.overrides around.env in
    every_said d (instance_said around t.of.place m o.overrides) t.instances (instance_numbered d around t.of.place m o.overrides)
item_numbered d limits source around loops s (tree.GenerateFor head block) made = nested_numbered d around s made.blocks
item_numbered d limits source around loops s (tree.GenerateIf place c taken other) made = nested_numbered d around s made.blocks
item_numbered d limits source around loops s (tree.GenerateCase place subject arms other) made = nested_numbered d around s made.blocks

items_numbered : (d : Design) (limits : Limits) (source : Source) (around : Around) (loops : Loops) → AreNumberedFrames d around.env.frames → (items : List tree.Item) (made : List Made) → AreNumberedPieces d (items_said limits source around loops items made)
items_numbered d limits source around loops s [] made = tt
items_numbered d limits source around loops s (i ∷ is) [] = tt
items_numbered d limits source around loops s (i ∷ is) (m ∷ ms) =
    each_append (IsNumberedPiece d) (item_said limits source around loops i m).pieces (items_said limits source around (loops_after limits around.env loops i) is ms).pieces (item_numbered d limits source around loops s i m)
    (items_numbered d limits source around (loops_after limits around.env loops i) s is ms)

-- ---- a scope

pub scopes_numbered : ScopesAreNumbered
scopes_numbered d limits source t totals s h = record {
  names = names;
  pieces =
      each_append (IsNumberedPiece d) (header_said (around_in limits t totals).env t.contents).pieces (items_said limits source (around_in limits t totals) (loops_in limits t totals) (items_of t.contents) (made_in limits t totals)).pieces
      (header_each (IsNumberedPiece d) (λ p. tt) (λ q st. tt) (around_in limits t totals).env t.contents)
      (items_numbered d limits source (around_in limits t totals) (loops_in limits t totals) (names, s) (items_of t.contents) (made_in limits t totals));
}
  where
    before : AreNumberedEntries d (entries_in t totals)
    before = signals_put d (signals_in t totals) (parameters_in t totals).entries (parameters_numbered d t.env (overrides_of t.contents) (declarations_of t.contents) (first_in t totals) (first_numbered d totals.scopes (names_in t)))

    names : AreNumberedEntries d (survey limits source t totals).entries
    names =
        each_append (λ (e : Entry). IsNumberedDeclared d e.declared) (functions_in limits t totals).entries (block_entries (blocks_in limits t totals))
        (functions_numbered d limits totals.scopes t.env (counts_of totals) (declarations_of t.contents) (entries_in t totals) before h) (blocks_numbered d (blocks_in limits t totals))

-- ---- more functions

get_before : {A : Type 0} (xs ys : List A) (n : ℕ) (x : A) → slice_get xs n ≡ Some x → slice_get (xs ++ ys) n ≡ Some x
get_before [] ys n x h = absurd (no h)
  where
    no : None ≡ Some x → ⊥
    no e = cc
get_before (a ∷ xs) ys zero x h = h
get_before (a ∷ xs) ys (suc n) x h = get_before xs ys n x h

get_behind : {A : Type 0} (xs ys : List A) (x : A) → slice_get (xs ++ x ∷ ys) (length xs) ≡ Some x
get_behind [] ys x = refl
get_behind (a ∷ xs) ys x = get_behind xs ys x

stays_one : (d e : Design) (more : List Function) → e.functions ≡ d.functions ++ more → (x : Declared) → IsNumberedDeclared d x → IsNumberedDeclared e x
stays_one d e more h Later s = tt
stays_one d e more h (OfSignal m) s = tt
stays_one d e more h (OfParameter v r) s = tt
stays_one d e more h OfGenvar s = tt
stays_one d e more h (OfInteger owner) s = tt
stays_one d e more h (OfFunction None) s = tt
stays_one d e more h (OfFunction (Some f)) s = ap (λ (fs : List Function). slice_get fs f.number) h ∙ get_before d.functions more f.number (record { header = f.header; statement = f.statement }) s
stays_one d e more h OfScope s = tt

pub numbers_stay : NumbersStay
numbers_stay d e more fs h s = each_weaker (AreNumberedEntries d) (AreNumberedEntries e) (λ es k. each_weaker (λ (x : Entry). IsNumberedDeclared d x.declared) (λ (x : Entry). IsNumberedDeclared e x.declared) (λ x l. stays_one d e more h x.declared l) es k) fs s

functions_behind : (e : Design) (xs more : List Function) (first : ℕ) → first ≡ length xs → e.functions ≡ xs ++ more → HasFunctions e first more
functions_behind e xs [] first n h = tt
functions_behind e xs (f ∷ more) first n h = (
  ap (slice_get e.functions) n ∙ ap (λ (fs : List Function). slice_get fs (length xs)) h ∙ get_behind xs more f,
  functions_behind e (xs ++ f ∷ []) more (first + 1) (omega (arith, n, length-append xs (f ∷ []))) (h ∙ sym (append_assoc xs (f ∷ []) more)),
)

pub more_stand : MoreFunctionsStand
more_stand d e more h = functions_behind e d.functions more (length d.functions) refl h
