-- A function, by what is found of its local signals and of its statement.
use Rattle.std.proofs.Common.{◌≡◌, ◌+◌, ℕ, suc, Bool, true, false, ◌&&◌, ◌||◌, ◌==◌, List, [], ◌∷◌, ◌++◌, map, length, nat_lt, nat_le, sum_by, length-append, is_none, Option, refl, sym, ap, ◌∙◌, subst, append_assoc, arith}
use Rattle.std.proofs.lemmas.List.{length-map}
use Rattle.std.proofs.lemmas.List.Sums.{sum_by-cons, sum_by-append}
use Rattle.vs_design.specs.Expressions.{signal_length, local_signals}
use Rattle.vs_design.specs.Elaborated.{is_nil}
use Rattle.vs_grammar.specs.Trees as tree
use Rattle.vs_const.specs.declared.faults.Fault.{Fault}
use Rattle.vs_const.specs.declared.rules.Rule.TheVariants.{FunctionRule}
use Rattle.vs_const.specs.CallDepths.{calls_in}
use Rattle.vs_const.specs.Expressions.{is_clean}
use Rattle.vs_const.specs.Meanings.{SignalMeaning}
use Rattle.vs_const.specs.MentionViews.{kept, kept_of}
use Rattle.vs_const.specs.declared.names.SignalShape.{SignalShape}
use Rattle.vs_const.specs.Faults.{least, better, fault_if}
use Rattle.vs_const.proofs.Least.{least_append}
use Rattle.vs_elaborated.specs.Environments.{Env, inside_function}
use Rattle.vs_elaborated.specs.Functions as spec
use Rattle.vs_elaborated.specs.Statements as statements
use Rattle.vs_bodies.specs.declared.said.StatementSaid.{StatementSaid}
use Rattle.vs_bodies.specs.Said.{IsSaid}
use Rattle.vs_scope.specs.declared.functions.SaidFunction.{SaidFunction}
use Rattle.vs_scope.specs.declared.functions.SaidHeader.{SaidHeader}
use Rattle.vs_scope.specs.declared.inside.Inside.{Inside}
use Rattle.vs_scope.specs.declared.inside.SaidLocals.{SaidLocals}
use Rattle.vs_scope.specs.Frames.{view_env}
use Rattle.vs_scope.specs.Functions.{IsOfParts, IsSaidFunction}
use Rattle.vs_scope.specs.Inside.{all_bits, IsSaidLocals}
use Rattle.vs_scope.specs.LocalLists.{local_faults}
use Rattle.vs_scope.specs.Locals.{inside_names, inside_declared, AreLocals}
use Rattle.vs_scope.proofs.InsideNames.{names_inside, declared_inside}
use Rattle.vs_scope.proofs.LocalLists.{signal_bits, input_bits}

bits_in : (ss : List spec.LocalSignal) → sum_by signal_length (map (λ (s : spec.LocalSignal). s.meaning.signal) ss) ≡ signal_bits ss
bits_in [] = refl
bits_in (s ∷ ss) =
    let rest = bits_in ss in
    let one = sum_by-cons signal_length s.meaning.signal (map (λ (x : spec.LocalSignal). x.meaning.signal) ss) in
    let other = sum_by-cons (λ (x : spec.LocalSignal). signal_length x.meaning.signal) s ss in
    omega (arith, rest, one, other)

bits_passed_in : (ps : List spec.Passed) → sum_by signal_length (map (λ (p : spec.Passed). p.input.signal) ps) ≡ input_bits ps
bits_passed_in [] = refl
bits_passed_in (p ∷ ps) =
    let rest = bits_passed_in ps in
    let one = sum_by-cons signal_length p.input.signal (map (λ (x : spec.Passed). x.input.signal) ps) in
    let other = sum_by-cons (λ (x : spec.Passed). signal_length x.input.signal) p ps in
    omega (arith, rest, one, other)

-- how many bits all local signals have
header_bits : (f : tree.Function) (l : spec.Locals) → sum_by signal_length (local_signals (spec.header_of f l)) ≡ all_bits l
header_bits f l =
    let h = spec.header_of f l in
    let ins = map (λ (s : spec.LocalSignal). s.meaning.signal) l.inputs in
    let passed = map (λ (p : spec.Passed). p.input.signal) l.passed in
    let whole = sum_by-append signal_length h.inputs (h.result ∷ h.own) in
    let front = sum_by-append signal_length ins passed in
    let first = bits_in l.inputs in
    let second = bits_passed_in l.passed in
    let third = bits_in (l.result ∷ l.own) in
    omega (arith, whole, front, first, second, third)

nil_is : (ss : List spec.LocalSignal) (n : ℕ) → n ≡ length ss → (n == 0) ≡ is_nil ss
nil_is [] n h = ap (λ (k : ℕ). k == 0) h
nil_is (s ∷ ss) n h = grind (arith, h)

deep_is : (n : ℕ) → nat_le 64 n ≡ nat_lt 64 (suc n)
deep_is n = grind arith

-- the size of a function
size_is : (f : tree.Function) (l : spec.Locals) (inputs depth bits : ℕ) → inputs ≡ length l.inputs → bits ≡ all_bits l
    → fault_if ((inputs == 0) || (nat_le 64 depth || nat_lt spec.most_bits bits)) FunctionRule f.place ≡ spec.size_faults f.place l (spec.header_of f l) (suc depth)
size_is f l inputs depth bits h k =
    ap (λ (b : Bool). fault_if (b || (nat_le 64 depth || nat_lt spec.most_bits bits)) FunctionRule f.place) (nil_is l.inputs inputs h)
    ∙ ap (λ (b : Bool). fault_if (is_nil l.inputs || (b || nat_lt spec.most_bits bits)) FunctionRule f.place) (deep_is depth)
    ∙ ap (λ (n : ℕ). fault_if (is_nil l.inputs || (nat_lt 64 (suc depth) || nat_lt spec.most_bits n)) FunctionRule f.place) (k ∙ sym (header_bits f l))

clean_is : (fs : List Fault) → is_none (least fs) ≡ is_clean fs
clean_is [] = refl
clean_is (f ∷ fs) = refl

-- what is kept of as many
pub reads_count : (xs : List SignalShape) (ys : List SignalMeaning) → map kept xs ≡ map kept_of ys → length xs ≡ length ys
reads_count xs ys h = sym (length-map xs kept) ∙ ap length h ∙ length-map ys kept_of

-- a statement in its function
statement_said : (outer : Env) (most scope : ℕ) (f : tree.Function) (i : Inside) (c : StatementSaid) → i.here.in_function ≡ true → view_env i.here ≡ inside_function outer []
    → AreLocals i.locals (spec.locals_in scope outer f) (spec.declared_locals f)
    → IsSaid c (statements.unrolled_within most f.statement (record { declared = inside_declared i; in_function = true; takes_variables = true; clocked = false; unrolls = true }) (inside_names i))
    → IsSaid c (statements.unrolled_within most f.statement (spec.function_body (spec.locals_in scope outer f)) (spec.function_names scope outer f))
statement_said outer most scope f i c t e a h =
    let l = spec.locals_in scope outer f in
    subst (λ find. IsSaid c (statements.unrolled_within most f.statement (spec.function_body l) find)) (names_inside i scope outer f t e a)
    (subst (λ declared. IsSaid c (statements.unrolled_within most f.statement (record { declared = declared; in_function = true; takes_variables = true; clocked = false; unrolls = true }) (inside_names i))) (declared_inside i l (spec.declared_locals f) a) h)

-- what its local signals say, in short
abbrev pub header_said : SaidLocals → (passed : ℕ) → SaidHeader
header_said s passed = record { inputs = s.locals.inputs; passed = passed; range = s.result_range; signed = s.result_signed; fault = s.fault; known = s.known; bits = s.bits }

pub function_said : (outer : Env) (number most scope : ℕ) (f : tree.Function) (i : Inside) (s : SaidLocals) (c : StatementSaid) (passed : ℕ) (r : SaidFunction) → i.here.in_function ≡ true → view_env i.here ≡ inside_function outer [] → passed ≡ length (spec.function_reads outer f) → i.locals ≡ s.locals
    → IsSaidLocals s (spec.locals_in scope outer f) (spec.declared_locals f)
    → IsSaid c (statements.unrolled_within most f.statement (record { declared = inside_declared i; in_function = true; takes_variables = true; clocked = false; unrolls = true }) (inside_names i))
    → IsOfParts r f.place number (header_said s passed) c
    → IsSaidFunction r (spec.said_function number most scope outer f)
function_said outer number most scope f i s c passed r t e many same locals h is =
    let l = spec.locals_in scope outer f in
    let u = statements.unrolled_within most f.statement (spec.function_body l) (spec.function_names scope outer f) in
    let says = statement_said outer most scope f i c t e (subst (λ x. AreLocals x l (spec.declared_locals f)) (sym same) locals.locals) h in
    let header = spec.header_of f l in
    let repeated = statements.repeated_locals [] (spec.declared_locals f) in
    let ranges = local_faults (spec.all_locals l) in
    let sizes = spec.size_faults f.place l header (suc (calls_in u.statement)) in
    let size = least (fault_if ((s.locals.inputs == 0) || (nat_le 64 c.depth || nat_lt spec.most_bits s.bits)) FunctionRule f.place) in
    let sized : size ≡ least sizes =
    ap (λ (k : ℕ). least (fault_if ((s.locals.inputs == 0) || (nat_le 64 k || nat_lt spec.most_bits s.bits)) FunctionRule f.place)) says.depth
    ∙ ap least (size_is f l s.locals.inputs (calls_in u.statement) s.bits locals.locals.inputs locals.bits) in
    let whole : r.fault ≡ least (repeated ++ (ranges ++ (u.faults ++ sizes))) =
    is.fault ∙ ap (λ (x : Option Fault). better x (better c.fault size)) locals.fault
    ∙ ap (better (least (repeated ++ ranges))) (ap (λ (x : Option Fault). better x size) says.fault ∙ ap (better (least u.faults)) sized ∙ sym (least_append u.faults sizes))
    ∙ sym (least_append (repeated ++ ranges) (u.faults ++ sizes)) ∙ ap least (append_assoc repeated ranges (u.faults ++ sizes)) in
    let counted : r.shape.inputs + r.shape.passed ≡ length header.inputs =
    ap (λ (n : ℕ). n + r.shape.passed) (is.inputs ∙ locals.locals.inputs) ∙ ap (λ (n : ℕ). length l.inputs + n) (is.passed ∙ many ∙ sym (passed_count (spec.behind_all (record { scope = scope; signal = 0; bit = 0 }) l.inputs) (spec.function_reads outer f)))
    ∙ sym (length-append (map (λ (x : spec.LocalSignal). x.meaning.signal) l.inputs) (map (λ (p : spec.Passed). p.input.signal) l.passed) ∙ ap (λ (n : ℕ). n + length (map (λ (p : spec.Passed). p.input.signal) l.passed)) (count l.inputs) ∙ ap (λ (n : ℕ). length l.inputs + n) (inputs_count l.passed)) in
    record {
      shape = record {
        number = is.number_is;
        inputs = counted;
        passed = is.passed ∙ many;
        range = is.range ∙ locals.range;
        signed = is.signed ∙ locals.signed;
        known = is.known ∙ ap (λ (b : Bool). b && is_none r.fault) locals.known ∙ ap (λ (x : Option Fault). spec.are_known (spec.all_locals l) && is_none x) whole
            ∙ ap (λ (b : Bool). spec.are_known (spec.all_locals l) && b) (clean_is (repeated ++ (ranges ++ (u.faults ++ sizes))));
        words = refl;
        depth = is.depth ∙ says.depth;
      };
      fault = whole;
      copies = is.copies ∙ says.copies;
    }
  where
    inputs_count : (ps : List spec.Passed) → length (map (λ (p : spec.Passed). p.input.signal) ps) ≡ length ps
    inputs_count [] = refl
    inputs_count (p ∷ ps) = ap suc (inputs_count ps)

    passed_count : (start : spec.Start) (ms : List SignalMeaning) → length (spec.passed_signals start ms) ≡ length ms
    passed_count start [] = refl
    passed_count start (m ∷ ms) = ap suc (passed_count (spec.behind_passed start m) ms)

    count : (ss : List spec.LocalSignal) → length (map (λ (x : spec.LocalSignal). x.meaning.signal) ss) ≡ length ss
    count [] = refl
    count (x ∷ ss) = ap suc (count ss)
