-- The parts of a concatenation, one after the other.
use Rattle.std.proofs.Common.{rules, length-append, ◌≡◌, ℕ, zero, suc, ◌+◌, ◌*◌, ◌<◌, ◌≤◌, Bool, true, false, not, ◌&&◌, List, [], ◌∷◌, ◌++◌, length, get_or, map, max, take, Option, Some, None, slice_get, Vec, Box, Global, Result, OnOk, refl, sym, ap, ◌∙◌, subst, arith, append_assoc}
use Rattle.std.proofs.Math.Seq.{take-suc, take-length}
use Rattle.std.proofs.lemmas.List.{map-append, length-map}
use denote.Param.Weighed.{most, at_most}
use Rattle.vs_design.specs.Expressions as E
use Rattle.vs_design.specs.Expressions.{Header, Expression}
use Rattle.vs_design.specs.Statements.{Function}
use Rattle.vs_design.specs.Designs.{Design}
use Rattle.vs_design.specs.Elaborated.{are_as_many}
use Rattle.vs_grammar.specs.Trees as tree
use Rattle.vs_grammar.specs.Trees.{expr_place}
use Rattle.vs_grammar.specs.Shapes.{IsExpr, AreParts, AreExprs}
use Rattle.vs_grammar.specs.Depths.{expr_depth, exprs_depth}
use Rattle.vs_ast.proofs.expressions.Expr.TheLaws.{the_size}
use Rattle.vs_ast.specs.declared.expressions.Expr.{Expr, Apply, Concatenation, Replication, the_lemmas}
use Rattle.vs_ast.specs.Views.{expr, exprs, name as name_tree}
use Rattle.vs_ast.specs.declared.names.Name.{Name}
use Rattle.vs_ast.proofs.Rows.{expr_rows}
use Rattle.vs_const.specs.declared.faults.Fault.{Fault}
use Rattle.vs_const.specs.declared.rules.Rule.TheVariants.{FunctionRule}
use Rattle.vs_const.specs.Faults.{fault_if}
use Rattle.vs_const.specs.Meanings.{SignalMeaning, FunctionMeaning, Meaning, AValue, Undefined, ASignal, AMemory, AFunction, Incomplete, Another, Barred, Unknown, Find, steady, IsFair, IsFairMeaning}
use Rattle.vs_const.specs.Typed.{Typed, begins_at, natural, copies_typed}
use Rattle.vs_const.specs.Expressions.{constant, unsized_faults, typed, typed_parts, TypedItems, passed_items, with_passed, call_if, applied, typed_arguments, replicated, replication_typed}
use Rattle.vs_const.specs.Sound.{AreSoundSignals, IsSound, AreSound, IsFine}
use Rattle.vs_const.proofs.Formed.{both_nil, split, typed_fine, natural_fine}
use Rattle.vs_const.proofs.Rows.{part_shaped}
use Rattle.vs_const.proofs.Steady.{sound_needed, steady_sound}
use Rattle.vs_flat.specs.Trees.{joined}
use Rattle.vs_elaborated.specs.Numbers.{IsNumbered, AreNumbered}
use Rattle.vs_build.specs.Drafts.{Root, Draft, home_in, home, and_root, and_roots, most_levels, EndsWith, AddsExpression, AddsParts}
use Rattle.vs_build.specs.Buildable.{IsBuildable, AreArguments, AreBuildable, ArePassable, IsWithin, part_expressions, passed_expressions}
use Rattle.vs_build.proofs.Arms.{begins_twice, noted_clean}
use Rattle.vs_build.proofs.Copies.{nil_end}

pub concatenation_view : (place : ℕ) (list : Vec Expr Global) → expr (Concatenation place list) ≡ tree.Concatenation place (exprs list.items)
concatenation_view place list = search (rules, expr_rows, the_lemmas)

-- ---- each part

clean_at : (find : Find) (needed : Bool) (es : List Expr) (i : ℕ) (x : Expr) → (typed_parts (exprs es) find needed).faults ≡ [] → i < length es → (typed (expr (get_or es i x)) find needed).faults ≡ []
clean_at find needed [] i x h k = absurd (omega arith)
clean_at find needed (e ∷ []) zero x h k = (both_nil (typed (expr e) find needed).faults (unsized_faults (expr e)) h).0
clean_at find needed (e ∷ []) (suc i) x h k = absurd (omega arith)
clean_at find needed (e ∷ f ∷ es) zero x h k =
    let p = both_nil ((typed (expr e) find needed).faults ++ unsized_faults (expr e)) (typed_parts (exprs (f ∷ es)) find needed).faults h in
    (both_nil (typed (expr e) find needed).faults (unsized_faults (expr e)) p.0).0
clean_at find needed (e ∷ f ∷ es) (suc i) x h k =
    let p = both_nil ((typed (expr e) find needed).faults ++ unsized_faults (expr e)) (typed_parts (exprs (f ∷ es)) find needed).faults h in
    clean_at find needed (f ∷ es) i x p.1 (omega arith)

depth_at : (es : List Expr) (i : ℕ) (x : Expr) → i < length es → expr_depth (expr (get_or es i x)) ≤ exprs_depth (exprs es)
depth_at [] i x k = absurd (omega arith)
depth_at (e ∷ es) zero x k = omega arith
depth_at (e ∷ es) (suc i) x k = omega (arith, depth_at es i x (omega arith))

pub each_part : (d : Design) (find : Find) (needed : Bool) (es : List Expr) (i : ℕ) (x : Expr) → AreBuildable d find needed (exprs es) → i < length es → x ≡ get_or es i x → IsBuildable d find needed (expr x)
each_part d find needed es i x b k e = record {
  shaped = part_shaped es i x b.shaped k e;
  sound = b.sound;
  numbered = b.numbered;
  clean = subst (λ y. (typed (expr y) find needed).faults ≡ []) (sym e) (clean_at find needed es i x b.clean k);
  shallow = omega (arith, b.shallow, depth_at es i x k, ap (λ y. expr_depth (expr y)) e);
}

pub part_levels : (es : List Expr) (i : ℕ) (x : Expr) → i < length es → x ≡ get_or es i x → expr_depth (expr x) ≤ exprs_depth (exprs es)
part_levels es i x k e = omega (arith, depth_at es i x k, ap (λ y. expr_depth (expr y)) e)

pub part_falls : (es : List Expr) (i : ℕ) (x : Expr) (t : ℕ) → i < length es → x ≡ get_or es i x → 4 * most the_size es + 2 ≡ t → 4 * the_size x + 1 < t
part_falls es i x t h k m =
    let b : the_size x ≤ most the_size es = subst (λ z. the_size z ≤ most the_size es) (sym k) (at_most the_size es i x h) in
    omega (arith, b, m)

pub taken_more : (find : Find) (needed : Bool) (es : List Expr) (i : ℕ) (x : Expr) → i < length es → x ≡ get_or es i x → part_expressions find needed (take (i + 1) es) ≡ part_expressions find needed (take i es) ++ (typed (expr x) find needed).expression ∷ []
taken_more find needed es i x h e =
    let t = λ (y : Expr). (typed (expr y) find needed).expression in
    let next : i + 1 ≡ suc i = omega arith in
    ap (λ n. map t (take n es)) next ∙ ap (map t) (take-suc es i x h) ∙ map-append t (take i es) (get_or es i x ∷ []) ∙ ap (λ y. map t (take i es) ++ t y ∷ []) (sym e)

pub taken_all : (find : Find) (needed : Bool) (es : List Expr) (i : ℕ) → i ≡ length es → part_expressions find needed (take i es) ≡ part_expressions find needed es
taken_all find needed es i e = ap (λ n. part_expressions find needed (take n es)) e ∙ ap (part_expressions find needed) (take-length es)

-- ---- what was added

pub parts_none : (s : Draft) (m : ℕ) → AddsParts s s [] m
parts_none s m = record { roots = []; are = refl; few = omega arith; is = ap (λ xs. record s { expressions = xs }) (nil_end s.expressions) }

pub levels-append : (xs ys : List Root) → most_levels (xs ++ ys) ≡ max (most_levels xs) (most_levels ys)
levels-append [] ys = omega arith
levels-append (x ∷ xs) ys = ap (λ m. max x.levels m) (levels-append xs ys) ∙ omega arith

pub parts_more : (s q v : Draft) (ts : List Expression) (t : Expression) (m k : ℕ) → AddsParts s q ts m → AddsExpression q v t k → k ≤ m → AddsParts s v (ts ++ t ∷ []) m
parts_more s q v ts t m k h a le =
    let new : Root = record { tree = t; levels = a.levels } in
    record {
      roots = h.roots ++ new ∷ [];
      are = map-append (λ (r : Root). r.tree) h.roots (new ∷ []) ∙ ap (λ xs. xs ++ t ∷ []) h.are;
      few = omega (arith, levels-append h.roots (new ∷ []), h.few, a.few, le);
      is = a.is ∙ ap (λ z. and_root z new) h.is ∙ ap (λ xs. record s { expressions = xs }) (append_assoc s.expressions h.roots (new ∷ []));
    }

-- others behind them
pub parts_both : (s q v : Draft) (ts us : List Expression) (m : ℕ) → AddsParts s q ts (1 + m) → AddsParts q v us 1 → AddsParts s v (ts ++ us) (1 + m)
parts_both s q v ts us m h k = record {
  roots = h.roots ++ k.roots;
  are = map-append (λ (r : Root). r.tree) h.roots k.roots ∙ ap (λ xs. xs ++ map (λ (r : Root). r.tree) k.roots) h.are ∙ ap (λ xs. ts ++ xs) k.are;
  few = omega (arith, levels-append h.roots k.roots, h.few, k.few);
  is = k.is ∙ ap (λ z. and_roots z k.roots) h.is ∙ ap (λ xs. record s { expressions = xs }) (append_assoc s.expressions h.roots k.roots);
}

pub parts_are : (s v : Draft) (ts us : List Expression) (m : ℕ) → ts ≡ us → AddsParts s v ts m → AddsParts s v us m
parts_are s v ts us m e h = subst (λ xs. AddsParts s v xs m) e h

pub ends_parts : (s v : Draft) (ts : List Expression) (m n : ℕ) → AddsParts s v ts m → m ≤ 254 → n ≡ length ts → EndsWith n v
ends_parts s v ts m n h le e = record { before = s; last = h.roots; is = h.is; many = sym (length-map h.roots (λ (r : Root). r.tree)) ∙ ap length h.are ∙ sym e; few = omega (arith, h.few, le) }

pub parts_home : (s v : Draft) (ts : List Expression) (m : ℕ) → AddsParts s v ts m → home s ≡ home v
parts_home s v ts m h = sym (ap home h.is)

pub part_after : (s v : Draft) (ts : List Expression) (m : ℕ) (find : Find) (needed : Bool) (e : tree.Expr) → AddsParts s v ts m → IsBuildable (home s) find needed e → IsBuildable (home v) find needed e
part_after s v ts m find needed e h b = subst (λ d. IsBuildable d find needed e) (parts_home s v ts m h) b

-- ---- concatenations

pub parts_joined : (find : Find) (needed : Bool) (es : List Expr) → 1 ≤ length es → joined (part_expressions find needed es) ≡ (typed_parts (exprs es) find needed).expression
parts_joined find needed [] h = absurd (omega arith)
parts_joined find needed (e ∷ []) h = refl
parts_joined find needed (e ∷ f ∷ es) h = ap (λ t. E.Join (typed (expr e) find needed).expression t) (parts_joined find needed (f ∷ es) (omega arith))

pub part_count : (find : Find) (needed : Bool) (es : List Expr) → length (part_expressions find needed es) ≡ length es
part_count find needed es = length-map es (λ (y : Expr). (typed (expr y) find needed).expression)

pub concatenation_parts : (d : Design) (find : Find) (needed : Bool) (place : ℕ) (parts : tree.Exprs) → IsBuildable d find needed (tree.Concatenation place parts) → AreBuildable d find needed parts
concatenation_parts d find needed place parts b = record { shaped = b.shaped; sound = b.sound; numbered = b.numbered; clean = noted_clean needed place (copies_typed 1 (typed_parts parts find needed)) b.clean; shallow = omega (arith, b.shallow) }

-- a concatenation, or a replication, of parts that were built
pub join_arm : {U F : Type 0} (r : Result U F) (s v new : Draft) (find : Find) (needed : Bool) (at copies n : ℕ) (es xs : List Expr) → xs ≡ es → 1 ≤ length es → n ≡ length es
    → AddsParts s v (part_expressions find needed xs) (1 + exprs_depth (exprs xs))
    → ((q : Draft) (ts : List Expression) (m : ℕ) → AddsParts q v ts m → length ts ≡ n → OnOk r (AddsExpression q new (E.At at (E.Repeat copies (joined ts))) (1 + m)))
    → OnOk r (AddsExpression s new (E.At at (E.Repeat copies (typed_parts (exprs es) find needed).expression)) (1 + (1 + exprs_depth (exprs es))))
join_arm r s v new find needed at copies n es xs e some count h f =
    let made = f s (part_expressions find needed xs) (1 + exprs_depth (exprs xs)) h (part_count find needed xs ∙ ap length e ∙ sym count) in
    let same : OnOk r (AddsExpression s new (E.At at (E.Repeat copies (joined (part_expressions find needed es)))) (1 + (1 + exprs_depth (exprs es)))) =
    subst (λ ys. OnOk r (AddsExpression s new (E.At at (E.Repeat copies (joined (part_expressions find needed ys)))) (1 + (1 + exprs_depth (exprs ys))))) e made
    in
    subst (λ t. OnOk r (AddsExpression s new (E.At at (E.Repeat copies t)) (1 + (1 + exprs_depth (exprs es))))) (parts_joined find needed es some) same

-- ---- calls (10.4.3)

argument_clean : (find : Find) (needed : Bool) (es : List Expr) (i : ℕ) (x : Expr) → (typed_arguments (exprs es) find needed).faults ≡ [] → i < length es → (typed (expr (get_or es i x)) find needed).faults ≡ []
argument_clean find needed [] i x h k = absurd (omega (arith, k))
argument_clean find needed (e ∷ es) zero x h k = (both_nil (typed (expr e) find needed).faults (typed_arguments (exprs es) find needed).faults h).0
argument_clean find needed (e ∷ es) (suc i) x h k = argument_clean find needed es i x (both_nil (typed (expr e) find needed).faults (typed_arguments (exprs es) find needed).faults h).1 (omega (arith, k))

argument_shaped : (es : List Expr) (i : ℕ) (x : Expr) → AreExprs (exprs es) → i < length es → IsExpr (expr (get_or es i x))
argument_shaped [] i x h k = absurd (omega (arith, k))
argument_shaped (e ∷ es) zero x h k = h.0
argument_shaped (e ∷ es) (suc i) x h k = argument_shaped es i x h.1 (omega (arith, k))

pub each_argument : (d : Design) (find : Find) (needed : Bool) (es : List Expr) (i : ℕ) (x : Expr) → AreArguments d find needed (exprs es) → i < length es → x ≡ get_or es i x → IsBuildable d find needed (expr x)
each_argument d find needed es i x b k e = record {
  shaped = subst (λ y. IsExpr (expr y)) (sym e) (argument_shaped es i x b.shaped k);
  sound = b.sound;
  numbered = b.numbered;
  clean = subst (λ y. (typed (expr y) find needed).faults ≡ []) (sym e) (argument_clean find needed es i x b.clean k);
  shallow = omega (arith, b.shallow, depth_at es i x k, ap (λ y. expr_depth (expr y)) e);
}

pub arguments_are : (find : Find) (needed : Bool) (es : List Expr) → E.items_of (part_expressions find needed es) ≡ (typed_arguments (exprs es) find needed).items
arguments_are find needed [] = refl
arguments_are find needed (e ∷ es) = ap (E.Item (typed (expr e) find needed).expression) (arguments_are find needed es)

pub apply_view : (name : Name) (list : Vec Expr Global) → expr (Apply name list) ≡ tree.Apply (name_tree name) (exprs list.items)
apply_view name list = search (rules, expr_rows, the_lemmas)

-- behind them come the signals that it passes
pub whole_call : (find : Find) (needed : Bool) (place : ℕ) (ss : List SignalMeaning) (es : List Expr) → E.items_of (part_expressions find needed es ++ passed_expressions place ss) ≡ (with_passed place ss (typed_arguments (exprs es) find needed)).items
whole_call find needed place ss [] = passed_are ss
  where
    passed_are : (ss : List SignalMeaning) → E.items_of (passed_expressions place ss) ≡ passed_items place ss
    passed_are [] = refl
    passed_are (s ∷ ss) = ap (E.Item (E.At place (E.Name s.signal))) (passed_are ss)
whole_call find needed place ss (e ∷ es) = ap (E.Item (typed (expr e) find needed).expression) (whole_call find needed place ss es)

-- what a call without a fault calls, and its arguments
pub record IsCall (d : Design) (find : Find) (needed : Bool) (name : tree.Name) (arguments : tree.Exprs) : Type 0 where
  pub constant_no : needed ≡ false
  pub function : FunctionMeaning
  pub means : find name.bytes ≡ AFunction function
  pub parts : AreArguments d find needed arguments
  pub passable : AreSoundSignals d function.passed
  pub many : are_as_many (with_passed name.place function.passed (typed_arguments arguments find needed)).items function.header.inputs ≡ true
  pub expression : (typed (tree.Apply name arguments) find needed).expression ≡ begins_at name.place (E.Call function.header function.statement (with_passed name.place function.passed (typed_arguments arguments find needed)).items)

both_true : (a b c : Bool) → (a && (b && c)) ≡ true → (b ≡ true) × (c ≡ true)
both_true true true true h = (refl, refl)
both_true true true false h = cc
both_true true false c h = cc
both_true false b c h = cc

call_faults : (good : Bool) (f : FunctionMeaning) (t : TypedItems) (fs : List Fault) → (call_if good f t fs).faults ≡ fs
call_faults true f t fs = refl
call_faults false f t fs = refl

call_good : (good : Bool) (f : FunctionMeaning) (t : TypedItems) (fs : List Fault) → (call_if good f t fs).good ≡ true → good ≡ true
call_good true f t fs h = refl
call_good false f t fs h = cc

pub call_is : (d : Design) (find : Find) (needed : Bool) (name : tree.Name) (arguments : tree.Exprs) → IsBuildable d find needed (tree.Apply name arguments) → IsCall d find needed name arguments
call_is d find needed name arguments b = by needed (find name.bytes) refl refl (split (applied needed name.place (find name.bytes) t).good _ fine.good).0 clean
  where
    t : TypedItems
    t = typed_arguments arguments find needed

    fine : IsFine d needed (typed (tree.Apply name arguments) find needed)
    fine = typed_fine d find (tree.Apply name arguments) needed b.sound b.shaped b.clean

    clean : (applied needed name.place (find name.bytes) t).faults ≡ []
    clean = noted_clean needed name.place (applied needed name.place (find name.bytes) t) b.clean

    some_exprs : (es : tree.Exprs) → AreParts es → AreExprs es
    some_exprs tree.NoExpr x = absurd x
    some_exprs (tree.AndExpr e rest) x = x

    by : (n : Bool) (m : Meaning) → needed ≡ n → find name.bytes ≡ m → (applied n name.place m t).good ≡ true → (applied n name.place m t).faults ≡ [] → IsCall d find needed name arguments
    by true (AFunction f) e i g c = cc
    by false (AFunction f) e i g c =
        let whole = with_passed name.place f.passed t in
        let fits = are_as_many whole.items f.header.inputs in
        let fs = fault_if (f.known && not fits) FunctionRule name.place ++ t.faults in
        let good = call_good (f.known && (fits && t.good)) f whole fs g in
        let k = both_true f.known fits t.good good in
        let none = both_nil (fault_if (f.known && not fits) FunctionRule name.place) t.faults (sym (call_faults (f.known && (fits && t.good)) f whole fs) ∙ c) in
        record {
          constant_no = e;
          function = f;
          means = i;
          parts = record { shaped = some_exprs arguments b.shaped.1; sound = b.sound; numbered = b.numbered; clean = none.1; shallow = omega (arith, b.shallow) };
          passable = (subst (λ n. IsSound d n (AFunction f)) e (subst (IsSound d needed) i (b.sound name.bytes))).2;
          many = k.0;
          expression =
              ap (λ x. begins_at name.place (applied x name.place (find name.bytes) t).expression) e ∙ ap (λ x. begins_at name.place (applied false name.place x t).expression) i
              ∙ ap (λ x. begins_at name.place (call_if x f whole fs).expression) good;
        }
    by n (AValue v r turns) e i g c = cc
    by n (Undefined r) e i g c = cc
    by n (ASignal s) e i g c = cc
    by n (AMemory s) e i g c = cc
    by n Incomplete e i g c = cc
    by n Another e i g c = cc
    by n (Barred rule) e i g c = cc
    by n Unknown e i g c = cc

same_function : (f g : FunctionMeaning) → AFunction f ≡ AFunction g → f ≡ g
same_function f g e = cc

pub passable_there : (d : Design) (m : Meaning) (f : FunctionMeaning) → m ≡ AFunction f → AreSoundSignals d f.passed → ArePassable d m
passable_there d m f e h g i = subst (λ (x : FunctionMeaning). AreSoundSignals d x.passed) (same_function f g (sym e ∙ i)) h

-- also behind the arguments
pub passable_behind : (s v : Draft) (ts : List Expression) (n : ℕ) (m : Meaning) → AddsParts s v ts n → ArePassable (home s) m → ArePassable (home v) m
passable_behind s v ts n m h p = subst (λ z. ArePassable (home z) m) (sym h.is) p

-- as many arguments as inputs
pub counted : (ts : List Expression) (inputs : List E.Signal) → are_as_many (E.items_of ts) inputs ≡ true → length inputs ≡ length ts
counted [] [] h = refl
counted [] (i ∷ is) h = cc
counted (t ∷ ts) [] h = cc
counted (t ∷ ts) (i ∷ is) h = ap suc (counted ts is h)

-- so many it holds
pub held_count : (find : Find) (needed : Bool) (place : ℕ) (ss : List SignalMeaning) (es : List Expr) → length (part_expressions find needed es ++ passed_expressions place ss) ≡ length es + length ss
held_count find needed place ss es =
    length-append (part_expressions find needed es) (passed_expressions place ss) ∙ ap (λ (n : ℕ). n + length (passed_expressions place ss)) (part_count find needed es) ∙ ap (λ (n : ℕ). length es + n) (length-map ss (λ (s : SignalMeaning). E.At place (E.Name s.signal)))

pub call_many : (d : Design) (find : Find) (needed : Bool) (name : tree.Name) (es : List Expr) (k : IsCall d find needed name (exprs es)) → length k.function.header.inputs ≡ length es + length k.function.passed
call_many d find needed name es k =
    counted (part_expressions find needed es ++ passed_expressions name.place k.function.passed) k.function.header.inputs
    (ap (λ items. are_as_many items k.function.header.inputs) (whole_call find needed name.place k.function.passed es) ∙ k.many) ∙ held_count find needed name.place k.function.passed es

-- what is called is a function of the design, by its number
functions_there : (d : Design) (o : Option Header) → (home_in d o).functions ≡ d.functions
functions_there d None = refl
functions_there d (Some h) = refl

pub function_at : (s v : Draft) (ts : List Expression) (m : ℕ) (find : Find) (name : tree.Name) (f : FunctionMeaning) (number : ℕ) → AddsParts s v ts m → AreNumbered (home s) find → find name.bytes ≡ AFunction f → number ≡ f.number
    → slice_get v.design.functions number ≡ Some (record { header = f.header; statement = f.statement })
function_at s v ts m find name f number h n e i =
    let there = subst (IsNumbered (home s)) e (n name.bytes) in
    ap (λ (d : Draft). slice_get d.design.functions number) h.is ∙ ap (slice_get s.design.functions) i ∙ ap (λ (fs : List Function). slice_get fs f.number) (sym (functions_there s.design s.function)) ∙ there

-- a call of arguments that were built, with what it passes
pub call_arm : {U F : Type 0} (r : Result U F) (s v new : Draft) (find : Find) (needed : Bool) (at n : ℕ) (name : tree.Name) (f : FunctionMeaning) (es xs : List Expr) → xs ≡ es → n ≡ length xs + length f.passed
    → (typed (tree.Apply name (exprs es)) find needed).expression ≡ begins_at name.place (E.Call f.header f.statement (with_passed name.place f.passed (typed_arguments (exprs es) find needed)).items)
    → AddsParts s v (part_expressions find needed xs ++ passed_expressions name.place f.passed) (1 + exprs_depth (exprs xs))
    → ((q : Draft) (ts : List Expression) (m : ℕ) → AddsParts q v ts m → length ts ≡ n → OnOk r (AddsExpression q new (E.At at (E.Call f.header f.statement (E.items_of ts))) (1 + m)))
    → OnOk r (AddsExpression s new (begins_at at (typed (tree.Apply name (exprs es)) find needed).expression) (1 + (1 + exprs_depth (exprs es))))
call_arm r s v new find needed at n name f es xs e count is h g =
    let made = g s (part_expressions find needed xs ++ passed_expressions name.place f.passed) (1 + exprs_depth (exprs xs)) h (held_count find needed name.place f.passed xs ∙ sym count) in
    let whole = with_passed name.place f.passed (typed_arguments (exprs es) find needed) in
    let same : OnOk r (AddsExpression s new (E.At at (E.Call f.header f.statement (E.items_of (part_expressions find needed es ++ passed_expressions name.place f.passed)))) (1 + (1 + exprs_depth (exprs es)))) =
    subst (λ ys. OnOk r (AddsExpression s new (E.At at (E.Call f.header f.statement (E.items_of (part_expressions find needed ys ++ passed_expressions name.place f.passed)))) (1 + (1 + exprs_depth (exprs ys))))) e made
    in
    subst (λ t. OnOk r (AddsExpression s new t (1 + (1 + exprs_depth (exprs es)))))
    (ap (λ items. E.At at (E.Call f.header f.statement items)) (whole_call find needed name.place f.passed es) ∙ sym (begins_twice at name.place (E.Call f.header f.statement whole.items)) ∙ sym (ap (begins_at at) is)) same

-- ---- replications

replicated_faults : (n : Option ℕ) (fs : List Fault) (t : Typed) → (replicated n fs t).faults ≡ [] → (fs ≡ []) × (t.faults ≡ [])
replicated_faults None fs t h = both_nil fs t.faults h
replicated_faults (Some n) fs t h = both_nil fs t.faults h

pub record IsReplication (d : Design) (find : Find) (needed : Bool) (count : tree.Expr) (parts : tree.Exprs) : Type 0 where
  pub parts_are : AreBuildable d find needed parts
  pub count_is : IsWithin 1 64 (steady find) count

pub fair_of : (d : Design) (needed : Bool) (find : Find) → AreSound d needed find → IsFair find
fair_of d needed find s = λ name. of (find name) (s name)
  where
    of : (m : Meaning) → IsSound d needed m → IsFairMeaning m
    of (AValue v r turns) h = h.0
    of (Undefined r) h = tt
    of (ASignal t) h = tt
    of (AMemory t) h = tt
    of (AFunction f) h = tt
    of Incomplete h = tt
    of Another h = tt
    of (Barred rule) h = tt
    of Unknown h = tt

pub number_is : (d : Design) (needed : Bool) (find : Find) (low high : ℕ) (e : tree.Expr) → AreSound d needed find → IsExpr e → (natural low high (expr_place e) (constant e find)).faults ≡ [] → IsWithin low high find e
number_is d needed find low high e s x h =
    let n = natural_fine d true low high (expr_place e) (constant e find) (λ k. typed_fine d find e true (λ name. sound_needed d needed (find name) (s name)) x k) h in
    record { shaped = x; fair = fair_of d needed find s; clean = h; number = n.n; is = n.is }

pub replication_is : (d : Design) (find : Find) (needed : Bool) (place : ℕ) (count : tree.Expr) (parts : tree.Exprs) → IsBuildable d find needed (tree.Replication place count parts) → IsReplication d find needed count parts
replication_is d find needed place count parts b =
    let clean = noted_clean needed place (replication_typed (expr_place count) (typed count (steady find) true) (typed_parts parts find needed)) b.clean in
    let n = natural 1 64 (expr_place count) (constant count (steady find)) in
    let k = replicated_faults n.number n.faults (typed_parts parts find needed) clean in
    record {
      parts_are = record { shaped = b.shaped.1; sound = b.sound; numbered = b.numbered; clean = k.1; shallow = omega (arith, b.shallow) };
      count_is = number_is d true (steady find) 1 64 count (steady_sound d needed find b.sound) b.shaped.0 k.0;
    }

pub replication_expression : (find : Find) (needed : Bool) (at place n : ℕ) (count : tree.Expr) (parts : tree.Exprs) → (natural 1 64 (expr_place count) (constant count (steady find))).number ≡ Some n
    → E.At at (E.Repeat n (typed_parts parts find needed).expression) ≡ begins_at at (typed (tree.Replication place count parts) find needed).expression
replication_expression find needed at place n count parts e =
    let m = natural 1 64 (expr_place count) (constant count (steady find)) in
    sym (begins_twice at place (replicated m.number m.faults (typed_parts parts find needed)).expression ∙ ap (λ o. begins_at at (replicated o m.faults (typed_parts parts find needed)).expression) e)

pub replication_view : (place : ℕ) (p : Box Expr Global) (list : Vec Expr Global) → expr (Replication place p list) ≡ tree.Replication place (expr p.value) (exprs list.items)
replication_view place p list = search (rules, expr_rows, the_lemmas)

pub deeper_up_to : (c p : ℕ) → 1 + (1 + p) ≤ 1 + (1 + max c p)
deeper_up_to c p = omega arith
