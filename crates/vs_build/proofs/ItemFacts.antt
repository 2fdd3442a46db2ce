-- Items without a fault, one after the other.
use Rattle.std.proofs.Common.{◌≡◌, ℕ, zero, suc, ◌+◌, ◌-◌, ◌<◌, ◌≤◌, false, List, [], ◌∷◌, ◌++◌, length, get_or, map, flat_map, take, Option, Some, None, refl, sym, ap, ◌∙◌, subst, arith, append_assoc, length-append}
use Rattle.std.proofs.Math.Seq.{take-suc, take-length}
use Rattle.std.proofs.lemmas.Grind.{flat_map-append}
use Rattle.std.proofs.lemmas.List.{map-append, append-nil}
use Rattle.vs_design.specs.Designs.{Process, Always, Design}
use Rattle.vs_design.specs.Elaborated.{inside}
use Rattle.vs_grammar.specs.Trees as tree
use Rattle.vs_grammar.specs.Shapes.{IsDeclarator, Each}
use Rattle.vs_grammar.specs.Depths.{option_depth, expr_depth}
use Rattle.vs_const.specs.Meanings.{Find}
use Rattle.vs_const.specs.Sound.{AreSound}
use Rattle.vs_const.specs.CallDepths.{calls_in}
use Rattle.vs_const.proofs.Formed.{both_nil}
use Rattle.vs_elaborated.specs.Environments.{Env, named}
use Rattle.vs_elaborated.specs.Numbers.{IsNumbered, AreNumbered}
use Rattle.vs_elaborated.specs.Pieces.{Own, Initially, all_said}
use Rattle.vs_elaborated.specs.Statements.{TypedStatement, repeated_locals, typed_statement, unrolled_within, typed_control}
use Rattle.vs_elaborated.specs.Heads.{shared_heads}
use Rattle.vs_elaborated.specs.Functions.{declared_locals, LocalSignal, locals_in, all_locals, header_of, meaning_or, function_names, function_body, size_faults}
use Rattle.vs_elaborated.specs.Functions.{signal_at as local_at}
use Rattle.vs_elaborated.specs.Surveys.{assign_said, declarator_said, body_with, block_body, scoped_signals, scoped_statement, block_statement, block_heads, initial_body, initial_statement, initial_heads}
use Rattle.vs_build.specs.Drafts.{Draft, home_in, home}
use Rattle.vs_build.specs.Writable.{IsAssignable, wire_assign, assign_process}
use Rattle.vs_build.specs.Items.{and_processes, value_processes, wire_processes, IsAssigned, IsDeclared, AssignsAreFine, WiresAreFine, BlocksAreFine, scoped_declared, ScopedBlocksAreFine, InitialsAreFine, FunctionsAreFine}
use Rattle.vs_build.proofs.Homes.{inside_home}
use Rattle.vs_build.proofs.Sounder.{sound_wider, names_wider, numbers_stay, processes_wider, processes_functions}
use Rattle.vs_build.proofs.Unrolled.{unrolled_is}

-- outside of functions it stays
pub processes_outside : (s v : Draft) (ps : List Process) → v ≡ and_processes s ps → s.function ≡ None → v.function ≡ None
processes_outside s v ps e h = ap (λ (z : Draft). z.function) e ∙ h

none_more : {A : Type 0} (xs : List A) → xs ≡ xs ++ []
none_more [] = refl
none_more (x ∷ xs) = ap (λ ys. x ∷ ys) (none_more xs)

-- ---- one process more

pub no_process : (s : Draft) → s ≡ and_processes s []
no_process s = ap (λ xs. record s { design = record s.design { processes = xs } }) (none_more s.design.processes)

pub more_processes : (s q v : Draft) (ps qs : List Process) → q ≡ and_processes s ps → v ≡ and_processes q qs → v ≡ and_processes s (ps ++ qs)
more_processes s q v ps qs e f = f ∙ ap (λ z. and_processes z qs) e ∙ ap (λ xs. record s { design = record s.design { processes = xs } }) (append_assoc s.design.processes ps qs)

pub these_processes : (s v : Draft) (ps qs : List Process) → ps ≡ qs → v ≡ and_processes s ps → v ≡ and_processes s qs
these_processes s v ps qs e h = h ∙ ap (and_processes s) e

-- ---- what can be built still can

assign_home : (s : Draft) (ps : List Process) (find : Find) (a : tree.Assign) → IsAssignable (home s) find a → IsAssignable (home (and_processes s ps)) find a
assign_home s ps find a w =
    let more = s.design.processes ++ ps in
    record {
      shaped = w.shaped;
      sound = names_wider (home s) (home (and_processes s ps)) false find (processes_wider s.design s.function more) w.sound;
      numbered = numbers_stay (home s) (home (and_processes s ps)) find (processes_functions s.design s.function more) w.numbered;
      clean = w.clean;
      shallow = w.shallow;
    }

pub assign_after : (s v : Draft) (ps : List Process) (find : Find) (a : tree.Assign) → v ≡ and_processes s ps → IsAssignable (home s) find a → IsAssignable (home v) find a
assign_after s v ps find a e w = subst (λ (z : Draft). IsAssignable (home z) find a) (sym e) (assign_home s ps find a w)

value_after : (s v : Draft) (ps : List Process) (find : Find) (name : tree.Name) (o : Option tree.Expr) → v ≡ and_processes s ps → IsAssigned (home s) find name o → IsAssigned (home v) find name o
value_after s v ps find name None e w = tt
value_after s v ps find name (Some x) e w = assign_after s v ps find (wire_assign name x) e w

pub declared_after : (s v : Draft) (ps : List Process) (find : Find) (d : tree.Declarator) → v ≡ and_processes s ps → IsDeclared (home s) find d → IsDeclared (home v) find d
declared_after s v ps find d e w = value_after s v ps find d.name d.value e w

each_get : {A B : Type 0} (P : B → Type 0) (f : A → B) (xs : List A) (i : ℕ) (d : A) → i < length xs → Each P (map f xs) → P (f (get_or xs i d))
each_get P f [] i d h all = absurd (let no : ⊥ = omega (arith, h) in no)
each_get P f (x ∷ xs) zero d h all = all.0
each_get P f (x ∷ xs) (suc i) d h all = each_get P f xs i d (omega (arith, h)) all.1

pub each_at : {A B : Type 0} (P : B → Type 0) (f : A → B) (xs : List A) (i : ℕ) (x : A) → i < length xs → x ≡ get_or xs i x → Each P (map f xs) → P (f x)
each_at P f xs i x h e all = subst (λ y. P (f y)) (sym e) (each_get P f xs i x h all)

-- one element more, as a list of lists
pub flat_more : {A B C : Type 0} (f : A → B) (g : B → List C) (xs : List A) (i : ℕ) (x : A) → i < length xs → x ≡ get_or xs i x → flat_map g (map f (take (i + 1) xs)) ≡ flat_map g (map f (take i xs)) ++ g (f x)
flat_more f g xs i x h e =
    let next : i + 1 ≡ suc i = omega arith in
    ap (λ n. flat_map g (map f (take n xs))) next ∙ ap (λ ys. flat_map g (map f ys)) (take-suc xs i x h) ∙ ap (flat_map g) (map-append f (take i xs) (get_or xs i x ∷ []))
    ∙ flat_map-append g (map f (take i xs)) (f (get_or xs i x) ∷ []) ∙ ap (λ ys. flat_map g (map f (take i xs)) ++ ys) (append-nil (g (f (get_or xs i x)))) ∙ ap (λ y. flat_map g (map f (take i xs)) ++ g (f y)) (sym e)

pub map_more : {A B C : Type 0} (f : A → B) (g : B → C) (xs : List A) (i : ℕ) (x : A) → i < length xs → x ≡ get_or xs i x → map g (map f (take (i + 1) xs)) ≡ map g (map f (take i xs)) ++ g (f x) ∷ []
map_more f g xs i x h e =
    let next : i + 1 ≡ suc i = omega arith in
    ap (λ n. map g (map f (take n xs))) next ∙ ap (λ ys. map g (map f ys)) (take-suc xs i x h) ∙ ap (map g) (map-append f (take i xs) (get_or xs i x ∷ []))
    ∙ map-append g (map f (take i xs)) (f (get_or xs i x) ∷ []) ∙ ap (λ y. map g (map f (take i xs)) ++ g (f y) ∷ []) (sym e)

pub all_of : {A : Type 0} (xs : List A) (i : ℕ) → i ≡ length xs → take i xs ≡ xs
all_of xs i e = ap (λ n. take n xs) e ∙ take-length xs

pub value_count : (place : ℕ) (name : tree.Name) (o : Option tree.Expr) (find : Find) → length (value_processes place name o find) ≤ 1
value_count place name None find = omega arith
value_count place name (Some e) find = omega arith

pub wires_count : (place : ℕ) (names : List tree.Declarator) (find : Find) → length (wire_processes place names find) ≤ length names
wires_count place [] find = omega arith
wires_count place (d ∷ ds) find = omega (arith, length-append (value_processes place d.name d.value find) (wire_processes place ds find), value_count place d.name d.value find, wires_count place ds find)

pub process_count : (s v : Draft) (ps : List Process) → v ≡ and_processes s ps → length v.design.processes ≡ length s.design.processes + length ps
process_count s v ps e = ap (λ (z : Draft). length z.design.processes) e ∙ length-append s.design.processes ps

-- ---- the laws

pub assigns_fine : AssignsAreFine
assigns_fine d env place [] x sound numbered le h = (tt, refl)
assigns_fine d env place (a ∷ rest) x sound numbered le h =
    let n = both_nil (assign_said env place a).faults (all_said (assign_said env place) rest).faults h in
    let r = assigns_fine d env place rest x.1 sound numbered (omega (arith, le)) n.1 in
    let first : IsAssignable d (named env) a = record { shaped = x.0; sound = sound; numbered = numbered; clean = n.0; shallow = omega (arith, le) } in
    ((first, r.0), ap (λ ps. Own (assign_process place a (named env)) ∷ ps) r.1)

value_fine : (d : Design) (env : Env) (place : ℕ) (name : tree.Name) (addresses : Option tree.RangeTree) (o : Option tree.Expr) (shaped : IsDeclarator (record { name = name; addresses = addresses; value = o })) → AreSound d false (named env) → AreNumbered d (named env) → option_depth expr_depth o ≤ 253
    → (let n : tree.Declarator = record { name = name; addresses = addresses; value = o } in (declarator_said env place tree.Wire n).faults ≡ [])
    → IsAssigned d (named env) name o × (let n : tree.Declarator = record { name = name; addresses = addresses; value = o } in (declarator_said env place tree.Wire n).pieces ≡ map Own (value_processes place name o (named env)))
value_fine d env place name addresses None shaped sound numbered le h = (tt, refl)
value_fine d env place name addresses (Some e) shaped sound numbered le h =
    let fine : IsAssignable d (named env) (wire_assign name e) = record { shaped = ((shaped.0, tt), shaped.1); sound = sound; numbered = numbered; clean = h; shallow = omega (arith, le) } in
    (fine, refl)

pub wires_fine : WiresAreFine
wires_fine d env place [] x sound numbered le h = (tt, refl)
wires_fine d env place (n ∷ rest) x sound numbered le h =
    let m = both_nil (declarator_said env place tree.Wire n).faults (all_said (declarator_said env place tree.Wire) rest).faults h in
    let f = value_fine d env place n.name n.addresses n.value x.0 sound numbered (omega (arith, le)) m.0 in
    let r = wires_fine d env place rest x.1 sound numbered (omega (arith, le)) m.1 in (
      (f.0, r.0),
      ap (λ ps. ps ++ (all_said (declarator_said env place tree.Wire) rest).pieces) f.1 ∙ ap (λ ps. map Own (value_processes place n.name n.value (named env)) ++ ps) r.1
          ∙ sym (map-append Own (value_processes place n.name n.value (named env)) (wire_processes place rest (named env))),
    )

-- the variables of its named blocks are no functions
blocks_numbered : (d : Design) (o : Option LocalSignal) → IsNumbered d (meaning_or o)
blocks_numbered d None = tt
blocks_numbered d (Some s) = tt

pub blocks_fine : BlocksAreFine
blocks_fine d env limits loops b x sound numbered le h =
    let c = typed_control b.control (named env) in
    let s = block_statement limits env loops b in
    let heads = shared_heads loops.headed (block_heads env b) in
    let n = both_nil c.faults (s.faults ++ heads) h in
    let clean = (both_nil s.faults heads n.1).0 in
    let is : s ≡ typed_statement b.statement (block_body b) (named env) = unrolled_is (limits.copies - loops.copies) b.statement (block_body b) (named env) clean in (
      record {
        shaped = x;
        around = record { unrolls = refl; sound = λ place. tt; numbered = λ place. tt };
        sound = sound;
        numbered = numbered;
        control = n.0;
        clean = sym (ap (λ (t : TypedStatement). t.faults) is) ∙ clean;
        shallow = le;
      },
      ap (λ (t : TypedStatement). Own (Always b.place c.star c.events t.statement) ∷ []) is,
    )

pub scoped_blocks_fine : ScopedBlocksAreFine
scoped_blocks_fine d limits b t x sound numbered declared le control h =
    let body = body_with (scoped_declared b t) b.block in
    let c = typed_control b.block.control (named b.env) in
    let is : scoped_statement limits b t ≡ typed_statement b.block.statement body (named b.env) = unrolled_is (limits.copies - t.loops.copies) b.block.statement body (named b.env) h in (
      record {
        shaped = x;
        around = record { unrolls = refl; sound = declared; numbered = λ place. blocks_numbered d (local_at (scoped_signals b t) place) };
        sound = sound;
        numbered = numbered;
        control = control;
        clean = sym (ap (λ (s : TypedStatement). s.faults) is) ∙ h;
        shallow = le;
      },
      ap (λ (s : TypedStatement). Always b.block.place c.star c.events s.statement ∷ []) is,
    )

pub initials_fine : InitialsAreFine
initials_fine d env limits loops b x sound numbered le h =
    let s = initial_statement limits env loops b in
    let clean = (both_nil s.faults (shared_heads loops.headed (initial_heads env b)) h).0 in
    let is : s ≡ typed_statement b.statement initial_body (named env) = unrolled_is (limits.copies - loops.copies) b.statement initial_body (named env) clean in (
      record { shaped = x; around = record { unrolls = refl; sound = λ place. tt; numbered = λ place. tt }; sound = sound; numbered = numbered; clean = sym (ap (λ (t : TypedStatement). t.faults) is) ∙ clean; shallow = le },
      ap (λ (t : TypedStatement). Initially b.place t.statement ∷ []) is,
    )

pub functions_fine : FunctionsAreFine
functions_fine d number most scope env f x sees numbered le h =
    let l = locals_in scope env f in
    let header = header_of f l in
    let names = function_names scope env f in
    let s = unrolled_within most f.statement (function_body l) names in
    let ranges = flat_map (λ (v : LocalSignal). v.faults) (all_locals l) in
    let sizes = size_faults f.place l header (suc (calls_in s.statement)) in
    let clean = (both_nil s.faults sizes (both_nil ranges (s.faults ++ sizes) (both_nil (repeated_locals [] (declared_locals f)) (ranges ++ (s.faults ++ sizes)) h).1).1).0 in
    let is : s ≡ typed_statement f.statement (function_body l) names = unrolled_is most f.statement (function_body l) names clean in
    let inner = home_in d (Some header) in
    record {
      executable = record {
        shaped = x.statement;
        around = record {
          unrolls = refl;
          sound = λ place. sound_wider (inside d header) inner false (inside_home d header) ((function_body l).declared place) (sees.declared place);
          numbered = λ place. blocks_numbered inner (local_at (all_locals l) place);
        };
        sound = names_wider (inside d header) inner false names (inside_home d header) sees.names;
        numbered = numbers_stay d inner names refl numbered;
        clean = sym (ap (λ (t : TypedStatement). t.faults) is) ∙ clean;
        shallow = le;
      };
      statement = ap (λ (t : TypedStatement). t.statement) is;
    }

pub length_taken : {A : Type 0} (i : ℕ) (xs : List A) → length (take i xs) ≤ i
length_taken zero [] = omega arith
length_taken zero (x ∷ xs) = omega arith
length_taken (suc i) [] = omega arith
length_taken (suc i) (x ∷ xs) = omega (arith, length_taken i xs)
