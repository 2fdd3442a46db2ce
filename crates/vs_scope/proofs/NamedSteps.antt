-- Named blocks of statements that are scopes, as the code goes through these.
use Rattle.std.proofs.Common.{◌≡◌, ℕ, ◌+◌, ◌<◌, ◌≤◌, List, ◌∷◌, ◌++◌, map, length, get_or, drop, Option, Some, None, Vec, Box, Global, refl, sym, ap, ◌∙◌, add-one}
use Rattle.std.proofs.lemmas.List.{append-nil, drop_all}
use Rattle.vs_base.specs.declared.events.CaseKind.{CaseKind}
use Rattle.vs_ast.specs.declared.expressions.Expr.{Expr}
use Rattle.vs_ast.specs.declared.types.BlockScope.{BlockScope}
use Rattle.vs_ast.specs.declared.statements.CaseArm.{CaseArm}
use Rattle.vs_ast.specs.declared.statements.Statement.{Statement, If, Case, Sequence}
use Rattle.vs_ast.specs.Views as view
use Rattle.vs_bodies.proofs.Walking.{if_alone_view, if_else_view, case_alone_view, case_default_view, sequence_view}
use Rattle.vs_elaborated.specs.NamedBlocks as spec
use Rattle.vs_scope.specs.declared.block_scopes.NamedBlock.{NamedBlock}
use Rattle.vs_scope.specs.NamedBlocks.{named}
use Rattle.vs_scope.proofs.NamedSignals.{then_named}
use Rattle.vs_scope.proofs.Steps.{from_place}

-- ---- two parts

-- the second behind the first
pub both_named : (before middle new : List NamedBlock) (bs : List spec.NamedBlock) (rest : ℕ → List spec.NamedBlock) → map named middle ≡ map named before ++ bs → map named new ≡ map named middle ++ rest (length middle)
    → map named new ≡ map named before ++ (bs ++ rest (length before + length bs))
both_named before middle new bs rest h k = k ∙ then_named before middle bs (map named before ++ (bs ++ rest (length before + length bs))) rest h refl

-- ---- statements

abbrev of_statement : Statement → Option ℕ → ℕ → List spec.NamedBlock
of_statement s outer next = spec.blocks_in (view.statement s) outer next

pub if_names : (s : Statement) (place : ℕ) (c : Expr) (p : Box Statement Global) (o : Option (Box Statement Global)) (outer : Option ℕ) (next : ℕ) (x : Statement) → s ≡ If place c p o → o ≡ None → x ≡ p.value → of_statement x outer next ≡ of_statement s outer next
if_names s place c p o outer next x h k e =
    ap (λ (z : Statement). of_statement z outer next) e ∙ sym (append-nil (of_statement p.value outer next))
    ∙ sym (ap (λ t. spec.blocks_in t outer next) (ap view.statement h ∙ ap (λ (q : Option (Box Statement Global)). view.statement (If place c p q)) k ∙ if_alone_view place c p))

pub else_names : (s : Statement) (place : ℕ) (c : Expr) (p q : Box Statement Global) (o : Option (Box Statement Global)) (outer : Option ℕ) (next : ℕ) (x y : Statement) → s ≡ If place c p o → o ≡ Some q → x ≡ p.value → y ≡ q.value
    → of_statement x outer next ++ of_statement y outer (next + length (of_statement x outer next)) ≡ of_statement s outer next
else_names s place c p q o outer next x y h k e f =
    ap (λ (z : Statement). of_statement z outer next ++ of_statement y outer (next + length (of_statement z outer next))) e
    ∙ ap (λ (z : Statement). of_statement p.value outer next ++ of_statement z outer (next + length (of_statement p.value outer next))) f
    ∙ sym (ap (λ t. spec.blocks_in t outer next) (ap view.statement h ∙ ap (λ (r : Option (Box Statement Global)). view.statement (If place c p r)) k ∙ if_else_view place c p q))

pub case_names : (s : Statement) (place : ℕ) (kind : CaseKind) (e : Expr) (list : Vec CaseArm Global) (o : Option (Box Statement Global)) (outer : Option ℕ) (next : ℕ) (xs : List CaseArm) → s ≡ Case place kind e list o → o ≡ None → xs ≡ list.items
    → spec.blocks_in_arms (view.arms xs) outer next ≡ of_statement s outer next
case_names s place kind e list o outer next xs h k m =
    ap (λ (z : List CaseArm). spec.blocks_in_arms (view.arms z) outer next) m ∙ sym (append-nil (spec.blocks_in_arms (view.arms list.items) outer next))
    ∙ sym (ap (λ t. spec.blocks_in t outer next) (ap view.statement h ∙ ap (λ (q : Option (Box Statement Global)). view.statement (Case place kind e list q)) k ∙ case_alone_view place kind e list))

pub default_names : (s : Statement) (place : ℕ) (kind : CaseKind) (e : Expr) (list : Vec CaseArm Global) (q : Box Statement Global) (o : Option (Box Statement Global)) (outer : Option ℕ) (next : ℕ) (xs : List CaseArm) (y : Statement)
    → s ≡ Case place kind e list o → o ≡ Some q → xs ≡ list.items → y ≡ q.value
    → spec.blocks_in_arms (view.arms xs) outer next ++ of_statement y outer (next + length (spec.blocks_in_arms (view.arms xs) outer next)) ≡ of_statement s outer next
default_names s place kind e list q o outer next xs y h k m n =
    ap (λ (z : List CaseArm). spec.blocks_in_arms (view.arms z) outer next ++ of_statement y outer (next + length (spec.blocks_in_arms (view.arms z) outer next))) m
    ∙ ap (λ (z : Statement). spec.blocks_in_arms (view.arms list.items) outer next ++ of_statement z outer (next + length (spec.blocks_in_arms (view.arms list.items) outer next))) n
    ∙ sym (ap (λ t. spec.blocks_in t outer next) (ap view.statement h ∙ ap (λ (r : Option (Box Statement Global)). view.statement (Case place kind e list r)) k ∙ case_default_view place kind e list q))

pub sequence_names : (s : Statement) (place : ℕ) (scope : Option BlockScope) (list : Vec Statement Global) (outer : Option ℕ) (next : ℕ) (xs : List Statement) → s ≡ Sequence place scope list → xs ≡ list.items
    → (let here = spec.block_here (view.option view.block_scope scope) (view.statements xs) outer in here ++ spec.blocks_in_sequence (view.statements xs) (spec.outer_within here outer next) (next + length here) ≡ of_statement s outer next)
sequence_names s place scope list outer next xs h m =
    ap (λ (z : List Statement). let here = spec.block_here (view.option view.block_scope scope) (view.statements z) outer in here ++ spec.blocks_in_sequence (view.statements z) (spec.outer_within here outer next) (next + length here)) m
    ∙ sym (ap (λ t. spec.blocks_in t outer next) (ap view.statement h ∙ sequence_view place scope list))

-- ---- lists of statements and of arms

from_here : {A : Type 0} (xs : List A) (i : ℕ) (x : A) → i < length xs → x ≡ get_or xs i x → drop i xs ≡ x ∷ drop (i + 1) xs
from_here xs i x h e = from_place xs i x h e ∙ ap (λ (n : ℕ). x ∷ drop n xs) (sym (add-one i))

pub sequence_step : (outer : Option ℕ) (parts : List Statement) (i : ℕ) (x : Statement) (before new : List NamedBlock) (whole : List spec.NamedBlock) → i < length parts → x ≡ get_or parts i x
    → map named new ≡ map named before ++ of_statement x outer (length before) → map named before ++ spec.blocks_in_sequence (view.statements (drop i parts)) outer (length before) ≡ whole
    → map named new ++ spec.blocks_in_sequence (view.statements (drop (i + 1) parts)) outer (length new) ≡ whole
sequence_step outer parts i x before new whole h e pushed inv =
    then_named before new (of_statement x outer (length before)) whole (λ n. spec.blocks_in_sequence (view.statements (drop (i + 1) parts)) outer n) pushed
    (ap (λ (xs : List Statement). map named before ++ spec.blocks_in_sequence (view.statements xs) outer (length before)) (sym (from_here parts i x h e)) ∙ inv)

pub sequence_end : (outer : Option ℕ) (parts : List Statement) (i : ℕ) (list : List NamedBlock) (whole : List spec.NamedBlock) → length parts ≤ i
    → map named list ++ spec.blocks_in_sequence (view.statements (drop i parts)) outer (length list) ≡ whole → map named list ≡ whole
sequence_end outer parts i list whole h inv =
    sym (append-nil (map named list)) ∙ ap (λ (xs : List Statement). map named list ++ spec.blocks_in_sequence (view.statements xs) outer (length list)) (sym (drop_all i parts h)) ∙ inv

pub arms_step : (outer : Option ℕ) (arms : List CaseArm) (i : ℕ) (x : CaseArm) (before new : List NamedBlock) (whole : List spec.NamedBlock) → i < length arms → x ≡ get_or arms i x
    → map named new ≡ map named before ++ of_statement x.statement outer (length before) → map named before ++ spec.blocks_in_arms (view.arms (drop i arms)) outer (length before) ≡ whole
    → map named new ++ spec.blocks_in_arms (view.arms (drop (i + 1) arms)) outer (length new) ≡ whole
arms_step outer arms i x before new whole h e pushed inv =
    then_named before new (of_statement x.statement outer (length before)) whole (λ n. spec.blocks_in_arms (view.arms (drop (i + 1) arms)) outer n) pushed
    (ap (λ (xs : List CaseArm). map named before ++ spec.blocks_in_arms (view.arms xs) outer (length before)) (sym (from_here arms i x h e)) ∙ inv)

pub arms_end : (outer : Option ℕ) (arms : List CaseArm) (i : ℕ) (list : List NamedBlock) (whole : List spec.NamedBlock) → length arms ≤ i
    → map named list ++ spec.blocks_in_arms (view.arms (drop i arms)) outer (length list) ≡ whole → map named list ≡ whole
arms_end outer arms i list whole h inv =
    sym (append-nil (map named list)) ∙ ap (λ (xs : List CaseArm). map named list ++ spec.blocks_in_arms (view.arms xs) outer (length list)) (sym (drop_all i arms h)) ∙ inv
