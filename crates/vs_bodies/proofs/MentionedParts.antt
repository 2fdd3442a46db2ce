-- The signals that the parts of a statement come to, one after the other.
use Rattle.std.proofs.Common.{◌≡◌, ◌<◌, ◌≤◌, ◌+◌, ℕ, zero, suc, false, List, [], ◌∷◌, ◌++◌, length, map, get_or, take, Option, None, Some, OnOk, Vec, Box, Global, sym, ap, ◌∙◌, subst, arith, append_assoc}
use Rattle.std.specs.Prelude.{Result, Ok, Err}
use Rattle.std.proofs.lemmas.List.{append-nil, take_all}
use Rattle.vs_base.specs.declared.events.CaseKind.{CaseKind}
use Rattle.vs_ast.specs.declared.expressions.Expr.{Expr}
use Rattle.vs_ast.specs.declared.types.BlockScope.{BlockScope}
use Rattle.vs_ast.specs.declared.statements.CaseArm.{CaseArm}
use Rattle.vs_ast.specs.declared.statements.Statement.{Statement, If, Case, Sequence}
use Rattle.vs_ast.specs.declared.statements.Target.{Target}
use Rattle.vs_ast.specs.Views as view
use Rattle.vs_const.specs.Meanings.{Find}
use Rattle.vs_const.specs.MentionViews.{Told, all_told_of}
use Rattle.vs_const.proofs.Mentioning.{both_told}
use Rattle.vs_const.specs.Mentions.{Mention, mentions}
use Rattle.vs_elaborated.specs.Reads.{label_mentions, targets_mentions, statement_mentions, sequence_mentions, arms_mentions, hidden}
use Rattle.vs_elaborated.specs.Statements.{scope_locals}
use Rattle.vs_bodies.proofs.Walking.{if_alone_view, if_else_view, case_alone_view, case_default_view, sequence_view}

-- ---- lists

-- what a list comes to, part by part
abbrev Splits : {A : Type 0} → (List A → List Mention) → (A → List Mention) → Type 0
Splits {A} g p = (x : A) (xs : List A) → g (x ∷ xs) ≡ p x ++ g xs

next_part : {A : Type 0} (g : List A → List Mention) (p : A → List Mention) → g [] ≡ [] → Splits g p → (xs : List A) (i : ℕ) (x : A) → i < length xs → x ≡ get_or xs i x → g (take i xs) ++ p x ≡ g (take (suc i) xs)
next_part g p none more [] i x h e = absurd (omega arith)
next_part g p none more (y ∷ xs) zero x h e =
    ap (λ (ms : List Mention). ms ++ p x) none ∙ ap p e ∙ sym (append-nil (p y)) ∙ ap (λ (ms : List Mention). p y ++ ms) (sym none) ∙ sym (more y [])
next_part g p none more (y ∷ xs) (suc i) x h e =
    ap (λ (ms : List Mention). ms ++ p x) (more y (take i xs)) ∙ append_assoc (p y) (g (take i xs)) (p x) ∙ ap (λ (ms : List Mention). p y ++ ms) (next_part g p none more xs i x (omega arith) e) ∙ sym (more y (take (suc i) xs))

pub part_more : {A : Type 0} (g : List A → List Mention) (p : A → List Mention) → g [] ≡ [] → Splits g p → (xs : List A) (i : ℕ) (x : A) → i < length xs → x ≡ get_or xs i x → g (take i xs) ++ p x ≡ g (take (i + 1) xs)
part_more g p none more xs i x h e = next_part g p none more xs i x h e ∙ ap (λ (n : ℕ). g (take n xs)) (let on : suc i ≡ i + 1 = omega arith in on)

pub all_parts : {A : Type 0} (g : List A → List Mention) (xs : List A) (i : ℕ) (before after : List Told) → length xs ≤ i → after ≡ before ++ all_told_of (g (take i xs)) → after ≡ before ++ all_told_of (g xs)
all_parts g xs i before after h k = k ∙ ap (λ ys. before ++ all_told_of (g ys)) (take_all i xs h)

abbrev pub labels_of : Find → List Expr → List Mention
labels_of find es = label_mentions (map view.expr es) find

abbrev pub targets_of : Find → List Target → List Mention
targets_of find ts = targets_mentions (view.targets ts) find

abbrev pub sequence_of : Find → List Statement → List Mention
sequence_of find ss = sequence_mentions (view.statements ss) find

abbrev pub arm_of : Find → CaseArm → List Mention
arm_of find a = label_mentions (map view.expr a.labels.items) find ++ statement_mentions (view.statement a.statement) find

abbrev pub arms_of : Find → List CaseArm → List Mention
arms_of find arms = arms_mentions (view.arms arms) find

pub arms_split : (find : Find) → Splits (arms_of find) (arm_of find)
arms_split find a arms = sym (append_assoc (label_mentions (map view.expr a.labels.items) find) (statement_mentions (view.statement a.statement) find) (arms_of find arms))

-- ---- statements

pub if_alone : (find : Find) (s : Statement) (place : ℕ) (c : Expr) (p : Box Statement Global) (o : Option (Box Statement Global)) → s ≡ If place c p o → o ≡ None
    → mentions (view.expr c) find false ++ statement_mentions (view.statement p.value) find ≡ statement_mentions (view.statement s) find
if_alone find s place c p o h k =
    ap (λ (ms : List Mention). mentions (view.expr c) find false ++ ms) (sym (append-nil (statement_mentions (view.statement p.value) find)))
    ∙ ap (λ x. statement_mentions x find) (sym (ap view.statement h ∙ ap (λ (q : Option (Box Statement Global)). view.statement (If place c p q)) k ∙ if_alone_view place c p))

pub if_else : (find : Find) (s : Statement) (place : ℕ) (c : Expr) (p q : Box Statement Global) (o : Option (Box Statement Global)) → s ≡ If place c p o → o ≡ Some q
    → (mentions (view.expr c) find false ++ statement_mentions (view.statement p.value) find) ++ statement_mentions (view.statement q.value) find ≡ statement_mentions (view.statement s) find
if_else find s place c p q o h k =
    append_assoc (mentions (view.expr c) find false) (statement_mentions (view.statement p.value) find) (statement_mentions (view.statement q.value) find)
    ∙ ap (λ x. statement_mentions x find) (sym (ap view.statement h ∙ ap (λ (r : Option (Box Statement Global)). view.statement (If place c p r)) k ∙ if_else_view place c p q))

pub case_alone : (find : Find) (s : Statement) (place : ℕ) (kind : CaseKind) (e : Expr) (list : Vec CaseArm Global) (o : Option (Box Statement Global)) → s ≡ Case place kind e list o → o ≡ None
    → mentions (view.expr e) find false ++ arms_of find list.items ≡ statement_mentions (view.statement s) find
case_alone find s place kind e list o h k =
    ap (λ (ms : List Mention). mentions (view.expr e) find false ++ ms) (sym (append-nil (arms_of find list.items)))
    ∙ ap (λ x. statement_mentions x find) (sym (ap view.statement h ∙ ap (λ (q : Option (Box Statement Global)). view.statement (Case place kind e list q)) k ∙ case_alone_view place kind e list))

pub case_default : (find : Find) (s : Statement) (place : ℕ) (kind : CaseKind) (e : Expr) (list : Vec CaseArm Global) (q : Box Statement Global) (o : Option (Box Statement Global)) → s ≡ Case place kind e list o → o ≡ Some q
    → (mentions (view.expr e) find false ++ arms_of find list.items) ++ statement_mentions (view.statement q.value) find ≡ statement_mentions (view.statement s) find
case_default find s place kind e list q o h k =
    append_assoc (mentions (view.expr e) find false) (arms_of find list.items) (statement_mentions (view.statement q.value) find)
    ∙ ap (λ x. statement_mentions x find) (sym (ap view.statement h ∙ ap (λ (r : Option (Box Statement Global)). view.statement (Case place kind e list r)) k ∙ case_default_view place kind e list q))

pub sequence_alone : (find : Find) (s : Statement) (place : ℕ) (scope : Option BlockScope) (list : Vec Statement Global) (xs : List Statement) → s ≡ Sequence place scope list → scope ≡ None → xs ≡ list.items
    → sequence_of find xs ≡ statement_mentions (view.statement s) find
sequence_alone find s place scope list xs h k m =
    ap (sequence_of find) m ∙ ap (λ x. statement_mentions x find) (sym (ap view.statement h ∙ ap (λ (o : Option BlockScope). view.statement (Sequence place o list)) k ∙ sequence_view place None list))

pub sequence_block : (find inner : Find) (s : Statement) (place : ℕ) (scope : Option BlockScope) (b : BlockScope) (list : Vec Statement Global) (xs : List Statement) → s ≡ Sequence place scope list → scope ≡ Some b → xs ≡ list.items
    → inner ≡ hidden (scope_locals (Some (view.block_scope b))) find → sequence_of inner xs ≡ statement_mentions (view.statement s) find
sequence_block find inner s place scope b list xs h k m e =
    ap (λ (f : Find). sequence_of f xs) e ∙ ap (sequence_of (hidden (scope_locals (Some (view.block_scope b))) find)) m
    ∙ ap (λ x. statement_mentions x find) (sym (ap view.statement h ∙ ap (λ (o : Option BlockScope). view.statement (Sequence place o list)) k ∙ sequence_view place (Some b) list))

-- ---- what a call adds, where it gives no error

pub ok_then : {T E : Type 0} (r : Result T E) (before middle after : List Told) (first second whole : List Mention) → middle ≡ before ++ all_told_of first → first ++ second ≡ whole → OnOk r (after ≡ middle ++ all_told_of second)
    → OnOk r (after ≡ before ++ all_told_of whole)
ok_then (Ok x) before middle after first second whole h e k = both_told before middle after first second whole h k e
ok_then (Err x) before middle after first second whole h e k = tt

pub ok_same : {T E : Type 0} (r : Result T E) (before after : List Told) (part whole : List Mention) → part ≡ whole → OnOk r (after ≡ before ++ all_told_of part) → OnOk r (after ≡ before ++ all_told_of whole)
ok_same r before after part whole e k = subst (λ (ms : List Mention). OnOk r (after ≡ before ++ all_told_of ms)) e k
