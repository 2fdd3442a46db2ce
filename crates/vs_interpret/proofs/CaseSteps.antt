-- Items and arms of a case, one after the other.
use Rattle.std.proofs.Common.{◌≡◌, ℕ, ◌+◌, ◌<◌, ◌≤◌, Bool, true, false, ◌||◌, List, length, map, drop, get_or, Option, sym, ap, ◌∙◌}
use Rattle.std.proofs.lemmas.List.{drop_more}
use Rattle.std.proofs.lemmas.Bool.{cond-true, cond-false}
use Rattle.vs_four.specs.Logic.{BitList}
use Rattle.vs_four.specs.Tables.{is_one}
use Rattle.vs_net.specs.Network.{State}
use Rattle.vs_design.specs.Bodies.{is_taken, body, arms_body}
use Rattle.vs_design.specs.Expressions.{Expression, items_of}
use Rattle.vs_design.specs.Statements.{CaseKind, Statement, case_match}
use Rattle.vs_design.specs.Values.{value}
use Rattle.vs_flat.specs.declared.statements.Arm as F
use Rattle.vs_flat.specs.Trees.{arms_tree, branch}
use Rattle.vs_writes.proofs.Writing.{drop_at, drop_end}

-- ---- items

taken_step : (tree : ℕ → Expression) (ns : List ℕ) (k : ℕ) (kind : CaseKind) (w : ℕ) (s : Bool) (subject v : BitList) (state : State) → k < length ns → v ≡ value (tree (get_or ns k 0)) w s state
    → is_taken kind w s subject (items_of (map tree (drop k ns))) state ≡ (is_one (case_match kind subject v) || is_taken kind w s subject (items_of (map tree (drop (k + 1) ns))) state)
taken_step tree ns k kind w s subject v state h is =
    ap (λ xs. is_taken kind w s subject (items_of (map tree xs)) state) (drop_more ns k 0 h) ∙ ap (λ x. is_one (case_match kind subject x) || is_taken kind w s subject (items_of (map tree (drop (k + 1) ns))) state) (sym is)

or_true : (a b : Bool) → a ≡ true → (a || b) ≡ true
or_true a b h = ap (λ x. x || b) h

or_false : (a b : Bool) → a ≡ false → (a || b) ≡ b
or_false a b h = ap (λ x. x || b) h

pub item_matches : (tree : ℕ → Expression) (ns : List ℕ) (k : ℕ) (kind : CaseKind) (w : ℕ) (s : Bool) (subject v : BitList) (state : State) → k < length ns → v ≡ value (tree (get_or ns k 0)) w s state → is_one (case_match kind subject v) ≡ true
    → is_taken kind w s subject (items_of (map tree (drop k ns))) state ≡ true
item_matches tree ns k kind w s subject v state h is matches = taken_step tree ns k kind w s subject v state h is ∙ or_true (is_one (case_match kind subject v)) _ matches

pub item_differs : (tree : ℕ → Expression) (ns : List ℕ) (k : ℕ) (kind : CaseKind) (w : ℕ) (s : Bool) (subject v : BitList) (state : State) → k < length ns → v ≡ value (tree (get_or ns k 0)) w s state → is_one (case_match kind subject v) ≡ false
    → is_taken kind w s subject (items_of (map tree (drop k ns))) state ≡ is_taken kind w s subject (items_of (map tree (drop (k + 1) ns))) state
item_differs tree ns k kind w s subject v state h is differs = taken_step tree ns k kind w s subject v state h is ∙ or_false (is_one (case_match kind subject v)) _ differs

pub no_item : (tree : ℕ → Expression) (ns : List ℕ) (k : ℕ) (kind : CaseKind) (w : ℕ) (s : Bool) (subject : BitList) (state : State) → length ns ≤ k → is_taken kind w s subject (items_of (map tree (drop k ns))) state ≡ false
no_item tree ns k kind w s subject state h = ap (λ xs. is_taken kind w s subject (items_of (map tree xs)) state) (drop_end k ns h)

-- ---- arms

pub arm_taken : (tree : ℕ → Expression) (st : ℕ → Statement) (other : Option ℕ) (arms : List F.Arm) (k : ℕ) (arm : F.Arm) (kind : CaseKind) (w : ℕ) (s : Bool) (v : BitList) (state : State) → k < length arms → arm ≡ get_or arms k arm
    → is_taken kind w s v (items_of (map tree arm.items)) state ≡ true → arms_body (arms_tree tree st other (drop k arms)) kind w s v state ≡ body (st arm.statement) state
arm_taken tree st other arms k arm kind w s v state h is matches =
    ap (λ xs. arms_body (arms_tree tree st other xs) kind w s v state) (drop_at arms k arm is h) ∙ cond-true (is_taken kind w s v (items_of (map tree arm.items)) state) _ _ matches

pub arm_passed : (tree : ℕ → Expression) (st : ℕ → Statement) (other : Option ℕ) (arms : List F.Arm) (k : ℕ) (arm : F.Arm) (kind : CaseKind) (w : ℕ) (s : Bool) (v : BitList) (state : State) → k < length arms → arm ≡ get_or arms k arm
    → is_taken kind w s v (items_of (map tree arm.items)) state ≡ false → arms_body (arms_tree tree st other (drop k arms)) kind w s v state ≡ arms_body (arms_tree tree st other (drop (k + 1) arms)) kind w s v state
arm_passed tree st other arms k arm kind w s v state h is differs =
    ap (λ xs. arms_body (arms_tree tree st other xs) kind w s v state) (drop_at arms k arm is h) ∙ cond-false (is_taken kind w s v (items_of (map tree arm.items)) state) _ _ differs

pub no_arm : (tree : ℕ → Expression) (st : ℕ → Statement) (other : Option ℕ) (arms : List F.Arm) (k : ℕ) (kind : CaseKind) (w : ℕ) (s : Bool) (v : BitList) (state : State) → length arms ≤ k
    → arms_body (arms_tree tree st other (drop k arms)) kind w s v state ≡ body (branch st other) state
no_arm tree st other arms k kind w s v state h = ap (λ xs. arms_body (arms_tree tree st other xs) kind w s v state) (drop_end k arms h)
