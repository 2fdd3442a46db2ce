-- The last arm that a selector can take, where the bits that it reads are known.
use Rattle.std.proofs.Common.{◌≡◌, ℕ, zero, suc, ◌+◌, ◌<◌, arith, Bool, true, false, List, [], ◌∷◌, length, map, drop, get_or, if◌then◌else◌, Option, Some, refl, sym, ap, ap₂, ◌∙◌}
use Rattle.std.specs.List.{list_any}
use Rattle.std.proofs.lemmas.List.{drop_more}
use Rattle.vs_design.specs.Expressions.{Expression, Items, NoItem, Item, items_of, is_constant}
use Rattle.vs_design.specs.Statements as T
use Rattle.vs_design.specs.Statements.{CaseKind}
use Rattle.vs_design.specs.Sets.{Set4, known_set}
use Rattle.vs_design.specs.Lifted.{Family, lifted, lifted_items}
use Rattle.vs_design.specs.LiftedBodies.{item_sets, matches_of}
use Rattle.vs_design.specs.Footprints.{contains, read_bits}
use Rattle.vs_design.specs.Selects.{arms_constant, is_possible, items_constant}
use Rattle.vs_design.proofs.ReadValue.{constant_reads}
use Rattle.vs_design.proofs.SetReads.{lifted_reads}
use Rattle.vs_flat.specs.declared.statements.Arm.{Arm}
use Rattle.vs_flat.specs.Trees.{arms_tree}
use Rattle.vs_sets.specs.Completing.{last_possible}
use Rattle.vs_sets.proofs.Fit.{and_left, and_right}

differ : (c : Bool) → c ≡ false → c ≡ true → ⊥
differ true h k = cc
differ false h k = cc

-- constant items have the same sets whatever the bits are
items_same : (es : Items) (w : ℕ) (g : Bool) (f h : Family) → items_constant es ≡ true → lifted_items es w g f ≡ lifted_items es w g h
items_same NoItem w g f h c = refl
items_same (Item e es) w g f h c =
    let one = and_left (is_constant e) (items_constant es) c in
    ap₂ (λ (s : List Set4) (ss : List (List Set4)). s ∷ ss) (lifted_reads e w g f h (λ b k. absurd (differ (contains (read_bits e) b) (constant_reads e one b) k))) (items_same es w g f h (and_right (is_constant e) (items_constant es) c))

pub possible_is : (kind : CaseKind) (w : ℕ) (g : Bool) (subject : Expression) (es : Items) (sets : List Set4) (f : Family) → ((b : ℕ) → contains (read_bits subject) b ≡ true → f b ≡ known_set) → items_constant es ≡ true → sets ≡ lifted subject w g f
    → list_any (λ (m : Set4). m.one?) (item_sets kind w g sets es f) ≡ is_possible kind w g subject es
possible_is kind w g subject es sets f known constant is =
    ap₂ (λ (ss : List Set4) (ms : List (List Set4)). list_any (λ (m : Set4). m.one?) (matches_of kind ss ms)) (is ∙ lifted_reads subject w g f (λ b. known_set) known) (items_same es w g f (λ b. known_set) constant)

pub arm_items_constant : (tree : ℕ → Expression) (body : ℕ → T.Statement) (other : Option ℕ) (arms : List Arm) (k : ℕ) (d : Arm) → arms_constant (arms_tree tree body other arms) ≡ true → k < length arms → items_constant (items_of (map tree ((get_or arms k d).items))) ≡ true
arm_items_constant tree body other [] k d h inside = absurd (omega arith)
arm_items_constant tree body other (arm ∷ arms) zero d h inside = and_left (items_constant (items_of (map tree arm.items))) _ h
arm_items_constant tree body other (arm ∷ arms) (suc k) d h inside = arm_items_constant tree body other arms k d (and_right (items_constant (items_of (map tree arm.items))) _ h) (omega arith)

-- one arm more
pub next_possible : (tree : ℕ → Expression) (kind : CaseKind) (w : ℕ) (g : Bool) (subject : Expression) (last : Option ℕ) (arms : List Arm) (k : ℕ) (arm : Arm) → k < length arms → arm ≡ get_or arms k arm
    → last_possible tree kind w g subject last (drop k arms) ≡ last_possible tree kind w g subject (if is_possible kind w g subject (items_of (map tree arm.items)) then Some arm.statement else last) (drop (k + 1) arms)
next_possible tree kind w g subject last arms k arm h is = ap (last_possible tree kind w g subject last) (drop_more arms k arm h ∙ ap (λ (x : Arm). x ∷ drop (k + 1) arms) (sym is))
