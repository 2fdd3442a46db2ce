-- The families of sets along a level order.
use Rattle.std.proofs.Common.{◌≡◌, ℕ, ◌+◌, ◌-◌, Bool, true, false, List, [], ◌∷◌, ◌++◌, ◌&&◌, ◌||◌, if◌then◌else◌, inr, refl, sym, ap, ◌∙◌, subst, map, take, drop, ◌==◌, eqb-true, Option, Some, None}
use Rattle.std.specs.Prelude.{slice_get}
use Rattle.vs_net.specs.Network.{State, put, write_all}
use Rattle.vs_net.proofs.Basics.{write_all_covered}
use Rattle.vs_four.specs.Selects.{places}
use Rattle.vs_design.specs.Expressions.{Expression, sign, is_constant}
use Rattle.vs_design.specs.Values.{bits_of_signal, word_places, constant_value, word_part_places}
use Rattle.vs_design.specs.Statements.{Target, Whole, PartOf, WordOf, WordPartOf, Both, target_width, Statement}
use Rattle.vs_design.specs.Bodies.{bits_at, assignment_writes, body}
use Rattle.vs_design.specs.Designs.{Process, Continuous, Always, is_clocked, Design}
use Rattle.vs_design.specs.Footprints.{contains, somes, target_bits, read_bits, statement_bits, statement_reads, writes_of, without}
use Rattle.vs_design.specs.Latches.{assigns, latch_bits, early_reads}
use Rattle.vs_design.specs.Rules.{mixed_in, shared_bits}
use Rattle.vs_design.specs.Levels.{needs, is_order_after}
use Rattle.vs_design.specs.Sets.{Set4, has}
use Rattle.vs_design.specs.Lifted.{Family, assigned_sets}
use Rattle.vs_design.specs.LiftedBodies.{put_each, write_sets, assign_sets}
use Rattle.vs_design.specs.Sleepers.{is_sleeping}
use Rattle.vs_design.specs.Selects.{is_lenient_block}
use Rattle.vs_design.specs.TimeZero.{Families, before_run, block_sets, settle_early, settle_late, settle, meant_process, settle_some, families_along}
use Rattle.vs_design.specs.Fits.{fits_target, fits_statement, is_fit}
use Rattle.vs_design.specs.Elaborated.{has_constant_selects}
use Rattle.vs_design.specs.Accepted.{is_empty}
use Rattle.vs_design.specs.TreeLaws.{InSets}
use Rattle.vs_design.proofs.Lists.{by_test, or_neither, and_both, contains-append}
use Rattle.vs_design.proofs.Writes.{either_way, somes_all, assignment_assigns}
use Rattle.vs_design.proofs.SetCalls.{assignment_in}
use Rattle.vs_design.proofs.Words.{addressed_constant, addressed_variable}
use Rattle.vs_design.proofs.SetStatement.{body_in}
use Rattle.vs_design.proofs.Blocks.{early_in, no_latch_at, block_writes}
use Rattle.vs_design.proofs.Drivers.{one_process}
use Rattle.vs_design.proofs.Order.{Turn, turn_of, all_at_end}
use Rattle.vs_design.proofs.WordParts.{part_constant, part_variable}
use Rattle.vs_design.proofs.Meant.{meant_writes}

same_option : {A : Type 0} (x y : A) → Some x ≡ Some y → x ≡ y
same_option x y e = cc

neither : (xs ys : List ℕ) (b : ℕ) → contains (xs ++ ys) b ≡ false → (contains xs b ≡ false) × (contains ys b ≡ false)
neither xs ys b h = or_neither (contains xs b) (contains ys b) (sym (contains-append xs ys b) ∙ h)

pub each_other : (ps : List (Option ℕ)) (ss : List Set4) (sets : Family) (b : ℕ) → contains (somes ps) b ≡ false → put_each ps ss sets b ≡ sets b
each_other [] ss sets b h = refl
each_other (p ∷ ps) [] sets b h = refl
each_other (None ∷ ps) (s ∷ ss) sets b h = each_other ps ss sets b h
each_other (Some c ∷ ps) (s ∷ ss) sets b h =
    let k = or_neither (b == c) (contains (somes ps) b) h in
    each_other ps ss (put sets c s) b k.1 ∙ by_test (b == c) (λ e. absurd (either_way (b == c) e k.0)) (λ e. rw e refl)

write_other : (t : Target) (ss : List Set4) (sets : Family) (b : ℕ) → contains (target_bits t) b ≡ false → write_sets t ss sets b ≡ sets b
write_other (Whole signal) ss sets b h = each_other (map Some (bits_of_signal signal)) ss sets b (subst (λ xs. contains xs b ≡ false) (sym (somes_all (bits_of_signal signal))) h)
write_other (PartOf signal part index) ss sets b h =
    by_test (is_constant index)
    (λ e. rw e (each_other (bits_at signal (places part (sign index) (constant_value index))) ss sets b (subst (λ (c : Bool). contains (if c then somes (bits_at signal (places part (sign index) (constant_value index))) else bits_of_signal signal) b ≡ false) e h)))
    (λ e. rw e (rw (subst (λ (c : Bool). contains (if c then somes (bits_at signal (places part (sign index) (constant_value index))) else bits_of_signal signal) b ≡ false) e h) refl))
write_other (WordOf signal index) ss sets b h =
    by_test (is_constant index)
    (λ e. rw e (each_other (bits_at signal (word_places signal (sign index) (constant_value index))) ss sets b (subst (λ xs. contains xs b ≡ false) (addressed_constant signal index e) h)))
    (λ e. rw e (rw (subst (λ xs. contains xs b ≡ false) (addressed_variable signal index e) h) refl))
write_other (WordPartOf signal address part index) ss sets b h =
    by_test (is_constant address && is_constant index)
    (λ e. rw e (each_other (bits_at signal (word_part_places signal (sign address) (constant_value address) part (sign index) (constant_value index))) ss sets b (subst (λ xs. contains xs b ≡ false) (part_constant signal address part index e) h)))
    (λ e. rw e (rw (subst (λ xs. contains xs b ≡ false) (part_variable signal address part index e) h) refl))
write_other (Both high low) ss sets b h =
    let k = neither (target_bits high) (target_bits low) b h in
    write_other low (take (target_width low) ss) (write_sets high (drop (target_width low) ss) sets) b k.1 ∙ write_other high (drop (target_width low) ss) sets b k.0

early_other : (asleep lenient : Bool) (x : Process) (sets : Family) (b : ℕ) → contains (writes_of x) b ≡ false → settle_early asleep lenient x sets b ≡ sets b
early_other asleep lenient (Continuous place port target_place target e) sets b h = write_other target (assigned_sets e (target_width target) sets) sets b h
early_other asleep lenient (Always place star events st) sets b h = rw h refl

late_other : (asleep : Bool) (x : Process) (sets : Family) (b : ℕ) → contains (writes_of x) b ≡ false → settle_late asleep x sets b ≡ sets b
late_other asleep (Continuous place port target_place target e) sets b h = write_other target (assigned_sets e (target_width target) sets) sets b h
late_other asleep (Always place star events st) sets b h = rw h refl

-- both families agree at the bit
abbrev pub SameAt : Families → Families → ℕ → Type 0
SameAt f g b = (f.early b ≡ g.early b) × (f.late b ≡ g.late b)

-- every settling writer of the bit is in the list
abbrev pub AllIn' : Design → List ℕ → ℕ → Type 0
AllIn' d placed b = (r : ℕ) (x : Process) → slice_get d.processes r ≡ Some x → is_clocked x ≡ false → contains (writes_of x) b ≡ true → contains placed r ≡ true

-- the families after a process's turn
abbrev pub turned : Design → Process → Families → Families
turned d x f = settle (is_sleeping d x) (is_lenient_block x) (meant_process d x) f

along_turn : (d : Design) (p : ℕ) (order : List ℕ) (f : Families) (x : Process) → slice_get d.processes p ≡ Some x → families_along d (p ∷ order) f ≡ families_along d order (turned d x f)
along_turn d p order f x e = ap {B = Families} (λ o. families_along d order (settle_some d o f)) e

more_placed : (d : Design) (placed : List ℕ) (p b : ℕ) → AllIn' d placed b → AllIn' d (p ∷ placed) b
more_placed d placed p b h r x e c w = Rattle.vs_design.proofs.Lists.or_right (r == p) (contains placed r) (h r x e c w)

-- a bit whose writers are placed isn't changed any more
kept : (d : Design) (order placed : List ℕ) (f : Families) (b : ℕ) → is_order_after placed d order ≡ true → AllIn' d placed b → SameAt (families_along d order f) f b
kept d [] placed f b h a = (refl, refl)
kept d (p ∷ order) placed f b h a =
    let t = turn_of d placed p order h in
    let none : contains (writes_of t.process) b ≡ false = by_test (contains (writes_of t.process) b) (λ e. absurd (either_way (contains placed p) (a p t.process t.is t.settles e) t.fresh)) (λ e. e) in
    let r = kept d order (p ∷ placed) (turned d t.process f) b t.rest (more_placed d placed p b a) in
    let q = along_turn d p order f t.process t.is in (
      ap {B = Set4} (λ (g : Families). g.early b) q ∙ r.0 ∙ early_other (is_sleeping d t.process) (is_lenient_block t.process) (meant_process d t.process) f.early b (meant_writes d t.process b ∙ none),
      ap {B = Set4} (λ (g : Families). g.late b) q ∙ r.1 ∙ late_other (is_sleeping d t.process) (meant_process d t.process) f.late b (meant_writes d t.process b ∙ none),
    )

-- the families when a process's turn comes
pub record Found (d : Design) (final : Families) (x : Process) : Type 0 where
  pub then_ : Families
  pub same : (b : ℕ) → contains (needs x) b ≡ true → SameAt final then_ b
  pub own : (b : ℕ) → contains (writes_of x) b ≡ true → SameAt final (turned d x then_) b

pub found : (d : Design) (order placed : List ℕ) (f : Families) (p : ℕ) (x : Process) → is_empty (shared_bits d) ≡ true → is_order_after placed d order ≡ true → slice_get d.processes p ≡ Some x → is_clocked x ≡ false → contains placed p ≡ false → Found d (families_along d order f) x
found d [] placed f p x s h e c n = absurd (either_way (contains placed p) (all_at_end d placed p x h e c) n)
found d (q ∷ order) placed f p x s h e c n =
    let t = turn_of d placed q order h in
    by_test (p == q)
    (λ k. here t (same_option t.process x (sym t.is ∙ subst (λ m. slice_get d.processes m ≡ Some x) (eqb-true p q k) e)) (eqb-true p q k))
    (λ k.
    let r = found d order (q ∷ placed) (turned d t.process f) p x s t.rest e c (ap (λ z. z || contains placed p) k ∙ n) in
    subst (λ g. Found d g x) (sym (along_turn d q order f t.process t.is)) r)
  where
    here : (t : Turn d placed q order) → t.process ≡ x → p ≡ q → Found d (families_along d (q ∷ order) f) x
    here t k m = record {
      then_ = f;
      same = λ b z. kept d (q ∷ order) placed f b h (λ r y i j w. t.ready r y b i j w (subst (λ v. contains (needs v) b ≡ true) (sym k) z));
      own = λ b w.
          let i : slice_get d.processes q ≡ Some x = t.is ∙ ap Some k in
          let u = kept d order (q ∷ placed) (turned d x f) b t.rest (λ r y v g z. Rattle.vs_design.proofs.Lists.or_left (r == q) (contains placed r) (Rattle.std.proofs.Common.eq-eqb r q (one_process d q r x y b s i v w z))) in
          let a = along_turn d q order f x i in
          (ap {B = Set4} (λ (g : Families). g.early b) a ∙ u.0, ap {B = Set4} (λ (g : Families). g.late b) a ∙ u.1);
    }

-- a bit that no assign and no combinational block writes keeps its first sets
pub unwritten : (d : Design) (order : List ℕ) (f : Families) (b : ℕ) → is_order_after [] d order ≡ true → ((r : ℕ) (x : Process) → slice_get d.processes r ≡ Some x → is_clocked x ≡ false → contains (writes_of x) b ≡ false) → SameAt (families_along d order f) f b
unwritten d order f b h a = kept d order [] f b h (λ r x e c w. absurd (either_way (contains (writes_of x) b) w (a r x e c)))

-- ---- what a process makes is in its sets

pub constant_assigns : (t : Target) → has_constant_selects t ≡ true → assigns t ≡ target_bits t
constant_assigns (Whole signal) h = refl
constant_assigns (PartOf signal part index) h = rw h refl
constant_assigns (WordOf signal index) h = rw h refl
constant_assigns (WordPartOf signal address part index) h = rw h refl
constant_assigns (Both high low) h =
    let k = and_both (has_constant_selects high) (has_constant_selects low) h in
    ap {B = List ℕ} (λ xs. xs ++ assigns low) (constant_assigns high k.0) ∙ ap {B = List ℕ} (λ xs. target_bits high ++ xs) (constant_assigns low k.1)

pub assign_made : (t : Target) (e : Expression) (sets : Family) (s r : State) (b : ℕ) → has_constant_selects t ≡ true → fits_target t ≡ true → is_fit e ≡ true → InSets (read_bits e) sets s → contains (target_bits t) b ≡ true → has (assign_sets t e sets b) (write_all r (assignment_writes t e s) b) ≡ true
assign_made t e sets s r b c f g h w =
    let a : contains (assigns t) b ≡ true = subst (λ xs. contains xs b ≡ true) (sym (constant_assigns t c)) w in
    subst (λ v. has (assign_sets t e sets b) v ≡ true) (write_all_covered (assignment_writes t e s) s r b (assignment_assigns t e s b a)) (assignment_in t e sets s b f g h (inr a))

pub block_made : (st : Statement) (sets : Family) (s r : State) (b : ℕ) → fits_statement st ≡ true → mixed_in false st ≡ [] → latch_bits st ≡ [] → InSets (without (statement_reads st) (statement_bits st)) sets s → contains (statement_bits st) b ≡ true → has (block_sets st sets b) (write_all r (body st s).writes b) ≡ true
block_made st sets s r b f m l h w =
    subst (λ v. has (block_sets st sets b) v ≡ true) (write_all_covered (body st s).writes s r b (block_writes st f m l s b ∙ w))
    (body_in st (before_run (statement_bits st) sets) s f m early b (inr (no_latch_at st b l w).1))
  where
    early : InSets (early_reads st []) (before_run (statement_bits st) sets) s
    early c k =
        by_test (contains (statement_bits st) c)
        (λ e. absurd (either_way (contains (early_reads st []) c) k (no_latch_at st c l e).0))
        (λ e. rw e (h c (Rattle.vs_design.proofs.Blocks.contains_without (statement_reads st) (statement_bits st) c (early_in st [] c k) e)))
