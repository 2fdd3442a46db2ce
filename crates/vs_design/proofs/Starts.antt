-- What initial processes write, bit by bit: the same in whatever order they run, where one of them at most writes a bit.
use Rattle.std.proofs.Common.{◌≡◌, ◌≢◌, ℕ, zero, suc, ◌+◌, ◌≤◌, ◌<◌, inl, inr, Bool, true, false, List, [], ◌∷◌, ◌++◌, ◌||◌, ◌&&◌, ◌==◌, eqb-true, if◌then◌else◌, refl, sym, ap, ◌∙◌, subst, length, map, arith, append-nil, append_assoc, length-append}
use Rattle.std.specs.Prelude.{filter}
use Rattle.std.specs.List.{flat_map, list_all}
use Rattle.vs_four.specs.declared.Bit4.TheVariants.{X}
use Rattle.vs_net.specs.Solution.{after_initial}
use Rattle.vs_net.specs.Network.{State, Write, Update, put, write_all, is_written, flatten}
use Rattle.vs_net.proofs.Basics.{same_number, put-other, write_all_at, write_all_other, write_all-append, unwritten_none}
use Rattle.vs_net.proofs.Beginning.{flat_append}
use Rattle.vs_design.specs.Designs.{Initial, Design}
use Rattle.vs_design.specs.Elaborated.{is_formed_initial}
use Rattle.vs_design.specs.Footprints.{contains, statement_bits}
use Rattle.vs_design.specs.Initials.{starters_from, initial_writes, initial_updates, initial_bits, idle_value, first_value, start_value, IsOrderOf}
use Rattle.vs_design.specs.Networks.{update_of, updates_to}
use Rattle.vs_design.proofs.Lists.{by_test, and_both, or_false, or_neither, contains-append}
use Rattle.vs_design.proofs.Writes.{either_way, written-append}
use Rattle.vs_design.proofs.BodyExact.{one_flat}
use Rattle.vs_design.proofs.FormedWithin.{formed_within}

-- ---- what is to some bits alone

pub update_flat : (ws : List Write) → flatten (update_of ws) ≡ ws
unfolding flatten
update_flat [] = refl
update_flat (w ∷ ws) = append-nil (w ∷ ws)

written_cons : (w : Write) (ws : List Write) (b : ℕ) → is_written (w ∷ ws) b ≡ ((b == w.bit) || is_written ws b)
unfolding is_written
written_cons w ws b = refl

written_filter : (own : ℕ → Bool) (ws : List Write) (b : ℕ) → is_written (filter (λ w. own w.bit) ws) b ≡ (is_written ws b && own b)
written_filter own [] b = unwritten_none b ∙ sym (ap (λ c. c && own b) (unwritten_none b))
written_filter own (w ∷ ws) b =
    by_test (own w.bit)
    (λ o. rw o
    (written_cons w (filter (λ w. own w.bit) ws) b
    ∙ by_test (b == w.bit)
    (λ e. rw e (sym (ap (λ c. c && own b) (written_cons w ws b ∙ ap (λ c. c || is_written ws b) e) ∙ subst (λ m. own m ≡ true) (sym (eqb-true b w.bit e)) o)))
    (λ e. rw e (written_filter own ws b ∙ sym (ap (λ c. c && own b) (written_cons w ws b ∙ ap (λ c. c || is_written ws b) e))))))
    (λ o. rw o
    (written_filter own ws b
    ∙ by_test (b == w.bit)
    (λ e.
    let not_own : own b ≡ false = subst (λ m. own m ≡ false) (sym (eqb-true b w.bit e)) o in
    ap (λ c. is_written ws b && c) not_own ∙ and_no (is_written ws b) ∙ sym (ap (λ c. is_written (w ∷ ws) b && c) not_own ∙ and_no (is_written (w ∷ ws) b)))
    (λ e. sym (ap (λ c. c && own b) (written_cons w ws b ∙ ap (λ c. c || is_written ws b) e)))))
  where
    and_no : (a : Bool) → (a && false) ≡ false
    and_no true = refl
    and_no false = refl

value_filter : (own : ℕ → Bool) (ws : List Write) (s : State) (b : ℕ) → own b ≡ true → write_all s (filter (λ w. own w.bit) ws) b ≡ write_all s ws b
unfolding write_all
value_filter own [] s b h = refl
value_filter own (w ∷ ws) s b h =
    by_test (own w.bit)
    (λ o. rw o (value_filter own ws (put s w.bit w.value) b h))
    (λ o. rw o (value_filter own ws s b h ∙ write_all_at ws s (put s w.bit w.value) b (sym (put-other s w.bit w.value b (λ e. either_way (own b) h (subst (λ m. own m ≡ false) (sym e) o))))))

pub own_written : (own : ℕ → Bool) (us : List Update) (b : ℕ) → is_written (flatten (updates_to own us)) b ≡ (is_written (flatten us) b && own b)
unfolding flatten
own_written own [] b = unwritten_none b ∙ sym (ap (λ c. c && own b) (unwritten_none b))
own_written own (u ∷ us) b =
    ap (λ ws. is_written ws b) (flat_append (update_of (filter (λ w. own w.bit) u)) (updates_to own us))
    ∙ written-append (flatten (update_of (filter (λ w. own w.bit) u))) (flatten (updates_to own us)) b
    ∙ ap (λ ws. is_written ws b || is_written (flatten (updates_to own us)) b) (update_flat (filter (λ w. own w.bit) u))
    ∙ ap (λ c. c || is_written (flatten (updates_to own us)) b) (written_filter own u b)
    ∙ ap (λ c. (is_written u b && own b) || c) (own_written own us b)
    ∙ shared (is_written u b) (is_written (flatten us) b) (own b)
    ∙ sym (ap (λ c. c && own b) (written-append u (flatten us) b))
  where
    shared : (x y z : Bool) → ((x && z) || (y && z)) ≡ ((x || y) && z)
    shared true y true = refl
    shared true true false = refl
    shared true false false = refl
    shared false y z = refl

pub own_value : (own : ℕ → Bool) (us : List Update) (s : State) (b : ℕ) → own b ≡ true → write_all s (flatten (updates_to own us)) b ≡ write_all s (flatten us) b
unfolding flatten
own_value own [] s b h = refl
own_value own (u ∷ us) s b h =
    ap (λ ws. write_all s ws b) (flat_append (update_of (filter (λ w. own w.bit) u)) (updates_to own us))
    ∙ ap (λ ws. write_all s (ws ++ flatten (updates_to own us)) b) (update_flat (filter (λ w. own w.bit) u))
    ∙ ap (λ (t : State). t b) (write_all-append (filter (λ w. own w.bit) u) (flatten (updates_to own us)) s)
    ∙ own_value own us (write_all s (filter (λ w. own w.bit) u)) b h
    ∙ write_all_at (flatten us) (write_all s (filter (λ w. own w.bit) u)) (write_all s u) b (value_filter own u s b h)
    ∙ sym (ap (λ (t : State). t b) (write_all-append u (flatten us) s))

pub none_own : (us : List Update) → updates_to (λ b. false) us ≡ []
none_own [] = refl
none_own (u ∷ us) = ap (λ vs. update_of vs ++ updates_to (λ b. false) us) (nothing u) ∙ none_own us
  where
    nothing : (ws : List Write) → filter (λ (w : Write). false) ws ≡ []
    nothing [] = refl
    nothing (w ∷ ws) = nothing ws

-- ---- in any order

flat_map-append : {A B : Type 0} (f : A → List B) (xs ys : List A) → flat_map f (xs ++ ys) ≡ flat_map f xs ++ flat_map f ys
flat_map-append f [] ys = refl
flat_map-append f (x ∷ xs) ys = ap (λ zs. f x ++ zs) (flat_map-append f xs ys) ∙ sym (append_assoc (f x) (flat_map f xs) (flat_map f ys))

-- what all of these give
abbrev all_of : (Initial → List Update) → List Initial → List Write
all_of f is = flatten (flat_map f is)

all_cons : (f : Initial → List Update) (i : Initial) (is : List Initial) → all_of f (i ∷ is) ≡ flatten (f i) ++ all_of f is
all_cons f i is = flat_append (f i) (flat_map f is)

all_append : (f : Initial → List Update) (xs ys : List Initial) → all_of f (xs ++ ys) ≡ all_of f xs ++ all_of f ys
all_append f xs ys = ap flatten (flat_map-append f xs ys) ∙ flat_append (flat_map f xs) (flat_map f ys)

pub written_in_order : (f : Initial → List Update) (is order : List Initial) (b : ℕ) → IsOrderOf is order → is_written (all_of f order) b ≡ is_written (all_of f is) b
written_in_order f is [] b h = rw h refl
written_in_order f is (i ∷ order) b (before, after, e, rest) =
    ap (λ ws. is_written ws b) (all_cons f i order)
    ∙ written-append (flatten (f i)) (all_of f order) b
    ∙ ap (λ c. is_written (flatten (f i)) b || c) (written_in_order f (before ++ after) order b rest ∙ ap (λ ws. is_written ws b) (all_append f before after) ∙ written-append (all_of f before) (all_of f after) b)
    ∙ exchanged (is_written (flatten (f i)) b) (is_written (all_of f before) b) (is_written (all_of f after) b)
    ∙ sym (ap (λ xs. is_written (all_of f xs) b) e ∙ ap (λ ws. is_written ws b) (all_append f before (i ∷ after)) ∙ written-append (all_of f before) (all_of f (i ∷ after)) b
    ∙ ap (λ c. is_written (all_of f before) b || c) (ap (λ ws. is_written ws b) (all_cons f i after) ∙ written-append (flatten (f i)) (all_of f after) b))
  where
    exchanged : (x y z : Bool) → (x || (y || z)) ≡ (y || (x || z))
    exchanged true true z = refl
    exchanged true false z = refl
    exchanged false y z = refl

-- how many of them write the bit
abbrev pub one_if : Bool → ℕ
one_if true = 1
one_if false = 0

abbrev pub how_many : List Initial → ℕ → ℕ
how_many [] b = 0
how_many (i ∷ is) b = one_if (contains (statement_bits i.statement) b) + how_many is b

pub many_starters : (k : ℕ) (is : List Initial) (b : ℕ) → length (starters_from k is b) ≡ how_many is b
many_starters k [] b = refl
many_starters k (i ∷ is) b =
    length-append (if contains (statement_bits i.statement) b then (k ∷ []) else []) (starters_from (suc k) is b)
    ∙ ap (λ n. n + length (starters_from (suc k) is b)) (one k (contains (statement_bits i.statement) b))
    ∙ ap (λ n. one_if (contains (statement_bits i.statement) b) + n) (many_starters (suc k) is b)
  where
    one : (k : ℕ) (c : Bool) → length (if c then (k ∷ []) else []) ≡ one_if c
    one k true = refl
    one k false = refl

many_append : (xs ys : List Initial) (b : ℕ) → how_many (xs ++ ys) b ≡ how_many xs b + how_many ys b
many_append [] ys b = omega arith
many_append (x ∷ xs) ys b = let h = many_append xs ys b in omega (arith, h)

-- each gives what it writes, and that are bits of its statement
abbrev GivesOwn : Design → (Initial → List Update) → Type 0
GivesOwn d f = (i : Initial) (b : ℕ) → is_formed_initial d i ≡ true → is_written (flatten (f i)) b ≡ true → contains (statement_bits i.statement) b ≡ true

formed_parts : (d : Design) (xs ys : List Initial) → list_all (is_formed_initial d) (xs ++ ys) ≡ true → (list_all (is_formed_initial d) xs ≡ true) × (list_all (is_formed_initial d) ys ≡ true)
formed_parts d [] ys h = (refl, h)
formed_parts d (x ∷ xs) ys h = let k = and_both (is_formed_initial d x) (list_all (is_formed_initial d) (xs ++ ys)) h in let r = formed_parts d xs ys k.1 in (rw k.0 r.0, r.1)

formed_both : (d : Design) (xs ys : List Initial) → list_all (is_formed_initial d) xs ≡ true → list_all (is_formed_initial d) ys ≡ true → list_all (is_formed_initial d) (xs ++ ys) ≡ true
formed_both d [] ys g h = h
formed_both d (x ∷ xs) ys g h = let k = and_both (is_formed_initial d x) (list_all (is_formed_initial d) xs) g in rw k.0 (formed_both d xs ys k.1 h)

none_gives : (d : Design) (f : Initial → List Update) (is : List Initial) (b : ℕ) → GivesOwn d f → list_all (is_formed_initial d) is ≡ true → how_many is b ≡ 0 → is_written (all_of f is) b ≡ false
unfolding flatten
none_gives d f [] b g formed h = unwritten_none b
none_gives d f (i ∷ is) b g formed h =
    let k = and_both (is_formed_initial d i) (list_all (is_formed_initial d) is) formed in
    ap (λ ws. is_written ws b) (all_cons f i is) ∙ written-append (flatten (f i)) (all_of f is) b
    ∙ or_false (is_written (flatten (f i)) b) (is_written (all_of f is) b) (unwritten i b g k.0 (no_one (contains (statement_bits i.statement) b) (how_many is b) h)) (none_gives d f is b g k.1 (omega (arith, h)))
  where
    no_one : (c : Bool) (n : ℕ) → one_if c + n ≡ 0 → c ≡ false
    no_one true n h = absurd (omega arith)
    no_one false n h = refl

    unwritten : (i : Initial) (b : ℕ) → GivesOwn d f → is_formed_initial d i ≡ true → contains (statement_bits i.statement) b ≡ false → is_written (flatten (f i)) b ≡ false
    unwritten i b g k e = by_test (is_written (flatten (f i)) b) (λ w. absurd (either_way (contains (statement_bits i.statement) b) (g i b k w) e)) (λ w. w)

pub value_in_order : (d : Design) (f : Initial → List Update) (is order : List Initial) (s : State) (b : ℕ) → GivesOwn d f → list_all (is_formed_initial d) is ≡ true → how_many is b ≤ 1 → IsOrderOf is order → write_all s (all_of f order) b ≡ write_all s (all_of f is) b
value_in_order d f is [] s b g formed h k = rw k refl
value_in_order d f is (i ∷ order) s b g formed h (before, after, e, rest) =
    by_test (contains (statement_bits i.statement) b) here (λ c. there c (λ m. value_in_order d f (before ++ after) order s b g (formed_both d before after all_formed.0 own_formed.1) m rest))
    ∙ sym (ap (λ xs. write_all s (all_of f xs) b) e ∙ ap (λ ws. write_all s ws b) (all_append f before (i ∷ after)) ∙ ap (λ ws. write_all s (all_of f before ++ ws) b) (all_cons f i after)
    ∙ ap (λ (t : State). t b) (write_all-append (all_of f before) (flatten (f i) ++ all_of f after) s) ∙ ap (λ (t : State). t b) (write_all-append (flatten (f i)) (all_of f after) (write_all s (all_of f before))))
  where
    all_formed : (list_all (is_formed_initial d) before ≡ true) × (list_all (is_formed_initial d) (i ∷ after) ≡ true)
    all_formed = formed_parts d before (i ∷ after) (subst (λ xs. list_all (is_formed_initial d) xs ≡ true) e formed)

    own_formed : (is_formed_initial d i ≡ true) × (list_all (is_formed_initial d) after ≡ true)
    own_formed = and_both (is_formed_initial d i) (list_all (is_formed_initial d) after) all_formed.1

    many : how_many before b + (one_if (contains (statement_bits i.statement) b) + how_many after b) ≤ 1
    many = subst (λ n. n ≤ 1) (ap (λ xs. how_many xs b) e ∙ many_append before (i ∷ after) b) h

    here : contains (statement_bits i.statement) b ≡ true → write_all s (all_of f (i ∷ order)) b ≡ write_all (write_all (write_all s (all_of f before)) (flatten (f i))) (all_of f after) b
    here c =
        let m = subst (λ (t : Bool). how_many before b + (one_if t + how_many after b) ≤ 1) c many in
        let nb = none_gives d f before b g all_formed.0 (omega (arith, m)) in
        let na = none_gives d f after b g own_formed.1 (omega (arith, m)) in
        let no = written_in_order f (before ++ after) order b rest ∙ ap (λ ws. is_written ws b) (all_append f before after) ∙ written-append (all_of f before) (all_of f after) b ∙ or_false (is_written (all_of f before) b) (is_written (all_of f after) b) nb na in
        ap (λ ws. write_all s ws b) (all_cons f i order) ∙ ap (λ (t : State). t b) (write_all-append (flatten (f i)) (all_of f order) s)
        ∙ write_all_other (all_of f order) (write_all s (flatten (f i))) b no
        ∙ write_all_at (flatten (f i)) s (write_all s (all_of f before)) b (sym (write_all_other (all_of f before) s b nb))
        ∙ sym (write_all_other (all_of f after) (write_all (write_all s (all_of f before)) (flatten (f i))) b na)

    there : contains (statement_bits i.statement) b ≡ false → (how_many (before ++ after) b ≤ 1 → write_all s (all_of f order) b ≡ write_all s (all_of f (before ++ after)) b) → write_all s (all_of f (i ∷ order)) b ≡ write_all (write_all (write_all s (all_of f before)) (flatten (f i))) (all_of f after) b
    there c others =
        let m = subst (λ (t : Bool). how_many before b + (one_if t + how_many after b) ≤ 1) c many in
        let both = many_append before after b in
        let ni : is_written (flatten (f i)) b ≡ false = by_test (is_written (flatten (f i)) b) (λ w. absurd (either_way (contains (statement_bits i.statement) b) (g i b own_formed.0 w) c)) (λ w. w) in
        ap (λ ws. write_all s ws b) (all_cons f i order) ∙ ap (λ (t : State). t b) (write_all-append (flatten (f i)) (all_of f order) s)
        ∙ write_all_at (all_of f order) (write_all s (flatten (f i))) s b (write_all_other (flatten (f i)) s b ni)
        ∙ others (omega (arith, m, both))
        ∙ ap (λ ws. write_all s ws b) (all_append f before after) ∙ ap (λ (t : State). t b) (write_all-append (all_of f before) (all_of f after) s)
        ∙ write_all_at (all_of f after) (write_all s (all_of f before)) (write_all (write_all s (all_of f before)) (flatten (f i))) b (sym (write_all_other (flatten (f i)) (write_all s (all_of f before)) b ni))

-- an order is one of itself
pub same_order : (is : List Initial) → IsOrderOf is is
same_order [] = refl
same_order (i ∷ is) = ([], is, refl, same_order is)

-- what they write at once, as the updates of each
pub firsts_are : (is : List Initial) → map initial_writes is ≡ flat_map (λ i. initial_writes i ∷ []) is
firsts_are [] = refl
firsts_are (i ∷ is) = ap (λ xs. initial_writes i ∷ xs) (firsts_are is)

-- a bit that no initial process writes is none of theirs
pub how_many_none : (is : List Initial) (b : ℕ) → contains (initial_bits is) b ≡ false → how_many is b ≡ 0
how_many_none [] b h = refl
how_many_none (i ∷ is) b h =
    let k = or_neither (contains (statement_bits i.statement) b) (contains (initial_bits is) b) (sym (contains-append (statement_bits i.statement) (initial_bits is) b) ∙ h) in
    let r = how_many_none is b k.1 in rw k.0 (omega (arith, r))

pub none_gives_all : (d : Design) (f : Initial → List Update) (is order : List Initial) (b : ℕ) → GivesOwn d f → list_all (is_formed_initial d) is ≡ true → IsOrderOf is order → contains (initial_bits is) b ≡ false → is_written (all_of f order) b ≡ false
none_gives_all d f is order b g formed o h = written_in_order f is order b o ∙ none_gives d f is b g formed (how_many_none is b h)

pub firsts_own : (d : Design) → GivesOwn d (λ i. initial_writes i ∷ [])
firsts_own d i b formed h = formed_within d i.statement (λ b. X) formed b (inl (subst (λ ws. is_written ws b ≡ true) (one_flat (initial_writes i)) h))

pub updates_own : (d : Design) → GivesOwn d initial_updates
updates_own d i b formed h = formed_within d i.statement (λ b. X) formed b (inr h)

-- such a bit stays as it was
pub first_unset : (d : Design) → list_all (is_formed_initial d) d.initials ≡ true → (b : ℕ) → contains (initial_bits d.initials) b ≡ false → first_value d b ≡ idle_value d b
first_unset d formed b h = write_all_other (flatten (map initial_writes d.initials)) (idle_value d) b
    (ap (λ us. is_written (flatten us) b) (firsts_are d.initials) ∙ none_gives_all d (λ i. initial_writes i ∷ []) d.initials d.initials b (firsts_own d) formed (same_order d.initials) h)

pub start_unset : (d : Design) → list_all (is_formed_initial d) d.initials ≡ true → (b : ℕ) → contains (initial_bits d.initials) b ≡ false → start_value d b ≡ idle_value d b
start_unset d formed b h =
    write_all_other (flatten (flat_map initial_updates d.initials)) (first_value d) b (none_gives_all d initial_updates d.initials d.initials b (updates_own d) formed (same_order d.initials) h)
    ∙ first_unset d formed b h

-- ---- process by process

pub after_none : (initial : ℕ → List Update) (s : State) (b k : ℕ) → ((x : ℕ) → is_written (flatten (initial x)) b ≡ false) → after_initial initial k s b ≡ s b
after_none initial s b zero h = refl
after_none initial s b (suc k) h = write_all_other (flatten (initial k)) (after_initial initial k s) b (h k) ∙ after_none initial s b k h

pub after_one : (initial : ℕ → List Update) (s : State) (b p k : ℕ) → p < k → ((x : ℕ) → x ≢ p → is_written (flatten (initial x)) b ≡ false) → after_initial initial k s b ≡ write_all s (flatten (initial p)) b
after_one initial s b p zero l h = absurd (omega arith)
after_one initial s b p (suc k) l h = same_number p k
    (λ e. write_all_at (flatten (initial k)) (after_initial initial k s) s b (below k (omega (arith, e))) ∙ ap (λ (x : ℕ). write_all s (flatten (initial x)) b) (sym e))
    (λ ne. write_all_other (flatten (initial k)) (after_initial initial k s) b (h k (λ f. ne (sym f))) ∙ after_one initial s b p k (omega (arith, l, ne)) h)
  where
    below : (m : ℕ) → m ≤ p → after_initial initial m s b ≡ s b
    below zero l = refl
    below (suc m) l = write_all_other (flatten (initial m)) (after_initial initial m s) b (h m (λ f. absurd (omega (arith, l, f)))) ∙ below m (omega (arith, l))
