-- Links of classes.
use Rattle.std.proofs.Common.{◌≡◌, ◌≢◌, ◌⊎◌, inl, inr, ℕ, zero, suc, ◌+◌, ◌<◌, ◌≤◌, List, [], ◌∷◌, ◌++◌, length, drop, get_or, set, refl, sym, ap, ◌∙◌, subst, arith}
use Rattle.std.specs.Prelude.{Option, Some, slice_get}
use Rattle.std.proofs.lemmas.Bool.{cases_eq, cases_order}
use Rattle.std.proofs.lemmas.List.{get_or-set_other, length-append, length-set}
use Rattle.std.proofs.lemmas.Grind.{get_or-set_at}
use Rattle.std.proofs.Math.Seq.{drop-length}
use Rattle.vs_design.specs.Designs.{Process}
use Rattle.vs_vcd.specs.Links.{LinkBack, AreLinks, KeepsLinks}
use Rattle.vs_vcd.specs.Shared.{code_by, join_of, merged, with_join}
use Rattle.vs_vcd.proofs.Classes.{code_by-more, code_by-none, merged-is, merged_both}
use Rattle.vs_vcd.proofs.Grouping.{drop-at}

-- what a list has at a place where it was set, and elsewhere
set_cases : (P : ℕ → Type 0) (xs : List ℕ) (i j v : ℕ) → i < length xs → (j ≡ i → P v) → (j ≢ i → P (get_or xs j 0)) → P (get_or (set xs i v) j 0)
set_cases P xs i j v within here there = of (cases_eq j i)
  where
    of : (j ≡ i) ⊎ (j ≡ i → ⊥) → P (get_or (set xs i v) j 0)
    of (inl e) = subst P (sym (get_or-set_at xs i j v 0 e within)) (here e)
    of (inr n) = subst P (sym (get_or-set_other xs i j v 0 n)) (there n)

-- a signal links to an earlier one
pub back_set : (links : List ℕ) (n m : ℕ) → LinkBack links → n < length links → m ≤ n → LinkBack (set links n m)
back_set links n m back within le k h =
    let inside : k < length links = subst (λ (l : ℕ). k < l) (length-set links n m) h in
    set_cases (λ (r : ℕ). r ≤ k) links n k m within (λ e. omega arith) (λ _. back k inside)

-- one of the same class
pub links_set : (code : ℕ → ℕ) (links : List ℕ) (n m : ℕ) → n < length links → code m ≡ code n → (m ≡ n → code n ≡ n) → AreLinks code links → AreLinks code (set links n m)
links_set code links n m within same first old = record {
  same = λ k h.
      let inside : k < length links = subst (λ (l : ℕ). k < l) (length-set links n m) h in
      set_cases (λ (r : ℕ). code r ≡ code k) links n k m within (λ e. same ∙ ap code (sym e)) (λ _. old.same k inside);
  first = λ k h.
      let inside : k < length links = subst (λ (l : ℕ). k < l) (length-set links n m) h in
      set_cases (λ (r : ℕ). r ≡ k → code k ≡ k) links n k m within (λ e q. subst (λ (r : ℕ). code r ≡ r) (sym e) (first (q ∙ e))) (λ _. old.first k inside);
}

-- ---- a step on the way to the first one

pub record IsStep (links : List ℕ) (n next : ℕ) (new : List ℕ) : Type 0 where
  pub count : length new ≡ length links
  pub back : LinkBack new
  pub kept : KeepsLinks links new
  pub code : (code : ℕ → ℕ) → AreLinks code links → code next ≡ code n
  pub low : next ≤ n
  pub less : get_or links n 0 ≢ n → next < n

pub step : (links : List ℕ) (n : ℕ) → LinkBack links → n < length links → IsStep links n (get_or links (get_or links n 0) 0) (set links n (get_or links (get_or links n 0) 0))
step links n back within =
    let link : ℕ = get_or links n 0 in
    let low : link ≤ n = back n within in
    let inside : link < length links = omega arith in
    let next : ℕ = get_or links link 0 in
    let lower : next ≤ link = back link inside in
    let code_is : (code : ℕ → ℕ) → AreLinks code links → code next ≡ code n = λ code a. a.same link inside ∙ a.same n within in
    record {
      count = length-set links n next;
      back = back_set links n next back within (omega arith);
      kept = λ code a. links_set code links n next within (code_is code a) (λ e. let own : link ≡ n = omega arith in a.first n within own) a;
      code = code_is;
      low = omega arith;
      less = λ other. omega arith;
    }

-- ---- two classes become one

pub joined_low : (code : ℕ → ℕ) (links : List ℕ) (one other a b : ℕ) → AreLinks code links → b < length links → a ≡ code one → b ≡ code other → code a ≡ a → code b ≡ b → a < b
    → AreLinks (with_join (Some (one, other)) code) (set links b a)
joined_low code links one other a b old within is_a is_b own_a own_b less =
    let new : ℕ → ℕ = λ k. merged (code one) (code other) (code k) in
    let as_is : (r : ℕ) → merged (code one) (code other) r ≡ merged a b r = λ r. ap (λ (x : ℕ). merged x (code other) r) (sym is_a) ∙ ap (λ (x : ℕ). merged a x r) (sym is_b) in
    record {
      same = λ k h.
          let inside : k < length links = subst (λ (l : ℕ). k < l) (length-set links b a) h in
          set_cases (λ (r : ℕ). new r ≡ new k) links b k a within
          (λ e. as_is (code a) ∙ ap (merged a b) own_a ∙ merged_both a b ∙ sym (as_is (code k) ∙ ap (merged a b) (ap code e ∙ own_b)))
          (λ _. ap (merged (code one) (code other)) (old.same k inside));
      first = λ k h.
          let inside : k < length links = subst (λ (l : ℕ). k < l) (length-set links b a) h in
          set_cases (λ (r : ℕ). r ≡ k → new k ≡ k) links b k a within
          (λ e q. absurd (omega arith))
          (λ n q.
          let own : code k ≡ k = old.first k inside q in
          as_is (code k) ∙ ap (merged a b) own ∙ (merged-is a b k).low_other less n);
    }

pub joined_high : (code : ℕ → ℕ) (links : List ℕ) (one other a b : ℕ) → AreLinks code links → a < length links → a ≡ code one → b ≡ code other → code a ≡ a → code b ≡ b → b ≤ a
    → AreLinks (with_join (Some (one, other)) code) (set links a b)
joined_high code links one other a b old within is_a is_b own_a own_b more =
    let new : ℕ → ℕ = λ k. merged (code one) (code other) (code k) in
    let as_is : (r : ℕ) → merged (code one) (code other) r ≡ merged a b r = λ r. ap (λ (x : ℕ). merged x (code other) r) (sym is_a) ∙ ap (λ (x : ℕ). merged a x r) (sym is_b) in
    record {
      same = λ k h.
          let inside : k < length links = subst (λ (l : ℕ). k < l) (length-set links a b) h in
          set_cases (λ (r : ℕ). new r ≡ new k) links a k b within
          (λ e. as_is (code b) ∙ ap (merged a b) own_b ∙ sym (merged_both a b) ∙ sym (as_is (code k) ∙ ap (merged a b) (ap code e ∙ own_a)))
          (λ _. ap (merged (code one) (code other)) (old.same k inside));
      first = λ k h.
          let inside : k < length links = subst (λ (l : ℕ). k < l) (length-set links a b) h in
          set_cases (λ (r : ℕ). r ≡ k → new k ≡ k) links a k b within
          (λ e q. as_is (code k) ∙ ap (merged a b) (ap code e ∙ own_a) ∙ (merged-is a b a).high more refl ∙ q)
          (λ n q.
          let own : code k ≡ k = old.first k inside q in
          as_is (code k) ∙ ap (merged a b) own ∙ (merged-is a b k).high_other more n);
    }

-- ---- links to the first ones

-- the links of the signals before n lead to the first of their classes, and the others are as they were
pub record AreShort (initial links : List ℕ) (n : ℕ) : Type 0 where
  pub count : length links ≡ length initial
  pub before : (code : ℕ → ℕ) → AreLinks code initial → (m : ℕ) → m < n → m < length initial → get_or links m 0 ≡ code m
  pub behind : (m : ℕ) → n ≤ m → get_or links m 0 ≡ get_or initial m 0

pub short_none : (links : List ℕ) → AreShort links links 0
short_none links = record { count = refl; before = λ code a m h i. absurd (omega arith); behind = λ m h. refl }

-- where a link leads
pub short_within : (initial links : List ℕ) (n : ℕ) → LinkBack initial → AreShort initial links n → n < length links → get_or links n 0 < length links
short_within initial links n back s h =
    let low : get_or initial n 0 ≤ n = back n (omega (arith, s.count)) in
    omega (arith, s.behind n (omega arith), low)

pub short_more : (initial links : List ℕ) (n m : ℕ) → m ≡ n + 1 → LinkBack initial → AreShort initial links n → n < length links → AreShort initial (set links n (get_or links (get_or links n 0) 0)) m
short_more initial links n m next back s h =
    let link : ℕ = get_or links n 0 in
    let was : link ≡ get_or initial n 0 = s.behind n (omega arith) in
    let low : get_or initial n 0 ≤ n = back n (omega (arith, s.count)) in
    let value : ℕ = get_or links link 0 in
    record {
      count = length-set links n value ∙ s.count;
      before = λ code a k less inside.
          set_cases (λ (r : ℕ). r ≡ code k) links n k value h
          (λ e. found code a k e inside (cases_order link n))
          (λ other. s.before code a k (omega arith) inside);
      behind = λ k more. set_cases (λ (r : ℕ). r ≡ get_or initial k 0) links n k value h (λ e. absurd (omega arith)) (λ other. s.behind k (omega arith));
    }
  where
    found : (code : ℕ → ℕ) → AreLinks code initial → (k : ℕ) → k ≡ n → k < length initial → (get_or links n 0 ≡ n) ⊎ ((get_or links n 0 < n) ⊎ (n < get_or links n 0)) → get_or links (get_or links n 0) 0 ≡ code k
    found code a k e inside (inl own) =
        let was : get_or links n 0 ≡ get_or initial n 0 = s.behind n (omega arith) in
        let self : get_or initial n 0 ≡ n = sym was ∙ own in
        ap (λ (i : ℕ). get_or links i 0) own ∙ own ∙ sym (ap code e ∙ a.first n (omega (arith, s.count)) self)
    found code a k e inside (inr (inl less)) =
        let was : get_or links n 0 ≡ get_or initial n 0 = s.behind n (omega arith) in
        s.before code a (get_or links n 0) less (omega (arith, s.count)) ∙ ap code was ∙ a.same n (omega (arith, s.count)) ∙ ap code (sym e)
    found code a k e inside (inr (inr more)) =
        let was : get_or links n 0 ≡ get_or initial n 0 = s.behind n (omega arith) in
        let low : get_or initial n 0 ≤ n = back n (omega (arith, s.count)) in
        absurd (omega arith)

pub all_short : (initial links : List ℕ) (n : ℕ) → AreShort initial links n → length links ≤ n → (code : ℕ → ℕ) → AreLinks code initial → (m : ℕ) → m < length initial → get_or links m 0 ≡ code m
all_short initial links n s end code a m h = s.before code a m (omega (arith, s.count)) h

-- ---- each signal alone

-- so many signals that link to themselves
pub record AreOwn (links : List ℕ) (n : ℕ) : Type 0 where
  pub count : length links ≡ n
  pub own : (m : ℕ) → m < n → get_or links m 0 ≡ m

pub own_none : AreOwn [] 0
own_none = record { count = refl; own = λ m h. absurd (omega arith) }

get_or-append-last : (xs : List ℕ) (x : ℕ) → get_or (xs ++ x ∷ []) (length xs) 0 ≡ x
get_or-append-last [] x = refl
get_or-append-last (y ∷ ys) x = get_or-append-last ys x

get_or-front : (xs ys : List ℕ) (i : ℕ) → i < length xs → get_or (xs ++ ys) i 0 ≡ get_or xs i 0
get_or-front [] ys i l = absurd (omega arith)
get_or-front (x ∷ xs) ys zero l = refl
get_or-front (x ∷ xs) ys (suc i) l = get_or-front xs ys i (omega arith)

pub own_more : (links more : List ℕ) (n m : ℕ) → AreOwn links n → m ≡ n + 1 → more ≡ links ++ n ∷ [] → AreOwn more m
own_more links more n m h next is = record {
  count = ap length is ∙ length-append links (n ∷ []) ∙ one_more (length links) h.count;
  own = λ k less. ap (λ (xs : List ℕ). get_or xs k 0) is ∙ at k less (cases_eq k n);
}
  where
    one_more : (l : ℕ) → l ≡ n → l + 1 ≡ m
    one_more l e = omega arith

    at : (k : ℕ) → k < m → (k ≡ n) ⊎ (k ≡ n → ⊥) → get_or (links ++ n ∷ []) k 0 ≡ k
    at k less (inl e) = let end : k ≡ length links = omega (arith, h.count) in ap (λ (i : ℕ). get_or (links ++ n ∷ []) i 0) end ∙ get_or-append-last links n ∙ sym e
    at k less (inr other) = let inside : k < n = omega arith in get_or-front links (n ∷ []) k (omega (arith, h.count)) ∙ h.own k inside

pub own_back : (links : List ℕ) (n : ℕ) → AreOwn links n → LinkBack links
own_back links n h k less = omega (arith, h.own k (omega (arith, h.count)))

pub own_links : (links : List ℕ) (n : ℕ) → AreOwn links n → AreLinks (λ k. k) links
own_links links n h = record { same = λ k less. h.own k (omega (arith, h.count)); first = λ k less e. refl }

-- ---- along the processes

links_as : (f g : ℕ → ℕ) (links : List ℕ) → ((n : ℕ) → f n ≡ g n) → AreLinks f links → AreLinks g links
links_as f g links e h = record { same = λ n l. sym (e (get_or links n 0)) ∙ h.same n l ∙ e n; first = λ n l q. sym (e n) ∙ h.first n l q }

-- where no process is left to be taken
pub links_end : (ps : List Process) (links : List ℕ) (left : ℕ) → left ≡ length ps → AreLinks (λ n. n) links → AreLinks (code_by (drop left ps)) links
links_end ps links left e h =
    let none : drop left ps ≡ [] = ap (λ (k : ℕ). drop k ps) e ∙ drop-length ps in
    links_as (λ n. n) (code_by (drop left ps)) links (λ n. sym (ap (λ (qs : List Process). code_by qs n) none ∙ code_by-none n)) h

-- one process more
pub links_more : (ps : List Process) (links : List ℕ) (left m : ℕ) (x : Process) (o : Option (ℕ × ℕ)) → left ≡ suc m → slice_get ps m ≡ Some x → o ≡ join_of x → AreLinks (with_join o (code_by (drop left ps))) links → AreLinks (code_by (drop m ps)) links
links_more ps links left m x o e at is h =
    let here : drop m ps ≡ x ∷ drop left ps = drop-at ps m x at ∙ ap (λ (k : ℕ). x ∷ drop k ps) (sym e) in
    links_as (with_join o (code_by (drop left ps))) (code_by (drop m ps)) links
    (λ n. sym (ap (λ (qs : List Process). code_by qs n) here ∙ code_by-more x (drop left ps) n ∙ ap (λ (p : Option (ℕ × ℕ)). with_join p (code_by (drop left ps)) n) (sym is))) h

pub process_there : (ps : List Process) (m : ℕ) → m < length ps → (x : Process) × (slice_get ps m ≡ Some x)
process_there [] m h = absurd (omega arith)
process_there (x ∷ ps) zero h = (x, refl)
process_there (x ∷ ps) (suc m) h = process_there ps m (omega arith)
