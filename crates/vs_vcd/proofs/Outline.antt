-- The scopes and variables of a design, by their links.
use Rattle.std.proofs.Common.{◌≡◌, ℕ, zero, suc, ◌+◌, ◌-◌, ◌<◌, ◌≤◌, true, false, List, [], ◌∷◌, ◌++◌, length, get_or, drop, refl, sym, ap, ◌∙◌, subst, append_assoc, append-nil, arith}
use Rattle.std.specs.Prelude.{not, filter, slice_get, Option, None, Some, nat_lt, ◌==◌}
use Rattle.std.proofs.Math.Seq.{drop-length}
use Rattle.std.proofs.lemmas.Bool.{ltb-true, lt-ltb, eq-eqb, ne_eqb}
use Rattle.std.proofs.lemmas.Option.{slice_get_within}
use Rattle.vs_design.specs.Expressions.{Signal}
use Rattle.vs_design.specs.Designs.{Scope, Design}
use Rattle.vs_design.specs.Footprints.{is_memory}
use Rattle.vs_vcd.specs.declared.declarations.Step.{Step}
use Rattle.vs_vcd.specs.declared.declarations.Step.TheVariants.{Scopes, Close}
use Rattle.vs_vcd.specs.Groups.{is_in, first_in, AreLinkedFrom}
use Rattle.vs_vcd.specs.Scopes.{variable_line, variables, scope_line, upscope_line, stands_in, scopes_in, shown_signals}
use Rattle.vs_vcd.specs.Steps.{scope_key, scope_keys, signal_key, signal_keys, scopes_from, step_text, steps_text, link_steps, IsStep, AreSteps}
use Rattle.vs_vcd.proofs.Grouping.{by_bool, drop-at, at_number, numbers_left, first_in-found, first_in-text, first_in-skip, key_of_group, IsLink}

-- ---- keys

-- one more key
pub scope_keys-more : (scopes : List Scope) (n m : ℕ) (s : Scope) → m ≡ suc n → slice_get scopes n ≡ Some s → scope_keys n (drop n scopes) ≡ scope_key n s.parent ∷ scope_keys m (drop m scopes)
unfolding scope_keys
scope_keys-more scopes n m s e h = ap (scope_keys n) (drop-at scopes n s h) ∙ ap (λ (k : ℕ). scope_key n s.parent ∷ scope_keys k (drop k scopes)) (sym e)

pub scope_keys-end : (scopes : List Scope) (n : ℕ) → n ≡ length scopes → scope_keys n (drop n scopes) ≡ []
unfolding scope_keys
scope_keys-end scopes n e = ap (scope_keys n) (ap (λ (k : ℕ). drop k scopes) e ∙ drop-length scopes)

pub signal_keys-more : (signals : List Signal) (n m : ℕ) (s : Signal) → m ≡ suc n → slice_get signals n ≡ Some s → signal_keys (drop n signals) ≡ signal_key s ∷ signal_keys (drop m signals)
unfolding signal_keys
signal_keys-more signals n m s e h = ap signal_keys (drop-at signals n s h) ∙ ap (λ (k : ℕ). signal_key s ∷ signal_keys (drop k signals)) (sym e)

pub signal_keys-end : (signals : List Signal) (n : ℕ) → n ≡ length signals → signal_keys (drop n signals) ≡ []
unfolding signal_keys
signal_keys-end signals n e = ap signal_keys (ap (λ (k : ℕ). drop k signals) e ∙ drop-length signals)

pub length-scope_keys : (n : ℕ) (scopes : List Scope) → length (scope_keys n scopes) ≡ length scopes
unfolding scope_keys
length-scope_keys n [] = refl
length-scope_keys n (s ∷ ss) = ap suc (length-scope_keys (suc n) ss)

pub length-signal_keys : (signals : List Signal) → length (signal_keys signals) ≡ length signals
unfolding signal_keys
length-signal_keys [] = refl
length-signal_keys (s ∷ ss) = ap suc (length-signal_keys ss)

-- what was listed and what is left are all; nothing is left
pub all_listed : (keys rest all : List (Option ℕ)) → keys ++ rest ≡ all → rest ≡ [] → keys ≡ all
all_listed keys rest all e none = sym (append-nil keys) ∙ ap (λ (r : List (Option ℕ)). keys ++ r) (sym none) ∙ e

pub listed_more : (keys more rest after all : List (Option ℕ)) (key : Option ℕ) → keys ++ rest ≡ all → rest ≡ key ∷ after → more ≡ keys ++ key ∷ [] → more ++ after ≡ all
listed_more keys more rest after all key e r m = ap (λ (ks : List (Option ℕ)). ks ++ after) m ∙ append_assoc keys (key ∷ []) after ∙ ap (λ (ks : List (Option ℕ)). keys ++ ks) (sym r) ∙ e

-- ---- variables

-- those of these signals that have lines
abbrev pub shown : List Signal → List Signal
shown signals = filter (λ s. not (is_memory s)) signals

-- a key is that of a signal
pub key-signal : (signals : List Signal) (n : ℕ) (key : Option ℕ) → slice_get (signal_keys signals) n ≡ Some key → (s : Signal) × (slice_get signals n ≡ Some s) × (key ≡ signal_key s)
unfolding signal_keys
key-signal [] n key e = cc
key-signal (s ∷ signals) zero key e = let same : key ≡ signal_key s = cc in (s, refl, same)
key-signal (s ∷ signals) (suc n) key e = key-signal signals n key e

-- a signal in a group is no memory, and is in that of its scope
pub record IsShownIn (s : Signal) (g : ℕ) : Type 0 where
  pub shown : is_memory s ≡ false
  pub scope : s.scope ≡ g

shown_in : (s : Signal) (g : ℕ) → signal_key s ≡ Some g → IsShownIn s g
shown_in s g e =
    by_bool (IsShownIn s g) (is_memory s)
    (λ p. let none : signal_key s ≡ None = rw (p, signal_key) refl in let clash : None ≡ Some g = sym none ∙ e in cc)
    (λ p. let some : signal_key s ≡ Some s.scope = rw (p, signal_key) refl in let same : Some s.scope ≡ Some g = sym some ∙ e in record { shown = p; scope = cc })

pub found_shown : (signals : List Signal) (n g : ℕ) (s : Signal) → slice_get (signal_keys signals) n ≡ Some (Some g) → slice_get signals n ≡ Some s → IsShownIn s g
found_shown signals n g s e h =
    let found = key-signal signals n (Some g) e in
    let same : found.0 ≡ s = cc in
    shown_in s g (ap signal_key (sym same) ∙ sym found.2)

variables-out : (s : Signal) (rest : List Signal) (g : ℕ) → is_in g (signal_key s) ≡ false → variables (shown (s ∷ rest)) g ≡ variables (shown rest) g
unfolding variables
variables-out s rest g out =
    by_bool (variables (shown (s ∷ rest)) g ≡ variables (shown rest) g) (is_memory s)
    (λ p. rw p refl)
    (λ p. let key : signal_key s ≡ Some s.scope = rw (p, signal_key) refl in
    let other : (s.scope == g) ≡ false = ap (is_in g) (sym key) ∙ out in
    rw (p, other) refl)

variables-step : (signals : List Signal) (g n : ℕ) (key : Option ℕ) → slice_get (signal_keys signals) n ≡ Some key → is_in g key ≡ false → variables (shown (drop n signals)) g ≡ variables (shown (drop (suc n) signals)) g
variables-step signals g n key e out =
    let found = key-signal signals n key e in
    ap (λ ss. variables (shown ss) g) (drop-at signals n found.0 found.1) ∙ variables-out found.0 (drop (suc n) signals) g (ap (is_in g) (sym found.2) ∙ out)

-- the variable that is found is the next one
pub variables-first : (signals : List Signal) (g n : ℕ) (s : Signal) → slice_get (signal_keys signals) n ≡ Some (Some g) → slice_get signals n ≡ Some s → variables (shown (drop n signals)) g ≡ variable_line s ++ variables (shown (drop (suc n) signals)) g
unfolding variables
variables-first signals g n s e h =
    let is = found_shown signals n g s e h in
    let plain : is_memory s ≡ false = is.shown in
    let here : (s.scope == g) ≡ true = eq-eqb s.scope g is.scope in
    ap (λ ss. variables (shown ss) g) (drop-at signals n s h) ∙ rw (plain, here) refl

variables-end : (signals : List Signal) (g : ℕ) → variables (shown (drop (length (signal_keys signals)) signals)) g ≡ []
unfolding variables
variables-end signals g = ap (λ (n : ℕ). variables (shown (drop n signals)) g) (length-signal_keys signals) ∙ ap (λ ss. variables (shown ss) g) (drop-length signals)

pub variables-linked : (signals : List Signal) (g n : ℕ) → n ≤ length signals → variables (shown (drop n signals)) g ≡ at_number (λ (m : ℕ). variables (shown (drop m signals)) g) (first_in g n (drop n (signal_keys signals)))
variables-linked signals g n h =
    let all : n + (length (signal_keys signals) - n) ≡ length (signal_keys signals) = omega (arith, length-signal_keys signals) in
    first_in-text (λ (m : ℕ). variables (shown (drop m signals)) g) g 0 (signal_keys signals) (variables-end signals g) (λ m key low e out. variables-step signals g m key e out) (length (signal_keys signals) - n) n all (omega arith)

-- the variables of a scope from this one on
unfoldable pub variables_at : List Signal → ℕ → Option ℕ → List ℕ
variables_at signals g link = at_number (λ (m : ℕ). variables (shown (drop m signals)) g) link

pub variables_at-none : (signals : List Signal) (g : ℕ) (link : Option ℕ) → link ≡ None → variables_at signals g link ≡ []
unfolding variables_at at_number
variables_at-none signals g link e = ap (variables_at signals g) e

-- the first variable of a scope
pub record IsFirst (signals : List Signal) (g : ℕ) (link : Option ℕ) : Type 0 where
  pub text : variables_at signals g link ≡ variables (shown signals) g
  pub linked : IsLink (signal_keys signals) g link

pub first_variable : (signals : List Signal) (g groups : ℕ) (first next : List (Option ℕ)) (link : Option ℕ) → AreLinkedFrom 0 groups (signal_keys signals) first next → g < groups → link ≡ get_or first g None → IsFirst signals g link
unfolding variables_at
first_variable signals g groups first next link linked h e =
    let is : link ≡ first_in g 0 (drop 0 (signal_keys signals)) = e ∙ linked.first_is g h in
    record {
      text = ap (variables_at signals g) is ∙ sym (variables-linked signals g 0 (omega arith));
      linked = record { found = λ n q. (first_in-found g 0 n (signal_keys signals) (sym is ∙ q)).key };
    }

-- the next variable of a scope
pub record IsNext (signals : List Signal) (g n : ℕ) (s : Signal) (link : Option ℕ) : Type 0 where
  pub text : variables_at signals g (Some n) ≡ variable_line s ++ variables_at signals g link
  pub linked : IsLink (signal_keys signals) g link
  pub smaller : numbers_left (length signals) link < numbers_left (length signals) (Some n)

pub next_variable : (signals : List Signal) (g groups n : ℕ) (s : Signal) (first next : List (Option ℕ)) (link : Option ℕ) → AreLinkedFrom 0 groups (signal_keys signals) first next → g < groups → slice_get (signal_keys signals) n ≡ Some (Some g) → slice_get signals n ≡ Some s → link ≡ get_or next n None → IsNext signals g n s link
unfolding variables_at at_number
next_variable signals g groups n s first next link linked h key here e =
    let keys = signal_keys signals in
    let is : link ≡ first_in g (suc n) (drop (suc n) keys) = e ∙ linked.next_is n g (omega arith) h key in
    let within : n < length signals = slice_get_within signals n s here in
    record {
      text = variables-first signals g n s key here ∙ ap (λ (t : List ℕ). variable_line s ++ t) (variables-linked signals g (suc n) (omega arith) ∙ ap (variables_at signals g) (sym is));
      linked = record { found = λ m q. (first_in-found g (suc n) m keys (sym is ∙ q)).key };
      smaller = left link (λ m q. let found = first_in-found g (suc n) m keys (sym is ∙ q) in (found.later, subst (λ (k : ℕ). m < k) (length-signal_keys signals) found.within)) within;
    }
  where
    left : (o : Option ℕ) → ((m : ℕ) → o ≡ Some m → (suc n ≤ m) × (m < length signals)) → n < length signals → numbers_left (length signals) o < numbers_left (length signals) (Some n)
    left None f w = omega arith
    left (Some m) f w = let p = f m refl in omega (arith, p.0, p.1)

-- ---- scopes

abbrev group_key : Option ℕ → ℕ
group_key None = 0
group_key (Some n) = suc n

-- a key is that of a scope
key-scope : (k : ℕ) (scopes : List Scope) (n : ℕ) (key : Option ℕ) → slice_get (scope_keys k scopes) n ≡ Some key → (s : Scope) × (slice_get scopes n ≡ Some s) × (key ≡ scope_key (k + n) s.parent)
unfolding scope_keys
key-scope k [] n key e = cc
key-scope k (s ∷ scopes) zero key e =
    let same : key ≡ scope_key k s.parent = cc in
    let at : k ≡ k + 0 = omega arith in
    (s, refl, same ∙ ap (λ (m : ℕ). scope_key m s.parent) at)
key-scope k (s ∷ scopes) (suc n) key e =
    let rest = key-scope (suc k) scopes n key e in
    let at : suc k + n ≡ k + suc n = omega arith in
    (rest.0, rest.1, rest.2 ∙ ap (λ (m : ℕ). scope_key m rest.0.parent) at)

key-earlier : (n p : ℕ) → nat_lt p n ≡ true → scope_key n (Some p) ≡ Some (suc p)
key-earlier n p low = rw (low, scope_key) refl

key-later : (n p : ℕ) → nat_lt p n ≡ false → scope_key n (Some p) ≡ None
key-later n p high = rw (high, scope_key) refl

-- a scope in a group stands in the scope of the group, which is an earlier one
parent-of_key : (n : ℕ) (parent : Option ℕ) (g : ℕ) → scope_key n parent ≡ Some g → (group_key parent ≡ g) × (g ≤ n)
parent-of_key n None g e = let zero_is : 0 ≡ g = cc in (zero_is, omega arith)
parent-of_key n (Some p) g e =
    by_bool ((suc p ≡ g) × (g ≤ n)) (nat_lt p n)
    (λ low. let same : Some (suc p) ≡ Some g = sym (key-earlier n p low) ∙ e in let is : suc p ≡ g = cc in let below : p < n = ltb-true p n low in (is, omega arith))
    (λ high. let none : None ≡ Some g = sym (key-later n p high) ∙ e in cc)

same_parent : (a b : Option ℕ) → group_key a ≡ group_key b → a ≡ b
same_parent None None e = refl
same_parent None (Some n) e = absurd (omega arith)
same_parent (Some n) None e = absurd (omega arith)
same_parent (Some n) (Some m) e = let same : n ≡ m = omega arith in ap Some same

stands_in-self : (parent : Option ℕ) → stands_in parent parent ≡ true
stands_in-self None = refl
stands_in-self (Some n) = eq-eqb n n refl

not_standing : (outer parent : Option ℕ) (n : ℕ) → group_key outer ≤ n → is_in (group_key outer) (scope_key n parent) ≡ false → stands_in outer parent ≡ false
not_standing None None n h e = cc
not_standing None (Some p) n h e = refl
not_standing (Some o) None n h e = refl
not_standing (Some o) (Some p) n h e = ne_eqb p o (λ same.
    let low : nat_lt p n ≡ true = lt-ltb p n (omega arith) in
    let key : scope_key n (Some p) ≡ Some (suc p) = key-earlier n p low in
    let inside : is_in (suc o) (scope_key n (Some p)) ≡ true = ap (is_in (suc o)) key ∙ eq-eqb (suc p) (suc o) (ap suc same) in
    let clash : true ≡ false = sym inside ∙ e in cc)

scopes_in-other : (signals : List Signal) (outer : Option ℕ) (n : ℕ) (s : Scope) (ss : List Scope) → stands_in outer s.parent ≡ false → scopes_in signals outer n (s ∷ ss) ≡ scopes_in signals outer (suc n) ss
scopes_in-other signals outer n s ss h = rw (h, scopes_in) refl

scopes_in-here : (signals : List Signal) (outer : Option ℕ) (n : ℕ) (s : Scope) (ss : List Scope) → stands_in outer s.parent ≡ true
    → scopes_in signals outer n (s ∷ ss) ≡ scope_line s ++ variables signals n ++ scopes_in signals (Some n) (suc n) ss ++ upscope_line ++ scopes_in signals outer (suc n) ss
scopes_in-here signals outer n s ss h = rw (h, scopes_in) refl

scopes-step : (signals : List Signal) (scopes : List Scope) (outer : Option ℕ) (n : ℕ) (key : Option ℕ) → group_key outer ≤ n → slice_get (scope_keys 0 scopes) n ≡ Some key → is_in (group_key outer) key ≡ false
    → scopes_in signals outer n (drop n scopes) ≡ scopes_in signals outer (suc n) (drop (suc n) scopes)
scopes-step signals scopes outer n key low e out =
    let found = key-scope 0 scopes n key e in
    let at : 0 + n ≡ n = omega arith in
    let other : stands_in outer found.0.parent ≡ false = not_standing outer found.0.parent n low (ap (is_in (group_key outer)) (sym (found.2 ∙ ap (λ (m : ℕ). scope_key m found.0.parent) at)) ∙ out) in
    ap (scopes_in signals outer n) (drop-at scopes n found.0 found.1) ∙ scopes_in-other signals outer n found.0 (drop (suc n) scopes) other

scopes-end : (signals : List Signal) (scopes : List Scope) (outer : Option ℕ) → scopes_in signals outer (length (scope_keys 0 scopes)) (drop (length (scope_keys 0 scopes)) scopes) ≡ []
scopes-end signals scopes outer = ap (λ (n : ℕ). scopes_in signals outer n (drop n scopes)) (length-scope_keys 0 scopes) ∙ ap (scopes_in signals outer (length scopes)) (drop-length scopes)

scopes-linked : (signals : List Signal) (scopes : List Scope) (outer : Option ℕ) (n : ℕ) → group_key outer ≤ n → n ≤ length scopes
    → scopes_in signals outer n (drop n scopes) ≡ at_number (λ (m : ℕ). scopes_in signals outer m (drop m scopes)) (first_in (group_key outer) n (drop n (scope_keys 0 scopes)))
scopes-linked signals scopes outer n low h =
    let keys = scope_keys 0 scopes in
    let all : n + (length keys - n) ≡ length keys = omega (arith, length-scope_keys 0 scopes) in
    first_in-text (λ (m : ℕ). scopes_in signals outer m (drop m scopes)) (group_key outer) (group_key outer) keys (scopes-end signals scopes outer) (λ m key above e out. scopes-step signals scopes outer m key above e out) (length keys - n) n all low

-- steps for the scopes in one from a number on
pub record AreIn (d : Design) (outer : Option ℕ) (n : ℕ) (link : Option ℕ) : Type 0 where
  pub text : steps_text d (link_steps link) ≡ scopes_in (shown_signals d) outer n (drop n d.scopes)
  pub steps : AreSteps d (link_steps link)

-- the step of a scope that is found
step-found : (d : Design) (outer : Option ℕ) (n : ℕ) → slice_get (scope_keys 0 d.scopes) n ≡ Some (Some (group_key outer)) → step_text d (Scopes n) ≡ scopes_in (shown_signals d) outer n (drop n d.scopes)
unfolding step_text scopes_from
step-found d outer n e =
    let found = key-scope 0 d.scopes n (Some (group_key outer)) e in
    let key = parent-of_key (0 + n) found.0.parent (group_key outer) (sym found.2) in
    ap (scopes_from d n) found.1 ∙ ap (λ (o : Option ℕ). scopes_in (shown_signals d) o n (drop n d.scopes)) (same_parent found.0.parent outer key.0)

link-in : (d : Design) (outer : Option ℕ) (n : ℕ) (link : Option ℕ) → group_key outer ≤ n → n ≤ length d.scopes → link ≡ first_in (group_key outer) n (drop n (scope_keys 0 d.scopes)) → AreIn d outer n link
unfolding steps_text AreSteps IsStep at_number
link-in d outer n link low h e = of link (λ m q. (first_in-found (group_key outer) n m keys (sym e ∙ q)).key) (ap (at_number text) e ∙ sym (scopes-linked (shown_signals d) d.scopes outer n low h)) where
  keys : List (Option ℕ)
  keys = scope_keys 0 d.scopes

  text : ℕ → List ℕ
  text m = scopes_in (shown_signals d) outer m (drop m d.scopes)

  of : (o : Option ℕ) → ((m : ℕ) → o ≡ Some m → slice_get keys m ≡ Some (Some (group_key outer))) → at_number text o ≡ text n → AreIn d outer n o
  of None f q = record { text = q; steps = tt }
  of (Some m) f q = record { text = step-found d outer m (f m refl) ∙ q; steps = ((group_key outer, f m refl), tt) }

-- the scopes in no scope
pub top_scopes : (d : Design) (groups : ℕ) (first next : List (Option ℕ)) (link : Option ℕ) → AreLinkedFrom 0 groups (scope_keys 0 d.scopes) first next → 0 < groups → link ≡ get_or first 0 None → AreIn d None 0 link
top_scopes d groups first next link linked h e = link-in d None 0 link (omega arith) (omega arith) (e ∙ linked.first_is 0 h)

-- the scopes in scope n
pub inner_scopes : (d : Design) (groups n : ℕ) (first next : List (Option ℕ)) (link : Option ℕ) → AreLinkedFrom 0 groups (scope_keys 0 d.scopes) first next → suc n < groups → n < length d.scopes → link ≡ get_or first (suc n) None → AreIn d (Some n) (suc n) link
inner_scopes d groups n first next link linked h within e =
    link-in d (Some n) (suc n) link (omega arith) within (e ∙ linked.first_is (suc n) h ∙ first_in-skip (suc n) (suc n) (scope_keys 0 d.scopes) (omega (arith, length-scope_keys 0 d.scopes)) earlier)
  where
    earlier : (m : ℕ) (key : Option ℕ) → m < suc n → slice_get (scope_keys 0 d.scopes) m ≡ Some key → is_in (suc n) key ≡ false
    earlier m key below q = by_bool (is_in (suc n) key ≡ false) (is_in (suc n) key)
        (λ inside. let found = key-scope 0 d.scopes m key q in
        let parent = parent-of_key (0 + m) found.0.parent (suc n) (sym found.2 ∙ key_of_group (suc n) key inside) in
        absurd (omega (arith, parent.1)))
        (λ outside. outside)

-- the scopes after scope n in the same one
pub later_scopes : (d : Design) (groups n : ℕ) (s : Scope) (first next : List (Option ℕ)) (link : Option ℕ) → AreLinkedFrom 0 groups (scope_keys 0 d.scopes) first next → length d.scopes < groups → IsStep d (Scopes n) → slice_get d.scopes n ≡ Some s → link ≡ get_or next n None → AreIn d s.parent (suc n) link
unfolding IsStep
later_scopes d groups n s first next link linked h step here e =
    let keys = scope_keys 0 d.scopes in
    let found = key-scope 0 d.scopes n (Some step.0) step.1 in
    let same : found.0 ≡ s = cc in
    let key = parent-of_key (0 + n) found.0.parent step.0 (sym found.2) in
    let group : group_key s.parent ≡ step.0 = ap (λ (x : Scope). group_key x.parent) (sym same) ∙ key.0 in
    let within : n < length d.scopes = slice_get_within d.scopes n s here in
    let below : step.0 ≤ n = omega (arith, key.1) in
    let is : link ≡ first_in (group_key s.parent) (suc n) (drop (suc n) keys) = e ∙ linked.next_is n step.0 (omega arith) (omega arith) step.1 ∙ ap (λ (g : ℕ). first_in g (suc n) (drop (suc n) keys)) (sym group) in
    link-in d s.parent (suc n) link (subst (λ (g : ℕ). g ≤ suc n) (sym group) (omega arith)) within is

-- ---- steps

pub steps_text-append : (d : Design) (xs ys : List Step) → steps_text d (xs ++ ys) ≡ steps_text d ys ++ steps_text d xs
unfolding steps_text
steps_text-append d [] ys = sym (append-nil (steps_text d ys))
steps_text-append d (x ∷ xs) ys = ap (λ (t : List ℕ). t ++ step_text d x) (steps_text-append d xs ys) ∙ append_assoc (steps_text d ys) (steps_text d xs) (step_text d x)

pub steps_text-more : (d : Design) (xs : List Step) (x : Step) → steps_text d (xs ++ x ∷ []) ≡ step_text d x ++ steps_text d xs
unfolding steps_text
steps_text-more d xs x = steps_text-append d xs (x ∷ [])

pub AreSteps-append : (d : Design) (xs ys : List Step) → AreSteps d xs → AreSteps d ys → AreSteps d (xs ++ ys)
unfolding AreSteps
AreSteps-append d [] ys p q = q
AreSteps-append d (x ∷ xs) ys p q = (p.0, AreSteps-append d xs ys p.1 q)

pub AreSteps-front : (d : Design) (xs ys : List Step) → AreSteps d (xs ++ ys) → AreSteps d xs
unfolding AreSteps
AreSteps-front d [] ys p = tt
AreSteps-front d (x ∷ xs) ys p = (p.0, AreSteps-front d xs ys p.1)

pub AreSteps-last : (d : Design) (xs : List Step) (x : Step) → AreSteps d (xs ++ x ∷ []) → IsStep d x
unfolding AreSteps
AreSteps-last d [] x p = p.0
AreSteps-last d (y ∷ xs) x p = AreSteps-last d xs x p.1

pub no_steps : (d : Design) → (steps_text d [] ≡ []) × AreSteps d []
unfolding steps_text AreSteps
no_steps d = (refl, tt)

pub close_text : (d : Design) → step_text d Close ≡ upscope_line
unfolding step_text
close_text d = refl

close_is : (d : Design) → AreSteps d (Close ∷ [])
unfolding AreSteps IsStep
close_is d = (tt, tt)

-- a scope's number is that of a scope
pub step-within : (d : Design) (n : ℕ) → IsStep d (Scopes n) → n < length d.scopes
unfolding IsStep
step-within d n step = subst (λ (k : ℕ). n < k) (length-scope_keys 0 d.scopes) (slice_get_within (scope_keys 0 d.scopes) n (Some step.0) step.1)

-- a scope is its beginning, its variables, the scopes in it and its end, and then come those after it
opened : (d : Design) (n : ℕ) (s : Scope) → slice_get d.scopes n ≡ Some s
    → step_text d (Scopes n) ≡ scope_line s ++ variables (shown_signals d) n ++ scopes_in (shown_signals d) (Some n) (suc n) (drop (suc n) d.scopes) ++ upscope_line ++ scopes_in (shown_signals d) s.parent (suc n) (drop (suc n) d.scopes)
unfolding step_text scopes_from
opened d n s e =
    ap (scopes_from d n) e ∙ ap (scopes_in (shown_signals d) s.parent n) (drop-at d.scopes n s e) ∙ scopes_in-here (shown_signals d) s.parent n s (drop (suc n) d.scopes) (stands_in-self s.parent)

regroup : (t a v i u r z : List ℕ) → ((t ++ a) ++ v) ++ (i ++ (u ++ (r ++ z))) ≡ t ++ ((a ++ v ++ i ++ u ++ r) ++ z)
regroup t a v i u r z = simp append_assoc

pub opened_step : (d : Design) (n : ℕ) (s : Scope) (inner later : Option ℕ) (t u v : List ℕ) (before with_later with_close after : List Step) → slice_get d.scopes n ≡ Some s → AreIn d (Some n) (suc n) inner → AreIn d s.parent (suc n) later
    → u ≡ t ++ scope_line s → v ≡ u ++ variables (shown_signals d) n → with_later ≡ before ++ link_steps later → with_close ≡ with_later ++ Close ∷ [] → after ≡ with_close ++ link_steps inner
    → v ++ steps_text d after ≡ t ++ (step_text d (Scopes n) ++ steps_text d before)
opened_step d n s inner later t u v before with_later with_close after here in_it behind p q x y z =
    let inside = scopes_in (shown_signals d) (Some n) (suc n) (drop (suc n) d.scopes) in
    let rest = scopes_in (shown_signals d) s.parent (suc n) (drop (suc n) d.scopes) in
    let text : v ≡ (t ++ scope_line s) ++ variables (shown_signals d) n = q ∙ ap (λ (w : List ℕ). w ++ variables (shown_signals d) n) p in
    let first : steps_text d with_later ≡ rest ++ steps_text d before = ap (steps_text d) x ∙ steps_text-append d before (link_steps later) ∙ ap (λ (w : List ℕ). w ++ steps_text d before) behind.text in
    let second : steps_text d with_close ≡ upscope_line ++ (rest ++ steps_text d before) = ap (steps_text d) y ∙ steps_text-more d with_later Close ∙ ap (λ (w : List ℕ). w ++ steps_text d with_later) (close_text d) ∙ ap (λ (w : List ℕ). upscope_line ++ w) first in
    let third : steps_text d after ≡ inside ++ (upscope_line ++ (rest ++ steps_text d before)) = ap (steps_text d) z ∙ steps_text-append d with_close (link_steps inner) ∙ ap (λ (w : List ℕ). w ++ steps_text d with_close) in_it.text ∙ ap (λ (w : List ℕ). inside ++ w) second in
    ap (λ (w : List ℕ). w ++ steps_text d after) text ∙ ap (λ (w : List ℕ). ((t ++ scope_line s) ++ variables (shown_signals d) n) ++ w) third
    ∙ regroup t (scope_line s) (variables (shown_signals d) n) inside upscope_line rest (steps_text d before)
    ∙ ap (λ (w : List ℕ). t ++ (w ++ steps_text d before)) (sym (opened d n s here))

pub opened_steps : (d : Design) (inner later : Option ℕ) (outer : Option ℕ) (n m : ℕ) (other : Option ℕ) (before with_later with_close after : List Step) → AreIn d outer n inner → AreIn d other m later → AreSteps d before
    → with_later ≡ before ++ link_steps later → with_close ≡ with_later ++ Close ∷ [] → after ≡ with_close ++ link_steps inner → AreSteps d after
opened_steps d inner later outer n m other before with_later with_close after in_it behind steps x y z =
    let first = subst (AreSteps d) (sym x) (AreSteps-append d before (link_steps later) steps behind.steps) in
    let second = subst (AreSteps d) (sym y) (AreSteps-append d with_later (Close ∷ []) first (close_is d)) in
    subst (AreSteps d) (sym z) (AreSteps-append d with_close (link_steps inner) second in_it.steps)
