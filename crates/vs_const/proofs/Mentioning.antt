-- The signals that an expression comes to, one after the other.
use Rattle.std.proofs.Common.{◌≡◌, ◌<◌, ◌≤◌, ◌+◌, ℕ, zero, suc, Bool, Option, Some, None, OnOk, List, [], ◌∷◌, ◌++◌, length, map, take, drop, get_or, slice_get, refl, sym, ap, ◌∙◌, subst, arith, append_assoc}
use Rattle.std.proofs.lemmas.List.{append-nil, map-append}
use Rattle.std.specs.Prelude.{Result, Ok, Err}
use Rattle.vs_four.specs.declared.Range.{Range}
use Rattle.vs_grammar.specs.Trees as tree
use Rattle.vs_ast.specs.declared.expressions.Expr.{Expr}
use Rattle.vs_ast.specs.Views.{expr, exprs}
use Rattle.vs_const.specs.declared.mentions.Mention.{Mention as MentionOf}
use Rattle.vs_const.specs.declared.names.Named.{Named}
use Rattle.vs_const.specs.declared.names.Named.TheVariants.{Signal as SignalNamed}
use Rattle.vs_const.specs.declared.names.Role.{Role}
use Rattle.vs_const.specs.declared.names.SignalShape.{SignalShape}
use Rattle.vs_const.specs.Meanings.{SignalMeaning, FunctionMeaning, Meaning, AValue, Undefined, ASignal, AMemory, AFunction, Incomplete, Another, Barred, Unknown, Find, IsShapeOf, IsShapeIn, Means}
use Rattle.vs_const.specs.Mentions.{Mention, Way, ByCall, named_way, named_mentions, called_mentions, mentions, all_mentions}
use Rattle.vs_const.proofs.Rows.{from_part, none_left}
use Rattle.vs_const.specs.MentionViews.{Kept, kept, kept_of, Told, told, told_of, all_told, all_told_of}

-- ---- one signal

kept_is : (s : SignalShape) (t : SignalMeaning) → IsShapeOf s t → kept s ≡ kept_of t
kept_is s t h = same _ _ _ _ _ _ _ _ _ _ _ _ _ _ _ _ h.number h.range h.signed h.role h.known h.net h.input (sym h.words)
  where
    same : (m n : ℕ) (a b : Option Range) (c d : Bool) (p q : Role) (e f g i j k : Bool) (u v : Option Range) → m ≡ n → a ≡ b → c ≡ d → p ≡ q → e ≡ f → g ≡ i → j ≡ k → u ≡ v
        → (let x : Kept = record { number = m; range = a; signed = c; role = p; known = e; net = g; input = j; words = u } in x) ≡ record { number = n; range = b; signed = d; role = q; known = f; net = i; input = k; words = v }
    same m n a b c d p q e f g i j k u v h0 h1 h2 h3 h4 h5 h6 h7 = cc

told_is : (s : SignalShape) (t : SignalMeaning) (w v : Way) → kept s ≡ kept_of t → w ≡ v → told (record { signal = s; way = w }) ≡ told_of (record { meaning = t; way = v })
told_is s t w v h e = ap (λ (k : Kept). let x : Told = record { signal = k; way = w } in x) h ∙ ap (λ (u : Way). let x : Told = record { signal = kept_of t; way = u } in x) e

-- of a look-up
named_kept : (s : SignalShape) (t : SignalMeaning) → Means (SignalNamed s) (ASignal t) → kept s ≡ kept_of t
named_kept s t h =
    let u = h.0 in
    kept_is s u (record { number = h.2; range = h.3; signed = h.4; role = h.5; known = h.6; words = h.7; net = h.8; input = h.9 }) ∙ ap kept_of (same u (sym h.1))
  where
    same : (u : SignalMeaning) → ASignal u ≡ ASignal t → u ≡ t
    same u e = cc

-- one more
pub pushed : (before after : List MentionOf) (m : MentionOf) (t : Mention) → after ≡ before ++ m ∷ [] → told m ≡ told_of t → all_told after ≡ all_told before ++ told_of t ∷ []
pushed before after m t h e = ap all_told h ∙ map-append told before (m ∷ []) ∙ ap (λ (x : Told). all_told before ++ x ∷ []) e

-- ---- two parts

pub both_told : (before middle after : List Told) (first second whole : List Mention) → middle ≡ before ++ all_told_of first → after ≡ middle ++ all_told_of second → first ++ second ≡ whole → after ≡ before ++ all_told_of whole
both_told before middle after first second whole h k e =
    k ∙ ap (λ (x : List Told). x ++ all_told_of second) h ∙ append_assoc before (all_told_of first) (all_told_of second)
    ∙ ap (λ (x : List Told). before ++ x) (sym (map-append told_of first second) ∙ ap all_told_of e)

-- if the second one is there
pub both_on_ok : {A E : Type 0} (r : Result A E) (before middle after : List Told) (first second : List Mention) → middle ≡ before ++ all_told_of first → OnOk r (after ≡ middle ++ all_told_of second) → OnOk r (after ≡ before ++ all_told_of (first ++ second))
both_on_ok (Ok v) before middle after first second h k = both_told before middle after first second (first ++ second) h k refl
both_on_ok (Err e) before middle after first second h k = tt

pub none_told : (before : List Told) → before ≡ before ++ all_told_of []
none_told before = sym (append-nil before)

-- ---- a name

pub named_told : (in_call : Bool) (named : Named) (s : SignalShape) (m : Meaning) (way : Way) (before after : List MentionOf) → named ≡ SignalNamed s → Means named m → way ≡ named_way in_call
    → after ≡ before ++ (record { signal = s; way = way } ∷ []) → all_told after ≡ all_told before ++ all_told_of (named_mentions in_call m)
named_told in_call named s m way before after e h w p = of m (subst (λ (n : Named). Means n m) e h)
  where
    of : (k : Meaning) → Means (SignalNamed s) k → all_told after ≡ all_told before ++ all_told_of (named_mentions in_call k)
    of (ASignal t) k = pushed before after (record { signal = s; way = way }) (record { meaning = t; way = named_way in_call }) p (told_is s t way (named_way in_call) (named_kept s t k) w)
    of (AValue v r turns) k = no k.1
      where
        no : {t : SignalMeaning} → AValue v r turns ≡ ASignal t → all_told after ≡ all_told before ++ []
        no e = cc
    of (Undefined r) k = no k.1
      where
        no : {t : SignalMeaning} → Undefined r ≡ ASignal t → all_told after ≡ all_told before ++ []
        no e = cc
    of (AMemory t) k = no k.1
      where
        no : {u : SignalMeaning} → AMemory t ≡ ASignal u → all_told after ≡ all_told before ++ []
        no e = cc
    of (AFunction f) k = no k.1
      where
        no : {t : SignalMeaning} → AFunction f ≡ ASignal t → all_told after ≡ all_told before ++ []
        no e = cc
    of Incomplete k = no k.1
      where
        no : {t : SignalMeaning} → Incomplete ≡ ASignal t → all_told after ≡ all_told before ++ []
        no e = cc
    of Another k = no k.1
      where
        no : {t : SignalMeaning} → Another ≡ ASignal t → all_told after ≡ all_told before ++ []
        no e = cc
    of (Barred rule) k = no k.1
      where
        no : {t : SignalMeaning} → Barred rule ≡ ASignal t → all_told after ≡ all_told before ++ []
        no e = cc
    of Unknown k = no k.1
      where
        no : {t : SignalMeaning} → Unknown ≡ ASignal t → all_told after ≡ all_told before ++ []
        no e = cc

-- ---- a call

-- those that the function reads, so far
abbrev pub told_calls : (n : ℕ) → Meaning → List Told
told_calls n m = take n (all_told_of (called_mentions m))

pub passed_told : (n : ℕ) (m : Meaning) (f : FunctionMeaning) (o : Option SignalShape) (s : SignalShape) (before after : List MentionOf) (start : List Told) → m ≡ AFunction f → IsShapeIn o (slice_get f.passed n) → o ≡ Some s
    → all_told before ≡ start ++ told_calls n m → after ≡ before ++ (record { signal = s; way = ByCall } ∷ []) → all_told after ≡ start ++ told_calls (n + 1) m
passed_told n m f o s before after start e shape is so p =
    let k = subst (λ (x : Option SignalShape). IsShapeIn x (slice_get f.passed n)) is shape in
    let t = k.0 in
    pushed before after (record { signal = s; way = ByCall }) (record { meaning = t; way = ByCall }) p (told_is s t ByCall ByCall (kept_is s t k.2) refl)
    ∙ ap (λ (x : List Told). x ++ told_of (record { meaning = t; way = ByCall }) ∷ []) so
    ∙ append_assoc start (told_calls n m) (told_of (record { meaning = t; way = ByCall }) ∷ [])
    ∙ ap (λ (x : List Told). start ++ x) (subst (λ (z : Meaning). told_calls n z ++ told_of (record { meaning = t; way = ByCall }) ∷ [] ≡ told_calls (n + 1) z) (sym e) (next_one f.passed n t k.1 ∙ ap (λ (i : ℕ). take i (all_told_of (called_mentions (AFunction f)))) (let i : suc n ≡ n + 1 = omega arith in i)))
  where
    next_one : (ss : List SignalMeaning) (i : ℕ) (t : SignalMeaning) → slice_get ss i ≡ Some t
        → take i (all_told_of (map (λ (x : SignalMeaning). let y : Mention = record { meaning = x; way = ByCall } in y) ss)) ++ told_of (record { meaning = t; way = ByCall }) ∷ [] ≡ take (suc i) (all_told_of (map (λ (x : SignalMeaning). let y : Mention = record { meaning = x; way = ByCall } in y) ss))
    next_one [] i t h = cc
    next_one (x ∷ ss) zero t h = ap (λ (y : SignalMeaning). told_of (record { meaning = y; way = ByCall }) ∷ []) (same h)
      where
        same : Some x ≡ Some t → t ≡ x
        same j = cc
    next_one (x ∷ ss) (suc i) t h = ap (λ (ys : List Told). told_of (record { meaning = x; way = ByCall }) ∷ ys) (next_one ss i t h)

pub one_passed : (n : ℕ) (m : Meaning) (o : Option SignalShape) (s : SignalShape) (before after : List MentionOf) (start : List Told) → n < length (called_mentions m) → ((f : FunctionMeaning) → m ≡ AFunction f → IsShapeIn o (slice_get f.passed n))
    → o ≡ Some s → all_told before ≡ start ++ told_calls n m → after ≡ before ++ (record { signal = s; way = ByCall } ∷ []) → all_told after ≡ start ++ told_calls (n + 1) m
one_passed n (AFunction f) o s before after start less shape is so p = passed_told n (AFunction f) f o s before after start refl (shape f refl) is so p
one_passed n (AValue v r turns) o s before after start less shape is so p = absurd (omega arith)
one_passed n (Undefined r) o s before after start less shape is so p = absurd (omega arith)
one_passed n (ASignal t) o s before after start less shape is so p = absurd (omega arith)
one_passed n (AMemory t) o s before after start less shape is so p = absurd (omega arith)
one_passed n Incomplete o s before after start less shape is so p = absurd (omega arith)
one_passed n Another o s before after start less shape is so p = absurd (omega arith)
one_passed n (Barred rule) o s before after start less shape is so p = absurd (omega arith)
one_passed n Unknown o s before after start less shape is so p = absurd (omega arith)

-- each is there
pub none_passed : (n : ℕ) (m : Meaning) (o : Option SignalShape) → n < length (called_mentions m) → ((f : FunctionMeaning) → m ≡ AFunction f → IsShapeIn o (slice_get f.passed n)) → o ≡ None → ⊥
none_passed n (AFunction f) o less shape is = no_none f.passed n less (subst (λ (x : Option SignalShape). IsShapeIn x (slice_get f.passed n)) is (shape f refl))
  where
    no_none : (ss : List SignalMeaning) (i : ℕ) → i < length (map (λ (x : SignalMeaning). let y : Mention = record { meaning = x; way = ByCall } in y) ss) → slice_get ss i ≡ None → ⊥
    no_none [] i h k = absurd (omega arith)
    no_none (s ∷ ss) zero h k = cc
    no_none (s ∷ ss) (suc i) h k = no_none ss i (omega arith) k
none_passed n (AValue v r turns) o less shape is = absurd (omega arith)
none_passed n (Undefined r) o less shape is = absurd (omega arith)
none_passed n (ASignal t) o less shape is = absurd (omega arith)
none_passed n (AMemory t) o less shape is = absurd (omega arith)
none_passed n Incomplete o less shape is = absurd (omega arith)
none_passed n Another o less shape is = absurd (omega arith)
none_passed n (Barred rule) o less shape is = absurd (omega arith)
none_passed n Unknown o less shape is = absurd (omega arith)

-- ---- several expressions, one after the other

pub next_told : (find : Find) (in_call : Bool) (es : List Expr) (i : ℕ) (e : Expr) (before after start : List Told) → i < length es → e ≡ get_or es i e → before ++ all_told_of (all_mentions (exprs (drop i es)) find in_call) ≡ start
    → after ≡ before ++ all_told_of (mentions (expr e) find in_call) → after ++ all_told_of (all_mentions (exprs (drop (suc i) es)) find in_call) ≡ start
next_told find in_call es i e before after start less is so p =
    ap (λ (x : List Told). x ++ all_told_of rest) p
    ∙ append_assoc before (all_told_of one) (all_told_of rest)
    ∙ ap (λ (x : List Told). before ++ x) (sym (map-append told_of one rest))
    ∙ sym (ap (λ (x : tree.Exprs). before ++ all_told_of (all_mentions x find in_call)) (from_part es i e less is))
    ∙ so
  where
    one : List Mention
    one = mentions (expr e) find in_call

    rest : List Mention
    rest = all_mentions (exprs (drop (suc i) es)) find in_call

pub last_told : (find : Find) (in_call : Bool) (es : List Expr) (i : ℕ) (before start : List Told) → length es ≤ i → before ++ all_told_of (all_mentions (exprs (drop i es)) find in_call) ≡ start → before ≡ start
last_told find in_call es i before start all so = sym (append-nil before) ∙ sym (ap (λ (x : List Expr). before ++ all_told_of (all_mentions (exprs x) find in_call)) (none_left es i all)) ∙ so
