-- The first column that isn't met.
use Rattle.std.proofs.Common.{◌≡◌, ℕ, zero, suc, ◌+◌, Bool, true, false, List, [], ◌∷◌, slice_get, Some, None, Option, refl, sym, ap, ◌∙◌, subst, arith}
use Rattle.std.proofs.lemmas.Bool.{false≢true}
use Rattle.std.proofs.lemmas.Option.{same_Some, none-some}
use Rattle.vs_net.specs.Network.{State}
use Rattle.vs_program.specs.declared.compiled.Span.{Span}
use Rattle.vs_stim.specs.declared.input.Expected.{Expected}
use Rattle.vs_stim.specs.declared.wanted.Digit.{Digit}
use Rattle.vs_misses.specs.Missed.{are_met, value_of, Miss, first_miss}
use Rattle.vs_misses.specs.Laws.{MeetsAll, ColumnsMet, AllMet, NoneIsMissed, FirstIsMissed}
use Rattle.vs_misses.proofs.Meets.{meets_from, met_from}

-- the first column, and those behind it
met_more : (outputs : List Span) (s : State) (e : Expected) (es : List Expected) (w : List Digit) (ws : List (List Digit))
    → MeetsAll w (value_of outputs s e) → AllMet outputs s es ws → AllMet outputs s (e ∷ es) (w ∷ ws)
met_more outputs s e es w ws first rest zero f v at wants =
    let p : e ≡ f = same_Some e f at in
    let q : w ≡ v = same_Some w v wants in
    subst (λ (x : List Digit). MeetsAll x (value_of outputs s f)) q (subst (λ (x : Expected). MeetsAll w (value_of outputs s x)) p first)
met_more outputs s e es w ws first rest (suc c) f v at wants = rest c f v at wants

all_from_none : (outputs : List Span) (s : State) (n : ℕ) (es : List Expected) (ws : List (List Digit)) → first_miss outputs s n es ws ≡ None → AllMet outputs s es ws
all_from_none outputs s n [] ws h = λ c e w at wants. absurd (none-some e at)
all_from_none outputs s n (e ∷ es) [] h = λ c f w at wants. absurd (none-some w wants)
all_from_none outputs s n (e ∷ es) (w ∷ ws) h = go (are_met w (value_of outputs s e)) refl (λ none. all_from_none outputs s (n + 1) es ws none) h
  where
    go : (t : Bool) → are_met w (value_of outputs s e) ≡ t → (first_miss outputs s (n + 1) es ws ≡ None → AllMet outputs s es ws)
        → (elim t as (λ _. Option Miss) [ true ↦ first_miss outputs s (n + 1) es ws | false ↦ Some (record { output = n; wanted = w; got = value_of outputs s e }) ]) ≡ None
        → AllMet outputs s (e ∷ es) (w ∷ ws)
    go false met rest none = absurd (none-some (record { output = n; wanted = w; got = value_of outputs s e }) (sym none))
    go true met rest none = met_more outputs s e es w ws (meets_from w (value_of outputs s e) met) (rest none)

none_from_all : (outputs : List Span) (s : State) (n : ℕ) (es : List Expected) (ws : List (List Digit)) → AllMet outputs s es ws → first_miss outputs s n es ws ≡ None
none_from_all outputs s n [] ws h = refl
none_from_all outputs s n (e ∷ es) [] h = refl
none_from_all outputs s n (e ∷ es) (w ∷ ws) h =
    ap (λ t. elim t as (λ _. Option Miss) [ true ↦ first_miss outputs s (n + 1) es ws | false ↦ Some (record { output = n; wanted = w; got = value_of outputs s e }) ])
    (met_from w (value_of outputs s e) (h 0 e w refl refl))
    ∙ none_from_all outputs s (n + 1) es ws (λ c f v at wants. h (suc c) f v at wants)

pub none_is_missed : NoneIsMissed
none_is_missed outputs s n es ws = (all_from_none outputs s n es ws, none_from_all outputs s n es ws)

-- ---- a miss

-- the column of a miss, where the columns are numbered from n
record IsMissFrom (outputs : List Span) (s : State) (n : ℕ) (es : List Expected) (ws : List (List Digit)) (m : Miss) : Type 0 where
  place : ℕ
  place_is : m.output ≡ n + place
  column : Expected
  column_is : slice_get es place ≡ Some column
  wanted_is : slice_get ws place ≡ Some m.wanted
  got_is : m.got ≡ value_of outputs s column
  unmet : are_met m.wanted m.got ≡ false
  before : ColumnsMet outputs s place es ws

before_more : (outputs : List Span) (s : State) (e : Expected) (es : List Expected) (w : List Digit) (ws : List (List Digit)) (count : ℕ)
    → MeetsAll w (value_of outputs s e) → ColumnsMet outputs s count es ws → ColumnsMet outputs s (suc count) (e ∷ es) (w ∷ ws)
before_more outputs s e es w ws count first rest zero f v below at wants =
    let p : e ≡ f = same_Some e f at in
    let q : w ≡ v = same_Some w v wants in
    subst (λ (x : List Digit). MeetsAll x (value_of outputs s f)) q (subst (λ (x : Expected). MeetsAll w (value_of outputs s x)) p first)
before_more outputs s e es w ws count first rest (suc c) f v below at wants = rest c f v (omega arith) at wants

miss_from : (outputs : List Span) (s : State) (n : ℕ) (es : List Expected) (ws : List (List Digit)) (m : Miss) → first_miss outputs s n es ws ≡ Some m → IsMissFrom outputs s n es ws m
miss_from outputs s n [] ws m h = absurd (none-some m h)
miss_from outputs s n (e ∷ es) [] m h = absurd (none-some m h)
miss_from outputs s n (e ∷ es) (w ∷ ws) m h = go (are_met w (value_of outputs s e)) refl (λ some. miss_from outputs s (n + 1) es ws m some) h
  where
    go : (t : Bool) → are_met w (value_of outputs s e) ≡ t → (first_miss outputs s (n + 1) es ws ≡ Some m → IsMissFrom outputs s (n + 1) es ws m)
        → (elim t as (λ _. Option Miss) [ true ↦ first_miss outputs s (n + 1) es ws | false ↦ Some (record { output = n; wanted = w; got = value_of outputs s e }) ]) ≡ Some m
        → IsMissFrom outputs s n (e ∷ es) (w ∷ ws) m
    go false met rest some =
        let here : record { output = n; wanted = w; got = value_of outputs s e } ≡ m = same_Some (record { output = n; wanted = w; got = value_of outputs s e }) m some in
        record {
          place = 0;
          place_is = sym (ap (λ (x : Miss). x.output) here) ∙ omega arith;
          column = e;
          column_is = refl;
          wanted_is = ap (λ (x : Miss). Some x.wanted) here;
          got_is = sym (ap (λ (x : Miss). x.got) here);
          unmet = sym (ap (λ (x : Miss). are_met x.wanted x.got) here) ∙ met;
          before = λ c f v below at wants. absurd (let never : ⊥ = omega arith in never);
        }
    go true met rest some =
        let r = rest some in
        record {
          place = suc r.place;
          place_is = r.place_is ∙ omega arith;
          column = r.column;
          column_is = r.column_is;
          wanted_is = r.wanted_is;
          got_is = r.got_is;
          unmet = r.unmet;
          before = before_more outputs s e es w ws r.place (meets_from w (value_of outputs s e) met) r.before;
        }

pub first_is_missed : FirstIsMissed
first_is_missed outputs s es ws m h =
    let r = miss_from outputs s 0 es ws m h in
    let at : r.place ≡ m.output = omega (arith, r.place_is) in
    record {
      column = r.column;
      column_is = ap (slice_get es) (sym at) ∙ r.column_is;
      wanted_is = ap (slice_get ws) (sym at) ∙ r.wanted_is;
      got_is = r.got_is;
      unmet = λ meets. false≢true (sym r.unmet ∙ met_from m.wanted m.got meets);
      before = subst (λ (c : ℕ). ColumnsMet outputs s c es ws) at r.before;
    }
