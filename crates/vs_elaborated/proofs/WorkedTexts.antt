-- Worked texts: what they elaborate to, each by one computation.
use Rattle.std.proofs.Common.{◌≡◌, ℕ, Bool, true, false, ◌&&◌, List, ◌∷◌, [], ◌++◌, Option, Some, None, refl, length, nat_eq, ap, ◌∙◌, sym}
use Rattle.std.proofs.lemmas.Bool.{and_parts}
use Rattle.std.specs.Prelude.{Result, Ok, Err, nat_le, is_some}
use Rattle.vs_lexer.specs.declared.token.Token.{Token}
use Rattle.vs_lexer.specs.declared.token.LexError.{LexError}
use Rattle.vs_lexer.specs.Cuts.{cut_text, spelling_of}
use Rattle.vs_design.specs.Designs.{Design}
use Rattle.vs_grammar.specs.Grammars.{depth}
use Rattle.vs_grammar.specs.Kinds.{terminals, end_of_text}
use Rattle.vs_grammar.specs.Verilog.{verilog, phrase_of, r, Rule as rule}
use Rattle.vs_grammar.specs.Meaning.{text_of}
use Rattle.vs_grammar.specs.Trees.{Source}
use Rattle.vs_grammar.specs.Spelled.{depth_limit, Spells}
use Rattle.vs_grammar.proofs.Decided.{verilog_is_predictive}
use Rattle.vs_grammar.proofs.Whole.{derived}
use Rattle.vs_grammar.proofs.Runner.{Run, is_kind}
use Rattle.vs_grammar.proofs.Runner.Run.{read, stopped, gave_up}
use Rattle.vs_grammar.proofs.Worked.{is_kept, none_left_out, read_as, reading, shallow_by}
use Rattle.vs_const.specs.declared.faults.Fault.{Fault}
use Rattle.vs_const.specs.declared.rules.Rule.{Rule}
use Rattle.vs_const.specs.Rules.{rule_number}
use Rattle.vs_const.proofs.RuleNumbers.{same_rule}
use Rattle.vs_elaborated.specs.Limits.{Limits, the_limits}
use Rattle.vs_elaborated.specs.Worked.{answer, token_at, unplaced_design, IsRefusedWithin, Elaborates, Shows, AreAlike}
use Rattle.vs_elaborated.proofs.QuickCuts.{quick_text, cut_is}

abbrev Reading : List Token → Type 0
Reading tokens = Run verilog (phrase_of rule.Text) (terminals tokens)

abbrev if_so : {A : Type 0} → Bool → Option A → Option A
if_so false o = None
if_so true o = o

-- what a function gives of the tree that was read
abbrev of_reading : {A : Type 0} → (Source → Option A) → (text : List ℕ) (tokens : List Token) → Reading tokens → Option A
of_reading f text tokens (read a [] p) = if_so (nat_le (depth a) depth_limit) (f (text_of (spelling_of text tokens) a))
of_reading f text tokens _ = None

-- and of the tree that these tokens spell, or that the text does
abbrev of_tokens : {A : Type 0} → (List Token → Source → Option A) → (text : List ℕ) → List Token → Option A
of_tokens f text tokens = if_so (is_kept tokens) (of_reading (f tokens) text tokens (reading tokens))

abbrev of_cut : {A : Type 0} → (List Token → Source → Option A) → (text : List ℕ) → Result (List Token) LexError → Option A
of_cut f text (Ok tokens) = of_tokens f text tokens
of_cut f text (Err e) = None

abbrev of_text : {A : Type 0} → (List Token → Source → Option A) → (text : List ℕ) → Option A
of_text f text = of_cut f text (quick_text text)

-- the text spells a tree of which the function gives this
record Gives {A : Type 0} (f : List Token → Source → Option A) (text : List ℕ) (what : A) : Type 0 where
  source : Source
  spelled : Spells text source
  given : f spelled.tokens source ≡ Some what

record IsSo {A : Type 0} (b : Bool) (o : Option A) (what : A) : Type 0 where
  so : b ≡ true
  is : o ≡ Some what

was_so : {A : Type 0} (b : Bool) (o : Option A) (what : A) → if_so b o ≡ Some what → IsSo b o what
was_so true o what h = record { so = refl; is = h }
was_so false o what h = cc

reading_gives : {A : Type 0} (f : List Token → Source → Option A) (text : List ℕ) (tokens : List Token) (w : Reading tokens) (what : A)
    → cut_text text ≡ Ok tokens → is_kept tokens ≡ true → of_reading (f tokens) text tokens w ≡ Some what → Gives f text what
reading_gives f text tokens (read a [] p) what cut kept h =
    let q = was_so (nat_le (depth a) depth_limit) (f tokens (text_of (spelling_of text tokens) a)) what h in
    record {
      source = text_of (spelling_of text tokens) a;
      spelled = record {
        tokens = tokens;
        read = read_as text tokens cut kept;
        spelled = record {
          kept = none_left_out tokens kept;
          derivation = a;
          derived = derived verilog (r rule.Source) end_of_text verilog_is_predictive (terminals tokens) a p;
          stands = refl;
          shallow = shallow_by (depth a) q.so;
        };
      };
      given = q.is;
    }
reading_gives f text tokens (read a (u ∷ us) p) what cut kept h = cc
reading_gives f text tokens (stopped us p) what cut kept h = cc
reading_gives f text tokens gave_up what cut kept h = cc

cut_gives : {A : Type 0} (f : List Token → Source → Option A) (text : List ℕ) (o : Result (List Token) LexError) (what : A) → cut_text text ≡ o → of_cut f text o ≡ Some what → Gives f text what
cut_gives f text (Ok tokens) what e h =
    let q = was_so (is_kept tokens) (of_reading (f tokens) text tokens (reading tokens)) what h in
    reading_gives f text tokens (reading tokens) what e q.so q.is
cut_gives f text (Err x) what e h = cc

gives : {A : Type 0} (f : List Token → Source → Option A) (text : List ℕ) (what : A) → of_text f text ≡ Some what → Gives f text what
gives f text what h = cut_gives f text (quick_text text) what (cut_is text) h

-- ---- refusals

abbrev is_fault : Rule → ℕ → Result Design Fault → Bool
is_fault broken place (Ok d) = false
is_fault broken place (Err a) = nat_eq (rule_number a.rule) (rule_number broken) && nat_eq a.place place

abbrev is_refused : Limits → Rule → (before : List ℕ) → List Token → Source → Option Bool
is_refused limits broken before tokens source = Some (is_fault broken (token_at tokens (length before)) (answer limits source))

abbrev fault_at : Rule → ℕ → Result Design Fault
fault_at broken place = Err (record { rule = broken; place = place })

some_same : {A : Type 0} (a b : A) → Some a ≡ Some b → a ≡ b
some_same a b h = cc

fault_is : (broken : Rule) (place : ℕ) (o : Result Design Fault) → is_fault broken place o ≡ true → o ≡ fault_at broken place
fault_is broken place (Ok d) h = cc
fault_is broken place (Err a) h =
    let q = and_parts (nat_eq (rule_number a.rule) (rule_number broken)) (nat_eq a.place place) h in
    let n : a.rule ≡ broken = same_rule a.rule broken (is_kind (rule_number a.rule) (rule_number broken) q.0) in
    let p : a.place ≡ place = is_kind a.place place q.1 in
    ap (λ m. fault_at m a.place) n ∙ ap (λ k. fault_at broken k) p

pub refused : {limits : Limits} {broken : Rule} {before after : List ℕ} → of_text (is_refused limits broken before) (before ++ after) ≡ Some true → IsRefusedWithin limits broken before after
refused {limits = limits} {broken = broken} {before = before} {after = after} h =
    let s = gives (is_refused limits broken before) (before ++ after) true h in
    let place = token_at s.spelled.tokens (length before) in
    record { source = s.source; spelled = s.spelled; is = fault_is broken place (answer limits s.source) (some_same (is_fault broken place (answer limits s.source)) true s.given) }

-- ---- designs

-- what is seen of the design, if there is one
abbrev seen : {A : Type 0} → (Design → A) → Result Design Fault → Option A
seen view (Ok d) = Some (view d)
seen view (Err a) = None

abbrev seen_of : {A : Type 0} → Limits → (Design → A) → List Token → Source → Option A
seen_of limits view tokens source = seen view (answer limits source)

-- there is a design of which this is seen
record IsSeen {A : Type 0} (view : Design → A) (o : Result Design Fault) (what : A) : Type 0 where
  design : Design
  is : o ≡ Ok design
  shown : view design ≡ what

is_seen : {A : Type 0} (view : Design → A) (o : Result Design Fault) (what : A) → seen view o ≡ Some what → IsSeen view o what
is_seen view (Ok d) what h = record { design = d; is = refl; shown = some_same (view d) what h }
is_seen view (Err a) what h = cc

record Views {A : Type 0} (limits : Limits) (view : Design → A) (text : List ℕ) (what : A) : Type 0 where
  elaborated : Elaborates limits text
  is : view elaborated.design ≡ what

views : {A : Type 0} (limits : Limits) (view : Design → A) (text : List ℕ) (what : A) → of_text (seen_of limits view) text ≡ Some what → Views limits view text what
views limits view text what h =
    let s = gives (seen_of limits view) text what h in
    let d = is_seen view (answer limits s.source) what s.given in
    record { elaborated = record { source = s.source; spelled = s.spelled; design = d.design; is = d.is }; is = d.shown }

abbrev nothing : Design → Bool
nothing d = true

pub elaborates : {limits : Limits} {text : List ℕ} → of_text (seen_of limits nothing) text ≡ Some true → Elaborates limits text
elaborates {limits = limits} {text = text} h = (views limits nothing text true h).elaborated

pub shows : {A : Type 0} {view : Design → A} {text : List ℕ} {what : A} → of_text (seen_of the_limits view) text ≡ Some what → Shows view what text
shows {view = view} {text = text} {what = what} h = let v = views the_limits view text what h in record { elaborates = v.elaborated; is = v.is }

some_seen : {A : Type 0} (o : Option A) → is_some o ≡ true → (a : A) × (o ≡ Some a)
some_seen None h = cc
some_seen (Some a) h = (a, refl)

pub alike : {a b : List ℕ} → is_some (of_text (seen_of the_limits unplaced_design) a) ≡ true
    → of_text (seen_of the_limits unplaced_design) b ≡ of_text (seen_of the_limits unplaced_design) a → AreAlike a b
alike {a = a} {b = b} some same =
    let d = some_seen (of_text (seen_of the_limits unplaced_design) a) some in
    let v = views the_limits unplaced_design a d.0 d.1 in
    let w = views the_limits unplaced_design b d.0 (same ∙ d.1) in
    record { one = v.elaborated; other = w.elaborated; is = v.is ∙ sym w.is }
