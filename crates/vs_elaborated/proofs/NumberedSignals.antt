-- The signals of an elaborated design are numbered from 0, and so are their bits; their scopes never go back, and are scopes of the design.
use Rattle.std.proofs.Common.{◌≡◌, ℕ, zero, suc, ◌+◌, ◌*◌, ◌≤◌, ◌<◌, Bool, true, false, ◌&&◌, List, [], ◌∷◌, ◌++◌, map, length, Option, Some, None, refl, sym, ap, ◌∙◌, subst, subst₂, arith, nat_le, ◌==◌, eq-eqb, if◌then◌else◌}
use Rattle.std.specs.Prelude.{Result, Ok, Err, fold, sum_by}
use Rattle.std.proofs.lemmas.Bool.{le-leb}
use Rattle.std.proofs.Math.Nat.{suc-mul}
use Rattle.std.proofs.lemmas.List.{map-append, length-map}
use Rattle.vs_four.specs.Selects.{range_length}
use Rattle.vs_design.specs.Expressions.{Signal, signal_length, word_length, addresses}
use Rattle.vs_design.specs.Values.{count_from}
use Rattle.vs_design.specs.Designs.{Process, Design}
use Rattle.vs_design.specs.Elaborated.{are_numbered, have_bits_from}
use Rattle.vs_grammar.specs.Trees.{Name, Module, Source}
use Rattle.vs_grammar.specs.Shapes.{Each}
use Rattle.vs_const.specs.declared.faults.Fault.{Fault}
use Rattle.vs_const.specs.Faults.{least}
use Rattle.vs_const.specs.declared.names.Role.TheVariants.{InModule}
use Rattle.vs_const.specs.Selects.{array_net}
use Rattle.vs_const.proofs.Formed.{both}
use Rattle.vs_elaborated.specs.Environments.{Env}
use Rattle.vs_elaborated.specs.Limits.{Limits}
use Rattle.vs_elaborated.specs.Declarations.{Declaration, Named, Sort, SignalOf, ParameterOf, FunctionOf, GenvarSort, IntegerSort, InstanceSort}
use Rattle.vs_elaborated.specs.Signals.{Start, SaidSignal, said_signal, said_signals, nets_of, all_nets, net_count, after}
use Rattle.vs_elaborated.specs.Sound.{AreCounted}
use Rattle.vs_elaborated.specs.Ports.{find_module}
use Rattle.vs_elaborated.specs.Pieces.{Task, ScopedBlock, Piece, Own, OfScopes, Initially, Instance, Within, is_instance}
use Rattle.vs_elaborated.specs.Statements.{Local, TypedStatement}
use Rattle.vs_elaborated.specs.Functions as functions
use Rattle.vs_elaborated.specs.Functions.{LocalSignal}
use Rattle.vs_elaborated.specs.NamedBlocks.{NamedBlock, named_blocks, named_scope, named_signals}
use Rattle.vs_elaborated.specs.Surveys.{Totals, no_totals, scoped_signals, scoped_statement, Survey, survey}
use Rattle.vs_elaborated.proofs.SurveyParts.{names_in, ranged_in, start_in, signals_in}
use Rattle.vs_elaborated.proofs.Nets.{net_length, array_length, by_array, nets_counted}
use Rattle.vs_elaborated.specs.Elaborated.{both_designs, of_processes, then_do, port_assign, Read, ReadPieces, scoped_design, scoped_totals, scoped_faults, read_scoped, read_piece, read_pieces, counted, limit_faults, scope_design, read_scope, repeated_modules, top_task, scope_depth, elaborated_top, elaborated_within}

abbrev pub bits_of_all : List Signal → ℕ
bits_of_all [] = 0
bits_of_all (s ∷ ss) = signal_length s + bits_of_all ss

-- numbers from n on, bits from b on, scopes from c on
abbrev pub Numbered : (n b c : ℕ) → List Signal → Type 0
Numbered n b c [] = Unit {0}
Numbered n b c (s ∷ ss) = (s.number ≡ n) × (s.first ≡ b) × (c ≤ s.scope) × Numbered (n + 1) (b + signal_length s) s.scope ss

abbrev pub AreBelow : ℕ → List Signal → Type 0
AreBelow c ss = Each (λ (s : Signal). s.scope < c) ss

from_earlier : (n b c e : ℕ) (ss : List Signal) → e ≤ c → Numbered n b c ss → Numbered n b e ss
from_earlier n b c e [] h p = tt
from_earlier n b c e (s ∷ ss) h p = (p.0, p.1, omega (arith, p.2), p.3)

numbered_append : (n b c e : ℕ) (xs ys : List Signal) → c ≤ e → AreBelow e xs → Numbered n b c xs → Numbered (n + length xs) (b + bits_of_all xs) e ys → Numbered n b c (xs ++ ys)
numbered_append n b c e [] ys h k p q = from_earlier n b e c ys h (subst₂ (λ m a. Numbered m a e ys) (omega arith) (omega arith) q)
numbered_append n b c e (s ∷ ss) ys h k p q =
    (p.0, p.1, p.2, numbered_append (n + 1) (b + signal_length s) s.scope e ss ys (omega (arith, k.0)) k.1 p.3 (subst₂ (λ m a. Numbered m a e ys) (omega arith) (omega arith) q))

below_append : (c : ℕ) (xs ys : List Signal) → AreBelow c xs → AreBelow c ys → AreBelow c (xs ++ ys)
below_append c [] ys p q = q
below_append c (s ∷ ss) ys p q = (p.0, below_append c ss ys p.1 q)

below_more : (c e : ℕ) (xs : List Signal) → c ≤ e → AreBelow c xs → AreBelow e xs
below_more c e [] h p = tt
below_more c e (s ∷ ss) h p = (omega (arith, p.0), below_more c e ss h p.1)

-- ---- one scope

abbrev pub signals_of : List SaidSignal → List Signal
signals_of ss = all_nets ss

pub said_counted : (env : Env) (names : List Named) (start : Start) → AreCounted start.scope start.signal start.bit (signals_of (said_signals env start names))
said_counted env [] start = tt
said_counted env (n ∷ ns) start = of n.first.name n.first.sort n.second (λ next. said_counted env ns next)
  where
    of : (w : Name) (k : Sort) (second : Option Declaration) → ((next : Start) → AreCounted next.scope next.signal next.bit (signals_of (said_signals env next ns)))
        → AreCounted start.scope start.signal start.bit (signals_of (said_signals env start (record { first = record { name = w; sort = k }; second = second } ∷ ns)))
    of w (SignalOf s) second rest =
        let m : Named = record { first = record { name = w; sort = SignalOf s }; second = second } in
        let one = (said_signal env start m s).meaning in
        nets_counted one.signal (signals_of (said_signals env (after start one) ns)) (rest (after start one))
    of w (ParameterOf p) second rest = rest start
    of w (FunctionOf f) second rest = rest start
    of w GenvarSort second rest = rest start
    of w IntegerSort second rest = rest start
    of w InstanceSort second rest = rest start

counted_numbered : (scope n b : ℕ) (ss : List Signal) → AreCounted scope n b ss → Numbered n b scope ss
counted_numbered scope n b [] p = tt
counted_numbered scope n b (s ∷ ss) p = (p.0, p.1, omega (arith, p.2), subst (λ c. Numbered (n + 1) (b + signal_length s) c ss) (sym p.2) (counted_numbered scope (n + 1) (b + signal_length s) ss p.3))

counted_below : (scope n b : ℕ) (ss : List Signal) → AreCounted scope n b ss → AreBelow (scope + 1) ss
counted_below scope n b [] p = tt
counted_below scope n b (s ∷ ss) p = (omega (arith, p.2), counted_below scope (n + 1) (b + signal_length s) ss p.3)

-- ---- what was read goes on from the totals

pub record GoesOn (t : Totals) (d : Design) (u : Totals) : Type 0 where
  pub numbered : Numbered t.signals t.bits t.scopes d.signals
  pub below : AreBelow u.scopes d.signals
  pub signals : u.signals ≡ t.signals + length d.signals
  pub bits : u.bits ≡ t.bits + bits_of_all d.signals
  pub scopes : u.scopes ≡ t.scopes + length d.scopes

abbrev pub GoodRead : Totals → Result Read Fault → Type 0
GoodRead t (Ok r) = GoesOn t r.design r.totals
GoodRead t (Err e) = Unit {0}

abbrev pub GoodPieces : Totals → Result ReadPieces Fault → Type 0
GoodPieces t (Ok r) = GoesOn t r.design r.totals
GoodPieces t (Err e) = Unit {0}

length_both : {A : Type 0} (xs ys : List A) → length (xs ++ ys) ≡ length xs + length ys
length_both [] ys = omega arith
length_both (x ∷ xs) ys = let e = length_both xs ys in omega (arith, e)

pub bits_both : (xs ys : List Signal) → bits_of_all (xs ++ ys) ≡ bits_of_all xs + bits_of_all ys
bits_both [] ys = omega arith
bits_both (x ∷ xs) ys = let e = bits_both xs ys in omega (arith, e)

goes_on_both : (t u v : Totals) (d e : Design) → GoesOn t d u → GoesOn u e v → GoesOn t (both_designs d e) v
goes_on_both t u v d e g h = record {
  numbered = numbered_append t.signals t.bits t.scopes u.scopes d.signals e.signals (omega (arith, g.scopes)) g.below g.numbered (subst₂ (λ m c. Numbered m c u.scopes e.signals) g.signals g.bits h.numbered);
  below = below_append v.scopes d.signals e.signals (below_more u.scopes v.scopes d.signals (omega (arith, h.scopes)) g.below) h.below;
  signals = omega (arith, g.signals, h.signals, length_both d.signals e.signals);
  bits = omega (arith, g.bits, h.bits, bits_both d.signals e.signals);
  scopes = omega (arith, g.scopes, h.scopes, length_both d.scopes e.scopes);
}

nothing_read : (t : Totals) (ps : List Process) → GoesOn t (of_processes ps) t
nothing_read t ps = record { numbered = tt; below = tt; signals = omega arith; bits = omega arith; scopes = omega arith }

-- ---- an always block with scopes

abbrev pub local_signals : List LocalSignal → List Signal
local_signals ss = map (λ (s : LocalSignal). s.meaning.signal) ss

locals_numbered : (env : Env) (vs : List Local) (start : functions.Start) → Numbered start.signal start.bit start.scope (local_signals (functions.signals_of env start InModule false vs))
locals_numbered env [] start = tt
locals_numbered env (v ∷ vs) start = (refl, refl, omega arith, locals_numbered env vs (functions.behind start (functions.local_signal env start InModule false v)))

locals_below : (env : Env) (vs : List Local) (start : functions.Start) → AreBelow (suc start.scope) (local_signals (functions.signals_of env start InModule false vs))
locals_below env [] start = tt
locals_below env (v ∷ vs) start = (omega arith, locals_below env vs (functions.behind start (functions.local_signal env start InModule false v)))

count_behind : (ss : List LocalSignal) (start : functions.Start) → (functions.behind_all start ss).signal ≡ start.signal + length (local_signals ss)
count_behind [] start = omega arith
count_behind (s ∷ ss) start = count_behind ss (functions.behind start s) ∙ omega arith

bits_behind : (ss : List LocalSignal) (start : functions.Start) → (functions.behind_all start ss).bit ≡ start.bit + bits_of_all (local_signals ss)
bits_behind [] start = omega arith
bits_behind (s ∷ ss) start = bits_behind ss (functions.behind start s) ∙ omega arith

-- where the variables of the next block begin
abbrev pub next_start : Env → functions.Start → NamedBlock → functions.Start
next_start env start b = record (functions.behind_all start (functions.signals_of env start InModule false b.variables)) { scope = suc start.scope }

pub named_numbered : (env : Env) (bs : List NamedBlock) (start : functions.Start) → Numbered start.signal start.bit start.scope (local_signals (named_signals env start bs))
named_numbered env [] start = tt
named_numbered env (b ∷ bs) start =
    let ss = functions.signals_of env start InModule false b.variables in
    let next = next_start env start b in
    let rest = local_signals (named_signals env next bs) in
    subst (Numbered start.signal start.bit start.scope) (sym (map-append (λ (s : LocalSignal). s.meaning.signal) ss (named_signals env next bs)))
    (numbered_append start.signal start.bit start.scope (suc start.scope) (local_signals ss) rest (omega arith) (locals_below env b.variables start) (locals_numbered env b.variables start)
    (subst₂ (λ n a. Numbered n a (suc start.scope) rest) (count_behind ss start) (bits_behind ss start) (named_numbered env bs next)))

pub named_below : (env : Env) (bs : List NamedBlock) (start : functions.Start) → AreBelow (start.scope + length bs) (local_signals (named_signals env start bs))
named_below env [] start = tt
named_below env (b ∷ bs) start =
    let ss = functions.signals_of env start InModule false b.variables in
    let next = next_start env start b in
    let rest = local_signals (named_signals env next bs) in
    let most = start.scope + suc (length bs) in
    subst (AreBelow most) (sym (map-append (λ (s : LocalSignal). s.meaning.signal) ss (named_signals env next bs)))
    (below_append most (local_signals ss) rest (below_more (suc start.scope) most (local_signals ss) (omega arith) (locals_below env b.variables start))
    (below_more (suc start.scope + length bs) most rest (omega arith) (named_below env bs next)))

local_bits_from : (k : ℕ) (ss : List LocalSignal) → fold (λ (n : ℕ) (s : LocalSignal). n + signal_length s.meaning.signal) k ss ≡ k + bits_of_all (local_signals ss)
local_bits_from k [] = omega arith
local_bits_from k (s ∷ ss) = local_bits_from (k + signal_length s.meaning.signal) ss ∙ omega arith

pub local_bits : (ss : List LocalSignal) → sum_by (λ (s : LocalSignal). signal_length s.meaning.signal) ss ≡ bits_of_all (local_signals ss)
local_bits ss = local_bits_from 0 ss ∙ omega arith

good_scoped : (b : ScopedBlock) (t : Totals) (s : TypedStatement) → GoesOn t (scoped_design b t (scoped_signals b t) s) (scoped_totals b t (scoped_signals b t) s)
good_scoped b t s =
    let bs = named_blocks b.block.statement in
    let start : functions.Start = record { scope = t.scopes; signal = t.signals; bit = t.bits } in
    let ss = scoped_signals b t in
    record {
      numbered = named_numbered b.env bs start;
      below = named_below b.env bs start;
      signals = ap (λ n. t.signals + n) (sym (length-map ss (λ (x : LocalSignal). x.meaning.signal)));
      bits = ap (λ n. t.bits + n) (local_bits ss);
      scopes = ap (λ n. t.scopes + n) (sym (length-map bs (named_scope b.scope t.scopes)));
    }

pub unless : {A : Type 0} (P : Result A Fault → Type 0) → ((e : Fault) → P (Err e)) → (o : Option Fault) (f : ℕ → Result A Fault) → ((n : ℕ) → P (f n)) → P (elim o [ None ↦ f 0 | Some a ↦ Err a ])
unless P e None f h = h 0
unless P e (Some a) f h = e a

-- where it has no fault it gives this
abbrev pub scoped_read : Limits → ScopedBlock → Totals → ReadPieces
scoped_read limits b t = record { design = scoped_design b t (scoped_signals b t) (scoped_statement limits b t); totals = scoped_totals b t (scoped_signals b t) (scoped_statement limits b t) }

pub of_scoped : (P : Result ReadPieces Fault → Type 0) → ((e : Fault) → P (Err e)) → (limits : Limits) (b : ScopedBlock) (t : Totals) → P (Ok (scoped_read limits b t)) → P (read_scoped limits b t)
of_scoped P e limits b t h = unless P e (least (scoped_faults limits b t)) (λ n. Ok (scoped_read limits b t)) (λ n. h)

pub good_piece : (limits : Limits) (read : Task → Totals → Result Read Fault) → ((k : Task) (t : Totals) → GoodRead t (read k t)) → (p : Piece) (t : Totals) → GoodPieces t (read_piece limits read p t)
good_piece limits read h (Own p) t = nothing_read t (p ∷ [])
good_piece limits read h (OfScopes b) t = of_scoped (GoodPieces t) (λ e. tt) limits b t (good_scoped b t (scoped_statement limits b t))
good_piece limits read h (Initially place statement) t = record { numbered = tt; below = tt; signals = omega arith; bits = omega arith; scopes = omega arith }
good_piece limits read h (Instance connections task) t = of (read task t) (h task t)
  where
    of : (r : Result Read Fault) → GoodRead t r → GoodPieces t (then_do r λ s. Ok (record { design = both_designs (of_processes (map (port_assign task.place s.entries) connections)) s.design; totals = s.totals }))
    of (Err e) g = tt
    of (Ok s) g = goes_on_both t t s.totals (of_processes (map (port_assign task.place s.entries) connections)) s.design (nothing_read t (map (port_assign task.place s.entries) connections)) g
good_piece limits read h (Within task) t = of (read task t) (h task t)
  where
    of : (r : Result Read Fault) → GoodRead t r → GoodPieces t (then_do r λ s. Ok (record { design = s.design; totals = s.totals }))
    of (Err e) g = tt
    of (Ok s) g = g

pub good_pieces : (limits : Limits) (read : Task → Totals → Result Read Fault) → ((k : Task) (t : Totals) → GoodRead t (read k t)) → (ps : List Piece) (t : Totals) → GoodPieces t (read_pieces limits read ps t)
good_pieces limits read h [] t = nothing_read t []
good_pieces limits read h (p ∷ ps) t = of (read_piece limits read p t) (good_piece limits read h p t) (λ u. good_pieces limits read h ps u)
  where
    of : (r : Result ReadPieces Fault) → GoodPieces t r → ((u : Totals) → GoodPieces u (read_pieces limits read ps u)) → GoodPieces t (then_do r λ a. then_do (read_pieces limits read ps a.totals) λ b. Ok (record { design = both_designs a.design b.design; totals = b.totals }))
    of (Err e) g k = tt
    of (Ok a) g k = rest (read_pieces limits read ps a.totals) (k a.totals)
      where
        rest : (q : Result ReadPieces Fault) → GoodPieces a.totals q → GoodPieces t (then_do q λ b. Ok (record { design = both_designs a.design b.design; totals = b.totals }))
        rest (Err e) l = tt
        rest (Ok b) l = goes_on_both t a.totals b.totals a.design b.design g l

lengths_from : (k : ℕ) (ss : List SaidSignal) → fold (λ (n : ℕ) (s : SaidSignal). n + length (nets_of s.meaning.signal)) k ss ≡ k + length (signals_of ss)
lengths_from k [] = omega arith
lengths_from k (s ∷ ss) = lengths_from (k + length (nets_of s.meaning.signal)) ss ∙ omega (arith, length_both (nets_of s.meaning.signal) (signals_of ss))

length_signals : (ss : List SaidSignal) → length (signals_of ss) ≡ net_count ss
length_signals ss = sym (lengths_from 0 ss ∙ omega arith)

bits_of_array : (s : Signal) (n count : ℕ) → bits_of_all (map (array_net s) (count_from n count)) ≡ count * word_length s
bits_of_array s n zero = omega arith
bits_of_array s n (suc count) = omega (arith, suc-mul count (word_length s), net_length s n, bits_of_array s (suc n) count)

pub bits_of_nets : (s : Signal) → bits_of_all (nets_of s) ≡ signal_length s
bits_of_nets s = by_array (λ xs. bits_of_all xs ≡ signal_length s) s (λ e. omega arith) (λ e. bits_of_array s (addresses s).right (range_length (addresses s)) ∙ sym (array_length s e))

bits_from : (k : ℕ) (ss : List SaidSignal) → fold (λ (n : ℕ) (s : SaidSignal). n + signal_length s.meaning.signal) k ss ≡ k + bits_of_all (signals_of ss)
bits_from k [] = omega arith
bits_from k (s ∷ ss) = bits_from (k + signal_length s.meaning.signal) ss ∙ omega (arith, bits_both (nets_of s.meaning.signal) (signals_of ss), bits_of_nets s.meaning.signal)

pub bits_signals : (ss : List SaidSignal) → bits_of_all (signals_of ss) ≡ sum_by (λ (s : SaidSignal). signal_length s.meaning.signal) ss
bits_signals ss = sym (bits_from 0 ss ∙ omega arith)

-- a scope's own part
abbrev pub own_part : Task → Survey → Design
own_part k s = record { scopes = record { name = k.name; parent = k.parent; instance = is_instance k.contents } ∷ []; signals = s.signals; processes = []; initials = []; functions = s.functions }

pub good_survey : (limits : Limits) (source : Source) (k : Task) (t : Totals) → GoesOn t (own_part k (survey limits source k t)) (survey limits source k t).totals
good_survey limits source k t = record {
  numbered = counted_numbered t.scopes t.signals t.bits (signals_of (signals_in k t)) (said_counted (ranged_in k t) (names_in k) (start_in k t));
  below = counted_below t.scopes t.signals t.bits (signals_of (signals_in k t)) (said_counted (ranged_in k t) (names_in k) (start_in k t));
  signals = ap (λ n. t.signals + n) (sym (length_signals (signals_in k t)));
  bits = ap (λ n. t.bits + n) (sym (bits_signals (signals_in k t)));
  scopes = refl;
}

counted_goes_on : (k : Task) (t : Totals) (d : Design) (u : Totals) → GoesOn (counted k t) d u → GoesOn t d u
counted_goes_on k t d u g = of (is_instance k.contents) g
  where
    of : (b : Bool) → GoesOn (if b then record t { instances = t.instances + 1 } else t) d u → GoesOn t d u
    of true g = record { numbered = g.numbered; below = g.below; signals = g.signals; bits = g.bits; scopes = g.scopes }
    of false g = g

-- a scope with all within it goes on from the totals that it began with
pub good_scope : (left : ℕ) (limits : Limits) (source : Source) (k : Task) (t : Totals) → GoodRead t (read_scope left limits source k t)
good_scope zero limits source k t = tt
good_scope (suc left) limits source k t =
    unless (GoodRead t) (λ e. tt) (least (limit_faults limits k (counted k t))) _ λ n.
    let s = survey limits source k (counted k t) in
    unless (GoodRead t) (λ e. tt) (least s.faults) _ λ m.
    of s (good_survey limits source k (counted k t)) (read_pieces limits (read_scope left limits source) s.pieces s.totals) (good_pieces limits (read_scope left limits source) (good_scope left limits source) s.pieces s.totals)
  where
    of : (s : Survey) → GoesOn (counted k t) (own_part k s) s.totals → (r : Result ReadPieces Fault) → GoodPieces s.totals r → GoodRead t (then_do r λ p. Ok (record { entries = s.entries; design = scope_design k s p.design; totals = p.totals }))
    of s g (Err e) h = tt
    of s g (Ok p) h = counted_goes_on k t (scope_design k s p.design) p.totals (goes_on_both (counted k t) s.totals p.totals (own_part k s) p.design g h)

-- ---- the whole

pub record IsNumberedDesign (d : Design) : Type 0 where
  pub numbered : are_numbered 0 0 d.signals ≡ true
  pub bits_numbered : have_bits_from 0 d.signals ≡ true
  pub below : AreBelow (length d.scopes) d.signals

pub numbers_are : (n b c : ℕ) (ss : List Signal) → Numbered n b c ss → are_numbered n c ss ≡ true
numbers_are n b c [] p = refl
numbers_are n b c (s ∷ ss) p = three (s.number == n) (nat_le c s.scope) (are_numbered (suc n) s.scope ss) (eq-eqb s.number n p.0) (le-leb c s.scope p.2) (subst (λ m. are_numbered m s.scope ss ≡ true) (omega arith) (numbers_are (n + 1) (b + signal_length s) s.scope ss p.3))
  where
    three : (a b c : Bool) → a ≡ true → b ≡ true → c ≡ true → (a && b && c) ≡ true
    three true true true h k l = refl
    three true true false h k l = cc
    three true false c h k l = cc
    three false b c h k l = cc

pub bits_are : (n b c : ℕ) (ss : List Signal) → Numbered n b c ss → have_bits_from b ss ≡ true
bits_are n b c [] p = refl
bits_are n b c (s ∷ ss) p = both (s.first == b) (have_bits_from (b + signal_length s) ss) (eq-eqb s.first b p.1) (bits_are (n + 1) (b + signal_length s) s.scope ss p.3)

abbrev pub GoodDesign : Result Design Fault → Type 0
GoodDesign (Ok d) = IsNumberedDesign d
GoodDesign (Err e) = Unit {0}

pub elaborated_numbered : (limits : Limits) (source : Source) (top : List ℕ) → GoodDesign (elaborated_within limits source top)
elaborated_numbered limits source top = unless GoodDesign (λ e. tt) (least (repeated_modules [] source.modules)) (λ u. elaborated_top limits source (find_module source top)) (λ u. found (find_module source top))
  where
    read : (r : Result Read Fault) → GoodRead no_totals r → GoodDesign (then_do r λ s. Ok s.design)
    read (Err e) g = tt
    read (Ok s) g = record {
      numbered = numbers_are 0 0 0 s.design.signals g.numbered;
      bits_numbered = bits_are 0 0 0 s.design.signals g.numbered;
      below = below_more s.totals.scopes (length s.design.scopes) s.design.signals (omega (arith, g.scopes)) g.below;
    }

    found : (m : Option Module) → GoodDesign (elaborated_top limits source m)
    found None = tt
    found (Some m) = read (read_scope (scope_depth limits) limits source (top_task m) no_totals) (good_scope (scope_depth limits) limits source (top_task m) no_totals)
