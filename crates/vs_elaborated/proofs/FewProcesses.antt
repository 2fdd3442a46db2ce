-- An elaborated design has no more processes, initial ones among them, than the limit.
use Rattle.std.proofs.Common.{◌≡◌, ℕ, zero, suc, ◌+◌, ◌≤◌, Bool, true, false, List, [], ◌∷◌, ◌++◌, map, length, Option, Some, None, refl, ◌∙◌, arith, if◌then◌else◌, nat_lt}
use Rattle.std.specs.Prelude.{Result, Ok, Err, fold, sum_by}
use Rattle.std.proofs.lemmas.Bool.{ltb-false}
use Rattle.std.proofs.Math.ListN.{length-map}
use Rattle.vs_design.specs.Designs.{Design}
use Rattle.vs_grammar.specs.Trees.{Module, Source}
use Rattle.vs_const.specs.declared.faults.Fault.{Fault}
use Rattle.vs_const.specs.Faults.{fault, lesser, least}
use Rattle.vs_const.specs.declared.rules.Rule.TheVariants.{TooManyProcesses}
use Rattle.vs_elaborated.specs.Limits.{Limits}
use Rattle.vs_elaborated.specs.Ports.{find_module}
use Rattle.vs_elaborated.specs.Pieces.{Task, Piece, Own, OfScopes, Initially, Instance, Within, is_instance}
use Rattle.vs_elaborated.specs.Surveys.{Totals, no_totals, Survey, survey, piece_place, piece_processes, processes_over}
use Rattle.vs_elaborated.proofs.SurveyParts.{faultless}
use Rattle.vs_elaborated.specs.Elaborated.{moved, both_designs, of_processes, then_do, port_assign, Read, ReadPieces, read_piece, read_pieces, counted, limit_faults, scope_design, read_scope, repeated_modules, top_task, scope_depth, elaborated_top, elaborated_within}
use Rattle.vs_elaborated.proofs.NumberedSignals.{unless, of_scoped}

-- ---- counting

abbrev pub processes_of : List Piece → ℕ
processes_of [] = 0
processes_of (p ∷ ps) = piece_processes p + processes_of ps

sum_from : (k : ℕ) (ps : List Piece) → fold (λ (n : ℕ) (p : Piece). n + piece_processes p) k ps ≡ k + processes_of ps
sum_from k [] = omega arith
sum_from k (p ∷ ps) = sum_from (k + piece_processes p) ps ∙ omega arith

sum_is : (ps : List Piece) → sum_by piece_processes ps ≡ processes_of ps
sum_is ps = sum_from 0 ps ∙ omega arith

not_over : (most total : ℕ) (ps : List Piece) → total ≤ most → processes_over most total ps ≡ [] → total + processes_of ps ≤ most
not_over most total [] h k = omega arith
not_over most total (p ∷ ps) h k = of (nat_lt most (total + piece_processes p)) refl k (λ b i. not_over most (total + piece_processes p) ps b i)
  where
    of : (b : Bool) → nat_lt most (total + piece_processes p) ≡ b → (if b then fault TooManyProcesses (piece_place p) else processes_over most (total + piece_processes p) ps) ≡ []
        → (total + piece_processes p ≤ most → processes_over most (total + piece_processes p) ps ≡ [] → (total + piece_processes p) + processes_of ps ≤ most) → total + (piece_processes p + processes_of ps) ≤ most
    of true e i f = cc
    of false e i f = let j = f (ltb-false most (total + piece_processes p) e) i in omega (arith, j)

pub least_none : (fs : List Fault) → least fs ≡ None → fs ≡ []
least_none [] h = refl
least_none (f ∷ fs) h = absurd (no (lesser f (least fs)) h)
  where
    no : (a : Fault) → Some a ≡ None → ⊥
    no a k = cc

-- ---- reading

-- what was read was counted, and there are no more than the most
pub record Counts (most : ℕ) (t : Totals) (own : ℕ) (d : Design) (u : Totals) : Type 0 where
  pub exact : u.processes + own ≡ t.processes + length d.processes + length d.initials
  pub within : u.processes ≤ most

abbrev pub CountsRead : ℕ → Totals → Result Read Fault → Type 0
CountsRead most t (Ok r) = Counts most t 0 r.design r.totals
CountsRead most t (Err e) = Unit {0}

abbrev pub CountsPieces : ℕ → Totals → ℕ → Result ReadPieces Fault → Type 0
CountsPieces most t own (Ok r) = Counts most t own r.design r.totals
CountsPieces most t own (Err e) = Unit {0}

length_both : {A : Type 0} (xs ys : List A) → length (xs ++ ys) ≡ length xs + length ys
length_both [] ys = omega arith
length_both (x ∷ xs) ys = let e = length_both xs ys in omega (arith, e)

abbrev CountsTasks : ℕ → (Task → Totals → Result Read Fault) → Type 0
CountsTasks most read = (k : Task) (t : Totals) → t.processes ≤ most → CountsRead most t (read k t)

piece_counts : (limits : Limits) (most : ℕ) (read : Task → Totals → Result Read Fault) → CountsTasks most read → (p : Piece) (t : Totals) → t.processes ≤ most → CountsPieces most t (piece_processes p) (read_piece limits read p t)
piece_counts limits most read h (Own p) t b = record { exact = omega arith; within = b }
piece_counts limits most read h (OfScopes s) t b = of_scoped (CountsPieces most t 1) (λ e. tt) limits s t (record { exact = omega arith; within = b })
piece_counts limits most read h (Initially place statement) t b = record { exact = omega arith; within = b }
piece_counts limits most read h (Instance connections task) t b = of (read task t) (h task t b)
  where
    of : (r : Result Read Fault) → CountsRead most t r → CountsPieces most t (length connections) (then_do r λ s. Ok (record { design = both_designs (of_processes (map (port_assign task.place s.entries) connections)) s.design; totals = s.totals }))
    of (Err e) g = tt
    of (Ok s) g =
        let ports = map (port_assign task.place s.entries) connections in
        record {
          exact = omega (arith, g.exact, length_both ports s.design.processes, length-map connections (port_assign task.place s.entries), length-map s.design.initials (moved (length ports)));
          within = g.within;
        }
piece_counts limits most read h (Within task) t b = of (read task t) (h task t b)
  where
    of : (r : Result Read Fault) → CountsRead most t r → CountsPieces most t 0 (then_do r λ s. Ok (record { design = s.design; totals = s.totals }))
    of (Err e) g = tt
    of (Ok s) g = record { exact = g.exact; within = g.within }

pieces_count : (limits : Limits) (most : ℕ) (read : Task → Totals → Result Read Fault) → CountsTasks most read → (ps : List Piece) (t : Totals) → t.processes ≤ most → CountsPieces most t (processes_of ps) (read_pieces limits read ps t)
pieces_count limits most read h [] t b = record { exact = omega arith; within = b }
pieces_count limits most read h (p ∷ ps) t b = of (read_piece limits read p t) (piece_counts limits most read h p t b) (λ u c. pieces_count limits most read h ps u c)
  where
    of : (r : Result ReadPieces Fault) → CountsPieces most t (piece_processes p) r → ((u : Totals) → u.processes ≤ most → CountsPieces most u (processes_of ps) (read_pieces limits read ps u))
        → CountsPieces most t (piece_processes p + processes_of ps) (then_do r λ a. then_do (read_pieces limits read ps a.totals) λ b. Ok (record { design = both_designs a.design b.design; totals = b.totals }))
    of (Err e) g k = tt
    of (Ok a) g k = rest (read_pieces limits read ps a.totals) (k a.totals g.within)
      where
        rest : (q : Result ReadPieces Fault) → CountsPieces most a.totals (processes_of ps) q → CountsPieces most t (piece_processes p + processes_of ps) (then_do q λ b. Ok (record { design = both_designs a.design b.design; totals = b.totals }))
        rest (Err e) l = tt
        rest (Ok b) l =
            let more = map (moved (length a.design.processes)) b.design.initials in
            record {
              exact = omega (arith, g.exact, l.exact, length_both a.design.processes b.design.processes, length_both a.design.initials more, length-map b.design.initials (moved (length a.design.processes)));
              within = l.within;
            }

counted_processes : (k : Task) (t : Totals) → (counted k t).processes ≡ t.processes
counted_processes k t = of (is_instance k.contents)
  where
    of : (b : Bool) → (if b then record t { instances = t.instances + 1 } else t).processes ≡ t.processes
    of true = refl
    of false = refl

-- where a scope has no fault, its processes are counted and not too many
survey_counts : (limits : Limits) (source : Source) (k : Task) (t : Totals) → t.processes ≤ limits.processes → (survey limits source k t).faults ≡ [] → (survey limits source k t).totals.processes ≤ limits.processes
survey_counts limits source k t b h =
    let s = survey limits source k t in
    omega (arith, sum_is s.pieces, not_over limits.processes t.processes s.pieces b (faultless limits source k t h).processes)

pub if_none : {A : Type 0} (P : Result A Fault → Type 0) → ((e : Fault) → P (Err e)) → (o : Option Fault) (f : ℕ → Result A Fault) → (o ≡ None → (n : ℕ) → P (f n)) → P (elim o [ None ↦ f 0 | Some a ↦ Err a ])
if_none P e None f h = h refl 0
if_none P e (Some a) f h = e a

pub scope_counts : (left : ℕ) (limits : Limits) (source : Source) → CountsTasks limits.processes (read_scope left limits source)
scope_counts zero limits source k t b = tt
scope_counts (suc left) limits source k t b =
    unless (CountsRead limits.processes t) (λ f. tt) (least (limit_faults limits k (counted k t))) _ λ n.
    let s = survey limits source k (counted k t) in
    if_none (CountsRead limits.processes t) (λ f. tt) (least s.faults) _ λ none i.
    let c = survey_counts limits source k (counted k t) (omega (arith, counted_processes k t, b)) (least_none s.faults none) in
    of s (omega (arith, counted_processes k t, sum_is s.pieces)) (read_pieces limits (read_scope left limits source) s.pieces s.totals) (pieces_count limits limits.processes (read_scope left limits source) (scope_counts left limits source) s.pieces s.totals c)
  where
    of : (s : Survey) → s.totals.processes ≡ t.processes + processes_of s.pieces → (q : Result ReadPieces Fault) → CountsPieces limits.processes s.totals (processes_of s.pieces) q → CountsRead limits.processes t (then_do q λ r. Ok (record { entries = s.entries; design = scope_design k s r.design; totals = r.totals }))
    of s e (Err f) g = tt
    of s e (Ok r) g = record { exact = omega (arith, g.exact, e, length-map r.design.initials (moved 0)); within = g.within }

abbrev pub FewDesign : Limits → Result Design Fault → Type 0
FewDesign limits (Ok d) = length d.processes + length d.initials ≤ limits.processes
FewDesign limits (Err e) = Unit {0}

pub elaborated_few : (limits : Limits) (source : Source) (top : List ℕ) → FewDesign limits (elaborated_within limits source top)
elaborated_few limits source top = unless (FewDesign limits) (λ e. tt) (least (repeated_modules [] source.modules)) (λ u. elaborated_top limits source (find_module source top)) (λ u. found (find_module source top))
  where
    read : (r : Result Read Fault) → CountsRead limits.processes no_totals r → FewDesign limits (then_do r λ s. Ok s.design)
    read (Err e) g = tt
    read (Ok s) g = omega (arith, g.exact, g.within)

    found : (m : Option Module) → FewDesign limits (elaborated_top limits source m)
    found None = tt
    found (Some m) = read (read_scope (scope_depth limits) limits source (top_task m) no_totals) (scope_counts (scope_depth limits) limits source (top_task m) no_totals (omega arith))
