-- Reading what is pending, one step after the other, is reading scopes within one another.
use Rattle.std.proofs.Common.{◌≡◌, ℕ, suc, ◌+◌, List, [], ◌∷◌, ◌++◌, map, length, length-append, Option, Some, None, refl, sym, ap, ◌∙◌, append_assoc, arith}
use Rattle.std.specs.Prelude.{Result, Ok, Err}
use Rattle.std.proofs.lemmas.List.{append-nil, map-append}
use Rattle.vs_design.specs.Expressions.{Signal}
use Rattle.vs_design.specs.Statements.{Function}
use Rattle.vs_design.specs.Designs.{Scope, Process, Initial, Design}
use Rattle.vs_grammar.specs.Trees.{Source}
use Rattle.vs_const.specs.declared.faults.Fault.{Fault}
use Rattle.vs_const.specs.Faults.{least}
use Rattle.vs_elaborated.specs.Limits.{Limits}
use Rattle.vs_elaborated.specs.Pieces.{Task, Connection, ScopedBlock, Piece, Own, OfScopes, Initially, Instance, Within}
use Rattle.vs_elaborated.specs.Surveys.{Totals, Survey, scoped_signals, scoped_statement, survey}
use Rattle.vs_elaborated.specs.Elaborated.{moved, both_designs, of_processes, of_initial, then_do, unless_fault, port_assign, Read, ReadPieces, scoped_design, scoped_totals, scoped_faults, read_scoped, read_piece, read_pieces, counted, limit_faults, scope_design, read_scope}
use Rattle.vs_elab.specs.Stacks.{Pending, pending, rest_of, built_then, scope_part, ports_part}

-- ---- designs one after the other

abbrev of_parts : List Scope → List Signal → List Process → List Initial → List Function → Design
of_parts a b c i d = record { scopes = a; signals = b; processes = c; initials = i; functions = d }

-- an initial process behind so many
abbrev placed : Initial → ℕ → Initial
placed i behind = record i { behind = behind }

moved_again : (n m k : ℕ) (i : Initial) → k ≡ n + m → moved k i ≡ moved n (moved m i)
moved_again n m k i e = let same : k + i.behind ≡ n + (m + i.behind) = omega (arith, e) in ap (placed i) same

moved_twice : (n m k : ℕ) (is : List Initial) → k ≡ n + m → map (moved k) is ≡ map (moved n) (map (moved m) is)
moved_twice n m k [] e = refl
moved_twice n m k (i ∷ is) e = ap (λ (j : Initial). j ∷ map (moved k) is) (moved_again n m k i e) ∙ ap (λ (js : List Initial). moved n (moved m i) ∷ js) (moved_twice n m k is e)

not_moved : (i : Initial) → moved 0 i ≡ i
not_moved i = let same : 0 + i.behind ≡ i.behind = omega arith in ap (placed i) same

unmoved : (is : List Initial) → map (moved 0) is ≡ is
unmoved [] = refl
unmoved (i ∷ is) = ap (λ (j : Initial). j ∷ map (moved 0) is) (not_moved i) ∙ ap (λ (js : List Initial). i ∷ js) (unmoved is)

initials_grouped : (a b c : Design)
    → (a.initials ++ map (moved (length a.processes)) b.initials) ++ map (moved (length (a.processes ++ b.processes))) c.initials ≡ a.initials ++ map (moved (length a.processes)) (b.initials ++ map (moved (length b.processes)) c.initials)
initials_grouped a b c =
    append_assoc a.initials (map (moved (length a.processes)) b.initials) (map (moved (length (a.processes ++ b.processes))) c.initials)
    ∙ ap (λ (is : List Initial). a.initials ++ (map (moved (length a.processes)) b.initials ++ is)) (moved_twice (length a.processes) (length b.processes) (length (a.processes ++ b.processes)) c.initials (length-append a.processes b.processes))
    ∙ ap (λ (is : List Initial). a.initials ++ is) (sym (map-append (moved (length a.processes)) b.initials (map (moved (length b.processes)) c.initials)))

pub both_grouped : (a b c : Design) → both_designs (both_designs a b) c ≡ both_designs a (both_designs b c)
both_grouped a b c =
    let then_initials = a.initials ++ map (moved (length a.processes)) (b.initials ++ map (moved (length b.processes)) c.initials) in
    ap (of_parts ((a.scopes ++ b.scopes) ++ c.scopes) ((a.signals ++ b.signals) ++ c.signals) ((a.processes ++ b.processes) ++ c.processes) ((a.initials ++ map (moved (length a.processes)) b.initials) ++ map (moved (length (a.processes ++ b.processes))) c.initials)) (append_assoc a.functions b.functions c.functions)
    ∙ ap (λ x. of_parts ((a.scopes ++ b.scopes) ++ c.scopes) ((a.signals ++ b.signals) ++ c.signals) ((a.processes ++ b.processes) ++ c.processes) x (a.functions ++ (b.functions ++ c.functions))) (initials_grouped a b c)
    ∙ ap (λ x. of_parts x ((a.signals ++ b.signals) ++ c.signals) ((a.processes ++ b.processes) ++ c.processes) then_initials (a.functions ++ (b.functions ++ c.functions))) (append_assoc a.scopes b.scopes c.scopes)
    ∙ ap (λ x. of_parts (a.scopes ++ (b.scopes ++ c.scopes)) x ((a.processes ++ b.processes) ++ c.processes) then_initials (a.functions ++ (b.functions ++ c.functions))) (append_assoc a.signals b.signals c.signals)
    ∙ ap (λ x. of_parts (a.scopes ++ (b.scopes ++ c.scopes)) (a.signals ++ (b.signals ++ c.signals)) x then_initials (a.functions ++ (b.functions ++ c.functions))) (append_assoc a.processes b.processes c.processes)

pub both_nothing : (a : Design) → both_designs a (of_processes []) ≡ a
both_nothing a =
    ap (λ x. of_parts x (a.signals ++ []) (a.processes ++ []) (a.initials ++ []) (a.functions ++ [])) (append-nil a.scopes)
    ∙ ap (λ x. of_parts a.scopes x (a.processes ++ []) (a.initials ++ []) (a.functions ++ [])) (append-nil a.signals)
    ∙ ap (λ x. of_parts a.scopes a.signals x (a.initials ++ []) (a.functions ++ [])) (append-nil a.processes)
    ∙ ap (λ x. of_parts a.scopes a.signals a.processes x (a.functions ++ [])) (append-nil a.initials)
    ∙ ap (of_parts a.scopes a.signals a.processes a.initials) (append-nil a.functions)

-- what is built, one part more, and then the rest
pub built_more : (a b : Design) (r : Result Design Fault) → built_then a (built_then b r) ≡ built_then (both_designs a b) r
built_more a b (Err e) = refl
built_more a b (Ok d) = ap Ok (sym (both_grouped a b d))

pub built_nothing : (r : Result Design Fault) → built_then (of_processes []) r ≡ r
built_nothing (Err e) = refl
built_nothing (Ok d) = ap (λ (is : List Initial). Ok (of_parts d.scopes d.signals d.processes is d.functions)) (unmoved d.initials)

-- at the end
pub built_all : (limits : Limits) (source : Source) (built : Design) (t : Totals) → built_then built (rest_of limits source [] t) ≡ Ok built
built_all limits source built t = ap Ok (both_nothing built)

-- ---- pieces, and then what was pending

abbrev pub and_rest : Limits → Source → List Pending → Result ReadPieces Fault → Result Design Fault
and_rest limits source ps r = then_do r λ a. built_then a.design (rest_of limits source ps a.totals)

pub rest_append : (limits : Limits) (source : Source) (left : ℕ) (qs : List Piece) (ps : List Pending) (t : Totals)
    → rest_of limits source (map (pending left) qs ++ ps) t ≡ and_rest limits source ps (read_pieces limits (read_scope left limits source) qs t)
rest_append limits source left [] ps t = sym (built_nothing (rest_of limits source ps t))
rest_append limits source left (q ∷ qs) ps t = of (read_piece limits (read_scope left limits source) q t) (λ u. rest_append limits source left qs ps u)
  where
    of : (r : Result ReadPieces Fault) → ((u : Totals) → rest_of limits source (map (pending left) qs ++ ps) u ≡ and_rest limits source ps (read_pieces limits (read_scope left limits source) qs u))
        → (then_do r λ a. built_then a.design (rest_of limits source (map (pending left) qs ++ ps) a.totals))
        ≡ and_rest limits source ps (then_do r λ a. then_do (read_pieces limits (read_scope left limits source) qs a.totals) λ b. Ok (record { design = both_designs a.design b.design; totals = b.totals }))
    of (Err e) h = refl
    of (Ok a) h = ap (built_then a.design) (h a.totals) ∙ last (read_pieces limits (read_scope left limits source) qs a.totals)
      where
        last : (r : Result ReadPieces Fault) → built_then a.design (and_rest limits source ps r) ≡ and_rest limits source ps (then_do r λ b. Ok (record { design = both_designs a.design b.design; totals = b.totals }))
        last (Err e) = refl
        last (Ok b) = built_more a.design b.design (rest_of limits source ps b.totals)

-- ---- a scope

unless_none : {A : Type 0} (fs : List Fault) (f : ℕ → Result A Fault) → least fs ≡ None → unless_fault fs f ≡ f 0
unless_none {A} fs f h = ap (λ (o : Option Fault). let r : Result A Fault = elim o [ None ↦ f 0 | Some a ↦ Err a ] in r) h

unless_some : {A : Type 0} (fs : List Fault) (f : ℕ → Result A Fault) (e : Fault) → least fs ≡ Some e → unless_fault fs f ≡ Err e
unless_some {A} fs f e h = ap (λ (o : Option Fault). let r : Result A Fault = elim o [ None ↦ f 0 | Some a ↦ Err a ] in r) h

module _ (left : ℕ) (limits : Limits) (source : Source) (k : Task) (t : Totals) where
  abbrev own : Survey
  own = survey limits source k (counted k t)

  abbrev read_of : Result ReadPieces Fault → Result Read Fault
  read_of q = then_do q λ r. Ok (record { entries = own.entries; design = scope_design k own r.design; totals = r.totals })

  abbrev inside : ℕ → Result Read Fault
  inside u = unless_fault own.faults λ v. read_of (read_pieces limits (read_scope left limits source) own.pieces own.totals)

  -- a scope past the limits
  pub limited : (e : Fault) → least (limit_faults limits k (counted k t)) ≡ Some e → read_scope (suc left) limits source k t ≡ Err e
  limited e h = unless_some (limit_faults limits k (counted k t)) inside e h

  -- a scope with a fault
  pub faulty : (e : Fault) → least (limit_faults limits k (counted k t)) ≡ None → least (survey limits source k (counted k t)).faults ≡ Some e → read_scope (suc left) limits source k t ≡ Err e
  faulty e h f = unless_none (limit_faults limits k (counted k t)) inside h ∙ unless_some own.faults (λ v. read_of (read_pieces limits (read_scope left limits source) own.pieces own.totals)) e f

  -- a scope without one
  pub fair : least (limit_faults limits k (counted k t)) ≡ None → least (survey limits source k (counted k t)).faults ≡ None
      → read_scope (suc left) limits source k t
      ≡ then_do (read_pieces limits (read_scope left limits source) (survey limits source k (counted k t)).pieces (survey limits source k (counted k t)).totals)
      λ r. Ok (record { entries = (survey limits source k (counted k t)).entries; design = scope_design k (survey limits source k (counted k t)) r.design; totals = r.totals })
  fair h f = unless_none (limit_faults limits k (counted k t)) inside h ∙ unless_none own.faults (λ v. read_of (read_pieces limits (read_scope left limits source) own.pieces own.totals)) f

-- ---- steps

-- a process or an initial process of a scope's own
abbrev pub IsOwnPiece : Piece → Type 0
IsOwnPiece (Own p) = Unit {0}
IsOwnPiece (OfScopes b) = ⊥
IsOwnPiece (Initially place statement) = Unit {0}
IsOwnPiece (Instance cs k) = ⊥
IsOwnPiece (Within k) = ⊥

-- alone
abbrev pub own_design : Piece → Design
own_design (Own p) = of_processes (p ∷ [])
own_design (OfScopes b) = of_processes []
own_design (Initially place statement) = of_initial place statement
own_design (Instance cs k) = of_processes []
own_design (Within k) = of_processes []

pub own_step : (limits : Limits) (source : Source) (built : Design) (left : ℕ) (p : Piece) (ps : List Pending) (t : Totals) → IsOwnPiece p
    → built_then built (rest_of limits source (pending left p ∷ ps) t) ≡ built_then (both_designs built (own_design p)) (rest_of limits source ps t)
own_step limits source built left (Own p) ps t h = built_more built (of_processes (p ∷ [])) (rest_of limits source ps t)
own_step limits source built left (OfScopes b) ps t h = absurd h
own_step limits source built left (Initially place statement) ps t h = built_more built (of_initial place statement) (rest_of limits source ps t)
own_step limits source built left (Instance cs k) ps t h = absurd h
own_step limits source built left (Within k) ps t h = absurd h

-- an always block with scopes, which has a fault or none
abbrev pub scoped_then : Limits → ScopedBlock → Totals → ReadPieces
scoped_then limits b t = record { design = scoped_design b t (scoped_signals b t) (scoped_statement limits b t); totals = scoped_totals b t (scoped_signals b t) (scoped_statement limits b t) }

pub scoped_read : (limits : Limits) (b : ScopedBlock) (t : Totals) → least (scoped_faults limits b t) ≡ None → read_scoped limits b t ≡ Ok (scoped_then limits b t)
scoped_read limits b t h = unless_none (scoped_faults limits b t) (λ u. Ok (scoped_then limits b t)) h

pub scoped_step : (limits : Limits) (source : Source) (built : Design) (left : ℕ) (b : ScopedBlock) (ps : List Pending) (t : Totals) → least (scoped_faults limits b t) ≡ None
    → built_then built (rest_of limits source (pending left (OfScopes b) ∷ ps) t)
    ≡ built_then (both_designs built (scoped_design b t (scoped_signals b t) (scoped_statement limits b t))) (rest_of limits source ps (scoped_totals b t (scoped_signals b t) (scoped_statement limits b t)))
scoped_step limits source built left b ps t h =
    ap (λ (q : Result ReadPieces Fault). built_then built (and_rest limits source ps q)) (scoped_read limits b t h)
    ∙ built_more built (scoped_then limits b t).design (rest_of limits source ps (scoped_then limits b t).totals)

pub scoped_fails : (limits : Limits) (source : Source) (built : Design) (left : ℕ) (b : ScopedBlock) (ps : List Pending) (t : Totals) (e : Fault) → least (scoped_faults limits b t) ≡ Some e
    → built_then built (rest_of limits source (pending left (OfScopes b) ∷ ps) t) ≡ Err e
scoped_fails limits source built left b ps t e h = ap (λ (q : Result ReadPieces Fault). built_then built (and_rest limits source ps q)) (unless_some (scoped_faults limits b t) (λ u. Ok (scoped_then limits b t)) e h)

-- the piece of a scope
abbrev pub within_read : Result Read Fault → Result ReadPieces Fault
within_read q = then_do q λ r. Ok (record { design = r.design; totals = r.totals })

abbrev pub instance_read : Task → List Connection → Result Read Fault → Result ReadPieces Fault
instance_read k cs q = then_do q λ r. Ok (record { design = both_designs (of_processes (map (port_assign k.place r.entries) cs)) r.design; totals = r.totals })

-- a piece with a fault
pub within_fails : (limits : Limits) (source : Source) (built : Design) (left : ℕ) (k : Task) (ps : List Pending) (t : Totals) (e : Fault)
    → read_scope left limits source k t ≡ Err e → built_then built (rest_of limits source (pending left (Within k) ∷ ps) t) ≡ Err e
within_fails limits source built left k ps t e h = ap (λ (q : Result Read Fault). built_then built (and_rest limits source ps (within_read q))) h

pub instance_fails : (limits : Limits) (source : Source) (built : Design) (left : ℕ) (cs : List Connection) (k : Task) (ps : List Pending) (t : Totals) (e : Fault)
    → read_scope left limits source k t ≡ Err e → built_then built (rest_of limits source (pending left (Instance cs k) ∷ ps) t) ≡ Err e
instance_fails limits source built left cs k ps t e h = ap (λ (q : Result Read Fault). built_then built (and_rest limits source ps (instance_read k cs q))) h

abbrev scope_then : Task → Survey → Result ReadPieces Fault → Result Read Fault
scope_then k s q = then_do q λ r. Ok (record { entries = s.entries; design = scope_design k s r.design; totals = r.totals })

scope_opens : (limits : Limits) (source : Source) (built : Design) (k : Task) (s : Survey) (ps : List Pending) (q : Result ReadPieces Fault)
    → built_then built (and_rest limits source ps (within_read (scope_then k s q))) ≡ built_then (both_designs built (scope_part k s)) (and_rest limits source ps q)
scope_opens limits source built k s ps (Err e) = refl
scope_opens limits source built k s ps (Ok a) =
    ap (built_then built) (sym (built_more (scope_part k s) a.design (rest_of limits source ps a.totals)))
    ∙ built_more built (scope_part k s) (built_then a.design (rest_of limits source ps a.totals))

instance_opens : (limits : Limits) (source : Source) (built : Design) (k : Task) (s : Survey) (cs : List Connection) (ps : List Pending) (q : Result ReadPieces Fault)
    → built_then built (and_rest limits source ps (instance_read k cs (scope_then k s q))) ≡ built_then (both_designs (both_designs built (ports_part k s cs)) (scope_part k s)) (and_rest limits source ps q)
instance_opens limits source built k s cs ps (Err e) = refl
instance_opens limits source built k s cs ps (Ok a) =
    ap (built_then built) (sym (built_more (ports_part k s cs) (scope_design k s a.design) (rest_of limits source ps a.totals)))
    ∙ built_more built (ports_part k s cs) (built_then (scope_design k s a.design) (rest_of limits source ps a.totals))
    ∙ ap (built_then (both_designs built (ports_part k s cs))) (sym (built_more (scope_part k s) a.design (rest_of limits source ps a.totals)))
    ∙ built_more (both_designs built (ports_part k s cs)) (scope_part k s) (built_then a.design (rest_of limits source ps a.totals))

-- a generate block
pub within_step : (limits : Limits) (source : Source) (built : Design) (left : ℕ) (k : Task) (ps : List Pending) (t : Totals)
    → least (limit_faults limits k (counted k t)) ≡ None → least (survey limits source k (counted k t)).faults ≡ None
    → built_then built (rest_of limits source (pending (suc left) (Within k) ∷ ps) t)
    ≡ built_then (both_designs built (scope_part k (survey limits source k (counted k t)))) (rest_of limits source (map (pending left) (survey limits source k (counted k t)).pieces ++ ps) (survey limits source k (counted k t)).totals)
within_step limits source built left k ps t h f =
    ap (λ (q : Result Read Fault). built_then built (and_rest limits source ps (within_read q))) (fair left limits source k t h f)
    ∙ scope_opens limits source built k (own left limits source k t) ps (read_pieces limits (read_scope left limits source) (own left limits source k t).pieces (own left limits source k t).totals)
    ∙ ap (built_then (both_designs built (scope_part k (own left limits source k t)))) (sym (rest_append limits source left (own left limits source k t).pieces ps (own left limits source k t).totals))

-- an instance
pub instance_step : (limits : Limits) (source : Source) (built : Design) (left : ℕ) (cs : List Connection) (k : Task) (ps : List Pending) (t : Totals)
    → least (limit_faults limits k (counted k t)) ≡ None → least (survey limits source k (counted k t)).faults ≡ None
    → built_then built (rest_of limits source (pending (suc left) (Instance cs k) ∷ ps) t)
    ≡ built_then (both_designs (both_designs built (ports_part k (survey limits source k (counted k t)) cs)) (scope_part k (survey limits source k (counted k t))))
    (rest_of limits source (map (pending left) (survey limits source k (counted k t)).pieces ++ ps) (survey limits source k (counted k t)).totals)
instance_step limits source built left cs k ps t h f =
    ap (λ (q : Result Read Fault). built_then built (and_rest limits source ps (instance_read k cs q))) (fair left limits source k t h f)
    ∙ instance_opens limits source built k (own left limits source k t) cs ps (read_pieces limits (read_scope left limits source) (own left limits source k t).pieces (own left limits source k t).totals)
    ∙ ap (built_then (both_designs (both_designs built (ports_part k (own left limits source k t) cs)) (scope_part k (own left limits source k t)))) (sym (rest_append limits source left (own left limits source k t).pieces ps (own left limits source k t).totals))
