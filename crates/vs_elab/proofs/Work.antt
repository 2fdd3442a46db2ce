-- How many pieces are still to be read: it falls with each step.
use Rattle.std.proofs.Common.{◌≡◌, ℕ, suc, ◌+◌, ◌<◌, List, [], ◌∷◌, ◌++◌, map, None, refl, sym, ap, ◌∙◌, subst, arith}
use Rattle.std.specs.Prelude.{Result, Ok, Err}
use Rattle.vs_grammar.specs.Trees.{Source}
use Rattle.vs_const.specs.declared.faults.Fault.{Fault}
use Rattle.vs_const.specs.Faults.{least}
use Rattle.vs_elaborated.specs.Limits.{Limits}
use Rattle.vs_elaborated.specs.Pieces.{Task, Connection, ScopedBlock, Piece, Own, OfScopes, Initially, Instance, Within}
use Rattle.vs_elaborated.specs.Surveys.{Totals, Survey, scoped_signals, scoped_statement, survey}
use Rattle.vs_elaborated.specs.Elaborated.{both_designs, then_do, Read, ReadPieces, scoped_totals, scoped_faults, read_piece, read_pieces, counted, limit_faults, scope_design, read_scope}
use Rattle.vs_elab.specs.Stacks.{Pending, pending, after, piece_work, pieces_work, scope_work, work}
use Rattle.vs_elab.proofs.Stacks.{IsOwnPiece, scoped_read, within_read, instance_read, fair}

work_append : (limits : Limits) (source : Source) (left : ℕ) (qs : List Piece) (ps : List Pending) (t : Totals)
    → work limits source (map (pending left) qs ++ ps) t
    ≡ pieces_work limits (read_scope left limits source) (scope_work left limits source) qs t + after (read_pieces limits (read_scope left limits source) qs t) (λ u. work limits source ps u)
work_append limits source left [] ps t = omega arith
work_append limits source left (q ∷ qs) ps t =
    let own = piece_work (scope_work left limits source) q t in
    ap (λ n. suc (own + n)) (of (read_piece limits (read_scope left limits source) q t) (λ u. work_append limits source left qs ps u)) ∙ omega arith
  where
    of : (r : Result ReadPieces Fault)
        → ((u : Totals) → work limits source (map (pending left) qs ++ ps) u ≡ pieces_work limits (read_scope left limits source) (scope_work left limits source) qs u + after (read_pieces limits (read_scope left limits source) qs u) (λ v. work limits source ps v))
        → after r (λ u. work limits source (map (pending left) qs ++ ps) u)
        ≡ after r (λ u. pieces_work limits (read_scope left limits source) (scope_work left limits source) qs u)
        + after (then_do r λ a. then_do (read_pieces limits (read_scope left limits source) qs a.totals) λ b. Ok (record { design = both_designs a.design b.design; totals = b.totals })) (λ v. work limits source ps v)
    of (Err e) h = omega arith
    of (Ok a) h = h a.totals ∙ ap (λ n. pieces_work limits (read_scope left limits source) (scope_work left limits source) qs a.totals + n) (last (read_pieces limits (read_scope left limits source) qs a.totals))
      where
        last : (r : Result ReadPieces Fault) → after r (λ v. work limits source ps v) ≡ after (then_do r λ b. Ok (record { design = both_designs a.design b.design; totals = b.totals })) (λ v. work limits source ps v)
        last (Err e) = refl
        last (Ok b) = refl

-- a process or an initial process less
pub own_less : (limits : Limits) (source : Source) (left : ℕ) (p : Piece) (ps : List Pending) (t : Totals) → IsOwnPiece p → work limits source ps t < work limits source (pending left p ∷ ps) t
own_less limits source left (Own p) ps t h = omega arith
own_less limits source left (OfScopes b) ps t h = absurd h
own_less limits source left (Initially place statement) ps t h = omega arith
own_less limits source left (Instance cs k) ps t h = absurd h
own_less limits source left (Within k) ps t h = absurd h

-- an always block with scopes less
pub scoped_less : (limits : Limits) (source : Source) (left : ℕ) (b : ScopedBlock) (ps : List Pending) (t : Totals) → least (scoped_faults limits b t) ≡ None
    → work limits source ps (scoped_totals b t (scoped_signals b t) (scoped_statement limits b t)) < work limits source (pending left (OfScopes b) ∷ ps) t
scoped_less limits source left b ps t h = subst (λ (r : Result ReadPieces Fault). rest < suc (0 + after r (λ u. work limits source ps u))) (sym (scoped_read limits b t h)) (omega arith)
  where
    rest : ℕ
    rest = work limits source ps (scoped_totals b t (scoped_signals b t) (scoped_statement limits b t))

abbrev scope_then : Task → Survey → Result ReadPieces Fault → Result Read Fault
scope_then k s q = then_do q λ r. Ok (record { entries = s.entries; design = scope_design k s r.design; totals = r.totals })

-- a scope's pieces instead of the scope
pub within_less : (limits : Limits) (source : Source) (left : ℕ) (k : Task) (ps : List Pending) (t : Totals)
    → least (limit_faults limits k (counted k t)) ≡ None → least (survey limits source k (counted k t)).faults ≡ None
    → work limits source (map (pending left) (survey limits source k (counted k t)).pieces ++ ps) (survey limits source k (counted k t)).totals < work limits source (pending (suc left) (Within k) ∷ ps) t
within_less limits source left k ps t h f = less (fair left limits source k t h f)
  where
    s : Survey
    s = survey limits source k (counted k t)

    f_of : Totals → ℕ
    f_of u = work limits source ps u

    same : (q : Result ReadPieces Fault) → after (within_read (scope_then k s q)) f_of ≡ after q f_of
    same (Err e) = refl
    same (Ok a) = refl

    less : read_scope (suc left) limits source k t ≡ scope_then k s (read_pieces limits (read_scope left limits source) s.pieces s.totals)
        → work limits source (map (pending left) s.pieces ++ ps) s.totals < work limits source (pending (suc left) (Within k) ∷ ps) t
    less e =
        let q = read_pieces limits (read_scope left limits source) s.pieces s.totals in
        let a : after (within_read (read_scope (suc left) limits source k t)) f_of ≡ after q f_of = ap (λ (r : Result Read Fault). after (within_read r) f_of) e ∙ same q in
        omega (arith, a, work_append limits source left s.pieces ps s.totals)

pub instance_less : (limits : Limits) (source : Source) (left : ℕ) (cs : List Connection) (k : Task) (ps : List Pending) (t : Totals)
    → least (limit_faults limits k (counted k t)) ≡ None → least (survey limits source k (counted k t)).faults ≡ None
    → work limits source (map (pending left) (survey limits source k (counted k t)).pieces ++ ps) (survey limits source k (counted k t)).totals < work limits source (pending (suc left) (Instance cs k) ∷ ps) t
instance_less limits source left cs k ps t h f = less (fair left limits source k t h f)
  where
    s : Survey
    s = survey limits source k (counted k t)

    f_of : Totals → ℕ
    f_of u = work limits source ps u

    same : (q : Result ReadPieces Fault) → after (instance_read k cs (scope_then k s q)) f_of ≡ after q f_of
    same (Err e) = refl
    same (Ok a) = refl

    less : read_scope (suc left) limits source k t ≡ scope_then k s (read_pieces limits (read_scope left limits source) s.pieces s.totals)
        → work limits source (map (pending left) s.pieces ++ ps) s.totals < work limits source (pending (suc left) (Instance cs k) ∷ ps) t
    less e =
        let q = read_pieces limits (read_scope left limits source) s.pieces s.totals in
        let a : after (instance_read k cs (read_scope (suc left) limits source k t)) f_of ≡ after q f_of = ap (λ (r : Result Read Fault). after (instance_read k cs r) f_of) e ∙ same q in
        omega (arith, a, work_append limits source left s.pieces ps s.totals)
