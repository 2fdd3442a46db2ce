use Rattle.std.proofs.Common.{◌≡◌, ◌≢◌, ◌+◌, ◌∷◌, drop, ◌++◌, sym, ◌∙◌, ap, arith}
use Rattle.std.proofs.lemmas.Result.{err_from_is_err_and}
use Rattle.vs_stim.specs.Source.{line_refusal, open_at, rest_of}
use Rattle.vs_stim.proofs.Stepped.{same_open, byte_read}
use Rattle.vs_stim.proofs.source.Source.next_piece.Goals as goal

pub returns-in_err-read_lf-in-Some-eq10-clause-refused :
    goal.returns-in_err-read_lf-in-Some-eq10-clause-refused
returns-in_err-read_lf-in-Some-eq10-clause-refused g c =
    let p = err_from_is_err_and c.from_residual-in_err-read_lf-in-Some-eq10.result c.from_residual-in_err-read_lf-in-Some-eq10.ensures.1 in
    let peeked = c.in_ok-peek.ensures.block in
    let new = g.D.Desk.told c.peek.new.desk in
    let mid = c.peek.new.self in
    let first = rw c.in-Some-eq10.is at c.in_ok-peek.ensures.some in
    λ t. rw (p.1, p.2) (λ _.
    let lf : rest_of mid new ≡ 10 ∷ (drop 1 mid.block ++ new.contents.left mid.place) = ap (λ b. b ++ new.contents.left mid.place) (first ∙ ap (λ b. b ∷ drop 1 mid.block) c.in-Some-eq10.field-0-test) in
    ap line_refusal (same_open _ _ (sym (ap (λ x. x.number) peeked)) (sym (ap (λ x. x.start) peeked)) (sym (ap (λ x. x.length) peeked)) (sym (c.in_ok-peek.ensures.rest t) ∙ lf))
    ∙ c.in_err-read_lf-in-Some-eq10.ensures.refused (drop 1 mid.block ++ new.contents.left mid.place))

pub returns-in_ok-read_byte-in-Some-clause-comes : goal.returns-in_ok-read_byte-in-Some-clause-comes
returns-in_ok-read_byte-in-Some-clause-comes g c = λ t.
    let old = g.D.Desk.told c.args.desk.now in
    let new = g.D.Desk.told c.peek.new.desk in
    let mid = c.peek.new.self in
    let peeked = c.in_ok-peek.ensures.block in
    let read = c.in_ok-read_byte-in-Some.ensures.ok in
    let first = rw c.in-Some.is at c.in_ok-peek.ensures.some in
    let ne : c.in-Some.byte ≢ 10 = omega (arith, c.in-Some.byte-test) in
    let rest : rest_of c.args.self.now old ≡ c.in-Some.byte ∷ rest_of c.read_byte.new.self new =
    sym (c.in_ok-peek.ensures.rest t) ∙ ap (λ b. b ++ new.contents.left mid.place) first ∙ ap (λ s. c.in-Some.byte ∷ rest_of s new) (sym read) in
    byte_read (open_at c.args.self.now old) (open_at c.read_byte.new.self new) c.in-Some.byte ne rest
    (ap (λ s. s.number) read ∙ ap (λ s. s.number) peeked)
    (ap (λ s. s.start) read ∙ ap (λ s. s.start) peeked)
    (ap (λ s. s.length) read ∙ ap (λ s. s.length + 1) peeked)
