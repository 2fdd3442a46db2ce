use Rattle.std.proofs.Common.{◌≡◌, [], ◌∷◌, drop, ◌++◌, sym, ◌∙◌, ap, refl, arith}
use Rattle.std.proofs.lemmas.Result.{err_from_is_err_and}
use Rattle.vs_stim.specs.Source.{line_refusal, open_before, open_at, rest_of}
use Rattle.vs_stim.proofs.Stepped.{same_open, refusal-cr, byte_read}
use Rattle.vs_stim.proofs.source.Source.read_cr.Goals as goal

pub returns-in_err-read_byte-clause-refused : goal.returns-in_err-read_byte-clause-refused
returns-in_err-read_byte-clause-refused g c =
    let p = err_from_is_err_and c.from_residual.result c.from_residual.ensures.1 in
    let s = c.args.self.now in
    let left = (g.D.Desk.told c.args.desk.now).contents.left s.place in
    let begins : rest_of s (g.D.Desk.told c.args.desk.now) ≡ 13 ∷ (drop 1 s.block ++ left) = ap (λ b. b ++ left) c.requires.cr in
    λ _. rw (p.1, p.2) (λ _. ap (λ r. line_refusal (open_before s r)) begins ∙ c.in_err-read_byte.ensures.refused 13 (drop 1 s.block ++ left) (omega arith))

pub returns-in_err-read_lf-in-Some-eq10-clause-refused :
    goal.returns-in_err-read_lf-in-Some-eq10-clause-refused
returns-in_err-read_lf-in-Some-eq10-clause-refused g c =
    let p = err_from_is_err_and c.from_residual-in_err-read_lf-in-Some-eq10.result c.from_residual-in_err-read_lf-in-Some-eq10.ensures.1 in
    let s = c.args.self.now in
    let read = c.in_ok-read_byte.ensures.ok in
    let peeked = c.in_ok-peek.ensures.block in
    let old = g.D.Desk.told c.args.desk.now in
    let new = g.D.Desk.told c.peek.new.desk in
    let mid = c.peek.new.self in
    let left = old.contents.left s.place in
    let begins : rest_of s old ≡ 13 ∷ (drop 1 s.block ++ left) = ap (λ b. b ++ left) c.requires.cr in
    let first = rw c.in-Some-eq10.is at c.in_ok-peek.ensures.some in
    λ t. rw (p.1, p.2) (λ _.
    let same : rest_of mid new ≡ drop 1 s.block ++ left = c.in_ok-peek.ensures.rest t ∙ ap (λ r. rest_of r old) read in
    let lf : rest_of mid new ≡ 10 ∷ (drop 1 mid.block ++ new.contents.left mid.place) = ap (λ b. b ++ new.contents.left mid.place) (first ∙ ap (λ b. b ∷ drop 1 mid.block) c.in-Some-eq10.field-0-test) in
    ap (λ r. line_refusal (open_before s r)) begins
    ∙ refusal-cr _ s.length (drop 1 s.block ++ left)
    ∙ ap line_refusal (same_open _ _ (sym (ap (λ x. x.number) peeked ∙ ap (λ x. x.number) read)) (sym (ap (λ x. x.start) peeked ∙ ap (λ x. x.start) read)) (sym (ap (λ x. x.length) peeked ∙ ap (λ x. x.length) read)) (sym same ∙ lf))
    ∙ c.in_err-read_lf-in-Some-eq10.ensures.refused (drop 1 mid.block ++ new.contents.left mid.place))

pub returns-in_err-peek-clause-went : goal.returns-in_err-peek-clause-went
returns-in_err-peek-clause-went g c = λ t _.
    let s = c.args.self.now in
    let read = c.in_ok-read_byte.ensures.ok in
    let peeked = c.in_err-peek.ensures.block in
    let old = g.D.Desk.told c.args.desk.now in
    let new = g.D.Desk.told c.peek.new.desk in
    let mid = c.peek.new.self in
    let left = old.contents.left s.place in
    let same : rest_of mid new ≡ drop 1 s.block ++ left = c.in_err-peek.ensures.rest t ∙ ap (λ r. rest_of r old) read in
    byte_read (open_at s old) (open_at mid new) 13 (omega arith) (ap (λ b. b ++ left) c.requires.cr ∙ ap (λ r. 13 ∷ r) (sym same))
    (ap (λ x. x.number) peeked ∙ ap (λ x. x.number) read)
    (ap (λ x. x.start) peeked ∙ ap (λ x. x.start) read)
    (ap (λ x. x.length) peeked ∙ ap (λ x. x.length) read)

pub returns-in_default-clause-comes : goal.returns-in_default-clause-comes
returns-in_default-clause-comes g c = λ t.
    let s = c.args.self.now in
    let read = c.in_ok-read_byte.ensures.ok in
    let peeked = c.in_ok-peek.ensures.block in
    let old = g.D.Desk.told c.args.desk.now in
    let new = g.D.Desk.told c.peek.new.desk in
    let mid = c.peek.new.self in
    let left = old.contents.left s.place in
    let same : rest_of mid new ≡ drop 1 s.block ++ left = c.in_ok-peek.ensures.rest t ∙ ap (λ r. rest_of r old) read in
    byte_read (open_at s old) (open_at mid new) 13 (omega arith) (ap (λ b. b ++ left) c.requires.cr ∙ ap (λ r. 13 ∷ r) (sym same))
    (ap (λ x. x.number) peeked ∙ ap (λ x. x.number) read)
    (ap (λ x. x.start) peeked ∙ ap (λ x. x.start) read)
    (ap (λ x. x.length) peeked ∙ ap (λ x. x.length) read)

pub returns-in_ok-read_lf-in-Some-eq10-clause-comes :
    goal.returns-in_ok-read_lf-in-Some-eq10-clause-comes
returns-in_ok-read_lf-in-Some-eq10-clause-comes g c = λ t.
    let s = c.args.self.now in
    let read = c.in_ok-read_byte.ensures.ok in
    let old = g.D.Desk.told c.args.desk.now in
    let new = g.D.Desk.told c.peek.new.desk in
    let mid = c.peek.new.self in
    let left = old.contents.left s.place in
    let first = rw c.in-Some-eq10.is at c.in_ok-peek.ensures.some in
    let same : rest_of mid new ≡ drop 1 s.block ++ left = c.in_ok-peek.ensures.rest t ∙ ap (λ r. rest_of r old) read in
    let lf : rest_of mid new ≡ 10 ∷ (drop 1 mid.block ++ new.contents.left mid.place) = ap (λ b. b ++ new.contents.left mid.place) (first ∙ ap (λ b. b ∷ drop 1 mid.block) c.in-Some-eq10.field-0-test) in
    record {
      bytes = 13 ∷ [];
      inner = refl;
      rest = ap (λ b. b ++ left) c.requires.cr ∙ ap (λ r. 13 ∷ r) (sym same ∙ lf) ∙ ap (λ r. 13 ∷ 10 ∷ rest_of r new) (sym c.in_ok-read_lf-in-Some-eq10.ensures.ok);
    }
