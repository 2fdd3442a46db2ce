use Rattle.std.proofs.Common.{rules, ◌≡◌, ◌+◌, ◌++◌, Bool, IsTrue, refl, sym, ◌∙◌, ap, subst, arith}
use Rattle.vs_stim.specs.Header.{ColumnLists}
use Rattle.vs_stim.specs.Row.{columns_in, entry_in}
use Rattle.vs_stim.proofs.Stepped.{same_columns}
use Rattle.vs_stim.specs.Fields.{fields}
use Rattle.vs_stim.specs.Vectors.{entry}
use Rattle.vs_stim.specs.Reading.{limits, not_taken, with_vector}
use Rattle.vs_stim.specs.Source.{open_at, rest_of, in_block, is_told, says, vectors_from, Passes, PassesVector}
use Rattle.vs_stim.proofs.Passed.{vector_passed}
use Rattle.vs_stim.proofs.Turns.{skipped_is, vectors_skipped, vectors_found, tells_line, tells_on}
use Rattle.vs_stim.proofs.Untold.{none_passed, passed_more, untold_here}
use Rattle.vs_stim.proofs.vectors.find_vector.Goals as goal

pub lines-preserved : goal.lines-preserved
lines-preserved g c =
    let h = c.in_ok-kind.ensures in
    let inv = c.lines.invariant in
    let before = c.lines.source in
    let now = c.read_row.new.source in
    let columns = columns_in c.lines.row in
    record {
      source = search rules;
      begins = search rules;
      row = search rules;
      each = search rules;
      form = search rules;
      place = search rules;
      register = search rules;
      others = search rules;
      frugal = λ x. h.frugal (tells_line (in_block before) inv.begins (inv.told x)) ∙ inv.frugal x;
      told = λ x.
          let y : IsTrue (is_told (in_block before)) = tells_line (in_block before) inv.begins (inv.told x) in
          let P : Bool → Type 0 = λ b. Passes b (in_block before) (in_block now) in
          tells_on columns (in_block before) (in_block now) inv.begins (subst P c.if-last.false (h.told y)) (rw c.in-Skipped.is at (h.told_says y)) (inv.told x);
      passed = λ t.
          let o = open_at before (g.D.Desk.told c.lines.desk) in
          let p = open_at now (g.D.Desk.told c.read_row.new.desk) in
          let P : Bool → Type 0 = λ b. Passes b o p in
          passed_more _ o p (inv.passed t) inv.begins (h.ends t c.if-last.false) (subst P c.if-last.false (h.passes t))
          (skipped_is (says o) (entry columns (fields (says o))) (rw c.in-Skipped.is at (h.says t)));
      reading = λ t.
          let o = open_at before (g.D.Desk.told c.lines.desk) in
          let p = open_at now (g.D.Desk.told c.read_row.new.desk) in
          let P : Bool → Type 0 = λ b. Passes b o p in
          inv.reading t
          ∙ vectors_skipped columns o p c.args.count inv.begins (subst P c.if-last.false (h.passes t)) (sym (rw c.in-Skipped.is at (h.says t)))
          ∙ sym (ap (λ cs. vectors_from cs c.args.count p) (same_columns c.lines.row c.read_row.new.row h.form));
    }

pub returns-in-Given-clause-found : goal.returns-in-Given-clause-found
returns-in-Given-clause-found g c =
    let h = c.in_ok-kind.ensures in
    let inv = c.lines.invariant in
    let columns = columns_in c.lines.row in
    let values = entry_in c.read_row.new.row in
    let taken = ap (λ cs. not_taken limits cs c.lines.source.number c.args.count values) (sym (same_columns c.lines.row c.read_row.new.row h.form)) ∙ c.in_ok-check_vector-in-Given.ensures.ok in
    λ t _.
    let o = open_at c.lines.source (g.D.Desk.told c.lines.desk) in
    let p = open_at c.read_row.new.source (g.D.Desk.told c.read_row.new.desk) in
    inv.reading t
    ∙ vectors_found columns o p c.args.count values c.in_ok-kind.last inv.begins (h.passes t) (omega (arith, h.source.bytes)) (sym (rw c.in-Given.is at (h.says t))) taken
    ∙ ap (λ cs. with_vector values (vectors_from cs (c.args.count + 1) p)) (same_columns c.args.row.now c.lines.row inv.form)

pub returns-in-Given-clause-passes : goal.returns-in-Given-clause-passes
returns-in-Given-clause-passes g c =
    let h = c.in_ok-kind.ensures in
    let inv = c.lines.invariant in
    let columns = columns_in c.lines.row in
    let values = entry_in c.read_row.new.row in
    let taken = ap (λ cs. not_taken limits cs c.lines.source.number c.args.count values) (sym (same_columns c.lines.row c.read_row.new.row h.form)) ∙ c.in_ok-check_vector-in-Given.ensures.ok in
    λ t.
    let o = open_at c.lines.source (g.D.Desk.told c.lines.desk) in
    let p = open_at c.read_row.new.source (g.D.Desk.told c.read_row.new.desk) in
    let a = open_at c.args.source.now (g.D.Desk.told c.args.desk.now) in
    subst (λ (cs : ColumnLists). PassesVector cs c.args.count c.lines.source.number values a p) (same_columns c.args.row.now c.lines.row inv.form)
    (vector_passed columns c.args.count values a o p c.in_ok-kind.last (inv.passed t) inv.begins (h.ends t) (h.passes t) (omega (arith, h.source.bytes)) (sym (rw c.in-Given.is at (h.says t))) taken)

pub lines-init : goal.lines-init
lines-init g c = record {
  source = search rules;
  begins = search rules;
  row = search rules;
  each = search rules;
  form = search rules;
  place = search rules;
  register = search rules;
  others = search rules;
  frugal = search rules;
  told = search rules;
  passed = λ t. none_passed _;
  reading = λ t. refl;
}

pub returns-in_err-kind-clause-needed : goal.returns-in_err-kind-clause-needed
returns-in_err-kind-clause-needed g c = λ t e.
    let h = c.in_err-kind.ensures in
    let inv = c.lines.invariant in
    let new = c.read_row.new.source in
    let after = g.D.Desk.told c.read_row.new.desk in
    let o = open_at c.lines.source (g.D.Desk.told c.lines.desk) in
    let p = open_at new after in
    let rest : rest_of new after ≡ after.contents.left c.args.source.now.place =
    (λ i. h.empty (search rules) i ++ after.contents.left ((h.place ∙ inv.place) i)) in
    untold_here _ o p (after.contents.left c.args.source.now.place) (inv.passed t) inv.begins (h.went t (search rules)) h.source.line h.source.bytes rest
