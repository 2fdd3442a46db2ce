use Rattle.std.proofs.Common.{rules, ◌≡◌, ◌+◌, ◌++◌, ℕ, List, sym, ap, subst, ◌∙◌}
use Rattle.std.specs.Prelude.{string_bytes}
use Rattle.vs_stim.specs.declared.wants.Wants.{Wants}
use Rattle.vs_stim.specs.Header.{ColumnLists, lengths}
use Rattle.vs_stim.specs.Heading.{lists_of}
use Rattle.vs_stim.specs.Row.{columns_in}
use Rattle.vs_stim.specs.Known.{IsReadTo}
use Rattle.vs_stim.specs.Lines.{lines, all_lines}
use Rattle.vs_stim.specs.Reading.{limits, first_place, read_vectors, read_header, header_fault}
use Rattle.vs_stim.specs.Source.{open_at, vectors_from}
use Rattle.vs_stim.proofs.Counted.{each_made}
use Rattle.vs_stim.proofs.Passed.{read_first, opened_rest}
use Rattle.vs_stim.proofs.stimulus.Stimulus.begin.Goals as goal

pub invariant_of-result : goal.invariant_of-result
invariant_of-result g c = record {
  source = search rules;
  place = search rules;
  lane = search rules;
  row = search rules;
  each = rw (c.new.ensures.values, c.new.ensures.columns) (each_made c.args.ports.now.inputs c.in_ok-columns.columns.inputs.items c.in_ok-source.values.items (c.in_ok-source.ensures.sizes ∙ ap (λ is. lengths is) c.inputs.ensures) c.in_ok-columns.ensures.columns c.in_ok-columns.ensures.each);
  count = search rules;
  begins = search rules;
}

pub returns-clause-read : goal.returns-clause-read
returns-clause-read g c = λ t.
    let is = c.args.ports.now in
    let source = c.in_ok-source.source in
    let new = c.find_header.new.source in
    let after = g.D.Desk.told c.find_header.new.desk in
    let cs = lists_of c.in_ok-columns.columns in
    let start = c.in_ok-source.ensures.at in
    let o = open_at source (g.D.Desk.told c.attach.new.self) in
    let p = open_at new after in
    let at : o.at ≡ first_place = λ i. record { number = start.0 i; start = start.1 i } in
    let rest : o.rest ≡ (g.D.Desk.told c.args.desk.now).contents.files (string_bytes c.args.path) =
    opened_rest source (g.D.Desk.told c.args.desk.now).contents (g.D.Desk.told c.attach.new.self) (1000 + c.args.lane) (string_bytes c.args.path) (search rules) (search rules) (c.in_ok-attach.ensures.attached.bytes t) in
    let place : new.place ≡ 1000 + c.args.lane = search rules in
    let columns : columns_in c.new.result ≡ lists_of c.in_ok-columns.columns =
    λ i. record { inputs = (c.new.ensures.columns i).items; expected = ((ap (λ (w : Wants). w.expected) c.new.ensures.wants ∙ c.in_ok-wants.ensures.expected) i).items } in
    subst (λ (n : ℕ). IsReadTo is ((g.D.Desk.told c.args.desk.now).contents.files (string_bytes c.args.path)) 0 (columns_in c.new.result) 0 p.at (new.block ++ after.contents.left n)) place
    (subst (λ (ds : ColumnLists). IsReadTo is ((g.D.Desk.told c.args.desk.now).contents.files (string_bytes c.args.path)) 0 ds 0 p.at p.rest) (sym columns)
    (subst (λ (text : List ℕ). IsReadTo is text 0 cs 0 p.at p.rest) rest (read_first is cs 0 o p at (c.in_ok-columns.ensures.passes t))))

pub returns-clause-header : goal.returns-clause-header
returns-clause-header g c = λ t.
    let is = c.args.ports.now in
    let source = c.in_ok-source.source in
    let new = c.find_header.new.source in
    let after = g.D.Desk.told c.find_header.new.desk in
    let start = c.in_ok-source.ensures.at in
    let o = open_at source (g.D.Desk.told c.attach.new.self) in
    let p = open_at new after in
    let at : o.at ≡ first_place = λ i. record { number = start.0 i; start = start.1 i } in
    let rest : o.rest ≡ (g.D.Desk.told c.args.desk.now).contents.files (string_bytes c.args.path) =
    opened_rest source (g.D.Desk.told c.args.desk.now).contents (g.D.Desk.told c.attach.new.self) (1000 + c.args.lane) (string_bytes c.args.path) (search rules) (search rules) (c.in_ok-attach.ensures.attached.bytes t) in
    let place : new.place ≡ 1000 + c.args.lane = search rules in
    let columns : columns_in c.new.result ≡ lists_of c.in_ok-columns.columns =
    λ i. record { inputs = (c.new.ensures.columns i).items; expected = ((ap (λ (w : Wants). w.expected) c.new.ensures.wants ∙ c.in_ok-wants.ensures.expected) i).items } in
    (λ i. read_header limits is (sym at i) (all_lines (lines (sym rest i))))
    ∙ c.in_ok-columns.ensures.found t
    ∙ ap (λ (ds : ColumnLists). vectors_from ds 0 p) (sym columns)
    ∙ ap (λ (n : ℕ). read_vectors limits (columns_in c.new.result) p.at 0 (all_lines (lines (new.block ++ after.contents.left n)))) place

pub returns-clause-headed : goal.returns-clause-headed
returns-clause-headed g c = λ t.
    let is = c.args.ports.now in
    let source = c.in_ok-source.source in
    let start = c.in_ok-source.ensures.at in
    let o = open_at source (g.D.Desk.told c.attach.new.self) in
    let at : o.at ≡ first_place = λ i. record { number = start.0 i; start = start.1 i } in
    let rest : o.rest ≡ (g.D.Desk.told c.args.desk.now).contents.files (string_bytes c.args.path) =
    opened_rest source (g.D.Desk.told c.args.desk.now).contents (g.D.Desk.told c.attach.new.self) (1000 + c.args.lane) (string_bytes c.args.path) (search rules) (search rules) (c.in_ok-attach.ensures.attached.bytes t) in
    (λ i. header_fault limits is (sym at i) (all_lines (lines (sym rest i)))) ∙ c.in_ok-columns.ensures.headed t
