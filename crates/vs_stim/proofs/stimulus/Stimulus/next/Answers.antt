use Rattle.std.proofs.Common.{rules, ◌≡◌, ◌+◌, ◌++◌, ℕ, sym, subst}
use Rattle.vs_desk.specs.Places.{stimulus_place}
use Rattle.vs_stim.specs.Header.{ColumnLists}
use Rattle.vs_stim.specs.Row.{columns_in, entry_in}
use Rattle.vs_stim.proofs.Stepped.{same_columns}
use Rattle.vs_stim.specs.Known.{Known, IsReadTo, IsReadBy}
use Rattle.vs_stim.specs.Source.{open_at}
use Rattle.vs_stim.proofs.Passed.{read_more}
use Rattle.vs_stim.proofs.stimulus.Stimulus.next.Goals as goal

pub returns-in-Some-clause-read : goal.returns-in-Some-clause-read
returns-in-Some-clause-read g c = λ t is inputs text h.
    let inside = c.self.inside in
    let before = g.D.Desk.told c.args.desk.now in
    let after = g.D.Desk.told c.find_vector.new.desk in
    let new = c.find_vector.new.source in
    let o = open_at inside.source before in
    let p = open_at new after in
    let was : inside.source.place ≡ stimulus_place inside.lane = search rules in
    let place : new.place ≡ stimulus_place inside.lane = search rules in
    let known : IsReadTo inputs text inside.count (columns_in inside.row) inside.line o.at (inside.source.block ++ before.contents.left (stimulus_place inside.lane)) =
    subst (λ (k : Known). IsReadBy inputs text k before.contents) (sym c.self.view_is) h in
    let here : IsReadTo inputs text inside.count (columns_in inside.row) inside.line o.at o.rest =
    subst (λ (n : ℕ). IsReadTo inputs text inside.count (columns_in inside.row) inside.line o.at (inside.source.block ++ before.contents.left n)) (sym was) known in
    subst (λ (n : ℕ). IsReadTo inputs text (inside.count + 1) (columns_in c.find_vector.new.row) c.in-Some.line p.at (new.block ++ after.contents.left n)) place
    (subst (λ (ds : ColumnLists). IsReadTo inputs text (inside.count + 1) ds c.in-Some.line p.at p.rest) (sym (same_columns inside.row c.find_vector.new.row c.in_ok-line.ensures.form))
    (read_more inputs text (columns_in inside.row) inside.count inside.line c.in-Some.line (entry_in c.find_vector.new.row) o p (rw c.in-Some.is at (c.in_ok-line.ensures.passes t)) here))
