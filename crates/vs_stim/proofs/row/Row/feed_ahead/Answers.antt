use Rattle.std.proofs.Common.{sym, subst}
use Rattle.vs_stim.specs.declared.source.Source.{Source}
use Rattle.vs_stim.specs.Source.{ReadsAhead}
use Rattle.vs_stim.proofs.Ahead.{reads_none, reads_more, reads_on}
use Rattle.vs_stim.proofs.Stepped.{same_form, form_on}
use Rattle.vs_stim.proofs.row.Row.feed_ahead.Goals as goal

pub bytes-init : goal.bytes-init
bytes-init c = record { row = c.requires.row; form = same_form c.args.self.now; source = c.requires.source; reads = reads_none c.args.self.now c.args.source.now }

pub bytes-preserved : goal.bytes-preserved
bytes-preserved c =
    let inv = c.bytes.invariant in
    let digits = c.feed_digits.ensures in
    let first = c.args.self.now in
    let start = c.args.source.now in
    record {
      row = c.feed.ensures.row;
      form = form_on c.args.self.now c.feed_digits.new.self c.feed.new.self (form_on c.args.self.now c.bytes.self c.feed_digits.new.self inv.form digits.form) c.feed.ensures.form;
      source = c.next_inner.ensures.source;
      reads =
          reads_on first c.feed_digits.new.self c.feed.new.self start c.feed_digits.new.source c.next_inner.new.self c.in-Some.byte
          (reads_more first c.bytes.self c.feed_digits.new.self start c.bytes.source c.feed_digits.new.source inv.reads digits.reads)
          c.in-Some.ensures.some c.in-Some.ensures.inner c.feed.ensures.says;
    }

pub returns-in-None-clause-reads : goal.returns-in-None-clause-reads
returns-in-None-clause-reads c =
    let first = c.args.self.now in
    let start = c.args.source.now in
    subst (λ (s : Source). ReadsAhead first c.feed_digits.new.self start s) (sym c.in-None.ensures.none)
    (reads_more first c.bytes.self c.feed_digits.new.self start c.bytes.source c.feed_digits.new.source c.bytes.invariant.reads c.feed_digits.ensures.reads)
