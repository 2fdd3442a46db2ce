use Rattle.std.proofs.Common.{rules, ◌≡◌, length, refl, sym, ap, ◌∙◌, subst}
use Rattle.std.proofs.lemmas.List.{get_or_push}
use Rattle.std.proofs.lemmas.Result.{on_ok_weaker}
use Rattle.std.specs.Prelude.{string_bytes}
use Rattle.vs_stim.specs.Known.{Known}
use Rattle.vs_feed.specs.Lanes.{ended, lane_at}
use Rattle.vs_feed.specs.Opened.{IsOpened}
use Rattle.vs_feed.proofs.opening.open_next.Goals as goal

pub returns-in-Ok-clause-opened : goal.returns-in-Ok-clause-opened
returns-in-Ok-clause-opened g c =
    let h = c.in-Ok.ensures in
    let ks = c.args.stimuli.now.items in
    let k = c.in-Ok.stimulus in
    let old = (g.D.Desk.told c.args.desk.now).contents in
    let new = (g.D.Desk.told c.begin.new.desk).contents in
    let here : k.lane ≡ length ks = search rules in
    let opened : IsOpened g.D.Desk.tells c.args.ports.now old new (string_bytes c.args.path) (length ks) k = record {
      lane = here;
      live = h.live;
      sizes = h.sizes;
      count = h.count;
      named = h.named;
      once = h.once;
      wanted_sizes = h.wanted_sizes;
      reading = h.header;
      read = h.read;
    } in
    on_ok_weaker c.add.result (λ added.
    subst (λ (k : Known). IsOpened g.D.Desk.tells c.args.ports.now old new (string_bytes c.args.path) (length ks) k)
    (sym (ap (λ l. lane_at l (length ks)) added ∙ get_or_push ks k ended (length ks) refl)) opened) c.add.ensures.added
