use Rattle.std.proofs.Common.{rules, ◌≡◌, ◌<◌, ℕ, Bool, IsTrue, length, get_or, arith, subst, ap, ◌∙◌}
use Rattle.std.proofs.lemmas.List.{get_or_default}
use Rattle.vs_desk.specs.Taking.{OnlyTaken}
use Rattle.vs_desk.specs.Places.{stimulus_place}
use Rattle.vs_stim.specs.Known.{Known, text_left, IsUntold}
use Rattle.vs_stim.specs.Row.{sizes}
use Rattle.vs_feed.specs.Lanes.{ended, lane_at}
use Rattle.vs_feed.specs.Reading.{Advances, AreRead}
use Rattle.vs_feed.proofs.Rounds.{lanes_set, sizes_set, step_rest, step_on, untold_at, others_on}
use Rattle.vs_feed.proofs.reading.read_all.Goals as goal

pub returns-in-Err-clause-part : goal.returns-in-Err-clause-part
returns-in-Err-clause-part g c =
    let inv = c.loop-lane.invariant in
    let ks = c.loop-lane.stimuli in
    let lane = c.loop-lane.lane in
    let within : lane < length ks = omega arith in
    let at : get_or ks lane c.index-stimuli-lane.result ≡ lane_at ks lane = get_or_default ks lane c.index-stimuli-lane.result ended within in
    step_rest _ lane _ _ _ _ ks c.read_lane.new.stimulus within inv.lanes inv.read (λ t.
    subst (λ (k : Known). OnlyTaken (stimulus_place k.lane) (g.D.Desk.told c.loop-lane.desk).contents (g.D.Desk.told c.read_lane.new.desk).contents) at (c.in-Err.ensures.desk.others t))

pub loop-lane-preserved : goal.loop-lane-preserved
loop-lane-preserved g c =
    let inv = c.loop-lane.invariant in
    let h = c.in_default.ensures in
    let ks = c.loop-lane.stimuli in
    let lane = c.loop-lane.lane in
    let new = c.read_lane.new.stimulus in
    let mid = (g.D.Desk.told c.loop-lane.desk).contents in
    let after = (g.D.Desk.told c.read_lane.new.desk).contents in
    let within : lane < length ks = omega arith in
    let at : get_or ks lane c.index-stimuli-lane.result ≡ lane_at ks lane = get_or_default ks lane c.index-stimuli-lane.result ended within in
    let kept : IsTrue g.D.Desk.tells → OnlyTaken (stimulus_place (lane_at ks lane).lane) mid after =
    λ t. subst (λ (k : Known). OnlyTaken (stimulus_place k.lane) mid after) at (h.desk.others t) in
    let rest = step_rest g.D.Desk.tells lane (g.D.Desk.told c.args.desk.now).contents mid after c.args.stimuli.now ks new within inv.lanes inv.read kept in
    record {
      lanes = lanes_set ks lane new inv.lanes within (h.lane ∙ ap (λ (k : Known). k.lane) at) (h.sizes ∙ ap (λ (k : Known). sizes k.vector) at);
      sizes = sizes_set c.args.stimuli.now ks lane new within inv.sizes (h.sizes ∙ ap (λ (k : Known). sizes k.vector) at);
      register = search rules;
      read = step_on g.D.Desk.tells lane _ mid after _ ks new within inv.read rest (subst (λ (k : Known). Advances g.D.Desk.tells mid after k new) at h.advanced);
      others = λ t. others_on _ lane _ mid after (omega arith) (inv.others t) (subst (λ (i : ℕ). OnlyTaken (stimulus_place i) mid after) (inv.lanes.numbered lane within) (kept t));
    }

pub returns-in-Err-clause-sizes : goal.returns-in-Err-clause-sizes
returns-in-Err-clause-sizes g c =
    let inv = c.loop-lane.invariant in
    let ks = c.loop-lane.stimuli in
    let lane = c.loop-lane.lane in
    let within : lane < length ks = omega arith in
    let at : get_or ks lane c.index-stimuli-lane.result ≡ lane_at ks lane = get_or_default ks lane c.index-stimuli-lane.result ended within in
    sizes_set c.args.stimuli.now ks lane c.read_lane.new.stimulus within inv.sizes (c.in-Err.ensures.sizes ∙ ap (λ (k : Known). sizes k.vector) at)

pub returns-in-Err-clause-needed : goal.returns-in-Err-clause-needed
returns-in-Err-clause-needed g c =
    let inv = c.loop-lane.invariant in
    let ks = c.loop-lane.stimuli in
    let lane = c.loop-lane.lane in
    let before = (g.D.Desk.told c.args.desk.now).contents in
    let mid = (g.D.Desk.told c.loop-lane.desk).contents in
    let after = (g.D.Desk.told c.read_lane.new.desk).contents in
    let within : lane < length ks = omega arith in
    let at : get_or ks lane c.index-stimuli-lane.result ≡ lane_at ks lane = get_or_default ks lane c.index-stimuli-lane.result ended within in
    λ t e.
    untold_at lane before mid after c.args.stimuli.now ks within inv.lanes (subst (λ (b : Bool). AreRead b lane lane before mid c.args.stimuli.now ks) t inv.read)
    (subst (λ (k : Known). IsUntold k.at (text_left k mid) (after.left (stimulus_place k.lane))) at (c.in-Err.ensures.needed t (search rules)))
