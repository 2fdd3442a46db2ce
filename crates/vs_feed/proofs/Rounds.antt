-- One lane's step in a round of reading.
use Rattle.std.proofs.Common.{inl, inr, ◌≡◌, ◌≢◌, ℕ, ◌+◌, ◌<◌, Bool, true, IsTrue, List, length, set, refl, sym, ◌++◌, ◌∙◌, ap, subst, arith}
use Rattle.std.proofs.lemmas.List.{length-set, get_or-set_same, get_or-set_other}
use Rattle.std.proofs.lemmas.Bool.{cases_eq}
use Rattle.vs_desk.specs.Desk.{Contents}
use Rattle.vs_desk.specs.Taking.{OnlyTaken}
use Rattle.vs_desk.specs.Places.{stimulus_place}
use Rattle.vs_stim.specs.Header.{PortLists}
use Rattle.vs_stim.specs.Known.{Known, last_entry, remaining, text_left, IsReadTo, IsReadBy, IsUntold}
use Rattle.vs_stim.specs.Lines.{lines, all_lines}
use Rattle.vs_stim.specs.Reading.{limits, read_vectors, with_vector}
use Rattle.vs_stim.specs.Row.{sizes}
use Rattle.vs_feed.specs.Lanes.{ended, lane_at, AreLanes, OtherPlacesKept}
use Rattle.vs_feed.specs.Reading.{Advances, AreRead, IsUntoldAt, SameSizes}

-- what remains depends on the text that is left alone
remains_by : (k : Known) (c d : Contents) → text_left k d ≡ text_left k c → remaining k d ≡ remaining k c
remains_by k c d e = ap (λ text. read_vectors limits k.columns k.at k.count (all_lines (lines text))) e

-- and that on what is left at the stimulus' place
pub remaining_by_left : (k : Known) (c d : Contents) → d.left (stimulus_place k.lane) ≡ c.left (stimulus_place k.lane) → remaining k d ≡ remaining k c
remaining_by_left k c d e = remains_by k c d (ap (λ left. k.pending ++ left) e)

-- how far a text was read depends on the text that is left alone
pub read_by : (ports : PortLists) (text : List ℕ) (k : Known) (c d : Contents) → text_left k d ≡ text_left k c → IsReadBy ports text k c → IsReadBy ports text k d
read_by ports text k c d e h = subst (λ (rest : List ℕ). IsReadTo ports text k.count k.columns k.line k.at rest) (sym e) h

-- an advance, where the text that is left before and after it is the same by other contents
pub advances_by : (tells : Bool) (c d c' d' : Contents) (old new : Known) → Advances tells c d old new
    → (IsTrue tells → text_left old c' ≡ text_left old c) → (IsTrue tells → text_left new d' ≡ text_left new d) → Advances tells c' d' old new
advances_by tells c d c' d' old new h e f = record {
  lane = h.lane;
  sizes = h.sizes;
  columns = h.columns;
  wanted_sizes = h.wanted_sizes;
  ended = h.ended;
  vector = λ t was now. remains_by old c c' (e t) ∙ h.vector t was now ∙ ap (λ r. with_vector (last_entry new) r) (sym (remains_by new d d' (f t)));
  count = h.count;
  read = λ t was now ports text far. read_by ports text new d d' (f t) (h.read t was now ports text (read_by ports text old c' c (sym (e t)) far));
  end = λ t was now. remains_by old c c' (e t) ∙ h.end t was now;
  taken = λ t was now. f t ∙ h.taken t was now;
  kept = λ t was. f t ∙ h.kept t was ∙ sym (e t);
}

-- another lane's text is left as it was
pub other_left : (ks : List Known) (i j : ℕ) (c d : Contents) → AreLanes ks → i < length ks → j < length ks → i ≢ j
    → OnlyTaken (stimulus_place (lane_at ks j).lane) c d → text_left (lane_at ks i) d ≡ text_left (lane_at ks i) c
other_left ks i j c d lanes h k ne kept =
    let ie : (lane_at ks i).lane ≡ i = lanes.numbered i h in
    let je : (lane_at ks j).lane ≡ j = lanes.numbered j k in
    ap (λ left. (lane_at ks i).pending ++ left) (kept.left (stimulus_place (lane_at ks i).lane) (omega arith))

-- what stands at lane i after a write to lane j
pub at_set : (ks : List Known) (i j : ℕ) (new : Known) (P : Known → Type 0) → j < length ks → (i ≡ j → P new) → (i ≢ j → P (lane_at ks i)) → P (lane_at (set ks j new) i)
at_set ks i j new P h here other = elim (cases_eq i j) [
  | inl e ↦ rw (e, get_or-set_same ks j new ended h) (here e)
  | inr ne ↦ rw (get_or-set_other ks j i new ended ne) (other ne)
]

-- the inputs' lengths stay
pub sizes_set : (olds mids : List Known) (j : ℕ) (new : Known) → j < length mids → SameSizes olds mids → sizes new.vector ≡ sizes (lane_at mids j).vector
    → SameSizes olds (set mids j new)
sizes_set olds mids j new h same e = record {
  lanes = length-set mids j new ∙ same.lanes;
  each = λ i. at_set mids i j new (λ k. sizes k.vector ≡ sizes (lane_at olds i).vector) h (λ here. e ∙ subst (λ (n : ℕ). sizes (lane_at mids n).vector ≡ sizes (lane_at olds i).vector) here (same.each i)) (λ _. same.each i);
}

-- the stimuli are still those of the lanes
pub lanes_set : (ks : List Known) (j : ℕ) (new : Known) → AreLanes ks → j < length ks → new.lane ≡ (lane_at ks j).lane
    → sizes new.vector ≡ sizes (lane_at ks j).vector → AreLanes (set ks j new)
lanes_set ks j new lanes h el es =
    let same : (i : ℕ) → sizes (lane_at (set ks j new) i).vector ≡ sizes (lane_at ks i).vector =
    λ i. at_set ks i j new (λ k. sizes k.vector ≡ sizes (lane_at ks i).vector) h (λ e. rw e es) (λ _. refl) in
    record {
      few = rw (length-set ks j new) lanes.few;
      numbered = λ i below. at_set ks i j new (λ k. k.lane ≡ i) h (λ e. el ∙ lanes.numbered j h ∙ sym e) (λ _. lanes.numbered i (rw (length-set ks j new) at below));
      alike = λ i below. same i ∙ lanes.alike i (rw (length-set ks j new) at below) ∙ sym (same 0);
    }

-- lane j has a new state, and the other lanes are as they were
pub step_rest : (tells : Bool) (j : ℕ) (before mid after : Contents) (olds mids : List Known) (new : Known) → j < length mids → AreLanes mids
    → AreRead tells j j before mid olds mids → (IsTrue tells → OnlyTaken (stimulus_place (lane_at mids j).lane) mid after)
    → AreRead tells j (j + 1) before after olds (set mids j new)
step_rest tells j before mid after olds mids new h lanes read kept = record {
  lanes = length-set mids j new ∙ read.lanes;
  advanced = λ i below. at_set mids i j new (λ k. Advances tells before after (lane_at olds i) k) h (λ e. absurd (omega arith)) (λ ne.
      advances_by tells before mid before after (lane_at olds i) (lane_at mids i) (read.advanced i below) (λ _. refl) (λ t.
      other_left mids i j mid after lanes (omega arith) h ne (kept t)));
  waiting = λ i above. at_set mids i j new (λ k. k ≡ lane_at olds i) h (λ e. absurd (omega arith)) (λ ne. read.waiting i (omega arith));
  left = λ t i above below. at_set mids i j new (λ k. remaining k after ≡ remaining (lane_at olds i) before) h (λ e. absurd (omega arith)) (λ ne.
      let l : length mids ≡ length olds = read.lanes in
      remains_by (lane_at mids i) mid after (other_left mids i j mid after lanes (omega arith) h ne (kept t)) ∙ read.left t i (omega arith) below);
  texts = λ t i above below. at_set mids i j new (λ k. text_left k after ≡ text_left (lane_at olds i) before) h (λ e. absurd (omega arith)) (λ ne.
      let l : length mids ≡ length olds = read.lanes in
      other_left mids i j mid after lanes (omega arith) h ne (kept t) ∙ read.texts t i (omega arith) below);
}

-- lane j has advanced too
pub step_on : (tells : Bool) (j : ℕ) (before mid after : Contents) (olds mids : List Known) (new : Known) → j < length mids
    → AreRead tells j j before mid olds mids → AreRead tells j (j + 1) before after olds (set mids j new) → Advances tells mid after (lane_at mids j) new
    → AreRead tells (j + 1) (j + 1) before after olds (set mids j new)
step_on tells j before mid after olds mids new h was rest here =
    let l : length mids ≡ length olds = was.lanes in
    let same : lane_at mids j ≡ lane_at olds j = was.waiting j (omega arith) in
    let moved : Advances tells before after (lane_at olds j) new =
    advances_by tells mid after before after (lane_at olds j) new (subst (λ k. Advances tells mid after k new) same here) (λ t.
    sym (subst (λ k. text_left k mid ≡ text_left (lane_at olds j) before) same (was.texts t j (omega arith) (omega arith)))) (λ _. refl) in
    record {
      lanes = rest.lanes;
      advanced = λ i below. elim (cases_eq i j) [
        | inl e ↦ subst (λ (n : ℕ). Advances tells before after (lane_at olds n) (lane_at (set mids j new) n)) (sym e) (rw (get_or-set_same mids j new ended h) moved)
        | inr ne ↦ rest.advanced i (omega arith)
      ];
      waiting = rest.waiting;
      left = rest.left;
      texts = rest.texts;
    }

-- What was taken of lane j's text doesn't tell what is read next, also where the desk had other contents when the round began.
pub untold_at : (j : ℕ) (before mid after : Contents) (olds mids : List Known) → j < length mids → AreLanes mids → AreRead true j j before mid olds mids
    → IsUntold (lane_at mids j).at (text_left (lane_at mids j) mid) (after.left (stimulus_place (lane_at mids j).lane)) → IsUntoldAt olds j before after
untold_at j before mid after olds mids h lanes read here =
    let l : length mids ≡ length olds = read.lanes in
    let same : lane_at mids j ≡ lane_at olds j = read.waiting j (omega arith) in
    let text : text_left (lane_at mids j) mid ≡ text_left (lane_at olds j) before = read.texts refl j (omega arith) (omega arith) in
    let number : (lane_at mids j).lane ≡ j = lanes.numbered j h in
    subst (λ (k : Known). IsUntold k.at (text_left (lane_at olds j) before) (after.left (stimulus_place j))) same
    (subst (λ (rest : List ℕ). IsUntold (lane_at mids j).at rest (after.left (stimulus_place j))) text
    (subst (λ (n : ℕ). IsUntold (lane_at mids j).at (text_left (lane_at mids j) mid) (after.left (stimulus_place n))) number here))

-- places behind those of the lanes are as they were
pub others_on : (lanes j : ℕ) (before mid after : Contents) → j < lanes → OtherPlacesKept lanes before mid → OnlyTaken (stimulus_place j) mid after
    → OtherPlacesKept lanes before after
others_on lanes j before mid after h kept step = record {
  files = step.files ∙ kept.files;
  put = step.put ∙ kept.put;
  before = λ p below. step.left p (omega arith) ∙ kept.before p below;
  behind = λ p above. step.left p (omega arith) ∙ kept.behind p above;
}
