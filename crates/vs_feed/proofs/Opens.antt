-- One more lane is opened.
use Rattle.std.proofs.Common.{◌≡◌, ℕ, ◌+◌, ◌<◌, ◌≤◌, Bool, true, take, replicate, IsTrue, List, [], ◌∷◌, ◌++◌, length, get_or, map, sym, ap, ◌∙◌, subst, inl, inr, arith}
use Rattle.std.specs.Prelude.{None, String, string_bytes}
use Rattle.std.specs.declared.alloc.Global.{Global}
use Rattle.std.proofs.lemmas.Bool.{cases_eq}
use Rattle.std.proofs.lemmas.List.{get_or-map, get_or-take, get_or-replicate, get_or_append_left, length_push, length-map, length-replicate, length-take-le, ext_get_or}
use Rattle.vs_desk.specs.Desk.{Contents}
use Rattle.vs_desk.specs.Taking.{OnlyTaken}
use Rattle.vs_desk.specs.Places.{stimulus_place}
use Rattle.vs_stim.specs.Header.{PortLists}
use Rattle.vs_stim.specs.Known.{Known, IsReadBy}
use Rattle.vs_stim.specs.Reading.{reading, header_refusal}
use Rattle.vs_desk.specs.Places.{most_lanes}
use Rattle.vs_feed.specs.Lanes.{ended, lane_at, AreLanes}
use Rattle.vs_feed.specs.Opened.{texts, path_at, HaveHeaders, IsOpened, AreOpened}
use Rattle.vs_feed.proofs.Rounds.{remaining_by_left, read_by}

-- the path at a number
pub text_at : (paths : List (String Global)) (i : ℕ) (path : String Global) → (i < length paths) × (path ≡ get_or paths i path) → path_at (texts paths) i ≡ string_bytes path
text_at paths i path h = get_or-map string_bytes paths i path [] h.0 ∙ ap string_bytes (sym h.1)

-- a lane that was opened before stays so
opened_kept : (tells : Bool) (ports : PortLists) (before mid after : Contents) (path : List ℕ) (i j : ℕ) (k : Known) → i < j
    → (IsTrue tells → OnlyTaken (stimulus_place j) mid after) → IsOpened tells ports before mid path i k → IsOpened tells ports before after path i k
opened_kept tells ports before mid after path i j k below kept h =
    let e : k.lane ≡ i = h.lane in
    record {
      lane = h.lane;
      live = h.live;
      sizes = h.sizes;
      count = h.count;
      named = h.named;
      once = h.once;
      wanted_sizes = h.wanted_sizes;
      reading = λ t. h.reading t ∙ sym (remaining_by_left k mid after ((kept t).left (stimulus_place k.lane) (omega arith)));
      read = λ t. read_by ports (before.files path) k mid after (ap (λ left. k.pending ++ left) ((kept t).left (stimulus_place k.lane) (omega arith))) (h.read t);
    }

-- The next lane is opened where the desk had other contents when the first was.
opened_here : (tells : Bool) (ports : PortLists) (before mid after : Contents) (path text : List ℕ) (j : ℕ) (k : Known) → text ≡ path
    → (IsTrue tells → mid.files ≡ before.files) → IsOpened tells ports mid after path j k → IsOpened tells ports before after text j k
opened_here tells ports before mid after path text j k e files h = record {
  lane = h.lane;
  live = h.live;
  sizes = h.sizes;
  count = h.count;
  named = h.named;
  once = h.once;
  wanted_sizes = h.wanted_sizes;
  reading = λ t. (λ i. reading ports (sym (files t) i (e i))) ∙ h.reading t;
  read = λ t. subst (λ (bytes : List ℕ). IsReadBy ports bytes k after) (λ i. files t i (sym e i)) (h.read t);
}

pub opened_more : (tells : Bool) (ports : PortLists) (before mid after : Contents) (paths : List (List ℕ)) (path : List ℕ) (ks news : List Known)
    → ((i : ℕ) → i < length ks → IsOpened tells ports before mid (path_at paths i) i (lane_at ks i))
    → news ≡ ks ++ lane_at news (length ks) ∷ [] → path_at paths (length ks) ≡ path → IsOpened tells ports mid after path (length ks) (lane_at news (length ks))
    → (IsTrue tells → mid.files ≡ before.files) → (IsTrue tells → OnlyTaken (stimulus_place (length ks)) mid after)
    → (i : ℕ) → i < length news → IsOpened tells ports before after (path_at paths i) i (lane_at news i)
opened_more tells ports before mid after paths path ks news each added same here files kept i below =
    let count : length news ≡ length ks + 1 = ap length added ∙ length_push ks (lane_at news (length ks)) in
    elim (cases_eq i (length ks)) [
      | inl e ↦ subst (λ (n : ℕ). IsOpened tells ports before after (path_at paths n) n (lane_at news n)) (sym e)
          (opened_here tells ports before mid after path (path_at paths (length ks)) (length ks) (lane_at news (length ks)) same files here)
      | inr ne ↦
          let old : i < length ks = omega arith in
          let stays : lane_at news i ≡ lane_at ks i =
          ap (λ l. lane_at l i) added ∙ get_or_append_left ks (lane_at news (length ks) ∷ []) ended i old in
          subst (λ (k : Known). IsOpened tells ports before after (path_at paths i) i k) (sym stays)
          (opened_kept tells ports before mid after (path_at paths i) i (length ks) (lane_at ks i) old kept (each i old))
    ]

pub headers_more : (ports : PortLists) (before mid : Contents) (paths : List (List ℕ)) (path : List ℕ) (lanes : ℕ) → HaveHeaders ports before.files paths lanes
    → path_at paths lanes ≡ path → mid.files ≡ before.files → header_refusal ports (mid.files path) ≡ None → HaveHeaders ports before.files paths (lanes + 1)
headers_more ports before mid paths path lanes h same files here = record {
  each = λ i below. elim (cases_eq i lanes) [
    | inl e ↦ ap (λ n. header_refusal ports (before.files (path_at paths n))) e ∙ (λ k. header_refusal ports (sym files k (same k))) ∙ here
    | inr ne ↦ h.each i (omega arith)
  ];
}

-- stimuli that are opened are those of the lanes
pub lanes_opened : (tells : Bool) (ports : PortLists) (before after : Contents) (paths : List (List ℕ)) (ks : List Known) → length paths ≤ most_lanes
    → AreOpened tells ports before after paths ks → AreLanes ks
lanes_opened tells ports before after paths ks few h =
    let l : length ks ≡ length paths = h.lanes in
    record {
      few = omega arith;
      numbered = λ i below. (h.each i below).lane;
      alike = λ i below. (h.each i below).sizes ∙ sym ((h.each 0 (omega arith)).sizes);
    }

-- all of them are live
pub flags_opened : (tells : Bool) (ports : PortLists) (before after : Contents) (paths : List (List ℕ)) (ks : List Known) → length paths ≤ most_lanes
    → AreOpened tells ports before after paths ks → take (length ks) (replicate most_lanes true) ≡ map (λ (k : Known). k.live) ks
flags_opened tells ports before after paths ks few h =
    let l : length ks ≡ length paths = h.lanes in
    let room : length ks ≤ length (replicate most_lanes true) = rw (length-replicate most_lanes true) (omega arith) in
    let long : length (take (length ks) (replicate most_lanes true)) ≡ length ks = length-take-le (length ks) (replicate most_lanes true) room in
    ext_get_or true (take (length ks) (replicate most_lanes true)) (map (λ (k : Known). k.live) ks) (long ∙ sym (length-map ks (λ (k : Known). k.live))) (λ i below.
    let within : i < length ks = omega arith in
    get_or-take (length ks) (replicate most_lanes true) i true within
    ∙ get_or-replicate most_lanes i true true (omega arith)
    ∙ sym (get_or-map (λ (k : Known). k.live) ks i ended true within ∙ (h.each i within).live))
