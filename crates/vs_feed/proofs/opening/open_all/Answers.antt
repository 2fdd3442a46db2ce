use Rattle.std.proofs.Common.{rules, ◌≡◌, ◌+◌, ◌<◌, ◌≤◌, ℕ, List, length, get_or, take, sym, ap, ◌∙◌, subst, inl, inr, arith}
use Rattle.std.specs.Prelude.{Option, IsNone, string_bytes}
use Rattle.std.proofs.lemmas.Iterator.Adapters.{YieldsList-from_vec}
use Rattle.std.proofs.lemmas.Iterator.Consumers.{YieldsList-turn}
use Rattle.std.proofs.lemmas.List.{length-map, length_push}
use Rattle.vs_desk.specs.declared.desk.Way.TheVariants.{Read}
use Rattle.vs_desk.specs.Desk.{Attachment, Register, Fails}
use Rattle.vs_stim.specs.Known.{IsUntold}
use Rattle.vs_stim.specs.Reading.{first_place, reading, header_refusal}
use Rattle.vs_desk.specs.Places.{stimulus_place}
use Rattle.vs_feed.specs.declared.reading.Stopped.{Stopped}
use Rattle.vs_feed.specs.Opened.{texts, path_at, with_lanes, StopsOpening}
use Rattle.vs_feed.proofs.Places.{next_free, next_attached}
use Rattle.std.proofs.lemmas.Result.{err_from_is_err_and}
use Rattle.vs_feed.proofs.Rounds.{others_on}
use Rattle.vs_feed.proofs.Opens.{text_at, opened_more, headers_more}
use Rattle.vs_feed.proofs.opening.open_all.Goals as goal

-- a lane that stopped, by its number
stopped_is : (s : Stopped) (lane : ℕ) → s.lane ≡ lane → ◌≡◌ {A = Stopped} (record { lane = lane; error = s.error }) s
stopped_is s lane e = λ i. record { lane = sym e i; error = s.error }

pub open_next-requires-clause-free : goal.open_next-requires-clause-free
open_next-requires-clause-free g c =
    let inv = c.loop-path.invariant in
    let lane = length c.loop-path.stimuli.items in
    let path = c.in-Some.path in
    let paths = c.args.paths.items in
    let turn : (lane < length paths) × (path ≡ get_or paths lane path) =
    subst (λ (n : ℕ). (n < length paths) × (path ≡ get_or paths n path)) (sym inv.lanes)
    (YieldsList-turn (YieldsList-from_vec {s = c.into_iter-path-iterator.result} paths (search rules) (search rules)) c.loop-path.yielded c.loop-path.path-iterator c.loop-path.yielded_by c.next.result c.next.new.self path c.in-Some.is c.next.ensures.steps) in
    let within : lane ≤ length (texts paths) = rw (length-map paths string_bytes) (omega arith) in
    let free = next_free c.attach_law.ensures.others (g.D.Desk.told c.args.desk.now).register (texts paths) lane within in
    subst (λ (o : Option Attachment). IsNone o) (sym ((λ i. (inv.attached i).attached (stimulus_place lane)) ∙ free)) (c.requires.free.each lane (omega arith))

pub loop-path-preserved : goal.loop-path-preserved
loop-path-preserved g c =
    let inv = c.loop-path.invariant in
    let lane = length c.loop-path.stimuli.items in
    let path = c.in-Some.path in
    let paths = c.args.paths.items in
    let turn : (lane < length paths) × (path ≡ get_or paths lane path) =
    subst (λ (n : ℕ). (n < length paths) × (path ≡ get_or paths n path)) (sym inv.lanes)
    (YieldsList-turn (YieldsList-from_vec {s = c.into_iter-path-iterator.result} paths (search rules) (search rules)) c.loop-path.yielded c.loop-path.path-iterator c.loop-path.yielded_by c.next.result c.next.new.self path c.in-Some.is c.next.ensures.steps) in
    let within : lane < length (texts paths) = rw (length-map paths string_bytes) turn.0 in
    let here : path_at (texts paths) lane ≡ string_bytes path = text_at paths lane path turn in
    let next = next_attached c.attach_law.ensures.next (g.D.Desk.told c.args.desk.now).register (g.D.Desk.told c.loop-path.desk).register (texts paths) (string_bytes path) lane within inv.attached here in
    let h = c.in_ok-open_next.ensures in
    let count : length c.open_next.new.stimuli.items ≡ lane + 1 = ap length h.added ∙ length_push c.loop-path.stimuli.items _ in
    let before = (g.D.Desk.told c.args.desk.now).contents in
    let mid = (g.D.Desk.told c.loop-path.desk).contents in
    let after = (g.D.Desk.told c.open_next.new.desk).contents in
    record {
      lanes = count ∙ ap (λ n. n + 1) inv.lanes ∙ sym (length_push c.loop-path.yielded path);
      each = opened_more g.D.Desk.tells c.args.ports.now before mid after (texts paths) (string_bytes path) c.loop-path.stimuli.items c.open_next.new.stimuli.items
          inv.each h.added here h.opened (λ t. (inv.others t).files) h.others;
      headers = λ t. rw count (headers_more c.args.ports.now before mid (texts paths) (string_bytes path) lane (inv.headers t) here (inv.others t).files (h.headed t));
      attached = h.attached ∙ next ∙ ap (λ n. with_lanes (g.D.Desk.told c.args.desk.now).register (take n (texts paths))) (sym count);
      others = λ t. others_on (length paths) lane before mid after turn.0 (inv.others t) (h.others t);
    }

pub returns-in_err-open_next-clause-stopped : goal.returns-in_err-open_next-clause-stopped
returns-in_err-open_next-clause-stopped g c =
    let inv = c.loop-path.invariant in
    let lane = length c.loop-path.stimuli.items in
    let path = c.in-Some.path in
    let paths = c.args.paths.items in
    let turn : (lane < length paths) × (path ≡ get_or paths lane path) =
    subst (λ (n : ℕ). (n < length paths) × (path ≡ get_or paths n path)) (sym inv.lanes)
    (YieldsList-turn (YieldsList-from_vec {s = c.into_iter-path-iterator.result} paths (search rules) (search rules)) c.loop-path.yielded c.loop-path.path-iterator c.loop-path.yielded_by c.next.result c.next.new.self path c.in-Some.is c.next.ensures.steps) in
    let within : lane < length (texts paths) = rw (length-map paths string_bytes) turn.0 in
    let here : path_at (texts paths) lane ≡ string_bytes path = text_at paths lane path turn in
    let old = g.D.Desk.told c.args.desk.now in
    let mid = g.D.Desk.told c.loop-path.desk in
    let new = g.D.Desk.told c.open_next.new.desk in
    let r = old.register in
    let next = next_attached c.attach_law.ensures.next r mid.register (texts paths) (string_bytes path) lane within inv.attached here in
    let p = err_from_is_err_and c.from_residual.result c.from_residual.ensures.1 in
    let h = c.in_err-open_next.ensures in
    let asked : mid.register.asked ≡ r.asked = (λ i. (inv.attached i).asked) ∙ (c.attach_law.ensures.quiet r (stimulus_place 0) Read (take lane (texts paths))).asked in
    let attach_fails = λ (f : Fails mid.register new.register (stimulus_place lane) (string_bytes path)).
    subst (λ (m : Register). Fails m new.register (stimulus_place lane) (path_at (texts paths) lane)) inv.attached (subst (λ (q : List ℕ). Fails mid.register new.register (stimulus_place lane) q) (sym here) f) in
    rw (p.1, p.2) (subst (λ (s : Stopped). StopsOpening c.args.ports.now (texts paths) old new s) (stopped_is c.in_err-open_next.field-0.0 lane h.lane) (record {
      lane = within;
      error = h.errors;
      demanded = h.demanded;
      refusal = λ t read memory. ap (λ (bytes : List ℕ). header_refusal c.args.ports.now bytes) (λ i. (sym (inv.others t).files) i (here i)) ∙ h.refused t read memory;
      reading = λ t read memory. ap (λ (bytes : List ℕ). reading c.args.ports.now bytes) (λ i. (sym (inv.others t).files) i (here i)) ∙ h.reading t read memory;
      before = inv.headers;
      attached = λ read memory. h.register read memory ∙ next;
      memory = λ e. elim (h.memory e) [ inl same ↦ inl (same ∙ inv.attached) | inr placed ↦ inr (placed ∙ next) ];
      fault = λ e. elim (h.fault e) [
        | inl attach ↦ inl (attach_fails attach)
        | inr taking ↦ inr (subst (λ (q : List ℕ). Fails (with_lanes r (take (lane + 1) (texts paths))) new.register (stimulus_place lane) q) asked (subst (λ (m : Register). Fails m new.register (stimulus_place lane) mid.register.asked) next taking))
      ];
      needed = λ t e. elim (h.needed t e) [
        | inl attach ↦ inl (attach_fails attach)
        | inr untold ↦ inr (subst (λ (bytes : List ℕ). IsUntold first_place bytes (new.contents.left (stimulus_place lane))) (λ i. (inv.others t).files i (sym here i)) untold)
      ];
    }))
