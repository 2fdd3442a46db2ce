-- Stimuli that were opened behind an accepted design, and an engine of it.
use Rattle.std.proofs.Common.{◌≡◌, ℕ, ◌<◌, ◌≤◌, Bool, true, false, List, length, arith, IsTrue, sym, subst, ap, ◌∙◌}
use Rattle.std.specs.Prelude.{sum}
use Rattle.vs_desk.specs.Desk.{Contents}
use Rattle.vs_design.specs.Clocks.{clock_bits}
use Rattle.vs_design.specs.Designs.{Design}
use Rattle.vs_net.specs.Solution.{beginning}
use Rattle.vs_design.specs.Networks.{network_of}
use Rattle.vs_flat.specs.DesignOf.{design_of}
use Rattle.vs_program.specs.Compiled.{IsProgramOf}
use Rattle.vs_engine.specs.Lanes.{Running, state}
use Rattle.vs_accept.specs.Lent.{Acceptance}
use Rattle.vs_stim.specs.Header.{PortLists}
use Rattle.vs_stim.specs.Known.{Known, IsReadBy, remaining}
use Rattle.vs_stim.specs.Reading.{Reading, reading}
use Rattle.vs_feed.specs.Fed.{HaveBits}
use Rattle.vs_feed.specs.Lanes.{AreLanes, lane_at}
use Rattle.vs_feed.specs.Opened.{AreOpened, HaveHeaders, path_at}
use Rattle.vs_rounds.specs.Lanes.{IsUnread, HasGiven, HaveNext}
use Rattle.vs_job.specs.declared.job.Job.{Job}
use Rattle.vs_setup.specs.Ports.{ports_of}
use Rattle.vs_setup.specs.Prepared.{IsDesignLoaded, runs}

-- ---- the stimuli

-- the design was accepted, and then these stimuli were opened
pub record HasLanes (tells : Bool) (job : Job) (old mid new : Contents) (a : Acceptance) (ports : PortLists) (ks : List Known) : Type 0 where
  pub loaded : IsDesignLoaded tells job old a ports
  pub files : IsTrue tells → mid.files ≡ old.files
  pub opened : AreOpened tells ports mid new job.stimuli ks
  pub numbered : AreLanes ks

-- the headers are those of the ports of the accepted text
pub have_headers : (tells : Bool) (job : Job) (old mid : Contents) (a : Acceptance) (ports : PortLists) (l : IsDesignLoaded tells job old a ports) → (IsTrue tells → mid.files ≡ old.files) → IsTrue tells
    → HaveHeaders ports mid.files job.stimuli (length job.stimuli) → HaveHeaders (ports_of job.mode l.loaded.accepted) old.files job.stimuli (length job.stimuli)
have_headers tells job old mid a ports l same t h = subst (λ (is : PortLists). HaveHeaders is old.files job.stimuli (length job.stimuli)) l.loaded.ports_are
    (subst (λ (files : List ℕ → List ℕ). HaveHeaders ports files job.stimuli (length job.stimuli)) (same t) h)

-- what each lane's text gives is still to come
pub reading_is : (tells : Bool) (job : Job) (old mid new : Contents) (a : Acceptance) (ports : PortLists) (ks : List Known)
    → (p : HasLanes tells job old mid new a ports ks) → IsTrue tells → (i : ℕ) → i < length ks
    → reading (ports_of job.mode p.loaded.loaded.accepted) (old.files (path_at job.stimuli i)) ≡ remaining (lane_at ks i) new
reading_is tells job old mid new a ports ks p t i h = ap (λ is. reading is (old.files (path_at job.stimuli i))) (sym p.loaded.loaded.ports_are)
    ∙ ap (λ (files : List ℕ → List ℕ). reading ports (files (path_at job.stimuli i))) (sym (p.files t))
    ∙ (p.opened.each i h).reading t

pub has_given : (tells : Bool) (job : Job) (old mid new : Contents) (a : Acceptance) (ports : PortLists) (ks : List Known)
    → (p : HasLanes tells job old mid new a ports ks) → IsTrue tells → (i : ℕ) → i < length ks → HasGiven (runs p.loaded) i 0 (lane_at ks i) new
has_given tells job old mid new a ports ks p t i h =
    let k = lane_at ks i in
    let path = path_at job.stimuli i in
    let o = p.opened.each i h in
    record {
      count_is = o.count;
      read = subst (λ (is : PortLists). IsReadBy is (old.files path) k new) p.loaded.loaded.ports_are
          (subst (λ (files : List ℕ → List ℕ). IsReadBy ports (files path) k new) (p.files t) (o.read t));
    }

unread : (r rest : Reading) (live : Bool) → live ≡ true → r ≡ rest → IsUnread r 0 live rest
unread r rest true is_live is = record { rest_is = λ _. sym is; within = λ _. omega arith; unrefused = λ e. absurd (cc); ended = λ e. absurd (cc) }
unread r rest false is_live is = absurd (cc)

alive : (b : Bool) → b ≡ true → b ≡ false → ⊥
alive b is_true is_false = cc

-- the first vector of each is the next that is read
pub have_next : (tells : Bool) (job : Job) (old mid new : Contents) (a : Acceptance) (ports : PortLists) (ks : List Known)
    → (p : HasLanes tells job old mid new a ports ks) → IsTrue tells → HaveNext (runs p.loaded) 0 ks new
have_next tells job old mid new a ports ks p t = record {
  each = λ i h. unread (reading (ports_of job.mode p.loaded.loaded.accepted) (old.files (path_at job.stimuli i))) (remaining (lane_at ks i) new) (lane_at ks i).live (p.opened.each i h).live
      (reading_is tells job old mid new a ports ks p t i h);
  read = λ i h _. has_given tells job old mid new a ports ks p t i h;
  taken = record { each = λ i h dead. absurd (alive (lane_at ks i).live (p.opened.each i h).live dead) };
}

-- ---- and the engine

-- what is known of an engine that was made of a design's program: it runs no slot yet, and has in each of so many lanes the values before slot 0
pub record IsMade {W : Type 0} (lane : W → ℕ → Bool) (lanes : ℕ) (d : Design) (clocks : List ℕ) (engine : Running W) : Type 0 where
  pub program : IsProgramOf d clocks engine.program
  pub begun : engine.begun ≡ false
  pub begins : (i : ℕ) → i < lanes → state lane engine i ≡ beginning (network_of d clocks)

pub made_same : {W : Type 0} (lane : W → ℕ → Bool) (lanes : ℕ) (d : Design) (clocks : List ℕ) (engine now : Running W) → now ≡ engine → IsMade lane lanes d clocks engine → IsMade lane lanes d clocks now
made_same lane lanes d clocks engine now is made = subst (λ (e : Running _). IsMade lane lanes d clocks e) (sym is) made

-- the stimuli were opened, and this is an engine of the design, which has a lane for each of them
pub record HasEngine {W : Type 0} (lane : W → ℕ → Bool) (lanes : ℕ) (tells : Bool) (job : Job) (old mid new : Contents) (a : Acceptance) (ports : PortLists) (engine : Running W) (ks : List Known) : Type 0 where
  pub behind : HasLanes tells job old mid new a ports ks
  pub made : IsMade lane lanes (design_of a.flat) a.clocks.bits engine
  pub few : length ks ≤ lanes

pub program_is : {W : Type 0} (lane : W → ℕ → Bool) (lanes : ℕ) (tells : Bool) (job : Job) (old mid new : Contents) (a : Acceptance) (ports : PortLists) (engine : Running W) (ks : List Known)
    → (p : HasEngine lane lanes tells job old mid new a ports engine ks) → IsProgramOf (design_of a.flat) (clock_bits p.behind.loaded.loaded.accepted.accepted.clocks) engine.program
program_is lane lanes tells job old mid new a ports engine ks p = subst (λ n. IsProgramOf (design_of a.flat) n engine.program) (sym p.behind.loaded.loaded.bits_are) p.made.program

-- a vector has a bit for each that the engine is fed
pub bits_are : {W : Type 0} (lane : W → ℕ → Bool) (lanes : ℕ) (tells : Bool) (job : Job) (old mid new : Contents) (a : Acceptance) (ports : PortLists) (engine : Running W) (ks : List Known)
    → HasEngine lane lanes tells job old mid new a ports engine ks → HaveBits (length engine.program.inputs) ks
bits_are lane lanes tells job old mid new a ports engine ks p = record {
  each = λ i h. ap (λ ns. sum ns) (p.behind.opened.each i h).sizes ∙ p.behind.loaded.loaded.bits ∙ ap length (sym ends.inputs);
}
  where
    ends : IsProgramOf (design_of a.flat) (clock_bits p.behind.loaded.loaded.accepted.accepted.clocks) engine.program
    ends = program_is lane lanes tells job old mid new a ports engine ks p

-- the engine has the values before slot 0 in each lane
pub begins_is : {W : Type 0} (lane : W → ℕ → Bool) (lanes : ℕ) (tells : Bool) (job : Job) (old mid new : Contents) (a : Acceptance) (ports : PortLists) (engine : Running W) (ks : List Known)
    → (p : HasEngine lane lanes tells job old mid new a ports engine ks) → (i : ℕ) → i < length ks → state lane engine i ≡ beginning (network_of (design_of a.flat) (clock_bits p.behind.loaded.loaded.accepted.accepted.clocks))
begins_is lane lanes tells job old mid new a ports engine ks p i h =
    let few = p.few in
    let below : i < lanes = omega (arith, h, few) in
    p.made.begins i below ∙ ap (λ n. beginning (network_of (design_of a.flat) n)) (sym p.behind.loaded.loaded.bits_are)
