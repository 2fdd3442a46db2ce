-- What the opening of all stimuli makes.
use Rattle.std.specs.Prelude.{◌≡◌, ◌≢◌, ◌⊎◌, ℕ, ◌+◌, ◌<◌, Bool, true, IsTrue, IsNone, List, [], All, length, map, take, slice_index_or, String, string_bytes, None, Some}
use Rattle.std.specs.declared.alloc.Global.{Global}
use Rattle.vs_desk.specs.declared.desk.Way.TheVariants.{Read}
use Rattle.vs_desk.specs.Desk.{Register, Contents, Told, Fails}
use Rattle.vs_desk.specs.Places.{with_places, stimulus_place}
use Rattle.vs_stim.specs.declared.error.StimError.TheVariants as E
use Rattle.vs_stim.specs.Header.{PortLists, lengths, output_lengths}
use Rattle.vs_stim.specs.Known.{Known, remaining, IsReadBy, IsUntold}
use Rattle.vs_stim.specs.Reading.{first_place, reading, refused, header_refusal}
use Rattle.vs_stim.specs.Row.{sizes}
use Rattle.vs_stim.specs.Wanted.{wanted_sizes}
use Rattle.vs_stim.specs.Wants.{IsExpectedOf, is_each_once, expected_lengths}
use Rattle.vs_stim.specs.Source.{IsHeaderError}
use Rattle.vs_feed.specs.declared.reading.Stopped.{Stopped}
use Rattle.vs_feed.specs.Lanes.{lane_at}

-- the bytes of each path
abbrev pub texts : List (String Global) → List (List ℕ)
texts paths = map string_bytes paths

-- the path of lane i
abbrev pub path_at : List (List ℕ) → ℕ → List ℕ
path_at paths i = slice_index_or paths i []

-- the places of the lanes from lane 0 on, attached to these paths
abbrev pub with_lanes : Register → List (List ℕ) → Register
with_lanes register paths = with_places register (stimulus_place 0) Read paths

-- the places of the first lanes, this many, aren't attached
pub record AreFree (register : Register) (lanes : ℕ) : Type 0 where
  pub each : (i : ℕ) → i < lanes → IsNone (register.attached (stimulus_place i))

-- no text of the first lanes, this many, is refused up to its header
pub record HaveHeaders (ports : PortLists) (files : List ℕ → List ℕ) (paths : List (List ℕ)) (lanes : ℕ) : Type 0 where
  pub each : (i : ℕ) → i < lanes → header_refusal ports (files (path_at paths i)) ≡ None

-- The path's stimulus is that of the lane of this number, its text was read up to behind its header, which names outputs of these ports, each at most once,
-- and it is about to give its first vector, where the desk had these contents before and after.
pub record IsOpened (tells : Bool) (ports : PortLists) (before after : Contents) (path : List ℕ) (number : ℕ) (k : Known) : Type 0 where
  pub lane : k.lane ≡ number
  pub live : k.live ≡ true
  pub sizes : sizes k.vector ≡ lengths ports.inputs
  pub count : k.count ≡ 0
  pub named : All (IsExpectedOf (output_lengths ports.outputs)) k.columns.expected
  pub once : is_each_once k.columns.expected ≡ true
  pub wanted_sizes : wanted_sizes k.wanted ≡ expected_lengths k.columns.expected
  pub reading : IsTrue tells → reading ports (before.files path) ≡ remaining k after
  pub read : IsTrue tells → IsReadBy ports (before.files path) k after

-- each lane's stimulus is opened on its path
pub record AreOpened (tells : Bool) (ports : PortLists) (before after : Contents) (paths : List (List ℕ)) (ks : List Known) : Type 0 where
  pub lanes : length ks ≡ length paths
  pub each : (i : ℕ) → i < length ks → IsOpened tells ports before after (path_at paths i) i (lane_at ks i)

-- The attach of this lane's place failed, behind those of the earlier lanes.
abbrev pub AttachFails : {tells : Bool} → List (List ℕ) → Told tells → Told tells → ℕ → Type 0
AttachFails paths old new lane = Fails (with_lanes old.register (take lane paths)) new.register (stimulus_place lane) (path_at paths lane)

-- A take at this lane's place failed, behind the attaches up to its own.
abbrev pub TakeFails : {tells : Bool} → List (List ℕ) → Told tells → Told tells → ℕ → Type 0
TakeFails paths old new lane = Fails (with_lanes old.register (take (lane + 1) paths)) new.register (stimulus_place lane) old.register.asked

-- The first lane whose stimulus can't be opened on its path stopped the opening, with this error.
pub record StopsOpening {tells : Bool} (ports : PortLists) (paths : List (List ℕ)) (old new : Told tells) (stopped : Stopped) : Type 0 where
  pub lane : stopped.lane < length paths
  pub error : IsHeaderError stopped.error
  -- that a header names no output is refused only where it has to
  pub demanded : stopped.error ≡ E.NoExpectation → IsTrue ports.demanded
  -- a refusal is that of the lane's text, and no earlier lane's text has one
  pub refusal : IsTrue tells → stopped.error ≢ E.ReadFault → stopped.error ≢ E.Memory
      → header_refusal ports (old.contents.files (path_at paths stopped.lane)) ≡ Some stopped.error
  pub reading : IsTrue tells → stopped.error ≢ E.ReadFault → stopped.error ≢ E.Memory
      → reading ports (old.contents.files (path_at paths stopped.lane)) ≡ refused stopped.error
  pub before : IsTrue tells → HaveHeaders ports old.contents.files paths stopped.lane
  -- the places up to the lane's own are attached; where there was no memory, it may be those up to the one before
  pub attached : stopped.error ≢ E.ReadFault → stopped.error ≢ E.Memory → new.register ≡ with_lanes old.register (take (stopped.lane + 1) paths)
  pub memory : stopped.error ≡ E.Memory
      → (new.register ≡ with_lanes old.register (take stopped.lane paths)) ⊎ (new.register ≡ with_lanes old.register (take (stopped.lane + 1) paths))
  -- a fault is a failed call at the lane's place, and a take fails only behind bytes that tell neither a header nor a refusal
  pub fault : stopped.error ≡ E.ReadFault → AttachFails paths old new stopped.lane ⊎ TakeFails paths old new stopped.lane
  pub needed : IsTrue tells → stopped.error ≡ E.ReadFault → AttachFails paths old new stopped.lane
      ⊎ IsUntold first_place (old.contents.files (path_at paths stopped.lane)) (new.contents.left (stimulus_place stopped.lane))
