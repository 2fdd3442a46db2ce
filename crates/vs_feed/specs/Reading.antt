-- What a round of reading makes of the stimuli: each live lane's next vector is read, by lane.
use Rattle.std.specs.Prelude.{◌≡◌, ℕ, ◌+◌, ◌<◌, ◌≤◌, Bool, true, false, IsTrue, List, [], length}
use Rattle.vs_desk.specs.Desk.{Contents}
use Rattle.vs_desk.specs.Places.{stimulus_place}
use Rattle.vs_stim.specs.Header.{PortLists}
use Rattle.vs_stim.specs.Known.{Known, last_entry, remaining, text_left, IsReadBy, IsUntold}
use Rattle.vs_stim.specs.Reading.{whole, with_vector}
use Rattle.vs_stim.specs.Row.{sizes}
use Rattle.vs_stim.specs.Wanted.{wanted_sizes}
use Rattle.vs_feed.specs.Lanes.{lane_at}

-- A stimulus went on to its next vector, or to its end, where the desk had these contents before and after. With its vector its text is
-- read up to there. At its end nothing is left of its text. Its header's columns stay, and the lengths of what it wants of outputs. One that had ended is as it was, with what is left of its text.
pub record Advances (tells : Bool) (before after : Contents) (old new : Known) : Type 0 where
  pub lane : new.lane ≡ old.lane
  pub sizes : sizes new.vector ≡ sizes old.vector
  pub columns : new.columns ≡ old.columns
  pub wanted_sizes : wanted_sizes new.wanted ≡ wanted_sizes old.wanted
  pub ended : old.live ≡ false → new ≡ old
  pub vector : IsTrue tells → old.live ≡ true → new.live ≡ true → remaining old before ≡ with_vector (last_entry new) (remaining new after)
  pub count : old.live ≡ true → new.live ≡ true → new.count ≡ old.count + 1
  pub read : IsTrue tells → old.live ≡ true → new.live ≡ true → (ports : PortLists) (text : List ℕ) → IsReadBy ports text old before → IsReadBy ports text new after
  pub end : IsTrue tells → old.live ≡ true → new.live ≡ false → remaining old before ≡ whole
  pub taken : IsTrue tells → old.live ≡ true → new.live ≡ false → text_left new after ≡ []
  pub kept : IsTrue tells → old.live ≡ false → text_left new after ≡ text_left old before

-- What was taken of the lane's text in this round doesn't tell what is read next.
abbrev pub IsUntoldAt : List Known → ℕ → Contents → Contents → Type 0
IsUntoldAt ks lane old new = IsUntold (lane_at ks lane).at (text_left (lane_at ks lane) old) (new.left (stimulus_place lane))

-- nothing is left of the text of a stimulus that has ended
abbrev pub IsTaken : Contents → Known → Type 0
IsTaken contents k = k.live ≡ false → text_left k contents ≡ []

-- nothing is left of the texts of the lanes that have ended
pub record AreTaken (contents : Contents) (ks : List Known) : Type 0 where
  pub each : (i : ℕ) → i < length ks → IsTaken contents (lane_at ks i)

-- The lanes below the first number have advanced, and those from the last one on are as they were, with what is left of
-- their texts.
pub record AreRead (tells : Bool) (first last : ℕ) (before after : Contents) (olds news : List Known) : Type 0 where
  pub lanes : length news ≡ length olds
  pub advanced : (i : ℕ) → i < first → Advances tells before after (lane_at olds i) (lane_at news i)
  pub waiting : (i : ℕ) → last ≤ i → lane_at news i ≡ lane_at olds i
  pub left : IsTrue tells → (i : ℕ) → last ≤ i → i < length olds → remaining (lane_at news i) after ≡ remaining (lane_at olds i) before
  pub texts : IsTrue tells → (i : ℕ) → last ≤ i → i < length olds → text_left (lane_at news i) after ≡ text_left (lane_at olds i) before

-- the vectors drive inputs of the same lengths as before
pub record SameSizes (olds news : List Known) : Type 0 where
  pub lanes : length news ≡ length olds
  pub each : (i : ℕ) → sizes (lane_at news i).vector ≡ sizes (lane_at olds i).vector
