-- The listeners of a network.
use Rattle.std.specs.Prelude.{◌≡◌, ◌<◌, ℕ, Bool, ◌&&◌, ◌==◌, List, [], ◌∷◌, ◌++◌, replicate, slice_index_or, slice_set, slice_get, Some}
use Rattle.std.specs.List.{list_any}
use Rattle.vs_four.specs.declared.Bit4.{Bit4}
use Rattle.vs_net.specs.Network.{Write, Network, senses}
use Rattle.vs_events.specs.declared.listener.Listener.{Listener}
use Rattle.vs_events.specs.Hearing.{hears}

-- one of these is the process, and hears the change
abbrev pub is_heard : List Listener → ℕ → Bit4 → Bit4 → Bool
is_heard ls p old new = list_any (λ (l : Listener). (p == l.process) && hears l old new) ls

-- By bit, those that are sensitive to its changes.
pub record IsWired (n : Network) (table : List (List Listener)) : Type 0 where
  pub exactly : (p : ℕ) (old : Bit4) (w : Write) → senses (n.process p) old w ≡ is_heard (slice_index_or table w.bit []) p old w.value

-- their processes are among these many
abbrev pub AreBelow : ℕ → List Listener → Type 0
AreBelow count ls = (k : ℕ) (l : Listener) → slice_get ls k ≡ Some l → l.process < count

-- that a process is sensitive to changes of a bit
pub record Sensitivity : Type 0 where
  pub bit : ℕ
  pub listener : Listener

abbrev pub after_listen : List (List Listener) → Sensitivity → List (List Listener)
after_listen table s = slice_set table s.bit (slice_index_or table s.bit [] ++ s.listener ∷ [])

abbrev pub after_listens : List (List Listener) → List Sensitivity → List (List Listener)
after_listens table [] = table
after_listens table (s ∷ ss) = after_listens (after_listen table s) ss

-- one of these is that the process is sensitive to this change of the bit
abbrev pub is_sensitive : List Sensitivity → ℕ → ℕ → Bit4 → Bit4 → Bool
is_sensitive ss p b old new = list_any (λ (s : Sensitivity). (b == s.bit) && ((p == s.listener.process) && hears s.listener old new)) ss

abbrev pub AreBits : ℕ → List Sensitivity → Type 0
AreBits count ss = (k : ℕ) (s : Sensitivity) → slice_get ss k ≡ Some s → s.bit < count

-- what listens, one after the other, is what is heard
abbrev pub ListeningIsHeard : Type 0
ListeningIsHeard = (count : ℕ) (ss : List Sensitivity) → AreBits count ss → (p b : ℕ) (old new : Bit4) → is_heard (slice_index_or (after_listens (replicate count []) ss) b []) p old new ≡ is_sensitive ss p b old new
