-- The files of a design, read again one behind the other.
use Rattle.std.specs.Prelude.{◌≡◌, ℕ, suc, ◌+◌, ◌-◌, ◌<◌, ◌≤◌, nat_lt, Bool, IsTrue, List, [], ◌∷◌, ◌++◌, length, take, if◌then◌else◌}
use Rattle.vs_reread.specs.Again.{most_bytes}
use Rattle.vs_setup.specs.DesignText.{joined_files}

-- the bytes at which further files begin, behind a line feed each, where a text has room for so many bytes and these are taken: one for which there is no room doesn't begin
abbrev pub starts_from : (room : ℕ) → (files : List ℕ → List ℕ) → (taken : ℕ) → List (List ℕ) → List ℕ
starts_from room files taken [] = []
starts_from room files taken (path ∷ paths) = if nat_lt taken room then suc taken ∷ starts_from room files (suc taken + length (files path)) paths else []

abbrev pub file_starts : (room : ℕ) → (files : List ℕ → List ℕ) → List ℕ → List (List ℕ) → List ℕ
file_starts room files design others = starts_from room files (length (files design)) others

-- the text is the head with the first bytes of a design's files behind it, as many as a text may have, and its further files begin at these bytes of them, where the desk tells
-- of these files
pub record IsJoined (tells : Bool) (head : List ℕ) (files : List ℕ → List ℕ) (design : List ℕ) (others : List (List ℕ)) (text starts : List ℕ) : Type 0 where
  pub taken : List ℕ
  pub text_is : text ≡ head ++ taken
  pub taken_is : IsTrue tells → taken ≡ take (most_bytes - length head) (joined_files files design others)
  pub starts_are : IsTrue tells → starts ≡ file_starts (most_bytes - length head) files design others

-- One more file of these bytes was read behind the text, where that has room for a line feed.
pub record JoinsNext (tells : Bool) (head file text starts grown more : List ℕ) : Type 0 where
  pub full : most_bytes ≤ length text → (grown ≡ text) × (more ≡ starts)
  pub joined : length text < most_bytes → (taken : List ℕ) × (grown ≡ (text ++ 10 ∷ []) ++ taken) × (IsTrue tells → taken ≡ take (most_bytes - length (text ++ 10 ∷ [])) file)
      × (more ≡ starts ++ (length text + 1 - length head) ∷ [])
