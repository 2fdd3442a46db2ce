-- What a reader of one place does to a desk.
use Rattle.std.specs.Prelude.{◌≡◌, ◌≢◌, ℕ, Bool, IsTrue, Result, Err}
use Rattle.vs_desk.specs.Desk.{Contents, Told, Fails}

-- nothing changed but what is left to take at the place
pub record OnlyTaken (place : ℕ) (old new : Contents) : Type 0 where
  pub files : new.files ≡ old.files
  pub put : new.put ≡ old.put
  pub left : (p : ℕ) → p ≢ place → new.left p ≡ old.left p

-- A call that takes bytes at one place, and answers this error where a take fails.
pub record TakesAt {tells : Bool} {V E : Type 0} (place : ℕ) (old new : Told tells) (fault : E) (result : Result V E) : Type 0 where
  -- every other answer leaves the places and the counts
  pub same : result ≢ Err fault → new.register ≡ old.register
  -- this one is a failed call at the place
  pub failed : result ≡ Err fault → Fails old.register new.register place old.register.asked
  -- of the bytes only what is left to take at the place changes
  pub others : IsTrue tells → OnlyTaken place old.contents new.contents
