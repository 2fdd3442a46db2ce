-- Prefixes of a run of bytes of one class.
use Rattle.std.proofs.Common.{◌≡◌, ℕ, zero, suc, ◌+◌, ◌<◌, ◌≤◌, Bool, true, false, ◌&&◌, cond, List, [], ◌∷◌, refl, length, take, arith}
use Rattle.std.specs.List.{prefix_len, list_all}
use Rattle.vs_lexer.specs.Tokens.{some_of}

pub front_passes : (p : ℕ → Bool) (bs : List ℕ) (m : ℕ) → m ≤ prefix_len p bs → list_all p (take m bs) ≡ true
front_passes p [] zero h = refl
front_passes p [] (suc m) h = absurd (omega arith)
front_passes p (b ∷ bs) zero h = refl
front_passes p (b ∷ bs) (suc m) h = go (p b) (front_passes p bs m) h
  where
    go : (x : Bool) → (m ≤ prefix_len p bs → list_all p (take m bs) ≡ true) → suc m ≤ cond x (1 + prefix_len p bs) 0 → (x && list_all p (take m bs)) ≡ true
    go true ih k = ih (omega arith)
    go false ih k = absurd (omega arith)

pub front_fails : (p : ℕ → Bool) (bs : List ℕ) (m : ℕ) → prefix_len p bs < m → m ≤ length bs → list_all p (take m bs) ≡ false
front_fails p [] m h k = absurd (omega arith)
front_fails p (b ∷ bs) zero h k = absurd (omega arith)
front_fails p (b ∷ bs) (suc m) h k = go (p b) (front_fails p bs m) h
  where
    go : (x : Bool) → (prefix_len p bs < m → m ≤ length bs → list_all p (take m bs) ≡ false) → cond x (1 + prefix_len p bs) 0 < suc m → (x && list_all p (take m bs)) ≡ false
    go true ih j = ih (omega arith) (omega arith)
    go false ih j = refl

-- the same for a run that is not empty
pub some_passes : (p : ℕ → Bool) (bs : List ℕ) (m : ℕ) → 0 < m → m ≤ length bs → m ≤ prefix_len p bs → some_of p (take m bs) ≡ true
some_passes p [] m a b h = absurd (omega arith)
some_passes p (b ∷ bs) zero a k h = absurd (omega arith)
some_passes p (b ∷ bs) (suc m) a k h = front_passes p (b ∷ bs) (suc m) h

pub some_fails : (p : ℕ → Bool) (bs : List ℕ) (m : ℕ) → prefix_len p bs < m → m ≤ length bs → some_of p (take m bs) ≡ false
some_fails p [] m h k = absurd (omega arith)
some_fails p (b ∷ bs) zero h k = absurd (omega arith)
some_fails p (b ∷ bs) (suc m) h k = front_fails p (b ∷ bs) (suc m) h k

pub none_passes : (p : ℕ → Bool) (bs : List ℕ) (m : ℕ) → prefix_len p bs ≡ 0 → m ≤ length bs → some_of p (take m bs) ≡ false
none_passes p [] zero h k = refl
none_passes p [] (suc m) h k = refl
none_passes p (b ∷ bs) zero h k = refl
none_passes p (b ∷ bs) (suc m) h k = front_fails p (b ∷ bs) (suc m) (omega arith) k
