-- The bits of a word by a constant address.
use Rattle.std.proofs.Common.{◌≡◌, ℕ, zero, suc, ◌+◌, ◌*◌, Bool, List, [], ◌∷◌, map, replicate, Option, Some, None, ap, ◌∙◌, refl, arith}
use Rattle.std.specs.Prelude.{option_map}
use Rattle.vs_four.specs.Logic.{BitList}
use Rattle.vs_design.specs.Expressions.{Signal, word_length}
use Rattle.vs_design.specs.Values.{count_from, address_place, spread, word_places}
use Rattle.vs_design.specs.Bodies.{bits_at}
use Rattle.vs_values.specs.Environments.{placed}
use Rattle.vs_values.proofs.Wording.{first_of}

pub run_from : (first m k : ℕ) → map (λ p. option_map (λ n. first + n) p) (map Some (count_from m k)) ≡ map Some (count_from (first + m) k)
run_from first m zero = refl
run_from first m (suc k) =
    let z : first + suc m ≡ suc (first + m) = omega arith in
    ap (λ (ps : List (Option ℕ)). Some (first + m) ∷ ps) (run_from first (suc m) k) ∙ ap (λ (n : ℕ). Some (first + m) ∷ map Some (count_from n k)) z

none_placed : (signal : Signal) (env : List ℕ) (k : ℕ) (to : List ℕ) → placed env (bits_at signal (replicate k None)) to ≡ env
none_placed signal env zero to = refl
none_placed signal env (suc k) [] = refl
none_placed signal env (suc k) (t ∷ ts) = none_placed signal env k ts

first_is : {n b : ℕ} → Some n ≡ Some b → n ≡ b
first_is h = cc

-- those from the word's first one on
pub word_run : (signal : Signal) (s : Bool) (address : BitList) (b : ℕ) → first_of signal (address_place signal s address) ≡ Some b → bits_at signal (word_places signal s address) ≡ map Some (count_from b (word_length signal))
word_run signal s address b e = at (address_place signal s address) e
  where
    at : (o : Option ℕ) → first_of signal o ≡ Some b → bits_at signal (spread (word_length signal) o) ≡ map Some (count_from b (word_length signal))
    at None e = cc
    at (Some n) e = run_from signal.first (n * word_length signal) (word_length signal) ∙ ap (λ (m : ℕ). map Some (count_from m (word_length signal))) (first_is e)

-- and where no word has the address, none
pub no_word : (signal : Signal) (s : Bool) (address : BitList) (env to : List ℕ) → first_of signal (address_place signal s address) ≡ None → placed env (bits_at signal (word_places signal s address)) to ≡ env
no_word signal s address env to e = at (address_place signal s address) e
  where
    at : (o : Option ℕ) → first_of signal o ≡ None → placed env (bits_at signal (spread (word_length signal) o)) to ≡ env
    at None e = none_placed signal env (word_length signal) to
    at (Some n) e = cc
