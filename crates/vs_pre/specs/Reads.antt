-- As which tokens a text is read.
use Rattle.std.specs.Prelude.{◌≡◌, ℕ, List, Ok}
use Rattle.vs_lexer.specs.declared.token.Token.{Token}
use Rattle.vs_lexer.specs.Cuts.{cut_text}
use Rattle.vs_pre.specs.Preprocessing.{pre}

-- The text is cut into tokens (IEEE 1364-2005, clause 3), no more than the limit, and these are what they become where its macros and conditional
-- parts are resolved (19.3, 19.4), its attributes are skipped (3.8), and sizes that stand in front of their numbers are put to them (3.5.1).
pub record ReadsAs (text : List ℕ) (tokens : List Token) : Type 0 where
  pub written : List Token
  pub cut : cut_text text ≡ Ok written
  pub resolved : pre text written ≡ Ok tokens
