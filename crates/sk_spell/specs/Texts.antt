-- Texts by their symbols.
use Rattle.std.specs.Prelude.{◌≡◌, ℕ, List, Ok}
use Rattle.sk_lex.specs.Symbols.{Symbol, symbols}
use Rattle.sk_lex.specs.Tokens.{tokens_of}
use Rattle.sk_lex.specs.declared.token.Token.{Token}

-- a text has tokens, and this holds of their symbols
pub record TokensAre (Holds : List Symbol → Type 0) (text : List ℕ) : Type 0 where
  pub tokens : List Token
  pub are : tokens_of text ≡ Ok tokens
  pub holds : Holds (symbols text tokens)
