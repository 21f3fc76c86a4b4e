-- The text of a definition.
use Rattle.std.specs.Prelude.{ℕ, List, map, Result, Ok, Err}
use Rattle.sk_base.specs.Answer.{◌>>=◌}
use Rattle.sk_base.specs.Place.{place_at}
use Rattle.sk_lex.specs.Symbols.{symbols, place_in}
use Rattle.sk_lex.specs.Tokens.{tokens_of}
use Rattle.sk_lex.specs.declared.token.Token.{Token}
use Rattle.sk_lex.specs.declared.token.LexError.{LexError}
use Rattle.sk_deftext.specs.Faults.{fault_of}
use Rattle.sk_deftext.specs.Reading.{read_symbols}
use Rattle.sk_deftext.specs.declared.draft.Draft.{Draft}
use Rattle.sk_deftext.specs.declared.source.Source.{Source}
use Rattle.sk_deftext.specs.declared.fault.DefError.{DefError}
use Rattle.sk_deftext.specs.declared.fault.DefFault.{DefFault}
use Rattle.sk_deftext.specs.declared.fault.DefFault.TheVariants.{Lex}

-- a lexical error stands at its byte
abbrev pub lexed : List ℕ → Result (List Token) (LexError × ℕ) → Result (List Token) DefFault
lexed text (Ok tokens) = Ok tokens
lexed text (Err (error, at)) = Err (Lex error (place_at text at))

-- what was read, with the places of its parts in the text
abbrev pub source_of : List ℕ → List Token → Draft → Source
source_of text tokens draft = record {
  def = draft.def;
  places = record { hooks = map (place_in text tokens) draft.hooks; rules = map (map (place_in text tokens)) draft.rules };
}

-- what was read with its places, or a refusal, which stands at its token
abbrev pub located : List ℕ → List Token → Result Draft (DefError × ℕ) → Result Source DefFault
located text tokens (Ok draft) = Ok (source_of text tokens draft)
located text tokens (Err (error, number)) = Err (fault_of error (place_in text tokens number))

-- a definition's text: what it says and where, or its fault
unfoldable pub read_definition : List ℕ → Result Source DefFault
read_definition text = lexed text (tokens_of text) >>= λ tokens. located text tokens (read_symbols (symbols text tokens))
