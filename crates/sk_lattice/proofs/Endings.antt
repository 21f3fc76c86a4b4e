-- A word ends where an element's text does.
use Rattle.std.proofs.Common.{ℕ, List, [], ◌∷◌}
use Rattle.sk_lex.specs.Spelling.{NoWord}
use Rattle.sk_lex.proofs.Words.{mark_ends_word}
use Rattle.sk_lattice.specs.DomainTexts.{EndsElement}

pub word_ends : (rest : List ℕ) → EndsElement rest → NoWord rest
word_ends [] h = tt
word_ends (c ∷ rest) h = mark_ends_word c h
