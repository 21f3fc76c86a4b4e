use Rattle.sk_term.proofs.OnlyTerms.{only_terms_are_read}
use Rattle.sk_term.proofs.Spelled.{terms_are_read}
use Rattle.sk_term.proofs.laws.terms_are_read_exactly.Goals as goal

pub returns : goal.returns
returns c = λ d names at symbols read end found different. (only_terms_are_read d names at symbols read end, terms_are_read d names at symbols read end found different)
