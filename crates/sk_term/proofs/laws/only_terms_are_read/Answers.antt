use Rattle.sk_term.proofs.OnlyTerms.{only_terms_are_read}
use Rattle.sk_term.proofs.laws.only_terms_are_read.Goals as goal

pub returns : goal.returns
returns c = only_terms_are_read
