use Rattle.sk_lex.proofs.Words.{plain_word_spells}
use Rattle.sk_lex.proofs.laws.word_reads_back.Goals as goal

pub returns : goal.returns
returns c = plain_word_spells
