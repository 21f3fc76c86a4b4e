use Rattle.sk_interval.proofs.Spelled.{spellings_are_taken}
use Rattle.sk_interval.proofs.spellings_are_taken.Goals as goal

pub returns : goal.returns
returns c = spellings_are_taken
