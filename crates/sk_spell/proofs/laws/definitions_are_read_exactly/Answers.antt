use Rattle.sk_spell.proofs.Definitions.{definitions_exactly}
use Rattle.sk_spell.proofs.laws.definitions_are_read_exactly.Goals as goal

pub returns : goal.returns
returns c = definitions_exactly
