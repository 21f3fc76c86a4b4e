use Rattle.sk_term.proofs.Programs.{leaves_are_literals}
use Rattle.sk_term.proofs.laws.leaves_are_literals.Goals as goal

pub returns : goal.returns
returns c = leaves_are_literals
