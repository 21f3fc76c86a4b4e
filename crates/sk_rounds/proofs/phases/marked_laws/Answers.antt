use Rattle.sk_rounds.proofs.Marking.{marked_laws}
use Rattle.sk_rounds.proofs.phases.marked_laws.Goals as goal

pub returns : goal.returns
returns g c = λ w laws callers alike. marked_laws _ _ w laws callers alike
