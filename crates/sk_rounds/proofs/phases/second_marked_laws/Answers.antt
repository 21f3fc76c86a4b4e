use Rattle.sk_rounds.proofs.SecondMarks.{second_marks}
use Rattle.sk_rounds.proofs.phases.second_marked_laws.Goals as goal

pub returns : goal.returns
returns g c = λ w laws callers alike. second_marks _ _ w laws callers alike
