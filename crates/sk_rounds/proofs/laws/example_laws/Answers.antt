use Rattle.std.proofs.Common.{refl}
use Rattle.sk_rounds.proofs.Example.{counting_laws, counting_ends, caller_laws, meet_laws}
use Rattle.sk_rounds.proofs.laws.example_laws.Goals as goal

pub returns : goal.returns
returns c = record { laws = counting_laws; callers = caller_laws; meets = meet_laws; third = refl; last = counting_ends; last_inputs = refl; last_outputs = refl; bound = refl }
