use Rattle.sk_least.proofs.Spans.{spans_least}
use Rattle.sk_least.proofs.laws.spans_are_least.Goals as goal

pub returns : goal.returns
returns c = spans_least
