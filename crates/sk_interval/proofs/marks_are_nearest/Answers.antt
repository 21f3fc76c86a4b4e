use Rattle.sk_interval.proofs.Searches.{marks_are_nearest}
use Rattle.sk_interval.proofs.marks_are_nearest.Goals as goal

pub returns : goal.returns
returns c = marks_are_nearest
