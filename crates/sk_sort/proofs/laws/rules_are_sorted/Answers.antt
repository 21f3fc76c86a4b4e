use Rattle.sk_sort.proofs.RulesSorted.{rules_sorted}
use Rattle.sk_sort.proofs.laws.rules_are_sorted.Goals as goal

pub returns : goal.returns
returns c = rules_sorted c.args.def.now
