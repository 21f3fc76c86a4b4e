use Rattle.sk_sort.proofs.RuleFound.{rule_found}
use Rattle.sk_sort.proofs.RulesSorted.{rules_sorted}
use Rattle.sk_sort.proofs.laws.hooks_have_rules.Goals as goal

pub returns : goal.returns
returns c = λ w. rule_found c.args.def.now (record { well_sorted = w; rules_sorted = rules_sorted c.args.def.now w })
