use Rattle.sk_sort.proofs.Placed.{rule_placed}
use Rattle.sk_sort.proofs.laws.bones_are_placed.Goals as goal

pub returns : goal.returns
returns c = rule_placed c.args.def.now c.args.rule.now c.args.hook.now c.args.con.now c.requires
