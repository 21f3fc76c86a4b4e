use Rattle.std.proofs.Common.{◌≡◌, ◌++◌, drop}
use Rattle.std.specs.Prelude.{flat_map}
use Rattle.sk_deftext.specs.Canonical.{rule_text}
use Rattle.sk_deftext.proofs.print.put_rules.Given as goal

abbrev pub invariant-loop-rule : goal.invariant-loop-rule
invariant-loop-rule l = l.out.items ++ flat_map (rule_text l.def) (drop l.rule-index l.def.rules) ≡ l.fn.out.items ++ flat_map (rule_text l.def) l.def.rules
