use Rattle.std.specs.Prelude.{Bool, ◌==◌, ◌&&◌, Option, find}
use Rattle.sk_def.specs.declared.ids.HookId.{HookId}
use Rattle.sk_def.specs.declared.ids.ConId.{ConId}
use Rattle.sk_def.specs.declared.def.Rule.{Rule}
use Rattle.sk_def.specs.declared.def.Def.{Def}

-- whether the rule is the one for this hook and constructor
abbrev pub is_rule_for : HookId → ConId → Rule → Bool
is_rule_for hook con rule = (rule.hook.0 == hook.0) && (rule.con.0 == con.0)

-- the first rule for a hook and a constructor
abbrev pub rule_of : Def → HookId → ConId → Option Rule
rule_of d hook con = find (is_rule_for hook con) d.rules
