use Rattle.std.proofs.Common.{◌≡◌, Some, sym}
use Rattle.std.specs.Prelude.{slice_get}
use Rattle.sk_def.specs.Rules.{rule_of}
use Rattle.sk_abswalk.proofs.RulesFound.{rule_for}
use Rattle.sk_abswalk.proofs.RulesFit.{point_within}
use Rattle.sk_abswalk.proofs.collect_walk.collect_call.Goals as goal

pub collect_rule-requires-clause-rule : goal.collect_rule-requires-clause-rule
collect_rule-requires-clause-rule g c =
    let found : rule_of c.args.checked.now c.args.hook c.con_at-id.result ≡ Some c.in-Some.rule.now = rw c.def-def.ensures.is at (sym c.in-Some.ensures) in
    let hook-is : slice_get c.args.checked.now.hooks c.args.hook.0 ≡ Some c.get-called.result.now = rw (c.def-def.ensures.is, c.from.ensures) at c.get-called.ensures in
    let con-is : slice_get c.args.checked.now.cons c.con_at-id.result.0 ≡ Some c.get-con.result.now = rw (c.def-def.ensures.is, c.from-2.ensures) at c.get-con.ensures in
    rule_for c.args.checked.now c.args.arena.now c.args.hook c.args.point c.con_at-id.result c.in-Some.rule.now c.get-called.result.now c.get-con.result.now c.def-def.ensures.sorted
    c.con_at-id.ensures.con (c.con_at-id.ensures.count c.args.checked.now c.requires.program) found hook-is con-is

pub collect_rule-requires-clause-point : goal.collect_rule-requires-clause-point
collect_rule-requires-clause-point g c = point_within c.args.checked.now c.args.arena.now.nodes c.args.point c.requires.call.hook.sort c.requires.call.point_fits
