use Rattle.std.proofs.Common.{◌≡◌, ◌∙◌, ap, subst, true, length}
use Rattle.sk_def.specs.Sorts.{Sorts}
use Rattle.sk_sort.proofs.RuleParts.{header_long}
use Rattle.sk_walk.specs.Sorted.{Sorted}
use Rattle.sk_deriv.specs.Moves.{setting_of}
use Rattle.sk_concrete.specs.Fitting.{worlds_fit}
use Rattle.sk_concrete.proofs.WorldsFit.{outputs_there}
use Rattle.sk_concrete.proofs.RulesWalked.{rule_walked, rule_stopped}
use Rattle.sk_concrete.proofs.derive.walk_rule.Goals as goal

pub walk-requires-clause-fit : goal.walk-requires-clause-fit
walk-requires-clause-fit c =
    let long : length c.in_ok-worlds.worlds.sorts ≡ length c.args.rule.now.vars =
    ap (λ (g : Sorts). length g) c.in_ok-worlds.ensures.sorts ∙ header_long c.args.rule.now c.args.hook.now c.args.con.now in
    rw (c.new-reading.ensures.reads, long) c.requires.rule.bones_fit

pub returns-in-Ok-clause-walks : goal.returns-in-Ok-clause-walks
returns-in-Ok-clause-walks c =
    rule_walked (setting_of c.args.checked.now c.args.arena.now) c.args.call.now c.args.rule.now c.args.handed.now c.new-reading.result c.walk.new.interp c.in_ok-worlds.worlds
    (record { names_are = c.new-reading.ensures.over ∙ c.names-names.ensures; point_is = c.new-reading.ensures.at; handed_are = c.new-reading.ensures.handed; one = c.in_ok-worlds.ensures.list })
    c.in-Ok.worlds c.in-Ok.ensures.answers

pub returns-in-Err-Stop-clause-walks : goal.returns-in-Err-Stop-clause-walks
returns-in-Err-Stop-clause-walks c =
    rule_stopped (setting_of c.args.checked.now c.args.arena.now) c.args.call.now c.args.rule.now c.args.handed.now c.new-reading.result c.walk.new.interp c.in_ok-worlds.worlds
    (record { names_are = c.new-reading.ensures.over ∙ c.names-names.ensures; point_is = c.new-reading.ensures.at; handed_are = c.new-reading.ensures.handed; one = c.in_ok-worlds.ensures.list })
    c.in-Err-Stop.stop (rw c.in-Err-Stop.field-0-is at c.in-Err-Stop.ensures.answers)

pub returns-in-Ok-clause-outputs : goal.returns-in-Ok-clause-outputs
returns-in-Ok-clause-outputs c =
    let sorted : Sorted c.new-reading.result.checked.now c.new-reading.result.own 1 c.args.rule.now.bones c.in_ok-worlds.worlds.sorts c.requires.rule.after =
    rw (c.new-reading.ensures.reads, c.new-reading.ensures.sort, c.in_ok-worlds.ensures.sorts) c.requires.rule.bones_sorted in
    let same : c.in-Ok.worlds.sorts ≡ c.requires.rule.after = c.in-Ok.ensures.sorts_after.checked c.requires.rule.after sorted in
    outputs_there c.requires.rule.after c.args.rule.now.outputs c.args.hook.now.outputs c.in-Ok.worlds.list c.requires.rule.outputs_sorted
    (subst (λ (g : Sorts). worlds_fit g c.in-Ok.worlds.list ≡ true) same c.in-Ok.worlds.fit)
