use Rattle.std.proofs.Common.{rules, ◌≡◌, ◌∙◌, length, ap, sym, subst, Some}
use Rattle.sk_def.specs.Layout.{BonesFit}
use Rattle.sk_sort.specs.Rules.{header_sorts}
use Rattle.sk_abswalk.specs.RuleAt.{start_at}
use Rattle.sk_sort.proofs.RuleParts.{header_long}
use Rattle.sk_abswalk.proofs.CollectFrom.{walk_goes, walk_stops}
use Rattle.sk_abswalk.proofs.collect_walk.collect_rule.Goals as goal

pub walk-requires-clause-fit : goal.walk-requires-clause-fit
walk-requires-clause-fit g c =
    let e : c.in_ok-sorts.sorts ≡ header_sorts c.args.rule.now c.args.hook.now c.args.con.now = search rules in
    subst (λ n. BonesFit (length c.args.reading.now.checked.now.hooks) n 8 c.args.rule.now.bones) (sym (ap length e ∙ header_long c.args.rule.now c.args.hook.now c.args.con.now)) c.requires.rule.bones_fit

pub returns-in-Err-Stop : goal.returns-in-Err-Stop
returns-in-Err-Stop g c =
    let e : c.in_ok-env.env ≡ start_at c.args.arena.now.nodes c.args.rule.now c.args.reading.now.point c.args.ins.now = search rules in
    rw c.in-Err-Stop.field-0-is (walk_stops _ _ g.D.NumDom.domain g.T.KeyOutputs.by_key c.args.reading.now c.args.arena.now c.args.id c.args.rule.now c.args.hook.now c.args.con.now c.requires.rule c.requires.names c.args.ins.now
    (record { sorts = c.in_ok-sorts.sorts; env = Some c.in_ok-env.env }) c.walk.new.interp c.in-Err-Stop.stop (ap Some e) (rw c.in-Err-Stop.field-0-is at c.in-Err-Stop.ensures.answers))

pub returns-in-Ok : goal.returns-in-Ok
returns-in-Ok g c =
    let e : c.in_ok-env.env ≡ start_at c.args.arena.now.nodes c.args.rule.now c.args.reading.now.point c.args.ins.now = search rules in
    walk_goes _ _ g.D.NumDom.domain g.T.KeyOutputs.by_key c.args.reading.now c.args.arena.now c.args.id c.args.rule.now c.args.hook.now c.args.con.now c.requires.rule c.requires.names c.args.ins.now
    (record { sorts = c.in_ok-sorts.sorts; env = Some c.in_ok-env.env }) c.in-Ok.world c.walk.new.interp c.close.result (ap Some e) c.in-Ok.ensures.answers c.close.ensures
