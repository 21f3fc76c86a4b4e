use Rattle.std.proofs.Common.{◌≡◌, ◌∙◌, ap, length}
use Rattle.std.proofs.lemmas.Result.{IfOk-weaker}
use Rattle.sk_def.specs.Sorts.{Sorts}
use Rattle.sk_sort.proofs.RuleParts.{header_long}
use Rattle.sk_constr.proofs.KeysMade.{key_made}
use Rattle.sk_constr.proofs.making.key_lines.Goals as goal

pub walk-requires-clause-fit : goal.walk-requires-clause-fit
walk-requires-clause-fit c =
    let of = c.rule_of_key.result in
    let long : length c.in_ok-world.world.sorts ≡ length of.rule.now.vars =
    ap (λ (g : Sorts). length g) c.in_ok-world.ensures.sorts ∙ header_long of.rule.now of.hook.now of.con.now in
    rw (c.new-reading.ensures.reads, long) c.rule_of_key.ensures.bones_fit

pub returns-in-Ok : goal.returns-in-Ok
returns-in-Ok c =
    let of = c.rule_of_key.result in
    let k = c.rule_of_key.ensures in
    IfOk-weaker c.close.result _ _ (λ lines is.
    key_made c.args.checked.now c.args.arena.now.nodes c.args.id c.args.point of.rule.now of.hook.now of.con.now k c.new-reading.result c.walk.new.interp c.in_ok-world.world c.in-Ok.world lines
    c.new-reading.ensures.reads c.new-reading.ensures.at
    (c.in_ok-world.ensures.env k.node k.node_is) c.in_ok-world.ensures.sorts c.in_ok-world.ensures.from c.in_ok-world.ensures.lines c.in_ok-world.ensures.positions
    c.in-Ok.ensures.answers is)
    c.close.ensures
