use Rattle.std.proofs.Common.{rules, arith}
use Rattle.std.proofs.lemmas.Option.{slice_get_within}
use Rattle.sk_constr.proofs.RulesFound.{key_parts, has_rule, rule_of_parts}
use Rattle.sk_constr.proofs.start.rule_of_key.Goals as goal

pub unwrap-rule-requires : goal.unwrap-rule-requires
unwrap-rule-requires c =
    let p = key_parts c.args.checked.now c.args.arena.now.nodes c.args.id c.args.point c.con_at-con.result c.con_at-con.ensures.con c.requires.hook c.requires.takes in
    let some = has_rule c.args.checked.now c.args.arena.now.nodes c.args.id c.args.point c.con_at-con.result c.def-def.ensures.sorted p in
    search (rules, some)

pub get-requires-2 : goal.get-requires-2
get-requires-2 c =
    let p = key_parts c.args.checked.now c.args.arena.now.nodes c.args.id c.args.point c.con_at-con.result c.con_at-con.ensures.con c.requires.hook c.requires.takes in
    let l = slice_get_within c.args.checked.now.cons c.con_at-con.result.0 p.entry p.entry_is in
    rw c.def-def.ensures.is (omega (arith, c.from-2.ensures, l))

pub returns : goal.returns
returns c =
    let p = key_parts c.args.checked.now c.args.arena.now.nodes c.args.id c.args.point c.con_at-con.result c.con_at-con.ensures.con c.requires.hook c.requires.takes in
    rule_of_parts c.args.checked.now c.args.arena.now.nodes c.args.id c.args.point c.con_at-con.result c.unwrap-rule.result.now c.get.result.now c.get-2.result.now c.def-def.ensures.sorted p
    (search rules) (rw (c.def-def.ensures.is, c.from.ensures) at c.get.ensures) (rw (c.def-def.ensures.is, c.from-2.ensures) at c.get-2.ensures)
    (c.con_at-con.ensures.count c.args.checked.now c.requires.program)
