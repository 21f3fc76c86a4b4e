use Rattle.std.proofs.Common.{List, subst}
use Rattle.sk_deriv.specs.Moves.{setting_of}
use Rattle.sk_table.specs.declared.triple.Triple.{Triple}
use Rattle.sk_abswalk.specs.FromTable.{GivesFrom}
use Rattle.sk_abswalk.specs.Tables.{table_answer}
use Rattle.sk_abswalk.specs.Walk.{abstract_outputs}
use Rattle.sk_abswalk.proofs.walk.walk_from.Goals as goal

pub returns : goal.returns
returns g c =
    let d = g.D.NumDom.domain in
    subst (λ (table : List (Triple _)). GivesFrom (abstract_outputs d (table_answer d table) (setting_of c.args.checked.now c.args.arena.now) (record { hook = c.args.hook; point = c.args.point; ins = c.args.ins.now })) c.walk_indexed.result)
    c.in-Ok.ensures c.walk_indexed.ensures
