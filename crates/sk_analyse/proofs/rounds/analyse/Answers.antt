use Rattle.sk_deriv.specs.Moves.{setting_of}
use Rattle.sk_abswalk.specs.Reading.{walks_of}
use Rattle.sk_analyse.specs.Tabled.{tabled}
use Rattle.sk_analyse.proofs.Concluding.{triples_are, concluded}
use Rattle.sk_analyse.proofs.rounds.analyse.Goals as goal

pub returns-clause-analysed : goal.returns-clause-analysed
returns-clause-analysed g c =
    let T = tabled c.in_ok-last.last.sides in
    record {
      table = T;
      triples_are = triples_are (walks_of g.D.NumDom.domain g.D.NumDom.FINITE c.args.marks.now (setting_of c.args.checked.now c.args.arena.now) c.args.covers.now) T c.in_ok-list.list c.in_ok-table.table c.in_ok-list.ensures c.in_ok-table.ensures;
      analysed = c.in_ok-last.ensures;
    }

pub returns-clause-in_time : goal.returns-clause-in_time
returns-clause-in_time g c =
    let T = tabled c.in_ok-last.last.sides in
    let def = c.args.checked.now in
    let program = c.args.arena.now in
    let covers = c.args.covers.now in
    let marks = c.args.marks.now in
    let rounds = c.in_ok-last.last.rounds in
    (concluded _ g.D.NumDom.domain g.D.NumDom.FINITE def program covers marks T rounds c.in_ok-list.list c.in_ok-table.table
    (c.analysed_tables_are_accepted.ensures def program covers marks c.def-def.ensures.sorted.well_sorted c.requires.program c.increase.ensures c.requires.covers T rounds c.in_ok-last.ensures) c.in_ok-list.ensures c.in_ok-table.ensures).in_time

pub returns-clause-fits : goal.returns-clause-fits
returns-clause-fits g c =
    let T = tabled c.in_ok-last.last.sides in
    let def = c.args.checked.now in
    let program = c.args.arena.now in
    let covers = c.args.covers.now in
    let marks = c.args.marks.now in
    let rounds = c.in_ok-last.last.rounds in
    (concluded _ g.D.NumDom.domain g.D.NumDom.FINITE def program covers marks T rounds c.in_ok-list.list c.in_ok-table.table
    (c.analysed_tables_are_accepted.ensures def program covers marks c.def-def.ensures.sorted.well_sorted c.requires.program c.increase.ensures c.requires.covers T rounds c.in_ok-last.ensures) c.in_ok-list.ensures c.in_ok-table.ensures).fits

pub returns-clause-one_per_key : goal.returns-clause-one_per_key
returns-clause-one_per_key g c =
    let T = tabled c.in_ok-last.last.sides in
    let def = c.args.checked.now in
    let program = c.args.arena.now in
    let covers = c.args.covers.now in
    let marks = c.args.marks.now in
    let rounds = c.in_ok-last.last.rounds in
    (concluded _ g.D.NumDom.domain g.D.NumDom.FINITE def program covers marks T rounds c.in_ok-list.list c.in_ok-table.table
    (c.analysed_tables_are_accepted.ensures def program covers marks c.def-def.ensures.sorted.well_sorted c.requires.program c.increase.ensures c.requires.covers T rounds c.in_ok-last.ensures) c.in_ok-list.ensures c.in_ok-table.ensures).one_per_key

pub returns-clause-accepted : goal.returns-clause-accepted
returns-clause-accepted g c =
    let T = tabled c.in_ok-last.last.sides in
    let def = c.args.checked.now in
    let program = c.args.arena.now in
    let covers = c.args.covers.now in
    let marks = c.args.marks.now in
    let rounds = c.in_ok-last.last.rounds in
    (concluded _ g.D.NumDom.domain g.D.NumDom.FINITE def program covers marks T rounds c.in_ok-list.list c.in_ok-table.table
    (c.analysed_tables_are_accepted.ensures def program covers marks c.def-def.ensures.sorted.well_sorted c.requires.program c.increase.ensures c.requires.covers T rounds c.in_ok-last.ensures) c.in_ok-list.ensures c.in_ok-table.ensures).accepted

pub returns-clause-least : goal.returns-clause-least
returns-clause-least g c =
    let T = tabled c.in_ok-last.last.sides in
    let def = c.args.checked.now in
    let program = c.args.arena.now in
    let covers = c.args.covers.now in
    let marks = c.args.marks.now in
    let rounds = c.in_ok-last.last.rounds in
    (concluded _ g.D.NumDom.domain g.D.NumDom.FINITE def program covers marks T rounds c.in_ok-list.list c.in_ok-table.table
    (c.analysed_tables_are_accepted.ensures def program covers marks c.def-def.ensures.sorted.well_sorted c.requires.program c.increase.ensures c.requires.covers T rounds c.in_ok-last.ensures) c.in_ok-list.ensures c.in_ok-table.ensures).least
