use Rattle.sk_term.specs.Program.{Program}
use Rattle.sk_table.specs.Written.{HasText}
use Rattle.sk_table.proofs.TableReturned.{printed_returns}
use Rattle.sk_table.proofs.print.print_table.Goals as goal

pub returns-clause-read_back : goal.returns-clause-read_back
returns-clause-read_back g c = λ (program : Program) (h : HasText g.D.NumDom.domain c.args.def.now program c.args.names.now c.args.table.now).
    printed_returns g.D.NumDom.domain g.D.NumDom.texts g.met.D.NumDom.text_laws g.met.D.NumDom.laws.order.is_empty_only c.args.def.now program c.args.names.now c.args.table.now h
    c.loop-triple.out.items c.as_slice-triple-items.result.now c.loop-triple.triple-index c.loop-triple.invariant c.loop-triple-test.false c.as_slice-triple-items.ensures
