use Rattle.std.proofs.Common.{◌≡◌, ◌++◌, take}
use Rattle.sk_table.specs.Texts.{first_line, triples_text}
use Rattle.sk_table.proofs.print.print_table.Given as goal

abbrev pub invariant-loop-triple : goal.invariant-loop-triple
invariant-loop-triple g l = l.out.items ≡ first_line g.D.NumDom.texts ++ triples_text g.D.NumDom.domain g.D.NumDom.texts l.def l.names (take l.triple-index l.triple-items)
