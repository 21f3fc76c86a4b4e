use Rattle.std.proofs.Common.{◌≡◌, ◌++◌, drop}
use Rattle.std.specs.Prelude.{flat_map}
use Rattle.sk_deftext.specs.Canonical.{con_line}
use Rattle.sk_deftext.proofs.print.put_cons.Given as goal

abbrev pub invariant-loop-con : goal.invariant-loop-con
invariant-loop-con l = l.out.items ++ flat_map (con_line l.sorts) (drop l.con-index l.cons) ≡ l.fn.out.items ++ flat_map (con_line l.sorts) l.cons
