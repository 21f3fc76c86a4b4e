use Rattle.std.proofs.Common.{◌≡◌, ◌++◌, drop}
use Rattle.std.specs.Prelude.{flat_map}
use Rattle.sk_deftext.specs.Canonical.{sort_line}
use Rattle.sk_deftext.proofs.print.put_sorts.Given as goal

abbrev pub invariant-loop-name : goal.invariant-loop-name
invariant-loop-name l = l.out.items ++ flat_map sort_line (drop l.name-index l.sorts) ≡ l.fn.out.items ++ flat_map sort_line l.sorts
