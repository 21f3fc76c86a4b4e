use Rattle.std.proofs.Common.{◌≡◌, ◌++◌, ◌-◌}
use Rattle.sk_deftext.specs.Canonical.{indent}
use Rattle.sk_deftext.proofs.print.put_indent.Given as goal

abbrev pub invariant-loop : goal.invariant-loop
invariant-loop l = l.out.items ++ indent (l.level - l.counter) ≡ l.fn.out.items ++ indent l.level
