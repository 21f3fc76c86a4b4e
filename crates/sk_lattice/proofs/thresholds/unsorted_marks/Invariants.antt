use Rattle.std.proofs.Common.{◌≡◌, ◌++◌, drop}
use Rattle.sk_lattice.specs.Thresholds.{all_marks, near_all}
use Rattle.sk_lattice.proofs.thresholds.unsorted_marks.Given as goal

abbrev pub invariant-loop-literal : goal.invariant-loop-literal
invariant-loop-literal l = l.marks.items ++ near_all (drop l.literal-index l.literals) ≡ all_marks l.literals
