use Rattle.std.proofs.Common.{◌≡◌, drop, map}
use Rattle.sk_def.specs.declared.sorts.VarSort.TheVariants.{Flow}
use Rattle.sk_sort.specs.Checks.{first_error, argument_checks}
use Rattle.sk_sort.proofs.checks.check_flows.Given as goal

abbrev pub invariant-loop-place : goal.invariant-loop-place
invariant-loop-place l =
    first_error (argument_checks l.world (drop l.place l.variables) (map Flow (drop l.place l.flows))) ≡ first_error (argument_checks l.world l.variables (map Flow l.flows))
