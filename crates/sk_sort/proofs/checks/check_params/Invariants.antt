use Rattle.std.proofs.Common.{◌≡◌, drop, map}
use Rattle.sk_def.specs.Signatures.{sort_of_param}
use Rattle.sk_sort.specs.Checks.{first_error, argument_checks}
use Rattle.sk_sort.proofs.checks.check_params.Given as goal

abbrev pub invariant-loop-place : goal.invariant-loop-place
invariant-loop-place l =
    first_error (argument_checks l.world (drop l.place l.args) (map sort_of_param (drop l.place l.params))) ≡ first_error (argument_checks l.world l.args (map sort_of_param l.params))
