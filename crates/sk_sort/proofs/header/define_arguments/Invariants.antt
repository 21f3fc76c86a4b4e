use Rattle.std.proofs.Common.{◌≡◌, drop, length, map, Some}
use Rattle.sk_def.specs.declared.sorts.ArgSort.{ArgSort}
use Rattle.sk_def.specs.Sorts.{define}
use Rattle.sk_sort.specs.Rules.{arg_sort}
use Rattle.sk_sort.proofs.header.define_arguments.Given as goal

abbrev pub invariant-loop-place : goal.invariant-loop-place
invariant-loop-place l =
    (define l.world (drop l.place l.variables) (map (λ (a : ArgSort). Some (arg_sort a)) (drop l.place l.sorts))
    ≡ define l.fn.world l.variables (map (λ (a : ArgSort). Some (arg_sort a)) l.sorts)) × (length l.world ≡ length l.fn.world)
