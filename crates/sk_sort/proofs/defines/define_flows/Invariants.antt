use Rattle.std.proofs.Common.{◌≡◌, drop, length, map, Some}
use Rattle.sk_base.specs.declared.flow.FlowSort.{FlowSort}
use Rattle.sk_def.specs.declared.sorts.VarSort.TheVariants.{Flow}
use Rattle.sk_def.specs.Sorts.{define}
use Rattle.sk_sort.proofs.defines.define_flows.Given as goal

abbrev pub invariant-loop-place : goal.invariant-loop-place
invariant-loop-place l =
    (define l.world (drop l.place l.variables) (map (λ (s : FlowSort). Some (Flow s)) (drop l.place l.flows))
    ≡ define l.fn.world l.variables (map (λ (s : FlowSort). Some (Flow s)) l.flows)) × (length l.world ≡ length l.fn.world)
