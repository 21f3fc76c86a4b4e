-- Whether two sorts are one, as a test.
use Rattle.std.specs.Prelude.{Bool, true, false, ◌==◌, Option, Some}
use Rattle.sk_base.specs.declared.flow.FlowSort.{FlowSort}
use Rattle.sk_def.specs.declared.sorts.VarSort.{VarSort}
use Rattle.sk_def.specs.declared.sorts.VarSort.TheVariants.{Number, Name, Term, Flow}

-- the two sorts of values are one
abbrev pub same_flow : FlowSort → FlowSort → Bool
same_flow FlowSort.Int FlowSort.Int = true
same_flow FlowSort.Bool FlowSort.Bool = true
same_flow FlowSort.Val FlowSort.Val = true
same_flow FlowSort.Store FlowSort.Store = true
same_flow _ _ = false

-- the two sorts are one
abbrev pub same_sort : VarSort → VarSort → Bool
same_sort Number Number = true
same_sort Name Name = true
same_sort (Term a) (Term b) = a.0 == b.0
same_sort (Flow a) (Flow b) = same_flow a b
same_sort _ _ = false

-- both are there, and they are one
abbrev pub are_same : Option VarSort → Option VarSort → Bool
are_same (Some s) (Some t) = same_sort s t
are_same _ _ = false
