-- The sorts of values among the sorts of variables.
use Rattle.std.proofs.Common.{◌≡◌, List, [], ◌∷◌, map, refl, ap, ◌∙◌, sym}
use Rattle.std.specs.List.{filter_map}
use Rattle.sk_base.specs.declared.flow.FlowSort.{FlowSort}
use Rattle.sk_def.specs.declared.sorts.VarSort.{VarSort}
use Rattle.sk_def.specs.declared.sorts.VarSort.TheVariants.{Flow}
use Rattle.sk_constr.specs.Positions.{flow_sort}

pub flows_stay : (ss : List FlowSort) → filter_map flow_sort (map Flow ss) ≡ ss
flows_stay [] = refl
flows_stay (s ∷ ss) = ap (λ rest. s ∷ rest) (flows_stay ss)

pub flows_are : (ss : List FlowSort) (vs : List VarSort) → map Flow ss ≡ vs → ss ≡ filter_map flow_sort vs
flows_are ss vs e = sym (flows_stay ss) ∙ ap (λ ws. filter_map flow_sort ws) e
