-- Environments, arguments and answers that are of the sorts of a definition.
use Rattle.std.specs.Prelude.{Bool, true, false, ◌&&◌, List, [], ◌∷◌, Option, Some, None}
use Rattle.std.specs.List.{list_all}
use Rattle.std.specs.Option.{option_map_or}
use Rattle.sk_base.specs.declared.flow.FlowSort.{FlowSort}
use Rattle.sk_def.specs.declared.sorts.VarSort.{VarSort}
use Rattle.sk_def.specs.declared.ids.Var.{Var}
use Rattle.sk_def.specs.declared.def.Def.{Def}
use Rattle.sk_def.specs.Sorts.{Sorts, outputs_of}
use Rattle.sk_value.specs.declared.flow.Flow.{Flow}
use Rattle.sk_filter.specs.declared.arg.Arg.{Arg}
use Rattle.sk_filter.specs.Arguments.{Values}
use Rattle.sk_deriv.specs.declared.entry.Entry.{Entry}
use Rattle.sk_deriv.specs.Env.{Env, args_at, values_at}
use Rattle.sk_deriv.specs.Moves.{arg_in}
use Rattle.sk_concrete.specs.declared.world.World.{World}
use Rattle.sk_concrete.specs.declared.world.Tree.{Tree}
use Rattle.sk_concrete.specs.declared.world.Answer.{Answer}

-- whether a value is of the sort
abbrev pub is_of : FlowSort → Flow → Bool
is_of FlowSort.Int (Flow.Int z) = true
is_of FlowSort.Bool (Flow.Bool b) = true
is_of FlowSort.Val (Flow.Val v) = true
is_of FlowSort.Store (Flow.Store s) = true
is_of _ _ = false

-- whether values are of these sorts, one for each
abbrev pub are_of : List FlowSort → Values → Bool
are_of [] [] = true
are_of (sort ∷ sorts) (v ∷ vs) = is_of sort v && are_of sorts vs
are_of _ _ = false

-- whether what a variable stands for is of the variable's sort; a variable with no sort may stand for anything
abbrev pub entry_fits : Option VarSort → Option (Entry Flow) → Bool
entry_fits None entry = true
entry_fits (Some VarSort.Number) (Some (Entry.Number z)) = true
entry_fits (Some VarSort.Name) (Some (Entry.Name n)) = true
entry_fits (Some (VarSort.Term sort)) (Some (Entry.Point p)) = true
entry_fits (Some (VarSort.Flow sort)) (Some (Entry.Flow v)) = is_of sort v
entry_fits _ _ = false

-- whether each variable that has a sort is defined, and is of it
abbrev pub env_fits : Sorts → Env Flow → Bool
env_fits [] [] = true
env_fits (sort ∷ sorts) (entry ∷ env) = entry_fits sort entry && env_fits sorts env
env_fits _ _ = false

abbrev pub worlds_fit : Sorts → List World → Bool
worlds_fit sorts ws = list_all (λ (w : World). env_fits sorts w.env) ws

-- whether arguments of a filter are of these sorts, one for each
abbrev pub arg_fits : VarSort → Arg → Bool
arg_fits VarSort.Number (Arg.Number z) = true
arg_fits VarSort.Name (Arg.Name n) = true
arg_fits (VarSort.Flow sort) (Arg.Flow v) = is_of sort v
arg_fits _ _ = false

abbrev pub args_fit : List VarSort → List Arg → Bool
args_fit [] [] = true
args_fit (sort ∷ sorts) (arg ∷ args) = arg_fits sort arg && args_fit sorts args
args_fit _ _ = false

-- whether the variables of a world stand for arguments of these sorts
abbrev pub takes_args : List VarSort → List Var → World → Bool
takes_args sorts vars w = option_map_or (args_fit sorts) (args_at arg_in w.env vars) false

-- whether the variables of a world stand for values of these sorts
abbrev pub has_values : List FlowSort → List Var → World → Bool
has_values sorts vars w = option_map_or (are_of sorts) (values_at w.env vars) false

-- whether the outputs of an answer's derivations are of the sorts of its hook's
abbrev pub trees_fit : List FlowSort → List Tree → Bool
trees_fit sorts trees = list_all (λ (tree : Tree). are_of sorts tree.outs) trees

abbrev pub answer_fits : Def → Answer → Bool
answer_fits d answer = trees_fit (outputs_of d answer.hook) answer.trees

abbrev pub answers_fit : Def → List Answer → Bool
answers_fit d answers = list_all (answer_fits d) answers
