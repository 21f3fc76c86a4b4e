-- The checks of each part of a rule, in their written order.
use Rattle.std.specs.Prelude.{Bool, not, ◌==◌, if◌then◌else◌, ℕ, Option, Some, None, List, [], ◌∷◌, ◌++◌, length, map}
use Rattle.std.specs.Option.{is_some, is_none}
use Rattle.std.specs.List.{flat_map, list_any}
use Rattle.sk_def.specs.declared.ids.SortId.{SortId}
use Rattle.sk_def.specs.declared.ids.Var.{Var}
use Rattle.sk_def.specs.declared.sorts.VarSort.{VarSort}
use Rattle.sk_def.specs.declared.sorts.VarSort.TheVariants.{Term, Flow}
use Rattle.sk_def.specs.declared.bone.Target.{Target}
use Rattle.sk_def.specs.declared.filter.Filter.{Filter}
use Rattle.sk_def.specs.declared.def.Hook.{Hook}
use Rattle.sk_def.specs.Signatures.{parameters, results}
use Rattle.sk_def.specs.Sorts.{Sorts, sort_of, target_sort}
use Rattle.sk_def.specs.Same.{are_same}
use Rattle.sk_sort.specs.declared.error.SortError.{SortError}
use Rattle.sk_sort.specs.declared.error.SortError.TheVariants.{WrongSort, WrongCount, Undefined, Redefined, BranchLacks}

-- one check: what is wrong where it fails, and whether it passes
pub record Check : Type 0 where
  pub why : SortError
  pub passes : Bool

abbrev pub check : SortError → Bool → Check
check why passes = record { why = why; passes = passes }

-- the first check that fails says what is wrong
abbrev pub first_error : List Check → Option SortError
first_error [] = None
first_error (c ∷ cs) = if c.passes then first_error cs else Some c.why

-- there are as many as are wanted
abbrev pub count_check : ℕ → ℕ → Check
count_check found wanted = check WrongCount (found == wanted)

-- a variable is defined, and has the sort that is wanted
abbrev pub sort_checks : Option VarSort → Option VarSort → List Check
sort_checks found wanted = check Undefined (is_some found) ∷ check WrongSort (are_same found wanted) ∷ []

-- each argument has the sort at its place
abbrev pub argument_checks : Sorts → List Var → List VarSort → List Check
argument_checks g [] ss = []
argument_checks g (v ∷ vs) [] = []
argument_checks g (v ∷ vs) (s ∷ ss) = sort_checks (sort_of g v) (Some s) ++ argument_checks g vs ss

-- the variable is one of the list
abbrev pub is_among : Var → List Var → Bool
is_among v vs = list_any (λ w. w.0 == v.0) vs

-- no variable is defined already, and none is there twice
abbrev pub new_checks : Sorts → List Var → List Check
new_checks g [] = []
new_checks g (v ∷ vs) = check Redefined (is_none (sort_of g v)) ∷ check Redefined (not (is_among v vs)) ∷ new_checks g vs

-- a filter bone: both numbers, the arguments, the outputs
abbrev pub filter_checks : Sorts → Filter → List Var → List Var → List Check
filter_checks g filter args outs =
    count_check (length args) (length (parameters filter)) ∷ count_check (length outs) (length (results filter))
    ∷ argument_checks g args (parameters filter) ++ new_checks g outs

-- a hook bone in a rule of the sort `own`: the arguments with their number, the target, the outputs with theirs
abbrev pub hook_checks : SortId → Sorts → Hook → Target → List Var → List Var → List Check
hook_checks own g hook target args outs =
    count_check (length args) (length hook.inputs) ∷ argument_checks g args (map Flow hook.inputs)
    ++ sort_checks (target_sort own g target) (Some (Term hook.sort))
    ++ count_check (length outs) (length hook.outputs) ∷ new_checks g outs

-- an exported variable at the end of a branch, with its sort at the end of the first branch
abbrev pub export_check : Option VarSort → Option VarSort → List Check
export_check first end = check BranchLacks (is_some end) ∷ check WrongSort (are_same end first) ∷ []

-- the exported variables at the end of a branch, where `first` are the sorts at the end of the first branch
abbrev pub export_checks : Sorts → List Var → Sorts → List Check
export_checks first [] end = []
export_checks first (v ∷ vs) end =
    export_check (sort_of first v) (sort_of end v) ++ export_checks first vs end

-- a branch bone after its branches, with the sorts at their ends: the exports are new, and each branch defines
-- them with the sorts of the first
abbrev pub merge_checks : Sorts → List Var → List Sorts → List Check
merge_checks g exports [] = new_checks g exports
merge_checks g exports (first ∷ ends) = new_checks g exports ++ flat_map (export_checks first exports) (first ∷ ends)
