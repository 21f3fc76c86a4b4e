-- The sorts of variables, and the checks that each kind of bone has to pass.
use Rattle.std.specs.Prelude.{◌≡◌, Option, Some, None, List, [], ◌∷◌, map, length, slice_get, slice_set, slice_index_or, All, Contains, option_map, unwrap_or}
use Rattle.sk_base.specs.declared.flow.FlowSort.{FlowSort}
use Rattle.sk_def.specs.declared.ids.Var.{Var}
use Rattle.sk_def.specs.declared.ids.SortId.{SortId}
use Rattle.sk_def.specs.declared.ids.HookId.{HookId}
use Rattle.sk_def.specs.declared.def.Hook.{Hook}
use Rattle.sk_def.specs.declared.def.Def.{Def}
use Rattle.sk_def.specs.declared.sorts.VarSort.{VarSort}
use Rattle.sk_def.specs.declared.sorts.VarSort.TheVariants.{Term, Flow}
use Rattle.sk_def.specs.declared.bone.Target.{Target}
use Rattle.sk_def.specs.declared.bone.Target.TheVariants.{Own, Sub}
use Rattle.sk_def.specs.declared.filter.Filter.{Filter}
use Rattle.sk_def.specs.Signatures.{parameters, results}

-- what is known of the variables of a rule, by number: a sort, or nothing where one isn't defined
abbrev pub Sorts : Type 0
Sorts = List (Option VarSort)

-- the sort of a variable, or nothing
abbrev pub sort_of : Sorts → Var → Option VarSort
sort_of g v = slice_index_or g v.0 None

-- the sorts after each of these variables took the sort at its place in the second list
abbrev pub define : Sorts → List Var → List (Option VarSort) → Sorts
define g [] ss = g
define g (v ∷ vs) [] = g
define g (v ∷ vs) (s ∷ ss) = define (slice_set g v.0 s) vs ss

-- the variables have just these sorts, in order
abbrev pub HaveSorts : Sorts → List Var → List VarSort → Type 0
HaveSorts g vs ss = map (sort_of g) vs ≡ map Some ss

-- no variable of the list is defined, and none stands in it twice
abbrev pub AreNew : Sorts → List Var → Type 0
AreNew g [] = Unit {0}
AreNew g (v ∷ vs) = (sort_of g v ≡ None) × (¬ Contains vs v) × AreNew g vs

-- a filter bone passes its checks
pub record FilterPasses (g : Sorts) (filter : Filter) (args outs : List Var) : Type 0 where
  pub args_fit : HaveSorts g args (parameters filter)
  pub outs_counted : length outs ≡ length (results filter)
  pub outs_new : AreNew g outs

-- the sorts after a filter bone
abbrev pub after_filter : Sorts → Filter → List Var → Sorts
after_filter g filter outs = define g outs (map Some (results filter))

-- the sort of the term that a hook bone evaluates
abbrev pub target_sort : SortId → Sorts → Target → Option VarSort
target_sort own g Own = Some (Term own)
target_sort own g (Sub v) = sort_of g v

-- a hook bone passes its checks
pub record HookPasses (d : Def) (own : SortId) (g : Sorts) (id : HookId) (args : List Var) (target : Target) (outs : List Var) : Type 0 where
  pub hook : Hook
  pub declared : slice_get d.hooks id.0 ≡ Some hook
  pub args_fit : HaveSorts g args (map Flow hook.inputs)
  pub target_fits : target_sort own g target ≡ Some (Term hook.sort)
  pub outs_counted : length outs ≡ length hook.outputs
  pub outs_new : AreNew g outs

-- the flow outputs of a hook
abbrev pub outputs_of : Def → HookId → List FlowSort
outputs_of d id = unwrap_or (option_map (λ (hook : Hook). hook.outputs) (slice_get d.hooks id.0)) []

-- the sorts after a hook bone
abbrev pub after_hook : Def → Sorts → HookId → List Var → Sorts
after_hook d g id outs = define g outs (map (λ s. Some (Flow s)) (outputs_of d id))

-- a branch bone passes its own checks: its exports are new, and have the same sorts at the end of each branch
pub record MergePasses (g : Sorts) (exports : List Var) (ends : List Sorts) : Type 0 where
  pub exports_new : AreNew g exports
  pub exported : List VarSort
  pub ends_agree : All (λ e. HaveSorts e exports exported) ends

-- the sorts after a branch bone: those before it, and of its exports those at the end of the first branch
abbrev pub after_merge : Sorts → List Var → List Sorts → Sorts
after_merge g exports [] = g
after_merge g exports (e ∷ es) = define g exports (map (sort_of e) exports)
