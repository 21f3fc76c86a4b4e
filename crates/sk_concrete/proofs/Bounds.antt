-- What a well-sorted definition says of the sizes of its parts.
use Rattle.std.proofs.Common.{◌≡◌, ℕ, ◌≤◌, List, length, map, Some, ap, sym, subst, ◌∙◌, slice_get, All, arith}
use Rattle.std.proofs.lemmas.List.{length-map}
use Rattle.std.proofs.lemmas.Option.{slice_get_within, get_or_from_slice_get}
use Rattle.sk_def.specs.declared.ids.Var.{Var}
use Rattle.sk_def.specs.declared.ids.HookId.{HookId}
use Rattle.sk_def.specs.declared.ids.SortId.{SortId}
use Rattle.sk_def.specs.declared.bone.Target.{Target}
use Rattle.sk_def.specs.declared.sorts.VarSort.TheVariants.{Flow}
use Rattle.sk_def.specs.declared.def.Def.{Def}
use Rattle.sk_def.specs.Sorts.{Sorts, sort_of, HaveSorts, HookPasses}
use Rattle.sk_def.specs.Fits.{HookFits}
use Rattle.sk_base.specs.declared.flow.FlowSort.{FlowSort}
use Rattle.sk_sort.specs.Definition.{DefinitionIsSorted}

-- what holds of all elements holds of one at a place
pub all_at : {A : Type 0} (P : A → Type 0) (xs : List A) (k : ℕ) (x : A) → All P xs → slice_get xs k ≡ Some x → P x
all_at P xs k x h e = subst P (get_or_from_slice_get xs k x x e) (h k x (slice_get_within xs k x e))

-- variables with these sorts of values are as many
pub sorts_counted : (g : Sorts) (vs : List Var) (flows : List FlowSort) → HaveSorts g vs (map Flow flows) → length vs ≡ length flows
sorts_counted g vs flows h =
    sym (length-map vs (sort_of g)) ∙ ap length h ∙ length-map (map Flow flows) Some ∙ length-map flows Flow

pub few_arguments : {d : Def} {own : SortId} {g : Sorts} {hook : HookId} {args : List Var} {target : Target} {outs : List Var} →
    DefinitionIsSorted d → HookPasses d own g hook args target outs → length args ≤ 4
few_arguments {d} {own} {g} {hook} {args} is_sorted p =
    let fits : HookFits (length d.sorts) p.hook = all_at (HookFits (length d.sorts)) d.hooks hook.0 p.hook is_sorted.well_sorted.fits.hooks_fit p.declared in
    omega (arith, sorts_counted g args p.hook.inputs p.args_fit, fits.few_inputs)
