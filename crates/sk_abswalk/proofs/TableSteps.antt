-- The steps of the interpretation that answers from a table.
use Rattle.std.proofs.Common.{◌≡◌, ℕ, ◌≤◌, List, length, map, Option, Some, None, Result, Ok, Err, refl, ap, sym, subst, ◌∙◌, arith}
use Rattle.std.specs.Prelude.{slice_get, All}
use Rattle.std.specs.Option.{option_map}
use Rattle.std.proofs.lemmas.List.{length-map}
use Rattle.std.proofs.lemmas.Option.{slice_get_within, get_or_from_slice_get}
use Rattle.sk_base.specs.declared.flow.FlowSort.{FlowSort}
use Rattle.sk_def.specs.declared.ids.Var.{Var}
use Rattle.sk_def.specs.declared.ids.HookId.{HookId}
use Rattle.sk_def.specs.declared.ids.SortId.{SortId}
use Rattle.sk_def.specs.declared.bone.Target.{Target}
use Rattle.sk_def.specs.declared.sorts.VarSort.TheVariants as variable
use Rattle.sk_def.specs.declared.def.Def.{Def}
use Rattle.sk_def.specs.declared.def.Hook.{Hook}
use Rattle.sk_def.specs.Sorts.{Sorts, sort_of, HaveSorts, HookPasses}
use Rattle.sk_def.specs.Fits.{HookFits}
use Rattle.sk_sort.specs.Definition.{DefinitionIsSorted}
use Rattle.sk_lattice.specs.Domain.{Domain}
use Rattle.sk_abswalk.specs.declared.from_table.FromTable.{FromTable}
use Rattle.sk_abswalk.specs.declared.stop.Stop.{Stop}
use Rattle.sk_abswalk.specs.declared.stop.Stop.TheVariants.{Uncovered, Ill, NoMemory}
use Rattle.sk_abswalk.specs.declared.world.World.{World}
use Rattle.sk_abswalk.specs.Branches.{env_of}
use Rattle.sk_abswalk.specs.Walk.{AbsEnv, Walk, with, quiet, in_world, join_exports}
use Rattle.sk_abswalk.specs.Meaning.{Does, stopped, gaining}
use Rattle.sk_abswalk.specs.FromTable.{Gives, stop_of}
use Rattle.sk_abswalk.specs.TableReader.{table_reader}

-- variables with these sorts of values are as many
pub sorts_counted : (g : Sorts) (vs : List Var) (flows : List FlowSort) → HaveSorts g vs (map variable.Flow flows) → length vs ≡ length flows
sorts_counted g vs flows h =
    sym (length-map vs (sort_of g)) ∙ ap length h ∙ length-map (map variable.Flow flows) Some ∙ length-map flows variable.Flow

-- what holds of all elements holds of one at a place
pub all_at : {A : Type 0} (P : A → Type 0) (xs : List A) (k : ℕ) (x : A) → All P xs → slice_get xs k ≡ Some x → P x
all_at P xs k x h e = subst P (get_or_from_slice_get xs k x x e) (h k x (slice_get_within xs k x e))

pub hook_fits : (d : Def) → DefinitionIsSorted d → (id : ℕ) (hook : Hook) → slice_get d.hooks id ≡ Some hook → HookFits (length d.sorts) hook
hook_fits d sorted id hook e = all_at (HookFits (length d.sorts)) d.hooks id hook sorted.well_sorted.fits.hooks_fit e

pub few_arguments : {d : Def} {own : SortId} {g : Sorts} {hook : HookId} {args : List Var} {target : Target} {outs : List Var} → DefinitionIsSorted d → HookPasses d own g hook args target outs → length args ≤ 8
few_arguments {d} {own} {g} {hook} {args} sorted p =
    let fits = hook_fits d sorted hook.0 p.hook p.declared in
    omega (arith, sorts_counted g args p.hook.inputs p.args_fit, fits.few_inputs)

module _ (D : Type 0) (d : Domain D) (s : FromTable D) (w : Walk D (AbsEnv D)) where
  -- what a step gives, as the relation of the interpretation
  pub stops_seen : (stop : Stop D) → Gives w.ends (Err stop) → Does (table_reader d) s w s (option_map stopped (stop_of stop))
  stops_seen (Uncovered hook point args) h = (refl, h)
  stops_seen Ill h = (refl, h)
  stops_seen NoMemory h = tt

  pub ends_seen : (o : Option (AbsEnv D)) → Gives w.ends (Ok o) → Does (table_reader d) s w s (Some (with o))
  ends_seen o h = (refl, h)

-- a merge that stops
pub merge_stops : (D : Type 0) (d : Domain D) (s : FromTable D) (env : Option (AbsEnv D)) (exports vars : List Var) (ends worlds : List (World D)) (result : Result (Option (AbsEnv D)) (Stop D)) (stop : Stop D) →
    vars ≡ exports → worlds ≡ ends → result ≡ Err stop →
    Gives (in_world (λ env. gaining env vars (quiet (join_exports d vars None (map env_of worlds)))) env).ends result →
    Does (table_reader d) s (in_world (λ env. gaining env exports (quiet (join_exports d exports None (map env_of ends)))) env) s (option_map stopped (stop_of stop))
merge_stops D d s env exports vars ends worlds result stop e f r h =
    stops_seen D d s (in_world (λ env. gaining env exports (quiet (join_exports d exports None (map env_of ends)))) env) stop (rw (e, f, r) at h)
