-- The interpretation that checks sorts.
use Rattle.std.specs.Prelude.{◌≡◌, ℕ, List, [], ◌∷◌, false, Some, None, Result, Ok, Err, slice_get}
use Rattle.std.specs.Option.{option_map_or}
use Rattle.sk_def.specs.declared.def.Def.{Def}
use Rattle.sk_def.specs.declared.ids.SortId.{SortId}
use Rattle.sk_def.specs.declared.ids.HookId.{HookId}
use Rattle.sk_def.specs.declared.ids.Var.{Var}
use Rattle.sk_def.specs.declared.bone.Target.{Target}
use Rattle.sk_def.specs.declared.def.Hook.{Hook}
use Rattle.sk_def.specs.Sorts.{Sorts, after_filter, after_hook, after_merge}
use Rattle.sk_walk.specs.Walks.{Meaning}
use Rattle.sk_sort.specs.declared.error.SortError.TheVariants.{WrongSort}
use Rattle.sk_sort.specs.declared.interp.SortStop.{SortStop}
use Rattle.sk_sort.specs.declared.interp.SortStop.TheVariants.{Bad, NoMemory}
use Rattle.sk_sort.specs.declared.interp.SortInterp.{SortInterp}
use Rattle.sk_sort.specs.Checks.{Check, check, first_error, filter_checks, hook_checks, merge_checks}

-- an Ok says that all checks of the bone pass, a fault is that of the first one that fails; want of memory says nothing
abbrev pub answers_bone : ℕ → List Check → Sorts → Result Sorts SortStop → Type 0
answers_bone bone checks after (Ok h) = (first_error checks ≡ None) × (h ≡ after)
answers_bone bone checks after (Err (Bad why at)) = (first_error checks ≡ Some why) × (at ≡ bone)
answers_bone bone checks after (Err NoMemory) = Unit {0}

-- the checks of a bone that calls a hook of the definition; any other hook fits no target
abbrev pub call_checks : Def → SortId → Sorts → HookId → Target → List Var → List Var → List Check
call_checks d own g id target args outs = option_map_or (λ (hook : Hook). hook_checks own g hook target args outs) (slice_get d.hooks id.0) (check WrongSort false ∷ [])

-- each bone is checked from the sorts before it, and adds those that it defines
abbrev pub sort_meaning : Meaning SortInterp Sorts SortStop
sort_meaning = record {
  filter = λ s bone filter args outs g t answer.
      (t ≡ s) × answers_bone bone (filter_checks g filter args outs) (after_filter g filter outs) answer;
  hook = λ s bone hook target args outs g t answer.
      (t ≡ s) × answers_bone bone (call_checks s.def.now s.own g hook target args outs) (after_hook s.def.now g hook outs) answer;
  fork = λ s bone place g t answer. (t ≡ s) × answers_bone bone [] g answer;
  merge = λ s bone exports g ends t answer.
      (t ≡ s) × answers_bone bone (merge_checks g exports ends) (after_merge g exports ends) answer;
}
