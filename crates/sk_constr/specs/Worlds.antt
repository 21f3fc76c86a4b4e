-- What each bone makes of the world before it.
use Rattle.std.specs.Prelude.{ℕ, List, [], ◌∷◌, ◌++◌, map}
use Rattle.std.specs.List.{filter_map, flat_map}
use Rattle.std.specs.Option.{option_map_or}
use Rattle.sk_def.specs.declared.ids.Var.{Var}
use Rattle.sk_def.specs.declared.ids.HookId.{HookId}
use Rattle.sk_def.specs.declared.bone.Target.{Target}
use Rattle.sk_def.specs.declared.filter.Filter.{Filter}
use Rattle.sk_def.specs.declared.def.Def.{Def}
use Rattle.sk_def.specs.declared.def.Rule.{Rule}
use Rattle.sk_def.specs.declared.def.Hook.{Hook}
use Rattle.sk_def.specs.Signatures.{results}
use Rattle.sk_def.specs.Sorts.{outputs_of, after_filter, after_hook, after_merge}
use Rattle.sk_deriv.specs.Env.{target_at, gain}
use Rattle.sk_constr.specs.declared.line.Part.{Part}
use Rattle.sk_constr.specs.declared.line.Line.{Line}
use Rattle.sk_constr.specs.declared.line.KeyLines.{KeyLines}
use Rattle.sk_constr.specs.declared.world.GenWorld.{GenWorld}
use Rattle.sk_constr.specs.Operands.{places, operands_at}
use Rattle.sk_constr.specs.Positions.{flow_sort, sorts_at_ends}
use Rattle.sk_constr.specs.Lines.{line_at}

-- after a filter bone
abbrev pub filtered : ℕ → Filter → List Var → List Var → GenWorld → GenWorld
filtered bone filter args outs w = record {
  sorts = after_filter w.sorts filter outs;
  env = gain w.env outs (places bone outs);
  from = bone;
  lines = w.lines ++ line_at w.from (Part.Filter bone filter (operands_at w.env args)) ∷ [];
  positions = w.positions ++ filter_map flow_sort (results filter) ∷ [];
}

-- after a hook bone of a rule at this point
abbrev pub called : Def → ℕ → ℕ → HookId → Target → List Var → List Var → GenWorld → GenWorld
called d point bone hook target args outs w = record {
  sorts = after_hook d w.sorts hook outs;
  env = gain w.env outs (places bone outs);
  from = bone;
  lines = w.lines ++ option_map_or (λ at. line_at w.from (Part.Call bone hook at (operands_at w.env args)) ∷ []) (target_at point w.env target) [];
  positions = w.positions ++ outputs_of d hook ∷ [];
}

-- at the beginning of a branch, whose lines are gathered apart
abbrev pub forked : GenWorld → GenWorld
forked w = record { sorts = w.sorts; env = w.env; from = w.from; lines = []; positions = [] }

-- the lines of a branch with that of its end
abbrev pub branch_lines : ℕ → List Var → GenWorld → List Line
branch_lines bone exports end = end.lines ++ line_at end.from (Part.Join bone (operands_at end.env exports)) ∷ []

-- after a branch bone with these ends
abbrev pub merged : ℕ → List Var → GenWorld → List GenWorld → GenWorld
merged bone exports w ends = record {
  sorts = after_merge w.sorts exports (map (λ (end : GenWorld). end.sorts) ends);
  env = gain w.env exports (places bone exports);
  from = bone;
  lines = w.lines ++ flat_map (branch_lines bone exports) ends;
  positions = w.positions ++ sorts_at_ends exports (map (λ (end : GenWorld). end.sorts) ends) ∷ flat_map (λ (end : GenWorld). end.positions) ends;
}

-- the lines of a key, from the world at the end of its rule
abbrev pub closed : HookId → ℕ → Rule → Hook → GenWorld → KeyLines
closed id point rule hook w = record {
  hook = id;
  point = point;
  positions = w.positions;
  outputs = hook.outputs;
  lines = w.lines ++ line_at w.from (Part.End (operands_at w.env rule.outputs)) ∷ [];
}
