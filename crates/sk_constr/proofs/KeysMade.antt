-- The lines of a key, from the walk of its rule.
use Rattle.std.proofs.Common.{◌≡◌, ℕ, List, [], ◌∷◌, length, Some, Ok, refl, ap, sym, ◌∙◌, arith}
use Rattle.sk_def.specs.declared.ids.HookId.{HookId}
use Rattle.sk_def.specs.declared.def.Def.{Def}
use Rattle.sk_def.specs.declared.def.Rule.{Rule}
use Rattle.sk_def.specs.declared.def.Hook.{Hook}
use Rattle.sk_def.specs.declared.def.Con.{Con}
use Rattle.sk_base.specs.declared.flow.FlowSort.{FlowSort}
use Rattle.sk_def.specs.Sorts.{Sorts}
use Rattle.sk_walk.specs.Walks.{Walks}
use Rattle.sk_sort.specs.Rules.{header_sorts}
use Rattle.sk_term.specs.declared.node.TermNode.{TermNode}
use Rattle.sk_constr.specs.declared.line.KeyLines.{KeyLines}
use Rattle.sk_constr.specs.declared.world.GenWorld.{GenWorld}
use Rattle.sk_constr.specs.declared.interp.GenInterp.{GenInterp}
use Rattle.sk_constr.specs.declared.line.Line.{Line}
use Rattle.sk_constr.specs.Operands.{PlaceEnv}
use Rattle.sk_constr.specs.Worlds.{closed}
use Rattle.sk_constr.specs.Meaning.{constraint_meaning}
use Rattle.sk_constr.specs.Keys.{RuleOfKey, first_env, key_by_rule, lines_of_key}
use Rattle.sk_constr.proofs.BonesRead.{after_bones, reads}

-- the world that a rule starts from
abbrev starting : Rule → Hook → Con → TermNode → GenWorld
starting rule hook con node = record { sorts = header_sorts rule hook con; env = first_env rule node; from = 0; lines = []; positions = hook.inputs ∷ [] }

same_world : (g g' : Sorts) (e e' : PlaceEnv) (f f' : ℕ) (l l' : List Line) (p p' : List (List FlowSort)) → g ≡ g' → e ≡ e' → f ≡ f' → l ≡ l' → p ≡ p' →
    ◌≡◌ {A = GenWorld} (record { sorts = g; env = e; from = f; lines = l; positions = p }) (record { sorts = g'; env = e'; from = f'; lines = l'; positions = p' })
same_world g g' e e' f f' l l' p p' a b c d h = rw (a, b, c, d, h) refl

starts : (rule : Rule) (hook : Hook) (con : Con) (node : TermNode) (w : GenWorld) → w.env ≡ first_env rule node → w.sorts ≡ header_sorts rule hook con → w.from ≡ 0 → w.lines ≡ [] → w.positions ≡ hook.inputs ∷ [] →
    w ≡ starting rule hook con node
starts rule hook con node w a b c d e = same_world w.sorts _ w.env _ w.from _ w.lines _ w.positions _ b a c d e

key_is : (d : Def) (nodes : List TermNode) (id : HookId) (point : ℕ) (rule : Rule) (hook : Hook) (con : Con) (k : RuleOfKey d nodes id point rule hook con) →
    lines_of_key d nodes (id, point) ≡ Some (key_by_rule d id point k.node rule hook con)
key_is d nodes id point rule hook con k = rw (k.node_is, k.rule_is, k.hook_is, k.con_is) refl

pub key_made : (d : Def) (nodes : List TermNode) (id : HookId) (point : ℕ) (rule : Rule) (hook : Hook) (con : Con) (k : RuleOfKey d nodes id point rule hook con)
    (s t : GenInterp) (w v : GenWorld) (lines : KeyLines) → s.checked.now ≡ d → s.point ≡ point →
    w.env ≡ first_env rule k.node → w.sorts ≡ header_sorts rule hook con → w.from ≡ 0 → w.lines ≡ [] → w.positions ≡ hook.inputs ∷ [] →
    Walks constraint_meaning 1 rule.bones s w t (Ok v) → lines ≡ closed id point rule hook v → lines_of_key d nodes (id, point) ≡ Some lines
key_made d nodes id point rule hook con k s t w v lines of_def of_point env sorts from none positions walk is =
    let size = length rule.bones in
    let read : v ≡ after_bones s.checked.now s.point size 1 w rule.bones = (reads size (omega arith) walk).1 in
    let read' : v ≡ after_bones d point size 1 (starting rule hook con k.node) rule.bones = rw (of_def, of_point, starts rule hook con k.node w env sorts from none positions) at read in
    key_is d nodes id point rule hook con k ∙ ap Some (sym (is ∙ ap (closed id point rule hook) read'))
