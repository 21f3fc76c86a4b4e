-- The reading of rules as the rounds see it: the keys of a program, the cover lines, and the walks of keys.
use Rattle.std.specs.Prelude.{◌≡◌, ℤ, Bool, true, if◌then◌else◌, List, map, Option, Some, None, Result, Ok, Err, slice_get, All}
use Rattle.std.specs.Option.{option_and_then, option_map}
use Rattle.sk_base.specs.declared.flow.FlowSort.{FlowSort}
use Rattle.sk_def.specs.declared.def.Hook.{Hook}
use Rattle.sk_term.specs.declared.node.TermNode.{TermNode}
use Rattle.sk_term.specs.Terms.{keys, takes_node}
use Rattle.sk_deriv.specs.Moves.{Setting}
use Rattle.sk_lattice.specs.Domain.{Domain}
use Rattle.sk_lattice.specs.Empty.{is_proper}
use Rattle.sk_absfilter.specs.Abstract.{Outcome}
use Rattle.sk_table.specs.declared.triple.Triple.{Triple}
use Rattle.sk_table.specs.declared.triple.Cover.{Cover}
use Rattle.sk_rounds.specs.Walks.{Side, Inputs, Outputs, Call, Table, Walks}
use Rattle.sk_rounds.specs.Accepted.{Asks, Row, rows}
use Rattle.sk_rounds.specs.Tuples.{Reading, walks_over}
use Rattle.sk_abswalk.specs.Walk.{Flows, Ends, uncovered, ill, with, Walk, abstract_walk}
pub use Rattle.sk_abswalk.specs.Keys.{Key, same_key, call_with, key_of, by_key}
use Rattle.sk_abswalk.specs.Fits.{CallFits}

-- a call as the rounds see it
abbrev pub keyed : {D : Type 0} → Cover D → Call Key (Flows D)
keyed c = record { key = key_of c; args = c.ins }

-- the hook of a key of the program: its node has the hook's sort
abbrev pub hook_at_node : Setting → TermNode → Option Hook → Option Hook
hook_at_node s node hook = option_and_then (λ h. if takes_node s.def node h then Some h else None) hook

abbrev pub hook_of_key : Setting → Key → Option Hook
hook_of_key s k = option_and_then (λ node. hook_at_node s node (slice_get s.def.hooks k.0.0)) (slice_get s.nodes k.1)

abbrev pub sorts_of_side : Side → Hook → List FlowSort
sorts_of_side Inputs hook = hook.inputs
sorts_of_side Outputs hook = hook.outputs

-- the outcome that a walk ends with; none where it gets to no end
abbrev pub outcome_of : {D : Type 0} → Ends D (Flows D) → Outcome D
outcome_of (uncovered c) = None
outcome_of ill = None
outcome_of (with o) = o

-- the walk of a key from these inputs, where each key answers so
abbrev pub walk_of_key : {D : Type 0} → Domain D → Setting → (Key → Outcome D) → Key → Flows D → Walk D (Flows D)
walk_of_key d s answers k ins = abstract_walk d (by_key answers) s (call_with k ins)

abbrev pub reading_of : {D : Type 0} → Domain D → Setting → List (Cover D) → Reading Key D
reading_of d s covers =
    record {
      names = s.names;
      keys = keys s.def s.nodes;
      same = same_key;
      sorts = λ k side. option_map (sorts_of_side side) (hook_of_key s k);
      covers = map keyed covers;
      gives = λ answers k ins. outcome_of (walk_of_key d s answers k ins).ends;
      calls = λ answers k ins. map keyed (walk_of_key d s answers k ins).asked;
    }

-- the walks that the analyser's rounds are made of
abbrev pub walks_of : {D : Type 0} → Domain D → Bool → List ℤ → Setting → List (Cover D) → Walks Key (Flows D)
walks_of d finite marks s covers = walks_over d finite marks (reading_of d s covers)

-- what a walk ends with, or the call that has no answer; a walk that meets an ill bone has the call of its own
abbrev pub asked_end : {D : Type 0} → Call Key (Flows D) → Ends D (Flows D) → Result (Outcome D) (Call Key (Flows D))
asked_end own (uncovered c) = Err (keyed c)
asked_end own ill = Err own
asked_end own (with o) = Ok o

-- the walk of a key under answers to its calls
abbrev pub asks_of : {D : Type 0} → Domain D → Setting → Asks Key (Flows D)
asks_of d s answers k ins = asked_end (record { key = k; args = ins }) (abstract_walk d (λ c. answers (key_of c) c.ins) s (call_with k ins)).ends

-- a table's triples, in the order of the program's keys
abbrev pub triple_of : {D : Type 0} → Row Key (Flows D) → Triple D
triple_of row = record { hook = row.key.0; point = row.key.1; ins = row.inputs; outs = row.outputs }

abbrev pub triples_of : {D : Type 0} → Walks Key (Flows D) → Table Key (Flows D) → List (Triple D)
triples_of w T = map triple_of (rows w T)

-- the cover lines are calls of keys of the program, and no part of their inputs is empty
abbrev pub CoversFit : {D : Type 0} → Domain D → Setting → List (Cover D) → Type 0
CoversFit d s covers = All (λ c. CallFits s c × (is_proper d c.ins ≡ true)) covers
