-- The calls that the walk of a rule makes, in order.
use Rattle.std.specs.Prelude.{◌≡◌, ℕ, zero, suc, List, [], ◌∷◌, ◌++◌, length, map, Result, Ok, Err}
use Rattle.std.specs.List.{flat_map}
use Rattle.std.specs.Option.{option_to_list}
use Rattle.sk_def.specs.declared.bone.Bone.{Bone}
use Rattle.sk_def.specs.declared.ids.Var.{Var}
use Rattle.sk_def.specs.declared.def.Rule.{Rule}
use Rattle.sk_def.specs.Layout.{branch, branch_places, after_branches}
use Rattle.sk_deriv.specs.declared.call.Call.{Call}
use Rattle.sk_deriv.specs.declared.forest.Node.{Node}
use Rattle.sk_deriv.specs.Forest.{steps_with, tree_at}
use Rattle.sk_deriv.specs.Tree.{Derivation, done, pick}
use Rattle.sk_deriv.specs.Env.{export, values_at, target_at}
use Rattle.sk_deriv.specs.Moves.{Setting}
use Rattle.sk_deriv.specs.Listing.{Trail, followed_by, call_at, trails}
use Rattle.sk_concrete.specs.declared.world.World.{World}
use Rattle.sk_concrete.specs.declared.worlds.Worlds.{Worlds}
use Rattle.sk_concrete.specs.declared.world.Answer.{Answer}
use Rattle.sk_concrete.specs.declared.concrete.ConcreteStop.{ConcreteStop}
use Rattle.sk_concrete.specs.declared.concrete.ConcreteStop.TheVariants.{Unanswered, NoMemory}
use Rattle.sk_concrete.specs.Rules.{start_at}
use Rattle.sk_concrete.specs.Trees.{AreThere, Stand}

-- a world with derivations in place of places: its origin, its steps, and its environment
abbrev pub Path : Type 0
Path = ℕ × Trail

abbrev pub path_of : List Node → World → Path
path_of nodes w = (w.origin, (steps_with (tree_at nodes) w.steps, w.env))

abbrev pub paths : List Node → List World → List Path
paths nodes ws = map (path_of nodes) ws

-- the path with a further trail
abbrev pub along : Path → Trail → Path
along v p = (v.0, (followed_by v.1.0 p.0, p.1))

-- the paths on which a branch is begun, from those from this place on
abbrev pub begun : ℕ → ℕ → List Path → List Path
begun k place [] = []
begun k place (v ∷ vs) = (place, (pick k done, v.1.1)) ∷ begun k (suc place) vs

-- the path after a branch with this trail
abbrev pub exported : List Var → ℕ → Path → Trail → Path
exported exports k v p = (v.0, (followed_by v.1.0 (pick k p.0), export v.1.1 p.1 exports))

module _ (names point : ℕ) (known : Call → List Derivation) where
  -- the paths through bones, from one path and from several
  abbrev pub spread : ℕ → List Bone → Path → List Path
  spread fuel bones v = map (along v) (trails names point known fuel bones v.1.1)

  abbrev pub spread_all : ℕ → List Bone → List Path → List Path
  spread_all fuel bones vs = flat_map (spread fuel bones) vs

  -- the paths after a branch bone, from one path
  abbrev pub branched : ℕ → List ℕ → List Var → List Bone → Path → List Path
  branched fuel counts exports bones v =
      flat_map (λ k. map (exported exports k v) (trails names point known fuel (branch counts k bones) v.1.1)) (branch_places 0 counts)

  -- the calls of the bones from these paths: by bone, and then by path
  abbrev pub calls : ℕ → List Bone → List Path → List Call
  calls fuel [] vs = []
  calls zero (bone ∷ bones) vs = []
  calls (suc fuel) (Bone.Apply filter args outs ∷ bones) vs = calls fuel bones (spread_all 1 (Bone.Apply filter args outs ∷ []) vs)
  calls (suc fuel) (Bone.Call hook args target outs ∷ bones) vs =
      flat_map (λ (v : Path). option_to_list (call_at hook (target_at point v.1.1 target) (values_at v.1.1 args))) vs
      ++ calls fuel bones (spread_all 1 (Bone.Call hook args target outs ∷ []) vs)
  calls (suc fuel) (Bone.Either counts exports ∷ bones) vs =
      flat_map (λ k. calls fuel (branch counts k bones) (begun k 0 vs)) (branch_places 0 counts)
      ++ calls fuel (after_branches counts bones) (flat_map (branched fuel counts exports bones) vs)

-- the first answers are those of the first calls, as far as both lists go
abbrev pub Agrees : List Node → (Call → List Derivation) → List Answer → List Call → Type 0
Agrees nodes known [] cs = Unit {0}
Agrees nodes known (answer ∷ later) [] = Unit {0}
Agrees nodes known (answer ∷ later) (c ∷ cs) = ((answer.hook.0 ≡ c.hook.0) × Stand nodes answer.trees (known c)) × Agrees nodes known later cs

-- this is the call after as many as there are answers
pub record IsNext (cs : List Call) (handed : List Answer) (c : Call) : Type 0 where
  pub before : List Call
  pub after : List Call
  pub whole : cs ≡ before ++ c ∷ after
  pub counted : length before ≡ length handed

-- the calls of a call's rule
abbrev pub rule_calls : Setting → (Call → List Derivation) → Call → Rule → List Call
rule_calls s known c rule = calls s.names c.point known (length rule.bones) rule.bones ((0, (done, start_at s.nodes rule c)) ∷ [])

-- the trails through a call's rule
abbrev pub rule_trails : Setting → (Call → List Derivation) → Call → Rule → List Trail
rule_trails s known c rule = trails s.names c.point known (length rule.bones) rule.bones (start_at s.nodes rule c)

-- An Ok has the trails through the rule, where the answers are those of its first calls; a stop is the call after them.
abbrev pub RuleWalks : Setting → Call → Rule → List Answer → Result Worlds ConcreteStop → Type 0
RuleWalks s c rule handed (Ok v) = (nodes : List Node) (known : Call → List Derivation) → Agrees nodes known handed (rule_calls s known c rule) →
    (paths nodes v.list ≡ map (λ p. (0, p)) (rule_trails s known c rule)) × AreThere (length nodes) v.list
RuleWalks s c rule handed (Err (Unanswered d)) = (nodes : List Node) (known : Call → List Derivation) → Agrees nodes known handed (rule_calls s known c rule) →
    IsNext (rule_calls s known c rule) handed d
RuleWalks s c rule handed (Err NoMemory) = Unit {0}
