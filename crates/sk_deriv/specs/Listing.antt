-- A plain, slow listing of all derivations of a call, in the order of their words.
use Rattle.std.specs.Prelude.{ℕ, zero, suc, ◌↔◌, AllPairs, Contains, List, [], ◌∷◌, ◌++◌, length, map, Option, Some, None, slice_get, if◌then◌else◌}
use Rattle.std.specs.List.{flat_map, filter_map}
use Rattle.std.specs.Option.{option_map, option_and_then, option_map_or, option_to_list}
use Rattle.sk_def.specs.declared.ids.HookId.{HookId}
use Rattle.sk_def.specs.declared.bone.Bone.{Bone}
use Rattle.sk_def.specs.declared.def.Rule.{Rule}
use Rattle.sk_def.specs.Rules.{rule_of}
use Rattle.sk_term.specs.declared.node.TermNode.{TermNode}
use Rattle.sk_filter.specs.Arguments.{Values}
use Rattle.sk_filter.specs.Results.{is_choice}
use Rattle.sk_deriv.specs.Tree.{Derivation, derivation, Steps, done, pick, sub, outs_of, word, IsBefore}
use Rattle.sk_def.specs.Layout.{branch, branch_places, after_branches}
use Rattle.sk_value.specs.declared.flow.Flow.{Flow}
use Rattle.sk_deriv.specs.Env.{Env, gain, export, values_at, target_at, start_of}
use Rattle.sk_deriv.specs.Moves.{Setting, results_at, fit_hook}
use Rattle.sk_deriv.specs.declared.call.Call.{Call}
use Rattle.sk_deriv.specs.Results.{DerivesWithin, Outcome}

-- the second steps after the first
abbrev pub followed_by : Steps → Steps → Steps
followed_by done rest = rest
followed_by (pick k steps) rest = pick k (followed_by steps rest)
followed_by (sub t steps) rest = sub t (followed_by steps rest)

-- steps with the environment that they lead to
abbrev pub Trail : Type 0
Trail = Steps × Env Flow

abbrev pub after_pick : ℕ → Trail → Trail
after_pick k p = (pick k p.0, p.1)

abbrev pub after_sub : Derivation → Trail → Trail
after_sub t p = (sub t p.0, p.1)

abbrev pub after_branch : ℕ → Trail → Trail → Trail
after_branch k p q = (pick k (followed_by p.0 q.0), q.1)

-- the one result
abbrev pub only : {R : Type 0} → (Values → List R) → List Values → List R
only go [] = []
only go (v ∷ []) = go v
only go (v ∷ w ∷ vs) = []

-- each result with its pick, counted from k
abbrev pub each : (Values → List Trail) → ℕ → List Values → List Trail
each go k [] = []
each go k (v ∷ vs) = map (after_pick k) (go v) ++ each go (suc k) vs

-- the call that a hook bone makes
abbrev pub call_at : HookId → Option ℕ → Option Values → Option Call
call_at hook (Some point) (Some ins) = Some (record { hook = hook; point = point; ins = ins })
call_at hook _ _ = None

-- all trails through the bones from an environment, where each call has these derivations
abbrev pub trails : (names point : ℕ) → (Call → List Derivation) → ℕ → List Bone → Env Flow → List Trail
trails names point known fuel [] env = (done, env) ∷ []
trails names point known zero (bone ∷ bones) env = []
trails names point known (suc fuel) (Bone.Apply filter args outs ∷ bones) env =
    if is_choice filter then each (λ v. trails names point known fuel bones (gain env outs v)) 0 (results_at names env filter args)
    else only (λ v. trails names point known fuel bones (gain env outs v)) (results_at names env filter args)
trails names point known (suc fuel) (Bone.Call hook args target outs ∷ bones) env =
    flat_map (λ c. flat_map (λ t. map (after_sub t) (trails names point known fuel bones (gain env outs (outs_of t)))) (known c))
    (option_to_list (call_at hook (target_at point env target) (values_at env args)))
trails names point known (suc fuel) (Bone.Either counts exports ∷ bones) env =
    flat_map (λ k. flat_map (λ p. map (after_branch k p) (trails names point known fuel (after_branches counts bones) (export env p.1 exports)))
    (trails names point known fuel (branch counts k bones) env))
    (branch_places 0 counts)

-- the derivation of a call by a rule, from a trail through its bones
abbrev pub closed : Call → Rule → Trail → Option Derivation
closed c rule p = option_map (derivation c.hook c.point c.ins p.0) (values_at p.1 rule.outputs)

-- the rule at a node, if there is one
abbrev pub rule_at : Setting → Call → Option (TermNode × Rule)
rule_at s c = option_and_then (λ node. option_map (λ rule. (node, rule)) (rule_of s.def c.hook node.con)) (slice_get s.nodes c.point)

-- all derivations of a call whose height is at most n
abbrev pub derivations : Setting → ℕ → Call → List Derivation
derivations s zero c = []
derivations s (suc n) c =
    if fit_hook s c.hook c.ins
    then option_map_or (λ r. filter_map (closed c r.1) (trails s.names c.point (derivations s n) (length r.1.bones) r.1.bones (start_of r.1 r.0 c.ins))) (rule_at s c) []
    else []

-- the law of the listing: it has exactly the derivations of a call to a depth, and their words strictly increase
abbrev pub ListingIsExact : Type 0
ListingIsExact =
    (s : Setting) (c : Call) (n : ℕ) →
    ((t : Derivation) → DerivesWithin s c n t ↔ Contains (derivations s n c) t) × AllPairs (λ t u. IsBefore (word t) (word u)) (derivations s n c)

-- the outcomes of derivations of which no two have the same outputs
abbrev pub outcomes : List Derivation → List Outcome
outcomes ts = map (λ t. (outs_of t, t)) ts
