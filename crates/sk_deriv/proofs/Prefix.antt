-- Words of valid derivations decode in one way only.
use Rattle.std.proofs.Common.{◌≡◌, ℕ, List, [], ◌∷◌, ◌++◌, Option, Some, refl, sym, ap, ap₂, subst, ◌∙◌, append_assoc}
use Rattle.std.specs.List.{slice_get}
use Rattle.sk_def.specs.declared.bone.Bone.{Bone}
use Rattle.sk_def.specs.declared.ids.HookId.{HookId}
use Rattle.sk_def.specs.declared.ids.Var.{Var}
use Rattle.sk_def.specs.declared.bone.Target.{Target}
use Rattle.std.proofs.lemmas.Bool.{false≢true}
use Rattle.sk_filter.specs.Arguments.{Values}
use Rattle.sk_deriv.specs.Tree.{Derivation, derivation, Steps, pick, sub, hook_of, point_of, ins_of, outs_of, word, word_of_steps}
use Rattle.sk_def.specs.declared.def.Rule.{Rule}
use Rattle.sk_def.specs.Rules.{rule_of}
use Rattle.sk_term.specs.declared.node.TermNode.{TermNode}
use Rattle.sk_def.specs.Layout.{branch}
use Rattle.sk_value.specs.declared.flow.Flow.{Flow}
use Rattle.sk_deriv.specs.Env.{Env, start_of, values_at, gain, export}
use Rattle.sk_deriv.specs.Moves.{Moves, no_bone, by_filter, by_choice, by_hook, by_branch, Setting, IsValid, AllValid, Answers, Replays}
use Rattle.sk_deriv.proofs.Induction.{EachSub, EachSub-rest, AllValid-rest, induction}

-- any valid derivation of the same hook, point and inputs whose word can be continued to the same list is this one
abbrev pub Decodes : Setting → Derivation → Type 0
Decodes s t =
    (t' : Derivation) (x y : List ℕ) → IsValid s t → IsValid s t' → hook_of t ≡ hook_of t' → point_of t ≡ point_of t' → ins_of t ≡ ins_of t' → word t ++ x ≡ word t' ++ y → (t ≡ t') × (x ≡ y)

record Agree (env env' : Env Flow) (steps steps' rest rest' : Steps) (x y : List ℕ) : Type 0 where
  same_env : env ≡ env'
  same_words : word_of_steps rest ++ x ≡ word_of_steps rest' ++ y
  same_steps : rest ≡ rest' → steps ≡ steps'

same_head : {A : Type 0} (zs : List A) (a b : A) → zs ≡ a ∷ [] → zs ≡ b ∷ [] → a ≡ b
same_head zs a b p q = cc

same_some : {A : Type 0} (o : Option A) (a b : A) → o ≡ Some a → o ≡ Some b → a ≡ b
same_some o a b p q = cc

same_at : {A : Type 0} (zs : List A) (k k' : ℕ) (a b : A) → k ≡ k' → slice_get zs k ≡ Some a → slice_get zs k' ≡ Some b → a ≡ b
same_at zs k k' a b e p q = cc

same_first : (k k' : ℕ) (u v : List ℕ) → k ∷ u ≡ k' ∷ v → k ≡ k'
same_first k k' u v e = cc

same_rest : (k k' : ℕ) (u v : List ℕ) → k ∷ u ≡ k' ∷ v → u ≡ v
same_rest k k' u v e = cc

pub from_env : {names point : ℕ} {bones : List Bone} {env env' ends : Env Flow} {steps rest : Steps} → env ≡ env' → Moves names point bones env' steps ends rest → Moves names point bones env steps ends rest
from_env {names} {point} {bones} {env} {env'} {ends} {steps} {rest} e m = subst (λ w. Moves names point bones w steps ends rest) (sym e) m

pub from_bones : {names point : ℕ} {bones bones' : List Bone} {env ends : Env Flow} {steps rest : Steps} → bones ≡ bones' → Moves names point bones' env steps ends rest → Moves names point bones env steps ends rest
from_bones {names} {point} {bones} {bones'} {env} {ends} {steps} {rest} e m = subst (λ w. Moves names point w env steps ends rest) (sym e) m

-- two subtrees for one hook bone have one hook, point and inputs
same_query : {point : ℕ} {env : Env Flow} {hook : HookId} {args : List Var} {target : Target} {t t' : Derivation} → Answers point env hook args target t → Answers point env hook args target t' → (hook_of t ≡ hook_of t') × (point_of t ≡ point_of t') × (ins_of t ≡ ins_of t')
same_query a a' = (a.same_hook ∙ sym a'.same_hook, same_some _ _ _ a.at_target a'.at_target, same_some _ _ _ a.on_args a'.on_args)

module _ (s : Setting) (point : ℕ) where
  moves_agree : {bones : List Bone} {env env₁ env₂ : Env Flow} {steps₁ steps₂ rest₁ rest₂ : Steps} →
      Moves s.names point bones env steps₁ env₁ rest₁ → Moves s.names point bones env steps₂ env₂ rest₂ →
      EachSub (Decodes s) steps₁ → AllValid s steps₁ → AllValid s steps₂ → (x y : List ℕ) →
      word_of_steps steps₁ ++ x ≡ word_of_steps steps₂ ++ y → Agree env₁ env₂ steps₁ steps₂ rest₁ rest₂ x y
  moves_agree no_bone no_bone d v v' x y e = record { same_env = refl; same_words = e; same_steps = λ h. h }
  moves_agree (by_filter {outs = outs} {env = env} {result = a} c r m) (by_filter {result = b} c' r' m') d v v' x y e =
      moves_agree m (from_env (ap (gain env outs) (same_head _ a b r r')) m') d v v' x y e
  moves_agree (by_filter c r m) (by_choice c' r' m') d v v' x y e = absurd (false≢true (sym c ∙ c'))
  moves_agree (by_choice c r m) (by_filter c' r' m') d v v' x y e = absurd (false≢true (sym c' ∙ c))
  moves_agree (by_choice {outs = outs} {env = env} {k = k} {result = a} c r m) (by_choice {k = k'} {result = b} c' r' m') d v v' x y e =
      let pick_same = same_first k k' _ _ e in
      let after = moves_agree m (from_env (ap (gain env outs) (same_at _ k k' a b pick_same r r')) m') d v v' x y (same_rest k k' _ _ e) in
      record { same_env = after.same_env; same_words = after.same_words; same_steps = λ h. ap₂ pick pick_same (after.same_steps h) }
  moves_agree (by_hook {outs = outs} {env = env} {t = t} {steps = steps} a m) (by_hook {t = t'} {steps = steps'} a' m') d v v' x y e =
      let q = same_query a a' in
      let first = d.0 t' (word_of_steps steps ++ x) (word_of_steps steps' ++ y) v.0 v'.0 q.0 q.1 q.2 (sym (append_assoc (word t) _ _) ∙ e ∙ append_assoc (word t') _ _) in
      let after = moves_agree m (from_env (ap (λ w. gain env outs (outs_of w)) first.0) m') d.1 v.1 v'.1 x y first.1 in
      record { same_env = after.same_env; same_words = after.same_words; same_steps = λ h. ap₂ sub first.0 (after.same_steps h) }
  moves_agree (by_branch {counts = counts} {exports = exports} {bones = bones} {env = env} {k = k} l m n) (by_branch {k = k'} l' m' n') d v v' x y e =
      let pick_same = same_first k k' _ _ e in
      let inner = moves_agree m (from_bones (ap (λ w. branch counts w bones) pick_same) m') d v v' x y (same_rest k k' _ _ e) in
      let after = moves_agree n (from_env (ap (λ w. export env w exports) inner.same_env) n') (EachSub-rest _ m d) (AllValid-rest s m v) (AllValid-rest s m' v') x y inner.same_words in
      record { same_env = after.same_env; same_words = after.same_words; same_steps = λ h. ap₂ pick pick_same (inner.same_steps (after.same_steps h)) }

-- two replays of one hook, point and inputs are of one rule at one node
module _ (s : Setting) (hook : HookId) (point : ℕ) (ins : Values) (steps₁ steps₂ : Steps) (outs₁ outs₂ : Values) where
  same_node : (a : Replays s hook point ins steps₁ outs₁) (b : Replays s hook point ins steps₂ outs₂) → a.node ≡ b.node
  same_node a b = same_some _ _ _ a.node_is b.node_is

  same_rule : (a : Replays s hook point ins steps₁ outs₁) (b : Replays s hook point ins steps₂ outs₂) → a.rule ≡ b.rule
  same_rule a b = same_some _ _ _ a.rule_is (ap (λ (n : TermNode). rule_of s.def hook n.con) (same_node a b) ∙ b.rule_is)

  replays_agree : (a : Replays s hook point ins steps₁ outs₁) (b : Replays s hook point ins steps₂ outs₂) →
      EachSub (Decodes s) steps₁ → AllValid s steps₁ → AllValid s steps₂ → (x y : List ℕ) →
      word_of_steps steps₁ ++ x ≡ word_of_steps steps₂ ++ y → (steps₁ ≡ steps₂) × (outs₁ ≡ outs₂) × (x ≡ y)
  replays_agree a b d v v' x y e =
      let bones_same : a.rule.bones ≡ b.rule.bones = ap (λ (r : Rule). r.bones) (same_rule a b) in
      let start_same : start_of a.rule a.node ins ≡ start_of b.rule b.node ins = ap₂ (λ (r : Rule) (n : TermNode). start_of r n ins) (same_rule a b) (same_node a b) in
      let g = moves_agree s point a.moves (from_env start_same (from_bones bones_same b.moves)) d v v' x y e in
      let outs_same : values_at a.ends a.rule.outputs ≡ values_at b.ends b.rule.outputs = ap₂ (λ (w : Env Flow) (r : Rule). values_at w r.outputs) g.same_env (same_rule a b) in
      (g.same_steps refl, same_some _ _ _ a.outs_are (outs_same ∙ b.outs_are), g.same_words)

decodes_node : (s : Setting) (hook : HookId) (point : ℕ) (ins : Values) (steps : Steps) (outs : Values) → EachSub (Decodes s) steps → Decodes s (derivation hook point ins steps outs)
decodes_node s hook point ins steps outs d (derivation hook' point' ins' steps' outs') x y v v' eh ep ei e =
    let b₁ : Replays s hook point' ins' steps' outs' = subst (λ w. Replays s w point' ins' steps' outs') (sym eh) v'.0 in
    let b₂ : Replays s hook point ins' steps' outs' = subst (λ w. Replays s hook w ins' steps' outs') (sym ep) b₁ in
    let b₃ : Replays s hook point ins steps' outs' = subst (λ w. Replays s hook point w steps' outs') (sym ei) b₂ in
    let g = replays_agree s hook point ins steps steps' outs outs' v.0 b₃ d v.1 v'.1 x y e in
    let steps_same = g.0 in
    let outs_same = g.1 in
    ((cc), g.2)

-- words of valid derivations of one hook, point and inputs decode in one way
pub decodes : (s : Setting) (t : Derivation) → Decodes s t
decodes s t = induction (Decodes s) (decodes_node s) t
