-- A composed walk under one meaning is one under another that follows it step by step.
use Rattle.std.proofs.Common.{ℕ, List, Ok, map}
use Rattle.sk_def.specs.declared.ids.HookId.{HookId}
use Rattle.sk_def.specs.declared.ids.Var.{Var}
use Rattle.sk_def.specs.declared.bone.Target.{Target}
use Rattle.sk_def.specs.declared.filter.Filter.{Filter}
use Rattle.sk_def.specs.declared.bone.Bone.{Bone}
use Rattle.sk_walk.specs.Walks.{Meaning, Walks, WalksBranches, no_bone, filter_goes, hook_goes, merge_goes, no_branch, branch_goes}

module _ {S W X S' W' X' : Type 0} (m : Meaning S W X) (n : Meaning S' W' X') (f : S → S') (h : W → W') (P : S → Type 0) where
  -- from a state with P, each step of m leads to such a state, and is a step of n at the images of the states and the worlds
  pub record Follows : Type 0 where
    pub filter : (s t : S) (bone : ℕ) (filter : Filter) (args outs : List Var) (w v : W) → P s →
        m.filter s bone filter args outs w t (Ok v) → P t × n.filter (f s) bone filter args outs (h w) (f t) (Ok (h v))
    pub hook : (s t : S) (bone : ℕ) (hook : HookId) (target : Target) (args outs : List Var) (w v : W) → P s →
        m.hook s bone hook target args outs w t (Ok v) → P t × n.hook (f s) bone hook target args outs (h w) (f t) (Ok (h v))
    pub fork : (s t : S) (bone place : ℕ) (w v : W) → P s →
        m.fork s bone place w t (Ok v) → P t × n.fork (f s) bone place (h w) (f t) (Ok (h v))
    pub merge : (s t : S) (bone : ℕ) (exports : List Var) (w : W) (ends : List W) (v : W) → P s →
        m.merge s bone exports w ends t (Ok v) → P t × n.merge (f s) bone exports (h w) (map h ends) (f t) (Ok (h v))

  module _ (k : Follows) where
    mutual
      pub walk_followed : {first : ℕ} {bones : List Bone} {s t : S} {w v : W} → P s →
          Walks m first bones s w t (Ok v) → P t × Walks n first bones (f s) (h w) (f t) (Ok (h v))
      walk_followed i no_bone = (i, no_bone)
      walk_followed i (filter_goes p q) =
          let step = k.filter _ _ _ _ _ _ _ _ i p in
          let rest = walk_followed step.0 q in
          (rest.0, filter_goes step.1 rest.1)
      walk_followed i (hook_goes p q) =
          let step = k.hook _ _ _ _ _ _ _ _ _ i p in
          let rest = walk_followed step.0 q in
          (rest.0, hook_goes step.1 rest.1)
      walk_followed i (merge_goes b p q) =
          let inside = branches_followed i b in
          let step = k.merge _ _ _ _ _ _ _ inside.0 p in
          let rest = walk_followed step.0 q in
          (rest.0, merge_goes inside.1 step.1 rest.1)

      pub branches_followed : {bone : ℕ} {counts places : List ℕ} {bones : List Bone} {s t : S} {w : W} {ends : List W} → P s →
          WalksBranches m bone counts bones places w s t (Ok ends) →
          P t × WalksBranches n bone counts bones places (h w) (f s) (f t) (Ok (map h ends))
      branches_followed i no_branch = (i, no_branch)
      branches_followed i (branch_goes p q r) =
          let step = k.fork _ _ _ _ _ _ i p in
          let inside = walk_followed step.0 q in
          let rest = branches_followed inside.0 r in
          (rest.0, branch_goes step.1 inside.1 rest.1)
