-- The variables of a rule that is being read, as they came, through each change of its lists.
use Rattle.std.proofs.Common.{◌≡◌, inl, inr, ℕ, suc, nat_lt, Bool, true, false, if◌then◌else◌, List, [], ◌∷◌, ◌++◌, length, refl, sym, ap, ◌∙◌, arith, append_assoc, Option, Some, None}
use Rattle.std.specs.Prelude.{sum, IfSome}
use Rattle.std.proofs.lemmas.List.{append-nil}
use Rattle.sk_base.specs.Names.{place_of_name, with_name}
use Rattle.sk_def.specs.Layout.{BonesFit}
use Rattle.sk_def.specs.declared.ids.Var.{Var}
use Rattle.sk_def.specs.declared.bone.Bone.TheVariants.{Either}
use Rattle.sk_def.specs.declared.bone.Target.{Target}
use Rattle.sk_def.specs.declared.bone.Target.TheVariants.{Own, Sub}
use Rattle.sk_deftext.specs.Bodies.{bone_of}
use Rattle.sk_deftext.specs.Written.{Appear, target_vars}
use Rattle.sk_deftext.specs.declared.draft.Draft.{Draft}
use Rattle.sk_deftext.specs.declared.draft.OpenBone.{OpenBone}
use Rattle.sk_deftext.specs.declared.draft.BoneHead.{BoneHead}
use Rattle.sk_deftext.specs.declared.draft.BoneHead.TheVariants as head
use Rattle.sk_deftext.proofs.Found.{Comes}
use Rattle.sk_deftext.proofs.Moves.{one_more, position_below}
use Rattle.sk_deftext.proofs.Traces.{vars_of, both_vars, inner_more, branch_vars}
use Rattle.sk_deftext.proofs.Phases.{target_part, came, is_call}

-- one variable more, which has come before or is the next
pub appear_push : (n m k : ℕ) (vs : List Var) (v : Var) → Appear n vs m → Comes m v k → Appear n (vs ++ v ∷ []) k
appear_push n m k [] v h (inl c) = inl (omega (arith, h, c.0), h ∙ c.1)
appear_push n m k [] v h (inr c) = inr (c.0 ∙ sym h, ap (λ i. suc i) h ∙ c.1)
appear_push n m k (x ∷ vs) v (inl h) c = inl (h.0, appear_push n m k vs v h.1 c)
appear_push n m k (x ∷ vs) v (inr h) c = inr (h.0, appear_push (suc n) m k vs v h.1 c)

-- the place of a name among others
abbrev pub NameComes : ℕ → Option (ℕ × List (List ℕ)) → Type 0
NameComes n o = IfSome o (λ r. Comes n (record { 0 = r.0 }) (length r.1))

name_last : (names : List (List ℕ)) (name : List ℕ) (b : Bool) → NameComes (length names) (if b then Some (length names, names ++ name ∷ []) else None)
name_last names name true = inr (refl, omega (arith, one_more names name))
name_last names name false = tt

pub name_comes : (names : List (List ℕ)) (name : List ℕ) → NameComes (length names) (with_name names name)
name_comes names name = by (place_of_name names name) refl where
  by : (o : Option ℕ) → place_of_name names name ≡ o → NameComes (length names) (with_name names name)
  by (Some place) e = rw e (inl (position_below _ names place e, refl))
  by None e = rw e (name_last names name (nat_lt (length names) 64))

no_target : (opened : Option BoneHead) → target_part opened Own ≡ []
no_target None = refl
no_target (Some (head.Filter filter)) = refl
no_target (Some (head.Hook hook)) = refl

one_vars : (first : BoneHead) (args : List Var) (target : Target) (list : List Var) → vars_of (bone_of first args target list ∷ []) ≡ args ++ (target_part (Some first) target ++ list)
one_vars (head.Filter filter) args target list = ap (λ vs. args ++ vs) (append-nil list)
one_vars (head.Hook hook) args target list = ap (λ vs. args ++ (target_vars target ++ vs)) (append-nil list)

-- Each change of the lists keeps what came.
module _ (draft : Draft) where
  -- a variable is listed
  pub with_entry : (v : Var) → came draft ++ v ∷ [] ≡ came (record draft { listed = draft.listed ++ v ∷ [] })
  with_entry v = simp append_assoc

  -- a hook bone has its target
  pub with_aim : (v : Var) → draft.target ≡ Own → draft.listed ≡ [] → is_call draft.opened ≡ true → came draft ++ v ∷ [] ≡ came (record draft { target = Sub v })
  with_aim v e f c = ap (λ t. came (record draft { target = t }) ++ v ∷ []) e ∙ by draft.opened c where
    by : (first : Option BoneHead) → is_call first ≡ true → came (record draft { opened = first; target = Own }) ++ v ∷ [] ≡ came (record draft { opened = first; target = Sub v })
    by None c = absurd (cc c)
    by (Some (head.Filter filter)) c = absurd (cc c)
    by (Some (head.Hook hook)) c = rw f (simp append_assoc)

  -- a bone begins
  pub with_head : (first : Option BoneHead) → draft.opened ≡ None → came draft ≡ came (record draft { opened = first; target = Own })
  with_head first e = rw (e, no_target first) refl

  -- a list ends: the terms, the inputs, the arguments of a bone
  pub as_terms : draft.terms ≡ [] → draft.rule_inputs ≡ [] → draft.unclosed ≡ [] → draft.bones ≡ [] → draft.bone_args ≡ [] → draft.opened ≡ None →
      came draft ≡ came (record draft { terms = draft.listed; listed = [] })
  as_terms a b c d e f = rw (a, b, c, d, e, f) (sym (append-nil draft.listed))

  pub as_inputs : draft.rule_inputs ≡ [] → draft.unclosed ≡ [] → draft.bones ≡ [] → draft.bone_args ≡ [] → draft.opened ≡ None →
      came draft ≡ came (record draft { rule_inputs = draft.listed; listed = [] })
  as_inputs a b c d e = rw (a, b, c, d, e, append-nil draft.listed) refl

  pub as_args : draft.bone_args ≡ [] → draft.target ≡ Own → came draft ≡ came (record draft { bone_args = draft.listed; listed = [] })
  as_args a e = rw (a, e, no_target draft.opened, append-nil draft.listed) refl

  -- a bone ends
  pub bone_ends : {hooks vars n : ℕ} (first : BoneHead) → BonesFit hooks vars n draft.bones → draft.opened ≡ Some first →
      came draft ≡ came (record draft { bones = draft.bones ++ bone_of first draft.bone_args draft.target draft.listed ∷ []; opened = None; bone_args = []; listed = [] })
  bone_ends first p e =
      let made = both_vars draft.bones (bone_of first draft.bone_args draft.target draft.listed ∷ []) p in
      rw (e, made, one_vars first draft.bone_args draft.target draft.listed) (simp (append_assoc, append-nil))

  -- a branch bone begins, a branch ends, a branch bone ends
  pub branches_begin : came draft ≡ came (record draft { unclosed = record { before = draft.bones; counts = []; inside = [] } ∷ draft.unclosed; bones = [] })
  branches_begin = simp (append_assoc, append-nil)

  pub branch_ends : (one : OpenBone) (outer : List OpenBone) → draft.unclosed ≡ one ∷ outer → sum one.counts ≡ length one.inside →
      came draft ≡ came (record draft { unclosed = record { before = one.before; counts = one.counts ++ length draft.bones ∷ []; inside = one.inside ++ draft.bones } ∷ outer; bones = [] })
  branch_ends one outer e f = rw (e, inner_more one.counts one.inside draft.bones f) (simp append_assoc)

  pub branches_end : {hooks vars n : ℕ} (one : OpenBone) (outer : List OpenBone) → draft.unclosed ≡ one ∷ outer → BonesFit hooks vars n one.before → sum one.counts ≡ length one.inside →
      draft.bones ≡ [] → draft.bone_args ≡ [] → draft.opened ≡ None →
      came draft ≡ came (record draft { bones = one.before ++ Either one.counts draft.listed ∷ one.inside; unclosed = outer; listed = [] })
  branches_end one outer e p f b a o =
      rw (e, b, a, o, both_vars one.before (Either one.counts draft.listed ∷ one.inside) p, branch_vars one.counts draft.listed one.inside f) (simp (append_assoc, append-nil))

  -- a rule ends
  pub rule_ends : draft.unclosed ≡ [] → draft.bone_args ≡ [] → draft.opened ≡ None → came draft ≡ draft.terms ++ (draft.rule_inputs ++ (vars_of draft.bones ++ draft.listed))
  rule_ends u a o = rw (u, a, o) refl
