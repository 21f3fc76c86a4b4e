-- A forest that grows by the derivations of a call.
use Rattle.std.proofs.Common.{◌≡◌, ℕ, ◌<◌, ◌≤◌, List, [], ◌∷◌, ◌++◌, length, inl, inr, refl, ap, sym, subst, ◌∙◌, arith, append_assoc, append-nil, length-append, get_or}
use Rattle.std.specs.List.{All, Contains}
use Rattle.std.proofs.lemmas.Bool.{cases_lt}
use Rattle.sk_filter.specs.Arguments.{Values}
use Rattle.sk_deriv.specs.declared.call.Call.{Call}
use Rattle.sk_deriv.specs.declared.forest.Node.{Node}
use Rattle.sk_deriv.specs.declared.forest.Step.{Step}
use Rattle.sk_deriv.specs.Forest.{IsBelow, steps_with, tree_at}
use Rattle.sk_deriv.specs.Tree.{Derivation, derivation, outs_of}
use Rattle.sk_deriv.proofs.ForestLemmas.{tree_at-append, tree_at-push, steps_with-append}
use Rattle.sk_deriv.proofs.Sorted.{Member, member_from_contains, contains_from_member}
use Rattle.sk_deriv.proofs.Members.{member_append_left, member_append_right}
use Rattle.sk_concrete.specs.declared.world.World.{World}
use Rattle.sk_concrete.specs.declared.world.Tree.{Tree}
use Rattle.sk_concrete.specs.Trees.{Stand, Closes, node_of}

pub below_more : (n m : ℕ) (steps : List Step) → n ≤ m → All (IsBelow n) steps → All (IsBelow m) steps
below_more n m steps h a k d l = step_more (get_or steps k d) (a k d l) where
  step_more : (step : Step) → IsBelow n step → IsBelow m step
  step_more (Step.Pick k) b = tt
  step_more (Step.Sub child) b = omega (arith, h, b)

pub stand_more : (nodes more : List Node) (trees : List Tree) (ts : List Derivation) → Stand nodes trees ts → Stand (nodes ++ more) trees ts
stand_more nodes more [] [] h = tt
stand_more nodes more [] (t ∷ ts) h = absurd h
stand_more nodes more (tree ∷ trees) [] h = absurd h
stand_more nodes more (tree ∷ trees) (t ∷ ts) h =
    ((omega (arith, h.0.0, length-append nodes more), tree_at-append nodes more tree.root h.0.0 ∙ h.0.1, h.0.2), stand_more nodes more trees ts h.1)

pub stand_join : (nodes : List Node) (trees : List Tree) (ts : List Derivation) (tree : Tree) (t : Derivation) → Stand nodes trees ts →
    tree.root < length nodes → tree_at nodes tree.root ≡ t → tree.outs ≡ outs_of t → Stand nodes (trees ++ tree ∷ []) (ts ++ t ∷ [])
stand_join nodes [] [] tree t h l e f = ((l, e, f), tt)
stand_join nodes [] (u ∷ ts) tree t h l e f = absurd h
stand_join nodes (u ∷ trees) [] tree t h l e f = absurd h
stand_join nodes (u ∷ trees) (v ∷ ts) tree t h l e f = (h.0, stand_join nodes trees ts tree t h.1 l e f)

pub closes_none : (nodes : List Node) → Closes nodes nodes [] []
closes_none nodes = record { more = []; grown = sym (append-nil nodes); stand = tt; are_new = λ k a b. absurd (omega (arith, a, b)) }

module _ (before now : List Node) (trees : List Tree) (ts : List Derivation) (c : Call) (w : World) (outs : Values) (there : All (IsBelow (length before)) w.steps) (closes : Closes before now trees ts) where
  abbrev node : Node
  node = node_of c w outs

  abbrev made : Derivation
  made = derivation c.hook c.point c.ins (steps_with (tree_at before) w.steps) outs

  same_steps : steps_with (tree_at now) w.steps ≡ steps_with (tree_at before) w.steps
  same_steps = ap (λ ns. steps_with (tree_at ns) w.steps) closes.grown ∙ steps_with-append before closes.more w.steps there

  made_at : tree_at (now ++ node ∷ []) (length now) ≡ made
  made_at = tree_at-push now node ∙ ap (λ steps. derivation c.hook c.point c.ins steps outs) same_steps

  are_new_more : (k : ℕ) → length before ≤ k → k < length (now ++ node ∷ []) → Contains (ts ++ made ∷ []) (tree_at (now ++ node ∷ []) k)
  are_new_more k a b = elim (cases_lt k (length now)) [
    | inl l ↦ contains_from_member (ts ++ made ∷ []) (tree_at (now ++ node ∷ []) k)
        (subst (λ t. Member t (ts ++ made ∷ [])) (sym (tree_at-append now (node ∷ []) k l))
        (member_append_left (tree_at now k) ts (made ∷ []) (member_from_contains ts (tree_at now k) (closes.are_new k a l))))
    | inr l ↦ contains_from_member (ts ++ made ∷ []) (tree_at (now ++ node ∷ []) k)
        (subst (λ t. Member t (ts ++ made ∷ [])) (sym (ap (tree_at (now ++ node ∷ [])) (let e : k ≡ length now = omega (arith, l, b, length-append now (node ∷ [])) in e) ∙ made_at))
        (member_append_right made ts (made ∷ []) (inl refl)))
  ]

  pub closes_one : (now' : List Node) (tree : Tree) → now' ≡ now ++ node ∷ [] → tree.root ≡ length now → tree.outs ≡ outs → Closes before now' (trees ++ tree ∷ []) (ts ++ made ∷ [])
  closes_one now' tree grown root same = subst (λ ns. Closes before ns (trees ++ tree ∷ []) (ts ++ made ∷ [])) (sym grown) (record {
    more = closes.more ++ node ∷ [];
    grown = ap (λ ns. ns ++ node ∷ []) closes.grown ∙ append_assoc before closes.more (node ∷ []);
    stand = stand_join (now ++ node ∷ []) trees ts tree made (stand_more now (node ∷ []) trees ts closes.stand)
        (omega (arith, root, length-append now (node ∷ []))) (ap (tree_at (now ++ node ∷ [])) root ∙ made_at) same;
    are_new = are_new_more;
  })
