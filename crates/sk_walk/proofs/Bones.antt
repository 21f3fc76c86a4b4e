-- One bone walked: what it asks of the interpretation, and what it leaves for the rest.
use Rattle.std.proofs.Common.{Result, ◌≡◌, ℕ, ◌+◌, List, [], ◌∷◌, length, map, ◌∙◌, Ok, Err, arith, true, add-zero}
use Rattle.std.specs.Prelude.{Some}
use Rattle.sk_base.specs.declared.flow.FlowSort.{FlowSort}
use Rattle.sk_def.specs.declared.sorts.VarSort.TheVariants.{Flow}
use Rattle.sk_def.specs.declared.ids.HookId.{HookId}
use Rattle.sk_def.specs.declared.ids.Var.{Var}
use Rattle.sk_def.specs.declared.bone.Target.{Target}
use Rattle.sk_def.specs.declared.filter.Filter.{Filter}
use Rattle.sk_def.specs.declared.bone.Bone.{Bone}
use Rattle.sk_def.specs.declared.bone.Bone.TheVariants.{Apply, Call, Either}
use Rattle.sk_def.specs.Sorts.{Sorts, FilterPasses, HookPasses, MergePasses, outputs_of, after_filter, after_hook, after_merge}
use Rattle.sk_def.specs.Signatures.{results}
use Rattle.sk_def.specs.Layout.{branch_places, inner_count, after_bone}
use Rattle.sk_walk.specs.declared.stop.WalkStop.{WalkStop}
use Rattle.sk_walk.specs.declared.stop.WalkStop.TheVariants.{Stop, NoMemory}
use Rattle.sk_walk.specs.Walks.{Meaning, Reading, WalksBranches, Composed, Halted, no_bone, filter_goes, filter_stops, hook_goes, hook_stops, merge_goes, merge_stops, branches_stop}
use Rattle.sk_walk.specs.Sorted.{SortedBranches, SortsAfter, Walkable, BranchesWalkable, BoneWalked}
use Rattle.sk_walk.specs.Answers.{AnswersWalk, StopsBranches}
use Rattle.sk_walk.proofs.Checks.{length-define, length-after_merge, Sorted-filter, Sorted-hook, Sorted-either, BonesFit-either, BranchBoneFits, after_filter_bone, after_hook_bone, branches_of, after_branch_bone}

module _ {reading : Reading} {bone : Bone} {rest : List Bone} {first : ℕ} {g : Sorts} where
  pub filter_passes : {filter : Filter} {args outs : List Var} → bone ≡ Apply filter args outs →
      Walkable reading first (bone ∷ rest) g → reading.asks_sorts ≡ true → FilterPasses g filter args outs
  filter_passes e k a = (Sorted-filter reading.definition reading.own ((rw e at k).sorted a).1).0

  pub hook_passes : {hook : HookId} {args : List Var} {target : Target} {outs : List Var} → bone ≡ Call hook args target outs →
      Walkable reading first (bone ∷ rest) g → reading.asks_sorts ≡ true → HookPasses reading.definition reading.own g hook args target outs
  hook_passes e k a = (Sorted-hook reading.definition reading.own ((rw e at k).sorted a).1).0

  pub branches_walkable : {counts : List ℕ} {exports : List Var} → bone ≡ Either counts exports →
      Walkable reading first (bone ∷ rest) g → BranchesWalkable reading first counts rest g
  branches_walkable e k = branches_of (rw e at k)

  pub branch_bone_fits : {counts : List ℕ} {exports : List Var} → bone ≡ Either counts exports →
      Walkable reading first (bone ∷ rest) g → BranchBoneFits (length reading.definition.hooks) (length g) counts exports rest
  branch_bone_fits e k = BonesFit-either (rw e at k).fits

  pub merge_passes : {counts : List ℕ} {exports : List Var} (reading' : Reading) (hs : List Sorts) → bone ≡ Either counts exports →
      reading' ≡ reading →
      ((gs : List Sorts) → SortedBranches reading.definition reading.own first counts rest (branch_places 0 counts) g gs → hs ≡ gs) →
      Walkable reading first (bone ∷ rest) g → reading'.asks_sorts ≡ true → MergePasses g exports hs
  merge_passes reading' hs e r ends k a =
      let p = Sorted-either reading.definition reading.own ((rw e at k).sorted (rw r at a)).1 in
      rw (ends p.ends p.branches) p.merges

module _ {S W X : Type 0} (m : Meaning S W X) where
  pub empty_walk : (bones : List Bone) (first : ℕ) (s : S) (w : W) → length bones ≡ 0 → Composed m first bones s w s w
  empty_walk [] first s w e = no_bone
  empty_walk (b ∷ bs) first s w e = absurd (omega (arith, e))

  module _ (reading : Reading) (sorts : W → Sorts) {bone : Bone} {rest : List Bone} {first : ℕ} where
    pub filter_walked : {s t : S} {w v : W} {filter : Filter} {args outs : List Var} → bone ≡ Apply filter args outs →
        m.filter s first filter args outs w t (Ok v) → sorts v ≡ after_filter (sorts w) filter outs →
        Walkable reading first (bone ∷ rest) (sorts w) → BoneWalked m reading sorts first bone rest s w t v
    filter_walked {w} {filter} {outs} e p after k = rw e record {
      goes = λ u answer q. filter_goes p (rw (add-zero (first + 1)) at q);
      walkable = rw (add-zero (first + 1), after) (after_filter_bone (rw e at k));
      sorts_after = λ h q.
          let r = rw (add-zero (first + 1), after) at q in
          record {
            same_length = r.same_length ∙ length-define (sorts w) outs (map Some (results filter));
            checked = λ l c. r.checked l (Sorted-filter reading.definition reading.own c).1;
          };
    }

    pub hook_walked : {s t : S} {w v : W} {hook : HookId} {args : List Var} {target : Target} {outs : List Var} → bone ≡ Call hook args target outs →
        m.hook s first hook target args outs w t (Ok v) → sorts v ≡ after_hook reading.definition (sorts w) hook outs →
        Walkable reading first (bone ∷ rest) (sorts w) → BoneWalked m reading sorts first bone rest s w t v
    hook_walked {w} {hook} {outs} e p after k = rw e record {
      goes = λ u answer q. hook_goes p (rw (add-zero (first + 1)) at q);
      walkable = rw (add-zero (first + 1), after) (after_hook_bone (rw e at k));
      sorts_after = λ h q.
          let r = rw (add-zero (first + 1), after) at q in
          record {
            same_length = r.same_length ∙ length-define (sorts w) outs (map (λ (s : FlowSort). Some (Flow s)) (outputs_of reading.definition hook));
            checked = λ l c. r.checked l (Sorted-hook reading.definition reading.own c).1;
          };
    }

    pub merge_walked : {s t u : S} {w v : W} {counts : List ℕ} {exports : List Var} {ends : List W} → bone ≡ Either counts exports →
        WalksBranches m first counts rest (branch_places 0 counts) w s t (Ok ends) → m.merge t first exports w ends u (Ok v) →
        ((gs : List Sorts) → SortedBranches reading.definition reading.own first counts rest (branch_places 0 counts) (sorts w) gs → map sorts ends ≡ gs) →
        sorts v ≡ after_merge (sorts w) exports (map sorts ends) →
        Walkable reading first (bone ∷ rest) (sorts w) → BoneWalked m reading sorts first bone rest s w u v
    merge_walked {w} {exports} {ends} e b p same after k = rw e record {
      goes = λ z answer q. merge_goes b p q;
      walkable = rw after (after_branch_bone (map sorts ends) (rw e at k) same);
      sorts_after = λ h q.
          let r = rw after at q in
          record {
            same_length = r.same_length ∙ length-after_merge (sorts w) exports (map sorts ends);
            checked = λ l c.
                let d = Sorted-either reading.definition reading.own c in
                r.checked l (rw (same d.ends d.branches) d.later);
          };
    }

  module _ (bone : Bone) (rest : List Bone) (first : ℕ) where
    pub filter_stopped : {s t : S} {w : W} {stop : X} {filter : Filter} {args outs : List Var} → bone ≡ Apply filter args outs →
        m.filter s first filter args outs w t (Err stop) → Halted m first (bone ∷ rest) s w t stop
    filter_stopped e p = rw e (filter_stops p)

    pub hook_stopped : {s t : S} {w : W} {stop : X} {hook : HookId} {args : List Var} {target : Target} {outs : List Var} → bone ≡ Call hook args target outs →
        m.hook s first hook target args outs w t (Err stop) → Halted m first (bone ∷ rest) s w t stop
    hook_stopped e p = rw e (hook_stops p)

    pub branches_stopped : (s t : S) (w : W) (stop : WalkStop X) {counts : List ℕ} {exports : List Var} → bone ≡ Either counts exports →
        StopsBranches m first counts rest (branch_places 0 counts) w s t stop → AnswersWalk m first (bone ∷ rest) s w t (Err stop)
    branches_stopped s t w (Stop stop) e p = rw e (branches_stop p)
    branches_stopped s t w NoMemory e p = tt

    pub merge_stopped : {s t u : S} {w : W} {stop : X} {counts : List ℕ} {exports : List Var} {ends : List W} → bone ≡ Either counts exports →
        WalksBranches m first counts rest (branch_places 0 counts) w s t (Ok ends) → m.merge t first exports w ends u (Err stop) →
        Halted m first (bone ∷ rest) s w u stop
    merge_stopped e b p = rw e (merge_stops b p)

  -- what the walker answers for the rest of a list, it answers for the whole
  module _ {reading : Reading} {sorts : W → Sorts} {bones : List Bone} {bone : Bone} {rest : List Bone} {first : ℕ} {s t : S} {w v : W}
      (e : bones ≡ bone ∷ rest) (walked : BoneWalked m reading sorts first bone rest s w t v) where
    pub rest_answers : (u : S) (answer : Result W (WalkStop X)) (next : ℕ) (later : List Bone) →
        next ≡ first + 1 + inner_count bone → later ≡ after_bone bone rest →
        AnswersWalk m next later t v u answer → AnswersWalk m first bones s w u answer
    rest_answers u (Ok z) next later n l q = rw e (walked.goes u (Ok z) (rw (n, l) at q))
    rest_answers u (Err (Stop stop)) next later n l q = rw e (walked.goes u (Err stop) (rw (n, l) at q))
    rest_answers u (Err NoMemory) next later n l q = tt

    pub rest_walkable : (reading' : Reading) (next : ℕ) (later : List Bone) →
        reading' ≡ reading → next ≡ first + 1 + inner_count bone → later ≡ after_bone bone rest → Walkable reading' next later (sorts v)
    rest_walkable reading' next later r n l = rw (r, n, l) walked.walkable

    pub rest_sorts : (reading' : Reading) (next : ℕ) (later : List Bone) (h : Sorts) →
        reading' ≡ reading → next ≡ first + 1 + inner_count bone → later ≡ after_bone bone rest →
        SortsAfter reading' next later (sorts v) h → SortsAfter reading first bones (sorts w) h
    rest_sorts reading' next later h r n l q = rw e (walked.sorts_after h (rw (r, n, l) at q))
