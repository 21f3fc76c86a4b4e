-- What the conditions of a list of bones say of its first bone and of the rest.
use Rattle.std.proofs.Common.{◌≡◌, ℕ, ◌+◌, ◌≤◌, ◌<◌, List, [], ◌∷◌, take, sum, refl, ◌∙◌, Ok, length, arith, map, length-drop}
use Rattle.std.specs.Prelude.{Result, Option, Some, slice_set}
use Rattle.std.proofs.Math.ListN.{length-set}
use Rattle.sk_base.specs.declared.flow.FlowSort.{FlowSort}
use Rattle.sk_def.specs.declared.ids.HookId.{HookId}
use Rattle.sk_def.specs.declared.ids.SortId.{SortId}
use Rattle.sk_def.specs.declared.def.Def.{Def}
use Rattle.sk_def.specs.declared.ids.Var.{Var}
use Rattle.sk_def.specs.declared.sorts.VarSort.{VarSort}
use Rattle.sk_def.specs.declared.sorts.VarSort.TheVariants.{Flow}
use Rattle.sk_def.specs.declared.bone.Target.{Target}
use Rattle.sk_def.specs.declared.filter.Filter.{Filter}
use Rattle.sk_def.specs.declared.bone.Bone.{Bone}
use Rattle.sk_def.specs.declared.bone.Bone.TheVariants.{Apply, Call, Either}
use Rattle.sk_def.specs.Sorts.{Sorts, define, sort_of, FilterPasses, HookPasses, MergePasses, outputs_of, after_filter, after_hook, after_merge}
use Rattle.sk_def.specs.Signatures.{results}
use Rattle.sk_def.specs.Layout.{BonesFit, AreBelow, TargetIsBelow, filter_bone, hook_bone, branch_bone, branch, branch_places, first_of_branch, after_branches}
use Rattle.sk_def.proofs.Layouts.{branch_at, branch-take}
use Rattle.sk_walk.specs.Walks.{Reading, Walks, WalksBranches, no_bone, filter_goes, hook_goes, merge_goes, no_branch, branch_goes}
use Rattle.sk_walk.specs.Sorted.{Sorted, SortedBranches, SortsAfter, Walkable, BranchesWalkable, sort_checks}

-- defining variables adds none
pub length-define : (g : Sorts) (vs : List Var) (ss : List (Option VarSort)) → length (define g vs ss) ≡ length g
length-define g [] ss = refl
length-define g (v ∷ vs) [] = refl
length-define g (v ∷ vs) (s ∷ ss) = length-define (slice_set g v.0 s) vs ss ∙ length-set g v.0 s

pub length-after_merge : (g : Sorts) (exports : List Var) (ends : List Sorts) → length (after_merge g exports ends) ≡ length g
length-after_merge g exports [] = refl
length-after_merge g exports (e ∷ es) = length-define g exports (map (sort_of e) exports)

pub Ok-inj : {A B : Type 0} {a b : A} → ◌≡◌ {A = Result A B} (Ok a) (Ok b) → a ≡ b
Ok-inj e = cc

-- Inversions of the layout.

pub BonesFit-filter : {hooks vars nesting : ℕ} {filter : Filter} {args outs : List Var} {rest : List Bone} →
    BonesFit hooks vars nesting (Apply filter args outs ∷ rest) →
    AreBelow vars args × AreBelow vars outs × BonesFit hooks vars nesting rest
BonesFit-filter (filter_bone p q r) = (p, q, r)

pub BonesFit-hook : {hooks vars nesting : ℕ} {id : HookId} {args : List Var} {target : Target} {outs : List Var} {rest : List Bone} →
    BonesFit hooks vars nesting (Call id args target outs ∷ rest) →
    (id.0 < hooks) × AreBelow vars args × TargetIsBelow vars target × AreBelow vars outs × BonesFit hooks vars nesting rest
BonesFit-hook (hook_bone p q r s t) = (p, q, r, s, t)

pub record BranchBoneFits (hooks vars : ℕ) (counts : List ℕ) (exports : List Var) (rest : List Bone) : Type 0 where
  pub two : 2 ≤ length counts
  pub within : sum counts ≤ length rest
  pub exports_below : AreBelow vars exports
  pub inner : ℕ
  pub branches : (k : ℕ) → k < length counts → BonesFit hooks vars inner (branch counts k rest)
  pub outer : ℕ
  pub later : BonesFit hooks vars outer (after_branches counts rest)

pub BonesFit-either : {hooks vars nesting : ℕ} {counts : List ℕ} {exports : List Var} {rest : List Bone} →
    BonesFit hooks vars nesting (Either counts exports ∷ rest) → BranchBoneFits hooks vars counts exports rest
BonesFit-either {counts} {rest} (branch_bone p q r s t) = record {
  two = p;
  within = q;
  exports_below = r;
  inner = _;
  branches = λ k b. rw (branch-take counts k rest b) at (branch_at counts (take (sum counts) rest) k b s);
  outer = _;
  later = t;
}

-- Inversions of the sort checks.

module _ (d : Def) (own : SortId) where
  pub Sorted-filter : {first : ℕ} {filter : Filter} {args outs : List Var} {rest : List Bone} {s t : Unit {0}} {g h : Sorts} →
      Walks (sort_checks d own) first (Apply filter args outs ∷ rest) s g t (Ok h) →
      FilterPasses g filter args outs × Sorted d own (first + 1) rest (after_filter g filter outs) h
  Sorted-filter (filter_goes p q) = (p.0, rw (Ok-inj p.1) at q)

  pub Sorted-nothing : {first : ℕ} {s t : Unit {0}} {g h : Sorts} → Walks (sort_checks d own) first [] s g t (Ok h) → g ≡ h
  Sorted-nothing no_bone = refl

  pub Sorted-hook : {first : ℕ} {hook : HookId} {args : List Var} {target : Target} {outs : List Var} {rest : List Bone} {s t : Unit {0}} {g h : Sorts} →
      Walks (sort_checks d own) first (Call hook args target outs ∷ rest) s g t (Ok h) →
      HookPasses d own g hook args target outs × Sorted d own (first + 1) rest (after_hook d g hook outs) h
  Sorted-hook (hook_goes p q) = (p.0, rw (Ok-inj p.1) at q)

  pub record BranchBonePasses (first : ℕ) (counts : List ℕ) (exports : List Var) (rest : List Bone) (g h : Sorts) : Type 0 where
    pub ends : List Sorts
    pub branches : SortedBranches d own first counts rest (branch_places 0 counts) g ends
    pub merges : MergePasses g exports ends
    pub later : Sorted d own (first + 1 + sum counts) (after_branches counts rest) (after_merge g exports ends) h

  pub Sorted-either : {first : ℕ} {counts : List ℕ} {exports : List Var} {rest : List Bone} {s t : Unit {0}} {g h : Sorts} →
      Walks (sort_checks d own) first (Either counts exports ∷ rest) s g t (Ok h) →
      BranchBonePasses first counts exports rest g h
  Sorted-either (merge_goes b p q) = record { ends = _; branches = b; merges = p.0; later = rw (Ok-inj p.1) at q }

  pub record BranchPasses (bone k : ℕ) (counts places : List ℕ) (bones : List Bone) (g : Sorts) (gs : List Sorts) : Type 0 where
    pub end : Sorts
    pub more : List Sorts
    pub ends : gs ≡ end ∷ more
    pub sorted : Sorted d own (first_of_branch bone counts k) (branch counts k bones) g end
    pub later : SortedBranches d own bone counts bones places g more

  pub Sorted-branch : {bone k : ℕ} {counts places : List ℕ} {bones : List Bone} {s t : Unit {0}} {g : Sorts} {gs : List Sorts} →
      WalksBranches (sort_checks d own) bone counts bones (k ∷ places) g s t (Ok gs) →
      BranchPasses bone k counts places bones g gs
  Sorted-branch (branch_goes p q r) = record { end = _; more = _; ends = refl; sorted = rw (Ok-inj p) at q; later = r }

  pub Sorted-none : {bone : ℕ} {counts : List ℕ} {bones : List Bone} {s t : Unit {0}} {g : Sorts} {gs : List Sorts} →
      WalksBranches (sort_checks d own) bone counts bones [] g s t (Ok gs) → gs ≡ []
  Sorted-none no_branch = refl

-- The rest of a list after its first bone.

module _ {reading : Reading} {first : ℕ} {rest : List Bone} {g : Sorts} where
  pub after_filter_bone : {filter : Filter} {args outs : List Var} →
      Walkable reading first (Apply filter args outs ∷ rest) g → Walkable reading (first + 1) rest (after_filter g filter outs)
  after_filter_bone {filter} {outs} k = record {
    numbered = omega (arith, k.numbered);
    nesting = k.nesting;
    fits = rw (length-define g outs (map Some (results filter))) (BonesFit-filter k.fits).2;
    sorted = λ a. ((k.sorted a).0, (Sorted-filter reading.definition reading.own (k.sorted a).1).1);
  }

  pub after_hook_bone : {hook : HookId} {args : List Var} {target : Target} {outs : List Var} →
      Walkable reading first (Call hook args target outs ∷ rest) g →
      Walkable reading (first + 1) rest (after_hook reading.definition g hook outs)
  after_hook_bone {hook} {outs} k = record {
    numbered = omega (arith, k.numbered);
    nesting = k.nesting;
    fits = rw (length-define g outs (map (λ (s : FlowSort). Some (Flow s)) (outputs_of reading.definition hook))) (BonesFit-hook k.fits).4;
    sorted = λ a. ((k.sorted a).0, (Sorted-hook reading.definition reading.own (k.sorted a).1).1);
  }

  pub branches_of : {counts : List ℕ} {exports : List Var} →
      Walkable reading first (Either counts exports ∷ rest) g → BranchesWalkable reading first counts rest g
  branches_of {counts} k =
      let fit = BonesFit-either k.fits in
      record {
        numbered = omega (arith, k.numbered);
        within = fit.within;
        nesting = fit.inner;
        fits = fit.branches;
        sorted = λ a. let p = Sorted-either reading.definition reading.own (k.sorted a).1 in (p.ends, p.branches);
      }

  pub after_branch_bone : {counts : List ℕ} {exports : List Var} (hs : List Sorts) →
      Walkable reading first (Either counts exports ∷ rest) g →
      ((gs : List Sorts) → SortedBranches reading.definition reading.own first counts rest (branch_places 0 counts) g gs → hs ≡ gs) →
      Walkable reading (first + 1 + sum counts) (after_branches counts rest) (after_merge g exports hs)
  after_branch_bone {counts} {exports} hs k same =
      let fit = BonesFit-either k.fits in
      record {
        numbered = omega (arith, k.numbered, fit.within, length-drop (sum counts) rest);
        nesting = fit.outer;
        fits = rw (length-after_merge g exports hs) fit.later;
        sorted = λ a.
            let p = Sorted-either reading.definition reading.own (k.sorted a).1 in
            ((k.sorted a).0, rw (same p.ends p.branches) p.later);
      }

pub no_sorts : (reading : Reading) (first : ℕ) (bones : List Bone) (g : Sorts) → length bones ≡ 0 → SortsAfter reading first bones g g
no_sorts reading first [] g e = record { same_length = refl; checked = λ k p. Sorted-nothing reading.definition reading.own p }
no_sorts reading first (b ∷ bs) g e = absurd (omega (arith, e))
