-- What the bones of a rule define are values.
use Rattle.std.proofs.Common.{◌≡◌, ℕ, zero, suc, List, [], ◌∷◌, map, Option, Some, None, Result, Ok, sym, subst}
use Rattle.std.specs.Prelude.{slice_set, slice_index_or}
use Rattle.std.specs.List.{AllByRecursion}
use Rattle.sk_base.specs.declared.flow.FlowSort.{FlowSort}
use Rattle.sk_def.specs.declared.ids.Var.{Var}
use Rattle.sk_def.specs.declared.ids.SortId.{SortId}
use Rattle.sk_def.specs.declared.sorts.VarSort.{VarSort}
use Rattle.sk_def.specs.declared.sorts.VarSort.TheVariants as variable
use Rattle.sk_def.specs.declared.filter.Filter.{Filter}
use Rattle.sk_def.specs.declared.bone.Bone.{Bone}
use Rattle.sk_def.specs.declared.def.Def.{Def}
use Rattle.sk_def.specs.Signatures.{results}
use Rattle.sk_def.specs.Sorts.{Sorts, sort_of, define, AreNew, after_merge, outputs_of}
use Rattle.sk_walk.specs.Walks.{Walks, WalksBranches, no_bone, filter_goes, hook_goes, merge_goes, no_branch, branch_goes}
use Rattle.sk_walk.specs.Sorted.{sort_checks}

-- what an option has, if anything, has this
abbrev pub IfThere : {A : Type 0} → (A → Type 0) → Option A → Type 0
IfThere P None = Unit {0}
IfThere P (Some x) = P x

-- the sorts of values
abbrev pub IsFlowSort : VarSort → Type 0
IsFlowSort variable.Number = ⊥
IsFlowSort variable.Name = ⊥
IsFlowSort (variable.Term t) = ⊥
IsFlowSort (variable.Flow f) = Unit {0}

set_has : {A : Type 0} (P : A → Type 0) (xs : List (Option A)) (i j : ℕ) (x : Option A) → IfThere P (slice_index_or xs j None) → IfThere P x → IfThere P (slice_index_or (slice_set xs i x) j None)
set_has P [] i j x h p = h
set_has P (y ∷ xs) zero zero x h p = p
set_has P (y ∷ xs) zero (suc j) x h p = h
set_has P (y ∷ xs) (suc i) zero x h p = h
set_has P (y ∷ xs) (suc i) (suc j) x h p = set_has P xs i j x h p

-- a variable that isn't defined or stands for a value stays so where values are defined
define_flows : (outs : List Var) (g : Sorts) (sorts : List (Option VarSort)) (v : Var) → AllByRecursion (IfThere IsFlowSort) sorts → IfThere IsFlowSort (sort_of g v) → IfThere IsFlowSort (sort_of (define g outs sorts) v)
define_flows [] g sorts v p h = h
define_flows (o ∷ outs) g [] v p h = h
define_flows (o ∷ outs) g (sort ∷ sorts) v p h = define_flows outs (slice_set g o.0 sort) sorts v p.1 (set_has IsFlowSort g o.0 v.0 sort h p.0)

results_are_flows : (filter : Filter) → AllByRecursion (IfThere IsFlowSort) (map Some (results filter))
results_are_flows Filter.IsTrue = tt
results_are_flows Filter.IsFalse = tt
results_are_flows Filter.IsZero = tt
results_are_flows Filter.NonZero = tt
results_are_flows Filter.IsPos = tt
results_are_flows Filter.IsNeg = tt
results_are_flows Filter.Below = (tt, (tt, tt))
results_are_flows Filter.AtLeast = (tt, (tt, tt))
results_are_flows Filter.Same = (tt, (tt, tt))
results_are_flows Filter.Differ = (tt, (tt, tt))
results_are_flows _ = (tt, tt)

pub results_flow : (filter : Filter) → AllByRecursion IsFlowSort (results filter)
results_flow filter = go (results filter) (results_are_flows filter)
  where
    go : (ss : List VarSort) → AllByRecursion (IfThere IsFlowSort) (map Some ss) → AllByRecursion IsFlowSort ss
    go [] h = tt
    go (s ∷ ss) h = (h.0, go ss h.1)

outputs_are_flows : (sorts : List FlowSort) → AllByRecursion (IfThere IsFlowSort) (map (λ f. Some (variable.Flow f)) sorts)
outputs_are_flows [] = tt
outputs_are_flows (f ∷ sorts) = (tt, outputs_are_flows sorts)

undefined : (o : Option VarSort) → o ≡ None → IfThere IsFlowSort o
undefined None e = tt
undefined (Some x) e = absurd cc

-- exported variables that are new stand for values at the end of a branch
pub exports_are_flows : (g e : Sorts) (exports : List Var) → AreNew g exports → ((v : Var) → IfThere IsFlowSort (sort_of g v) → IfThere IsFlowSort (sort_of e v)) → AllByRecursion (IfThere IsFlowSort) (map (sort_of e) exports)
exports_are_flows g e [] h step = tt
exports_are_flows g e (v ∷ exports) h step = (step v (undefined (sort_of g v) h.0), exports_are_flows g e exports h.2 step)

pub ok_same : {A X : Type 0} (v w : A) → ◌≡◌ {A = Result A X} (Ok v) (Ok w) → v ≡ w
ok_same v w e = cc

module _ (d : Def) (own : SortId) where
  -- the variable isn't defined or stands for a value
  abbrev StaysFlow : Sorts → Sorts → Type 0
  StaysFlow g h = (v : Var) → IfThere IsFlowSort (sort_of g v) → IfThere IsFlowSort (sort_of h v)

  stays_then : (g h k : Sorts) → h ≡ k → StaysFlow g k → StaysFlow g h
  stays_then g h k e step = subst (StaysFlow g) (sym e) step

  merged : (g : Sorts) (exports : List Var) (ends : List Sorts) → AreNew g exports → AllByRecursion (StaysFlow g) ends → StaysFlow g (after_merge g exports ends)
  merged g exports [] new h v p = p
  merged g exports (e ∷ ends) new h v p = define_flows exports g (map (sort_of e) exports) v (exports_are_flows g e exports new h.0) p

  mutual
    pub adds_flows : {first : ℕ} {bones : List Bone} {s t : Unit {0}} {g h : Sorts} → Walks (sort_checks d own) first bones s g t (Ok h) → StaysFlow g h
    adds_flows no_bone v p = p
    adds_flows (filter_goes {filter} {args} {outs} {w = g} {v = k} h rest) v p =
        adds_flows rest v (stays_then g k _ (ok_same _ _ h.1) (λ v p. define_flows outs g (map Some (results filter)) v (results_are_flows filter) p) v p)
    adds_flows (hook_goes {hook} {outs} {w = g} {v = k} h rest) v p =
        adds_flows rest v (stays_then g k _ (ok_same _ _ h.1) (λ v p. define_flows outs g (map (λ f. Some (variable.Flow f)) (outputs_of d hook)) v (outputs_are_flows (outputs_of d hook)) p) v p)
    adds_flows (merge_goes {exports} {w = g} {v = k} {ends} b h rest) v p =
        adds_flows rest v (stays_then g k _ (ok_same _ _ h.1) (merged g exports ends h.0.exports_new (ends_add_flows b)) v p)

    pub ends_add_flows : {bone : ℕ} {counts places : List ℕ} {bones : List Bone} {s t : Unit {0}} {g : Sorts} {ends : List Sorts} → WalksBranches (sort_checks d own) bone counts bones places g s t (Ok ends) → AllByRecursion (StaysFlow g) ends
    ends_add_flows no_branch = tt
    ends_add_flows (branch_goes {w = g} {v = k} {z = z} h inside rest) =
        ((λ v p. adds_flows inside v (subst (λ g. IfThere IsFlowSort (sort_of g v)) (sym (ok_same _ _ h)) p)), ends_add_flows rest)
