-- What defining variables leaves of their sorts, and what the bones of each kind give.
use Rattle.std.proofs.Common.{◌≡◌, ℕ, zero, suc, ◌<◌, ◌≤◌, List, [], ◌∷◌, length, map, Option, Some, None, refl, sym, subst, ◌∙◌, ap, arith, inl, inr, slice_get, get_or, set}
use Rattle.std.specs.Prelude.{◌⊎◌, Contains, slice_set}
use Rattle.std.proofs.lemmas.Bool.{cases_eq, cases_lt}
use Rattle.std.proofs.lemmas.List.{get_or-set_same, get_or-set_other, get_or_past}
use Rattle.std.proofs.lemmas.Option.{slice_get_within, slice_get-get_or, get_or_from_slice_get}
use Rattle.std.proofs.Math.ListN.{length-set}
use Rattle.std.proofs.lemmas.List.Elements.{All-contains}
use Rattle.sk_base.specs.declared.flow.FlowSort.{FlowSort}
use Rattle.sk_def.specs.declared.def.Def.{Def}
use Rattle.sk_def.specs.declared.ids.Var.{Var}
use Rattle.sk_def.specs.declared.ids.HookId.{HookId}
use Rattle.sk_def.specs.declared.bone.Target.{Target}
use Rattle.sk_def.specs.declared.filter.Filter.{Filter}
use Rattle.sk_def.specs.declared.bone.Bone.{Bone}
use Rattle.sk_def.specs.declared.bone.Bone.TheVariants.{Apply, Call, Either}
use Rattle.sk_def.specs.declared.sorts.VarSort.{VarSort}
use Rattle.sk_def.specs.declared.sorts.VarSort.TheVariants.{Flow}
use Rattle.sk_def.specs.Signatures.{results}
use Rattle.sk_def.specs.Sorts.{Sorts, sort_of, define, AreNew, outputs_of}
use Rattle.sk_def.specs.Layout.{AreBelow}
use Rattle.sk_reasons.specs.Scope.{IsBone, IsOwnBone}
use Rattle.sk_reasons.specs.Gives.{Gives, by_filter, by_hook, by_branch}

-- Places of lists.

-- what stands at a place is contained
pub contains_at : {A : Type 0} (xs : List A) (i : ℕ) (x : A) → slice_get xs i ≡ Some x → Contains xs x
contains_at xs i x h = (i, slice_get_within xs i x h, get_or_from_slice_get xs i x x h)

-- what is contained stands at a place
pub place_of : {A : Type 0} (xs : List A) (x : A) → Contains xs x → (i : ℕ) × (i < length xs) × (slice_get xs i ≡ Some x)
place_of xs x c = (c.0, c.1, slice_get-get_or xs c.0 x c.1 ∙ ap Some c.2)

-- a place within a list has an entry
pub found : {A : Type 0} (xs : List A) (k : ℕ) → k < length xs → (x : A) × (slice_get xs k ≡ Some x)
found [] k h = absurd (omega (arith, h))
found (x ∷ xs) zero h = (x, refl)
found (x ∷ xs) (suc k) h = found xs k (omega (arith, h))

-- the entry at a place of a mapped list
pub mapped : {A B : Type 0} (f : A → B) (xs : List A) (i : ℕ) (x : A) → slice_get xs i ≡ Some x → slice_get (map f xs) i ≡ Some (f x)
mapped f [] i x h = cc
mapped f (y ∷ ys) zero x h = let e : y ≡ x = cc in ap (λ z. Some (f z)) e
mapped f (y ∷ ys) (suc i) x h = mapped f ys i x h

-- an entry of a mapped list comes from one at the same place
pub mapped_from : {A B : Type 0} (f : A → B) (xs : List A) (i : ℕ) (y : B) → slice_get (map f xs) i ≡ Some y →
    (x : A) × (slice_get xs i ≡ Some x) × (f x ≡ y)
mapped_from f [] i y h = cc
mapped_from f (x ∷ xs) zero y h = let e : f x ≡ y = cc in (x, refl, e)
mapped_from f (x ∷ xs) (suc i) y h = mapped_from f xs i y h

-- what is in two equal options is equal
pub some_same : {A : Type 0} {a b : A} → ◌≡◌ {A = Option A} (Some a) (Some b) → a ≡ b
some_same h = cc

-- nothing is not something
pub none_some : {A : Type 0} {a : A} → ◌≡◌ {A = Option A} None (Some a) → ⊥
none_some h = cc

same_var : (a b : Var) → a.0 ≡ b.0 → a ≡ b
same_var a b e = λ i. record { 0 = e i }

-- a variable at a place of a list lies below the bound of the list
pub below_at : (vars : ℕ) (vs : List Var) (i : ℕ) (v : Var) → AreBelow vars vs → slice_get vs i ≡ Some v → v.0 < vars
below_at vars vs i v below h = All-contains (λ (x : Var). x.0 < vars) vs v below (contains_at vs i v h)

-- Defining.

not_further : (w v : Var) (vs : List Var) → ¬ Contains (w ∷ vs) v → ¬ Contains vs v
not_further w v vs n c = n (suc c.0, omega (arith, c.1), c.2)

not_first : (w v : Var) (vs : List Var) → ¬ Contains (w ∷ vs) v → v.0 ≡ w.0 → ⊥
not_first w v vs n e = n (0, omega arith, same_var w v (sym e))

-- a variable that isn't among those that are defined keeps its sort
pub define_other : (g : Sorts) (vs : List Var) (ss : List (Option VarSort)) (v : Var) → ¬ Contains vs v → sort_of (define g vs ss) v ≡ sort_of g v
define_other g [] ss v n = refl
define_other g (w ∷ vs) [] v n = refl
define_other g (w ∷ vs) (o ∷ ss) v n =
    define_other (slice_set g w.0 o) vs ss v (not_further w v vs n) ∙ get_or-set_other g w.0 v.0 o None (not_first w v vs n)

-- a sort that is there after defining was there before, or stands at the place of the variable
pub define_only : (g : Sorts) (vs : List Var) (ss : List (Option VarSort)) (v : Var) (s : VarSort) → sort_of (define g vs ss) v ≡ Some s →
    (sort_of g v ≡ Some s) ⊎ ((i : ℕ) × (slice_get vs i ≡ Some v) × (slice_get ss i ≡ Some (Some s)))
define_only g [] ss v s h = inl h
define_only g (w ∷ vs) [] v s h = inl h
define_only g (w ∷ vs) (o ∷ ss) v s h = by (define_only (slice_set g w.0 o) vs ss v s h)
  where
    at_first : sort_of (slice_set g w.0 o) v ≡ Some s → (v.0 < length g) ⊎ (length g ≤ v.0) → v.0 ≡ w.0 →
        (sort_of g v ≡ Some s) ⊎ ((i : ℕ) × (slice_get (w ∷ vs) i ≡ Some v) × (slice_get (o ∷ ss) i ≡ Some (Some s)))
    at_first k (inl a) e =
        let f : get_or (set g w.0 o) v.0 None ≡ o = rw e (get_or-set_same g w.0 o None (omega (arith, a, e))) in
        inr (0, ap Some (same_var w v (sym e)), ap Some (sym f ∙ k))
    at_first k (inr a) e =
        let f = get_or_past (slice_set g w.0 o) v.0 None (omega (arith, a, length-set g w.0 o)) in
        absurd (none_some (sym f ∙ k))

    first : sort_of (slice_set g w.0 o) v ≡ Some s → (v.0 ≡ w.0) ⊎ (v.0 ≡ w.0 → ⊥) →
        (sort_of g v ≡ Some s) ⊎ ((i : ℕ) × (slice_get (w ∷ vs) i ≡ Some v) × (slice_get (o ∷ ss) i ≡ Some (Some s)))
    first k (inl e) = at_first k (cases_lt v.0 (length g)) e
    first k (inr n) = inl (sym (get_or-set_other g w.0 v.0 o None n) ∙ k)

    by : (sort_of (slice_set g w.0 o) v ≡ Some s) ⊎ ((i : ℕ) × (slice_get vs i ≡ Some v) × (slice_get ss i ≡ Some (Some s))) →
        (sort_of g v ≡ Some s) ⊎ ((i : ℕ) × (slice_get (w ∷ vs) i ≡ Some v) × (slice_get (o ∷ ss) i ≡ Some (Some s)))
    by (inl k) = first k (cases_eq v.0 w.0)
    by (inr r) = inr (suc r.0, r.1, r.2)

-- none of the variables stands twice
abbrev pub AreApart : List Var → Type 0
AreApart [] = Unit {0}
AreApart (v ∷ vs) = (¬ Contains vs v) × AreApart vs

-- new variables stand once each
pub new_apart : (g : Sorts) (vs : List Var) → AreNew g vs → AreApart vs
new_apart g [] n = tt
new_apart g (v ∷ vs) n = (n.1, new_apart g vs n.2)

-- a variable that has a sort is none of the new ones
pub new_others : (g : Sorts) (vs : List Var) (v : Var) (s : VarSort) → AreNew g vs → sort_of g v ≡ Some s → ¬ Contains vs v
new_others g [] v s n h c = absurd (omega (arith, c.1))
new_others g (w ∷ vs) v s n h (zero, less, e) =
    let P : Var → Type 0 = λ x. sort_of g x ≡ None in
    none_some (sym (subst P e n.0) ∙ h)
new_others g (w ∷ vs) v s n h (suc k, less, e) = new_others g vs v s n.2 h (k, omega (arith, less), e)

-- new variables leave the sorts that were there
pub define_keeps : (g : Sorts) (vs : List Var) (ss : List (Option VarSort)) (v : Var) (s : VarSort) → AreNew g vs →
    sort_of g v ≡ Some s → sort_of (define g vs ss) v ≡ Some s
define_keeps g vs ss v s n h = define_other g vs ss v (new_others g vs v s n h) ∙ h

-- each variable has the sort at its place
pub define_at : (g : Sorts) (vs : List Var) (ss : List (Option VarSort)) (v : Var) (o : Option VarSort) (i : ℕ) → AreApart vs → v.0 < length g →
    slice_get vs i ≡ Some v → slice_get ss i ≡ Some o → sort_of (define g vs ss) v ≡ o
define_at g [] ss v o i n w h k = cc
define_at g (x ∷ vs) [] v o i n w h k = cc
define_at g (x ∷ vs) (y ∷ ss) v o zero n w h k =
    let e : x ≡ v = some_same h in
    let f : y ≡ o = some_same k in
    let P : Var → Type 0 = λ z. ¬ Contains vs z in
    rw (e, f) (define_other (slice_set g v.0 o) vs ss v (subst P e n.0) ∙ get_or-set_same g v.0 o None w)
define_at g (x ∷ vs) (y ∷ ss) v o (suc i) n w h k =
    define_at (slice_set g x.0 y) vs ss v o i n.1 (omega (arith, w, length-set g x.0 y)) h k

-- What a bone of each kind gives.

-- a bone that gives something stands in the list
pub gives_within : {d : Def} {bones : List Bone} {at : ℕ} {v : Var} {s : VarSort} → Gives d bones at v s → at < length bones
gives_within {bones} {at} (by_filter {filter} {args} {outs} i is o r) = slice_get_within bones at (Apply filter args outs) is
gives_within {bones} {at} (by_hook {hook} {args} {target} {outs} i is o r) = slice_get_within bones at (Call hook args target outs) is
gives_within {bones} {at} (by_branch {counts} {exports} is c own g) = slice_get_within bones at (Either counts exports) is

module _ {d : Def} {bones : List Bone} where
  -- what a filter bone gives
  pub gives_filter : {at : ℕ} {v : Var} {s : VarSort} (filter : Filter) (args outs : List Var) → Gives d bones at v s → IsBone bones at (Apply filter args outs) →
      (i : ℕ) × (slice_get outs i ≡ Some v) × (slice_get (results filter) i ≡ Some s)
  gives_filter filter args outs (by_filter {filter = f} {args = bs} {outs = os} i is o r) h =
      let e : Apply f bs os ≡ Apply filter args outs = some_same (sym is ∙ h) in
      let p : f ≡ filter = cc in
      let q : os ≡ outs = cc in
      (i, rw q at o, rw p at r)
  gives_filter filter args outs (by_hook i is o r) h = absurd (cc (is, h))
  gives_filter filter args outs (by_branch is c own g) h = absurd (cc (is, h))

  -- what a hook bone gives
  pub gives_hook : {at : ℕ} {v : Var} {s : VarSort} (hook : HookId) (args : List Var) (target : Target) (outs : List Var) → Gives d bones at v s →
      IsBone bones at (Call hook args target outs) →
      (i : ℕ) × (t : FlowSort) × (slice_get outs i ≡ Some v) × (slice_get (outputs_of d hook) i ≡ Some t) × (Flow t ≡ s)
  gives_hook hook args target outs (by_hook {hook = f} {args = bs} {target = ta} {outs = os} {s = t} i is o r) h =
      let e : Call f bs ta os ≡ Call hook args target outs = some_same (sym is ∙ h) in
      let p : f ≡ hook = cc in
      let q : os ≡ outs = cc in
      (i, t, rw q at o, rw p at r, refl)
  gives_hook hook args target outs (by_filter i is o r) h = absurd (cc (is, h))
  gives_hook hook args target outs (by_branch is c own g) h = absurd (cc (is, h))

  -- what a branch bone gives
  pub gives_either : {at : ℕ} {v : Var} {s : VarSort} (counts : List ℕ) (exports : List Var) → Gives d bones at v s → IsBone bones at (Either counts exports) →
      (earlier : ℕ) × Contains exports v × IsOwnBone bones at 0 earlier × Gives d bones earlier v s
  gives_either counts exports (by_branch {earlier} {counts = cs} {exports = es} is c own g) h =
      let e : Either cs es ≡ Either counts exports = some_same (sym is ∙ h) in
      let q : es ≡ exports = cc in
      (earlier, rw q at c, own, g)
  gives_either counts exports (by_filter i is o r) h = absurd (cc (is, h))
  gives_either counts exports (by_hook i is o r) h = absurd (cc (is, h))
