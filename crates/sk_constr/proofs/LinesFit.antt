-- The lines of a well-sorted rule fit the positions of its bones.
use Rattle.std.proofs.Common.{◌≡◌, ℕ, zero, suc, ◌+◌, ◌<◌, ◌≤◌, List, [], ◌∷◌, ◌++◌, map, length, drop, take, sum, Option, Some, None, refl, sym, ◌∙◌, ap, ap₂, subst, arith, append_assoc, length-append}
use Rattle.std.specs.Prelude.{slice_get, slice_index}
use Rattle.std.specs.List.{AllByRecursion, filter_map, flat_map}
use Rattle.std.specs.Option.{option_map_or}
use Rattle.std.proofs.lemmas.List.{length-drop, length-map}
use Rattle.std.proofs.lemmas.Option.{slice_get_within}
use Rattle.std.proofs.lemmas.List.Elements.{recursion_from_All}
use Rattle.std.proofs.lemmas.List.Sums.{sum_by-cons, sum_by-take-drop}
use Rattle.sk_base.specs.declared.flow.FlowSort.{FlowSort}
use Rattle.sk_def.specs.declared.ids.Var.{Var}
use Rattle.sk_def.specs.declared.ids.HookId.{HookId}
use Rattle.sk_def.specs.declared.ids.SortId.{SortId}
use Rattle.sk_def.specs.declared.bone.Target.{Target}
use Rattle.sk_def.specs.declared.bone.Bone.{Bone}
use Rattle.sk_def.specs.declared.bone.Bone.TheVariants.{Apply, Call, Either}
use Rattle.sk_def.specs.declared.filter.Filter.{Filter}
use Rattle.sk_def.specs.declared.def.Def.{Def}
use Rattle.sk_def.specs.declared.def.Hook.{Hook}
use Rattle.sk_def.specs.declared.sorts.VarSort.{VarSort}
use Rattle.sk_def.specs.declared.sorts.VarSort.TheVariants as variable
use Rattle.sk_def.specs.Fits.{ListsAreShort}
use Rattle.sk_def.specs.Signatures.{parameters, results}
use Rattle.sk_def.specs.Layout.{BonesFit, branch, branch_places, first_of_branch, after_branches}
use Rattle.sk_def.specs.Sorts.{Sorts, sort_of, define, HaveSorts, FilterPasses, HookPasses, MergePasses, outputs_of, after_filter, after_hook, after_merge}
use Rattle.sk_walk.specs.Sorted.{Sorted, SortedBranches}
use Rattle.sk_walk.proofs.Checks.{BonesFit-filter, BonesFit-hook, BonesFit-either, Sorted-filter, Sorted-nothing, Sorted-hook, Sorted-either, Sorted-branch, Sorted-none}
use Rattle.sk_sort.specs.DefinedBefore.{sorts_after}
use Rattle.sk_sort.proofs.Walked.{shorter-drop, shorter-branch}
use Rattle.sk_term.specs.declared.node.TermNode.{TermNode}
use Rattle.sk_term.specs.Program.{IsSortOfPoint}
use Rattle.sk_deriv.specs.Env.{target_at, gain}
use Rattle.sk_constr.specs.declared.line.Part.{Part}
use Rattle.sk_constr.specs.declared.line.Line.{Line}
use Rattle.sk_constr.specs.declared.line.KeyLines.{KeyLines}
use Rattle.sk_constr.specs.Operands.{PlaceEnv, places, operands_at}
use Rattle.sk_constr.specs.Positions.{flow_sort, exported_sorts, sorts_at_ends, branch_sorts, positions_of}
use Rattle.sk_constr.specs.Lines.{env_after, last_position, line_at, lines_of}
use Rattle.sk_constr.specs.Fits.{ValuesFit, IsCalled, FilterFits, JoinFits, LineFits}
use Rattle.sk_constr.proofs.EnvFits.{Has, EnvFits, parameters_are_args, flows_are_args, map_flows, operands_fit, counted, target_there, gain_fits}
use Rattle.sk_constr.proofs.NewFlows.{IsFlowSort, IfThere, results_flow, adds_flows, exports_are_flows}

-- sorts of values alone
flows_back : (vs : List VarSort) → AllByRecursion IsFlowSort vs → vs ≡ map VarSort.Flow (filter_map flow_sort vs)
flows_back [] h = refl
flows_back (variable.Number ∷ vs) h = absurd h.0
flows_back (variable.Name ∷ vs) h = absurd h.0
flows_back (variable.Term t ∷ vs) h = absurd h.0
flows_back (variable.Flow s ∷ vs) h = ap (λ ws. variable.Flow s ∷ ws) (flows_back vs h.1)

as_many : (vs : List VarSort) → AllByRecursion IsFlowSort vs → length vs ≡ length (filter_map flow_sort vs)
as_many vs h = ap length (flows_back vs h) ∙ length-map (filter_map flow_sort vs) VarSort.Flow

exported_are : (e : Sorts) (vars : List Var) (ss : List VarSort) → map (sort_of e) vars ≡ map Some ss → exported_sorts e vars ≡ filter_map flow_sort ss
exported_are e [] [] h = refl
exported_are e [] (s ∷ ss) h = absurd cc
exported_are e (v ∷ vars) [] h = absurd cc
exported_are e (v ∷ vars) (s ∷ ss) h =
    let first : sort_of e v ≡ Some s = cc in
    let rest : map (sort_of e) vars ≡ map Some ss = cc in
    rw (first, exported_are e vars ss rest) refl

all_some : (e : Sorts) (vars : List Var) (ss : List VarSort) → map (sort_of e) vars ≡ map Some ss → AllByRecursion (IfThere IsFlowSort) (map (sort_of e) vars) → AllByRecursion IsFlowSort ss
all_some e vars ss h p = go ss (subst (AllByRecursion (IfThere IsFlowSort)) h p)
  where
    go : (ss : List VarSort) → AllByRecursion (IfThere IsFlowSort) (map Some ss) → AllByRecursion IsFlowSort ss
    go [] q = tt
    go (s ∷ ss) q = (q.0, go ss q.1)

-- Lists.

each_append : {A : Type 0} (P : A → Type 0) (xs ys : List A) → AllByRecursion P xs → AllByRecursion P ys → AllByRecursion P (xs ++ ys)
each_append P [] ys h k = k
each_append P (x ∷ xs) ys h k = (h.0, each_append P xs ys h.1 k)

each_drop : {A : Type 0} (P : A → Type 0) (n : ℕ) (xs : List A) → AllByRecursion P xs → AllByRecursion P (drop n xs)
each_drop P zero xs h = h
each_drop P (suc n) [] h = tt
each_drop P (suc n) (x ∷ xs) h = each_drop P n xs h.1

each_take : {A : Type 0} (P : A → Type 0) (n : ℕ) (xs : List A) → AllByRecursion P xs → AllByRecursion P (take n xs)
each_take P zero xs h = tt
each_take P (suc n) [] h = tt
each_take P (suc n) (x ∷ xs) h = (h.0, each_take P n xs h.1)

drop_first : {A : Type 0} (n : ℕ) (xs ys : List A) (y : A) → drop n xs ≡ y ∷ ys → slice_get xs n ≡ Some y
drop_first zero [] ys y e = absurd cc
drop_first zero (x ∷ xs) ys y e = let same : x ≡ y = cc in ap Some same
drop_first (suc n) [] ys y e = absurd cc
drop_first (suc n) (x ∷ xs) ys y e = drop_first n xs ys y e

drop_next : {A : Type 0} (n : ℕ) (xs ys : List A) (y : A) → drop n xs ≡ y ∷ ys → drop (n + 1) xs ≡ ys
drop_next n xs ys y e = let next : suc n ≡ n + 1 = omega arith in subst (λ k. drop k xs ≡ ys) next (go n xs e)
  where
    go : (n : ℕ) (xs : List _) → drop n xs ≡ y ∷ ys → drop (suc n) xs ≡ ys
    go zero [] e = absurd cc
    go zero (x ∷ xs) e = cc
    go (suc n) [] e = absurd cc
    go (suc n) (x ∷ xs) e = go n xs e

drop_past : {A : Type 0} (n : ℕ) (xs ys zs : List A) → drop n xs ≡ ys ++ zs → drop (n + length ys) xs ≡ zs
drop_past n xs [] zs e = let same : n ≡ n + 0 = omega arith in subst (λ k. drop k xs ≡ zs) same e
drop_past n xs (y ∷ ys) zs e =
    let next : n + 1 + length ys ≡ n + suc (length ys) = omega arith in
    subst (λ k. drop k xs ≡ zs) next (drop_past (n + 1) xs ys zs (drop_next n xs (ys ++ zs) y e))

-- what stands in a list from a place on
pub record Stands {A : Type 0} (all : List A) (from : ℕ) (part : List A) : Type 0 where
  pub rest : List A
  pub is : drop from all ≡ part ++ rest

stands_left : {A : Type 0} (all : List A) (from : ℕ) (xs ys : List A) → Stands all from (xs ++ ys) → Stands all from xs
stands_left all from xs ys s = record { rest = ys ++ s.rest; is = s.is ∙ append_assoc xs ys s.rest }

stands_right : {A : Type 0} (all : List A) (from next : ℕ) (xs ys : List A) → from + length xs ≡ next → Stands all from (xs ++ ys) → Stands all next ys
stands_right all from next xs ys e s = record { rest = s.rest; is = subst (λ k. drop k all ≡ ys ++ s.rest) e (drop_past from all xs (ys ++ s.rest) (s.is ∙ append_assoc xs ys s.rest)) }

stands_next : {A : Type 0} (all : List A) (from : ℕ) (x : A) (xs : List A) → Stands all from (x ∷ xs) → Stands all (from + 1) xs
stands_next all from x xs s = record { rest = s.rest; is = drop_next from all (xs ++ s.rest) x s.is }

stands_first : {A : Type 0} (all : List A) (from : ℕ) (x : A) (xs : List A) → Stands all from (x ∷ xs) → slice_get all from ≡ Some x
stands_first all from x xs s = drop_first from all (xs ++ s.rest) x s.is

-- Branches.

-- branches from a place on, the sizes of which are these
record Later (counts : List ℕ) (i : ℕ) (cs : List ℕ) : Type 0 where
  left : drop i counts ≡ cs
  many : i + length cs ≡ length counts

size_there : (counts : List ℕ) (i c : ℕ) (cs : List ℕ) → drop i counts ≡ c ∷ cs → (slice_index counts i ≡ c) × (sum (take (suc i) counts) ≡ sum (take i counts) + c) × (sum (take i counts) + c ≤ sum counts)
size_there [] zero c cs e = absurd cc
size_there [] (suc i) c cs e = absurd cc
size_there (x ∷ counts) zero c cs e =
    let same : x ≡ c = cc in
    (same, omega (arith, same, sum_by-cons (λ (n : ℕ). n) x []), omega (arith, same, sum_by-cons (λ (n : ℕ). n) x counts))
size_there (x ∷ counts) (suc i) c cs e =
    let r = size_there counts i c cs e in
    (r.0, omega (arith, r.1, sum_by-cons (λ (n : ℕ). n) x (take (suc i) counts), sum_by-cons (λ (n : ℕ). n) x (take i counts)), omega (arith, r.2, sum_by-cons (λ (n : ℕ). n) x (take i counts), sum_by-cons (λ (n : ℕ). n) x counts))

length_take : {A : Type 0} (n : ℕ) (xs : List A) → n ≤ length xs → length (take n xs) ≡ n
length_take zero xs h = refl
length_take (suc n) [] h = absurd (omega (arith, h))
length_take (suc n) (x ∷ xs) h = ap (λ k. suc k) (length_take n xs (omega (arith, h)))

branch_long : (counts : List ℕ) (i c : ℕ) (cs : List ℕ) (bones : List Bone) → drop i counts ≡ c ∷ cs → sum counts ≤ length bones → length (branch counts i bones) ≡ c
branch_long counts i c cs bones e h =
    let s = size_there counts i c cs e in
    let room : slice_index counts i ≤ length (drop (sum (take i counts)) bones) = omega (arith, s.0, s.2, h, length-drop (sum (take i counts)) bones) in
    length_take (slice_index counts i) (drop (sum (take i counts)) bones) room ∙ s.0

-- as many positions as bones
branch_positions : (d : Def) (n : ℕ) (g : Sorts) (counts : List ℕ) (bones : List Bone) → ((k : ℕ) → k < length counts → length (positions_of d n g (branch counts k bones)) ≡ length (branch counts k bones)) → sum counts ≤ length bones →
    (cs : List ℕ) (i : ℕ) → drop i counts ≡ cs → i + length cs ≡ length counts → length (flat_map (λ k. positions_of d n g (branch counts k bones)) (branch_places i cs)) ≡ sum cs
branch_positions d n g counts bones each within [] i e m = refl
branch_positions d n g counts bones each within (c ∷ cs) i e m =
    omega (
      arith,
      length-append (positions_of d n g (branch counts i bones)) (flat_map (λ k. positions_of d n g (branch counts k bones)) (branch_places (i + 1) cs)),
      each i (omega (arith, m)),
      branch_long counts i c cs bones e within,
      branch_positions d n g counts bones each within cs (i + 1) (drop_next i counts cs c e) (omega (arith, m)),
      sum_by-cons (λ (n : ℕ). n) c cs,
    )

module _ (d : Def) (hooks vars : ℕ) where
  pub many_positions : (n : ℕ) (bones : List Bone) (g : Sorts) (nesting : ℕ) → length bones ≤ n → BonesFit hooks vars nesting bones → length (positions_of d n g bones) ≡ length bones
  many_positions n [] g nesting l f = refl
  many_positions zero (b ∷ bones) g nesting l f = absurd (omega (arith, l))
  many_positions (suc n) (Apply filter args outs ∷ bones) g nesting l f = ap (λ k. suc k) (many_positions n bones (after_filter g filter outs) nesting (omega (arith, l)) (BonesFit-filter f).2)
  many_positions (suc n) (Call hook args target outs ∷ bones) g nesting l f = ap (λ k. suc k) (many_positions n bones (after_hook d g hook outs) nesting (omega (arith, l)) (BonesFit-hook f).4)
  many_positions (suc n) (Either counts exports ∷ bones) g nesting l f =
      let b = BonesFit-either f in
      let short : length bones ≤ n = omega (arith, l) in
      let inner = branch_positions d n g counts bones (λ k lt. many_positions n (branch counts k bones) g b.inner (shorter-branch n k counts bones short) (b.branches k lt)) b.within counts 0 refl (omega arith) in
      let after = many_positions n (after_branches counts bones) (after_merge g exports (branch_sorts d n g counts bones)) b.outer (shorter-drop n (sum counts) bones short) b.later in
      omega (arith, length-append (flat_map (λ k. positions_of d n g (branch counts k bones)) (branch_places 0 counts)) (positions_of d n (after_merge g exports (branch_sorts d n g counts bones)) (after_branches counts bones)), inner, after, length-drop (sum counts) bones, b.within)

-- Lines.

module _ (d : Def) (nodes : List TermNode) (names : ℕ) (keys : List KeyLines) (key : KeyLines) (own : SortId) (point hooks vars : ℕ)
    (own_is : IsSortOfPoint d nodes point own)
    (calls : (id : HookId) (p : ℕ) (h : Hook) → slice_get d.hooks id.0 ≡ Some h → IsSortOfPoint d nodes p h.sort → IsCalled keys id p h.inputs h.outputs)
    (few : (id : HookId) (h : Hook) → slice_get d.hooks id.0 ≡ Some h → length h.inputs ≤ 8) where
  abbrev pub LinesOk : List Line → Type 0
  LinesOk = AllByRecursion (LineFits names keys key)

  abbrev pub Fits : Sorts → PlaceEnv → Type 0
  Fits = EnvFits d nodes names key.positions

  -- the lines of bones fit, and what stands after them; the last position is there
  pub record Fine (n first from : ℕ) (g h : Sorts) (env : PlaceEnv) (bones : List Bone) : Type 0 where
    pub lines : LinesOk (lines_of point n first from env bones)
    pub last_there : last_position n first from bones < length key.positions
    pub ends_fit : Fits h (env_after n first env bones)

  -- the values of variables
  pub values_fit : (g : Sorts) (env : PlaceEnv) (vars : List Var) (sorts : List FlowSort) → Fits g env → length sorts ≤ 8 → HaveSorts g vars (map VarSort.Flow sorts) → ValuesFit names key.positions sorts (operands_at env vars)
  values_fit g env vars sorts h l e =
      let fit = operands_fit d nodes names key.positions g env h vars (map VarSort.Flow sorts) (flows_are_args sorts) e in
      record { few = omega (arith, l, counted d nodes names key.positions (map VarSort.Flow sorts) (operands_at env vars) fit, length-map sorts VarSort.Flow); fit = fit }

  filter_fits : (first : ℕ) (g : Sorts) (env : PlaceEnv) (filter : Filter) (args outs : List Var) → Fits g env → FilterPasses g filter args outs → slice_get key.positions first ≡ Some (filter_map flow_sort (results filter)) → FilterFits names key first filter (operands_at env args)
  filter_fits first g env filter args outs h p e = record { args_fit = operands_fit d nodes names key.positions g env h args (parameters filter) (parameters_are_args filter) p.args_fit; to_is = e }

  after_filter_fits : (first : ℕ) (g : Sorts) (env : PlaceEnv) (filter : Filter) (args outs : List Var) → Fits g env → FilterPasses g filter args outs → slice_get key.positions first ≡ Some (filter_map flow_sort (results filter)) → Fits (after_filter g filter outs) (gain env outs (places first outs))
  after_filter_fits first g env filter args outs h p e =
      subst (λ ss. Fits (define g outs (map Some ss)) (gain env outs (places first outs))) (sym (flows_back (results filter) (results_flow filter)))
      (gain_fits d nodes names key.positions g env first outs (filter_map flow_sort (results filter)) h e (p.outs_counted ∙ as_many (results filter) (results_flow filter)))

  outputs_are : (id : HookId) (h : Hook) → slice_get d.hooks id.0 ≡ Some h → outputs_of d id ≡ h.outputs
  outputs_are id h e = rw e refl

  after_hook_fits : (first : ℕ) (g : Sorts) (env : PlaceEnv) (id : HookId) (args : List Var) (target : Target) (outs : List Var) → Fits g env → HookPasses d own g id args target outs → slice_get key.positions first ≡ Some (outputs_of d id) → Fits (after_hook d g id outs) (gain env outs (places first outs))
  after_hook_fits first g env id args target outs h p e =
      subst (λ ss. Fits (define g outs ss) (gain env outs (places first outs))) (sym (map_flows (outputs_of d id)))
      (gain_fits d nodes names key.positions g env first outs (outputs_of d id) h e (p.outs_counted ∙ ap length (sym (outputs_are id p.hook p.declared))))

  call_fits : (first from : ℕ) (g : Sorts) (env : PlaceEnv) (id : HookId) (args : List Var) (target : Target) (outs : List Var) → from < length key.positions → Fits g env → HookPasses d own g id args target outs → slice_get key.positions first ≡ Some (outputs_of d id) →
      LinesOk (option_map_or (λ at. line_at from (Part.Call first id at (operands_at env args)) ∷ []) (target_at point env target) [])
  call_fits first from g env id args target outs there h p e =
      by (target_at point env target) (target_there d nodes names key.positions g env h own point own_is target p.hook.sort p.target_fits)
    where
      by : (o : Option ℕ) → Has (λ q. IsSortOfPoint d nodes q p.hook.sort) o → LinesOk (option_map_or (λ at. line_at from (Part.Call first id at (operands_at env args)) ∷ []) o [])
      by None k = absurd k
      by (Some q) k = (
        record {
          from_there = there;
          part_fits = record {
            inputs = p.hook.inputs;
            outputs = p.hook.outputs;
            called = calls id q p.hook p.declared k;
            args_fit = values_fit g env args p.hook.inputs h (few id p.hook p.declared) p.args_fit;
            to_is = e ∙ ap Some (outputs_are id p.hook p.declared);
          };
        },
        tt,
      )

  join_fits : (first : ℕ) (e : Sorts) (env : PlaceEnv) (exports : List Var) (exported : List VarSort) → Fits e env → length exports ≤ 8 → HaveSorts e exports exported → AllByRecursion IsFlowSort exported → slice_get key.positions first ≡ Some (filter_map flow_sort exported) → JoinFits names key first (operands_at env exports)
  join_fits first e env exports exported h l have flows at =
      let same = flows_back exported flows in
      let long : length exports ≡ length exported = sym (length-map exports (sort_of e)) ∙ ap length have ∙ length-map exported Some in
      record {
        sorts = filter_map flow_sort exported;
        to_is = at;
        vars_fit = values_fit e env exports (filter_map flow_sort exported) h (omega (arith, l, long, as_many exported flows)) (subst (HaveSorts e exports) same have);
      }

  -- the lines of a branch and of its end
  abbrev branch_lines_of : (n first from : ℕ) → PlaceEnv → List ℕ → List Var → List Bone → ℕ → List Line
  branch_lines_of n first from env counts exports bones k =
      lines_of point n (first_of_branch first counts k) from env (branch counts k bones)
      ++ line_at (last_position n (first_of_branch first counts k) from (branch counts k bones))
      (Part.Join first (operands_at (env_after n (first_of_branch first counts k) env (branch counts k bones)) exports)) ∷ []

  -- the lines of the branches fit, and what comes after their positions stands after them
  record BranchesFine (n first from : ℕ) (g : Sorts) (env : PlaceEnv) (counts : List ℕ) (exports : List Var) (bones : List Bone) (ks : List ℕ) (later : List (List FlowSort)) : Type 0 where
    lines : LinesOk (flat_map (branch_lines_of n first from env counts exports bones) ks)
    after : Stands key.positions (first + 1 + sum counts) later

  module _ (n first from : ℕ) (g : Sorts) (env : PlaceEnv) (counts : List ℕ) (exports : List Var) (bones : List Bone) (exported : List VarSort)
      (each : (k : ℕ) → k < length counts → (h : Sorts) → Sorted d own (first_of_branch first counts k) (branch counts k bones) g h → Stands key.positions (first_of_branch first counts k) (positions_of d n g (branch counts k bones)) →
      Fine n (first_of_branch first counts k) from g h env (branch counts k bones))
      (long : (k : ℕ) → k < length counts → length (positions_of d n g (branch counts k bones)) ≡ length (branch counts k bones))
      (join : (e : Sorts) (ends : PlaceEnv) → Fits e ends → HaveSorts e exports exported → JoinFits names key first (operands_at ends exports))
      (within : sum counts ≤ length bones) where
    branches_fine : (cs : List ℕ) (i : ℕ) (ends : List Sorts) (later : List (List FlowSort)) → drop i counts ≡ cs → i + length cs ≡ length counts → SortedBranches d own first counts bones (branch_places i cs) g ends →
        AllByRecursion (λ e. HaveSorts e exports exported) ends → Stands key.positions (first_of_branch first counts i) (flat_map (λ k. positions_of d n g (branch counts k bones)) (branch_places i cs) ++ later) →
        BranchesFine n first from g env counts exports bones (branch_places i cs) later
    branches_fine [] i ends later e m s a st =
        let all : sum (take i counts) ≡ sum counts = omega (arith, sum_by-take-drop (λ (n : ℕ). n) counts i, ap sum e) in
        record { lines = tt; after = subst (λ k. Stands key.positions k later) (ap (λ k. first + 1 + k) all) st }
    branches_fine (c ∷ cs) i ends later e m s a st =
        let b = Sorted-branch d own s in
        let agree : AllByRecursion (λ e. HaveSorts e exports exported) (b.end ∷ b.more) = subst (AllByRecursion (λ e. HaveSorts e exports exported)) b.ends a in
        let own_positions = positions_of d n g (branch counts i bones) in
        let others = flat_map (λ k. positions_of d n g (branch counts k bones)) (branch_places (i + 1) cs) in
        let st2 : Stands key.positions (first_of_branch first counts i) (own_positions ++ (others ++ later)) = subst (Stands key.positions (first_of_branch first counts i)) (append_assoc own_positions others later) st in
        let here = each i (omega (arith, m)) b.end b.sorted (stands_left key.positions (first_of_branch first counts i) own_positions (others ++ later) st2) in
        let size = size_there counts i c cs e in
        let next : suc i ≡ i + 1 = omega arith in
        let sizes : sum (take (i + 1) counts) ≡ sum (take i counts) + c = subst (λ k. sum (take k counts) ≡ sum (take i counts) + c) next size.1 in
        let st3 = stands_right key.positions (first_of_branch first counts i) (first_of_branch first counts (i + 1)) own_positions (others ++ later)
        (omega (arith, long i (omega (arith, m)), branch_long counts i c cs bones e within, sizes)) st2 in
        let rest = branches_fine cs (i + 1) b.more later (drop_next i counts cs c e) (omega (arith, m)) b.later agree.1 st3 in
        record {
          lines = each_append (LineFits names keys key) (branch_lines_of n first from env counts exports bones i) _
              (each_append (LineFits names keys key) (lines_of point n (first_of_branch first counts i) from env (branch counts i bones)) _ here.lines
              (record { from_there = here.last_there; part_fits = join b.end (env_after n (first_of_branch first counts i) env (branch counts i bones)) here.ends_fit agree.0 }, tt))
              rest.lines;
          after = rest.after;
        }

  -- the first end of the branches
  record FirstEnd (first : ℕ) (counts : List ℕ) (bones : List Bone) (g : Sorts) (ends : List Sorts) : Type 0 where
    end : Sorts
    more : List Sorts
    ends_are : ends ≡ end ∷ more
    sorted : Sorted d own (first_of_branch first counts 0) (branch counts 0 bones) g end

  first_end : (first : ℕ) (counts : List ℕ) (bones : List Bone) (g : Sorts) (ends : List Sorts) → 2 ≤ length counts → SortedBranches d own first counts bones (branch_places 0 counts) g ends → FirstEnd first counts bones g ends
  first_end first [] bones g ends two s = absurd (omega (arith, two))
  first_end first (c ∷ cs) bones g ends two s = let b = Sorted-branch d own s in record { end = b.end; more = b.more; ends_are = b.ends; sorted = b.sorted }

  -- the exported values at the first end
  module _ (n first : ℕ) (g : Sorts) (counts : List ℕ) (exports : List Var) (bones : List Bone) (ends : List Sorts) (one : FirstEnd first counts bones g ends) (merges : MergePasses g exports ends) where
    have_first : HaveSorts one.end exports merges.exported
    have_first = (subst (AllByRecursion (λ e. HaveSorts e exports merges.exported)) one.ends_are (recursion_from_All (λ e. HaveSorts e exports merges.exported) ends merges.ends_agree)).0

    exported_flow : AllByRecursion IsFlowSort merges.exported
    exported_flow = all_some one.end exports merges.exported have_first (exports_are_flows g one.end exports merges.exports_new (adds_flows d own one.sorted))

    at_ends : sorts_at_ends exports ends ≡ filter_map flow_sort merges.exported
    at_ends = ap (sorts_at_ends exports) one.ends_are ∙ exported_are one.end exports merges.exported have_first

    merged_is : after_merge g exports ends ≡ define g exports (map Some (map VarSort.Flow (filter_map flow_sort merges.exported)))
    merged_is = ap (after_merge g exports) one.ends_are ∙ ap (define g exports) have_first ∙ ap (λ ss. define g exports (map Some ss)) (flows_back merges.exported exported_flow)

    exports_many : length exports ≡ length (filter_map flow_sort merges.exported)
    exports_many = sym (length-map exports (sort_of one.end)) ∙ ap length have_first ∙ length-map merges.exported Some ∙ as_many merges.exported exported_flow

  -- the sorts after a list of bones, and at the ends of branches
  ends_of : (n first : ℕ) (g : Sorts) (counts : List ℕ) (bones : List Bone) → ((k : ℕ) (e : Sorts) → Sorted d own (first_of_branch first counts k) (branch counts k bones) g e → e ≡ sorts_after d n g (branch counts k bones)) →
      (ks : List ℕ) (ends : List Sorts) → SortedBranches d own first counts bones ks g ends → ends ≡ map (λ k. sorts_after d n g (branch counts k bones)) ks
  ends_of n first g counts bones each [] ends z = Sorted-none d own z
  ends_of n first g counts bones each (k ∷ ks) ends z =
      let b = Sorted-branch d own z in
      b.ends ∙ ap₂ (λ (e : Sorts). λ (es : List Sorts). e ∷ es) (each k b.end b.sorted) (ends_of n first g counts bones each ks b.more b.later)

  sorts_are : (n first : ℕ) (g h : Sorts) (bones : List Bone) → length bones ≤ n → Sorted d own first bones g h → h ≡ sorts_after d n g bones
  sorts_are n first g h [] l s = sym (Sorted-nothing d own s)
  sorts_are zero first g h (b ∷ bones) l s = absurd (omega (arith, l))
  sorts_are (suc n) first g h (Apply filter args outs ∷ rest) l s = sorts_are n (first + 1) (after_filter g filter outs) h rest (omega (arith, l)) (Sorted-filter d own s).1
  sorts_are (suc n) first g h (Call id args target outs ∷ rest) l s = sorts_are n (first + 1) (after_hook d g id outs) h rest (omega (arith, l)) (Sorted-hook d own s).1
  sorts_are (suc n) first g h (Either counts exports ∷ rest) l s =
      let p = Sorted-either d own s in
      let short : length rest ≤ n = omega (arith, l) in
      let later = sorts_are n (first + 1 + sum counts) (after_merge g exports p.ends) h (after_branches counts rest) (shorter-drop n (sum counts) rest short) p.later in
      let ends = ends_of n first g counts rest (λ k e z. sorts_are n (first_of_branch first counts k) g e (branch counts k rest) (shorter-branch n k counts rest short) z) (branch_places 0 counts) p.ends p.branches in
      later ∙ ap (λ es. sorts_after d n (after_merge g exports es) (after_branches counts rest)) ends

  ends_sorted : (n first : ℕ) (g : Sorts) (counts : List ℕ) (bones : List Bone) → length bones ≤ n → (ks : List ℕ) (ends : List Sorts) → SortedBranches d own first counts bones ks g ends → ends ≡ map (λ k. sorts_after d n g (branch counts k bones)) ks
  ends_sorted n first g counts bones l ks ends z = ends_of n first g counts bones (λ k e y. sorts_are n (first_of_branch first counts k) g e (branch counts k bones) (shorter-branch n k counts bones l) y) ks ends z

  pub fine : (n first from : ℕ) (g h : Sorts) (env : PlaceEnv) (bones : List Bone) (nesting : ℕ) → length bones ≤ n → BonesFit hooks vars nesting bones → AllByRecursion ListsAreShort bones → Sorted d own first bones g h → Fits g env →
      Stands key.positions first (positions_of d n g bones) → from < length key.positions → Fine n first from g h env bones
  fine n first from g h env [] nesting l f w s e st there = let same = Sorted-nothing d own s in record { lines = tt; last_there = there; ends_fit = subst (λ k. Fits k env) same e }
  fine zero first from g h env (b ∷ bones) nesting l f w s e st there = absurd (omega (arith, l))
  fine (suc n) first from g h env (Apply filter args outs ∷ rest) nesting l f w s e st there =
      let p = Sorted-filter d own s in
      let at = stands_first key.positions first (filter_map flow_sort (results filter)) (positions_of d n (after_filter g filter outs) rest) st in
      let env2 = gain env outs (places first outs) in
      let r = fine n (first + 1) first (after_filter g filter outs) h env2 rest nesting (omega (arith, l)) (BonesFit-filter f).2 w.1 p.1
      (after_filter_fits first g env filter args outs e p.0 at) (stands_next key.positions first (filter_map flow_sort (results filter)) (positions_of d n (after_filter g filter outs) rest) st)
      (slice_get_within key.positions first (filter_map flow_sort (results filter)) at) in
      let more : first + 1 ≡ first + 1 + 0 = omega arith in
      record {
        lines = (record { from_there = there; part_fits = filter_fits first g env filter args outs e p.0 at }, r.lines);
        last_there = subst (λ k. last_position n k first rest < length key.positions) more r.last_there;
        ends_fit = subst (λ k. Fits h (env_after n k env2 rest)) more r.ends_fit;
      }
  fine (suc n) first from g h env (Call id args target outs ∷ rest) nesting l f w s e st there =
      let p = Sorted-hook d own s in
      let at = stands_first key.positions first (outputs_of d id) (positions_of d n (after_hook d g id outs) rest) st in
      let env2 = gain env outs (places first outs) in
      let r = fine n (first + 1) first (after_hook d g id outs) h env2 rest nesting (omega (arith, l)) (BonesFit-hook f).4 w.1 p.1
      (after_hook_fits first g env id args target outs e p.0 at) (stands_next key.positions first (outputs_of d id) (positions_of d n (after_hook d g id outs) rest) st)
      (slice_get_within key.positions first (outputs_of d id) at) in
      let more : first + 1 ≡ first + 1 + 0 = omega arith in
      record {
        lines = each_append (LineFits names keys key) (option_map_or (λ at. line_at from (Part.Call first id at (operands_at env args)) ∷ []) (target_at point env target) []) _ (call_fits first from g env id args target outs there e p.0 at) r.lines;
        last_there = subst (λ k. last_position n k first rest < length key.positions) more r.last_there;
        ends_fit = subst (λ k. Fits h (env_after n k env2 rest)) more r.ends_fit;
      }
  fine (suc n) first from g h env (Either counts exports ∷ rest) nesting l f w s e st there =
      let p = Sorted-either d own s in
      let b = BonesFit-either f in
      let short : length rest ≤ n = omega (arith, l) in
      let one = first_end first counts rest g p.ends b.two p.branches in
      let ends : p.ends ≡ branch_sorts d n g counts rest = ends_sorted n first g counts rest short (branch_places 0 counts) p.ends p.branches in
      let inner = flat_map (λ k. positions_of d n g (branch counts k rest)) (branch_places 0 counts) in
      let later = positions_of d n (after_merge g exports (branch_sorts d n g counts rest)) (after_branches counts rest) in
      let at : slice_get key.positions first ≡ Some (filter_map flow_sort p.merges.exported) =
      stands_first key.positions first (sorts_at_ends exports (branch_sorts d n g counts rest)) (inner ++ later) st ∙ ap (λ es. Some (sorts_at_ends exports es)) (sym ends) ∙ ap Some (at_ends n first g counts exports rest p.ends one p.merges) in
      let start : first + 1 ≡ first_of_branch first counts 0 = omega arith in
      let st2 = subst (λ k. Stands key.positions k (inner ++ later)) start (stands_next key.positions first (sorts_at_ends exports (branch_sorts d n g counts rest)) (inner ++ later) st) in
      let flows = exported_flow n first g counts exports rest p.ends one p.merges in
      let br = branches_fine n first from g env counts exports rest p.merges.exported
      (λ k lt z sorted stands. fine n (first_of_branch first counts k) from g z env (branch counts k rest) b.inner (shorter-branch n k counts rest short) (b.branches k lt) (each_take ListsAreShort (slice_index counts k) (drop (sum (take k counts)) rest) (each_drop ListsAreShort (sum (take k counts)) rest w.1)) sorted e stands there)
      (λ k lt. many_positions d hooks vars n (branch counts k rest) g b.inner (shorter-branch n k counts rest short) (b.branches k lt))
      (λ z env3 fits have. join_fits first z env3 exports p.merges.exported fits w.0 have flows at)
      b.within counts 0 p.ends later refl (omega arith) p.branches (recursion_from_All (λ z. HaveSorts z exports p.merges.exported) p.ends p.merges.ends_agree) st2 in
      let env2 = gain env exports (places first exports) in
      let fits2 : Fits (after_merge g exports p.ends) env2 =
      subst (λ z. Fits z env2) (sym (merged_is n first g counts exports rest p.ends one p.merges))
      (gain_fits d nodes names key.positions g env first exports (filter_map flow_sort p.merges.exported) e at (exports_many n first g counts exports rest p.ends one p.merges)) in
      let r = fine n (first + 1 + sum counts) first (after_merge g exports p.ends) h env2 (after_branches counts rest) b.outer (shorter-drop n (sum counts) rest short) b.later (each_drop ListsAreShort (sum counts) rest w.1) p.later fits2
      (subst (λ es. Stands key.positions (first + 1 + sum counts) (positions_of d n (after_merge g exports es) (after_branches counts rest))) (sym ends) br.after)
      (slice_get_within key.positions first (filter_map flow_sort p.merges.exported) at) in
      record {
        lines = each_append (LineFits names keys key) (flat_map (branch_lines_of n first from env counts exports rest) (branch_places 0 counts)) _ br.lines r.lines;
        last_there = r.last_there;
        ends_fit = r.ends_fit;
      }
