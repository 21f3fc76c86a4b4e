-- The outcomes of a key's walk lie below the positions of an assignment that satisfies the lines of the key.
use Rattle.std.proofs.Common.{◌≡◌, ℕ, zero, suc, ◌+◌, ◌≤◌, ◌<◌, true, List, [], ◌∷◌, ◌++◌, length, map, take, sum, flat_map, Option, Some, None, Ok, refl, sym, ◌∙◌, subst, arith, append_assoc}
use Rattle.std.specs.Prelude.{slice_index}
use Rattle.std.specs.List.{AllByRecursion, list_all}
use Rattle.std.specs.Option.{option_map_or}
use Rattle.std.proofs.lemmas.Bool.{and_parts}
use Rattle.std.proofs.lemmas.List.Sums.{sum_by-cons}
use Rattle.sk_def.specs.declared.ids.HookId.{HookId}
use Rattle.sk_def.specs.declared.ids.SortId.{SortId}
use Rattle.sk_def.specs.declared.ids.Var.{Var}
use Rattle.sk_def.specs.declared.filter.Filter.{Filter}
use Rattle.sk_def.specs.declared.bone.Target.{Target}
use Rattle.sk_def.specs.declared.bone.Bone.{Bone}
use Rattle.sk_def.specs.declared.def.Def.{Def}
use Rattle.sk_def.specs.Layout.{BonesFit, branch, branch_places, first_of_branch, after_branches}
use Rattle.sk_def.specs.Signatures.{results}
use Rattle.sk_def.specs.Sorts.{Sorts, outputs_of}
use Rattle.sk_def.proofs.Layouts.{branch_at, branch-take}
use Rattle.sk_walk.specs.Walks.{Walks, WalksBranches, no_bone, filter_goes, hook_goes, merge_goes, no_branch, branch_goes}
use Rattle.sk_walk.specs.Sorted.{sort_checks}
use Rattle.sk_sort.proofs.Walked.{shorter-drop, shorter-branch}
use Rattle.sk_deriv.specs.Env.{args_at, values_at, target_at, gain}
use Rattle.sk_lattice.specs.Domain.{Domain}
use Rattle.sk_lattice.specs.Laws.{TupleLaws}
use Rattle.sk_absfilter.specs.Abstract.{Outcome}
use Rattle.sk_absfilter.specs.Laws.{outcome_leq, FiltersAreMonotone}
use Rattle.sk_table.specs.declared.triple.Cover.{Cover}
use Rattle.sk_abswalk.specs.Walk.{AbsEnv, Flows, argument_in, Ends, uncovered, ill, with, Answers, call_at, ask, filtered, join_exports}
use Rattle.sk_constr.specs.declared.line.Part.{Part}
use Rattle.sk_constr.specs.declared.line.Line.{Line}
use Rattle.sk_constr.specs.Operands.{PlaceEnv, places, operands_at}
use Rattle.sk_constr.specs.Lines.{env_after, last_position, line_at, lines_of}
use Rattle.sk_solve.specs.declared.assignment.Solved.{Solved}
use Rattle.sk_solve.specs.Solves.{value_at, outputs_at, line_holds}
use Rattle.sk_agree.proofs.Relations.{list_all_parts, IfThere}
use Rattle.sk_agree.proofs.Below as below
use Rattle.sk_agree.proofs.Below.{Holds, filter_low, call_low, exported, joins_below, lower_gains, outputs_long, bones_low}
use Rattle.sk_agree.proofs.Spots.{end_of, branch_long, gains, at_filter, at_call, branch_end, at_merge, spots, spots_long}
use Rattle.sk_agree.proofs.BonesSolved.{places_below, filter_rest, hook_rest, merge_fits_parts}

-- what a walk ends with, where it got to an end
ends_there : {D X : Type 0} (R : X → Type 0) (ends : Ends D X) → Holds (IfThere R) ends → IfThere R (end_of ends)
ends_there R (uncovered c) h = tt
ends_there R ill h = tt
ends_there R (with o) h = h

-- what holds at the places of branches
all_places : (Q : ℕ → Type 0) (i : ℕ) (counts : List ℕ) → AllByRecursion Q (branch_places i counts) → (j : ℕ) → j < length counts → Q (i + j)
all_places Q i [] h j lt = absurd (omega (arith, lt))
all_places Q i (c ∷ counts) h zero lt = let here : i ≡ i + 0 = omega arith in subst Q here h.0
all_places Q i (c ∷ counts) h (suc j) lt = let next : i + 1 + j ≡ i + suc j = omega arith in subst Q next (all_places Q (i + 1) counts h.1 j (omega (arith, lt)))

module _ {D : Type 0} (d : Domain D) (P : List (Outcome D)) where
  -- outcomes that lie below the positions from this one on
  abbrev pub AtMost : ℕ → List (Outcome D) → Type 0
  AtMost n [] = Unit {0}
  AtMost n (x ∷ xs) = (outcome_leq d x (value_at P n) ≡ true) × AtMost (n + 1) xs

  most_append : (n : ℕ) (xs ys : List (Outcome D)) → AtMost n xs → AtMost (n + length xs) ys → AtMost n (xs ++ ys)
  most_append n [] ys h k = let same : n + 0 ≡ n = omega arith in subst (λ m. AtMost m ys) same k
  most_append n (x ∷ xs) ys h k = let same : n + suc (length xs) ≡ n + 1 + length xs = omega arith in (h.0, most_append (n + 1) xs ys h.1 (subst (λ m. AtMost m ys) same k))

  gather : (f : ℕ → List (Outcome D)) (rest : List (Outcome D)) (i : ℕ) (counts : List ℕ) (start : ℕ) → ((j : ℕ) → j < length counts → length (f (i + j)) ≡ slice_index counts j) → ((j : ℕ) → j < length counts → AtMost (start + sum (take j counts)) (f (i + j))) →
      AtMost (start + sum counts) rest → AtMost start (flat_map f (branch_places i counts) ++ rest)
  gather f rest i [] start long h k = let same : start + 0 ≡ start = omega arith in subst (λ m. AtMost m rest) same k
  gather f rest i (c ∷ cs) start long h k =
      let here : i + 0 ≡ i = omega arith in
      let zero_sum : start + 0 ≡ start = omega arith in
      let first : length (f i) ≡ c = subst (λ m. length (f m) ≡ c) here (long 0 (omega arith)) in
      let at : AtMost start (f i) = subst (λ m. AtMost m (f i)) zero_sum (subst (λ m. AtMost (start + 0) (f m)) here (h 0 (omega arith))) in
      let total : start + sum (c ∷ cs) ≡ start + c + sum cs = omega (arith, sum_by-cons (λ (n : ℕ). n) c cs) in
      let later = gather f rest (i + 1) cs (start + c)
      (λ j lt. let next : i + suc j ≡ i + 1 + j = omega arith in subst (λ m. length (f m) ≡ slice_index cs j) next (long (suc j) (omega (arith, lt))))
      (λ j lt. let next : i + suc j ≡ i + 1 + j = omega arith in
      let sums : start + sum (c ∷ take j cs) ≡ start + c + sum (take j cs) = omega (arith, sum_by-cons (λ (n : ℕ). n) c (take j cs)) in
      subst (λ m. AtMost m (f (i + 1 + j))) sums (subst (λ m. AtMost (start + sum (c ∷ take j cs)) (f m)) next (h (suc j) (omega (arith, lt)))))
      (subst (λ m. AtMost m rest) total k) in
      subst (AtMost start) (sym (append_assoc (f i) (flat_map f (branch_places (i + 1) cs)) rest))
      (most_append start (f i) (flat_map f (branch_places (i + 1) cs) ++ rest) at (subst (λ n. AtMost (start + n) (flat_map f (branch_places (i + 1) cs) ++ rest)) (sym first) later))

module _ (D : Type 0) (d : Domain D) (tuples : TupleLaws d) (filters : FiltersAreMonotone d) (def : Def) (names : ℕ) (a : List (Solved D)) (sv : Solved D)
    (outs_long : (id : HookId) (point : ℕ) (outs : Flows D) → outputs_at a id point ≡ Some outs → length outs ≡ length (outputs_of def id))
    (answers : Answers D) (answers_low : (c : Cover D) (o : Outcome D) → answers c ≡ Some o → outcome_leq d o (outputs_at a c.hook c.point) ≡ true) where
  abbrev P : List (Outcome D)
  P = sv.positions

  abbrev Lower : AbsEnv D → PlaceEnv → Type 0
  Lower = below.Lower D d tuples filters def names a sv outs_long answers answers_low

  abbrev Filled : ℕ → Type 0
  Filled = below.Filled D d tuples filters def names a sv outs_long answers answers_low

  abbrev IsBelow : ℕ → ℕ → Flows D → Type 0
  IsBelow = below.IsBelow D d tuples filters def names a sv outs_long answers answers_low

  abbrev Exported : ℕ → List Var → AbsEnv D → Type 0
  Exported = below.Exported D d tuples filters def names a sv outs_long answers answers_low

  leq_of : (n count : ℕ) (o : Outcome D) → IfThere (IsBelow n count) o → outcome_leq d o (value_at P n) ≡ true
  leq_of n count None h = refl
  leq_of n count (Some flows) h = subst (λ o. outcome_leq d (Some flows) o ≡ true) (sym h.is) h.leq

  -- an environment that lies below the places, from a position that has something
  abbrev pub Lives : PlaceEnv → ℕ → AbsEnv D → Type 0
  Lives other from env = Lower env other × Filled from

  lives_gains : (o : Option (AbsEnv D)) (other : PlaceEnv) (from n : ℕ) (vars : List Var) (r : Outcome D) → IfThere (Lives other from) o → IfThere (IsBelow n (length vars)) r → IfThere (Lives (gain other vars (places n vars)) n) (gains o vars r)
  lives_gains None other from n vars r h k = tt
  lives_gains (Some env) other from n vars None h k = tt
  lives_gains (Some env) other from n vars (Some flows) h k =
      (lower_gains D d tuples filters def names a sv outs_long answers answers_low env other n vars flows h.0 k, (k.highs, k.is))

  module _ (own : SortId) (point : ℕ) where
    abbrev Spots : ℕ → List Bone → Option (AbsEnv D) → List (Outcome D)
    Spots = spots D d answers names point

    abbrev branch_lines : (bound bone from : ℕ) → PlaceEnv → List ℕ → List Var → List Bone → ℕ → List Line
    branch_lines = below.branch_lines D d tuples filters def names a sv outs_long answers answers_low own point

    abbrev Hold : List Line → Type 0
    Hold lines = list_all (line_holds d names a sv) lines ≡ true

    filter_spot : (filter : Filter) (n from : ℕ) (args outs : List Var) (o : Option (AbsEnv D)) (other : PlaceEnv) → length (results filter) ≡ length outs → IfThere (Lives other from) o → line_holds d names a sv (line_at from (Part.Filter n filter (operands_at other args))) ≡ true →
        IfThere (IsBelow n (length outs)) (at_filter D d answers names point filter args o)
    filter_spot filter n from args outs None other long h line = tt
    filter_spot filter n from args outs (Some env) other long h line =
        subst (λ m. IfThere (IsBelow n m) (at_filter D d answers names point filter args (Some env))) long
        (ends_there (IsBelow n (length (results filter))) (filtered d filter names (args_at argument_in env args)) (filter_low D d tuples filters def names a sv outs_long answers answers_low filter n from args env other h.0 h.1 line).ends)

    call_spot : (id : HookId) (target : Target) (n from : ℕ) (args outs : List Var) (o : Option (AbsEnv D)) (other : PlaceEnv) → length (outputs_of def id) ≡ length outs → IfThere (Lives other from) o →
        Hold (option_map_or (λ at. line_at from (Part.Call n id at (operands_at other args)) ∷ []) (target_at point other target) []) → IfThere (IsBelow n (length outs)) (at_call D d answers names point id target args o)
    call_spot id target n from args outs None other long h line = tt
    call_spot id target n from args outs (Some env) other long h line =
        subst (λ m. IfThere (IsBelow n m) (at_call D d answers names point id target args (Some env))) long
        (ends_there (IsBelow n (length (outputs_of def id))) (ask answers (call_at id (target_at point env target) (values_at env args))).ends (call_low D d tuples filters def names a sv outs_long answers answers_low id target point n from args env other h.0 h.1 line).ends)

    -- the exported values at the ends of branches
    branch_ends : (bound : ℕ) {bone : ℕ} {counts ks : List ℕ} {bones : List Bone} {u t : Unit {0}} {g : Sorts} {ends : List Sorts} (exports : List Var) (env : AbsEnv D) (other : PlaceEnv) (from : ℕ) → length bones ≤ bound → Lives other from env →
        Hold (flat_map (branch_lines bound bone from other counts exports bones) ks) → WalksBranches (sort_checks def own) bone counts bones ks g u t (Ok ends) → AllByRecursion (IfThere (Exported bone exports)) (map (branch_end D d answers names point bound counts bones env) ks)
    branch_ends bound exports env other from short h lines no_branch = tt
    branch_ends bound exports env other from short h lines (branch_goes {bone} {k = c} {counts} {places = ks} {bones} f inside rest) =
        let all = list_all_parts (line_holds d names a sv) (branch_lines bound bone from other counts exports bones c) (flat_map (branch_lines bound bone from other counts exports bones) ks) lines in
        let first = first_of_branch bone counts c in
        let here = branch counts c bones in
        let last = last_position bound first from here in
        let final = env_after bound first other here in
        let parts = list_all_parts (line_holds d names a sv) (lines_of point bound first from other here) (line_at last (Part.Join bone (operands_at final exports)) ∷ []) all.0 in
        let line = (and_parts (line_holds d names a sv (line_at last (Part.Join bone (operands_at final exports)))) true parts.1).0 in
        let walk = bones_low D d tuples filters def names a sv outs_long answers answers_low own point bound env other from (shorter-branch bound c counts bones short) h.0 h.1 parts.0 inside in
        (one bone last exports final (branch_end D d answers names point bound counts bones env c) line (ends_there (λ e. Lower e final × Filled last) _ walk.ends), branch_ends bound exports env other from short h all.1 rest)
      where
        one : (bone last : ℕ) (exports : List Var) (final : PlaceEnv) (e : Option (AbsEnv D)) → line_holds d names a sv (line_at last (Part.Join bone (operands_at final exports))) ≡ true → IfThere (λ e. Lower e final × Filled last) e → IfThere (Exported bone exports) e
        one bone last exports final None line h = tt
        one bone last exports final (Some env) line h = exported D d tuples filters def names a sv outs_long answers answers_low bone last exports env final h.0 h.1 line

    merge_spot : (bound : ℕ) {bone : ℕ} {counts : List ℕ} {bones : List Bone} {u t : Unit {0}} {g : Sorts} {ends : List Sorts} (exports : List Var) (o : Option (AbsEnv D)) (other : PlaceEnv) (from : ℕ) → length bones ≤ bound → IfThere (Lives other from) o →
        Hold (flat_map (branch_lines bound bone from other counts exports bones) (branch_places 0 counts)) → WalksBranches (sort_checks def own) bone counts bones (branch_places 0 counts) g u t (Ok ends) →
        IfThere (IsBelow bone (length exports)) (at_merge D d answers names point bound counts exports bones o)
    merge_spot bound exports None other from short h lines inside = tt
    merge_spot bound {bone} {counts} {bones} exports (Some env) other from short h lines inside =
        let worlds = map (branch_end D d answers names point bound counts bones env) (branch_places 0 counts) in
        ends_there (IsBelow bone (length exports)) (join_exports d exports None worlds)
        (joins_below D d tuples filters def names a sv outs_long answers answers_low bone exports None worlds tt (branch_ends bound exports env other from short h lines inside))

    mutual
      pub spots_low : (bound : ℕ) {hooks vars nesting first : ℕ} {bones : List Bone} {u t : Unit {0}} {g h : Sorts} (o : Option (AbsEnv D)) (other : PlaceEnv) (from : ℕ) → length bones ≤ bound → BonesFit hooks vars nesting bones → IfThere (Lives other from) o →
          Hold (lines_of point bound first from other bones) → Walks (sort_checks def own) first bones u g t (Ok h) → AtMost d P first (Spots bound bones o)
      spots_low bound o other from short fit alive lines no_bone = tt
      spots_low zero o other from short fit alive lines (filter_goes p rest) = absurd (omega arith)
      spots_low zero o other from short fit alive lines (hook_goes p rest) = absurd (omega arith)
      spots_low zero o other from short fit alive lines (merge_goes i p rest) = absurd (omega arith)
      spots_low (suc bound) o other from short fit alive lines (filter_goes {first} {filter} {args} {outs} {rest = bones} p rest) =
          let here = and_parts (line_holds d names a sv (line_at from (Part.Filter first filter (operands_at other args)))) _ lines in
          let r = at_filter D d answers names point filter args o in
          let spot = filter_spot filter first from args outs o other (sym p.0.outs_counted) alive here.0 in
          (leq_of first (length outs) r spot, spots_low bound (gains o outs r) (gain other outs (places first outs)) first (omega arith) (filter_rest fit) (lives_gains o other from first outs r alive spot) here.1 rest)
      spots_low (suc bound) o other from short fit alive lines (hook_goes {first} {hook = id} {args} {target} {outs} {rest = bones} p rest) =
          let next = gain other outs (places first outs) in
          let call = option_map_or (λ at. line_at from (Part.Call first id at (operands_at other args)) ∷ []) (target_at point other target) [] in
          let here = list_all_parts (line_holds d names a sv) call (lines_of point bound (first + 1) first next bones) lines in
          let r = at_call D d answers names point id target args o in
          let counted : length (outputs_of def id) ≡ length outs = outputs_long D d tuples filters def names a sv outs_long answers answers_low id p.0.hook p.0.declared ∙ sym p.0.outs_counted in
          let spot = call_spot id target first from args outs o other counted alive here.0 in
          (leq_of first (length outs) r spot, spots_low bound (gains o outs r) next first (omega arith) (hook_rest fit) (lives_gains o other from first outs r alive spot) here.1 rest)
      spots_low (suc bound) {hooks} {vars} o other from short fit alive lines (merge_goes {first} {counts} {exports} {rest = bones} inside p rest) =
          let next = gain other exports (places first exports) in
          let parts = merge_fits_parts fit in
          let ks = branch_places 0 counts in
          let rest_bones = after_branches counts bones in
          let here = list_all_parts (line_holds d names a sv) (flat_map (branch_lines bound first from other counts exports bones) ks) (lines_of point bound (first + 1 + sum counts) first next rest_bones) lines in
          let r = at_merge D d answers names point bound counts exports bones o in
          let spot = merge_spot bound exports o other from (omega arith) alive here.0 inside in
          let fits : (k : ℕ) → k < length counts → BonesFit hooks vars parts.inner (branch counts k bones) = λ k lt. subst (BonesFit hooks vars parts.inner) (branch-take counts k bones lt) (branch_at counts (take (sum counts) bones) k lt parts.inside) in
          let each = branches_low bound hooks vars parts.inner exports o other from (omega arith) fits (places_below 0 (length counts) counts (omega arith)) alive here.0 inside in
          let later = spots_low bound (gains o exports r) next first (shorter-drop bound (sum counts) bones (omega arith)) parts.later (lives_gains o other from first exports r alive spot) here.1 rest in (
            leq_of first (length exports) r spot,
            gather d P (λ k. Spots bound (branch counts k bones) o) (Spots bound rest_bones (gains o exports r)) 0 counts (first + 1)
                (λ j lt. let same : j ≡ 0 + j = omega arith in subst (λ k. length (Spots bound (branch counts k bones) o) ≡ slice_index counts j) same (spots_long D d answers names point bound o (shorter-branch bound j counts bones (omega arith)) (fits j lt) ∙ branch_long counts j bones lt parts.within))
                (λ j lt. let same : 0 + j ≡ j = omega arith in subst (λ k. AtMost d P (first + 1 + sum (take k counts)) (Spots bound (branch counts (0 + j) bones) o)) same (all_places (λ k. AtMost d P (first_of_branch first counts k) (Spots bound (branch counts k bones) o)) 0 counts each j lt)) later,
          )

      branches_low : (bound hooks vars nesting : ℕ) {bone : ℕ} {counts ks : List ℕ} {bones : List Bone} {u t : Unit {0}} {g : Sorts} {ends : List Sorts} (exports : List Var) (o : Option (AbsEnv D)) (other : PlaceEnv) (from : ℕ) → length bones ≤ bound →
          ((k : ℕ) → k < length counts → BonesFit hooks vars nesting (branch counts k bones)) → AllByRecursion (λ k. k < length counts) ks → IfThere (Lives other from) o → Hold (flat_map (branch_lines bound bone from other counts exports bones) ks) →
          WalksBranches (sort_checks def own) bone counts bones ks g u t (Ok ends) → AllByRecursion (λ k. AtMost d P (first_of_branch bone counts k) (Spots bound (branch counts k bones) o)) ks
      branches_low bound hooks vars nesting exports o other from short fits within alive lines no_branch = tt
      branches_low bound hooks vars nesting exports o other from short fits within alive lines (branch_goes {bone} {k = c} {counts} {places = ks} {bones} f inside rest) =
          let all = list_all_parts (line_holds d names a sv) (branch_lines bound bone from other counts exports bones c) (flat_map (branch_lines bound bone from other counts exports bones) ks) lines in
          let first = first_of_branch bone counts c in
          let here = branch counts c bones in
          let parts = list_all_parts (line_holds d names a sv) (lines_of point bound first from other here) (line_at (last_position bound first from here) (Part.Join bone (operands_at (env_after bound first other here) exports)) ∷ []) all.0 in
          (spots_low bound o other from (shorter-branch bound c counts bones short) (fits c within.0) alive parts.0 inside, branches_low bound hooks vars nesting exports o other from short fits within.1 alive all.1 rest)
