-- A walk of bones by the sort checks answers what the parts of these bones say.
use Rattle.std.proofs.Common.{◌≡◌, ℕ, zero, suc, ◌+◌, ◌≤◌, List, [], ◌∷◌, ◌++◌, map, length, take, drop, sum, Option, Some, None, Result, Ok, Err, refl, sym, ap, subst, ◌∙◌, arith}
use Rattle.std.specs.Option.{option_or, option_map}
use Rattle.std.specs.List.{flat_map}
use Rattle.std.proofs.lemmas.List.{map-append, length-take, length-drop}
use Rattle.std.specs.Prelude.{slice_index}
use Rattle.sk_def.specs.declared.def.Def.{Def}
use Rattle.sk_def.specs.declared.ids.SortId.{SortId}
use Rattle.sk_def.specs.declared.bone.Bone.{Bone}
use Rattle.sk_def.specs.declared.bone.Bone.TheVariants.{Apply, Call, Either}
use Rattle.sk_def.specs.declared.ids.Var.{Var}
use Rattle.sk_def.specs.Layout.{branch, branch_places, first_of_branch, after_branches}
use Rattle.sk_def.specs.Sorts.{Sorts, after_filter, after_hook, after_merge}
use Rattle.sk_walk.specs.Walks.{Walks, WalksBranches, no_bone, filter_goes, filter_stops, hook_goes, hook_stops, branches_stop, merge_goes, merge_stops, no_branch, fork_stops, branch_stops, later_stops, branch_goes}
use Rattle.sk_sort.specs.declared.error.SortError.{SortError}
use Rattle.sk_sort.specs.declared.interp.SortStop.{SortStop}
use Rattle.sk_sort.specs.declared.interp.SortStop.TheVariants.{Bad, NoMemory}
use Rattle.sk_sort.specs.declared.interp.SortInterp.{SortInterp}
use Rattle.sk_sort.specs.Checks.{Check, first_error, filter_checks, merge_checks}
use Rattle.sk_sort.specs.Interp.{sort_meaning, answers_bone, call_checks}
use Rattle.sk_sort.specs.DefinedBefore.{sorts_after, Placed, placed}
use Rattle.sk_sort.specs.Parts.{Part, PartFault, fault_at, first_failing, bone_part, AnswersParts}

-- The first fault of parts one after another.

option_or-assoc : {A : Type 0} (a b c : Option A) → option_or (option_or a b) c ≡ option_or a (option_or b c)
option_or-assoc None b c = refl
option_or-assoc (Some x) b c = refl

pub first_failing_append : (ps qs : List Part) → first_failing (ps ++ qs) ≡ option_or (first_failing ps) (first_failing qs)
first_failing_append [] qs = refl
first_failing_append (p ∷ ps) qs =
    ap (λ (o : Option PartFault). option_or (option_map (fault_at p.number) (first_error p.checks)) o) (first_failing_append ps qs)
    ∙ sym (option_or-assoc (option_map (fault_at p.number) (first_error p.checks)) (first_failing ps) (first_failing qs))

-- One bone, and what comes after it.

pub bone_stops : {A : Type 0} (bone : ℕ) (checks : List Check) (g : Sorts) (later : Option PartFault) (after : A) (stop : SortStop) →
    answers_bone bone checks g (Err stop) →
    AnswersParts (option_or (option_map (fault_at bone) (first_error checks)) later) after (Err stop)
bone_stops bone checks g later after (Bad why at) p = rw (p.0, p.1) refl
bone_stops bone checks g later after NoMemory p = tt

none_is_some : {e : SortError} → ◌≡◌ {A = Option SortError} None (Some e) → ⊥
none_is_some k = cc

pub bone_goes : {A : Type 0} (bone : ℕ) (checks : List Check) (later : Option PartFault) (after : A) (answer : Result A SortStop) →
    first_error checks ≡ None → AnswersParts later after answer →
    AnswersParts (option_or (option_map (fault_at bone) (first_error checks)) later) after answer
bone_goes bone checks later after answer e p = rw e p

-- the parts before pass
pub parts_go : {A : Type 0} (before later : Option PartFault) (after : A) (answer : Result A SortStop) →
    before ≡ None → AnswersParts later after answer → AnswersParts (option_or before later) after answer
parts_go before later after answer e p = rw e p

-- they don't
pub parts_stop : {A B : Type 0} (before later : Option PartFault) (a : A) (b : B) (stop : SortStop) →
    AnswersParts before a (Err stop) → AnswersParts (option_or before later) b (Err stop)
parts_stop before later a b (Bad why at) p = rw p refl
parts_stop before later a b NoMemory p = tt

-- the first fault of placed bones
abbrev pub fault_of : Def → SortId → List Placed → Option PartFault
fault_of d own ps = first_failing (map (bone_part d own) ps)

pub fault_append : (d : Def) (own : SortId) (ps qs : List Placed) → fault_of d own (ps ++ qs) ≡ option_or (fault_of d own ps) (fault_of d own qs)
fault_append d own ps qs = ap first_failing (map-append (bone_part d own) ps qs) ∙ first_failing_append (map (bone_part d own) ps) (map (bone_part d own) qs)

pub shorter-drop : (n k : ℕ) (bones : List Bone) → length bones ≤ n → length (drop k bones) ≤ n
shorter-drop n k bones h = omega (arith, h, length-drop k bones)

pub shorter-branch : (n k : ℕ) (counts : List ℕ) (bones : List Bone) → length bones ≤ n → length (branch counts k bones) ≤ n
shorter-branch n k counts bones h =
    let later = drop (sum (take k counts)) bones in
    omega (arith, h, length-take (slice_index counts k) later, length-drop (sum (take k counts)) bones)

-- the bones of the branches at these places, and what is defined at their ends
abbrev pub inside : Def → ℕ → ℕ → Sorts → List ℕ → List Bone → List ℕ → List Placed
inside d n bone g counts bones places = flat_map (λ k. placed d n (first_of_branch bone counts k) g (branch counts k bones)) places

abbrev pub ends_of : Def → ℕ → Sorts → List ℕ → List Bone → List ℕ → List Sorts
ends_of d n g counts bones places = map (λ k. sorts_after d n g (branch counts k bones)) places

joined : {A : Type 0} (d : Def) (own : SortId) (ps qs : List Placed) (after : A) (answer : Result A SortStop) →
    AnswersParts (option_or (fault_of d own ps) (fault_of d own qs)) after answer → AnswersParts (fault_of d own (ps ++ qs)) after answer
joined d own ps qs after answer p =
    let P : Option PartFault → Type 0 = λ o. AnswersParts o after answer in
    subst P (sym (fault_append d own ps qs)) p

-- after a stop it is of no account what would be defined
stops_any : {A B : Type 0} (fault : Option PartFault) (a : A) (b : B) (stop : SortStop) → AnswersParts fault a (Err stop) → AnswersParts fault b (Err stop)
stops_any fault a b (Bad why at) p = p
stops_any fault a b NoMemory p = tt

fork_stop : {A : Type 0} (bone : ℕ) (g : Sorts) (fault : Option PartFault) (after : A) (stop : SortStop) →
    answers_bone bone [] g (Err stop) → AnswersParts fault after (Err stop)
fork_stop bone g fault after (Bad why at) p = absurd (none_is_some p.0)
fork_stop bone g fault after NoMemory p = tt

-- a walk of bones from this state and these sorts answers what their parts say
abbrev Answered : SortInterp → Sorts → ℕ → ℕ → List Bone → SortInterp → Result Sorts SortStop → Type 0
Answered s g n first bones t answer =
    (t ≡ s) × AnswersParts (fault_of s.def.now s.own (placed s.def.now n first g bones)) (sorts_after s.def.now n g bones) answer

moved : (s t : SortInterp) (g v : Sorts) (n first : ℕ) (bones : List Bone) (u : SortInterp) (answer : Result Sorts SortStop) →
    t ≡ s → v ≡ g → Answered t v n first bones u answer → Answered s g n first bones u answer
moved s t g v n first bones u answer e k p =
    let P : SortInterp → Type 0 = λ x. Answered x v n first bones u answer in
    let Q : Sorts → Type 0 = λ h. Answered s h n first bones u answer in
    subst Q k (subst P e p)

abbrev AnsweredBranches : SortInterp → Sorts → ℕ → ℕ → List ℕ → List Bone → List ℕ → SortInterp → Result (List Sorts) SortStop → Type 0
AnsweredBranches s g n bone counts bones places t answer =
    (t ≡ s) × AnswersParts (fault_of s.def.now s.own (inside s.def.now n bone g counts bones places)) (ends_of s.def.now n g counts bones places) answer

moved_branches : (s t : SortInterp) (g : Sorts) (n bone : ℕ) (counts : List ℕ) (bones : List Bone) (places : List ℕ) (u : SortInterp) (answer : Result (List Sorts) SortStop) →
    t ≡ s → AnsweredBranches t g n bone counts bones places u answer → AnsweredBranches s g n bone counts bones places u answer
moved_branches s t g n bone counts bones places u answer e p =
    let P : SortInterp → Type 0 = λ x. AnsweredBranches x g n bone counts bones places u answer in
    subst P e p

-- what follows the branches of a branch bone: the bone itself, and the rest of its list
abbrev pub after_inside : Def → ℕ → ℕ → Sorts → List ℕ → List Var → List Bone → List Placed
after_inside d n first g counts exports rest =
    let ends = ends_of d n g counts rest (branch_places 0 counts) in
    record { number = first; before = g; bone = Either counts exports; ends = ends }
    ∷ placed d n (first + 1 + sum counts) (after_merge g exports ends) (after_branches counts rest)

mutual
  pub walked : {first : ℕ} {bones : List Bone} {s t : SortInterp} {g : Sorts} {answer : Result Sorts SortStop} (n : ℕ) → length bones ≤ n →
      Walks sort_meaning first bones s g t answer →
      (t ≡ s) × AnswersParts (fault_of s.def.now s.own (placed s.def.now n first g bones)) (sorts_after s.def.now n g bones) answer
  walked n within no_bone = (refl, (refl, refl))
  walked zero within (filter_stops p) = absurd (omega (arith, within))
  walked zero within (filter_goes p q) = absurd (omega (arith, within))
  walked zero within (hook_stops p) = absurd (omega (arith, within))
  walked zero within (hook_goes p q) = absurd (omega (arith, within))
  walked zero within (branches_stop b) = absurd (omega (arith, within))
  walked zero within (merge_stops b p) = absurd (omega (arith, within))
  walked zero within (merge_goes b p q) = absurd (omega (arith, within))
  walked (suc n) within (filter_stops {first} {filter} {args} {outs} {rest} {s} {w = g} {stop} p) =
      (p.0, bone_stops first (filter_checks g filter args outs) (after_filter g filter outs) _ (sorts_after s.def.now (suc n) g (Apply filter args outs ∷ rest)) stop p.1)
  walked (suc n) within (filter_goes {first} {filter} {args} {outs} {w = g} {answer} p q) =
      let r = rw (p.0, p.1.1) at (walked n (omega (arith, within)) q) in
      (r.0, bone_goes first (filter_checks g filter args outs) _ _ answer p.1.0 r.1)
  walked (suc n) within (hook_stops {first} {hook} {args} {target} {outs} {rest} {s} {w = g} {stop} p) =
      (p.0, bone_stops first (call_checks s.def.now s.own g hook target args outs) (after_hook s.def.now g hook outs) _ (sorts_after s.def.now (suc n) g (Call hook args target outs ∷ rest)) stop p.1)
  walked (suc n) within (hook_goes {first} {hook} {args} {target} {outs} {s} {w = g} {answer} p q) =
      let r = rw (p.0, p.1.1) at (walked n (omega (arith, within)) q) in
      (r.0, bone_goes first (call_checks s.def.now s.own g hook target args outs) _ _ answer p.1.0 r.1)
  walked (suc n) within (branches_stop {first} {counts} {exports} {rest} {s} {w = g} {stop} b) =
      let d = s.def.now in
      let verdict = walked_branches n (omega (arith, within)) b in
      let after = sorts_after d (suc n) g (Either counts exports ∷ rest) in (
        verdict.0,
        joined d s.own (inside d n first g counts rest (branch_places 0 counts)) (after_inside d n first g counts exports rest) after (Err stop)
            (parts_stop _ _ (ends_of d n g counts rest (branch_places 0 counts)) after stop verdict.1),
      )
  walked (suc n) within (merge_stops {first} {counts} {exports} {rest} {s} {w = g} {ends = es} {stop} b p) =
      let d = s.def.now in
      let verdict = walked_branches n (omega (arith, within)) b in
      let ends = ends_of d n g counts rest (branch_places 0 counts) in
      let after = sorts_after d (suc n) g (Either counts exports ∷ rest) in
      let here = rw verdict.0 at p in
      let P : List Sorts → Type 0 = λ gs. answers_bone first (merge_checks g exports gs) (after_merge g exports gs) (Err stop) in
      let checked = subst P verdict.1.1 here.1 in (
        here.0,
        joined d s.own (inside d n first g counts rest (branch_places 0 counts)) (after_inside d n first g counts exports rest) after (Err stop)
            (parts_go _ _ after (Err stop) verdict.1.0 (bone_stops first (merge_checks g exports ends) (after_merge g exports ends) _ after stop checked)),
      )
  walked (suc n) within (merge_goes {first} {counts} {exports} {rest} {s} {w = g} {v} {ends = es} {answer} b p q) =
      let d = s.def.now in
      let verdict = walked_branches n (omega (arith, within)) b in
      let ends = ends_of d n g counts rest (branch_places 0 counts) in
      let here = rw verdict.0 at p in
      let P : List Sorts → Type 0 = λ gs. answers_bone first (merge_checks g exports gs) (after_merge g exports gs) (Ok v) in
      let checked = subst P verdict.1.1 here.1 in
      let later = rw (here.0, checked.1) at (walked n (shorter-drop n (sum counts) rest (omega (arith, within))) q) in (
        later.0,
        joined d s.own (inside d n first g counts rest (branch_places 0 counts)) (after_inside d n first g counts exports rest)
            (sorts_after d (suc n) g (Either counts exports ∷ rest)) answer
            (parts_go _ _ _ answer verdict.1.0 (bone_goes first (merge_checks g exports ends) _ _ answer checked.0 later.1)),
      )

  pub walked_branches : {bone : ℕ} {counts places : List ℕ} {bones : List Bone} {s t : SortInterp} {g : Sorts} {answer : Result (List Sorts) SortStop} (n : ℕ) → length bones ≤ n →
      WalksBranches sort_meaning bone counts bones places g s t answer →
      (t ≡ s) × AnswersParts (fault_of s.def.now s.own (inside s.def.now n bone g counts bones places)) (ends_of s.def.now n g counts bones places) answer
  walked_branches n within no_branch = (refl, (refl, refl))
  walked_branches n within (fork_stops {bone} {k} {counts} {places} {bones} {w = g} {s} {stop} p) =
      (p.0, fork_stop bone g _ (ends_of s.def.now n g counts bones (k ∷ places)) stop p.1)
  walked_branches n within (branch_stops {bone} {k} {counts} {places} {bones} {w = g} {v} {s} {t} {u} {stop} f p) =
      let d = s.def.now in
      let here = branch counts k bones in
      let first = first_of_branch bone counts k in
      let ends = ends_of d n g counts bones (k ∷ places) in
      let r = moved s t g v n first here u (Err stop) f.0 f.1.1 (walked n (shorter-branch n k counts bones within) p) in (
        r.0,
        joined d s.own (placed d n first g here) (inside d n bone g counts bones places) ends (Err stop)
            (parts_stop _ _ (sorts_after d n g here) ends stop r.1),
      )
  walked_branches n within (later_stops {bone} {k} {counts} {places} {bones} {w = g} {v} {z} {s} {t} {u} {a} {stop} f p q) =
      let d = s.def.now in
      let here = branch counts k bones in
      let first = first_of_branch bone counts k in
      let ends = ends_of d n g counts bones (k ∷ places) in
      let r = moved s t g v n first here u (Ok z) f.0 f.1.1 (walked n (shorter-branch n k counts bones within) p) in
      let later = moved_branches s u g n bone counts bones places a (Err stop) r.0 (walked_branches n within q) in (
        later.0,
        joined d s.own (placed d n first g here) (inside d n bone g counts bones places) ends (Err stop)
            (parts_go _ _ ends (Err stop) r.1.0 (stops_any _ (ends_of d n g counts bones places) ends stop later.1)),
      )
  walked_branches n within (branch_goes {bone} {k} {counts} {places} {bones} {w = g} {v} {z} {s} {t} {u} {a} {ends} f p q) =
      let d = s.def.now in
      let here = branch counts k bones in
      let first = first_of_branch bone counts k in
      let r = moved s t g v n first here u (Ok z) f.0 f.1.1 (walked n (shorter-branch n k counts bones within) p) in
      let later = moved_branches s u g n bone counts bones places a (Ok ends) r.0 (walked_branches n within q) in (
        later.0,
        (
          fault_append d s.own (placed d n first g here) (inside d n bone g counts bones places) ∙ rw r.1.0 later.1.0,
          rw (r.1.1, later.1.1) refl,
        ),
      )
