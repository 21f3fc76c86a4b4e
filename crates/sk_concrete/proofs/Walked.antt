-- The walk of bones by the concrete reading.
use Rattle.std.proofs.Common.{◌≡◌, ℕ, zero, suc, ◌+◌, ◌≤◌, List, [], ◌∷◌, ◌++◌, map, length, sum, Result, Ok, Err, refl, ap, ap₂, sym, subst, ◌∙◌, arith, append_assoc, length-append}
use Rattle.std.specs.List.{flat_map}
use Rattle.sk_def.specs.declared.ids.HookId.{HookId}
use Rattle.sk_def.specs.declared.ids.Var.{Var}
use Rattle.sk_def.specs.declared.bone.Target.{Target}
use Rattle.sk_def.specs.declared.bone.Bone.{Bone}
use Rattle.sk_def.specs.declared.filter.Filter.{Filter}
use Rattle.sk_def.specs.Layout.{branch, branch_places, after_branches}
use Rattle.sk_walk.specs.Walks.{Walks, WalksBranches, no_bone, filter_stops, filter_goes, hook_stops, hook_goes, branches_stop, merge_stops, merge_goes, no_branch, fork_stops, branch_stops, later_stops, branch_goes}
use Rattle.sk_deriv.specs.declared.call.Call.{Call}
use Rattle.sk_deriv.specs.declared.forest.Node.{Node}
use Rattle.sk_deriv.specs.Tree.{Derivation, Steps}
use Rattle.sk_deriv.proofs.TrailLemmas.{followed_by_done}
use Rattle.sk_sort.proofs.Walked.{shorter-drop, shorter-branch}
use Rattle.sk_concrete.specs.declared.world.World.{World}
use Rattle.sk_concrete.specs.declared.worlds.Worlds.{Worlds}
use Rattle.sk_concrete.specs.declared.world.Answer.{Answer}
use Rattle.sk_concrete.specs.declared.concrete.Concrete.{Concrete}
use Rattle.sk_concrete.specs.declared.concrete.ConcreteStop.{ConcreteStop}
use Rattle.sk_concrete.specs.declared.concrete.ConcreteStop.TheVariants.{Unanswered, NoMemory}
use Rattle.sk_concrete.specs.Worlds.{filtered, answers_in_order, forked, merged}
use Rattle.sk_concrete.specs.Stops.{StopsAt, Makes}
use Rattle.sk_concrete.specs.Meaning.{concrete_meaning}
use Rattle.sk_concrete.specs.Trees.{AreThere}
use Rattle.sk_concrete.specs.Calls.{Path, paths, begun, spread_all, branched, calls, Agrees, IsNext}
use Rattle.sk_concrete.proofs.Paths.{paths_after_filter, paths_forked}
use Rattle.sk_concrete.proofs.There.{AllThere, there_filtered, there_forked, there_merged}
use Rattle.sk_concrete.proofs.Spread.{after_filter, after_call, after_branches_all}
use Rattle.sk_concrete.proofs.CallsAnswered.{Took, Takes, path_calls, taken_in_order}
use Rattle.sk_concrete.proofs.Ends.{ends_of, path_merged, paths_merged, merged_all}

-- the next call among further ones
next_in_front : (cs more : List Call) (handed : List Answer) (c : Call) → IsNext cs handed c → IsNext (cs ++ more) handed c
next_in_front cs more handed c n = record {
  before = n.before;
  after = n.after ++ more;
  whole = ap (λ (ds : List Call). ds ++ more) n.whole ∙ append_assoc n.before (c ∷ n.after) more;
  counted = n.counted;
}

next_behind : (front cs : List Call) (handed left : List Answer) (c : Call) → length handed ≡ length front + length left → IsNext cs left c → IsNext (front ++ cs) handed c
next_behind front cs handed left c l n = record {
  before = front ++ n.before;
  after = n.after;
  whole = ap (λ (ds : List Call). front ++ ds) n.whole ∙ sym (append_assoc front n.before (c ∷ n.after));
  counted = length-append front n.before ∙ omega (arith, l, n.counted);
}

module _ (nodes : List Node) (names point : ℕ) (known : Call → List Derivation) where
  abbrev At : Concrete → Type 0
  At s = (s.names ≡ names) × (s.point ≡ point)

  -- the worlds after bones have these paths, and the answers to these calls were taken
  pub record Went (s t : Concrete) (w v : Worlds) (expected : List Path) (cs more : List Call) : Type 0 where
    pub at : At t
    pub took : Took nodes known s.handed.now t.handed.now w.list v.list expected cs more

  abbrev pub Goes : Concrete → Concrete → Worlds → List Path → List Call → List Call → Result Worlds ConcreteStop → Type 0
  Goes s t w expected cs more (Ok v) = Went s t w v expected cs more
  Goes s t w expected cs more (Err (Unanswered c)) = IsNext cs s.handed.now c
  Goes s t w expected cs more (Err NoMemory) = Unit {0}

  -- after some bones, further ones
  compose : (s m t : Concrete) (w v : Worlds) (answer : Result Worlds ConcreteStop) (front cs more : List Call) (expected : List Path) →
      length s.handed.now ≡ length front + length m.handed.now → (AreThere (length nodes) w.list → AreThere (length nodes) v.list) →
      Goes m t v expected cs more answer → Goes s t w expected (front ++ cs) more answer
  compose s m t w v (Ok z) front cs more expected l there g = record {
    at = g.at;
    took = record {
      paths_are = g.took.paths_are;
      agrees = g.took.agrees;
      counted = omega (arith, l, g.took.counted, length-append front cs);
      there = λ h. g.took.there (there h);
    };
  }
  compose s m t w v (Err (Unanswered c)) front cs more expected l there g = next_behind front cs s.handed.now m.handed.now c l g
  compose s m t w v (Err NoMemory) front cs more expected l there g = tt

  no_answer_missing : (s t : Concrete) (w : Worlds) (expected : List Path) (cs more : List Call) (ws : List World) (stop : ConcreteStop) → Makes ws (Err stop) → Goes s t w expected cs more (Err stop)
  no_answer_missing s t w expected cs more ws (Unanswered c) h = absurd h
  no_answer_missing s t w expected cs more ws NoMemory h = tt

  front_agrees : (handed : List Answer) (a b more : List Call) → Agrees nodes known handed ((a ++ b) ++ more) → Agrees nodes known handed (a ++ (b ++ more))
  front_agrees handed a b more h = subst (Agrees nodes known handed) (append_assoc a b more) h

  spread_none : (fuel : ℕ) (vs : List Path) → vs ≡ spread_all names point known fuel [] vs
  spread_none fuel [] = refl
  spread_none fuel (v ∷ vs) =
      ap₂ (λ (u : Path). λ (us : List Path). u ∷ us) (ap (λ (steps : Steps). let r : Path = (v.0, (steps, v.1.1)) in r) (sym (followed_by_done v.1.0))) (spread_none fuel vs)

  module _ (fuel : ℕ) (rest : List Bone) (s m t : Concrete) (w v : Worlds) (answer : Result Worlds ConcreteStop) (more : List Call) where
    abbrev Further : Type 0
    Further = At m → Agrees nodes known m.handed.now (calls names point known fuel rest (paths nodes v.list) ++ more) →
        Goes m t v (spread_all names point known fuel rest (paths nodes v.list)) (calls names point known fuel rest (paths nodes v.list)) more answer

    -- the rest of the bones, from worlds with these paths
    go_on : (front : List Call) (now : List Path) → paths nodes v.list ≡ now → At m → Agrees nodes known m.handed.now (calls names point known fuel rest now ++ more) →
        length s.handed.now ≡ length front + length m.handed.now → (AreThere (length nodes) w.list → AreThere (length nodes) v.list) → Further →
        Goes s t w (spread_all names point known fuel rest now) (front ++ calls names point known fuel rest now) more answer
    go_on front now are at agrees l there further =
        let g = further at (subst (λ vs. Agrees nodes known m.handed.now (calls names point known fuel rest vs ++ more)) (sym are) agrees) in
        let h : Goes m t v (spread_all names point known fuel rest now) (calls names point known fuel rest now) more answer =
        subst (λ vs. Goes m t v (spread_all names point known fuel rest vs) (calls names point known fuel rest vs) more answer) are g in
        compose s m t w v answer front (calls names point known fuel rest now) more (spread_all names point known fuel rest now) l there h

    filter_on : (filter : Filter) (args outs : List Var) → At s → m ≡ s → v.list ≡ flat_map (filtered s.names filter args outs) w.list → Further →
        Agrees nodes known s.handed.now (calls names point known (suc fuel) (Bone.Apply filter args outs ∷ rest) (paths nodes w.list) ++ more) →
        Goes s t w (spread_all names point known (suc fuel) (Bone.Apply filter args outs ∷ rest) (paths nodes w.list)) (calls names point known (suc fuel) (Bone.Apply filter args outs ∷ rest) (paths nodes w.list)) more answer
    filter_on filter args outs at same made further agrees =
        let now = spread_all names point known 1 (Bone.Apply filter args outs ∷ []) (paths nodes w.list) in
        let made' : v.list ≡ flat_map (filtered names filter args outs) w.list = made ∙ ap (λ n. flat_map (filtered n filter args outs) w.list) at.0 in
        let are : paths nodes v.list ≡ now = ap (paths nodes) made' ∙ paths_after_filter nodes names point known filter args outs w.list in
        let l : length s.handed.now ≡ 0 + length m.handed.now = omega (arith, ap (λ (x : Concrete). length x.handed.now) same) in
        let g = go_on [] now are (subst At (sym same) at) (subst (λ (x : Concrete). Agrees nodes known x.handed.now (calls names point known fuel rest now ++ more)) (sym same) agrees) l
        (λ h. subst (AreThere (length nodes)) (sym made') (there_filtered (length nodes) names filter args outs w.list h)) further in
        subst (λ e. Goes s t w e (calls names point known fuel rest now) more answer) (sym (after_filter names point known fuel rest filter args outs (paths nodes w.list))) g

    hook_on : (hook : HookId) (args : List Var) (target : Target) (outs : List Var) → At s → (m.names ≡ s.names) × (m.point ≡ s.point) →
        answers_in_order s.point hook target args outs s.handed.now w.list ≡ Ok (v.list, m.handed.now) → Further →
        Agrees nodes known s.handed.now (calls names point known (suc fuel) (Bone.Call hook args target outs ∷ rest) (paths nodes w.list) ++ more) →
        Goes s t w (spread_all names point known (suc fuel) (Bone.Call hook args target outs ∷ rest) (paths nodes w.list)) (calls names point known (suc fuel) (Bone.Call hook args target outs ∷ rest) (paths nodes w.list)) more answer
    hook_on hook args target outs at same made further agrees =
        let now = spread_all names point known 1 (Bone.Call hook args target outs ∷ []) (paths nodes w.list) in
        let front = flat_map (path_calls nodes known point hook target args outs) (paths nodes w.list) in
        let later = calls names point known fuel rest now in
        let made' : answers_in_order point hook target args outs s.handed.now w.list ≡ Ok (v.list, m.handed.now) = ap (λ p. answers_in_order p hook target args outs s.handed.now w.list) (sym at.1) ∙ made in
        let took : Took nodes known s.handed.now m.handed.now w.list v.list now front (later ++ more) =
        subst (Takes nodes known s.handed.now w.list now front (later ++ more)) made'
        (taken_in_order nodes known point hook target args outs names w.list s.handed.now (later ++ more) (front_agrees s.handed.now front later more agrees)) in
        let g = go_on front now took.paths_are (same.0 ∙ at.0, same.1 ∙ at.1) took.agrees took.counted took.there further in
        subst (λ e. Goes s t w e (front ++ later) more answer) (sym (after_call names point known fuel rest hook args target outs (paths nodes w.list))) g

  hook_stop : (fuel : ℕ) (rest : List Bone) (s t : Concrete) (w : Worlds) (more : List Call) (hook : HookId) (args : List Var) (target : Target) (outs : List Var) (expected : List Path) → At s →
      (stop : ConcreteStop) → StopsAt (answers_in_order s.point hook target args outs s.handed.now w.list) stop →
      Agrees nodes known s.handed.now (calls names point known (suc fuel) (Bone.Call hook args target outs ∷ rest) (paths nodes w.list) ++ more) →
      Goes s t w expected (calls names point known (suc fuel) (Bone.Call hook args target outs ∷ rest) (paths nodes w.list)) more (Err stop)
  hook_stop fuel rest s t w more hook args target outs expected at (Unanswered c) made agrees =
      let now = spread_all names point known 1 (Bone.Call hook args target outs ∷ []) (paths nodes w.list) in
      let front = flat_map (path_calls nodes known point hook target args outs) (paths nodes w.list) in
      let later = calls names point known fuel rest now in
      let made' : answers_in_order point hook target args outs s.handed.now w.list ≡ Err c = ap (λ p. answers_in_order p hook target args outs s.handed.now w.list) (sym at.1) ∙ made in
      next_in_front front later s.handed.now c (subst (Takes nodes known s.handed.now w.list now front (later ++ more)) made'
      (taken_in_order nodes known point hook target args outs names w.list s.handed.now (later ++ more) (front_agrees s.handed.now front later more agrees)))
  hook_stop fuel rest s t w more hook args target outs expected at NoMemory made agrees = tt

  -- the calls of the branches at these places
  abbrev pub inner_calls : ℕ → List ℕ → List Bone → List Path → List ℕ → List Call
  inner_calls fuel counts bones vs places = flat_map (λ k. calls names point known fuel (branch counts k bones) (begun k 0 vs)) places

  -- the branches at these places end in worlds with these paths
  pub record BranchesWent (s t : Concrete) (fuel : ℕ) (counts : List ℕ) (bones : List Bone) (places : List ℕ) (w : Worlds) (ends : List Worlds) (more : List Call) : Type 0 where
    pub at : At t
    pub agrees : Agrees nodes known t.handed.now more
    pub counted : length s.handed.now ≡ length (inner_calls fuel counts bones (paths nodes w.list) places) + length t.handed.now
    pub ends_are : map (paths nodes) (map (λ (end : Worlds). end.list) ends) ≡ map (ends_of names point known fuel counts bones 0 (paths nodes w.list)) places
    pub there : AllThere (length nodes) (map (λ (end : Worlds). end.list) ends)

  abbrev pub BranchesGo : Concrete → Concrete → ℕ → List ℕ → List Bone → List ℕ → Worlds → List Call → Result (List Worlds) ConcreteStop → Type 0
  BranchesGo s t fuel counts bones places w more (Ok ends) = BranchesWent s t fuel counts bones places w ends more
  BranchesGo s t fuel counts bones places w more (Err (Unanswered c)) = IsNext (inner_calls fuel counts bones (paths nodes w.list) places) s.handed.now c
  BranchesGo s t fuel counts bones places w more (Err NoMemory) = Unit {0}

  branches_stopped : (fuel : ℕ) (counts : List ℕ) (exports : List Var) (rest : List Bone) (s t : Concrete) (w : Worlds) (inner more : List Call) (expected : List Path) (stop : ConcreteStop) →
      BranchesGo s t fuel counts rest (branch_places 0 counts) w inner (Err stop) →
      Goes s t w expected (calls names point known (suc fuel) (Bone.Either counts exports ∷ rest) (paths nodes w.list)) more (Err stop)
  branches_stopped fuel counts exports rest s t w inner more expected (Unanswered c) h =
      next_in_front (inner_calls fuel counts rest (paths nodes w.list) (branch_places 0 counts))
      (calls names point known fuel (after_branches counts rest) (flat_map (branched names point known fuel counts exports rest) (paths nodes w.list))) s.handed.now c h
  branches_stopped fuel counts exports rest s t w inner more expected NoMemory h = tt

  merge_on : (fuel : ℕ) (counts : List ℕ) (exports : List Var) (rest : List Bone) (s u m t : Concrete) (w v : Worlds) (ends : List Worlds) (answer : Result Worlds ConcreteStop) (more : List Call) →
      m ≡ u → v.list ≡ merged exports (map (λ (end : Worlds). end.list) ends) 0 w.list →
      BranchesWent s u fuel counts rest (branch_places 0 counts) w ends (calls names point known fuel (after_branches counts rest) (flat_map (branched names point known fuel counts exports rest) (paths nodes w.list)) ++ more) →
      Further fuel (after_branches counts rest) s m t w v answer more →
      Goes s t w (spread_all names point known (suc fuel) (Bone.Either counts exports ∷ rest) (paths nodes w.list)) (calls names point known (suc fuel) (Bone.Either counts exports ∷ rest) (paths nodes w.list)) more answer
  merge_on fuel counts exports rest s u m t w v ends answer more same made went further =
      let places = branch_places 0 counts in
      let now = flat_map (branched names point known fuel counts exports rest) (paths nodes w.list) in
      let front = inner_calls fuel counts rest (paths nodes w.list) places in
      let later = calls names point known fuel (after_branches counts rest) now in
      let are : paths nodes v.list ≡ now =
      ap (paths nodes) made ∙ paths_merged nodes exports (map (λ (end : Worlds). end.list) ends) 0 w.list
      ∙ ap (λ (es : List (List Path)). path_merged exports es 0 (paths nodes w.list)) went.ends_are
      ∙ merged_all names point known fuel counts exports rest (paths nodes w.list) in
      let l : length s.handed.now ≡ length front + length m.handed.now = omega (arith, went.counted, ap (λ (x : Concrete). length x.handed.now) same) in
      let g = go_on fuel (after_branches counts rest) s m t w v answer more front now are (subst At (sym same) went.at)
      (subst (λ (x : Concrete). Agrees nodes known x.handed.now (later ++ more)) (sym same) went.agrees) l
      (λ h. subst (AreThere (length nodes)) (sym made) (there_merged (length nodes) exports (map (λ (end : Worlds). end.list) ends) 0 w.list h went.there)) further in
      subst (λ e. Goes s t w e (front ++ later) more answer) (sym (after_branches_all names point known fuel counts exports rest (paths nodes w.list))) g

  module _ (fuel : ℕ) (counts : List ℕ) (bones : List Bone) (k : ℕ) (places : List ℕ) (s m : Concrete) (w v : Worlds) (more : List Call) (at : At s) (same : m ≡ s) (made : v.list ≡ forked k 0 w.list)
      (agrees : Agrees nodes known s.handed.now (inner_calls fuel counts bones (paths nodes w.list) (k ∷ places) ++ more)) where
    abbrev this : List Bone
    this = branch counts k bones

    abbrev begins : List Path
    begins = begun k 0 (paths nodes w.list)

    abbrev others : List Call
    others = inner_calls fuel counts bones (paths nodes w.list) places

    begins_are : paths nodes v.list ≡ begins
    begins_are = ap (paths nodes) made ∙ paths_forked nodes k 0 w.list

    forked_at : At m
    forked_at = subst At (sym same) at

    forked_agrees : Agrees nodes known m.handed.now (calls names point known fuel this (paths nodes v.list) ++ (others ++ more))
    forked_agrees =
        subst (λ (x : Concrete). Agrees nodes known x.handed.now (calls names point known fuel this (paths nodes v.list) ++ (others ++ more))) (sym same)
        (subst (λ vs. Agrees nodes known s.handed.now (calls names point known fuel this vs ++ (others ++ more))) (sym begins_are)
        (front_agrees s.handed.now (calls names point known fuel this begins) others more agrees))

    forked_counted : length s.handed.now ≡ length m.handed.now
    forked_counted = ap (λ (x : Concrete). length x.handed.now) (sym same)

    branch_stopped : (t : Concrete) (stop : ConcreteStop) → Goes m t v (spread_all names point known fuel this (paths nodes v.list)) (calls names point known fuel this (paths nodes v.list)) (others ++ more) (Err stop) →
        BranchesGo s t fuel counts bones (k ∷ places) w more (Err stop)
    branch_stopped t (Unanswered c) h =
        next_in_front (calls names point known fuel this begins) others s.handed.now c
        (subst (λ vs. IsNext (calls names point known fuel this vs) s.handed.now c) begins_are
        (next_behind [] (calls names point known fuel this (paths nodes v.list)) s.handed.now m.handed.now c (omega (arith, forked_counted)) h))
    branch_stopped t NoMemory h = tt

    module _ (u : Concrete) (z : Worlds) (went : Went m u v z (spread_all names point known fuel this (paths nodes v.list)) (calls names point known fuel this (paths nodes v.list)) (others ++ more)) where
      branch_counted : length s.handed.now ≡ length (calls names point known fuel this begins) + length u.handed.now
      branch_counted = subst (λ vs. length s.handed.now ≡ length (calls names point known fuel this vs) + length u.handed.now) begins_are (forked_counted ∙ went.took.counted)

      later_stopped : (t : Concrete) (stop : ConcreteStop) → BranchesGo u t fuel counts bones places w more (Err stop) → BranchesGo s t fuel counts bones (k ∷ places) w more (Err stop)
      later_stopped t (Unanswered c) h = next_behind (calls names point known fuel this begins) others s.handed.now u.handed.now c branch_counted h
      later_stopped t NoMemory h = tt

      branch_went : (t : Concrete) (ends : List Worlds) → BranchesWent u t fuel counts bones places w ends more → BranchesWent s t fuel counts bones (k ∷ places) w (z ∷ ends) more
      branch_went t ends h = record {
        at = h.at;
        agrees = h.agrees;
        counted = omega (arith, branch_counted, h.counted, length-append (calls names point known fuel this begins) others);
        ends_are = ap₂ (λ (a : List Path). λ (b : List (List Path)). a ∷ b) (went.took.paths_are ∙ ap (spread_all names point known fuel this) begins_are) h.ends_are;
        there = (went.took.there (subst (AreThere (length nodes)) (sym made) (there_forked (length nodes) k 0 w.list)), h.there);
      }

  mutual
    -- the walk of bones has the paths through them, and takes the answers to their calls in order
    pub walked : (fuel : ℕ) {first : ℕ} {bones : List Bone} {s t : Concrete} {w : Worlds} {answer : Result Worlds ConcreteStop} → length bones ≤ fuel → At s → (more : List Call) →
        Agrees nodes known s.handed.now (calls names point known fuel bones (paths nodes w.list) ++ more) → Walks concrete_meaning first bones s w t answer →
        Goes s t w (spread_all names point known fuel bones (paths nodes w.list)) (calls names point known fuel bones (paths nodes w.list)) more answer
    walked fuel {s = s} {w = w} l at more a no_bone = record {
      at = at;
      took = record { paths_are = spread_none fuel (paths nodes w.list); agrees = a; counted = omega arith; there = λ h. h };
    }
    walked zero l at more a (filter_stops p) = absurd (omega (arith, l))
    walked (suc fuel) {bones = bones} l at more a (filter_stops {filter = filter} {args = args} {outs = outs} {s = s} {t = t} {w = w} {stop = stop} p) =
        no_answer_missing s t w (spread_all names point known (suc fuel) bones (paths nodes w.list)) (calls names point known (suc fuel) bones (paths nodes w.list)) more
        (flat_map (filtered s.names filter args outs) w.list) stop p.1
    walked zero l at more a (filter_goes p q) = absurd (omega (arith, l))
    walked (suc fuel) {answer = answer} l at more a (filter_goes {filter = filter} {args = args} {outs = outs} {rest = rest} {s = s} {t = m} {u = t} {w = w} {v = v} p q) =
        filter_on fuel rest s m t w v answer more filter args outs at p.0 p.1 (λ b c. walked fuel (omega (arith, l)) b more c q) a
    walked zero l at more a (hook_stops p) = absurd (omega (arith, l))
    walked (suc fuel) {bones = bones} l at more a (hook_stops {hook = hook} {args = args} {target = target} {outs = outs} {rest = rest} {s = s} {t = t} {w = w} {stop = stop} p) =
        hook_stop fuel rest s t w more hook args target outs (spread_all names point known (suc fuel) bones (paths nodes w.list)) at stop p.1 a
    walked zero l at more a (hook_goes p q) = absurd (omega (arith, l))
    walked (suc fuel) {answer = answer} l at more a (hook_goes {hook = hook} {args = args} {target = target} {outs = outs} {rest = rest} {s = s} {t = m} {u = t} {w = w} {v = v} p q) =
        hook_on fuel rest s m t w v answer more hook args target outs at p.0 p.1 (λ b c. walked fuel (omega (arith, l)) b more c q) a
    walked zero l at more a (branches_stop b) = absurd (omega (arith, l))
    walked (suc fuel) {bones = bones} l at more a (branches_stop {counts = counts} {exports = exports} {rest = rest} {s = s} {t = t} {w = w} {stop = stop} b) =
        let now = flat_map (branched names point known fuel counts exports rest) (paths nodes w.list) in
        let inner = calls names point known fuel (after_branches counts rest) now ++ more in
        branches_stopped fuel counts exports rest s t w inner more (spread_all names point known (suc fuel) bones (paths nodes w.list)) stop
        (branches_walked fuel (λ k. shorter-branch fuel k counts rest (omega (arith, l))) at inner
        (front_agrees s.handed.now (inner_calls fuel counts rest (paths nodes w.list) (branch_places 0 counts)) (calls names point known fuel (after_branches counts rest) now) more a) b)
    walked zero l at more a (merge_stops b p) = absurd (omega (arith, l))
    walked (suc fuel) {bones = bones} l at more a (merge_stops {exports = exports} {s = s} {u = t} {w = w} {ends = ends} {stop = stop} b p) =
        no_answer_missing s t w (spread_all names point known (suc fuel) bones (paths nodes w.list)) (calls names point known (suc fuel) bones (paths nodes w.list)) more
        (merged exports (map (λ (end : Worlds). end.list) ends) 0 w.list) stop p.1
    walked zero l at more a (merge_goes b p q) = absurd (omega (arith, l))
    walked (suc fuel) {answer = answer} l at more a (merge_goes {counts = counts} {exports = exports} {rest = rest} {s = s} {t = u} {u = m} {z = t} {w = w} {v = v} {ends = ends} b p q) =
        let now = flat_map (branched names point known fuel counts exports rest) (paths nodes w.list) in
        let inner = calls names point known fuel (after_branches counts rest) now ++ more in
        let went = branches_walked fuel (λ k. shorter-branch fuel k counts rest (omega (arith, l))) at inner
        (front_agrees s.handed.now (inner_calls fuel counts rest (paths nodes w.list) (branch_places 0 counts)) (calls names point known fuel (after_branches counts rest) now) more a) b in
        merge_on fuel counts exports rest s u m t w v ends answer more p.0 p.1 went (λ d c. walked fuel (shorter-drop fuel (sum counts) rest (omega (arith, l))) d more c q)

    pub branches_walked : (fuel : ℕ) {bone : ℕ} {counts places : List ℕ} {bones : List Bone} {w : Worlds} {s t : Concrete} {answer : Result (List Worlds) ConcreteStop} →
        ((k : ℕ) → length (branch counts k bones) ≤ fuel) → At s → (more : List Call) → Agrees nodes known s.handed.now (inner_calls fuel counts bones (paths nodes w.list) places ++ more) →
        WalksBranches concrete_meaning bone counts bones places w s t answer → BranchesGo s t fuel counts bones places w more answer
    branches_walked fuel l at more a no_branch = record { at = at; agrees = a; counted = omega arith; ends_are = refl; there = tt }
    branches_walked fuel l at more a (fork_stops {stop = Unanswered c} p) = absurd p.1
    branches_walked fuel l at more a (fork_stops {stop = NoMemory} p) = tt
    branches_walked fuel l at more a (branch_stops {k = k} {counts = counts} {places = places} {bones = bones} {w = w} {v = v} {s = s} {t = m} {u = t} {stop = stop} p q) =
        branch_stopped fuel counts bones k places s m w v more at p.0 p.1 a t stop
        (walked fuel (l k) (forked_at fuel counts bones k places s m w v more at p.0 p.1 a) (others fuel counts bones k places s m w v more at p.0 p.1 a ++ more)
        (forked_agrees fuel counts bones k places s m w v more at p.0 p.1 a) q)
    branches_walked fuel l at more a (later_stops {k = k} {counts = counts} {places = places} {bones = bones} {w = w} {v = v} {z = z} {s = s} {t = m} {u = u} {a = t} {stop = stop} p q r) =
        let went = walked fuel (l k) (forked_at fuel counts bones k places s m w v more at p.0 p.1 a) (others fuel counts bones k places s m w v more at p.0 p.1 a ++ more)
        (forked_agrees fuel counts bones k places s m w v more at p.0 p.1 a) q in
        later_stopped fuel counts bones k places s m w v more at p.0 p.1 a u z went t stop (branches_walked fuel l went.at more went.took.agrees r)
    branches_walked fuel l at more a (branch_goes {k = k} {counts = counts} {places = places} {bones = bones} {w = w} {v = v} {z = z} {s = s} {t = m} {u = u} {a = t} {ends = ends} p q r) =
        let went = walked fuel (l k) (forked_at fuel counts bones k places s m w v more at p.0 p.1 a) (others fuel counts bones k places s m w v more at p.0 p.1 a ++ more)
        (forked_agrees fuel counts bones k places s m w v more at p.0 p.1 a) q in
        branch_went fuel counts bones k places s m w v more at p.0 p.1 a u z went t ends (branches_walked fuel l went.at more went.took.agrees r)
