-- The walk of the branches of a branch bone, as far as a loop over them has come.
use Rattle.std.proofs.Common.{suc, true, ◌≡◌, ℕ, ◌+◌, ◌≤◌, ◌<◌, List, [], ◌∷◌, ◌++◌, take, drop, sum, refl, sym, ap, ◌∙◌, Ok, Err, length, arith, map, get_or, add-one, length-append}
use Rattle.std.specs.Prelude.{All}
use Rattle.std.proofs.lemmas.List.{map-append, append-nil, append_assoc, drop-drop, length-drop, length-take-le}
use Rattle.std.proofs.lemmas.List.Elements.{All-nil, All-push}
use Rattle.std.proofs.lemmas.List.Sums.{sum_by-cons, sum_by-take-drop}
use Rattle.std.proofs.Math.Seq.{drop-cons}
use Rattle.sk_def.specs.declared.bone.Bone.{Bone}
use Rattle.sk_def.specs.Sorts.{Sorts}
use Rattle.sk_def.specs.Layout.{branch, branch_places, first_of_branch}
use Rattle.sk_walk.specs.Walks.{Meaning, Reading, WalksBranches, Composed, no_branch, fork_stops, branch_stops, later_stops, branch_goes}
use Rattle.sk_walk.specs.declared.stop.WalkStop.{WalkStop}
use Rattle.sk_walk.specs.declared.stop.WalkStop.TheVariants.{Stop, NoMemory}
use Rattle.sk_walk.specs.Answers.{AnswersWalk, StopsBranches}
use Rattle.sk_walk.specs.Sorted.{SortedBranches, SortsAfter, Walkable, BranchesWalkable}
use Rattle.sk_walk.proofs.Checks.{Sorted-branch, Sorted-none}

-- the places of the branches that are left
pub places_left : (counts : List ℕ) (place : ℕ) → place < length counts →
    branch_places place (drop place counts) ≡ place ∷ branch_places (place + 1) (drop (place + 1) counts)
places_left counts place h =
    let e = drop-cons counts place 0 h in
    let e' = rw (← add-one place) at e in
    rw e' refl

-- the sizes before and with a branch
sizes_more : (counts : List ℕ) (place : ℕ) → place < length counts →
    (sum (take (place + 1) counts) ≡ sum (take place counts) + get_or counts place 0) × (sum (take (place + 1) counts) ≤ sum counts)
sizes_more counts place h =
    let before = sum_by-take-drop (λ (n : ℕ). n) counts place in
    let after = sum_by-take-drop (λ (n : ℕ). n) counts (place + 1) in
    let here = ap (λ (ns : List ℕ). sum ns) (drop-cons counts place 0 h) ∙ sum_by-cons (λ (n : ℕ). n) (get_or counts place 0) (drop (suc place) counts) in
    let here' = rw (← add-one place) at here in
    (omega (arith, before, after, here'), omega (arith, after))

module _ {S W X : Type 0} (m : Meaning S W X) (reading : S → Reading) (sorts : W → Sorts) where
  -- what a loop over the branches keeps: `before` is the branch bone's world and `s` the state before its first
  -- branch; `t` is the state now, `left` the bones from branch `place` on, `ends` the ends so far
  pub record SoFar (bone : ℕ) (counts : List ℕ) (bones : List Bone) (before : W) (s : S)
      (place first : ℕ) (left : List Bone) (ends : List W) (t : S) : Type 0 where
    pub same_reading : reading t ≡ reading s
    pub walkable : BranchesWalkable (reading s) bone counts bones (sorts before)
    pub first_is : first ≡ first_of_branch bone counts place
    pub left_is : left ≡ drop (sum (take place counts)) bones
    pub one_each : length ends ≡ place
    pub lengths : All (λ end. length (sorts end) ≡ length (sorts before)) ends
    pub goes : (u : S) (more : List W) →
        WalksBranches m bone counts bones (branch_places place (drop place counts)) before t u (Ok more) →
        WalksBranches m bone counts bones (branch_places 0 counts) before s u (Ok (ends ++ more))
    pub stops : (u : S) (stop : X) →
        WalksBranches m bone counts bones (branch_places place (drop place counts)) before t u (Err stop) →
        WalksBranches m bone counts bones (branch_places 0 counts) before s u (Err stop)
    pub sorted : (gs : List Sorts) →
        SortedBranches (reading s).definition (reading s).own bone counts bones (branch_places 0 counts) (sorts before) gs →
        (hs : List Sorts) × (gs ≡ map sorts ends ++ hs)
        × SortedBranches (reading s).definition (reading s).own bone counts bones (branch_places place (drop place counts)) (sorts before) hs
    pub asked : (reading s).asks_sorts ≡ true → (hs : List Sorts)
        × SortedBranches (reading s).definition (reading s).own bone counts bones (branch_places place (drop place counts)) (sorts before) hs

  pub no_branch_yet : (bone : ℕ) (counts : List ℕ) (bones : List Bone) (before : W) (s : S) →
      BranchesWalkable (reading s) bone counts bones (sorts before) →
      SoFar bone counts bones before s 0 (bone + 1) bones [] s
  no_branch_yet bone counts bones before s k = record {
    same_reading = refl;
    walkable = k;
    first_is = omega arith;
    left_is = refl;
    one_each = refl;
    lengths = All-nil _;
    goes = λ u more p. p;
    stops = λ u stop p. p;
    sorted = λ gs p. (gs, refl, p);
    asked = k.sorted;
  }

  module _ {bone : ℕ} {counts : List ℕ} {bones : List Bone} {before : W} {s : S} {place first : ℕ} {left : List Bone} {ends : List W} {t : S}
      (here : place < length counts) (so_far : SoFar bone counts bones before s place first left ends t) where
    -- the next branch fits into the bones that are left
    pub room : (count : ℕ) → count ≡ get_or counts place 0 → count ≤ length left
    room count e =
        let sizes = sizes_more counts place here in
        omega (arith, e, sizes.0, sizes.1, so_far.walkable.within, ap (λ (bs : List Bone). length bs) so_far.left_is, length-drop (sum (take place counts)) bones)

    pub left_short : length left ≤ length bones
    left_short = omega (arith, ap (λ (bs : List Bone). length bs) so_far.left_is, length-drop (sum (take place counts)) bones)

    pub stopped_at_fork : (u : S) (stop : X) → m.fork t bone place before u (Err stop) →
        WalksBranches m bone counts bones (branch_places 0 counts) before s u (Err stop)
    stopped_at_fork u stop p = so_far.stops u stop (rw (places_left counts place here) (fork_stops p))

    module _ (count : ℕ) (count-is : count ≡ get_or counts place 0) (own : List Bone) (own-is : own ≡ take count left) where
      own_branch : own ≡ branch counts place bones
      own_branch = rw (own-is, count-is, so_far.left_is) refl

      branch_long : length own ≡ count
      branch_long = ap (λ (bs : List Bone). length bs) own-is ∙ length-take-le count left (room count count-is)

      pub branch_walkable : (v : W) (u : S) → reading u ≡ reading t → sorts v ≡ sorts before → Walkable (reading u) first own (sorts v)
      branch_walkable v u r e =
          let sizes = sizes_more counts place here in
          let numbered : first_of_branch bone counts place + length own ≤ 65 =
          omega (arith, branch_long, count-is, sizes.0, sizes.1, so_far.walkable.within, so_far.walkable.numbered) in
          rw (r, e, so_far.same_reading, so_far.first_is) record {
            numbered = numbered;
            nesting = so_far.walkable.nesting;
            fits = rw own_branch (so_far.walkable.fits place here);
            sorted = λ a.
                let p = Sorted-branch (reading s).definition (reading s).own (rw (places_left counts place here) at (so_far.asked a).1) in
                (p.end, rw own_branch p.sorted);
          }

      pub stopped_in_branch : (v : W) (u a : S) → m.fork t bone place before u (Ok v) →
          (stop : WalkStop X) → AnswersWalk m first own u v a (Err stop) →
          StopsBranches m bone counts bones (branch_places 0 counts) before s a stop
      stopped_in_branch v u a p (Stop stop) q =
          so_far.stops a stop (rw (places_left counts place here) (branch_stops p (rw (own_branch, so_far.first_is) at q)))
      stopped_in_branch v u a p NoMemory q = tt

      pub one_branch_more : (v z : W) (u a : S) (first' : ℕ) (left' : List Bone) (ends' : List W) →
          first' ≡ first + count → left' ≡ drop count left → ends' ≡ ends ++ z ∷ [] →
          m.fork t bone place before u (Ok v) → reading u ≡ reading t → sorts v ≡ sorts before →
          Composed m first own u v a z → reading a ≡ reading u → SortsAfter (reading u) first own (sorts v) (sorts z) →
          SoFar bone counts bones before s (place + 1) first' left' ends' a
      one_branch_more v z u a first' left' ends' first'-is left'-is ends'-is f r e q r' after =
          let sizes = sizes_more counts place here in
          let ru : reading u ≡ reading s = r ∙ so_far.same_reading in
          let after' = rw (ru, e, own_branch, so_far.first_is) at after in
          let q' = rw (own_branch, so_far.first_is) at q in
          let more = places_left counts place here in
          rw ends'-is record {
            same_reading = r' ∙ ru;
            walkable = so_far.walkable;
            first_is = omega (arith, first'-is, so_far.first_is, count-is, sizes.0);
            left_is = rw (left'-is, so_far.left_is, drop-drop count (sum (take place counts)) bones, count-is, sizes.0) refl;
            one_each = omega (arith, so_far.one_each, length-append ends (z ∷ []));
            lengths = All-push (λ (end : W). length (sorts end) ≡ length (sorts before)) ends z so_far.lengths after'.same_length;
            goes = λ b es p. rw append_assoc (so_far.goes b (z ∷ es) (rw more (branch_goes f q' p)));
            stops = λ b stop p. so_far.stops b stop (rw more (later_stops f q' p));
            sorted = λ gs p.
                let before = so_far.sorted gs p in
                let next = Sorted-branch (reading s).definition (reading s).own (rw more at before.2) in (
                  next.more,
                  before.1 ∙ ap (λ (hs : List Sorts). map sorts ends ++ hs) (next.ends ∙ ap (λ (g : Sorts). g ∷ next.more) (sym (after'.checked next.end next.sorted)))
                      ∙ sym (append_assoc (map sorts ends) (sorts z ∷ []) next.more)
                      ∙ ap (λ (hs : List Sorts). hs ++ next.more) (sym (map-append sorts ends (z ∷ []))),
                  next.later,
                );
            asked = λ a.
                let next = Sorted-branch (reading s).definition (reading s).own (rw more at (so_far.asked a).1) in
                (next.more, next.later);
          }

  -- the loop has come to its end
  module _ {bone : ℕ} {counts : List ℕ} {bones : List Bone} {before : W} {s : S} {place first : ℕ} {left : List Bone} {ends : List W} {t : S}
      (none : drop place counts ≡ []) (so_far : SoFar bone counts bones before s place first left ends t) where
    pub all_branches : WalksBranches m bone counts bones (branch_places 0 counts) before s t (Ok ends)
    all_branches = rw append-nil at (so_far.goes t [] (rw none no_branch))

    pub all_sorts : (gs : List Sorts) →
        SortedBranches (reading s).definition (reading s).own bone counts bones (branch_places 0 counts) (sorts before) gs → map sorts ends ≡ gs
    all_sorts gs p =
        let end = so_far.sorted gs p in
        sym (end.1 ∙ ap (λ (hs : List Sorts). map sorts ends ++ hs) (Sorted-none (reading s).definition (reading s).own (rw none at end.2)) ∙ append-nil (map sorts ends))
