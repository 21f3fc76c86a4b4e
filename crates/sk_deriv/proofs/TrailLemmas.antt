-- The listing of trails is sound, complete and in order.
use Rattle.std.proofs.Common.{◌≡◌, ℕ, zero, suc, ◌+◌, ◌<◌, ◌≤◌, Bool, true, false, cond, List, [], ◌∷◌, ◌++◌, length, map, take, drop, sum, Option, Some, None, ◌⊎◌, inl, inr, refl, ap, sym, subst, ◌∙◌, arith, append_assoc, length-take, length-drop}
use Rattle.std.specs.List.{flat_map, slice_get, slice_index}
use native.Mathlib.Decide.{dec_lt}
use Rattle.std.specs.Option.{option_to_list}
use Rattle.sk_def.specs.declared.ids.HookId.{HookId}
use Rattle.sk_def.specs.declared.bone.Bone.{Bone}
use Rattle.sk_def.specs.declared.ids.Var.{Var}
use Rattle.sk_def.specs.declared.bone.Target.{Target}
use Rattle.sk_def.specs.declared.filter.Filter.{Filter}
use Rattle.sk_filter.specs.Arguments.{Values}
use Rattle.sk_filter.specs.Results.{is_choice}
use Rattle.sk_deriv.specs.Tree.{Derivation, Steps, done, pick, sub, hook_of, point_of, ins_of, outs_of, word, word_of_steps}
use Rattle.sk_def.specs.Layout.{branch, after_branches}
use Rattle.sk_value.specs.declared.flow.Flow.{Flow}
use Rattle.sk_deriv.specs.Env.{Env, gain, export, values_at, target_at}
use Rattle.sk_deriv.specs.Moves.{Moves, no_bone, by_filter, by_choice, by_hook, by_branch, Answers, results_at}
use Rattle.sk_deriv.specs.declared.call.Call.{Call}
use Rattle.sk_def.specs.Layout.{branch_places}
use Rattle.sk_deriv.specs.Listing.{followed_by, Trail, after_pick, after_sub, after_branch, only, each, call_at, trails}
use Rattle.sk_deriv.proofs.Induction.{EachSub, EachSub-rest}
use Rattle.sk_deriv.proofs.Sorted.{Member, member_map, member_of_map}
use Rattle.sk_deriv.proofs.Members.{member_append_left, member_append_right, member_of_append, member_flat_map, part_of_flat_map, InOrder}

-- a derivation has this hook, point and inputs
pub record IsOf (c : Call) (t : Derivation) : Type 0 where
  pub same_hook : hook_of t ≡ c.hook
  pub same_point : point_of t ≡ c.point
  pub same_ins : ins_of t ≡ c.ins

-- picks, branches, single results

pub member_each : (go : Values → List Trail) (k : ℕ) (vs : List Values) (j m : ℕ) (v : Values) (p : Trail) → slice_get vs j ≡ Some v → m ≡ k + j → Member p (go v) → Member (after_pick m p) (each go k vs)
member_each go k [] j m v p e l n = absurd (cc)
member_each go k (w ∷ vs) zero m v p e l n =
    let same : w ≡ v = cc in
    let at : m ≡ k = omega arith in
    member_append_left (after_pick m p) (map (after_pick k) (go w)) (each go (suc k) vs)
    (subst (λ z. Member (after_pick z p) (map (after_pick k) (go w))) (sym at)
    (member_map (after_pick k) (go w) p (subst (λ z. Member p (go z)) (sym same) n)))
member_each go k (w ∷ vs) (suc j) m v p e l n =
    member_append_right (after_pick m p) (map (after_pick k) (go w)) (each go (suc k) vs) (member_each go (suc k) vs j m v p e (omega arith) n)

pub record Picked (go : Values → List Trail) (k : ℕ) (vs : List Values) (q : Trail) : Type 0 where
  pub place : ℕ
  pub number : ℕ
  pub value : Values
  pub rest : Trail
  pub number_is : number ≡ k + place
  pub value_is : slice_get vs place ≡ Some value
  pub of_go : Member rest (go value)
  pub whole : q ≡ after_pick number rest

pub pick_of_each : (go : Values → List Trail) (k : ℕ) (vs : List Values) (q : Trail) → Member q (each go k vs) → Picked go k vs q
pick_of_each go k [] q m = absurd m
pick_of_each go k (v ∷ vs) q m =
    elim (member_of_append q (map (after_pick k) (go v)) (each go (suc k) vs) m) [
      | inl a ↦ let r = member_of_map (after_pick k) (go v) q a in
          record { place = 0; number = k; value = v; rest = r.0; number_is = omega arith; value_is = refl; of_go = r.1; whole = r.2 }
      | inr b ↦ let r = pick_of_each go (suc k) vs q b in
          record { place = suc r.place; number = r.number; value = r.value; rest = r.rest; number_is = omega (arith, r.number_is); value_is = r.value_is; of_go = r.of_go; whole = r.whole }
    ]

pub member_numbers : (k : ℕ) (counts : List ℕ) (m : ℕ) → k ≤ m → m < k + length counts → Member m (branch_places k counts)
member_numbers k [] m h l = absurd (omega arith)
member_numbers k (c ∷ counts) m h l = elim (dec_lt k m) [ yes g ↦ inr (member_numbers (k + 1) counts m (omega arith) (omega arith)) | no g ↦ inl (omega arith) ]

pub numbers_within : (k : ℕ) (counts : List ℕ) (m : ℕ) → Member m (branch_places k counts) → (k ≤ m) × (m < k + length counts)
numbers_within k [] m h = absurd h
numbers_within k (c ∷ counts) m (inl e) = (omega arith, omega arith)
numbers_within k (c ∷ counts) m (inr h) = let r = numbers_within (k + 1) counts m h in (omega (arith, r.0), omega (arith, r.1))

pub numbers_in_order : (k : ℕ) (counts : List ℕ) → InOrder (λ m n. m < n) (branch_places k counts)
numbers_in_order k [] = tt
numbers_in_order k (c ∷ counts) = ((λ m h. omega (arith, (numbers_within (k + 1) counts m h).0)), numbers_in_order (k + 1) counts)

pub record Only {R : Type 0} (go : Values → List R) (vs : List Values) (p : R) : Type 0 where
  pub value : Values
  pub value_is : vs ≡ value ∷ []
  pub of_go : Member p (go value)

pub only_one : {R : Type 0} (go : Values → List R) (vs : List Values) (p : R) → Member p (only go vs) → Only go vs p
only_one go [] p m = absurd m
only_one go (v ∷ []) p m = record { value = v; value_is = refl; of_go = m }
only_one go (v ∷ w ∷ vs) p m = absurd m

pub cases_if : {A : Type 0} (b : Bool) (xs ys : List A) (p : A) → Member p (cond b xs ys) → ((b ≡ true) × Member p xs) ⊎ ((b ≡ false) × Member p ys)
cases_if true xs ys p m = inl (refl, m)
cases_if false xs ys p m = inr (refl, m)

pub followed_by_assoc : (a b c : Steps) → followed_by (followed_by a b) c ≡ followed_by a (followed_by b c)
followed_by_assoc done b c = refl
followed_by_assoc (pick k a) b c = ap (pick k) (followed_by_assoc a b c)
followed_by_assoc (sub t a) b c = ap (sub t) (followed_by_assoc a b c)

pub followed_by_done : (a : Steps) → followed_by a done ≡ a
followed_by_done done = refl
followed_by_done (pick k a) = ap (pick k) (followed_by_done a)
followed_by_done (sub t a) = ap (sub t) (followed_by_done a)

pub word-followed_by : (a b : Steps) → word_of_steps (followed_by a b) ≡ word_of_steps a ++ word_of_steps b
word-followed_by done b = refl
word-followed_by (pick k a) b = ap (λ w. k ∷ w) (word-followed_by a b)
word-followed_by (sub t a) b = ap (λ w. word t ++ w) (word-followed_by a b) ∙ sym (append_assoc (word t) _ _)

pub EachSub-followed_by : (P : Derivation → Type 0) (a b : Steps) → EachSub P a → EachSub P b → EachSub P (followed_by a b)
EachSub-followed_by P done b h g = g
EachSub-followed_by P (pick k a) b h g = EachSub-followed_by P a b h g
EachSub-followed_by P (sub t a) b h g = (h.0, EachSub-followed_by P a b h.1 g)

pub record CallIs (hook : HookId) (point : Option ℕ) (ins : Option Values) (c : Call) : Type 0 where
  pub hook_is : c.hook ≡ hook
  pub point_is : point ≡ Some c.point
  pub ins_is : ins ≡ Some c.ins

pub call_is : (hook : HookId) (point : Option ℕ) (ins : Option Values) (c : Call) → Member c (option_to_list (call_at hook point ins)) → CallIs hook point ins c
call_is hook None ins c m = absurd m
call_is hook (Some q) None c m = absurd m
call_is hook (Some q) (Some i) c (inl e) = record { hook_is = ap (λ (d : Call). d.hook) e; point_is = ap (λ (d : Call). Some d.point) (sym e); ins_is = ap (λ (d : Call). Some d.ins) (sym e) }
call_is hook (Some q) (Some i) c (inr m) = absurd m

pub member_call : (hook : HookId) (point : Option ℕ) (ins : Option Values) (c : Call) → CallIs hook point ins c → Member c (option_to_list (call_at hook point ins))
member_call hook None ins c h = absurd (let e = h.point_is in cc)
member_call hook (Some q) None c h = absurd (let e = h.ins_is in cc)
member_call hook (Some q) (Some i) c h =
    let pe : c.point ≡ q = let e = h.point_is in cc in
    let ie : c.ins ≡ i = let e = h.ins_is in cc in
    inl (λ x. record { hook = h.hook_is x; point = pe x; ins = ie x })

from_steps : {names point : ℕ} {bones : List Bone} {env ends : Env Flow} {steps steps' rest : Steps} → steps ≡ steps' → Moves names point bones env steps' ends rest → Moves names point bones env steps ends rest
from_steps {names} {point} {bones} {env} {ends} {steps} {steps'} {rest} e m = subst (λ w. Moves names point bones env w ends rest) (sym e) m

-- the trail leads through the bones, and Q holds of its subtrees
pub record Leads (names point : ℕ) (Q : Derivation → Type 0) (bones : List Bone) (env : Env Flow) (p : Trail) : Type 0 where
  pub each_sub : EachSub Q p.0
  pub moves : (rest : Steps) → Moves names point bones env (followed_by p.0 rest) p.1 rest

module _ (names point : ℕ) (known : Call → List Derivation) (Q : Derivation → Type 0) where
  leads_same : (bones : List Bone) (env : Env Flow) (p q : Trail) → p ≡ q → Leads names point Q bones env q → Leads names point Q bones env p
  leads_same bones env p q e h = subst (λ (w : Trail). Leads names point Q bones env w) (sym e) h

  abbrev Sound : ℕ → Type 0
  Sound fuel = (bones : List Bone) (env : Env Flow) (p : Trail) → Member p (trails names point known fuel bones env) → Leads names point Q bones env p

  module _ (are_of : (c : Call) (t : Derivation) → Member t (known c) → IsOf c t) (holds : (c : Call) (t : Derivation) → Member t (known c) → Q t) where
    sound_filter : (fuel : ℕ) → Sound fuel → (filter : Filter) (args outs : List Var) (bones : List Bone) (env : Env Flow) (p : Trail) → is_choice filter ≡ false →
        Member p (only (λ v. trails names point known fuel bones (gain env outs v)) (results_at names env filter args)) → Leads names point Q (Bone.Apply filter args outs ∷ bones) env p
    sound_filter fuel ih filter args outs bones env p c m =
        let r = only_one (λ v. trails names point known fuel bones (gain env outs v)) (results_at names env filter args) p m in
        let g = ih bones (gain env outs r.value) p r.of_go in
        record { each_sub = g.each_sub; moves = λ rest. by_filter c r.value_is (g.moves rest) }

    sound_choice : (fuel : ℕ) → Sound fuel → (filter : Filter) (args outs : List Var) (bones : List Bone) (env : Env Flow) (p : Trail) → is_choice filter ≡ true →
        Member p (each (λ v. trails names point known fuel bones (gain env outs v)) 0 (results_at names env filter args)) → Leads names point Q (Bone.Apply filter args outs ∷ bones) env p
    sound_choice fuel ih filter args outs bones env p c m =
        let r = pick_of_each (λ v. trails names point known fuel bones (gain env outs v)) 0 (results_at names env filter args) p m in
        let at : slice_get (results_at names env filter args) r.number ≡ Some r.value = subst (λ z. slice_get (results_at names env filter args) z ≡ Some r.value) (omega (arith, r.number_is)) r.value_is in
        leads_same (Bone.Apply filter args outs ∷ bones) env p (after_pick r.number r.rest) r.whole
        (let g = ih bones (gain env outs r.value) r.rest r.of_go in record { each_sub = g.each_sub; moves = λ rest. by_choice c at (g.moves rest) })

    sound_call : (fuel : ℕ) → Sound fuel → (hook : HookId) (args : List Var) (target : Target) (outs : List Var) (bones : List Bone) (env : Env Flow) (p : Trail) →
        Member p (trails names point known (suc fuel) (Bone.Call hook args target outs ∷ bones) env) → Leads names point Q (Bone.Call hook args target outs ∷ bones) env p
    sound_call fuel ih hook args target outs bones env p m =
        let after : Derivation → List Trail = λ t. trails names point known fuel bones (gain env outs (outs_of t)) in
        let calls = option_to_list (call_at hook (target_at point env target) (values_at env args)) in
        let a = part_of_flat_map (λ c. flat_map (λ t. map (after_sub t) (after t)) (known c)) calls p m in
        let b = part_of_flat_map (λ t. map (after_sub t) (after t)) (known a.part) p a.of_part in
        let r = member_of_map (after_sub b.part) (after b.part) p b.of_part in
        let c = call_is hook (target_at point env target) (values_at env args) a.part a.of_list in
        let i = are_of a.part b.part b.of_list in
        let answer : Answers point env hook args target b.part = record {
          same_hook = i.same_hook ∙ c.hook_is;
          at_target = c.point_is ∙ ap Some (sym i.same_point);
          on_args = c.ins_is ∙ ap Some (sym i.same_ins);
        } in
        leads_same (Bone.Call hook args target outs ∷ bones) env p (after_sub b.part r.0) r.2
        (let g = ih bones (gain env outs (outs_of b.part)) r.0 r.1 in record { each_sub = (holds a.part b.part b.of_list, g.each_sub); moves = λ rest. by_hook answer (g.moves rest) })

    sound_branch : (fuel : ℕ) → Sound fuel → (counts : List ℕ) (exports : List Var) (bones : List Bone) (env : Env Flow) (p : Trail) →
        Member p (trails names point known (suc fuel) (Bone.Either counts exports ∷ bones) env) → Leads names point Q (Bone.Either counts exports ∷ bones) env p
    sound_branch fuel ih counts exports bones env p m =
        let after : Trail → List Trail = λ q. trails names point known fuel (after_branches counts bones) (export env q.1 exports) in
        let inner : ℕ → List Trail = λ k. trails names point known fuel (branch counts k bones) env in
        let a = part_of_flat_map (λ k. flat_map (λ q. map (after_branch k q) (after q)) (inner k)) (branch_places 0 counts) p m in
        let b = part_of_flat_map (λ q. map (after_branch a.part q) (after q)) (inner a.part) p a.of_part in
        let r = member_of_map (after_branch a.part b.part) (after b.part) p b.of_part in
        let l : a.part < length counts = omega (arith, (numbers_within 0 counts a.part a.of_list).1) in
        let g = ih (branch counts a.part bones) env b.part b.of_list in
        let h = ih (after_branches counts bones) (export env b.part.1 exports) r.0 r.1 in
        leads_same (Bone.Either counts exports ∷ bones) env p (after_branch a.part b.part r.0) r.2 (record {
          each_sub = EachSub-followed_by Q b.part.0 r.0.0 g.each_sub h.each_sub;
          moves = λ rest. by_branch l (from_steps (followed_by_assoc b.part.0 r.0.0 rest) (g.moves (followed_by r.0.0 rest))) (h.moves rest);
        })

    sound_bone : (fuel : ℕ) → Sound fuel → (bone : Bone) (bones : List Bone) (env : Env Flow) (p : Trail) → Member p (trails names point known (suc fuel) (bone ∷ bones) env) → Leads names point Q (bone ∷ bones) env p
    sound_bone fuel ih (Bone.Apply filter args outs) bones env p m =
        elim (cases_if (is_choice filter) _ _ p m) [
          | inl h ↦ sound_choice fuel ih filter args outs bones env p h.0 h.1
          | inr h ↦ sound_filter fuel ih filter args outs bones env p h.0 h.1
        ]
    sound_bone fuel ih (Bone.Call hook args target outs) bones env p m = sound_call fuel ih hook args target outs bones env p m
    sound_bone fuel ih (Bone.Either counts exports) bones env p m = sound_branch fuel ih counts exports bones env p m

    no_bone_leads : (env : Env Flow) → Leads names point Q [] env (done, env)
    no_bone_leads env = record { each_sub = tt; moves = λ rest. no_bone }

    -- each trail that is listed leads through the bones
    pub sound : (fuel : ℕ) → Sound fuel
    sound fuel [] env p (inl e) = leads_same [] env p (done, env) e (no_bone_leads env)
    sound fuel [] env p (inr m) = absurd m
    sound zero (bone ∷ bones) env p m = absurd m
    sound (suc fuel) (bone ∷ bones) env p m = sound_bone fuel (sound fuel) bone bones env p m

module _ (names point : ℕ) (known : Call → List Derivation) (P : Derivation → Type 0) (all_known : (c : Call) (t : Derivation) → IsOf c t → P t → Member t (known c)) where
  -- a trail that is listed is where these steps begin
  pub record Listed (fuel : ℕ) (bones : List Bone) (env : Env Flow) (steps : Steps) (ends : Env Flow) (rest : Steps) : Type 0 where
    pub trail : Trail
    pub of_list : Member trail (trails names point known fuel bones env)
    pub steps_are : steps ≡ followed_by trail.0 rest
    pub ends_are : ends ≡ trail.1

  listed_filter : (fuel : ℕ) {filter : Filter} {args outs : List Var} {bones : List Bone} {env ends : Env Flow} {steps rest : Steps} {result : Values} →
      is_choice filter ≡ false → results_at names env filter args ≡ result ∷ [] → Listed fuel bones (gain env outs result) steps ends rest → Listed (suc fuel) (Bone.Apply filter args outs ∷ bones) env steps ends rest
  listed_filter fuel {filter} {args} {outs} {bones} {env} {ends} {steps} {rest} {result} c r l =
      let go : Values → List Trail = λ v. trails names point known fuel bones (gain env outs v) in
      record { trail = l.trail; of_list = rw (c, r) l.of_list; steps_are = l.steps_are; ends_are = l.ends_are }

  listed_choice : (fuel : ℕ) {filter : Filter} {args outs : List Var} {bones : List Bone} {env ends : Env Flow} {k : ℕ} {steps rest : Steps} {result : Values} →
      is_choice filter ≡ true → slice_get (results_at names env filter args) k ≡ Some result → Listed fuel bones (gain env outs result) steps ends rest → Listed (suc fuel) (Bone.Apply filter args outs ∷ bones) env (pick k steps) ends rest
  listed_choice fuel {filter} {args} {outs} {bones} {env} {ends} {k} {steps} {rest} {result} c r l =
      let go : Values → List Trail = λ v. trails names point known fuel bones (gain env outs v) in
      record { trail = after_pick k l.trail; of_list = rw c (member_each go 0 (results_at names env filter args) k k result l.trail r (omega arith) l.of_list); steps_are = ap (pick k) l.steps_are; ends_are = l.ends_are }

  listed_call : (fuel : ℕ) {hook : HookId} {args : List Var} {target : Target} {outs : List Var} {bones : List Bone} {env ends : Env Flow} {t : Derivation} {steps rest : Steps} →
      Answers point env hook args target t → P t → Listed fuel bones (gain env outs (outs_of t)) steps ends rest → Listed (suc fuel) (Bone.Call hook args target outs ∷ bones) env (sub t steps) ends rest
  listed_call fuel {hook} {args} {target} {outs} {bones} {env} {ends} {t} {steps} {rest} a h l =
      let after : Derivation → List Trail = λ u. trails names point known fuel bones (gain env outs (outs_of u)) in
      let c : Call = record { hook = hook; point = point_of t; ins = ins_of t } in
      let is : CallIs hook (target_at point env target) (values_at env args) c = record { hook_is = refl; point_is = a.at_target; ins_is = a.on_args } in
      let of_c : IsOf c t = record { same_hook = a.same_hook; same_point = refl; same_ins = refl } in
      record {
        trail = after_sub t l.trail;
        of_list = member_flat_map (λ d. flat_map (λ u. map (after_sub u) (after u)) (known d)) (option_to_list (call_at hook (target_at point env target) (values_at env args))) c (after_sub t l.trail)
            (member_call hook _ _ c is)
            (member_flat_map (λ u. map (after_sub u) (after u)) (known c) t (after_sub t l.trail) (all_known c t of_c h) (member_map (after_sub t) (after t) l.trail l.of_list));
        steps_are = ap (sub t) l.steps_are;
        ends_are = l.ends_are;
      }

  listed_branch : (fuel : ℕ) {counts : List ℕ} {exports : List Var} {bones : List Bone} {env ends ends' : Env Flow} {k : ℕ} {steps middle rest : Steps} →
      k < length counts → Listed fuel (branch counts k bones) env steps ends middle → Listed fuel (after_branches counts bones) (export env ends exports) middle ends' rest → Listed (suc fuel) (Bone.Either counts exports ∷ bones) env (pick k steps) ends' rest
  listed_branch fuel {counts} {exports} {bones} {env} {ends} {ends'} {k} {steps} {middle} {rest} l a b =
      let after : Trail → List Trail = λ q. trails names point known fuel (after_branches counts bones) (export env q.1 exports) in
      let inner : ℕ → List Trail = λ j. trails names point known fuel (branch counts j bones) env in
      let here : Member b.trail (after a.trail) = subst (λ w. Member b.trail (trails names point known fuel (after_branches counts bones) (export env w exports))) a.ends_are b.of_list in
      record {
        trail = after_branch k a.trail b.trail;
        of_list = member_flat_map (λ j. flat_map (λ q. map (after_branch j q) (after q)) (inner j)) (branch_places 0 counts) k (after_branch k a.trail b.trail)
            (member_numbers 0 counts k (omega arith) (omega arith))
            (member_flat_map (λ q. map (after_branch k q) (after q)) (inner k) a.trail (after_branch k a.trail b.trail) a.of_list (member_map (after_branch k a.trail) (after a.trail) b.trail here));
        steps_are = ap (pick k) (a.steps_are ∙ ap (followed_by a.trail.0) b.steps_are ∙ sym (followed_by_assoc a.trail.0 b.trail.0 rest));
        ends_are = b.ends_are;
      }

  branch_shorter : (counts : List ℕ) (k fuel : ℕ) (bones : List Bone) → length bones ≤ fuel → length (branch counts k bones) ≤ fuel
  branch_shorter counts k fuel bones h = omega (arith, length-take (slice_index counts k) (drop (sum (take k counts)) bones), length-drop (sum (take k counts)) bones)

  after_shorter : (counts : List ℕ) (fuel : ℕ) (bones : List Bone) → length bones ≤ fuel → length (after_branches counts bones) ≤ fuel
  after_shorter counts fuel bones h = omega (arith, length-drop (sum counts) bones)

  -- steps that lead through the bones are listed
  pub complete : {bones : List Bone} {env ends : Env Flow} {steps rest : Steps} → Moves names point bones env steps ends rest → (fuel : ℕ) → length bones ≤ fuel → EachSub P steps → Listed fuel bones env steps ends rest
  complete (no_bone {env = env} {steps = steps}) fuel l h = record { trail = (done, env); of_list = inl refl; steps_are = refl; ends_are = refl }
  complete (by_filter c r m) zero l h = absurd (omega arith)
  complete (by_filter c r m) (suc fuel) l h = listed_filter fuel c r (complete m fuel (omega arith) h)
  complete (by_choice c r m) zero l h = absurd (omega arith)
  complete (by_choice c r m) (suc fuel) l h = listed_choice fuel c r (complete m fuel (omega arith) h)
  complete (by_hook a m) zero l h = absurd (omega arith)
  complete (by_hook a m) (suc fuel) l h = listed_call fuel a h.0 (complete m fuel (omega arith) h.1)
  complete (by_branch k m o) zero l h = absurd (omega arith)
  complete (by_branch {counts = counts} {bones = bones} {k = k} j m o) (suc fuel) l h =
      listed_branch fuel j (complete m fuel (branch_shorter counts k fuel bones (omega arith)) h) (complete o fuel (after_shorter counts fuel bones (omega arith)) (EachSub-rest P m h))
