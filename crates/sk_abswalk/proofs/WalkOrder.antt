-- Lesser environments and lesser answers lead to lesser environments by lesser calls.
use Rattle.std.proofs.Common.{◌≡◌, ℕ, zero, suc, true, List, [], ◌∷◌, ◌++◌, length, Option, Some, None, refl, sym, subst, inl, inr}
use Rattle.std.specs.Prelude.{nat_eq, if◌then◌else◌}
use Rattle.std.specs.List.{AllByRecursion, AllZip}
use Rattle.std.specs.Option.{option_map_or, option_and_then}
use Rattle.std.proofs.lemmas.Bool.{and_parts, and_from, cond_both, false≢true}
use lib.Pointwise.{pointwise_long}
use Rattle.sk_def.specs.declared.ids.Var.{Var}
use Rattle.sk_def.specs.declared.ids.HookId.{HookId}
use Rattle.sk_def.specs.declared.filter.Filter.{Filter}
use Rattle.sk_def.specs.declared.def.Rule.{Rule}
use Rattle.sk_def.specs.declared.bone.Bone.{Bone}
use Rattle.sk_def.specs.Layout.{branch, branch_places, after_branches}
use Rattle.sk_term.specs.declared.node.TermNode.{TermNode}
use Rattle.sk_deriv.specs.declared.entry.Entry.{Entry}
use Rattle.sk_deriv.specs.Env.{args_at, values_at, target_at, gain}
use Rattle.sk_deriv.specs.Moves.{Setting}
use Rattle.sk_lattice.specs.declared.store.AbsStore.{AbsStore}
use Rattle.sk_lattice.specs.declared.store.AbsStore.TheVariants.{Empty, Cells}
use Rattle.sk_lattice.specs.declared.flow.AbsFlow.{AbsFlow}
use Rattle.sk_lattice.specs.declared.flow.AbsFlow.TheVariants as flow
use Rattle.sk_lattice.specs.Domain.{Domain}
use Rattle.sk_lattice.specs.Order.{cell_leq, store_leq, flow_leq, tuple_leq, stores_fit, flows_fit, tuples_fit}
use Rattle.sk_lattice.specs.Merge.{Join, tuple_merge}
use Rattle.sk_lattice.specs.Laws.{TupleLaws}
use Rattle.sk_absfilter.specs.declared.arg.AbsArg.{AbsArg}
use Rattle.sk_absfilter.specs.Abstract.{Outcome}
use Rattle.sk_absfilter.specs.Laws.{ArgLeq, outcome_leq, FiltersAreMonotone}
use Rattle.sk_table.specs.declared.triple.Cover.{Cover}
use Rattle.sk_abswalk.specs.Walk.{AbsEnv, Flows, argument_in, Ends, uncovered, ill, with, Walk, quiet, go_on, after, in_world, after_world, there, Answers, call_at, ask, filtered, walk_branches, join_to, join_exports, abstract_world, rule_at, walk_of, abstract_walk}
use Rattle.sk_abswalk.specs.Order.{CallLeq, IsBelowOne, AnswersLeq, GotThere, EndsLeq, WalkLeq, WalksAreMonotone}
use Rattle.sk_abswalk.proofs.Relations.{Matches, each_append, each_more, zip_turned, zip_from_test, test_from_zip}
use Rattle.sk_abswalk.proofs.Environments.{Entries, Envs, args_related, values_related, target_related, gain_related, start_related}

-- what is gone lies below everything
abbrev pub OptionLeq : {X : Type 0} → (X → X → Type 0) → Option X → Option X → Type 0
OptionLeq R None o = Unit {0}
OptionLeq R (Some x) None = ⊥
OptionLeq R (Some x) (Some y) = R x y

module _ (D : Type 0) (d : Domain D) where
  below_left : (c : Cover D) (first rest : List (Cover D)) → IsBelowOne d first c → IsBelowOne d (first ++ rest) c
  below_left c [] rest h = absurd h
  below_left c (e ∷ first) rest (inl h) = inl h
  below_left c (e ∷ first) rest (inr h) = inr (below_left c first rest h)

  below_right : (c : Cover D) (first rest : List (Cover D)) → IsBelowOne d rest c → IsBelowOne d (first ++ rest) c
  below_right c [] rest h = h
  below_right c (e ∷ first) rest h = inr (below_right c first rest h)

  abbrev Calls : List (Cover D) → List (Cover D) → Type 0
  Calls low high = AllByRecursion (IsBelowOne d high) low

  calls_append : (low high low2 high2 : List (Cover D)) → Calls low high → Calls low2 high2 → Calls (low ++ low2) (high ++ high2)
  calls_append low high low2 high2 h k =
      each_append (IsBelowOne d (high ++ high2)) low low2
      (each_more (IsBelowOne d high) (IsBelowOne d (high ++ high2)) (λ c. below_left c high high2) low h)
      (each_more (IsBelowOne d high2) (IsBelowOne d (high ++ high2)) (λ c. below_right c high high2) low2 k)

  go_on_leq : {X Y : Type 0} (P : Option X → Option X → Type 0) (Q : Option Y → Option Y → Type 0) (low high : List (Cover D)) (e f : Ends D X) (next more : Option X → Walk D Y) → EndsLeq P e f → (GotThere f → Calls low high) → ((l o : Option X) → P l o → WalkLeq d Q (next l) (more o)) → WalkLeq d Q (go_on low e next) (go_on high f more)
  go_on_leq P Q low high e (uncovered c) next more h k step = record { ends = tt; calls = λ no. absurd no }
  go_on_leq P Q low high e ill next more h k step = record { ends = tt; calls = λ no. absurd no }
  go_on_leq P Q low high (uncovered c) (with o) next more h k step = absurd h
  go_on_leq P Q low high ill (with o) next more h k step = absurd h
  go_on_leq P Q low high (with l) (with o) next more h k step =
      let s = step l o h in
      record { ends = s.ends; calls = λ got. calls_append low high (next l).asked (more o).asked (k tt) (s.calls got) }

  after_leq : {X Y : Type 0} (P : Option X → Option X → Type 0) (Q : Option Y → Option Y → Type 0) (w g : Walk D X) (next more : Option X → Walk D Y) → WalkLeq d P w g → ((l o : Option X) → P l o → WalkLeq d Q (next l) (more o)) → WalkLeq d Q (after w next) (after g more)
  after_leq P Q w g next more h step = go_on_leq P Q w.asked g.asked w.ends g.ends next more h.ends h.calls step

  gone_ends : {Y : Type 0} (S : Y → Y → Type 0) (f : Ends D Y) → EndsLeq (OptionLeq S) (with None) f
  gone_ends S (uncovered c) = tt
  gone_ends S ill = tt
  gone_ends S (with o) = tt

  gone_leq : {Y : Type 0} (S : Y → Y → Type 0) (g : Walk D Y) → WalkLeq d (OptionLeq S) (quiet (with None)) g
  gone_leq S g = record { ends = gone_ends S g.ends; calls = λ _. tt }

  world_step : {X Y : Type 0} (R : X → X → Type 0) (S : Y → Y → Type 0) (next more : X → Walk D Y) → ((x y : X) → R x y → WalkLeq d (OptionLeq S) (next x) (more y)) → (l o : Option X) → OptionLeq R l o → WalkLeq d (OptionLeq S) (in_world next l) (in_world more o)
  world_step R S next more step None o h = gone_leq S (in_world more o)
  world_step R S next more step (Some x) None h = absurd h
  world_step R S next more step (Some x) (Some y) h = step x y h

  after_world_leq : {X Y : Type 0} (R : X → X → Type 0) (S : Y → Y → Type 0) (w g : Walk D X) (next more : X → Walk D Y) → WalkLeq d (OptionLeq R) w g → ((x y : X) → R x y → WalkLeq d (OptionLeq S) (next x) (more y)) → WalkLeq d (OptionLeq S) (after_world w next) (after_world g more)
  after_world_leq R S w g next more h step = after_leq (OptionLeq R) (OptionLeq S) w g _ _ h (world_step R S next more step)

  abbrev TupleLeq : Flows D → Flows D → Type 0
  TupleLeq a b = tuple_leq d a b ≡ true

  -- the greater value stands first
  abbrev FlowAbove : AbsFlow D → AbsFlow D → Type 0
  FlowAbove b a = flow_leq d a b ≡ true

  abbrev ArgAbove : AbsArg D → AbsArg D → Type 0
  ArgAbove b a = ArgLeq d a b

  abbrev EnvAbove : AbsEnv D → AbsEnv D → Type 0
  EnvAbove = Envs FlowAbove

  flows_above : (bs lows : Flows D) → AllZip FlowAbove bs lows → tuple_leq d lows bs ≡ true
  flows_above bs lows h = test_from_zip (flow_leq d) lows bs (zip_turned FlowAbove bs lows h)

  above_flows : (bs lows : Flows D) → tuple_leq d lows bs ≡ true → AllZip FlowAbove bs lows
  above_flows bs lows h = zip_turned (λ a b. flow_leq d a b ≡ true) lows bs (zip_from_test (flow_leq d) lows bs h)

  arg_step : (b a : Entry (AbsFlow D)) → Entries FlowAbove b a → Matches ArgAbove (argument_in b) (argument_in a)
  arg_step (Entry.Point p) a h = tt
  arg_step (Entry.Number z) (Entry.Number y) h = sym h
  arg_step (Entry.Name n) (Entry.Name m) h = sym h
  arg_step (Entry.Flow b) (Entry.Flow a) h = h
  arg_step _ _ h = absurd h

  -- what is there in the greater environment is there in the lesser one
  there_leq : (low high : Option (Flows D)) → Matches (AllZip FlowAbove) high low → WalkLeq d (OptionLeq TupleLeq) (quiet (there low)) (quiet (there high))
  there_leq low None h = record { ends = tt; calls = λ no. absurd no }
  there_leq None (Some b) h = absurd h
  there_leq (Some a) (Some b) h = record { ends = flows_above b a h; calls = λ _. tt }

  leq_option : (a b : Outcome D) → outcome_leq d a b ≡ true → OptionLeq TupleLeq a b
  leq_option None b h = tt
  leq_option (Some a) None h = absurd (false≢true h)
  leq_option (Some a) (Some b) h = h

  option_leq : (a b : Outcome D) → OptionLeq TupleLeq a b → outcome_leq d a b ≡ true
  option_leq None b h = refl
  option_leq (Some a) None h = absurd h
  option_leq (Some a) (Some b) h = h

-- lesser tuples fit where greater ones do
module _ (D : Type 0) (d : Domain D) where
  stores_fit_left : (a x b : AbsStore D) → store_leq d a x ≡ true → stores_fit x b ≡ true → stores_fit a b ≡ true
  stores_fit_left Empty x b h f = refl
  stores_fit_left (Cells a) x Empty h f = refl
  stores_fit_left (Cells a) Empty (Cells b) h f = absurd (false≢true h)
  stores_fit_left (Cells a) (Cells x) (Cells b) h f = subst (λ n. nat_eq n (length b) ≡ true) (sym (pointwise_long (cell_leq d) a x h)) f

  stores_fit_right : (a y b : AbsStore D) → store_leq d b y ≡ true → stores_fit a y ≡ true → stores_fit a b ≡ true
  stores_fit_right Empty y b k f = refl
  stores_fit_right (Cells a) y Empty k f = refl
  stores_fit_right (Cells a) Empty (Cells b) k f = absurd (false≢true k)
  stores_fit_right (Cells a) (Cells y) (Cells b) k f = subst (λ n. nat_eq (length a) n ≡ true) (sym (pointwise_long (cell_leq d) b y k)) f

  flows_fit_left : (a x b : AbsFlow D) → flow_leq d a x ≡ true → flows_fit x b ≡ true → flows_fit a b ≡ true
  flows_fit_left (flow.Int a) (flow.Int x) (flow.Int b) h f = refl
  flows_fit_left (flow.Bool a) (flow.Bool x) (flow.Bool b) h f = refl
  flows_fit_left (flow.Val a) (flow.Val x) (flow.Val b) h f = refl
  flows_fit_left (flow.Store a) (flow.Store x) (flow.Store b) h f = stores_fit_left a x b h f
  flows_fit_left _ _ _ h f = absurd cc

  flows_fit_right : (a y b : AbsFlow D) → flow_leq d b y ≡ true → flows_fit a y ≡ true → flows_fit a b ≡ true
  flows_fit_right (flow.Int a) (flow.Int y) (flow.Int b) k f = refl
  flows_fit_right (flow.Bool a) (flow.Bool y) (flow.Bool b) k f = refl
  flows_fit_right (flow.Val a) (flow.Val y) (flow.Val b) k f = refl
  flows_fit_right (flow.Store a) (flow.Store y) (flow.Store b) k f = stores_fit_right a y b k f
  flows_fit_right _ _ _ k f = absurd cc

  tuples_fit_left : (low high b : Flows D) → tuple_leq d low high ≡ true → tuples_fit high b ≡ true → tuples_fit low b ≡ true
  tuples_fit_left [] [] b h f = f
  tuples_fit_left (a ∷ low) (x ∷ high) (b ∷ bs) h f =
      let p = and_parts _ _ h in
      let q = and_parts _ _ f in
      and_from _ _ (flows_fit_left a x b p.0 q.0) (tuples_fit_left low high bs p.1 q.1)
  tuples_fit_left _ _ _ h f = absurd cc

  tuples_fit_right : (a high low : Flows D) → tuple_leq d low high ≡ true → tuples_fit a high ≡ true → tuples_fit a low ≡ true
  tuples_fit_right [] [] [] k f = refl
  tuples_fit_right (a ∷ rest) (y ∷ high) (b ∷ low) k f =
      let p = and_parts _ _ k in
      let q = and_parts _ _ f in
      and_from _ _ (flows_fit_right a y b p.0 q.0) (tuples_fit_right rest high low p.1 q.1)
  tuples_fit_right _ _ _ k f = absurd cc

  tuples_fit_less : (a x b y : Flows D) → tuple_leq d a x ≡ true → tuple_leq d b y ≡ true → tuples_fit x y ≡ true → tuples_fit a b ≡ true
  tuples_fit_less a x b y h k f = tuples_fit_right a y b k (tuples_fit_left a x y h f)

module _ (D : Type 0) (d : Domain D) (tuples : TupleLaws d) (filters : FiltersAreMonotone d) where
  abbrev Leq : Outcome D → Outcome D → Type 0
  Leq = OptionLeq (TupleLeq D d)

  -- the joined tuple is there, below the greater joined tuple
  record JoinLeq (a : Outcome D) (b m : Flows D) : Type 0 where
    joined : Flows D
    is : join_to d a b ≡ Some joined
    leq : tuple_leq d joined m ≡ true

  join_two : (a b x y : Flows D) → tuple_leq d a x ≡ true → tuple_leq d b y ≡ true → tuples_fit x y ≡ true → JoinLeq (Some a) b (tuple_merge d Join x y)
  join_two a b x y h k f =
      record {
        joined = tuple_merge d Join a b;
        is = subst (λ t. (if t then Some (tuple_merge d Join a b) else None) ≡ Some (tuple_merge d Join a b)) (sym (tuples_fit_less D d a x b y h k f)) refl;
        leq = tuples.join_least a b _ (tuples.leq_trans a x _ h (tuples.join_left x y f)) (tuples.leq_trans b y _ k (tuples.join_right x y f));
      }

  join_leq : (a x : Outcome D) (b y m : Flows D) → Leq a x → tuple_leq d b y ≡ true → join_to d x y ≡ Some m → JoinLeq a b m
  join_leq None None b y m h k e = let same : y ≡ m = cc in record { joined = b; is = refl; leq = subst (λ m. tuple_leq d b m ≡ true) same k }
  join_leq None (Some x) b y m h k e =
      cond_both (tuples_fit x y) (Some (tuple_merge d Join x y)) None (λ o. o ≡ Some m → JoinLeq None b m)
      (λ f e. let same : tuple_merge d Join x y ≡ m = cc in record { joined = b; is = refl; leq = subst (λ m. tuple_leq d b m ≡ true) same (tuples.leq_trans b y _ k (tuples.join_right x y f)) })
      (λ _ e. absurd cc) e
  join_leq (Some a) None b y m h k e = absurd h
  join_leq (Some a) (Some x) b y m h k e =
      cond_both (tuples_fit x y) (Some (tuple_merge d Join x y)) None (λ o. o ≡ Some m → JoinLeq (Some a) b m)
      (λ f e. let same : tuple_merge d Join x y ≡ m = cc in subst (JoinLeq (Some a) b) same (join_two a b x y h k f))
      (λ _ e. absurd cc) e

  -- a join lies above what was joined before
  keep_leq : (a x : Outcome D) (y m : Flows D) → Leq a x → join_to d x y ≡ Some m → Leq a (Some m)
  keep_leq None x y m h e = tt
  keep_leq (Some a) None y m h e = absurd h
  keep_leq (Some a) (Some x) y m h e =
      cond_both (tuples_fit x y) (Some (tuple_merge d Join x y)) None (λ o. o ≡ Some m → tuple_leq d a m ≡ true)
      (λ f e. let same : tuple_merge d Join x y ≡ m = cc in subst (λ m. tuple_leq d a m ≡ true) same (tuples.leq_trans a x _ h (tuples.join_left x y f)))
      (λ _ e. absurd cc) e

  -- a step of the greater join, and a step of both
  high_step : (low : Ends D (Flows D)) (more : Flows D → Ends D (Flows D)) (upper : Outcome D) (flows : Option (Flows D)) → ((f m : Flows D) → flows ≡ Some f → join_to d upper f ≡ Some m → EndsLeq Leq low (more m)) → EndsLeq Leq low (option_map_or more (option_and_then (join_to d upper) flows) ill)
  high_step low more upper None h = tt
  high_step low more upper (Some f) h = joined (join_to d upper f) (λ m e. h f m refl e)
    where
      joined : (o : Outcome D) → ((m : Flows D) → o ≡ Some m → EndsLeq Leq low (more m)) → EndsLeq Leq low (option_map_or more o ill)
      joined None h = tt
      joined (Some m) h = h m refl

  low_step : (next : Flows D → Ends D (Flows D)) (lower : Outcome D) (flows : Option (Flows D)) (f m : Flows D) (e : Ends D (Flows D)) → Matches (AllZip (FlowAbove D d)) (Some f) flows → ((b : Flows D) → tuple_leq d b f ≡ true → JoinLeq lower b m) → ((l : Flows D) → tuple_leq d l m ≡ true → EndsLeq Leq (next l) e) → EndsLeq Leq (option_map_or next (option_and_then (join_to d lower) flows) ill) e
  low_step next lower None f m e h join step = absurd h
  low_step next lower (Some b) f m e h join step =
      let j = join b (flows_above D d f b h) in
      subst (λ o. EndsLeq Leq (option_map_or next o ill) e) (sym j.is) (step j.joined j.leq)

  abbrev EnvLeq : AbsEnv D → AbsEnv D → Type 0
  EnvLeq low high = EnvAbove D d high low

  gain_leq : (vars : List Var) (env high : AbsEnv D) (a b : Flows D) → EnvLeq env high → tuple_leq d a b ≡ true → EnvLeq (gain env vars a) (gain high vars b)
  gain_leq vars env high a b h t = gain_related (FlowAbove D d) vars high env b a h (above_flows D d b a t)

  exports_leq : (exports : List Var) (lows highs : List (Option (AbsEnv D))) (low high : Outcome D) → AllZip (OptionLeq EnvLeq) lows highs → Leq low high → EndsLeq Leq (join_exports d exports low lows) (join_exports d exports high highs)
  exports_leq exports [] [] low high p h = h
  exports_leq exports [] (x ∷ highs) low high p h = absurd p
  exports_leq exports (x ∷ lows) [] low high p h = absurd p
  exports_leq exports (None ∷ lows) (None ∷ highs) low high p h = exports_leq exports lows highs low high p.1 h
  exports_leq exports (None ∷ lows) (Some env ∷ highs) low high p h =
      high_step (join_exports d exports low lows) (λ more. join_exports d exports (Some more) highs) high (values_at env exports)
      (λ f m _ e. exports_leq exports lows highs low (Some m) p.1 (keep_leq low high f m h e))
  exports_leq exports (Some env ∷ lows) (None ∷ highs) low high p h = absurd p.0
  exports_leq exports (Some env ∷ lows) (Some upper ∷ highs) low high p h =
      high_step (join_exports d exports low (Some env ∷ lows)) (λ more. join_exports d exports (Some more) highs) high (values_at upper exports)
      (λ f m g e. low_step (λ more. join_exports d exports (Some more) lows) low (values_at env exports) f m (join_exports d exports (Some m) highs)
      (subst (λ o. Matches (AllZip (FlowAbove D d)) o (values_at env exports)) g (values_related (FlowAbove D d) upper env p.0 exports))
      (λ b k. join_leq low high b f m h k e) (λ l k. exports_leq exports lows highs (Some l) (Some m) p.1 k))

  branches_leq : {X : Type 0} (R : X → X → Type 0) (walk greater : ℕ → Walk D X) → ((k : ℕ) → WalkLeq d (OptionLeq R) (walk k) (greater k)) → (ks : List ℕ) → WalkLeq d (OptionLeq (AllZip (OptionLeq R))) (walk_branches walk ks) (walk_branches greater ks)
  branches_leq R walk greater each [] = record { ends = tt; calls = λ _. tt }
  branches_leq R walk greater each (k ∷ ks) =
      after_leq D d (OptionLeq R) (OptionLeq (AllZip (OptionLeq R))) (walk k) (greater k) _ _ (each k)
      (λ l o e. after_world_leq D d (AllZip (OptionLeq R)) (AllZip (OptionLeq R)) (walk_branches walk ks) (walk_branches greater ks) (λ os. quiet (with (Some (l ∷ os)))) (λ os. quiet (with (Some (o ∷ os)))) (branches_leq R walk greater each ks)
      (λ ls os p. record { ends = (e, p); calls = λ _. tt }))

  filter_leq : (filter : Filter) (names : ℕ) (low high : Option (List (AbsArg D))) → Matches (AllZip (ArgAbove D d)) high low → WalkLeq d Leq (quiet (filtered d filter names low)) (quiet (filtered d filter names high))
  filter_leq filter names low None h = record { ends = tt; calls = λ no. absurd no }
  filter_leq filter names None (Some g) h = absurd h
  filter_leq filter names (Some a) (Some g) h = record { ends = leq_option D d _ _ (filters filter names a g (zip_turned (ArgAbove D d) g a h)); calls = λ _. tt }

  module _ (answers greater : Answers D) (below : AnswersLeq d answers greater) where
    answer_leq : (c e : Cover D) → CallLeq d c e → (o : Option (Outcome D)) → greater e ≡ o → WalkLeq d Leq (ask answers (Some c)) (record { asked = e ∷ []; ends = option_map_or with o (uncovered e) })
    answer_leq c e h None same = record { ends = tt; calls = λ no. absurd no }
    answer_leq c e h (Some o) same =
        let s = below c e h o same in
        record { ends = subst (λ a. EndsLeq Leq (option_map_or with a (uncovered c)) (with o)) (sym s.is) (leq_option D d s.outs o s.leq); calls = λ _. (inl h, tt) }

    ask_leq : (hook : HookId) (at upper : Option ℕ) (low high : Option (Flows D)) → Matches (λ (p q : ℕ). p ≡ q) upper at → Matches (AllZip (FlowAbove D d)) high low → WalkLeq d Leq (ask answers (call_at hook at low)) (ask greater (call_at hook upper high))
    ask_leq hook at None low high p h = record { ends = tt; calls = λ no. absurd no }
    ask_leq hook at (Some q) low None p h = record { ends = tt; calls = λ no. absurd no }
    ask_leq hook None (Some q) low (Some b) p h = absurd p
    ask_leq hook (Some r) (Some q) None (Some b) p h = absurd h
    ask_leq hook (Some r) (Some q) (Some a) (Some b) p h =
        answer_leq (record { hook = hook; point = r; ins = a }) (record { hook = hook; point = q; ins = b }) (record { same_hook = refl; same_point = sym p; ins_leq = flows_above D d b a h }) _ refl

    module _ (names point : ℕ) where
      bones_leq : (bound : ℕ) (bones : List Bone) (env high : AbsEnv D) → EnvLeq env high → WalkLeq d (OptionLeq EnvLeq) (abstract_world d answers names point bound bones env) (abstract_world d greater names point bound bones high)
      bones_leq bound [] env high h = record { ends = h; calls = λ _. tt }
      bones_leq zero (bone ∷ bones) env high h = record { ends = tt; calls = λ no. absurd no }
      bones_leq (suc bound) (Bone.Apply filter args outs ∷ bones) env high h =
          after_world_leq D d (TupleLeq D d) EnvLeq _ _ _ _ (filter_leq filter names (args_at argument_in env args) (args_at argument_in high args) (args_related (FlowAbove D d) (ArgAbove D d) argument_in argument_in (arg_step D d) high env h args))
          (λ a b e. bones_leq bound bones _ _ (gain_leq outs env high a b h e))
      bones_leq (suc bound) (Bone.Call hook args target outs ∷ bones) env high h =
          after_world_leq D d (TupleLeq D d) EnvLeq _ _ _ _ (ask_leq hook (target_at point env target) (target_at point high target) (values_at env args) (values_at high args) (target_related (FlowAbove D d) point high env h target) (values_related (FlowAbove D d) high env h args))
          (λ a b e. bones_leq bound bones _ _ (gain_leq outs env high a b h e))
      bones_leq (suc bound) (Bone.Either counts exports ∷ bones) env high h =
          after_world_leq D d (AllZip (OptionLeq EnvLeq)) EnvLeq _ _ _ _
          (branches_leq EnvLeq _ _ (λ k. bones_leq bound (branch counts k bones) env high h) (branch_places 0 counts))
          (λ lows highs p. after_world_leq D d (TupleLeq D d) EnvLeq (quiet (join_exports d exports None lows)) (quiet (join_exports d exports None highs)) _ _
          (record { ends = exports_leq exports lows highs None None p tt; calls = λ _. tt })
          (λ a b e. bones_leq bound (after_branches counts bones) _ _ (gain_leq exports env high a b h e)))

      rule_leq : (low high : Flows D) → tuple_leq d low high ≡ true → (r : TermNode × Rule) → WalkLeq d Leq (walk_of d answers names point low r) (walk_of d greater names point high r)
      rule_leq low high h r =
          after_world_leq D d EnvLeq (TupleLeq D d) _ _ _ _ (bones_leq (length r.1.bones) r.1.bones _ _ (start_related (FlowAbove D d) r.1 r.0 high low (above_flows D d high low h)))
          (λ env upper k. there_leq D d (values_at env r.1.outputs) (values_at upper r.1.outputs) (values_related (FlowAbove D d) upper env k r.1.outputs))

      found_leq : (low high : Flows D) → tuple_leq d low high ≡ true → (r : Option (TermNode × Rule)) → WalkLeq d Leq (option_map_or (walk_of d answers names point low) r (quiet ill)) (option_map_or (walk_of d greater names point high) r (quiet ill))
      found_leq low high h None = record { ends = tt; calls = λ no. absurd no }
      found_leq low high h (Some r) = rule_leq low high h r

    -- the walks of calls of one hook and point
    walk_leq : (s : Setting) (c e : Cover D) → CallLeq d c e → WalkLeq d Leq (abstract_walk d answers s c) (abstract_walk d greater s e)
    walk_leq s c e h =
        subst (λ (p : ℕ). WalkLeq d Leq (option_map_or (walk_of d answers s.names p c.ins) (rule_at s c.hook p) (quiet ill)) (abstract_walk d greater s e)) (sym h.same_point)
        (subst (λ (k : HookId). WalkLeq d Leq (option_map_or (walk_of d answers s.names e.point c.ins) (rule_at s k e.point) (quiet ill)) (abstract_walk d greater s e)) (sym h.same_hook)
        (found_leq s.names e.point c.ins e.ins h.ins_leq (rule_at s e.hook e.point)))

ends_more : {D X : Type 0} (P Q : Option X → Option X → Type 0) → ((l o : Option X) → P l o → Q l o) → (e f : Ends D X) → EndsLeq P e f → EndsLeq Q e f
ends_more P Q step e (uncovered c) h = tt
ends_more P Q step e ill h = tt
ends_more P Q step (uncovered c) (with o) h = absurd h
ends_more P Q step ill (with o) h = absurd h
ends_more P Q step (with l) (with o) h = step l o h

pub walks_are_monotone : (D : Type 0) (d : Domain D) → TupleLaws d → FiltersAreMonotone d → WalksAreMonotone d
walks_are_monotone D d tuples filters s answers greater below c e h =
    let w = walk_leq D d tuples filters answers greater below s c e h in
    record { ends = ends_more (Leq D d tuples filters) (λ l o. outcome_leq d l o ≡ true) (option_leq D d) _ _ w.ends; calls = w.calls }
