-- The walk of a key, answered by an assignment that satisfies the lines of the key, lies below the key's positions.
use Rattle.std.proofs.Common.{◌≡◌, ℕ, zero, suc, ◌+◌, ◌≤◌, Bool, true, ◌&&◌, List, [], ◌∷◌, ◌++◌, length, sum, flat_map, Option, Some, None, Ok, refl, sym, ◌∙◌, subst, arith}
use Rattle.std.specs.Prelude.{slice_get}
use Rattle.std.specs.List.{AllByRecursion, AllZip, list_all}
use Rattle.std.specs.Option.{option_map_or, option_and_then}
use Rattle.std.proofs.lemmas.Bool.{and_parts, cond_both, false≢true}
use lib.Pointwise.{pointwise_long}
use Rattle.sk_def.specs.declared.ids.HookId.{HookId}
use Rattle.sk_def.specs.declared.ids.SortId.{SortId}
use Rattle.sk_def.specs.declared.ids.Var.{Var}
use Rattle.sk_def.specs.declared.filter.Filter.{Filter}
use Rattle.sk_def.specs.declared.bone.Target.{Target}
use Rattle.sk_def.specs.declared.bone.Bone.{Bone}
use Rattle.sk_def.specs.declared.bone.Bone.TheVariants.{Apply, Call, Either}
use Rattle.sk_def.specs.declared.def.Rule.{Rule}
use Rattle.sk_def.specs.declared.def.Hook.{Hook}
use Rattle.sk_def.specs.declared.def.Def.{Def}
use Rattle.sk_def.specs.Layout.{branch, branch_places, first_of_branch, after_branches}
use Rattle.sk_def.specs.Signatures.{results}
use Rattle.sk_def.specs.Sorts.{Sorts, outputs_of}
use Rattle.sk_walk.specs.Walks.{Walks, WalksBranches, no_bone, filter_goes, hook_goes, merge_goes, no_branch, branch_goes}
use Rattle.sk_walk.specs.Sorted.{sort_checks}
use Rattle.sk_sort.proofs.Walked.{shorter-drop, shorter-branch}
use Rattle.sk_term.specs.declared.node.TermNode.{TermNode}
use Rattle.sk_deriv.specs.Env.{all_of, args_at, values_at, target_at, gain, start_of}
use Rattle.sk_lattice.specs.declared.flow.AbsFlow.{AbsFlow}
use Rattle.sk_lattice.specs.Domain.{Domain}
use Rattle.sk_lattice.specs.Order.{flow_leq, tuple_leq, tuples_fit}
use Rattle.sk_lattice.specs.Merge.{Join, tuple_merge}
use Rattle.sk_lattice.specs.Laws.{TupleLaws}
use Rattle.sk_absfilter.specs.declared.arg.AbsArg.{AbsArg}
use Rattle.sk_absfilter.specs.Abstract.{Outcome, abstract_result}
use Rattle.sk_absfilter.specs.Laws.{ArgLeq, outcome_leq, FiltersAreMonotone}
use Rattle.sk_table.specs.declared.triple.Cover.{Cover}
use Rattle.sk_abswalk.specs.Walk.{AbsEnv, Flows, argument_in, Ends, uncovered, ill, with, Walk, quiet, go_on, after, in_world, after_world, there, Answers, call_at, ask, filtered, walk_branches, join_to, join_exports, abstract_world, walk_of}
use Rattle.sk_constr.specs.declared.line.Operand.{Operand}
use Rattle.sk_constr.specs.declared.line.Part.{Part}
use Rattle.sk_constr.specs.declared.line.Line.{Line}
use Rattle.sk_constr.specs.Operands.{PlaceEnv, places, operands_at}
use Rattle.sk_constr.specs.Lines.{env_after, last_position, line_at, lines_of}
use Rattle.sk_constr.specs.Keys.{first_env, lines_of_rule}
use Rattle.sk_solve.specs.declared.assignment.Solved.{Solved}
use Rattle.sk_solve.specs.Solves.{value_at, argument_at, operand_value, asked, inputs_at, outputs_at, line_holds}
use Rattle.sk_agree.proofs.Relations.{zip_more, zip_from_test, test_from_zip, list_all_parts, Matches, IfThere, all_of_long}
use Rattle.sk_agree.proofs.Readings.{ArgsBy, AtPlace, Reads, target_related, args_read, values_read, reads_gain, reads_start}
use Rattle.sk_agree.proofs.Lengths.{filter_long}
use Rattle.sk_rounds.proofs.Lists.{all_append}

pub no_more : (n : ℕ) → n ≡ n + 0
no_more n = omega arith

-- Walks of which each call and what is there at the end have a property.

-- a fact on the end of a walk that got there
abbrev pub Holds : {D X : Type 0} → (Option X → Type 0) → Ends D X → Type 0
Holds P (uncovered c) = Unit {0}
Holds P ill = Unit {0}
Holds P (with o) = P o

pub record WalkHas {D X : Type 0} (Q : Cover D → Type 0) (R : X → Type 0) (w : Walk D X) : Type 0 where
  pub ends : Holds (IfThere R) w.ends
  pub calls : AllByRecursion Q w.asked

module _ {D : Type 0} (Q : Cover D → Type 0) where
  go_on_has : {X Y : Type 0} (R : X → Type 0) (S : Y → Type 0) (asked : List (Cover D)) (ends : Ends D X) (next : Option X → Walk D Y) → Holds (IfThere R) ends → AllByRecursion Q asked → ((o : Option X) → IfThere R o → WalkHas Q S (next o)) → WalkHas Q S (go_on asked ends next)
  go_on_has R S asked (uncovered c) next h k step = record { ends = tt; calls = k }
  go_on_has R S asked ill next h k step = record { ends = tt; calls = k }
  go_on_has R S asked (with o) next h k step = let s = step o h in record { ends = s.ends; calls = all_append Q asked (next o).asked k s.calls }

  pub after_has : {X Y : Type 0} (R : X → Type 0) (S : Y → Type 0) (w : Walk D X) (next : Option X → Walk D Y) → WalkHas Q R w → ((o : Option X) → IfThere R o → WalkHas Q S (next o)) → WalkHas Q S (after w next)
  after_has R S w next h step = go_on_has R S w.asked w.ends next h.ends h.calls step

  pub world_has : {X Y : Type 0} (R : X → Type 0) (S : Y → Type 0) (w : Walk D X) (next : X → Walk D Y) → WalkHas Q R w → ((x : X) → R x → WalkHas Q S (next x)) → WalkHas Q S (after_world w next)
  world_has {X} {Y} R S w next h step = after_has R S w (in_world next) h go
    where
      go : (o : Option X) → IfThere R o → WalkHas Q S (in_world next o)
      go None k = record { ends = tt; calls = tt }
      go (Some x) k = step x k

-- what a line asks for, where the position before it and its operands are there
pub asked_there : {D X : Type 0} (read : Operand → Option X) (before : Outcome D) (operands : List Operand) (test : List X → Bool) (t : Flows D) (xs : List X) → before ≡ Some t → all_of read operands ≡ Some xs → asked read before operands test ≡ true → test xs ≡ true
asked_there {D} read before operands test t xs e f h =
    let there : option_map_or test (all_of read operands) true ≡ true = subst (λ (o : Outcome D). option_map_or test (option_and_then (λ (t : Flows D). all_of read operands) o) true ≡ true) e h in
    subst (λ o. option_map_or test o true ≡ true) f there

module _ (D : Type 0) (d : Domain D) (tuples : TupleLaws d) where
  abbrev pub Low : AbsFlow D → AbsFlow D → Type 0
  Low x y = flow_leq d x y ≡ true

  args_low : (args highs : List (AbsArg D)) → AllZip (ArgsBy Low) args highs → AllZip (ArgLeq d) args highs
  args_low args highs h = zip_more (ArgsBy Low) (ArgLeq d) one args highs h
    where
      one : (x y : AbsArg D) → ArgsBy Low x y → ArgLeq d x y
      one (AbsArg.Number z) (AbsArg.Number y) h = h
      one (AbsArg.Name n) (AbsArg.Name m) h = h
      one (AbsArg.Flow a) (AbsArg.Flow b) h = h
      one _ _ h = absurd h

  pub outcome_trans : (x y z : Outcome D) → outcome_leq d x y ≡ true → outcome_leq d y z ≡ true → outcome_leq d x z ≡ true
  outcome_trans None y z h k = refl
  outcome_trans (Some a) None z h k = absurd (false≢true h)
  outcome_trans (Some a) (Some b) None h k = absurd (false≢true k)
  outcome_trans (Some a) (Some b) (Some c) h k = tuples.leq_trans a b c h k

  pub outcome_refl : (x : Outcome D) → outcome_leq d x x ≡ true
  outcome_refl None = refl
  outcome_refl (Some a) = tuples.leq_refl a

-- Below the positions of one key's entry in an assignment.
module _ (D : Type 0) (d : Domain D) (tuples : TupleLaws d) (filters : FiltersAreMonotone d) (def : Def) (names : ℕ) (a : List (Solved D)) (sv : Solved D)
    (outs_long : (id : HookId) (point : ℕ) (outs : Flows D) → outputs_at a id point ≡ Some outs → length outs ≡ length (outputs_of def id))
    (answers : Answers D) (answers_low : (c : Cover D) (o : Outcome D) → answers c ≡ Some o → outcome_leq d o (outputs_at a c.hook c.point) ≡ true) where
  abbrev P : List (Outcome D)
  P = sv.positions

  abbrev pub Lower : AbsEnv D → PlaceEnv → Type 0
  Lower = Reads (Low D d tuples) P

  abbrev pub CallBelow : Cover D → Type 0
  CallBelow c = outcome_leq d (Some c.ins) (inputs_at a c.hook c.point) ≡ true

  abbrev pub Filled : ℕ → Type 0
  Filled n = (t : Flows D) × (value_at P n ≡ Some t)

  -- so many values that lie below a position
  pub record IsBelow (n count : ℕ) (flows : Flows D) : Type 0 where
    pub highs : Flows D
    pub is : value_at P n ≡ Some highs
    pub leq : tuple_leq d flows highs ≡ true
    pub long : length flows ≡ count

  is_below : (n count : ℕ) (flows : Flows D) → length flows ≡ count → outcome_leq d (Some flows) (value_at P n) ≡ true → IsBelow n count flows
  is_below n count flows long h = at (value_at P n) refl h
    where
      at : (o : Outcome D) → value_at P n ≡ o → outcome_leq d (Some flows) o ≡ true → IsBelow n count flows
      at None e h = absurd (false≢true h)
      at (Some highs) e h = record { highs = highs; is = e; leq = h; long = long }

  outcome_below : (n count : ℕ) (o : Outcome D) → IfThere (λ (l : Flows D). length l ≡ count) o → outcome_leq d o (value_at P n) ≡ true → IfThere (IsBelow n count) o
  outcome_below n count None long h = tt
  outcome_below n count (Some flows) long h = is_below n count flows long h

  pub lower_gains : (env : AbsEnv D) (other : PlaceEnv) (n : ℕ) (vars : List Var) (flows : Flows D) → Lower env other → IsBelow n (length vars) flows → Lower (gain env vars flows) (gain other vars (places n vars))
  lower_gains env other n vars flows h b = reads_gain (Low D d tuples) P env other n vars flows b.highs h b.is (zip_from_test (flow_leq d) flows b.highs b.leq) b.long

  -- the result of a filter
  pub filter_low : (filter : Filter) (n from : ℕ) (args : List Var) (env : AbsEnv D) (other : PlaceEnv) → Lower env other → Filled from → line_holds d names a sv (line_at from (Part.Filter n filter (operands_at other args))) ≡ true →
      WalkHas CallBelow (IsBelow n (length (results filter))) (quiet (filtered d filter names (args_at argument_in env args)))
  filter_low filter n from args env other low filled h = at (args_at argument_in env args) (all_of (argument_at P) (operands_at other args)) refl (args_read (Low D d tuples) P env other low args)
    where
      at : (o : Option (List (AbsArg D))) (p : Option (List (AbsArg D))) → all_of (argument_at P) (operands_at other args) ≡ p → Matches (AllZip (ArgsBy (Low D d tuples))) o p → WalkHas CallBelow (IsBelow n (length (results filter))) (quiet (filtered d filter names o))
      at None p e m = record { ends = tt; calls = tt }
      at (Some given) None e m = absurd m
      at (Some given) (Some highs) e m =
          let below = filters filter names given highs (args_low D d tuples given highs m) in
          let holds : outcome_leq d (abstract_result d filter names highs) (value_at P n) ≡ true =
          asked_there (argument_at P) (value_at P from) (operands_at other args) (λ xs. outcome_leq d (abstract_result d filter names xs) (value_at P n)) filled.0 highs filled.1 e h in
          record {
            ends = outcome_below n (length (results filter)) (abstract_result d filter names given) (filter_long D d names filter given) (outcome_trans D d tuples (abstract_result d filter names given) (abstract_result d filter names highs) (value_at P n) below holds);
            calls = tt;
          }

  -- an answer has as many values as the hook has outputs, and lies below what the outputs of its key lie below
  answer_low : (id : HookId) (point n : ℕ) (ins : Flows D) → outcome_leq d (outputs_at a id point) (value_at P n) ≡ true → (o : Option (Outcome D)) → answers (record { hook = id; point = point; ins = ins }) ≡ o →
      Holds (IfThere (IsBelow n (length (outputs_of def id)))) (option_map_or with o (uncovered (record { hook = id; point = point; ins = ins })))
  answer_low id point n ins h None e = tt
  answer_low id point n ins h (Some o) e =
      let low = answers_low (record { hook = id; point = point; ins = ins }) o e in
      outcome_below n (length (outputs_of def id)) o (long o (outputs_at a id point) refl low) (outcome_trans D d tuples o (outputs_at a id point) (value_at P n) low h)
    where
      long : (o highs : Outcome D) → outputs_at a id point ≡ highs → outcome_leq d o highs ≡ true → IfThere (λ (l : Flows D). length l ≡ length (outputs_of def id)) o
      long None highs e h = tt
      long (Some outs) None e h = absurd (false≢true h)
      long (Some outs) (Some highs) e h = pointwise_long (flow_leq d) outs highs h ∙ outs_long id point highs e

  -- the answer to a call
  pub call_low : (id : HookId) (target : Target) (point n from : ℕ) (args : List Var) (env : AbsEnv D) (other : PlaceEnv) → Lower env other → Filled from →
      list_all (line_holds d names a sv) (option_map_or (λ at. line_at from (Part.Call n id at (operands_at other args)) ∷ []) (target_at point other target) []) ≡ true →
      WalkHas CallBelow (IsBelow n (length (outputs_of def id))) (ask answers (call_at id (target_at point env target) (values_at env args)))
  call_low id target point n from args env other low filled h =
      at (target_at point env target) (target_at point other target) (target_related (AtPlace (Low D d tuples) P) point env other low target) h (values_at env args) (all_of (operand_value P) (operands_at other args)) refl (values_read (Low D d tuples) P env other low args)
    where
      at : (t u : Option ℕ) → Matches (λ (p q : ℕ). p ≡ q) t u → list_all (line_holds d names a sv) (option_map_or (λ at. line_at from (Part.Call n id at (operands_at other args)) ∷ []) u []) ≡ true →
          (o p : Outcome D) → all_of (operand_value P) (operands_at other args) ≡ p → Matches (AllZip (Low D d tuples)) o p → WalkHas CallBelow (IsBelow n (length (outputs_of def id))) (ask answers (call_at id t o))
      at None u m h o p e k = record { ends = tt; calls = tt }
      at (Some t) None m h o p e k = absurd m
      at (Some t) (Some u) m h None p e k = record { ends = tt; calls = tt }
      at (Some t) (Some u) m h (Some ins) None e k = absurd k
      at (Some t) (Some u) m h (Some ins) (Some highs) e k =
          let line : line_holds d names a sv (line_at from (Part.Call n id t (operands_at other args))) ≡ true =
          subst (λ x. line_holds d names a sv (line_at from (Part.Call n id x (operands_at other args))) ≡ true) (sym m) (and_parts _ _ h).0 in
          let both = and_parts (outcome_leq d (Some highs) (inputs_at a id t)) (outcome_leq d (outputs_at a id t) (value_at P n))
          (asked_there (operand_value P) (value_at P from) (operands_at other args) (λ xs. outcome_leq d (Some xs) (inputs_at a id t) && outcome_leq d (outputs_at a id t) (value_at P n)) filled.0 highs filled.1 e line) in
          record {
            ends = answer_low id t n ins both.1 (answers (record { hook = id; point = t; ins = ins })) refl;
            calls = (outcome_trans D d tuples (Some ins) (Some highs) (inputs_at a id t) (test_from_zip (flow_leq d) ins highs k) both.0, tt);
          }

  -- the values of variables, which a line puts below an outcome
  values_low : (from : ℕ) (vars : List Var) (o : Outcome D) (env : AbsEnv D) (other : PlaceEnv) → Lower env other → Filled from → asked (operand_value P) (value_at P from) (operands_at other vars) (λ values. outcome_leq d (Some values) o) ≡ true →
      IfThere (λ vs. outcome_leq d (Some vs) o ≡ true) (values_at env vars)
  values_low from vars o env other low filled h = at (values_at env vars) (all_of (operand_value P) (operands_at other vars)) refl (values_read (Low D d tuples) P env other low vars)
    where
      at : (x p : Outcome D) → all_of (operand_value P) (operands_at other vars) ≡ p → Matches (AllZip (Low D d tuples)) x p → IfThere (λ vs. outcome_leq d (Some vs) o ≡ true) x
      at None p e k = tt
      at (Some vs) None e k = absurd k
      at (Some vs) (Some highs) e k =
          outcome_trans D d tuples (Some vs) (Some highs) o (test_from_zip (flow_leq d) vs highs k) (asked_there (operand_value P) (value_at P from) (operands_at other vars) (λ values. outcome_leq d (Some values) o) filled.0 highs filled.1 e h)

  -- Joins.

  -- the exported values at the end of a branch
  abbrev pub Exported : ℕ → List Var → AbsEnv D → Type 0
  Exported n exports env = IfThere (IsBelow n (length exports)) (values_at env exports)

  pub exported : (n from : ℕ) (exports : List Var) (env : AbsEnv D) (other : PlaceEnv) → Lower env other → Filled from → line_holds d names a sv (line_at from (Part.Join n (operands_at other exports))) ≡ true → Exported n exports env
  exported n from exports env other low filled h = at (values_at env exports) refl (values_low from exports (value_at P n) env other low filled h)
    where
      at : (o : Outcome D) → values_at env exports ≡ o → IfThere (λ vs. outcome_leq d (Some vs) (value_at P n) ≡ true) o → IfThere (IsBelow n (length exports)) o
      at None e k = tt
      at (Some vs) e k = is_below n (length exports) vs (all_of_long _ exports vs e) k

  join_below : (n count : ℕ) (joined : Outcome D) (b : Flows D) → IfThere (IsBelow n count) joined → IsBelow n count b → IfThere (IsBelow n count) (join_to d joined b)
  join_below n count None b h k = k
  join_below n count (Some x) b h k =
      cond_both (tuples_fit x b) (Some (tuple_merge d Join x b)) None (IfThere (IsBelow n count)) (λ _. at h.highs h.is h.leq k.highs k.is k.leq) (λ _. tt)
    where
      at : (xs : Flows D) → value_at P n ≡ Some xs → tuple_leq d x xs ≡ true → (ys : Flows D) → value_at P n ≡ Some ys → tuple_leq d b ys ≡ true → IsBelow n count (tuple_merge d Join x b)
      at xs e p ys f q =
          let same : xs ≡ ys = cc in
          let leq : tuple_leq d (tuple_merge d Join x b) xs ≡ true = tuples.join_least x b xs p (subst (λ l. tuple_leq d b l ≡ true) (sym same) q) in
          record { highs = xs; is = e; leq = leq; long = pointwise_long (flow_leq d) (tuple_merge d Join x b) xs leq ∙ sym (pointwise_long (flow_leq d) x xs p) ∙ h.long }

  pub joins_below : (n : ℕ) (exports : List Var) (joined : Outcome D) (worlds : List (Option (AbsEnv D))) → IfThere (IsBelow n (length exports)) joined → AllByRecursion (IfThere (Exported n exports)) worlds → Holds (IfThere (IsBelow n (length exports))) (join_exports d exports joined worlds)
  joins_below n exports joined [] h k = h
  joins_below n exports joined (None ∷ worlds) h k = joins_below n exports joined worlds h k.1
  joins_below n exports joined (Some env ∷ worlds) h k =
      more (option_and_then (join_to d joined) (values_at env exports)) (joining (values_at env exports) k.0) (λ m p. joins_below n exports (Some m) worlds p k.1)
    where
      joining : (o : Outcome D) → IfThere (IsBelow n (length exports)) o → IfThere (IsBelow n (length exports)) (option_and_then (join_to d joined) o)
      joining None p = tt
      joining (Some b) p = join_below n (length exports) joined b h p

      more : (o : Outcome D) → IfThere (IsBelow n (length exports)) o → ((m : Flows D) → IsBelow n (length exports) m → Holds (IfThere (IsBelow n (length exports))) (join_exports d exports (Some m) worlds)) →
          Holds (IfThere (IsBelow n (length exports))) (option_map_or (λ more. join_exports d exports (Some more) worlds) o ill)
      more None p step = tt
      more (Some m) p step = step m p

  walk_more : {X : Type 0} (R S : X → Type 0) → ((x : X) → R x → S x) → (w : Walk D X) → WalkHas CallBelow R w → WalkHas CallBelow S w
  walk_more {X} R S step w h = record { ends = at w.ends h.ends; calls = h.calls }
    where
      at : (ends : Ends D X) → Holds (IfThere R) ends → Holds (IfThere S) ends
      at (uncovered c) h = tt
      at ill h = tt
      at (with None) h = tt
      at (with (Some x)) h = step x h

  pub outputs_long : (id : HookId) (hook : Hook) → slice_get def.hooks id.0 ≡ Some hook → length (outputs_of def id) ≡ length hook.outputs
  outputs_long id hook e = rw e refl

  found : {X : Type 0} (R : X → Type 0) (o : Option X) → IfThere R o → Holds (IfThere R) (there {D = D} o)
  found R None h = tt
  found R (Some x) h = h

  -- Bones.

  module _ (own : SortId) (point : ℕ) where
    abbrev world : ℕ → List Bone → AbsEnv D → Walk D (AbsEnv D)
    world = abstract_world d answers names point

    -- what is so after bones
    abbrev pub After : (bound first from : ℕ) → PlaceEnv → List Bone → AbsEnv D → Type 0
    After bound first from other bones env = Lower env (env_after bound first other bones) × Filled (last_position bound first from bones)

    -- the lines of a branch
    abbrev pub branch_lines : (bound bone from : ℕ) → PlaceEnv → List ℕ → List Var → List Bone → ℕ → List Line
    branch_lines bound bone from other counts exports bones k =
        lines_of point bound (first_of_branch bone counts k) from other (branch counts k bones)
        ++ line_at (last_position bound (first_of_branch bone counts k) from (branch counts k bones))
        (Part.Join bone (operands_at (env_after bound (first_of_branch bone counts k) other (branch counts k bones)) exports)) ∷ []

    mutual
      pub bones_low : (bound : ℕ) {first : ℕ} {bones : List Bone} {u t : Unit {0}} {g h : Sorts} (env : AbsEnv D) (other : PlaceEnv) (from : ℕ) → length bones ≤ bound → Lower env other → Filled from →
          list_all (line_holds d names a sv) (lines_of point bound first from other bones) ≡ true → Walks (sort_checks def own) first bones u g t (Ok h) → WalkHas CallBelow (After bound first from other bones) (world bound bones env)
      bones_low bound env other from short low filled lines no_bone = record { ends = (low, filled); calls = tt }
      bones_low zero env other from short low filled lines (filter_goes p rest) = absurd (omega arith)
      bones_low zero env other from short low filled lines (hook_goes p rest) = absurd (omega arith)
      bones_low zero env other from short low filled lines (merge_goes b p rest) = absurd (omega arith)
      bones_low (suc bound) env other from short low filled lines (filter_goes {first} {filter} {args} {outs} {rest = bones} p rest) =
          let here = and_parts (line_holds d names a sv (line_at from (Part.Filter first filter (operands_at other args)))) _ lines in
          let counted : length (results filter) ≡ length outs = sym p.0.outs_counted in
          let next = gain other outs (places first outs) in
          subst (λ k. WalkHas CallBelow (λ e. Lower e (env_after bound k next bones) × Filled (last_position bound k first bones)) (world (suc bound) (Apply filter args outs ∷ bones) env)) (no_more (first + 1))
          (world_has CallBelow (IsBelow first (length outs)) (After bound (first + 1) first next bones) (quiet (filtered d filter names (args_at argument_in env args))) (λ flows. world bound bones (gain env outs flows))
          (subst (λ n. WalkHas CallBelow (IsBelow first n) (quiet (filtered d filter names (args_at argument_in env args)))) counted (filter_low filter first from args env other low filled here.0))
          (λ flows b. bones_low bound (gain env outs flows) next first (omega arith) (lower_gains env other first outs flows low b) (b.highs, b.is) here.1 rest))
      bones_low (suc bound) env other from short low filled lines (hook_goes {first} {hook = id} {args} {target} {outs} {rest = bones} p rest) =
          let call = option_map_or (λ at. line_at from (Part.Call first id at (operands_at other args)) ∷ []) (target_at point other target) [] in
          let next = gain other outs (places first outs) in
          let here = list_all_parts (line_holds d names a sv) call (lines_of point bound (first + 1) first next bones) lines in
          let counted : length (outputs_of def id) ≡ length outs = outputs_long id p.0.hook p.0.declared ∙ sym p.0.outs_counted in
          subst (λ k. WalkHas CallBelow (λ e. Lower e (env_after bound k next bones) × Filled (last_position bound k first bones)) (world (suc bound) (Call id args target outs ∷ bones) env)) (no_more (first + 1))
          (world_has CallBelow (IsBelow first (length outs)) (After bound (first + 1) first next bones) (ask answers (call_at id (target_at point env target) (values_at env args))) (λ flows. world bound bones (gain env outs flows))
          (subst (λ n. WalkHas CallBelow (IsBelow first n) (ask answers (call_at id (target_at point env target) (values_at env args)))) counted (call_low id target point first from args env other low filled here.0))
          (λ flows b. bones_low bound (gain env outs flows) next first (omega arith) (lower_gains env other first outs flows low b) (b.highs, b.is) here.1 rest))
      bones_low (suc bound) env other from short low filled lines (merge_goes {first} {counts} {exports} {rest = bones} inside p rest) =
          let next = gain other exports (places first exports) in
          let here = list_all_parts (line_holds d names a sv) (flat_map (branch_lines bound first from other counts exports bones) (branch_places 0 counts)) (lines_of point bound (first + 1 + sum counts) first next (after_branches counts bones)) lines in
          world_has CallBelow (AllByRecursion (IfThere (Exported first exports))) (After (suc bound) first from other (Either counts exports ∷ bones)) (walk_branches (λ c. world bound (branch counts c bones) env) (branch_places 0 counts)) _
          (branches_low bound exports env other from (omega arith) low filled here.0 inside)
          (λ worlds k. world_has CallBelow (IsBelow first (length exports)) (After (suc bound) first from other (Either counts exports ∷ bones)) (quiet (join_exports d exports None worlds)) (λ flows. world bound (after_branches counts bones) (gain env exports flows))
          (record { ends = joins_below first exports None worlds tt k; calls = tt })
          (λ flows b. bones_low bound (gain env exports flows) next first (shorter-drop bound (sum counts) bones (omega arith)) (lower_gains env other first exports flows low b) (b.highs, b.is) here.1 rest))

      branches_low : (bound : ℕ) {bone : ℕ} {counts ks : List ℕ} {bones : List Bone} {u t : Unit {0}} {g : Sorts} {ends : List Sorts} (exports : List Var) (env : AbsEnv D) (other : PlaceEnv) (from : ℕ) → length bones ≤ bound → Lower env other → Filled from →
          list_all (line_holds d names a sv) (flat_map (branch_lines bound bone from other counts exports bones) ks) ≡ true → WalksBranches (sort_checks def own) bone counts bones ks g u t (Ok ends) →
          WalkHas CallBelow (AllByRecursion (IfThere (Exported bone exports))) (walk_branches (λ c. world bound (branch counts c bones) env) ks)
      branches_low bound exports env other from short low filled lines no_branch = record { ends = tt; calls = tt }
      branches_low bound exports env other from short low filled lines (branch_goes {bone} {k = c} {counts} {places = ks} {bones} p inside rest) =
          let all = list_all_parts (line_holds d names a sv) (branch_lines bound bone from other counts exports bones c) (flat_map (branch_lines bound bone from other counts exports bones) ks) lines in
          let first = first_of_branch bone counts c in
          let here = list_all_parts (line_holds d names a sv) (lines_of point bound first from other (branch counts c bones)) (line_at (last_position bound first from (branch counts c bones)) (Part.Join bone (operands_at (env_after bound first other (branch counts c bones)) exports)) ∷ []) all.0 in
          let line = (and_parts (line_holds d names a sv (line_at (last_position bound first from (branch counts c bones)) (Part.Join bone (operands_at (env_after bound first other (branch counts c bones)) exports)))) true here.1).0 in
          after_has CallBelow (Exported bone exports) (AllByRecursion (IfThere (Exported bone exports))) (world bound (branch counts c bones) env) _
          (walk_more (After bound first from other (branch counts c bones)) (Exported bone exports) (λ e k. exported bone (last_position bound first from (branch counts c bones)) exports e (env_after bound first other (branch counts c bones)) k.0 k.1 line)
          (world bound (branch counts c bones) env) (bones_low bound env other from (shorter-branch bound c counts bones short) low filled here.0 inside))
          (λ o f. world_has CallBelow (AllByRecursion (IfThere (Exported bone exports))) (AllByRecursion (IfThere (Exported bone exports))) (walk_branches (λ c. world bound (branch counts c bones) env) ks) (λ os. quiet (with (Some (o ∷ os))))
          (branches_low bound exports env other from short low filled all.1 rest) (λ os l. record { ends = (f, l); calls = tt }))

    -- the walk of the rule from the inputs
    pub rule_low : (rule : Rule) (node : TermNode) (ins : Flows D) {u t : Unit {0}} {g h : Sorts} → value_at P 0 ≡ Some ins → length ins ≡ length rule.inputs → list_all (line_holds d names a sv) (lines_of_rule point rule node) ≡ true →
        Walks (sort_checks def own) 1 rule.bones u g t (Ok h) → WalkHas CallBelow (λ vs. outcome_leq d (Some vs) sv.outs ≡ true) (walk_of d answers names point ins (node, rule))
    rule_low rule node ins is long lines walks =
        let size = length rule.bones in
        let start = first_env rule node in
        let last = last_position size 1 0 rule.bones in
        let final = env_after size 1 start rule.bones in
        let all = list_all_parts (line_holds d names a sv) (lines_of point size 1 0 start rule.bones) (line_at last (Part.End (operands_at final rule.outputs)) ∷ []) lines in
        let line = (and_parts (line_holds d names a sv (line_at last (Part.End (operands_at final rule.outputs)))) true all.1).0 in
        world_has CallBelow (After size 1 0 start rule.bones) (λ vs. outcome_leq d (Some vs) sv.outs ≡ true) (world size rule.bones (start_of rule node ins)) (λ env. quiet (there (values_at env rule.outputs)))
        (bones_low size (start_of rule node ins) start 0 (omega arith) (reads_start (Low D d tuples) P rule node ins ins is (zip_from_test (flow_leq d) ins ins (tuples.leq_refl ins)) long) (ins, is) all.0 walks)
        (λ env k. record { ends = found (λ vs. outcome_leq d (Some vs) sv.outs ≡ true) (values_at env rule.outputs) (values_low last rule.outputs sv.outs env final k.0 k.1 line); calls = tt })
