-- The outcomes of a walk, as the positions of its key, satisfy the key's lines.
use Rattle.std.proofs.Common.{◌≡◌, ℕ, suc, Bool, true, List, [], ◌∷◌, length, Option, Some, None, refl, sym, ◌∙◌, ap, subst}
use Rattle.std.specs.List.{AllByRecursion, AllZip}
use Rattle.std.specs.Option.{option_map_or, option_and_then}
use Rattle.std.proofs.lemmas.Bool.{cond_both}
use Rattle.std.proofs.lemmas.Option.{none-some, same_Some}
use Rattle.sk_def.specs.declared.ids.Var.{Var}
use Rattle.sk_def.specs.declared.sorts.VarSort.{VarSort}
use Rattle.sk_def.specs.declared.filter.Filter.{Filter}
use Rattle.sk_def.specs.Sorts.{Sorts}
use Rattle.sk_deriv.specs.Env.{all_of, values_at}
use Rattle.sk_lattice.specs.declared.flow.AbsFlow.{AbsFlow}
use Rattle.sk_lattice.specs.Domain.{Domain}
use Rattle.sk_lattice.specs.Order.{tuple_leq, tuples_fit}
use Rattle.sk_lattice.specs.Merge.{Join, tuple_merge}
use Rattle.sk_lattice.specs.Laws.{TupleLaws}
use Rattle.sk_lattice.specs.Shapes.{ShapeLaws}
use Rattle.sk_absfilter.specs.declared.arg.AbsArg.{AbsArg}
use Rattle.sk_absfilter.specs.Abstract.{Outcome, abstract_result}
use Rattle.sk_absfilter.specs.Laws.{outcome_leq}
use Rattle.sk_table.specs.declared.triple.Cover.{Cover}
use Rattle.sk_abswalk.specs.Walk.{AbsEnv, Flows, ill, Answers, filtered, join_to, join_exports}
use Rattle.sk_abswalk.specs.Order.{GotThere}
use Rattle.sk_constr.specs.declared.line.Operand.{Operand}
use Rattle.sk_constr.specs.Operands.{PlaceEnv}
use Rattle.sk_solve.specs.declared.assignment.Solved.{Solved}
use Rattle.sk_solve.specs.Solves.{asked, inputs_at, outputs_at}
use Rattle.sk_agree.proofs.Relations.{zip_more, same_from_zip, Matches, IfThere}
use Rattle.sk_agree.proofs.Readings.{ArgsBy, Reads}
use Rattle.sk_agree.proofs.Below.{outcome_refl, outcome_trans}
use Rattle.sk_agree.proofs.SortedEnvs.{EnvFits, FlowsFit, merge_fits}
use Rattle.sk_agree.proofs.Spots.{end_of}

pub zip_long : {A B : Type 0} (R : A → B → Type 0) (xs : List A) (ys : List B) → AllZip R xs ys → length ys ≡ length xs
zip_long R [] [] h = refl
zip_long R [] (y ∷ ys) h = absurd h
zip_long R (x ∷ xs) [] h = absurd h
zip_long R (x ∷ xs) (y ∷ ys) h = ap suc (zip_long R xs ys h.1)

-- What lines ask for.

pub asked_gone : {D X : Type 0} (read : Operand → Option X) (before : Outcome D) (operands : List Operand) (test : List X → Bool) → before ≡ None → asked read before operands test ≡ true
asked_gone {D} read before operands test e = ap (λ (o : Outcome D). option_map_or test (option_and_then (λ (t : Flows D). all_of read operands) o) true) e

pub asked_known : {D X : Type 0} (read : Operand → Option X) (before : Outcome D) (operands : List Operand) (test : List X → Bool) (xs : List X) → all_of read operands ≡ Some xs → test xs ≡ true → asked read before operands test ≡ true
asked_known read None operands test xs e h = refl
asked_known read (Some t) operands test xs e h = ap (λ o. option_map_or test o true) e ∙ h

abbrev pub Same : {D : Type 0} → AbsFlow D → AbsFlow D → Type 0
Same a b = a ≡ b

-- a call that lies below the inputs of its key, answered by the key's outputs
abbrev pub Known : {D : Type 0} → Domain D → List (Solved D) → Answers D → Cover D → Type 0
Known d b answers c = (outcome_leq d (Some c.ins) (inputs_at b c.hook c.point) ≡ true) × (answers c ≡ Some (outputs_at b c.hook c.point))

-- the values of an environment have the variables' sorts and stand at the places
abbrev pub Alive : {D : Type 0} → Domain D → ℕ → List (Outcome D) → Sorts → PlaceEnv → AbsEnv D → Type 0
Alive {D} d names P g other env = EnvFits D d names g env × Reads Same P env other

pub same_args : {D : Type 0} (xs ys : List (AbsArg D)) → AllZip (ArgsBy Same) xs ys → xs ≡ ys
same_args {D} xs ys h = same_from_zip xs ys (zip_more (ArgsBy Same) (λ x y. x ≡ y) one xs ys h)
  where
    one : (x y : AbsArg D) → ArgsBy Same x y → x ≡ y
    one (AbsArg.Number z) (AbsArg.Number y) h = λ i. AbsArg.Number (h i)
    one (AbsArg.Name n) (AbsArg.Name m) h = λ i. AbsArg.Name (h i)
    one (AbsArg.Flow a) (AbsArg.Flow b) h = λ i. AbsArg.Flow (h i)
    one _ _ h = absurd h

-- what is read is what is there
pub read_known : {X : Type 0} (R : X → X → Type 0) → ((xs ys : List X) → AllZip R xs ys → xs ≡ ys) → (o p : Option (List X)) → Matches (AllZip R) o p → (xs : List X) → o ≡ Some xs → p ≡ Some xs
read_known R step None p m xs e = absurd (none-some xs e)
read_known R step (Some x) None m xs e = absurd m
read_known R step (Some x) (Some y) m xs e = ap Some (sym (step x y m) ∙ same_Some x xs e)

-- The parts of walks that got to their ends.

pub record FilterGot {D : Type 0} (d : Domain D) (filter : Filter) (names : ℕ) (o : Option (List (AbsArg D))) : Type 0 where
  pub given : List (AbsArg D)
  pub is : o ≡ Some given
  pub ends : end_of (filtered d filter names o) ≡ abstract_result d filter names given

pub filter_got : {D : Type 0} (d : Domain D) (filter : Filter) (names : ℕ) (o : Option (List (AbsArg D))) → GotThere (filtered d filter names o) → FilterGot d filter names o
filter_got d filter names None g = absurd g
filter_got d filter names (Some given) g = record { given = given; is = refl; ends = refl }

-- a tuple joined to what was joined before lies above both
join_above : {D : Type 0} (d : Domain D) → TupleLaws d → (joined : Outcome D) (vs m : Flows D) → join_to d joined vs ≡ Some m → (outcome_leq d joined (Some m) ≡ true) × (tuple_leq d vs m ≡ true)
join_above d tuples None vs m e = (refl, subst (λ x. tuple_leq d vs x ≡ true) (same_Some vs m e) (tuples.leq_refl vs))
join_above d tuples (Some a) vs m e =
    cond_both (tuples_fit a vs) (Some (tuple_merge d Join a vs)) None (λ o. o ≡ Some m → (outcome_leq d (Some a) (Some m) ≡ true) × (tuple_leq d vs m ≡ true))
    (λ fit k. let same = same_Some (tuple_merge d Join a vs) m k in (subst (λ x. tuple_leq d a x ≡ true) same (tuples.join_left a vs fit), subst (λ x. tuple_leq d vs x ≡ true) same (tuples.join_right a vs fit)))
    (λ no k. absurd (none-some m k)) e

-- the values of variables, which lie below an outcome
abbrev pub HasBelow : {D : Type 0} → Domain D → List Var → Outcome D → AbsEnv D → Type 0
HasBelow {D} d vars r env = (vs : Flows D) × (values_at env vars ≡ Some vs) × (outcome_leq d (Some vs) r ≡ true)

pub record JoinGot {D : Type 0} (d : Domain D) (exports : List Var) (joined : Outcome D) (worlds : List (Option (AbsEnv D))) (r : Outcome D) : Type 0 where
  pub joined_leq : outcome_leq d joined r ≡ true
  pub each : AllByRecursion (IfThere (HasBelow d exports r)) worlds

module _ (D : Type 0) (d : Domain D) (tuples : TupleLaws d) where
  pub join_got : (exports : List Var) (joined : Outcome D) (worlds : List (Option (AbsEnv D))) → GotThere (join_exports d exports joined worlds) → JoinGot d exports joined worlds (end_of (join_exports d exports joined worlds))
  join_got exports joined [] g = record { joined_leq = outcome_refl D d tuples joined; each = tt }
  join_got exports joined (None ∷ worlds) g = let r = join_got exports joined worlds g in record { joined_leq = r.joined_leq; each = (tt, r.each) }
  join_got exports joined (Some env ∷ worlds) g = at (values_at env exports) refl (option_and_then (join_to d joined) (values_at env exports)) refl g (λ m. join_got exports (Some m) worlds)
    where
      at : (o : Outcome D) → values_at env exports ≡ o → (p : Outcome D) → option_and_then (join_to d joined) o ≡ p → GotThere (option_map_or (λ more. join_exports d exports (Some more) worlds) p ill) →
          ((m : Flows D) → GotThere (join_exports d exports (Some m) worlds) → JoinGot d exports (Some m) worlds (end_of (join_exports d exports (Some m) worlds))) →
          JoinGot d exports joined (Some env ∷ worlds) (end_of (option_map_or (λ more. join_exports d exports (Some more) worlds) p ill))
      at o e None k g step = absurd g
      at None e (Some m) k g step = absurd (none-some m k)
      at (Some vs) e (Some m) k g step =
          let r = step m g in
          let up = join_above d tuples joined vs m k in
          let final = end_of (join_exports d exports (Some m) worlds) in
          record { joined_leq = outcome_trans D d tuples joined (Some m) final up.0 r.joined_leq; each = ((vs, e, outcome_trans D d tuples (Some vs) (Some m) final up.1 r.joined_leq), r.each) }

  -- the joined values have the sorts of the exported ones
  pub join_sorted : (shapes : ShapeLaws d) (names : ℕ) (sorts : List VarSort) (exports : List Var) (joined : Outcome D) (worlds : List (Option (AbsEnv D))) → IfThere (FlowsFit D d names sorts) joined →
      AllByRecursion (IfThere (λ env. (vs : Flows D) → values_at env exports ≡ Some vs → FlowsFit D d names sorts vs)) worlds → IfThere (FlowsFit D d names sorts) (end_of (join_exports d exports joined worlds))
  join_sorted shapes names sorts exports joined [] h k = h
  join_sorted shapes names sorts exports joined (None ∷ worlds) h k = join_sorted shapes names sorts exports joined worlds h k.1
  join_sorted shapes names sorts exports joined (Some env ∷ worlds) h k = at (values_at env exports) refl (λ m f. join_sorted shapes names sorts exports (Some m) worlds f k.1)
    where
      joining : (joined : Outcome D) (vs : Flows D) → IfThere (FlowsFit D d names sorts) joined → FlowsFit D d names sorts vs → IfThere (FlowsFit D d names sorts) (join_to d joined vs)
      joining None vs h f = f
      joining (Some a) vs h f = cond_both (tuples_fit a vs) (Some (tuple_merge d Join a vs)) None (IfThere (FlowsFit D d names sorts)) (λ _. merge_fits D d names tuples shapes sorts a vs h f) (λ _. tt)

      more : (p : Outcome D) → IfThere (FlowsFit D d names sorts) p → ((m : Flows D) → FlowsFit D d names sorts m → IfThere (FlowsFit D d names sorts) (end_of (join_exports d exports (Some m) worlds))) →
          IfThere (FlowsFit D d names sorts) (end_of (option_map_or (λ more. join_exports d exports (Some more) worlds) p ill))
      more None f step = tt
      more (Some m) f step = step m f

      at : (o : Outcome D) → values_at env exports ≡ o → ((m : Flows D) → FlowsFit D d names sorts m → IfThere (FlowsFit D d names sorts) (end_of (join_exports d exports (Some m) worlds))) →
          IfThere (FlowsFit D d names sorts) (end_of (option_map_or (λ more. join_exports d exports (Some more) worlds) (option_and_then (join_to d joined) o) ill))
      at None e step = tt
      at (Some vs) e step = more (join_to d joined vs) (joining joined vs h (k.0 vs e)) step
