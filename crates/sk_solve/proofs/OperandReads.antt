-- What operands are in positions that fit, and in positions that lie below others.
use Rattle.std.proofs.Common.{◌≡◌, ℕ, zero, suc, true, List, [], ◌∷◌, map, Option, Some, None, refl, subst}
use Rattle.std.specs.Prelude.{slice_get}
use Rattle.std.specs.List.{AllZip, filter_map}
use Rattle.std.specs.Option.{option_map, option_and_then}
use Rattle.std.proofs.lemmas.Bool.{and_parts, and_from}
use Rattle.sk_base.specs.declared.flow.FlowSort.{FlowSort}
use Rattle.sk_def.specs.declared.filter.Filter.{Filter}
use Rattle.sk_def.specs.declared.sorts.VarSort.{VarSort}
use Rattle.sk_def.specs.declared.sorts.VarSort.TheVariants as variable
use Rattle.sk_def.specs.Signatures.{parameters, results}
use Rattle.sk_deriv.specs.Env.{all_of}
use Rattle.sk_lattice.specs.declared.flow.AbsFlow.{AbsFlow}
use Rattle.sk_lattice.specs.Domain.{Domain}
use Rattle.sk_lattice.specs.DomainLaws.{DomainLaws}
use Rattle.sk_lattice.specs.Empty.{flow_is_proper, is_proper}
use Rattle.sk_lattice.specs.Order.{flow_leq, tuple_leq}
use Rattle.sk_lattice.specs.Shapes.{flow_has_sort, has_sorts}
use Rattle.sk_lattice.proofs.Tuples.{tuple_laws}
use Rattle.sk_absfilter.specs.declared.arg.AbsArg.{AbsArg}
use Rattle.sk_absfilter.specs.Abstract.{Outcome, abstract_result}
use Rattle.sk_absfilter.specs.Fits.{arg_has_sort, args_have_sorts, outcome_has_sorts}
use Rattle.sk_absfilter.specs.Laws.{ArgLeq, outcome_leq}
use Rattle.sk_absfilter.proofs.Fitting.{sorts_kept}
use Rattle.sk_absfilter.proofs.Monotone.{monotone}
use Rattle.sk_absfilter.proofs.ProperResults.{result_proper}
use Rattle.sk_constr.specs.declared.line.Operand.{Operand}
use Rattle.sk_constr.specs.Fits.{sort_at, OperandFits, OperandsFit}
use Rattle.sk_constr.specs.Positions.{flow_sort}
use Rattle.sk_solve.specs.Solves.{flow_at, argument_at, operand_value, outcome_fits}
use Rattle.sk_solve.proofs.Places.{Matches, matches_map, matches_all, IfThere, all_there, pairs_from, zip_more}

module _ (D : Type 0) (d : Domain D) where
  -- a flow has the sort and no empty part
  abbrev pub FlowFits : ℕ → FlowSort → AbsFlow D → Type 0
  FlowFits names s a = (flow_has_sort names s a ≡ true) × (flow_is_proper d a ≡ true)

  entry_there : (names : ℕ) (sorts : List FlowSort) (t : List (AbsFlow D)) (e : ℕ) (s : FlowSort) → has_sorts names sorts t ≡ true → is_proper d t ≡ true → slice_get sorts e ≡ Some s → IfThere (FlowFits names s) (slice_get t e)
  entry_there names [] t e s h k g = absurd cc
  entry_there names (r ∷ sorts) [] e s h k g = absurd cc
  entry_there names (r ∷ sorts) (a ∷ t) zero s h k g =
      let same : r ≡ s = cc in
      (subst (λ z. flow_has_sort names z a ≡ true) same (and_parts (flow_has_sort names r a) (has_sorts names sorts t) h).0, (and_parts (flow_is_proper d a) (is_proper d t) k).0)
  entry_there names (r ∷ sorts) (a ∷ t) (suc e) s h k g =
      entry_there names sorts t e s (and_parts (flow_has_sort names r a) (has_sorts names sorts t) h).1 (and_parts (flow_is_proper d a) (is_proper d t) k).1 g

  abbrev pub PositionsFit : ℕ → List (List FlowSort) → List (Outcome D) → Type 0
  PositionsFit names = AllZip (λ sorts o. outcome_fits d names sorts o ≡ true)

  flow_there : (names : ℕ) (sorts : List (List FlowSort)) (positions : List (Outcome D)) (p e : ℕ) (s : FlowSort) → PositionsFit names sorts positions → sort_at sorts p e ≡ Some s → IfThere (FlowFits names s) (flow_at positions p e)
  flow_there names [] positions p e s h g = absurd cc
  flow_there names (ss ∷ sorts) [] p e s h g = absurd h
  flow_there names (ss ∷ sorts) (None ∷ positions) zero e s h g = tt
  flow_there names (ss ∷ sorts) (Some t ∷ positions) zero e s h g = let q = and_parts (has_sorts names ss t) (is_proper d t) h.0 in entry_there names ss t e s q.0 q.1 g
  flow_there names (ss ∷ sorts) (o ∷ positions) (suc p) e s h g = flow_there names sorts positions p e s h.1 g

  mapped : {A B : Type 0} (P : A → Type 0) (Q : B → Type 0) (f : A → B) → ((x : A) → P x → Q (f x)) → (o : Option A) → IfThere P o → IfThere Q (option_map f o)
  mapped P Q f step None h = tt
  mapped P Q f step (Some x) h = step x h

  module _ (names : ℕ) (sorts : List (List FlowSort)) (positions : List (Outcome D)) (fit : PositionsFit names sorts positions) where
    argument_there : (v : VarSort) (operand : Operand) → OperandFits names sorts v operand → IfThere (λ g. arg_has_sort names v g ≡ true) (argument_at positions operand)
    argument_there variable.Number (Operand.Number z) h = refl
    argument_there variable.Name (Operand.Name n) h = refl
    argument_there (variable.Flow s) (Operand.At p e) h = mapped (FlowFits names s) (λ g. arg_has_sort names (variable.Flow s) g ≡ true) AbsArg.Flow (λ a k. k.0) (flow_at positions p e) (flow_there names sorts positions p e s fit h)
    argument_there _ _ h = absurd h

    arguments_there : (vs : List VarSort) (operands : List Operand) → OperandsFit names sorts vs operands → IfThere (λ given. args_have_sorts names vs given ≡ true) (all_of (argument_at positions) operands)
    arguments_there vs operands h =
        tested (all_of (argument_at positions) operands) (all_there (λ v g. arg_has_sort names v g ≡ true) (argument_at positions) vs operands (zip_more (OperandFits names sorts) (λ v o. IfThere (λ g. arg_has_sort names v g ≡ true) (argument_at positions o)) argument_there vs operands h))
      where
        tested : (o : Option (List (AbsArg D))) → IfThere (AllZip (λ v g. arg_has_sort names v g ≡ true) vs) o → IfThere (λ given. args_have_sorts names vs given ≡ true) o
        tested None k = tt
        tested (Some given) k = pairs_from (arg_has_sort names) vs given k

    one_more : (s : FlowSort) (ss : List FlowSort) (o : Option (AbsFlow D)) (os : Outcome D) → IfThere (FlowFits names s) o → outcome_fits d names ss os ≡ true → outcome_fits d names (s ∷ ss) (option_and_then (λ y. option_map (λ ys. y ∷ ys) os) o) ≡ true
    one_more s ss None os h k = refl
    one_more s ss (Some y) None h k = refl
    one_more s ss (Some y) (Some ys) h k =
        let q = and_parts (has_sorts names ss ys) (is_proper d ys) k in
        and_from (has_sorts names (s ∷ ss) (y ∷ ys)) (is_proper d (y ∷ ys)) (and_from (flow_has_sort names s y) (has_sorts names ss ys) h.0 q.0) (and_from (flow_is_proper d y) (is_proper d ys) h.1 q.1)

    -- values of these sorts fit them
    pub values_fit : (ss : List FlowSort) (operands : List Operand) → OperandsFit names sorts (map VarSort.Flow ss) operands → outcome_fits d names ss (all_of (operand_value positions) operands) ≡ true
    values_fit [] [] h = refl
    values_fit [] (o ∷ os) h = absurd h
    values_fit (s ∷ ss) [] h = absurd h
    values_fit (s ∷ ss) (Operand.Number z ∷ os) h = absurd h.0
    values_fit (s ∷ ss) (Operand.Name n ∷ os) h = absurd h.0
    values_fit (s ∷ ss) (Operand.At p e ∷ os) h = one_more s ss (flow_at positions p e) (all_of (operand_value positions) os) (flow_there names sorts positions p e s fit h.0) (values_fit ss os h.1)

    -- the result of a filter on arguments of its sorts fits its results
    flows_sorted : (vs : List VarSort) (flows : List (AbsFlow D)) → args_have_sorts names vs (map AbsArg.Flow flows) ≡ true → has_sorts names (filter_map flow_sort vs) flows ≡ true
    flows_sorted [] [] h = refl
    flows_sorted [] (x ∷ xs) h = absurd cc
    flows_sorted (v ∷ vs) [] h = absurd cc
    flows_sorted (variable.Number ∷ vs) (x ∷ xs) h = absurd cc
    flows_sorted (variable.Name ∷ vs) (x ∷ xs) h = absurd cc
    flows_sorted (variable.Term t ∷ vs) (x ∷ xs) h = absurd cc
    flows_sorted (variable.Flow s ∷ vs) (x ∷ xs) h = let q = and_parts (flow_has_sort names s x) (args_have_sorts names vs (map AbsArg.Flow xs)) h in and_from (flow_has_sort names s x) (has_sorts names (filter_map flow_sort vs) xs) q.0 (flows_sorted vs xs q.1)

    pub result_fits : (filter : Filter) (operands : List Operand) → OperandsFit names sorts (parameters filter) operands →
        outcome_fits d names (filter_map flow_sort (results filter)) (option_and_then (abstract_result d filter names) (all_of (argument_at positions) operands)) ≡ true
    result_fits filter operands h = by (all_of (argument_at positions) operands) (arguments_there (parameters filter) operands h)
      where
        shaped : (o : Outcome D) → outcome_has_sorts names (results filter) o ≡ true → ((flows : List (AbsFlow D)) → o ≡ Some flows → is_proper d flows ≡ true) → outcome_fits d names (filter_map flow_sort (results filter)) o ≡ true
        shaped None k p = refl
        shaped (Some flows) k p = and_from (has_sorts names (filter_map flow_sort (results filter)) flows) (is_proper d flows) (flows_sorted (results filter) flows k) (p flows refl)

        by : (o : Option (List (AbsArg D))) → IfThere (λ given. args_have_sorts names (parameters filter) given ≡ true) o → outcome_fits d names (filter_map flow_sort (results filter)) (option_and_then (abstract_result d filter names) o) ≡ true
        by None k = refl
        by (Some given) k = shaped (abstract_result d filter names given) (sorts_kept D d filter names given k) (result_proper D d filter names given)

module _ (D : Type 0) (d : Domain D) (laws : DomainLaws d) where
  pub outcome_trans : (o p q : Outcome D) → outcome_leq d o p ≡ true → outcome_leq d p q ≡ true → outcome_leq d o q ≡ true
  outcome_trans None p q h k = refl
  outcome_trans (Some a) None q h k = absurd cc
  outcome_trans (Some a) (Some b) None h k = absurd cc
  outcome_trans (Some a) (Some b) (Some c) h k = (tuple_laws D d laws).leq_trans a b c h k

  abbrev pub FlowLeq : AbsFlow D → AbsFlow D → Type 0
  FlowLeq a b = flow_leq d a b ≡ true

  entry_more : (s t : List (AbsFlow D)) (e : ℕ) → tuple_leq d s t ≡ true → Matches FlowLeq (slice_get s e) (slice_get t e)
  entry_more [] t e h = tt
  entry_more (a ∷ s) [] e h = absurd cc
  entry_more (a ∷ s) (b ∷ t) zero h = (and_parts (flow_leq d a b) (tuple_leq d s t) h).0
  entry_more (a ∷ s) (b ∷ t) (suc e) h = entry_more s t e (and_parts (flow_leq d a b) (tuple_leq d s t) h).1

  flow_more : (ps qs : List (Outcome D)) (p e : ℕ) → AllZip (λ o u. outcome_leq d o u ≡ true) ps qs → Matches FlowLeq (flow_at ps p e) (flow_at qs p e)
  flow_more [] qs p e h = tt
  flow_more (o ∷ ps) [] p e h = absurd h
  flow_more (None ∷ ps) (u ∷ qs) zero e h = tt
  flow_more (Some s ∷ ps) (None ∷ qs) zero e h = absurd (let z = h.0 in cc)
  flow_more (Some s ∷ ps) (Some t ∷ qs) zero e h = entry_more s t e h.0
  flow_more (o ∷ ps) (u ∷ qs) (suc p) e h = flow_more ps qs p e h.1

  module _ (ps qs : List (Outcome D)) (below : AllZip (λ o u. outcome_leq d o u ≡ true) ps qs) where
    argument_more : (operand : Operand) → Matches (ArgLeq d) (argument_at ps operand) (argument_at qs operand)
    argument_more (Operand.Number z) = refl
    argument_more (Operand.Name n) = refl
    argument_more (Operand.At p e) = matches_map FlowLeq (ArgLeq d) AbsArg.Flow AbsArg.Flow (λ a b h. h) (flow_at ps p e) (flow_at qs p e) (flow_more ps qs p e below)

    value_more : (operand : Operand) → Matches FlowLeq (operand_value ps operand) (operand_value qs operand)
    value_more (Operand.Number z) = tt
    value_more (Operand.Name n) = tt
    value_more (Operand.At p e) = flow_more ps qs p e below

    -- greater positions give greater values, and a filter a greater result
    pub values_more : (operands : List Operand) → Matches (AllZip FlowLeq) (all_of (operand_value ps) operands) (all_of (operand_value qs) operands)
    values_more operands = matches_all FlowLeq (operand_value ps) (operand_value qs) value_more operands

    pub arguments_more : (operands : List Operand) → Matches (AllZip (ArgLeq d)) (all_of (argument_at ps) operands) (all_of (argument_at qs) operands)
    arguments_more operands = matches_all (ArgLeq d) (argument_at ps) (argument_at qs) argument_more operands

  pub tuples_below : (s t : List (AbsFlow D)) → AllZip FlowLeq s t → tuple_leq d s t ≡ true
  tuples_below s t h = pairs_from (flow_leq d) s t h

  pub results_below : (filter : Filter) (names : ℕ) (given more : List (AbsArg D)) → AllZip (ArgLeq d) given more → outcome_leq d (abstract_result d filter names given) (abstract_result d filter names more) ≡ true
  results_below = monotone D d laws (tuple_laws D d laws)
