-- The table of an assignment that satisfies a program's constraints is accepted.
use Rattle.std.proofs.Common.{◌≡◌, ℕ, Bool, ℤ, true, List, [], ◌∷◌, length, map, Option, Some, None, refl, sym, ◌∙◌, ap, subst}
use Rattle.std.specs.Prelude.{find, unwrap_or}
use Rattle.std.specs.List.{AllByRecursion, AllZip}
use Rattle.std.specs.Option.{option_map, option_map_or, option_and_then}
use Rattle.std.proofs.lemmas.Bool.{and_parts}
use Rattle.std.proofs.lemmas.Option.{none-some, same_Some}
use lib.Pointwise.{pointwise_long}
use Rattle.sk_base.specs.declared.flow.FlowSort.{FlowSort}
use Rattle.sk_def.specs.declared.ids.HookId.{HookId}
use Rattle.sk_def.specs.declared.def.Def.{Def}
use Rattle.sk_def.specs.declared.def.Rule.{Rule}
use Rattle.sk_def.specs.declared.def.Hook.{Hook}
use Rattle.sk_def.specs.declared.def.Con.{Con}
use Rattle.sk_def.specs.Sorts.{outputs_of}
use Rattle.sk_sort.specs.Definition.{IsWellSorted}
use Rattle.sk_term.specs.declared.node.TermNode.{TermNode}
use Rattle.sk_term.specs.Program.{Program, IsProgramOf}
use Rattle.sk_term.specs.Terms.{keys}
use Rattle.sk_deriv.specs.Moves.{Setting, setting_of}
use Rattle.sk_lattice.specs.Domain.{Domain}
use Rattle.sk_lattice.specs.Empty.{is_proper}
use Rattle.sk_lattice.specs.Laws.{TupleLaws}
use Rattle.sk_lattice.specs.Shapes.{flow_has_sort, has_sorts}
use Rattle.sk_absfilter.specs.Abstract.{Outcome}
use Rattle.sk_absfilter.specs.Laws.{outcome_leq, FiltersAreMonotone}
use Rattle.sk_table.specs.declared.triple.Cover.{Cover}
use Rattle.sk_rounds.specs.Walks.{Side, Inputs, Outputs, Table, Walks, WalksLaws, FitSide, FitTable, CallsBelow, side_leq}
use Rattle.sk_rounds.specs.Rounds.{told_at, own_answer, IsAccepted}
use Rattle.sk_rounds.specs.Tuples.{tuple_fits}
use Rattle.sk_rounds.proofs.Ending.{analysed_least}
use Rattle.sk_abswalk.specs.Walk.{Flows, Ends, uncovered, ill, with, quiet, rule_at, walk_of}
use Rattle.sk_abswalk.specs.Reading.{Key, keyed, hook_of_key, sorts_of_side, by_key, outcome_of, walk_of_key, walks_of}
use Rattle.sk_abswalk.proofs.Keys.{hook_there}
use Rattle.sk_abswalk.proofs.WalkLaws.{leq_side}
use Rattle.sk_constr.specs.declared.constraint_list.ConstraintList.{ConstraintList}
use Rattle.sk_constr.specs.Keys.{RuleOfKey, AreConstraints}
use Rattle.sk_solve.specs.declared.assignment.Solved.{Solved}
use Rattle.sk_solve.specs.Solves.{value_at, is_of_key, inputs_at, outputs_at, outcome_fits, Solves}
use Rattle.sk_agree.specs.Agree.{sides_of, IsAbove}
use Rattle.sk_agree.proofs.Relations.{IfThere}
use Rattle.sk_agree.proofs.KeysFound.{SolvedKey, solved_keys, found_key}
use Rattle.sk_agree.proofs.Below.{Holds, WalkHas, outcome_refl, rule_low}

-- what fits a hook's side fits the side of its key
pub side_fit : (D : Type 0) (d : Domain D) (finite : Bool) (marks : List ℤ) (s : Setting) (covers : List (Cover D)) (k : Key) (side : Side) (hook : Hook) (o : Outcome D) → hook_of_key s k ≡ Some hook →
    outcome_fits d s.names (sorts_of_side side hook) o ≡ true → FitSide (walks_of d finite marks s covers) k side o
side_fit D d finite marks s covers k side hook None e f = tt
side_fit D d finite marks s covers k side hook (Some t) e f = subst (λ h. tuple_fits d s.names (option_map (sorts_of_side side) h) t ≡ true) (sym e) f

pub fits_long : (D : Type 0) (d : Domain D) (names : ℕ) (sorts : List FlowSort) (t : Flows D) → outcome_fits d names sorts (Some t) ≡ true → length t ≡ length sorts
fits_long D d names sorts t f = sym (pointwise_long (flow_has_sort names) sorts t (and_parts (has_sorts names sorts t) (is_proper d t) f).0)

-- what position 0 is related to
pub first_related : {A D : Type 0} (R : A → Outcome D → Type 0) (x : A) (xs : List A) (ps : List (Outcome D)) → AllZip R (x ∷ xs) ps → R x (value_at ps 0)
first_related R x xs [] z = absurd z
first_related R x xs (p ∷ ps) z = z.0

pub first_below : {B D : Type 0} (R : Outcome D → B → Type 0) (ps : List (Outcome D)) (y : B) (ys : List B) → AllZip R ps (y ∷ ys) → R (value_at ps 0) y
first_below R [] y ys z = absurd z
first_below R (p ∷ ps) y ys z = z.0

-- the rule of a key
pub rule_found_at : (s : Setting) (id : HookId) (point : ℕ) (rule : Rule) (hook : Hook) (con : Con) (p : RuleOfKey s.def s.nodes id point rule hook con) → rule_at s id point ≡ Some (p.node, rule)
rule_found_at s id point rule hook con p = rw (p.node_is, p.rule_is) refl

module _ (D : Type 0) (d : Domain D) (tuples : TupleLaws d) (filters : FiltersAreMonotone d) (def : Def) (program : Program) (sorted : IsWellSorted def) (is_program : IsProgramOf def program)
    (finite : Bool) (marks : List ℤ) (covers : List (Cover D)) (list : ConstraintList D) (are : AreConstraints def program covers list) (a : List (Solved D)) (solves : Solves d list a) where
  abbrev s : Setting
  s = setting_of def program

  abbrev w : Walks Key (Flows D)
  w = walks_of d finite marks s covers

  abbrev U : Table Key (Flows D)
  U = sides_of a

  pub at_key : (k : Key) (sv : Solved D) → find (is_of_key k.0 k.1) a ≡ Some sv → SolvedKey d def program a k sv
  at_key = found_key (SolvedKey d def program a) (λ k sv h. (h.is_of.same_hook, h.is_of.same_point)) (keys def program.nodes) a (solved_keys D d def program sorted is_program covers list are a solves)

  hook_is : (k : Key) (sv : Solved D) (h : SolvedKey d def program a k sv) → hook_of_key s k ≡ Some h.key.hook
  hook_is k sv h = hook_there s k h.key.is_key.node h.key.hook h.key.is_key.at h.key.is_key.declared h.key.is_key.takes

  pub first_fits : (k : Key) (sv : Solved D) (h : SolvedKey d def program a k sv) → outcome_fits d program.names h.key.hook.inputs (value_at sv.positions 0) ≡ true
  first_fits k sv h = first_related (λ sorts o. outcome_fits d program.names sorts o ≡ true) h.key.hook.inputs _ sv.positions h.is_of.positions_fit

  solution_fits : FitTable w U
  solution_fits k Inputs = at (find (is_of_key k.0 k.1) a) refl
    where
      at : (o : Option (Solved D)) → find (is_of_key k.0 k.1) a ≡ o → FitSide w k Inputs (option_and_then (λ s. value_at s.positions 0) o)
      at None e = tt
      at (Some sv) e = let h = at_key k sv e in side_fit D d finite marks s covers k Inputs h.key.hook (value_at sv.positions 0) (hook_is k sv h) (first_fits k sv h)
  solution_fits k Outputs = at (find (is_of_key k.0 k.1) a) refl
    where
      at : (o : Option (Solved D)) → find (is_of_key k.0 k.1) a ≡ o → FitSide w k Outputs (option_and_then (λ (s : Solved D). s.outs) o)
      at None e = tt
      at (Some sv) e = let h = at_key k sv e in side_fit D d finite marks s covers k Outputs h.key.hook sv.outs (hook_is k sv h) h.is_of.outs_fit

  pub outs_long : (id : HookId) (point : ℕ) (outs : Flows D) → outputs_at a id point ≡ Some outs → length outs ≡ length (outputs_of def id)
  outs_long id point outs e = at (find (is_of_key id point) a) refl e
    where
      at : (o : Option (Solved D)) → find (is_of_key id point) a ≡ o → option_and_then (λ (s : Solved D). s.outs) o ≡ Some outs → length outs ≡ length (outputs_of def id)
      at None f e = absurd (none-some outs e)
      at (Some sv) f e =
          let h = at_key (id, point) sv f in
          fits_long D d program.names h.key.hook.outputs outs (subst (λ o. outcome_fits d program.names h.key.hook.outputs o ≡ true) e h.is_of.outs_fit)
          ∙ sym (ap (λ o. length (unwrap_or (option_map (λ (hook : Hook). hook.outputs) o) [])) h.key.parts.hook_is)

  calls_low : (cs : List (Cover D)) → AllByRecursion (λ c. outcome_leq d (Some c.ins) (inputs_at a c.hook c.point) ≡ true) cs → CallsBelow w (map keyed cs) (λ j. U j Inputs)
  calls_low [] h = tt
  calls_low (c ∷ cs) h = (leq_side D d finite marks s covers (Some c.ins) (inputs_at a c.hook c.point) h.0, calls_low cs h.1)

  covers_low : CallsBelow w w.covers (λ j. U j Inputs)
  covers_low =
      calls_low covers
      (subst (λ (cs : List (Cover D)). AllByRecursion (λ c. outcome_leq d (Some c.ins) (inputs_at a c.hook c.point) ≡ true) cs) are.covers_are solves.covered)

  outcome_low : (outs : Outcome D) (ends : Ends D (Flows D)) → Holds (IfThere (λ vs. outcome_leq d (Some vs) outs ≡ true)) ends → outcome_leq d (outcome_of ends) outs ≡ true
  outcome_low outs (uncovered c) h = refl
  outcome_low outs ill h = refl
  outcome_low outs (with None) h = refl
  outcome_low outs (with (Some vs)) h = h

  own_low : (c : Cover D) (o : Outcome D) → by_key (own_answer U) c ≡ Some o → outcome_leq d o (outputs_at a c.hook c.point) ≡ true
  own_low c o e = subst (λ x. outcome_leq d x (outputs_at a c.hook c.point) ≡ true) (same_Some (outputs_at a c.hook c.point) o e) (outcome_refl D d tuples (outputs_at a c.hook c.point))

  walk_low : (k : Key) (sv : Solved D) (ins : Flows D) → SolvedKey d def program a k sv → value_at sv.positions 0 ≡ Some ins →
      WalkHas (λ c. outcome_leq d (Some c.ins) (inputs_at a c.hook c.point) ≡ true) (λ vs. outcome_leq d (Some vs) sv.outs ≡ true) (walk_of_key d s (own_answer U) k ins)
  walk_low k sv ins h is =
      let p = h.key.parts in
      let long = fits_long D d program.names h.key.hook.inputs ins (subst (λ o. outcome_fits d program.names h.key.hook.inputs o ≡ true) is (first_fits k sv h)) in
      let low = rule_low D d tuples filters def program.names a sv outs_long (by_key (own_answer U)) own_low h.key.con.sort k.1 h.key.rule p.node ins is (long ∙ sym p.inputs_counted) h.lines p.bones_sorted in
      subst (λ (o : Option (TermNode × Rule)). WalkHas (λ c. outcome_leq d (Some c.ins) (inputs_at a c.hook c.point) ≡ true) (λ vs. outcome_leq d (Some vs) sv.outs ≡ true) (option_map_or (walk_of d (by_key (own_answer U)) s.names k.1 ins) o (quiet ill)))
      (sym (rule_found_at s k.0 k.1 h.key.rule h.key.hook h.key.con p)) low

  -- what a key tells from these inputs lies below the table
  abbrev IsJust : Key → Outcome D → Outcome D → Type 0
  IsJust k ins outs = CallsBelow w (told_at w (own_answer U) k ins).calls (λ j. U j Inputs) × (side_leq w (told_at w (own_answer U) k ins).gives outs ≡ true)

  just : (k : Key) → IsJust k (U k Inputs) (U k Outputs)
  just k = at (find (is_of_key k.0 k.1) a) refl
    where
      from : (sv : Solved D) → SolvedKey d def program a k sv → (o : Outcome D) → value_at sv.positions 0 ≡ o → IsJust k o sv.outs
      from sv h None e = (tt, refl)
      from sv h (Some ins) e =
          let low = walk_low k sv ins h e in
          let walk = walk_of_key d s (own_answer U) k ins in
          (calls_low walk.asked low.calls, leq_side D d finite marks s covers (outcome_of walk.ends) sv.outs (outcome_low sv.outs walk.ends low.ends))

      at : (o : Option (Solved D)) → find (is_of_key k.0 k.1) a ≡ o → IsJust k (option_and_then (λ s. value_at s.positions 0) o) (option_and_then (λ (s : Solved D). s.outs) o)
      at None e = (tt, refl)
      at (Some sv) e = from sv (at_key k sv e) (value_at sv.positions 0) refl

  solution_accepted : IsAccepted w U
  solution_accepted = record { covers = covers_low; justified = λ k. let j = just k in record { calls = j.0; gives = j.1 } }

  pub solution_above : WalksLaws w → IsAbove w U
  solution_above laws = record {
    fits = solution_fits;
    accepted = solution_accepted;
    above = λ fin table rounds analysed. (analysed_least Key (Flows D) w laws fin table rounds analysed).least U solution_fits solution_accepted;
  }
