-- What a line asks for in an assignment below every solution fits its slot and lies below the slot in every solution.
use Rattle.std.proofs.Common.{◌≡◌, ℕ, suc, ◌<◌, Bool, true, false, ◌&&◌, ◌||◌, cond, List, length, [], ◌∷◌, Option, Some, None, refl, sym, ◌∙◌, ap, subst}
use Rattle.std.specs.Prelude.{slice_get, find}
use Rattle.std.specs.List.{AllZip, list_all, filter_map}
use Rattle.std.specs.Option.{option_map_or, option_and_then}
use Rattle.std.proofs.lemmas.Bool.{and_parts, and_from}
use Rattle.std.proofs.lemmas.Option.{slice_get_within}
use Rattle.sk_def.specs.declared.ids.HookId.{HookId}
use Rattle.sk_def.specs.declared.filter.Filter.{Filter}
use Rattle.sk_def.specs.Signatures.{results}
use Rattle.sk_deriv.specs.Env.{all_of}
use Rattle.sk_lattice.specs.declared.flow.AbsFlow.{AbsFlow}
use Rattle.sk_lattice.specs.Domain.{Domain}
use Rattle.sk_lattice.specs.DomainLaws.{DomainLaws}
use Rattle.sk_lattice.specs.Empty.{is_proper}
use Rattle.sk_lattice.specs.Shapes.{has_sorts}
use Rattle.sk_absfilter.specs.declared.arg.AbsArg.{AbsArg}
use Rattle.sk_absfilter.specs.Abstract.{Outcome, abstract_result}
use Rattle.sk_absfilter.specs.Laws.{ArgLeq, outcome_leq}
use Rattle.sk_table.specs.declared.triple.Cover.{Cover}
use Rattle.sk_constr.specs.declared.line.Operand.{Operand}
use Rattle.sk_constr.specs.declared.line.Part.{Part}
use Rattle.sk_constr.specs.declared.line.Line.{Line}
use Rattle.sk_constr.specs.declared.line.KeyLines.{KeyLines}
use Rattle.sk_constr.specs.declared.constraint_list.ConstraintList.{ConstraintList}
use Rattle.sk_constr.specs.Fits.{is_lines_of, PartFits, LineFits, LinesFit, CoverLineFits, ConstraintsFit}
use Rattle.sk_constr.specs.Positions.{flow_sort}
use Rattle.sk_solve.specs.declared.assignment.Solved.{Solved}
use Rattle.sk_solve.specs.declared.slot.Slot.{Slot}
use Rattle.sk_solve.specs.Solves.{value_at, argument_at, operand_value, asked, is_of_key, inputs_at, outputs_at, part_holds, line_holds, cover_holds, outcome_fits, IsOfKey, KeyLies, Solves}
use Rattle.sk_solve.specs.Climbing.{first_place, IsUnderway, IsDue, IsStep, LiesIn, LineHolds, IsLineOf, IsCoverOf}
use Rattle.sk_solve.proofs.Places.{Beside, beside, both_at, each_at, one_passes, same_some, Matches}
use Rattle.sk_solve.proofs.Raises.{slot_more}
use Rattle.sk_solve.proofs.Steps.{still_step, step_more, step_here, two_steps}
use Rattle.sk_solve.proofs.OperandReads.{values_fit, result_fits, outcome_trans, FlowLeq, values_more, arguments_more, tuples_below, results_below}

-- Keys and their entries.

-- where a key stands in its list, an assignment has its entry
pub record PlaceOf {D : Type 0} (d : Domain D) (names : ℕ) (keys : List KeyLines) (hook : HookId) (point : ℕ) (called : KeyLines) : Type 0 where
  pub at : ℕ
  pub is : slice_get keys at ≡ Some called
  pub found : (a : List (Solved D)) → AllZip (IsOfKey d names) keys a → (first_place (is_of_key hook point) a ≡ Some at) × (find (is_of_key hook point) a ≡ slice_get a at)

module _ (D : Type 0) (d : Domain D) (names : ℕ) (hook : HookId) (point : ℕ) (called : KeyLines) where
  same_test : (key : KeyLines) (s : Solved D) (b : Bool) → IsOfKey d names key s → is_lines_of hook point key ≡ b → is_of_key hook point s ≡ b
  same_test key s b h e = rw (h.same_hook, h.same_point) e

  pub place_of : (keys : List KeyLines) → find (is_lines_of hook point) keys ≡ Some called → PlaceOf d names keys hook point called
  place_of [] e = absurd cc
  place_of (key ∷ keys) e = by (is_lines_of hook point key) refl (place_of keys)
    where
      first : is_lines_of hook point key ≡ true → (a : List (Solved D)) → AllZip (IsOfKey d names) (key ∷ keys) a → (first_place (is_of_key hook point) a ≡ Some 0) × (find (is_of_key hook point) a ≡ slice_get a 0)
      first h [] z = absurd z
      first h (s ∷ a) z = let t = same_test key s true z.0 h in (rw t refl, rw t refl)

      later : is_lines_of hook point key ≡ false → (r : PlaceOf d names keys hook point called) → (a : List (Solved D)) → AllZip (IsOfKey d names) (key ∷ keys) a → (first_place (is_of_key hook point) a ≡ Some (suc r.at)) × (find (is_of_key hook point) a ≡ slice_get a (suc r.at))
      later h r [] z = absurd z
      later h r (s ∷ a) z =
          let t = same_test key s false z.0 h in
          let q = r.found a z.1 in
          (rw (t, q.0) refl, rw t q.1)

      by : (b : Bool) → is_lines_of hook point key ≡ b → (find (is_lines_of hook point) keys ≡ Some called → PlaceOf d names keys hook point called) → PlaceOf d names (key ∷ keys) hook point called
      by true h more =
          let here : cond (is_lines_of hook point key) (Some key) (find (is_lines_of hook point) keys) ≡ Some called = e in
          record { at = 0; is = rw h at here; found = first h }
      by false h more =
          let here : cond (is_lines_of hook point key) (Some key) (find (is_lines_of hook point) keys) ≡ Some called = e in
          let r = more (rw h at here) in
          record { at = suc r.at; is = r.is; found = later h r }

-- Lines.

module _ (D : Type 0) (d : Domain D) (laws : DomainLaws d) where
  -- the test of a line that has a position before it and operands
  passes : {X : Type 0} (before : Outcome D) (t : List (AbsFlow D)) (given : Option (List X)) (test : List X → Bool) (x : List X) →
      before ≡ Some t → given ≡ Some x → option_map_or test (option_and_then (λ (t : List (AbsFlow D)). given) before) true ≡ true → test x ≡ true
  passes before t given test x e k h = rw (e, k) at h

  -- what is there below has something above
  above_there : (o p : Outcome D) (t : List (AbsFlow D)) → o ≡ Some t → outcome_leq d o p ≡ true → (u : List (AbsFlow D)) × (p ≡ Some u)
  above_there o None t e h = let k : outcome_leq d (Some t) None ≡ true = subst (λ z. outcome_leq d z None ≡ true) e h in absurd cc
  above_there o (Some u) t e h = (u, refl)

  -- what is asked for below lies below what is asked for above
  values_below : (o p : Option (List (AbsFlow D))) (before : Outcome D) (t : List (AbsFlow D)) (target : Outcome D) → Matches (AllZip (FlowLeq D d laws)) o p → before ≡ Some t →
      option_map_or (λ values. outcome_leq d (Some values) target) (option_and_then (λ (t : List (AbsFlow D)). p) before) true ≡ true → outcome_leq d o target ≡ true
  values_below None p before t target m e h = refl
  values_below (Some s) None before t target m e h = absurd m
  values_below (Some s) (Some u) before t target m e h =
      outcome_trans D d laws (Some s) (Some u) target (tuples_below D d laws s u m) (passes before t (Some u) (λ values. outcome_leq d (Some values) target) u e refl h)

  result_below : (filter : Filter) (names : ℕ) (o p : Option (List (AbsArg D))) (before : Outcome D) (t : List (AbsFlow D)) (target : Outcome D) → Matches (AllZip (ArgLeq d)) o p → before ≡ Some t →
      option_map_or (λ given. outcome_leq d (abstract_result d filter names given) target) (option_and_then (λ (t : List (AbsFlow D)). p) before) true ≡ true →
      outcome_leq d (option_and_then (abstract_result d filter names) o) target ≡ true
  result_below filter names None p before t target m e h = refl
  result_below filter names (Some s) None before t target m e h = absurd m
  result_below filter names (Some s) (Some u) before t target m e h =
      outcome_trans D d laws (abstract_result d filter names s) (abstract_result d filter names u) target (results_below D d laws filter names s u m)
      (passes before t (Some u) (λ given. outcome_leq d (abstract_result d filter names given) target) u e refl h)

  -- Of an assignment below every solution, a line of a key and the key's entry, with something at the position before.
  pub record AtLine (list : ConstraintList D) (at : ℕ) (line : Line) (a : List (Solved D)) (s : Solved D) : Type 0 where
    pub key : KeyLines
    pub key_is : slice_get list.keys at ≡ Some key
    pub fits : PartFits list.names list.keys key line.part
    pub of : IsOfKey d list.names key s
    pub entry_is : slice_get a at ≡ Some s
    pub above : (b : List (Solved D)) → Solves d list b → (t : Solved D) → slice_get b at ≡ Some t → KeyLies d s t × (line_holds d list.names b t line ≡ true)

  pub at_line : (list : ConstraintList D) (at : ℕ) (line : Line) (a : List (Solved D)) (s : Solved D) → ConstraintsFit list → IsUnderway d list a → IsLineOf list at line → slice_get a at ≡ Some s → AtLine list at line a s
  at_line list at line a s fit u l e =
      record {
        key = l.key;
        key_is = l.key_is;
        fits = (each_at (LineFits list.names list.keys l.key) l.key.lines l.place line (each_at (LinesFit list.names list.keys) list.keys at l.key fit.lines_fit l.key_is) l.line_is).part_fits;
        of = both_at (IsOfKey d list.names) list.keys a at l.key s u.assigns l.key_is e;
        entry_is = e;
        above = λ b h t k. (
          both_at (KeyLies d) a b at s t (u.below b h) e k,
          one_passes (line_holds d list.names b t) l.key.lines l.place line (both_at (λ (key : KeyLines) z. list_all (line_holds d list.names b z) key.lines ≡ true) list.keys b at l.key t h.lines_hold l.key_is k) l.line_is,
        );
      }

  module _ (list : ConstraintList D) (at : ℕ) (a : List (Solved D)) (s : Solved D) (from : ℕ) (before : List (AbsFlow D)) (there : value_at s.positions from ≡ Some before) where
    pub filter_due : (to : ℕ) (filter : Filter) (args : List Operand) → AtLine list at (record { from = from; part = Part.Filter to filter args }) a s →
        IsDue d list at (Slot.Position to) (option_and_then (abstract_result d filter list.names) (all_of (argument_at s.positions) args))
    filter_due to filter args l =
        record {
          key = l.key;
          key_is = l.key_is;
          sorts = filter_map flow_sort (results filter);
          sorts_are = l.fits.to_is;
          fits = result_fits D d list.names l.key.positions s.positions l.of.positions_fit filter args l.fits.args_fit;
          below = λ b h t k.
              let p = l.above b h t k in
              let up = above_there (value_at s.positions from) (value_at t.positions from) before there (slot_more D d s t (Slot.Position from) p.0) in
              result_below filter list.names (all_of (argument_at s.positions) args) (all_of (argument_at t.positions) args) (value_at t.positions from) up.0 (value_at t.positions to)
              (arguments_more D d laws s.positions t.positions p.0.positions args) up.1 p.1;
        }

    pub join_due : (to : ℕ) (vars : List Operand) → AtLine list at (record { from = from; part = Part.Join to vars }) a s →
        IsDue d list at (Slot.Position to) (all_of (operand_value s.positions) vars)
    join_due to vars l =
        record {
          key = l.key;
          key_is = l.key_is;
          sorts = l.fits.sorts;
          sorts_are = l.fits.to_is;
          fits = values_fit D d list.names l.key.positions s.positions l.of.positions_fit l.fits.sorts vars l.fits.vars_fit.fit;
          below = λ b h t k.
              let p = l.above b h t k in
              let up = above_there (value_at s.positions from) (value_at t.positions from) before there (slot_more D d s t (Slot.Position from) p.0) in
              values_below (all_of (operand_value s.positions) vars) (all_of (operand_value t.positions) vars) (value_at t.positions from) up.0 (value_at t.positions to)
              (values_more D d laws s.positions t.positions p.0.positions vars) up.1 p.1;
        }

    pub end_due : (vars : List Operand) → AtLine list at (record { from = from; part = Part.End vars }) a s →
        IsDue d list at Slot.Outs (all_of (operand_value s.positions) vars)
    end_due vars l =
        record {
          key = l.key;
          key_is = l.key_is;
          sorts = l.key.outputs;
          sorts_are = refl;
          fits = values_fit D d list.names l.key.positions s.positions l.of.positions_fit l.key.outputs vars l.fits.fit;
          below = λ b h t k.
              let p = l.above b h t k in
              let up = above_there (value_at s.positions from) (value_at t.positions from) before there (slot_more D d s t (Slot.Position from) p.0) in
              values_below (all_of (operand_value s.positions) vars) (all_of (operand_value t.positions) vars) (value_at t.positions from) up.0 t.outs
              (values_more D d laws s.positions t.positions p.0.positions vars) up.1 p.1;
        }

    -- of a call: what its arguments are in a solution, below the called key's inputs there
    record CallAbove (to : ℕ) (hook : HookId) (point : ℕ) (ins : List (AbsFlow D)) (b : List (Solved D)) (t : Solved D) : Type 0 where
      ins_below : outcome_leq d (Some ins) (inputs_at b hook point) ≡ true
      outs_below : outcome_leq d (outputs_at b hook point) (value_at t.positions to) ≡ true

    call_above : (to : ℕ) (hook : HookId) (point : ℕ) (args : List Operand) (ins : List (AbsFlow D)) (b : List (Solved D)) (t : Solved D) →
        all_of (operand_value s.positions) args ≡ Some ins → KeyLies d s t → line_holds d list.names b t (record { from = from; part = Part.Call to hook point args }) ≡ true → CallAbove to hook point ins b t
    call_above to hook point args ins b t e lies h =
        let up = above_there (value_at s.positions from) (value_at t.positions from) before there (slot_more D d s t (Slot.Position from) lies) in
        by (all_of (operand_value t.positions) args) (subst (λ o. Matches (AllZip (FlowLeq D d laws)) o (all_of (operand_value t.positions) args)) e (values_more D d laws s.positions t.positions lies.positions args)) up.0 up.1 h
      where
        by : (o : Option (List (AbsFlow D))) → Matches (AllZip (FlowLeq D d laws)) (Some ins) o → (u : List (AbsFlow D)) → value_at t.positions from ≡ Some u →
            option_map_or (λ more. outcome_leq d (Some more) (inputs_at b hook point) && outcome_leq d (outputs_at b hook point) (value_at t.positions to)) (option_and_then (λ (t : List (AbsFlow D)). o) (value_at t.positions from)) true ≡ true → CallAbove to hook point ins b t
        by None m u k z = absurd m
        by (Some more) m u k z =
            let p = and_parts (outcome_leq d (Some more) (inputs_at b hook point)) (outcome_leq d (outputs_at b hook point) (value_at t.positions to))
            (passes (value_at t.positions from) u (Some more) (λ more. outcome_leq d (Some more) (inputs_at b hook point) && outcome_leq d (outputs_at b hook point) (value_at t.positions to)) more k refl z) in
            record { ins_below = outcome_trans D d laws (Some ins) (Some more) (inputs_at b hook point) (tuples_below D d laws ins more m) p.0; outs_below = p.1 }

    module _ (to : ℕ) (hook : HookId) (point : ℕ) (args : List Operand) (ins : List (AbsFlow D)) (given : all_of (operand_value s.positions) args ≡ Some ins)
        (l : AtLine list at (record { from = from; part = Part.Call to hook point args }) a s) where
      -- where the called key stands
      pub called_place : PlaceOf d list.names list.keys hook point l.fits.called.called
      called_place = place_of D d list.names hook point l.fits.called.called list.keys l.fits.called.called_is

      -- every solution has an entry beside this key's
      partner : (b : List (Solved D)) → Solves d list b → Beside (IsOfKey d list.names) l.key b at
      partner b h = beside (IsOfKey d list.names) list.keys b at l.key h.assigns l.key_is

      pub inputs_due : IsDue d list called_place.at (Slot.Position 0) (Some ins)
      inputs_due =
          record {
            key = l.fits.called.called;
            key_is = called_place.is;
            sorts = l.fits.inputs;
            sorts_are = l.fits.called.inputs_are;
            fits = subst (λ o. outcome_fits d list.names l.fits.inputs o ≡ true) given (values_fit D d list.names l.key.positions s.positions l.of.positions_fit l.fits.inputs args l.fits.args_fit.fit);
            below = λ b h t k.
                let w = partner b h in
                let p = l.above b h w.other w.is in
                let c = call_above to hook point args ins b w.other given p.0 p.1 in
                let i : inputs_at b hook point ≡ value_at t.positions 0 = ap (option_and_then (λ z. value_at z.positions 0)) ((called_place.found b h.assigns).1 ∙ k) in
                subst (λ o. outcome_leq d (Some ins) o ≡ true) i c.ins_below;
          }

      pub outputs_due : (mid : List (Solved D)) → IsUnderway d list mid → (called : Solved D) → slice_get mid called_place.at ≡ Some called → IsDue d list at (Slot.Position to) called.outs
      outputs_due mid u called e =
          record {
            key = l.key;
            key_is = l.key_is;
            sorts = l.fits.outputs;
            sorts_are = l.fits.to_is;
            fits = subst (λ z. outcome_fits d list.names z called.outs ≡ true) l.fits.called.outputs_are (both_at (IsOfKey d list.names) list.keys mid called_place.at l.fits.called.called called u.assigns called_place.is e).outs_fit;
            below = λ b h t k.
                let p = l.above b h t k in
                let c = call_above to hook point args ins b t given p.0 p.1 in
                let w = beside (KeyLies d) mid b called_place.at called (u.below b h) e in
                let o : outputs_at b hook point ≡ w.other.outs = ap (option_and_then (λ z. z.outs)) ((called_place.found b h.assigns).1 ∙ w.is) in
                outcome_trans D d laws called.outs w.other.outs (value_at t.positions to) w.related.outs (subst (λ z. outcome_leq d z (value_at t.positions to) ≡ true) o c.outs_below);
          }

  -- Cover lines.

  pub cover_place : (list : ConstraintList D) (cover : Cover D) (fit : CoverLineFits list.names list.keys cover) → PlaceOf d list.names list.keys cover.hook cover.point fit.called.called
  cover_place list cover fit = place_of D d list.names cover.hook cover.point fit.called.called list.keys fit.called.called_is

  pub cover_due : (list : ConstraintList D) (cover : Cover D) (fit : CoverLineFits list.names list.keys cover) → IsCoverOf list cover → is_proper d cover.ins ≡ true → IsDue d list (cover_place list cover fit).at (Slot.Position 0) (Some cover.ins)
  cover_due list cover fit there proper =
      let place = cover_place list cover fit in
      record {
        key = fit.called.called;
        key_is = place.is;
        sorts = fit.inputs;
        sorts_are = fit.called.inputs_are;
        fits = and_from (has_sorts list.names fit.inputs cover.ins) (is_proper d cover.ins) fit.ins_fit proper;
        below = λ b h t k.
            let i : inputs_at b cover.hook cover.point ≡ value_at t.positions 0 = ap (option_and_then (λ z. value_at z.positions 0)) ((place.found b h.assigns).1 ∙ k) in
            subst (λ o. outcome_leq d (Some cover.ins) o ≡ true) i (each_at (λ c. cover_holds d list.names b c ≡ true) list.covers there.place cover h.covered there.cover_is);
      }

  -- a cover line holds where it lies in its slot
  pub cover_held : (list : ConstraintList D) (cover : Cover D) (fit : CoverLineFits list.names list.keys cover) (a : List (Solved D)) → IsUnderway d list a → LiesIn d (cover_place list cover fit).at (Slot.Position 0) (Some cover.ins) a → cover_holds d list.names a cover ≡ true
  cover_held list cover fit a u h =
      let place = cover_place list cover fit in
      let s = beside (IsOfKey d list.names) list.keys a place.at fit.called.called u.assigns place.is in
      let i : inputs_at a cover.hook cover.point ≡ value_at s.other.positions 0 = ap (option_and_then (λ z. value_at z.positions 0)) ((place.found a u.assigns).1 ∙ s.is) in
      subst (λ o. outcome_leq d (Some cover.ins) o ≡ true) (sym i) (h s.other s.is)

  -- Lines that hold.

  asked_true : {X : Type 0} (read : Operand → Option X) (before : Outcome D) (operands : List Operand) (test : List X → Bool) → ((x : List X) → all_of read operands ≡ Some x → test x ≡ true) → asked read before operands test ≡ true
  asked_true read None operands test h = refl
  asked_true {X} read (Some t) operands test h = by (all_of read operands) h
    where
      by : (o : Option (List X)) → ((x : List X) → o ≡ Some x → test x ≡ true) → option_map_or test o true ≡ true
      by None k = refl
      by (Some x) k = k x refl

  none_before : (names : ℕ) (a : List (Solved D)) (s : Solved D) (part : Part) → part_holds d names a s None part ≡ true
  none_before names a s (Part.Filter to filter args) = refl
  none_before names a s (Part.Call to hook point args) = refl
  none_before names a s (Part.Join to vars) = refl
  none_before names a s (Part.End vars) = refl

  module _ (names : ℕ) (a : List (Solved D)) (at : ℕ) (s : Solved D) (entry : slice_get a at ≡ Some s) where
    -- a line with nothing at the position before it
    pub idle_held : (line : Line) → value_at s.positions line.from ≡ None → LineHolds d names at line a
    idle_held line e t k = subst (λ z. line_holds d names a z line ≡ true) (same_some (sym entry ∙ k)) (subst (λ o. part_holds d names a s o line.part ≡ true) (sym e) (none_before names a s line.part))

    pub filter_held : (from to : ℕ) (filter : Filter) (args : List Operand) → LiesIn d at (Slot.Position to) (option_and_then (abstract_result d filter names) (all_of (argument_at s.positions) args)) a → LineHolds d names at (record { from = from; part = Part.Filter to filter args }) a
    filter_held from to filter args h t k =
        subst (λ z. line_holds d names a z (record { from = from; part = Part.Filter to filter args }) ≡ true) (same_some (sym entry ∙ k))
        (asked_true (argument_at s.positions) (value_at s.positions from) args (λ given. outcome_leq d (abstract_result d filter names given) (value_at s.positions to))
        (λ x e. subst (λ o. outcome_leq d (option_and_then (abstract_result d filter names) o) (value_at s.positions to) ≡ true) e (h s entry)))

    pub join_held : (from to : ℕ) (vars : List Operand) → LiesIn d at (Slot.Position to) (all_of (operand_value s.positions) vars) a → LineHolds d names at (record { from = from; part = Part.Join to vars }) a
    join_held from to vars h t k =
        subst (λ z. line_holds d names a z (record { from = from; part = Part.Join to vars }) ≡ true) (same_some (sym entry ∙ k))
        (asked_true (operand_value s.positions) (value_at s.positions from) vars (λ values. outcome_leq d (Some values) (value_at s.positions to))
        (λ x e. subst (λ o. outcome_leq d o (value_at s.positions to) ≡ true) e (h s entry)))

    pub end_held : (from : ℕ) (vars : List Operand) → LiesIn d at Slot.Outs (all_of (operand_value s.positions) vars) a → LineHolds d names at (record { from = from; part = Part.End vars }) a
    end_held from vars h t k =
        subst (λ z. line_holds d names a z (record { from = from; part = Part.End vars }) ≡ true) (same_some (sym entry ∙ k))
        (asked_true (operand_value s.positions) (value_at s.positions from) vars (λ values. outcome_leq d (Some values) s.outs)
        (λ x e. subst (λ o. outcome_leq d o s.outs ≡ true) e (h s entry)))

    -- a call whose arguments aren't there
    pub uncalled_held : (from to : ℕ) (hook : HookId) (point : ℕ) (args : List Operand) → all_of (operand_value s.positions) args ≡ None → LineHolds d names at (record { from = from; part = Part.Call to hook point args }) a
    uncalled_held from to hook point args e t k =
        subst (λ z. line_holds d names a z (record { from = from; part = Part.Call to hook point args }) ≡ true) (same_some (sym entry ∙ k))
        (asked_true (operand_value s.positions) (value_at s.positions from) args _ (λ x f. absurd (let z : None ≡ Some x = sym e ∙ f in cc)))

    -- a call whose arguments lie in the called key's inputs, and the key's outputs in its position
    pub call_held : (from to : ℕ) (hook : HookId) (point : ℕ) (args : List Operand) (ins : List (AbsFlow D)) (called : ℕ) (other : Solved D) → all_of (operand_value s.positions) args ≡ Some ins → find (is_of_key hook point) a ≡ slice_get a called → slice_get a called ≡ Some other →
        LiesIn d called (Slot.Position 0) (Some ins) a → LiesIn d at (Slot.Position to) other.outs a → LineHolds d names at (record { from = from; part = Part.Call to hook point args }) a
    call_held from to hook point args ins called other e found is h i t k =
        subst (λ z. line_holds d names a z (record { from = from; part = Part.Call to hook point args }) ≡ true) (same_some (sym entry ∙ k))
        (asked_true (operand_value s.positions) (value_at s.positions from) args (λ given. outcome_leq d (Some given) (inputs_at a hook point) && outcome_leq d (outputs_at a hook point) (value_at s.positions to))
        (λ x f.
        let same : ins ≡ x = same_some (sym e ∙ f) in
        let inputs : inputs_at a hook point ≡ value_at other.positions 0 = ap (option_and_then (λ z. value_at z.positions 0)) (found ∙ is) in
        let outputs : outputs_at a hook point ≡ other.outs = ap (option_and_then (λ z. z.outs)) (found ∙ is) in
        and_from (outcome_leq d (Some x) (inputs_at a hook point)) (outcome_leq d (outputs_at a hook point) (value_at s.positions to))
        (subst (λ z. outcome_leq d (Some z) (inputs_at a hook point) ≡ true) same (subst (λ o. outcome_leq d (Some ins) o ≡ true) (sym inputs) (h other is)))
        (subst (λ o. outcome_leq d o (value_at s.positions to) ≡ true) (sym outputs) (i s entry))))

  -- The same, from a line as it stands in the list.

  module _ (list : ConstraintList D) (at : ℕ) (line : Line) (a : List (Solved D)) (fit : ConstraintsFit list) (u : IsUnderway d list a) (l : IsLineOf list at line) where
    pub line_entry : at < length a
    line_entry = let b = beside (IsOfKey d list.names) list.keys a at l.key u.assigns l.key_is in slice_get_within a at b.other b.is

    pub fits_of : (part : Part) → line.part ≡ part → PartFits list.names list.keys l.key part
    fits_of part e =
        subst (PartFits list.names list.keys l.key) e (each_at (LineFits list.names list.keys l.key) l.key.lines l.place line (each_at (LinesFit list.names list.keys) list.keys at l.key fit.lines_fit l.key_is) l.line_is).part_fits

    module _ (s : Solved D) (entry : slice_get a at ≡ Some s) where
      pub part_at : (part : Part) → line.part ≡ part → AtLine list at (record { from = line.from; part = part }) a s
      part_at part e = subst (λ p. AtLine list at (record { from = line.from; part = p }) a s) e (at_line list at line a s fit u l entry)

      pub idle_steps : value_at s.positions line.from ≡ None → IsStep d list (LineHolds d list.names at line) a a false
      idle_steps e = still_step D d list (LineHolds d list.names at line) a u (idle_held list.names a at s entry line e)

      module _ (before : List (AbsFlow D)) (there : value_at s.positions line.from ≡ Some before) where
        pub filter_asks : (to : ℕ) (filter : Filter) (args : List Operand) (outs : Outcome D) → line.part ≡ Part.Filter to filter args → outs ≡ option_and_then (abstract_result d filter list.names) (all_of (argument_at s.positions) args) → IsDue d list at (Slot.Position to) outs
        filter_asks to filter args outs e k = subst (IsDue d list at (Slot.Position to)) (sym k) (filter_due list at a s line.from before there to filter args (part_at (Part.Filter to filter args) e))

        pub filter_steps : (to : ℕ) (filter : Filter) (args : List Operand) (outs : Outcome D) (new : List (Solved D)) (c : Bool) → line.part ≡ Part.Filter to filter args → outs ≡ option_and_then (abstract_result d filter list.names) (all_of (argument_at s.positions) args) →
            IsStep d list (LiesIn d at (Slot.Position to) outs) a new c → IsStep d list (LineHolds d list.names at line) a new c
        filter_steps to filter args outs new c e k step =
            step_more D d list (LiesIn d at (Slot.Position to) outs) (LineHolds d list.names at line) a new c
            (λ h. subst (λ p. LineHolds d list.names at (record { from = line.from; part = p }) a) (sym e) (filter_held list.names a at s entry line.from to filter args (subst (λ o. LiesIn d at (Slot.Position to) o a) k h))) step

        pub join_asks : (to : ℕ) (vars : List Operand) (values : Outcome D) → line.part ≡ Part.Join to vars → values ≡ all_of (operand_value s.positions) vars → IsDue d list at (Slot.Position to) values
        join_asks to vars values e k = subst (IsDue d list at (Slot.Position to)) (sym k) (join_due list at a s line.from before there to vars (part_at (Part.Join to vars) e))

        pub join_steps : (to : ℕ) (vars : List Operand) (values : Outcome D) (new : List (Solved D)) (c : Bool) → line.part ≡ Part.Join to vars → values ≡ all_of (operand_value s.positions) vars →
            IsStep d list (LiesIn d at (Slot.Position to) values) a new c → IsStep d list (LineHolds d list.names at line) a new c
        join_steps to vars values new c e k step =
            step_more D d list (LiesIn d at (Slot.Position to) values) (LineHolds d list.names at line) a new c
            (λ h. subst (λ p. LineHolds d list.names at (record { from = line.from; part = p }) a) (sym e) (join_held list.names a at s entry line.from to vars (subst (λ o. LiesIn d at (Slot.Position to) o a) k h))) step

        pub end_asks : (vars : List Operand) (values : Outcome D) → line.part ≡ Part.End vars → values ≡ all_of (operand_value s.positions) vars → IsDue d list at Slot.Outs values
        end_asks vars values e k = subst (IsDue d list at Slot.Outs) (sym k) (end_due list at a s line.from before there vars (part_at (Part.End vars) e))

        pub end_steps : (vars : List Operand) (values : Outcome D) (new : List (Solved D)) (c : Bool) → line.part ≡ Part.End vars → values ≡ all_of (operand_value s.positions) vars →
            IsStep d list (LiesIn d at Slot.Outs values) a new c → IsStep d list (LineHolds d list.names at line) a new c
        end_steps vars values new c e k step =
            step_more D d list (LiesIn d at Slot.Outs values) (LineHolds d list.names at line) a new c
            (λ h. subst (λ p. LineHolds d list.names at (record { from = line.from; part = p }) a) (sym e) (end_held list.names a at s entry line.from vars (subst (λ o. LiesIn d at Slot.Outs o a) k h))) step

        pub uncalled_steps : (to : ℕ) (hook : HookId) (point : ℕ) (args : List Operand) → line.part ≡ Part.Call to hook point args → all_of (operand_value s.positions) args ≡ None → IsStep d list (LineHolds d list.names at line) a a false
        uncalled_steps to hook point args e k =
            still_step D d list (LineHolds d list.names at line) a u
            (subst (λ p. LineHolds d list.names at (record { from = line.from; part = p }) a) (sym e) (uncalled_held list.names a at s entry line.from to hook point args k))

        module _ (to : ℕ) (hook : HookId) (point : ℕ) (args : List Operand) (ins : List (AbsFlow D)) (e : line.part ≡ Part.Call to hook point args) (given : all_of (operand_value s.positions) args ≡ Some ins) where
          pub place_called : PlaceOf d list.names list.keys hook point (part_at (Part.Call to hook point args) e).fits.called.called
          place_called = called_place list at a s line.from before there to hook point args ins given (part_at (Part.Call to hook point args) e)

          pub called_asks : IsDue d list place_called.at (Slot.Position 0) (Some ins)
          unfolding place_called called_place
          called_asks = inputs_due list at a s line.from before there to hook point args ins given (part_at (Part.Call to hook point args) e)

          pub called_within : (mid : List (Solved D)) → IsUnderway d list mid → place_called.at < length mid
          called_within mid v = let b = beside (IsOfKey d list.names) list.keys mid place_called.at _ v.assigns place_called.is in slice_get_within mid place_called.at b.other b.is

          pub answer_due : (mid : List (Solved D)) → IsUnderway d list mid → (called : Solved D) → slice_get mid place_called.at ≡ Some called → IsDue d list at (Slot.Position to) called.outs
          unfolding place_called called_place
          answer_due = outputs_due list at a s line.from before there to hook point args ins given (part_at (Part.Call to hook point args) e)

          pub call_steps : (mid new : List (Solved D)) (called : Solved D) (f k : Bool) → slice_get mid place_called.at ≡ Some called → IsStep d list (LiesIn d place_called.at (Slot.Position 0) (Some ins)) a mid f → IsStep d list (LiesIn d at (Slot.Position to) called.outs) mid new k →
              IsStep d list (LineHolds d list.names at line) a new (f || k)
          call_steps mid new called f k is first second =
              step_more D d list _ (LineHolds d list.names at line) a new (f || k)
              (λ h. subst (λ p. LineHolds d list.names at (record { from = line.from; part = p }) a) (sym e)
              (call_held list.names a at s entry line.from to hook point args ins place_called.at called given (place_called.found a u.assigns).1 (subst (λ z. slice_get z place_called.at ≡ Some called) (sym h.0.1) is) h.0.0 h.1))
              (two_steps D d list (λ x. LiesIn d place_called.at (Slot.Position 0) (Some ins) x × (x ≡ mid)) (LiesIn d at (Slot.Position to) called.outs) a mid new f k
              (step_here D d list (LiesIn d place_called.at (Slot.Position 0) (Some ins)) a mid f first) second)
