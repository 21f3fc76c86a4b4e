-- A raise of one slot keeps an assignment below every solution, and lowers the rank where it changes it.
use Rattle.std.proofs.Common.{◌≡◌, ℕ, zero, suc, ◌<◌, Bool, true, false, not, List, [], ◌∷◌, length, Some, None, refl, sym, ◌∙◌, ap, subst, arith}
use Rattle.std.specs.Prelude.{slice_get, slice_set, unwrap_or, IfSome}
use Rattle.std.specs.List.{AllZip}
use Rattle.std.proofs.lemmas.Bool.{and_parts, and_from}
use Rattle.std.proofs.lemmas.Option.{slice_get_within}
use Rattle.sk_base.specs.declared.flow.FlowSort.{FlowSort}
use Rattle.sk_lattice.specs.declared.flow.AbsFlow.{AbsFlow}
use Rattle.sk_lattice.specs.Domain.{Domain}
use Rattle.sk_lattice.specs.DomainLaws.{DomainLaws, FiniteLaw}
use Rattle.sk_lattice.specs.Empty.{is_proper}
use Rattle.sk_lattice.specs.Merge.{Join, tuple_merge}
use Rattle.sk_lattice.specs.Order.{tuples_fit}
use Rattle.sk_lattice.specs.Shapes.{has_sorts}
use Rattle.sk_lattice.proofs.SortLemmas.{shape_laws}
use Rattle.sk_lattice.proofs.Tuples.{tuple_laws}
use Rattle.sk_absfilter.specs.Abstract.{Outcome}
use Rattle.sk_absfilter.specs.Laws.{outcome_leq}
use Rattle.sk_constr.specs.declared.line.KeyLines.{KeyLines}
use Rattle.sk_constr.specs.declared.constraint_list.ConstraintList.{ConstraintList}
use Rattle.sk_solve.specs.declared.assignment.Solved.{Solved}
use Rattle.sk_solve.specs.declared.slot.Slot.{Slot}
use Rattle.sk_solve.specs.Solves.{outcome_fits, IsOfKey, KeyLies}
use Rattle.sk_solve.specs.Climbing.{slot_of, with_slot, slot_sorts, joined, stays, raised, slot_rank, entry_rank, total_rank, IsUnderway, IsDue, IsStep, LiesIn}
use Rattle.sk_solve.proofs.Places.{set_left, set_right, beside, both_at, same_some, sum_falls}
use Rattle.sk_solve.proofs.Ranks.{joined_falls}

module _ (D : Type 0) (d : Domain D) where
  -- the value of a slot fits it
  slot_fits : (names : ℕ) (key : KeyLines) (s : Solved D) (slot : Slot) (sorts : List FlowSort) → IsOfKey d names key s → slot_sorts slot key ≡ Some sorts → outcome_fits d names sorts (slot_of slot s) ≡ true
  slot_fits names key s (Slot.Position p) sorts h e =
      let b = beside (λ (ss : List FlowSort) o. outcome_fits d names ss o ≡ true) key.positions s.positions p sorts h.positions_fit e in
      subst (λ o. outcome_fits d names sorts (unwrap_or o None) ≡ true) (sym b.is) b.related
  slot_fits names key s Slot.Outs sorts h e = let same : key.outputs ≡ sorts = cc in subst (λ ss. outcome_fits d names ss s.outs ≡ true) same h.outs_fit

  -- an entry in which a slot has something else that fits it
  slot_kept : (names : ℕ) (key : KeyLines) (s : Solved D) (slot : Slot) (sorts : List FlowSort) (o : Outcome D) → IsOfKey d names key s → slot_sorts slot key ≡ Some sorts → outcome_fits d names sorts o ≡ true → IsOfKey d names key (with_slot slot o s)
  slot_kept names key s (Slot.Position p) sorts o h e k =
      record {
        same_hook = h.same_hook;
        same_point = h.same_point;
        positions_fit = set_right (λ (ss : List FlowSort) x. outcome_fits d names ss x ≡ true) key.positions s.positions p o h.positions_fit
            (λ ss f. let same : sorts ≡ ss = same_sorts (sym e ∙ f) in subst (λ z. outcome_fits d names z o ≡ true) same k);
        outs_fit = h.outs_fit;
      }
    where
      same_sorts : {x y : List FlowSort} → Some x ≡ Some y → x ≡ y
      same_sorts e = cc
  slot_kept names key s Slot.Outs sorts o h e k =
      let same : sorts ≡ key.outputs = cc in
      record { same_hook = h.same_hook; same_point = h.same_point; positions_fit = h.positions_fit; outs_fit = subst (λ z. outcome_fits d names z o ≡ true) same k }

  -- an entry lies below another where a slot has something else that lies below
  slot_below : (s t : Solved D) (slot : Slot) (o : Outcome D) → KeyLies d s t → outcome_leq d o (slot_of slot t) ≡ true → KeyLies d (with_slot slot o s) t
  slot_below s t (Slot.Position p) o h k =
      record {
        positions = set_left (λ x y. outcome_leq d x y ≡ true) s.positions t.positions p o h.positions (λ y e. subst (λ z. outcome_leq d o (unwrap_or z None) ≡ true) e k);
        outs = h.outs;
      }
  slot_below s t Slot.Outs o h k = record { positions = h.positions; outs = k }

  -- what a slot has lies below what it has in an entry above
  pub slot_more : (s t : Solved D) (slot : Slot) → KeyLies d s t → outcome_leq d (slot_of slot s) (slot_of slot t) ≡ true
  slot_more s t (Slot.Position p) h = value_more s.positions t.positions p h.positions
    where
      value_more : (xs ys : List (Outcome D)) (i : ℕ) → AllZip (λ x y. outcome_leq d x y ≡ true) xs ys → outcome_leq d (unwrap_or (slice_get xs i) None) (unwrap_or (slice_get ys i) None) ≡ true
      value_more [] ys i h = refl
      value_more (x ∷ xs) [] i h = absurd h
      value_more (x ∷ xs) (y ∷ ys) zero h = h.0
      value_more (x ∷ xs) (y ∷ ys) (suc i) h = value_more xs ys i h.1
  slot_more s t Slot.Outs h = h.outs

  -- an entry in which a slot ranks lower
  slot_falls : (names : ℕ) (key : KeyLines) (s : Solved D) (slot : Slot) (sorts : List FlowSort) (o : Outcome D) → IsOfKey d names key s → slot_sorts slot key ≡ Some sorts → slot_rank d names sorts o < slot_rank d names sorts (slot_of slot s) →
      entry_rank d names key (with_slot slot o s) < entry_rank d names key s
  slot_falls names key s (Slot.Position p) sorts o h e l =
      let b = beside (λ (ss : List FlowSort) x. outcome_fits d names ss x ≡ true) key.positions s.positions p sorts h.positions_fit e in
      let m : slot_rank d names sorts o < slot_rank d names sorts b.other = subst (λ z. slot_rank d names sorts o < slot_rank d names sorts (unwrap_or z None)) b.is l in
      omega (arith, sum_falls (slot_rank d names) key.positions s.positions p sorts b.other o e b.is m)
  slot_falls names key s Slot.Outs sorts o h e l =
      let same : sorts ≡ key.outputs = cc in
      let m : slot_rank d names key.outputs o < slot_rank d names key.outputs s.outs = subst (λ z. slot_rank d names z o < slot_rank d names z s.outs) same l in
      omega (arith, m)

  -- what a slot has, and a tuple that is due there, fit each other
  pub slots_join : (names : ℕ) (sorts : List FlowSort) (have : Outcome D) (asked : List (AbsFlow D)) → outcome_fits d names sorts have ≡ true → outcome_fits d names sorts (Some asked) ≡ true → IfSome have (λ t. tuples_fit t asked ≡ true)
  slots_join names sorts None asked h k = tt
  slots_join names sorts (Some t) asked h k =
      (shape_laws D d).sorts_fit names sorts t asked (and_parts (has_sorts names sorts t) (is_proper d t) h).0 (and_parts (has_sorts names sorts asked) (is_proper d asked) k).0

  pub due_joins : (list : ConstraintList D) (at : ℕ) (slot : Slot) (asked : List (AbsFlow D)) (a : List (Solved D)) (s : Solved D) → IsUnderway d list a → IsDue d list at slot (Some asked) → slice_get a at ≡ Some s → IfSome (slot_of slot s) (λ t. tuples_fit t asked ≡ true)
  due_joins list at slot asked a s u due e =
      let of = both_at (IsOfKey d list.names) list.keys a at due.key s u.assigns due.key_is e in
      slots_join list.names due.sorts (slot_of slot s) asked (slot_fits list.names due.key s slot due.sorts of due.sorts_are) due.fits

  -- the key of what is due has an entry
  pub due_entry : (list : ConstraintList D) (at : ℕ) (slot : Slot) (asked : Outcome D) (a : List (Solved D)) → IsUnderway d list a → IsDue d list at slot asked → at < length a
  due_entry list at slot asked a u due =
      let b = beside (IsOfKey d list.names) list.keys a at due.key u.assigns due.key_is in
      slice_get_within a at b.other b.is

module _ (D : Type 0) (d : Domain D) (laws : DomainLaws d) (is_finite : FiniteLaw true d) where
  joined_fits : (names : ℕ) (sorts : List FlowSort) (have : Outcome D) (asked : List (AbsFlow D)) → outcome_fits d names sorts have ≡ true → outcome_fits d names sorts (Some asked) ≡ true → outcome_fits d names sorts (Some (joined d have asked)) ≡ true
  joined_fits names sorts None asked h k = k
  joined_fits names sorts (Some t) asked h k =
      let p = and_parts (has_sorts names sorts t) (is_proper d t) h in
      let q = and_parts (has_sorts names sorts asked) (is_proper d asked) k in
      and_from (has_sorts names sorts (tuple_merge d Join t asked)) (is_proper d (tuple_merge d Join t asked)) ((shape_laws D d).join_sorts names sorts t asked p.0 q.0)
      ((tuple_laws D d laws).proper_more t (tuple_merge d Join t asked) ((tuple_laws D d laws).join_left t asked ((shape_laws D d).sorts_fit names sorts t asked p.0 q.0)) p.1)

  joined_least : (have : Outcome D) (asked : List (AbsFlow D)) (above : Outcome D) → outcome_leq d have above ≡ true → outcome_leq d (Some asked) above ≡ true → outcome_leq d (Some (joined d have asked)) above ≡ true
  joined_least None asked above h k = k
  joined_least (Some t) asked None h k = h
  joined_least (Some t) asked (Some u) h k = (tuple_laws D d laws).join_least t asked u h k

  module _ (list : ConstraintList D) (at : ℕ) (slot : Slot) where
    -- the assignment in which a slot has the join of what it had and what is due
    lifted : (asked : List (AbsFlow D)) (a : List (Solved D)) (s : Solved D) → IsUnderway d list a → (due : IsDue d list at slot (Some asked)) → slice_get a at ≡ Some s → IsUnderway d list (slice_set a at (with_slot slot (Some (joined d (slot_of slot s) asked)) s))
    lifted asked a s u due e =
        let of = both_at (IsOfKey d list.names) list.keys a at due.key s u.assigns due.key_is e in
        let fits = joined_fits list.names due.sorts (slot_of slot s) asked (slot_fits D d list.names due.key s slot due.sorts of due.sorts_are) due.fits in
        record {
          assigns = set_right (IsOfKey d list.names) list.keys a at _ u.assigns
              (λ key k. slot_kept D d list.names key s slot due.sorts _ (both_at (IsOfKey d list.names) list.keys a at key s u.assigns k e) (same_key key k due) fits);
          below = λ b h. set_left (KeyLies d) a b at _ (u.below b h)
              (λ t k.
              let lies = both_at (KeyLies d) a b at s t (u.below b h) e k in
              slot_below D d s t slot _ lies (joined_least (slot_of slot s) asked (slot_of slot t) (slot_more D d s t slot lies) (due.below b h t k)));
        }
      where
        same_key : (key : KeyLines) → slice_get list.keys at ≡ Some key → (due : IsDue d list at slot (Some asked)) → slot_sorts slot key ≡ Some due.sorts
        same_key key k due = let same : due.key ≡ key = cc_key (sym due.key_is ∙ k) in subst (λ z. slot_sorts slot z ≡ Some due.sorts) same due.sorts_are
          where
            cc_key : {x y : KeyLines} → Some x ≡ Some y → x ≡ y
            cc_key e = cc

    lifted_falls : (asked : List (AbsFlow D)) (a : List (Solved D)) (s : Solved D) → IsUnderway d list a → (due : IsDue d list at slot (Some asked)) → slice_get a at ≡ Some s → stays d slot asked s ≡ false →
        total_rank d list (slice_set a at (with_slot slot (Some (joined d (slot_of slot s) asked)) s)) < total_rank d list a
    lifted_falls asked a s u due e n =
        let of = both_at (IsOfKey d list.names) list.keys a at due.key s u.assigns due.key_is e in
        sum_falls (entry_rank d list.names) list.keys a at due.key s _ due.key_is e
        (slot_falls D d list.names due.key s slot due.sorts _ of due.sorts_are
        (joined_falls D d laws is_finite list.names due.sorts (slot_of slot s) asked (slot_fits D d list.names due.key s slot due.sorts of due.sorts_are) due.fits n))

    -- the raise of a slot is a step
    pub raise_steps : (asked : List (AbsFlow D)) (a : List (Solved D)) (s : Solved D) (changed : Bool) → IsUnderway d list a → IsDue d list at slot (Some asked) → slice_get a at ≡ Some s → slice_set a at s ≡ a → changed ≡ not (stays d slot asked s) →
        IsStep d list (LiesIn d at slot (Some asked)) a (slice_set a at (raised d slot asked s)) changed
    raise_steps asked a s changed u due e same c = by (stays d slot asked s) refl
      where
        by : (b : Bool) → stays d slot asked s ≡ b → IsStep d list (LiesIn d at slot (Some asked)) a (slice_set a at (raised d slot asked s)) changed
        by true h =
            let new : raised d slot asked s ≡ s = rw h refl in
            let is : changed ≡ false = c ∙ ap not h in
            let back : slice_set a at (raised d slot asked s) ≡ a = ap (λ z. slice_set a at z) new ∙ same in
            record {
              underway = subst (IsUnderway d list) (sym back) u;
              falls = λ t. absurd (let e : true ≡ false = sym t ∙ is in cc);
              still = λ f. (back, λ t k. let one : s ≡ t = same_some (sym e ∙ subst (λ z. slice_get z at ≡ Some t) back k) in subst (λ z. outcome_leq d (Some asked) (slot_of slot z) ≡ true) one h);
            }
        by false h =
            let new : raised d slot asked s ≡ with_slot slot (Some (joined d (slot_of slot s) asked)) s = rw h refl in
            let is : changed ≡ true = c ∙ ap not h in
            record {
              underway = subst (λ z. IsUnderway d list (slice_set a at z)) (sym new) (lifted asked a s u due e);
              falls = λ t. subst (λ z. total_rank d list (slice_set a at z) < total_rank d list a) (sym new) (lifted_falls asked a s u due e h);
              still = λ f. absurd (let e : true ≡ false = sym is ∙ f in cc);
            }
