-- Tuples of which some stores were padded.
use Rattle.std.proofs.Common.{◌≡◌, ℕ, zero, suc, ◌+◌, ◌-◌, ◌<◌, ◌≤◌, Bool, true, false, not, List, [], ◌∷◌, ◌++◌, length, get_or, map, take, drop, replicate, Result, Ok, Err, refl, sym, ap, ◌∙◌, subst, arith, add-one, append_assoc}
use Rattle.std.specs.Prelude.{slice_set, OnOk, OnErr}
use Rattle.std.specs.List.{AllZip, list_all}
use Rattle.std.proofs.lemmas.Bool.{and_parts, and_from, and_right}
use Rattle.std.proofs.Math.Seq.{take-append_seam}
use Rattle.std.proofs.lemmas.List.{append-nil, replicate_more}
use Rattle.sk_lattice.specs.declared.cell.AbsCell.{AbsCell}
use Rattle.sk_lattice.specs.declared.store.AbsStore.TheVariants.{Empty, Cells}
use Rattle.sk_lattice.specs.declared.flow.AbsFlow.{AbsFlow}
use Rattle.sk_lattice.specs.declared.flow.AbsFlow.TheVariants as flow
use Rattle.sk_lattice.specs.Domain.{Domain}
use Rattle.sk_lattice.specs.Empty.{IsTuple, cell_is_empty, val_is_empty, flow_is_proper, is_proper}
use Rattle.sk_lattice.specs.Padding.{unset_cell, padded_cells, padded_flow, IsPartlyPadded, FlowIsPartlyPadded}

pub on_err : {T E P : Type 0} (r : Result T E) → P → OnErr r P
on_err (Ok x) p = tt
on_err (Err e) p = p

all_append : {A : Type 0} (p : A → Bool) (xs ys : List A) → list_all p xs ≡ true → list_all p ys ≡ true → list_all p (xs ++ ys) ≡ true
all_append p [] ys h k = k
all_append p (x ∷ xs) ys h k = let e = and_parts _ _ h in and_from _ _ e.0 (all_append p xs ys e.1 k)

all_replicate : {A : Type 0} (p : A → Bool) (n : ℕ) (x : A) → p x ≡ true → list_all p (replicate n x) ≡ true
all_replicate p zero x h = refl
all_replicate p (suc n) x h = and_from _ _ h (all_replicate p n x h)

-- a turn of the loop that puts the same entry at the end until there are enough
pub one_more : {A : Type 0} (old now now2 : List A) (u x : A) (begun at : ℕ) → begun ≤ at → now ≡ old ++ replicate (at - begun) u → now2 ≡ now ++ x ∷ [] → x ≡ u → now2 ≡ old ++ replicate (at + 1 - begun) u
one_more old now now2 u x begun at h is more same =
    let next : at - begun + 1 ≡ at + 1 - begun = omega arith in
    more ∙ ap (λ y. now ++ y ∷ []) same ∙ ap (λ ys. ys ++ u ∷ []) is ∙ append_assoc old (replicate (at - begun) u) (u ∷ []) ∙ ap (λ ys. old ++ ys) (replicate_more (at - begun) u ∙ ap (λ n. replicate n u) next)

-- a turn of the loop that changes each entry in its place
set_turn : {A : Type 0} (f : A → A) (old : List A) (at : ℕ) (item x : A) → at < length old → x ≡ f (get_or (map f (take at old) ++ drop at old) at item) → slice_set (map f (take at old) ++ drop at old) at x ≡ map f (take (suc at) old) ++ drop (suc at) old
set_turn f [] at item x h e = absurd (omega arith)
set_turn f (y ∷ ys) zero item x h e = ap (λ z. z ∷ ys) e
set_turn f (y ∷ ys) (suc at) item x h e = ap (λ zs. f y ∷ zs) (set_turn f ys at item x (omega arith) e)

pub map_turn : {A : Type 0} (f : A → A) (old now : List A) (at : ℕ) (item x : A) → now ≡ map f (take at old) ++ drop at old → at < length old → x ≡ f (get_or now at item) → slice_set now at x ≡ map f (take (at + 1) old) ++ drop (at + 1) old
map_turn f old now at item x is h e =
    rw add-one (ap (λ l. slice_set l at x) is ∙ set_turn f old at item x h (e ∙ ap (λ l. f (get_or l at item)) is))

-- what is written back
refilled : {A : Type 0} (n : ℕ) (new inside : List A) → n ≡ length inside → length inside ≡ length new → take n (new ++ drop (length new) inside) ≡ new
refilled n new inside h k = ap (λ m. take m (new ++ drop (length new) inside)) (h ∙ k) ∙ take-append_seam new (drop (length new) inside)

module _ (D : Type 0) (d : Domain D) where
  not_yet : (names : ℕ) (x : AbsFlow D) → FlowIsPartlyPadded d names x x
  not_yet names (flow.Int a) = refl
  not_yet names (flow.Bool a) = refl
  not_yet names (flow.Val a) = refl
  not_yet names (flow.Store Empty) = refl
  not_yet names (flow.Store (Cells xs)) = (xs, refl, record { gained = 0; at_most = omega arith; cells = sym (append-nil xs) })

  all_of_it : (names : ℕ) (x : AbsFlow D) → FlowIsPartlyPadded d names x (padded_flow d names x)
  all_of_it names (flow.Int a) = refl
  all_of_it names (flow.Bool a) = refl
  all_of_it names (flow.Val a) = refl
  all_of_it names (flow.Store Empty) = refl
  all_of_it names (flow.Store (Cells xs)) = (padded_cells d names xs, refl, record { gained = names - length xs; at_most = omega arith; cells = refl })

  not_yet_all : (names : ℕ) (xs : List (AbsFlow D)) → AllZip (FlowIsPartlyPadded d names) xs xs
  not_yet_all names [] = tt
  not_yet_all names (x ∷ xs) = (not_yet names x, not_yet_all names xs)

  all_padded : (names : ℕ) (xs : List (AbsFlow D)) → AllZip (FlowIsPartlyPadded d names) xs (map (padded_flow d names) xs)
  all_padded names [] = tt
  all_padded names (x ∷ xs) = (all_of_it names x, all_padded names xs)

  -- the flows before this place are padded, that in it partly so
  padded_until : (names at : ℕ) (old : List (AbsFlow D)) (item x : AbsFlow D) → FlowIsPartlyPadded d names (get_or (map (padded_flow d names) (take at old) ++ drop at old) at item) x
      → AllZip (FlowIsPartlyPadded d names) old (slice_set (map (padded_flow d names) (take at old) ++ drop at old) at x)
  padded_until names zero [] item x p = tt
  padded_until names (suc at) [] item x p = tt
  padded_until names zero (first ∷ old) item x p = (p, not_yet_all names old)
  padded_until names (suc at) (first ∷ old) item x p = (all_of_it names first, padded_until names at old item x p)

  -- what is left where the padding of a place was refused
  pub partly_padded : (names at : ℕ) (old now : List (AbsFlow D)) (item x : AbsFlow D) → now ≡ map (padded_flow d names) (take at old) ++ drop at old
      → FlowIsPartlyPadded d names (get_or now at item) x → AllZip (FlowIsPartlyPadded d names) old (slice_set now at x)
  partly_padded names at old now item x is p =
      subst (λ l. AllZip (FlowIsPartlyPadded d names) old (slice_set l at x)) (sym is) (padded_until names at old item x (subst (λ l. FlowIsPartlyPadded d names (get_or l at item) x) is p))

  unset_full : not (cell_is_empty d (unset_cell d)) ≡ true
  unset_full = ap not (and_right (val_is_empty d (unset_cell d).val) false refl)

  cells_full : (names : ℕ) (old new : List (AbsCell D)) → IsPartlyPadded d names old new → list_all (λ c. not (cell_is_empty d c)) old ≡ true → list_all (λ c. not (cell_is_empty d c)) new ≡ true
  cells_full names old new p h = rw p.cells (all_append (λ c. not (cell_is_empty d c)) old (replicate p.gained (unset_cell d)) h (all_replicate (λ c. not (cell_is_empty d c)) p.gained (unset_cell d) unset_full))

  flow_full : (names : ℕ) (old new : AbsFlow D) → FlowIsPartlyPadded d names old new → flow_is_proper d old ≡ true → flow_is_proper d new ≡ true
  flow_full names (flow.Int a) new p h = subst (λ x. flow_is_proper d x ≡ true) (sym p) h
  flow_full names (flow.Bool a) new p h = subst (λ x. flow_is_proper d x ≡ true) (sym p) h
  flow_full names (flow.Val a) new p h = subst (λ x. flow_is_proper d x ≡ true) (sym p) h
  flow_full names (flow.Store Empty) new p h = subst (λ x. flow_is_proper d x ≡ true) (sym p) h
  flow_full names (flow.Store (Cells xs)) new p h = subst (λ x. flow_is_proper d x ≡ true) (sym p.1) (cells_full names xs p.0 p.2 h)

  flows_full : (names : ℕ) (old new : List (AbsFlow D)) → AllZip (FlowIsPartlyPadded d names) old new → is_proper d old ≡ true → is_proper d new ≡ true
  flows_full names [] [] p h = refl
  flows_full names [] (y ∷ ys) p h = absurd p
  flows_full names (x ∷ xs) [] p h = absurd p
  flows_full names (x ∷ xs) (y ∷ ys) p h = let e = and_parts _ _ h in and_from _ _ (flow_full names x y p.0 e.0) (flows_full names xs ys p.1 e.1)

  flows_as_long : (names : ℕ) (old new : List (AbsFlow D)) → AllZip (FlowIsPartlyPadded d names) old new → length old ≡ length new
  flows_as_long names [] [] p = refl
  flows_as_long names [] (y ∷ ys) p = absurd p
  flows_as_long names (x ∷ xs) [] p = absurd p
  flows_as_long names (x ∷ xs) (y ∷ ys) p = ap suc (flows_as_long names xs ys p.1)

  pub still_tuple : (names : ℕ) (old new : List (AbsFlow D)) → AllZip (FlowIsPartlyPadded d names) old new → IsTuple d old → IsTuple d new
  still_tuple names old new p t = record { few = subst (λ n. n ≤ 8) (flows_as_long names old new p) t.few; proper = flows_full names old new p t.proper }

  padded : {T E : Type 0} (result : Result T E) (names : ℕ) (old new : List (AbsFlow D)) → OnOk result (new ≡ map (padded_flow d names) old) → OnErr result (AllZip (FlowIsPartlyPadded d names) old new) → AllZip (FlowIsPartlyPadded d names) old new
  padded (Ok x) names old new h k = subst (AllZip (FlowIsPartlyPadded d names) old) (sym h) (all_padded names old)
  padded (Err e) names old new h k = k

  pub padded_tuple : {T E : Type 0} (result : Result T E) (names n : ℕ) (inside old new : List (AbsFlow D)) → old ≡ inside → n ≡ length inside → OnOk result (new ≡ map (padded_flow d names) old) → OnErr result (AllZip (FlowIsPartlyPadded d names) old new) → IsTuple d inside → IsTuple d (take n (new ++ drop (length new) inside))
  padded_tuple result names n inside old new same len h k t =
      let p = padded result names old new h k in
      rw (refilled n new inside len (ap length (sym same) ∙ flows_as_long names old new p)) (still_tuple names old new p (rw same t))
