-- A pass over the whole list, from its steps.
use Rattle.std.proofs.Common.{◌≡◌, ℕ, zero, suc, ◌+◌, ◌<◌, ◌≤◌, Bool, true, ◌||◌, List, [], ◌∷◌, length, map, Some, None, refl, sym, ◌∙◌, subst, arith, inl, inr}
use Rattle.std.specs.Prelude.{slice_get}
use Rattle.std.specs.List.{AllByRecursion, AllZip, list_all}
use Rattle.std.proofs.lemmas.Bool.{and_from, cases_eq}
use Rattle.sk_base.specs.declared.flow.FlowSort.{FlowSort}
use Rattle.sk_lattice.specs.Domain.{Domain}
use Rattle.sk_absfilter.specs.Abstract.{Outcome}
use Rattle.sk_absfilter.specs.Laws.{outcome_leq}
use Rattle.sk_constr.specs.declared.line.Line.{Line}
use Rattle.sk_constr.specs.declared.line.KeyLines.{KeyLines}
use Rattle.sk_constr.specs.declared.constraint_list.ConstraintList.{ConstraintList}
use Rattle.sk_solve.specs.declared.assignment.Solved.{Solved}
use Rattle.sk_solve.specs.Solves.{line_holds, outcome_fits, IsOfKey, KeyLies, IsAssignment, Solves}
use Rattle.sk_solve.specs.Climbing.{nothing_at, LinesHold, KeysHold, CoversHold, IsUnderway, IsStep}
use Rattle.sk_solve.proofs.Places.{same_some}
use Rattle.sk_solve.proofs.Steps.{two_steps, step_more}

-- what the entries before a place have
abbrev pub EachBelow : {A : Type 0} → ℕ → (A → Type 0) → List A → Type 0
EachBelow {A} n P xs = (i : ℕ) (x : A) → i < n → slice_get xs i ≡ Some x → P x

pub all_of_each : {A : Type 0} (P : A → Type 0) (xs : List A) → ((i : ℕ) (x : A) → slice_get xs i ≡ Some x → P x) → AllByRecursion P xs
all_of_each P [] h = tt
all_of_each P (x ∷ xs) h = (h 0 x refl, all_of_each P xs (λ i y e. h (suc i) y e))

within : {A : Type 0} (xs : List A) (i : ℕ) (x : A) → slice_get xs i ≡ Some x → i < length xs
within [] i x e = absurd cc
within (y ∷ xs) zero x e = omega arith
within (y ∷ xs) (suc i) x e = omega (arith, within xs i x e)

pub there : {A : Type 0} (xs : List A) (i : ℕ) → i < length xs → (x : A) × (slice_get xs i ≡ Some x)
there [] i l = absurd (omega (arith, l))
there (x ∷ xs) zero l = (x, refl)
there (x ∷ xs) (suc i) l = there xs i (omega (arith, l))

-- where all places are below, all entries have it
pub all_below : {A : Type 0} (P : A → Type 0) (xs : List A) (n : ℕ) → length xs ≤ n → EachBelow n P xs → AllByRecursion P xs
all_below P xs n l h = all_of_each P xs (λ i x e. h i x (omega (arith, within xs i x e)) e)

one_more : {A : Type 0} (P : A → Type 0) (xs : List A) (n : ℕ) (x : A) → slice_get xs n ≡ Some x → EachBelow n P xs → P x → EachBelow (n + 1) P xs
one_more P xs n x e h p i y l k =
    elim (cases_eq i n) [
      | inl same ↦ subst P (same_some (sym e ∙ subst (λ j. slice_get xs j ≡ Some y) same k)) p
      | inr other ↦ h i y (omega arith) k
    ]

module _ (D : Type 0) (d : Domain D) (list : ConstraintList D) where
  -- one more step of a loop
  pub next_step : {A : Type 0} (P : A → List (Solved D) → Type 0) (xs : List A) (n : ℕ) (x : A) (a b e : List (Solved D)) (f g : Bool) → slice_get xs n ≡ Some x →
      IsStep d list (λ z. EachBelow n (λ y. P y z) xs) a b f → IsStep d list (P x) b e g → IsStep d list (λ z. EachBelow (n + 1) (λ y. P y z) xs) a e (f || g)
  next_step P xs n x a b e f g k s t =
      step_more D d list _ (λ z. EachBelow (n + 1) (λ y. P y z) xs) a e (f || g) (λ h. one_more (λ y. P y a) xs n x k h.0 h.1)
      (two_steps D d list (λ z. EachBelow n (λ y. P y z) xs) (P x) a b e f g s t)

  pub next_key : (n : ℕ) (key : KeyLines) (a b e : List (Solved D)) (f g : Bool) → slice_get list.keys n ≡ Some key →
      IsStep d list (KeysHold d list n) a b f → IsStep d list (LinesHold d list.names n key.lines) b e g → IsStep d list (KeysHold d list (n + 1)) a e (f || g)
  next_key n key a b e f g k s t =
      step_more D d list _ (KeysHold d list (n + 1)) a e (f || g) (λ h. more h.0 h.1)
      (two_steps D d list (KeysHold d list n) (LinesHold d list.names n key.lines) a b e f g s t)
    where
      more : KeysHold d list n a → LinesHold d list.names n key.lines a → KeysHold d list (n + 1) a
      more h p i l y q =
          elim (cases_eq i n) [
            | inl same ↦ (let here : key ≡ y = same_some (sym k ∙ subst (λ j. slice_get list.keys j ≡ Some y) same q) in
                subst (λ j. LinesHold d list.names j y.lines a) (sym same) (subst (λ (z : KeyLines). LinesHold d list.names n z.lines a) here p))
            | inr other ↦ h i (omega arith) y q
          ]

  -- an assignment of which every cover line and line holds satisfies the list
  passing : {A : Type 0} (f : A → Bool) (xs : List A) → AllByRecursion (λ x. f x ≡ true) xs → list_all f xs ≡ true
  passing f [] h = refl
  passing f (x ∷ xs) h = and_from (f x) (list_all f xs) h.0 (passing f xs h.1)

  each_passes : (a : List (Solved D)) (at : ℕ) (s : Solved D) (lines : List Line) → slice_get a at ≡ Some s → LinesHold d list.names at lines a → AllByRecursion (λ line. line_holds d list.names a s line ≡ true) lines
  each_passes a at s [] e h = tt
  each_passes a at s (line ∷ lines) e h = (h.0 s e, each_passes a at s lines e h.1)

  zipped : {A B : Type 0} (R S : A → B → Type 0) (xs : List A) (ys : List B) → AllZip R xs ys → ((i : ℕ) (x : A) (y : B) → slice_get xs i ≡ Some x → slice_get ys i ≡ Some y → S x y) → AllZip S xs ys
  zipped R S [] [] h k = tt
  zipped R S [] (y ∷ ys) h k = absurd h
  zipped R S (x ∷ xs) [] h k = absurd h
  zipped R S (x ∷ xs) (y ∷ ys) h k = (k 0 x y refl refl, zipped R S xs ys h.1 (λ i. k (suc i)))

  pub all_hold : (a : List (Solved D)) → IsAssignment d list a → CoversHold d list.names list.covers a → KeysHold d list (length list.keys) a → Solves d list a
  all_hold a assigns covers keys =
      record {
        assigns = assigns;
        covered = covers;
        lines_hold = zipped (IsOfKey d list.names) (λ (key : KeyLines) s. list_all (line_holds d list.names a s) key.lines ≡ true) list.keys a assigns
            (λ i key s e k. passing (line_holds d list.names a s) key.lines (each_passes a i s key.lines k (keys i (within list.keys i key e) key e)));
      }

  -- the assignment that has none everywhere lies below every solution
  nothing_of : (names : ℕ) (key : KeyLines) → IsOfKey d names key (nothing_at key)
  nothing_of names key = record { same_hook = refl; same_point = refl; positions_fit = nones key.positions; outs_fit = refl }
    where
      nones : (sorts : List (List FlowSort)) → AllZip (λ ss o. outcome_fits d names ss o ≡ true) sorts (map (λ _. None) sorts)
      nones [] = tt
      nones (ss ∷ sorts) = (refl, nones sorts)

  nothing_below : (names : ℕ) (key : KeyLines) (s : Solved D) → IsOfKey d names key s → KeyLies d (nothing_at key) s
  nothing_below names key s h = record { positions = nones key.positions s.positions h.positions_fit; outs = refl }
    where
      nones : (sorts : List (List FlowSort)) (ps : List (Outcome D)) → AllZip (λ ss o. outcome_fits d names ss o ≡ true) sorts ps → AllZip (λ o p. outcome_leq d o p ≡ true) (map (λ _. None) sorts) ps
      nones [] [] h = tt
      nones [] (p ∷ ps) h = absurd h
      nones (ss ∷ sorts) [] h = absurd h
      nones (ss ∷ sorts) (p ∷ ps) h = (refl, nones sorts ps h.1)

  pub nothing_underway : IsUnderway d list (map nothing_at list.keys)
  nothing_underway = record { assigns = assigned list.keys; below = λ b h. lies list.keys b h.assigns }
    where
      assigned : (keys : List KeyLines) → AllZip (IsOfKey d list.names) keys (map nothing_at keys)
      assigned [] = tt
      assigned (key ∷ keys) = (nothing_of list.names key, assigned keys)

      lies : (keys : List KeyLines) (b : List (Solved D)) → AllZip (IsOfKey d list.names) keys b → AllZip (KeyLies d) (map nothing_at keys) b
      lies [] [] h = tt
      lies [] (s ∷ b) h = absurd h
      lies (key ∷ keys) [] h = absurd h
      lies (key ∷ keys) (s ∷ b) h = (nothing_below list.names key s h.0, lies keys b h.1)
