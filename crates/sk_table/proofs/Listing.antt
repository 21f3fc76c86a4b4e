-- The cells of a store, as its names are listed.
use Rattle.std.proofs.Common.{◌≡◌, ℕ, zero, suc, ◌+◌, ◌-◌, ◌<◌, ◌≤◌, Bool, true, false, cond, not, ◌&&◌, ◌||◌, List, [], ◌∷◌, ◌++◌, length, replicate, refl, sym, ap, ◌∙◌, arith, append_assoc, append-nil, length-append, Option, Some, None}
use Rattle.std.specs.Prelude.{slice_set, unwrap_or, is_some}
use Rattle.std.specs.List.{list_all, list_any, IsDistinct, AllByRecursion, position_or_len}
use Rattle.std.specs.Str.{bytes_eq}
use Rattle.std.proofs.lemmas.Bool.{and_parts, lt-ltb}
use Rattle.std.proofs.lemmas.Cmp.{nat_list_eq_equiv}
use Rattle.std.proofs.lemmas.List.{length-replicate}
use Rattle.std.proofs.lemmas.Option.{slice_get_past}
use Rattle.std.proofs.Math.Seq.{set-append_seam}
use Rattle.std.proofs.lemmas.List.Folds.{list_all-append}
use Rattle.std.proofs.lemmas.Map.Keys.{IsDistinct-head, IsDistinct-tail}
use Rattle.sk_base.specs.Names.{place_of_name}
use Rattle.sk_lattice.specs.Domain.{Domain}
use Rattle.sk_lattice.specs.Empty.{val_is_empty, cell_is_empty, store_of}
use Rattle.sk_lattice.specs.Padding.{padded_cells, unset_cell}
use Rattle.sk_lattice.specs.Texts.{entries}
use Rattle.sk_lattice.specs.declared.cell.AbsCell.{AbsCell}
use Rattle.sk_lattice.specs.declared.store.AbsStore.TheVariants.{Empty, Cells}
use Rattle.sk_table.specs.Tuples.{all_cells, is_listed, widened}
use Rattle.sk_table.proofs.TupleShapes.{all_cells_long}

-- The place of a name after others.

differs_later : (name : List ℕ) (front : List (List ℕ)) (word : List ℕ) (back : List (List ℕ)) → AllByRecursion (λ other. bytes_eq name other ≡ false) (front ++ word ∷ back) → bytes_eq name word ≡ false
differs_later name [] word back h = h.0
differs_later name (x ∷ front) word back h = differs_later name front word back h.1

first_comes : (front : List (List ℕ)) (word : List ℕ) (back : List (List ℕ)) → IsDistinct bytes_eq (front ++ word ∷ back) → position_or_len (λ entry. bytes_eq word entry) (front ++ word ∷ back) ≡ length front
first_comes [] word back h = ap (λ b. cond (not b) (1 + position_or_len (λ entry. bytes_eq word entry) back) 0) (nat_list_eq_equiv.refl word)
first_comes (x ∷ front) word back h =
    let other : bytes_eq word x ≡ false = nat_list_eq_equiv.symm word x ∙ differs_later x front word back (IsDistinct-head bytes_eq x (front ++ word ∷ back) h) in
    let later : 1 + position_or_len (λ entry. bytes_eq word entry) (front ++ word ∷ back) ≡ length (x ∷ front) =
    omega (arith, first_comes front word back (IsDistinct-tail bytes_eq x (front ++ word ∷ back) h)) in
    ap (λ b. cond (not b) (1 + position_or_len (λ entry. bytes_eq word entry) (front ++ word ∷ back)) 0) other ∙ later

pub place_after : (front : List (List ℕ)) (word : List ℕ) (back : List (List ℕ)) → IsDistinct bytes_eq (front ++ word ∷ back) → place_of_name (front ++ word ∷ back) word ≡ Some (length front)
place_after front word back h =
    let at = first_comes front word back h in
    let within : position_or_len (λ entry. bytes_eq word entry) (front ++ word ∷ back) < length (front ++ word ∷ back) = omega (arith, at, length-append front (word ∷ back)) in
    ap (λ b. cond b (Some (position_or_len (λ entry. bytes_eq word entry) (front ++ word ∷ back))) None) (lt-ltb _ _ within) ∙ ap (λ n. Some n) at

-- Cells with their names, of which those that have a value are listed.
pub data Listed {D : Type 0} (d : Domain D) : List (List ℕ) → List (AbsCell D) → List (List ℕ × AbsCell D) → Type 0 where
  none_left : Listed d [] [] []
  left_out : {name : List ℕ} {names : List (List ℕ)} {cell : AbsCell D} {cells : List (AbsCell D)} {es : List (List ℕ × AbsCell D)} → cell ≡ unset_cell d → Listed d names cells es → Listed d (name ∷ names) (cell ∷ cells) es
  listed : {name : List ℕ} {names : List (List ℕ)} {cell : AbsCell D} {cells : List (AbsCell D)} {es : List (List ℕ × AbsCell D)} → Listed d names cells es → Listed d (name ∷ names) (cell ∷ cells) ((name, cell) ∷ es)

pub is_off : (b : Bool) → not b ≡ true → b ≡ false
is_off true h = absurd (cc)
is_off false h = refl

is_on : (value unset : Bool) → value ≡ true → not (value && not unset) ≡ true → unset ≡ true
is_on value true e h = refl
is_on true false e h = absurd (cc)
is_on false false e h = absurd (cc)

module _ {D : Type 0} (d : Domain D) (only : (a : D) → d.is_empty a ≡ true → a ≡ d.empty) where
  abbrev cell_of : D → Bool → Bool → Bool → AbsCell D
  cell_of num some other unset = record { val = record { num = num; truth = record { has_true = some; has_false = other } }; unset = unset }

  -- a cell without a value that isn't empty is that of an unset name
  is_unset : (cell : AbsCell D) → val_is_empty d cell.val ≡ true → not (cell_is_empty d cell) ≡ true → cell ≡ unset_cell d
  is_unset cell e h =
      let p = and_parts (d.is_empty cell.val.num) (not cell.val.truth.has_true && not cell.val.truth.has_false) e in
      let q = and_parts (not cell.val.truth.has_true) (not cell.val.truth.has_false) p.1 in
      ap (λ num. cell_of num cell.val.truth.has_true cell.val.truth.has_false cell.unset) (only cell.val.num p.0)
      ∙ ap (λ b. cell_of d.empty b cell.val.truth.has_false cell.unset) (is_off cell.val.truth.has_true q.0)
      ∙ ap (λ b. cell_of d.empty false b cell.unset) (is_off cell.val.truth.has_false q.1)
      ∙ ap (λ b. cell_of d.empty false false b) (is_on (val_is_empty d cell.val) cell.unset e h)

  pub are_listed : (names : List (List ℕ)) (cells : List (AbsCell D)) → length cells ≡ length names → list_all (λ c. not (cell_is_empty d c)) cells ≡ true → Listed d names cells (entries d names cells)
  are_listed [] [] e h = none_left
  are_listed [] (cell ∷ cells) e h = absurd (omega (arith, e))
  are_listed (name ∷ names) [] e h = absurd (omega (arith, e))
  are_listed (name ∷ names) (cell ∷ cells) e h = by_value (val_is_empty d cell.val) refl (are_listed names cells (omega (arith, e)) (and_parts (not (cell_is_empty d cell)) _ h).1) where
    by_value : (b : Bool) → val_is_empty d cell.val ≡ b → Listed d names cells (entries d names cells) → Listed d (name ∷ names) (cell ∷ cells) (cond (not b) ((name, cell) ∷ entries d names cells) (entries d names cells))
    by_value true v l = left_out (is_unset cell v (and_parts (not (cell_is_empty d cell)) _ h).0) l
    by_value false v l = listed l

-- The cells that were read, while those of the first names are known: what isn't listed is unset.
pub record IsFront {D : Type 0} (d : Domain D) (cells : List (Option (AbsCell D))) (front : List (AbsCell D)) : Type 0 where
  pub short : length cells ≤ length front
  pub are : padded_cells d (length front) (all_cells d cells) ≡ front

more_of : {A : Type 0} (n : ℕ) (x : A) → replicate (suc n) x ≡ replicate n x ++ x ∷ []
more_of zero x = refl
more_of (suc n) x = ap (λ xs. x ∷ xs) (more_of n x)

one_more : {A : Type 0} (n k : ℕ) (x : A) → k ≤ n → replicate ((n + 1) - k) x ≡ replicate (n - k) x ++ x ∷ []
one_more n k x h = ap (λ m. replicate m x) {y = suc (n - k)} (omega (arith, h)) ∙ more_of (n - k) x

module _ {D : Type 0} (d : Domain D) where
  unset_all : (n : ℕ) → all_cells d (replicate n None) ≡ replicate n (unset_cell d)
  unset_all zero = refl
  unset_all (suc n) = ap (λ cells. unset_cell d ∷ cells) (unset_all n)

  all_of_both : (xs ys : List (Option (AbsCell D))) → all_cells d (xs ++ ys) ≡ all_cells d xs ++ all_cells d ys
  all_of_both [] ys = refl
  all_of_both (x ∷ xs) ys = ap (λ cells. unwrap_or x (unset_cell d) ∷ cells) (all_of_both xs ys)

  pub front_begins : IsFront d [] []
  front_begins = record { short = omega arith; are = refl }

  -- the next name isn't listed
  pub front_unset : (cells : List (Option (AbsCell D))) (front : List (AbsCell D)) (cell : AbsCell D) → cell ≡ unset_cell d → IsFront d cells front → IsFront d cells (front ++ cell ∷ [])
  front_unset cells front cell e f =
      let all = all_cells d cells in
      let longer : length (front ++ cell ∷ []) ≡ length front + 1 = omega (arith, length-append front (cell ∷ [])) in
      record {
        short = omega (arith, f.short, longer);
        are = ap (λ n. padded_cells d n all) longer
            ∙ ap (λ cells. all ++ cells) (one_more (length front) (length all) (unset_cell d) (omega (arith, f.short, all_cells_long d cells)))
            ∙ sym (append_assoc all (replicate (length front - length all) (unset_cell d)) (unset_cell d ∷ []))
            ∙ ap (λ cells. cells ++ unset_cell d ∷ []) f.are ∙ ap (λ c. front ++ c ∷ []) (sym e);
      }

  -- the next name has a cell
  placed : (cells : List (Option (AbsCell D))) (n : ℕ) (cell : AbsCell D) → length cells ≤ n → slice_set (widened (n + 1) cells) n (Some cell) ≡ (cells ++ replicate (n - length cells) None) ++ Some cell ∷ []
  placed cells n cell h =
      let before : List (Option (AbsCell D)) = cells ++ replicate (n - length cells) None in
      let here : length before ≡ n = omega (arith, h, length-append cells (replicate (n - length cells) None), length-replicate {A = Option (AbsCell D)} (n - length cells) None) in
      ap (λ more. slice_set (cells ++ more) n (Some cell)) (one_more n (length cells) None h)
      ∙ ap (λ all. slice_set all n (Some cell)) (sym (append_assoc cells (replicate (n - length cells) None) (None ∷ [])))
      ∙ ap (λ k. slice_set (before ++ None ∷ []) k (Some cell)) (sym here) ∙ set-append_seam before None [] (Some cell)

  pub front_set : (cells : List (Option (AbsCell D))) (front : List (AbsCell D)) (cell : AbsCell D) → IsFront d cells front → IsFront d (slice_set (widened (length front + 1) cells) (length front) (Some cell)) (front ++ cell ∷ [])
  front_set cells front cell f =
      let n = length front in
      let gap = replicate {A = Option (AbsCell D)} (n - length cells) None in
      let set_is = placed cells n cell f.short in
      let gap_is : all_cells d gap ≡ replicate (n - length (all_cells d cells)) (unset_cell d) = unset_all (n - length cells) ∙ ap (λ k. replicate (n - k) (unset_cell d)) (sym (all_cells_long d cells)) in
      let all_is : all_cells d ((cells ++ gap) ++ Some cell ∷ []) ≡ front ++ cell ∷ [] =
      all_of_both (cells ++ gap) (Some cell ∷ []) ∙ ap (λ all. all ++ cell ∷ []) (all_of_both cells gap ∙ ap (λ more. all_cells d cells ++ more) gap_is ∙ f.are) in
      let whole : padded_cells d (length (front ++ cell ∷ [])) (front ++ cell ∷ []) ≡ front ++ cell ∷ [] =
      ap (λ k. (front ++ cell ∷ []) ++ replicate k (unset_cell d)) {y = 0} (omega arith) ∙ append-nil (front ++ cell ∷ []) in
      record {
        short = omega (arith, ap length set_is, length-append (cells ++ gap) (Some cell ∷ []), length-append cells gap, length-replicate {A = Option (AbsCell D)} (n - length cells) None, f.short, length-append front (cell ∷ []));
        are = ap (λ cells. padded_cells d (length (front ++ cell ∷ [])) (all_cells d cells)) set_is ∙ ap (padded_cells d (length (front ++ cell ∷ []))) all_is ∙ whole;
      }

  -- the next name isn't listed yet
  pub not_listed : (cells : List (Option (AbsCell D))) (n : ℕ) → length cells ≤ n → is_listed cells n ≡ false
  not_listed cells n h = ap (λ found. is_some (unwrap_or found None)) (slice_get_past cells n h)

  none_any : {A : Type 0} (p : A → Bool) (xs : List A) → list_all (λ x. not (p x)) xs ≡ true → list_any p xs ≡ false
  none_any p [] h = refl
  none_any p (x ∷ xs) h =
      let q = and_parts (not (p x)) (list_all (λ x. not (p x)) xs) h in
      ap (λ b. b || list_any p xs) (is_off (p x) q.0) ∙ none_any p xs q.1

  -- where no cell of a store is empty, that of the cells that were read isn't
  pub store_is : (cells : List (Option (AbsCell D))) (whole : List (AbsCell D)) → IsFront d cells whole → list_all (λ c. not (cell_is_empty d c)) whole ≡ true → store_of d (all_cells d cells) ≡ Cells (all_cells d cells)
  store_is cells whole f h =
      let full = λ (c : AbsCell D). not (cell_is_empty d c) in
      let all = all_cells d cells in
      let gap = replicate (length whole - length all) (unset_cell d) in
      let both : list_all full all && list_all full gap ≡ true = sym (list_all-append full all gap) ∙ ap (list_all full) f.are ∙ h in
      ap (λ b. cond b Empty (Cells all)) (none_any (cell_is_empty d) all (and_parts (list_all full all) (list_all full gap) both).0)
