-- The cells of a store, while its names are read.
use Rattle.std.proofs.Common.{◌≡◌, ℕ, zero, suc, ◌+◌, ◌-◌, ◌<◌, ◌≤◌, nat_lt, Bool, true, false, cond, not, List, [], ◌∷◌, ◌++◌, length, map, get_or, replicate, refl, sym, ap, subst, ◌∙◌, arith, length-append, length-set, Option, Some, None}
use Rattle.std.specs.Prelude.{slice_get, slice_set, unwrap_or, option_map, is_some, find, ◌||◌, ◌&&◌}
use Rattle.std.specs.List.{list_any, IsDistinct, position_or_len}
use Rattle.std.specs.Option.{option_or, option_map_or}
use Rattle.std.specs.Str.{bytes_eq}
use Rattle.std.proofs.lemmas.Bool.{lt-ltb}
use Rattle.std.proofs.lemmas.Bool.Decides.{nat_tests}
use Rattle.std.proofs.lemmas.Cmp.{nat_list_eq_equiv}
use Rattle.std.proofs.lemmas.List.{get_or-map, get_or-set_same, get_or-set_other, length-replicate}
use Rattle.std.proofs.lemmas.List.Folds.{find-append, list_any-append}
use Rattle.std.proofs.lemmas.Map.Keys.{IsDistinct-tail, apart_from_distinct}
use Rattle.std.proofs.lemmas.Option.{slice_get_past, unwrap_or-slice_get}
use Rattle.std.proofs.lemmas.Slice.Eq.{bytes_eq-Decides}
use Rattle.sk_base.specs.Names.{with_name, place_of_name}
use Rattle.sk_term.specs.Meets.{HasGrown}
use Rattle.sk_lattice.specs.Domain.{Domain}
use Rattle.sk_lattice.specs.Empty.{store_of, cell_is_empty, val_is_empty}
use Rattle.sk_lattice.specs.Padding.{padded_cells, padded_flow, unset_cell}
use Rattle.sk_lattice.specs.declared.cell.AbsCell.{AbsCell}
use Rattle.sk_lattice.specs.declared.store.AbsStore.TheVariants as store
use Rattle.sk_lattice.specs.declared.flow.AbsFlow.TheVariants as flow
use Rattle.sk_table.specs.Tuples.{all_cells, is_listed, widened}
use Rattle.sk_spell.specs.AbsTupleSpelling.{Cells, cell_of, flow_of}

-- The first place of a word, by recursion.

abbrev pub spot : List (List ℕ) → List ℕ → Option ℕ
spot [] word = None
spot (x ∷ xs) word = cond (bytes_eq word x) (Some 0) (option_map suc (spot xs word))

one_later : (first many : ℕ) → nat_lt (1 + first) (suc many) ≡ nat_lt first many
one_later first many = grind (arith, nat_tests)

later_is : (first many : ℕ) (b : Bool) (found : Option ℕ) → cond (nat_lt first many) (Some first) None ≡ found →
    cond (nat_lt (cond (not b) (1 + first) 0) (suc many)) (Some (cond (not b) (1 + first) 0)) None ≡ cond b (Some 0) (option_map suc found)
later_is first many true found h = ap (λ b. cond b (Some 0) None) (lt-ltb 0 (suc many) (omega arith))
later_is first many false found h = by (nat_lt first many) refl h where
  by : (c : Bool) → nat_lt first many ≡ c → cond c (Some first) None ≡ found → cond (nat_lt (1 + first) (suc many)) (Some (1 + first)) None ≡ option_map suc found
  by true e k = ap (λ b. cond b (Some (1 + first)) None) (one_later first many ∙ e) ∙ ap (λ n. Some n) {x = 1 + first} {y = suc first} (omega arith) ∙ ap (option_map suc) k
  by false e k = ap (λ b. cond b (Some (1 + first)) None) (one_later first many ∙ e) ∙ ap (option_map suc) k

pub spot_is : (names : List (List ℕ)) (word : List ℕ) → place_of_name names word ≡ spot names word
spot_is [] word = refl
spot_is (x ∷ xs) word = later_is (position_or_len (λ entry. bytes_eq word entry) xs) (length xs) (bytes_eq word x) (spot xs word) (spot_is xs word)

-- a word that stands keeps its place
pub spot_kept : (xs ys : List (List ℕ)) (word : List ℕ) (place : ℕ) → spot xs word ≡ Some place → spot (xs ++ ys) word ≡ Some place
spot_kept [] ys word place h = absurd (cc)
spot_kept (x ∷ xs) ys word place h = by (bytes_eq word x) (spot xs word) h (spot_kept xs ys word) where
  by : (b : Bool) (found : Option ℕ) → cond b (Some 0) (option_map suc found) ≡ Some place → ((at : ℕ) → found ≡ Some at → spot (xs ++ ys) word ≡ Some at) →
      cond b (Some 0) (option_map suc (spot (xs ++ ys) word)) ≡ Some place
  by true found k kept = k
  by false None k kept = absurd (cc)
  by false (Some at) k kept = ap (option_map suc) (kept at refl) ∙ k

-- one that doesn't is looked for among the others
pub spot_after : (xs ys : List (List ℕ)) (word : List ℕ) → spot xs word ≡ None → spot (xs ++ ys) word ≡ option_map (λ n. length xs + n) (spot ys word)
spot_after [] ys word h = by (spot ys word) where
  by : (found : Option ℕ) → found ≡ option_map (λ n. 0 + n) found
  by None = refl
  by (Some n) = ap (λ k. Some k) {x = n} {y = 0 + n} (omega arith)
spot_after (x ∷ xs) ys word h = by (bytes_eq word x) (spot xs word) h (spot_after xs ys word) where
  twice : (found : Option ℕ) → option_map suc (option_map (λ n. length xs + n) found) ≡ option_map (λ n. suc (length xs) + n) found
  twice None = refl
  twice (Some n) = ap (λ k. Some k) {x = suc (length xs + n)} {y = suc (length xs) + n} (omega arith)

  by : (b : Bool) (found : Option ℕ) → cond b (Some 0) (option_map suc found) ≡ None → (found ≡ None → spot (xs ++ ys) word ≡ option_map (λ n. length xs + n) (spot ys word)) →
      cond b (Some 0) (option_map suc (spot (xs ++ ys) word)) ≡ option_map (λ n. suc (length xs) + n) (spot ys word)
  by true found k after = absurd (cc)
  by false None k after = ap (option_map suc) (after refl) ∙ twice (spot ys word)
  by false (Some at) k after = absurd (cc)

-- each of different words stands at its own place
pub own_spot : (names : List (List ℕ)) (place : ℕ) → IsDistinct bytes_eq names → place < length names → spot names (get_or names place []) ≡ Some place
own_spot [] place h l = absurd (omega (arith, l))
own_spot (x ∷ xs) zero h l = ap (λ b. cond b (Some 0) (option_map suc (spot xs x))) (nat_list_eq_equiv.refl x)
own_spot (x ∷ xs) (suc place) h l =
    let word = get_or xs place [] in
    let other : bytes_eq word x ≡ false = nat_list_eq_equiv.symm word x ∙ apart_from_distinct bytes_eq (x ∷ xs) 0 (suc place) [] h (omega arith) l in
    ap (λ b. cond b (Some 0) (option_map suc (spot xs word))) other ∙ ap (option_map suc) (own_spot xs place (IsDistinct-tail bytes_eq x xs h) (omega (arith, l)))

-- the word that stands at a spot
spot_of : (names : List (List ℕ)) (word : List ℕ) (place : ℕ) → spot names word ≡ Some place → get_or names place [] ≡ word
spot_of [] word place h = absurd (cc)
spot_of (x ∷ xs) word place h = by (bytes_eq word x) (spot xs word) refl (spot_of xs word) h where
  by : (b : Bool) (found : Option ℕ) → bytes_eq word x ≡ b → ((at : ℕ) → found ≡ Some at → get_or xs at [] ≡ word) → cond b (Some 0) (option_map suc found) ≡ Some place →
      get_or (x ∷ xs) place [] ≡ word
  by true found f e k = let P : ℕ → Type 0 = λ n. get_or (x ∷ xs) n [] ≡ word in subst P (ap (λ (o : Option ℕ). unwrap_or o 0) k) (sym ((bytes_eq-Decides word x).0 f))
  by false None f e k = absurd (cc)
  by false (Some at) f e k = let P : ℕ → Type 0 = λ n. get_or (x ∷ xs) n [] ≡ word in subst P (ap (λ (o : Option ℕ). unwrap_or o 0) k) (e at refl)

abbrev Added : Type 0
Added = Option (ℕ × List (List ℕ))

abbrev by_place : List (List ℕ) → List ℕ → Option ℕ → Added
by_place names word (Some place) = Some (place, names)
by_place names word None = cond {A = Added} (nat_lt (length names) 64) (Some (length names, names ++ word ∷ [])) None

abbrev place_in : Added → ℕ
place_in None = 0
place_in (Some pair) = pair.0

abbrev names_in : Added → List (List ℕ)
names_in None = []
names_in (Some pair) = pair.1

-- where a word that is added stands
pub added_spot : (names : List (List ℕ)) (word : List ℕ) (place : ℕ) (next : List (List ℕ)) → with_name names word ≡ Some (place, next) → spot next word ≡ Some place
added_spot names word place next h = by (place_of_name names word) refl h where
  same : (found : ℕ) (all : List (List ℕ)) → found ≡ place → all ≡ next → spot all word ≡ Some found → spot next word ≡ Some place
  same found all e f k =
      let P : List (List ℕ) → Type 0 = λ ns. spot ns word ≡ Some place in
      subst P f (k ∙ ap (λ n. Some n) e)

  new : spot names word ≡ None → spot (names ++ word ∷ []) word ≡ Some (length names)
  new e =
      spot_after names (word ∷ []) word e ∙ ap (λ b. option_map (λ n. length names + n) (cond b (Some 0) None)) (nat_list_eq_equiv.refl word)
      ∙ ap (λ n. Some n) {x = length names + 0} (omega arith)

  by : (found : Option ℕ) → place_of_name names word ≡ found → by_place names word found ≡ Some (place, next) → spot next word ≡ Some place
  by (Some at) e k = same at names (ap place_in k) (ap names_in k) (sym (spot_is names word) ∙ e)
  by None e k = by_room (nat_lt (length names) 64) k where
    by_room : (room : Bool) → cond {A = Added} room (Some (length names, names ++ word ∷ [])) None ≡ Some (place, next) → spot next word ≡ Some place
    by_room true k = same (length names) (names ++ word ∷ []) (ap place_in k) (ap names_in k) (new (sym (spot_is names word) ∙ e))
    by_room false k = absurd (cc)

-- What stands for a word.

abbrev pub standing : {D : Type 0} → List (Option (AbsCell D)) → Option ℕ → Option (AbsCell D)
standing cells None = None
standing cells (Some place) = unwrap_or (slice_get cells place) None

abbrev pub written : {D : Type 0} → List (List ℕ × AbsCell D) → List ℕ → Option (AbsCell D)
written entries word = option_map (λ entry. entry.1) (find (λ entry. bytes_eq entry.0 word) entries)

-- the cells are those that were written for the names, no more than there are names
pub record Lists {D : Type 0} (names : List (List ℕ)) (entries : List (List ℕ × AbsCell D)) (cells : List (Option (AbsCell D))) : Type 0 where
  pub short : length cells ≤ length names
  pub same : (word : List ℕ) → standing cells (spot names word) ≡ written entries word

none_past : {D : Type 0} (cells : List (Option (AbsCell D))) (place : ℕ) → length cells ≤ place → standing cells (Some place) ≡ None
none_past cells place h = ap (λ found. unwrap_or found None) (slice_get_past cells place h)

no_standing : {D : Type 0} (found : Option ℕ) → standing {D = D} [] found ≡ None
no_standing None = refl
no_standing (Some place) = refl

pub lists_none : {D : Type 0} (names : List (List ℕ)) → Lists {D = D} names [] []
lists_none {D} names = record { short = omega arith; same = λ word. no_standing {D = D} (spot names word) }

-- names were added
pub lists_grown : {D : Type 0} {names all : List (List ℕ)} {entries : List (List ℕ × AbsCell D)} {cells : List (Option (AbsCell D))} → HasGrown names all → Lists names entries cells →
    Lists all entries cells
lists_grown {D} {names} {all} {entries} {cells} g l = record {
  short = omega (arith, l.short, ap length g.is, length-append names g.added);
  same = λ word. ap (λ ns. standing cells (spot ns word)) g.is ∙ by word (spot names word) refl;
} where
  later : (word : List ℕ) (found : Option ℕ) → spot names word ≡ None → standing cells (option_map (λ n. length names + n) found) ≡ written entries word
  later word None e = sym (ap (standing cells) e) ∙ l.same word
  later word (Some n) e = none_past cells (length names + n) (omega (arith, l.short)) ∙ sym (ap (standing cells) e) ∙ l.same word

  by : (word : List ℕ) (found : Option ℕ) → spot names word ≡ found → standing cells (spot (names ++ g.added) word) ≡ written entries word
  by word None e = ap (standing cells) (spot_after names g.added word e) ∙ later word (spot g.added word) e
  by word (Some place) e = ap (standing cells) (spot_kept names g.added word place e ∙ sym e) ∙ l.same word

-- One cell more.

abbrev pub with_one : {D : Type 0} → List (Option (AbsCell D)) → ℕ → AbsCell D → List (Option (AbsCell D))
with_one cells place cell = slice_set (widened (place + 1) cells) place (Some cell)

none_more : {A : Type 0} (n place : ℕ) → get_or (replicate {A = Option A} n None) place None ≡ None
none_more zero place = refl
none_more (suc n) zero = refl
none_more {A = A} (suc n) (suc place) = none_more {A = A} n place

wider : {A : Type 0} (cells : List (Option A)) (n place : ℕ) → get_or (cells ++ replicate n None) place None ≡ get_or cells place None
wider {A = A} [] n place = none_more {A = A} n place
wider (cell ∷ cells) n zero = refl
wider (cell ∷ cells) n (suc place) = wider cells n place

widened_long : {D : Type 0} (cells : List (Option (AbsCell D))) (place : ℕ) →
    (place < length (widened (place + 1) cells)) × (length (widened (place + 1) cells) ≤ length cells + ((place + 1) - length cells))
widened_long {D} cells place =
    let none = replicate {A = Option (AbsCell D)} ((place + 1) - length cells) None in
    let long : length (widened (place + 1) cells) ≡ length cells + ((place + 1) - length cells) =
    length-append cells none ∙ ap (λ n. length cells + n) (length-replicate {A = Option (AbsCell D)} ((place + 1) - length cells) None) in
    (omega (arith, long), omega (arith, long))

here : {D : Type 0} (cells : List (Option (AbsCell D))) (place : ℕ) (cell : AbsCell D) → standing (with_one cells place cell) (Some place) ≡ Some cell
here cells place cell =
    unwrap_or-slice_get (with_one cells place cell) place None ∙ get_or-set_same (widened (place + 1) cells) place (Some cell) None (widened_long cells place).0

elsewhere : {D : Type 0} (cells : List (Option (AbsCell D))) (place other : ℕ) (cell : AbsCell D) → (other ≡ place → ⊥) →
    standing (with_one cells place cell) (Some other) ≡ standing cells (Some other)
elsewhere cells place other cell h =
    unwrap_or-slice_get (with_one cells place cell) other None ∙ get_or-set_other (widened (place + 1) cells) place other (Some cell) None h
    ∙ wider cells ((place + 1) - length cells) other ∙ sym (unwrap_or-slice_get cells other None)

abbrev first_or : {D : Type 0} → Option (List ℕ × AbsCell D) → Option (List ℕ × AbsCell D) → Option (AbsCell D)
first_or a b = option_map (λ entry. entry.1) (option_or a b)

or_none : {D : Type 0} (a : Option (List ℕ × AbsCell D)) → first_or a None ≡ option_map (λ entry. entry.1) a
or_none None = refl
or_none (Some entry) = refl

none_or : {D : Type 0} (a b : Option (List ℕ × AbsCell D)) → option_map (λ entry. entry.1) a ≡ None → first_or a b ≡ option_map (λ entry. entry.1) b
none_or None b h = refl
none_or (Some entry) b h = absurd (cc)

written_one : {D : Type 0} (entries : List (List ℕ × AbsCell D)) (name : List ℕ) (cell : AbsCell D) (word : List ℕ) →
    written (entries ++ (name, cell) ∷ []) word ≡ first_or (find (λ entry. bytes_eq entry.0 word) entries) (cond (bytes_eq name word) (Some (name, cell)) None)
written_one entries name cell word = ap (option_map (λ entry. entry.1)) (find-append (λ entry. bytes_eq entry.0 word) entries ((name, cell) ∷ []))

pub is_none : {A : Type 0} (o : Option A) → is_some o ≡ false → o ≡ None
is_none None h = refl
is_none (Some x) h = absurd (cc)

-- a word that isn't listed gets its cell
pub lists_one : {D : Type 0} {names : List (List ℕ)} {entries : List (List ℕ × AbsCell D)} {cells : List (Option (AbsCell D))} (name : List ℕ) (place : ℕ) (cell : AbsCell D) →
    spot names name ≡ Some place → place < length names → is_listed cells place ≡ false → Lists names entries cells → Lists names (entries ++ (name, cell) ∷ []) (with_one cells place cell)
lists_one {D} {names} {entries} {cells} name place cell there within new l = record {
  short = omega (arith, l.short, within, widened_long cells place, length-set (widened (place + 1) cells) place (Some cell));
  same = λ word. by_word word (bytes_eq name word) refl ∙ sym (written_one entries name cell word);
} where
  missing : written entries name ≡ None
  missing = sym (l.same name) ∙ ap (standing cells) there ∙ is_none (standing cells (Some place)) new

  by_place : (word : List ℕ) (found : Option ℕ) → bytes_eq name word ≡ false → spot names word ≡ found → standing (with_one cells place cell) found ≡ standing cells found
  by_place word None e f = refl
  by_place word (Some other) e f = elsewhere cells place other cell (differ word other e f) where
    differ : (word : List ℕ) (other : ℕ) → bytes_eq name word ≡ false → spot names word ≡ Some other → other ≡ place → ⊥
    differ word other e f same =
        let equal : name ≡ word = sym (spot_of names name place there) ∙ ap (λ n. get_or names n []) (sym same) ∙ spot_of names word other f in
        let no : false ≡ true = sym e ∙ ap (bytes_eq name) (sym equal) ∙ nat_list_eq_equiv.refl name in
        absurd (cc no)

  by_word : (word : List ℕ) (b : Bool) → bytes_eq name word ≡ b →
      standing (with_one cells place cell) (spot names word) ≡ first_or (find (λ entry. bytes_eq entry.0 word) entries) (cond b (Some (name, cell)) None)
  by_word word true e =
      let same : name ≡ word = (bytes_eq-Decides name word).0 e in
      ap (λ w. standing (with_one cells place cell) (spot names w)) (sym same) ∙ ap (standing (with_one cells place cell)) there ∙ here cells place cell
      ∙ sym (none_or (find (λ entry. bytes_eq entry.0 word) entries) (Some (name, cell)) (ap (written entries) (sym same) ∙ missing))
  by_word word false e = by_place word (spot names word) e refl ∙ l.same word ∙ sym (or_none (find (λ entry. bytes_eq entry.0 word) entries))

-- whether a word is listed is whether its cell is written
pub listed_so : {D : Type 0} {names : List (List ℕ)} {entries : List (List ℕ × AbsCell D)} {cells : List (Option (AbsCell D))} (name : List ℕ) (place : ℕ) → spot names name ≡ Some place →
    Lists names entries cells →
    is_listed cells place ≡ is_some (written entries name)
listed_so {cells = cells} name place there l = ap is_some (ap (standing cells) (sym there) ∙ l.same name)

-- The cells in the end.

same_lists : {X : Type 0} (xs ys : List X) (e : X) → length xs ≡ length ys → ((i : ℕ) → i < length xs → get_or xs i e ≡ get_or ys i e) → xs ≡ ys
same_lists [] [] e long h = refl
same_lists [] (y ∷ ys) e long h = absurd (omega (arith, long))
same_lists (x ∷ xs) [] e long h = absurd (omega (arith, long))
same_lists (x ∷ xs) (y ∷ ys) e long h =
    ap (λ z. z ∷ xs) (h 0 (omega arith)) ∙ ap (λ zs. y ∷ zs) (same_lists xs ys e (omega (arith, long)) (λ i l. h (suc i) (omega (arith, l))))

module _ {D : Type 0} (d : Domain D) where
  unset_more : (n place : ℕ) → get_or (replicate n (unset_cell d)) place (unset_cell d) ≡ unset_cell d
  unset_more zero place = refl
  unset_more (suc n) zero = refl
  unset_more (suc n) (suc place) = unset_more n place

  padded_at : (cells : List (Option (AbsCell D))) (n place : ℕ) → get_or (all_cells d cells ++ replicate n (unset_cell d)) place (unset_cell d) ≡ unwrap_or (get_or cells place None) (unset_cell d)
  padded_at [] n place = unset_more n place
  padded_at (cell ∷ cells) n zero = refl
  padded_at (cell ∷ cells) n (suc place) = padded_at cells n place

  cells_long : (cells : List (Option (AbsCell D))) → length (all_cells d cells) ≡ length cells
  cells_long [] = refl
  cells_long (cell ∷ cells) = ap suc (cells_long cells)

  map_long : {A B : Type 0} (f : A → B) (xs : List A) → length (map f xs) ≡ length xs
  map_long f [] = refl
  map_long f (x ∷ xs) = ap suc (map_long f xs)

  written_cell : (entries : List (List ℕ × AbsCell D)) (word : List ℕ) → cell_of d entries word ≡ unwrap_or (written entries word) (unset_cell d)
  written_cell entries word = by (find (λ entry. bytes_eq entry.0 word) entries) where
    by : (found : Option (List ℕ × AbsCell D)) → option_map_or (λ entry. entry.1) found (unset_cell d) ≡ unwrap_or (option_map (λ entry. entry.1) found) (unset_cell d)
    by None = refl
    by (Some entry) = refl

  cells_are : (names : List (List ℕ)) (entries : List (List ℕ × AbsCell D)) (cells : List (Option (AbsCell D))) → IsDistinct bytes_eq names → Lists names entries cells →
      padded_cells d (length names) (all_cells d cells) ≡ map (cell_of d entries) names
  cells_are names entries cells different l =
      let n = length names - length (all_cells d cells) in
      let long : length (padded_cells d (length names) (all_cells d cells)) ≡ length names =
      omega (arith, length-append (all_cells d cells) (replicate n (unset_cell d)), length-replicate n (unset_cell d), cells_long cells, l.short) in
      same_lists (padded_cells d (length names) (all_cells d cells)) (map (cell_of d entries) names) (unset_cell d) (omega (arith, long, map_long (cell_of d entries) names))
      (λ i h.
      let within : i < length names = omega (arith, h, long) in
      let word = get_or names i [] in
      padded_at cells n i ∙ ap (λ o. unwrap_or o (unset_cell d)) (sym (unwrap_or-slice_get cells i None) ∙ ap (standing cells) (sym (own_spot names i different within)) ∙ l.same word)
      ∙ sym (written_cell entries word) ∙ sym (get_or-map (cell_of d entries) names i [] (unset_cell d) within))

  not_unset : (b : Bool) → b && not true ≡ false
  not_unset true = refl
  not_unset false = refl

  no_unset_empty : (n : ℕ) → list_any (cell_is_empty d) (replicate n (unset_cell d)) ≡ false
  no_unset_empty zero = refl
  no_unset_empty (suc n) = ap (λ b. b || list_any (cell_is_empty d) (replicate n (unset_cell d))) (not_unset (val_is_empty d (unset_cell d).val)) ∙ no_unset_empty n

  or_false : (b : Bool) → b || false ≡ b
  or_false true = refl
  or_false false = refl

  padded_empty : (n : ℕ) (cells : List (AbsCell D)) → list_any (cell_is_empty d) (padded_cells d n cells) ≡ list_any (cell_is_empty d) cells
  padded_empty n cells =
      list_any-append (cell_is_empty d) cells (replicate (n - length cells) (unset_cell d))
      ∙ ap (λ b. list_any (cell_is_empty d) cells || b) (no_unset_empty (n - length cells)) ∙ or_false (list_any (cell_is_empty d) cells)

  padded_store : (n : ℕ) (cells : List (AbsCell D)) → padded_flow d n (flow.Store (store_of d cells)) ≡ flow.Store (store_of d (padded_cells d n cells))
  padded_store n cells = by (list_any (cell_is_empty d) cells) ∙ ap (λ b. flow.Store (cond b store.Empty (store.Cells (padded_cells d n cells)))) (sym (padded_empty n cells)) where
    by : (b : Bool) → padded_flow d n (flow.Store (cond b store.Empty (store.Cells cells))) ≡ flow.Store (cond b store.Empty (store.Cells (padded_cells d n cells)))
    by true = refl
    by false = refl

  -- the store of the cells that were read is the one that was written, once it has a cell for each name
  pub store_meant : (names : List (List ℕ)) (entries : List (List ℕ × AbsCell D)) (cells : List (Option (AbsCell D))) → IsDistinct bytes_eq names → Lists names entries cells →
      padded_flow d (length names) (flow.Store (store_of d (all_cells d cells))) ≡ flow_of d names (Cells entries)
  store_meant names entries cells different l = padded_store (length names) (all_cells d cells) ∙ ap (λ cells. flow.Store (store_of d cells)) (cells_are names entries cells different l)
