-- The names of a tuple's stores.
use Rattle.std.proofs.Common.{◌≡◌, ℕ, Bool, true, false, cond, List, [], ◌∷◌, ◌++◌, length, map, refl, sym, ap, subst, ◌∙◌, arith, append-nil, length-append, Option, Some, None, Result, Ok, Err}
use Rattle.std.specs.Prelude.{nat_lt, option_map, find}
use Rattle.std.specs.List.{IsDistinct, AllByRecursion}
use Rattle.std.specs.Str.{bytes_eq}
use Rattle.std.proofs.lemmas.Map.Keys.{IsDistinct-head, IsDistinct-tail, IsDistinct-cons}
use Rattle.sk_base.specs.Names.{with_name, place_of_name}
use Rattle.sk_term.specs.Meets.{HasGrown}
use Rattle.sk_term.specs.Spelling.{with_words}
use Rattle.sk_term.proofs.Words.{adds, first_added, add_first, words_grow, front_added, add_front}
use Rattle.sk_lattice.specs.declared.cell.AbsCell.{AbsCell}
use Rattle.sk_table.specs.declared.fault.TableError.{TableError}
use Rattle.sk_table.specs.Tuples.{place_for, found_name, added_name}
use Rattle.sk_spell.proofs.AbsTupleCells.{spot, spot_is, added_spot, written}

nothing_more : {A : Type 0} (xs : List A) → length xs ≡ 0 → xs ≡ []
nothing_more [] h = refl
nothing_more (x ∷ xs) h = absurd (omega (arith, h))

-- what grows to what it was has stayed
pub squeezed : {a b c : List (List ℕ)} → HasGrown a b → HasGrown b c → c ≡ a → b ≡ a
squeezed {a = a} {b = b} g h e =
    g.is ∙ ap (λ xs. a ++ xs) (nothing_more g.added (omega (arith, ap length g.is, ap length h.is, ap length e, length-append a g.added, length-append b h.added))) ∙ append-nil a

pub same_names : (names : List (List ℕ)) → HasGrown names names
same_names names = record { added = []; is = sym (append-nil names) }

-- Where a word stands among names that may grow, and among known ones.

-- a word was added to names, of which known ones stay
pub record Placed (known : Bool) (names : List (List ℕ)) (word : List ℕ) (place : ℕ) (next : List (List ℕ)) : Type 0 where
  pub added : with_name names word ≡ Some (place, next)
  pub kept : known ≡ true → next ≡ names

pub placed : (known : Bool) (names : List (List ℕ)) (word : List ℕ) (place : ℕ) (next : List (List ℕ)) → Placed known names word place next → place_for known names word ≡ Ok (place, next)
placed false names word place next p = ap added_name p.added
placed true names word place next p =
    let P : List (List ℕ) → Type 0 = λ ns. spot ns word ≡ Some place in
    ap (found_name names) (spot_is names word ∙ subst P (p.kept refl) (added_spot names word place next p.added)) ∙ ap (λ ns. Ok (place, ns)) (sym (p.kept refl))

abbrev Found : Type 0
Found = Result (ℕ × List (List ℕ)) TableError

abbrev Added : Type 0
Added = Option (ℕ × List (List ℕ))

abbrev by_place : List (List ℕ) → List ℕ → Option ℕ → Added
by_place names word (Some place) = Some (place, names)
by_place names word None = cond {A = Added} (nat_lt (length names) 64) (Some (length names, names ++ word ∷ [])) None

abbrev place_in : Found → ℕ
place_in (Err error) = 0
place_in (Ok pair) = pair.0

abbrev names_in : Found → List (List ℕ)
names_in (Err error) = []
names_in (Ok pair) = pair.1

pair_is : (at place : ℕ) (ns next : List (List ℕ)) (r s : Found) → r ≡ s → r ≡ Ok (at, ns) → s ≡ Ok (place, next) → (at ≡ place) × (ns ≡ next)
pair_is at place ns next r s e f g = (ap place_in (sym f ∙ e ∙ g), ap names_in (sym f ∙ e ∙ g))

pub placed_so : (known : Bool) (names : List (List ℕ)) (word : List ℕ) (place : ℕ) (next : List (List ℕ)) → place_for known names word ≡ Ok (place, next) → Placed known names word place next
placed_so false names word place next h = by (with_name names word) refl h where
  by : (found : Added) → with_name names word ≡ found → added_name found ≡ Ok (place, next) → Placed false names word place next
  by None e k = absurd (cc)
  by (Some (at, ns)) e k =
      let p = pair_is at place ns next (Ok (at, ns)) (Ok (at, ns)) refl refl k in
      record { added = e ∙ ap (λ n. Some (n, ns)) p.0 ∙ ap (λ ns. Some (place, ns)) p.1; kept = λ f. absurd (cc f) }
placed_so true names word place next h = by (place_of_name names word) refl h where
  by : (found : Option ℕ) → place_of_name names word ≡ found → found_name names found ≡ Ok (place, next) → Placed true names word place next
  by None e k = absurd (cc)
  by (Some at) e k =
      let p = pair_is at place names next (Ok (at, names)) (Ok (at, names)) refl refl k in
      record { added = ap (by_place names word) e ∙ ap (λ n. Some (n, names)) p.0 ∙ ap (λ ns. Some (place, ns)) p.1; kept = λ f. sym p.1 }

-- Several words.

-- words are added to names, of which known ones stay
pub record Adding (known : Bool) (names words after : List (List ℕ)) : Type 0 where
  pub added : with_words names words ≡ Some after
  pub kept : known ≡ true → after ≡ names

-- the first one, and then the others
pub record First (known : Bool) (names : List (List ℕ)) (word : List ℕ) (words after : List (List ℕ)) : Type 0 where
  pub place : ℕ
  pub next : List (List ℕ)
  pub first : Placed known names word place next
  pub others : Adding known next words after

pub first_of : (known : Bool) (names : List (List ℕ)) (word : List ℕ) (words after : List (List ℕ)) → Adding known names (word ∷ words) after → First known names word words after
first_of known names word words after a =
    let f = first_added names word words after a.added in
    let same : known ≡ true → f.next ≡ names = λ k. squeezed (adds names word f.place f.next f.first).grown (words_grow f.next words after f.others) (a.kept k) in
    record {
      place = f.place;
      next = f.next;
      first = record { added = f.first; kept = same };
      others = record { added = f.others; kept = λ k. a.kept k ∙ sym (same k) };
    }

pub adding_first : {known : Bool} {names : List (List ℕ)} {word : List ℕ} {words : List (List ℕ)} {place : ℕ} {next after : List (List ℕ)} → Placed known names word place next →
    Adding known next words after → Adding known names (word ∷ words) after
adding_first {names = names} {word = word} {words = words} {place = place} {next = next} {after = after} p a =
    record { added = add_first names word words place next after p.added a.added; kept = λ k. a.kept k ∙ p.kept k }

-- some, and then the others
pub record Front (known : Bool) (names front back after : List (List ℕ)) : Type 0 where
  pub middle : List (List ℕ)
  pub first : Adding known names front middle
  pub others : Adding known middle back after

pub front_of : (known : Bool) (names front back after : List (List ℕ)) → Adding known names (front ++ back) after → Front known names front back after
front_of known names front back after a =
    let f = front_added names front back after a.added in
    let same : known ≡ true → f.middle ≡ names = λ k. squeezed (words_grow names front f.middle f.first) (words_grow f.middle back after f.others) (a.kept k) in
    record { middle = f.middle; first = record { added = f.first; kept = same }; others = record { added = f.others; kept = λ k. a.kept k ∙ sym (same k) } }

pub adding_front : {known : Bool} {names front back middle after : List (List ℕ)} → Adding known names front middle → Adding known middle back after → Adding known names (front ++ back) after
adding_front {names = names} {front = front} {back = back} {middle = middle} {after = after} a b = record { added = add_front names front back middle after a.added b.added; kept = λ k. b.kept k ∙ a.kept k }

pub adding_none : (known : Bool) (names : List (List ℕ)) → Adding known names [] names
adding_none known names = record { added = refl; kept = λ k. refl }

-- No name stands twice.

abbrev pub names_of : {D : Type 0} → List (List ℕ × AbsCell D) → List (List ℕ)
names_of entries = map (λ entry. entry.0) entries

differs : {D : Type 0} (x name : List ℕ) (front : List (List ℕ × AbsCell D)) (cell : AbsCell D) (back : List (List ℕ × AbsCell D)) →
    AllByRecursion (λ y. bytes_eq x y ≡ false) (names_of (front ++ (name, cell) ∷ back)) → bytes_eq x name ≡ false
differs x name [] cell back h = h.0
differs x name (y ∷ front) cell back h = differs x name front cell back h.1

-- a name that comes later isn't written before
pub fresh : {D : Type 0} (front : List (List ℕ × AbsCell D)) (name : List ℕ) (cell : AbsCell D) (back : List (List ℕ × AbsCell D)) →
    IsDistinct bytes_eq (names_of (front ++ (name, cell) ∷ back)) → written front name ≡ None
fresh [] name cell back h = refl
fresh (x ∷ front) name cell back h =
    ap (λ b. option_map (λ entry. entry.1) (cond b (Some x) (find (λ entry. bytes_eq entry.0 name) front)))
    (differs x.0 name front cell back (IsDistinct-head bytes_eq x.0 (names_of (front ++ (name, cell) ∷ back)) h))
    ∙ fresh front name cell back (IsDistinct-tail bytes_eq x.0 (names_of (front ++ (name, cell) ∷ back)) h)

not_first : {D : Type 0} (x : List ℕ × AbsCell D) (front : List (List ℕ × AbsCell D)) (name : List ℕ) → written (x ∷ front) name ≡ None → (bytes_eq x.0 name ≡ false) × (written front name ≡ None)
not_first x front name h = by (bytes_eq x.0 name) refl h where
  by : (b : Bool) → bytes_eq x.0 name ≡ b → option_map (λ entry. entry.1) (cond b (Some x) (find (λ entry. bytes_eq entry.0 name) front)) ≡ None →
      (bytes_eq x.0 name ≡ false) × (written front name ≡ None)
  by true e k = absurd (cc)
  by false e k = (e, k)

all_one : {D : Type 0} (x : List ℕ) (front : List (List ℕ × AbsCell D)) (name : List ℕ) (cell : AbsCell D) → AllByRecursion (λ y. bytes_eq x y ≡ false) (names_of front) → bytes_eq x name ≡ false →
    AllByRecursion (λ y. bytes_eq x y ≡ false) (names_of (front ++ (name, cell) ∷ []))
all_one x [] name cell h e = (e, tt)
all_one x (y ∷ front) name cell h e = (h.0, all_one x front name cell h.1 e)

-- a name that isn't written goes last
pub distinct_one : {D : Type 0} (front : List (List ℕ × AbsCell D)) (name : List ℕ) (cell : AbsCell D) → IsDistinct bytes_eq (names_of front) → written front name ≡ None →
    IsDistinct bytes_eq (names_of (front ++ (name, cell) ∷ []))
distinct_one [] name cell d h = IsDistinct-cons bytes_eq name [] tt d
distinct_one (x ∷ front) name cell d h =
    let n = not_first x front name h in
    IsDistinct-cons bytes_eq x.0 (names_of (front ++ (name, cell) ∷ [])) (all_one x.0 front name cell (IsDistinct-head bytes_eq x.0 (names_of front) d) n.0)
    (distinct_one front name cell (IsDistinct-tail bytes_eq x.0 (names_of front) d) n.1)
