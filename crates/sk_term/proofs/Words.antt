-- Words among names, and names to which words are added.
use Rattle.std.proofs.Common.{◌≡◌, ℕ, zero, suc, ◌+◌, ◌<◌, ◌≤◌, nat_lt, Bool, true, false, cond, not, List, [], ◌∷◌, ◌++◌, length, get_or, refl, sym, ap, subst, ◌∙◌, arith, length-append, Option, Some, None}
use Rattle.std.specs.List.{IsDistinct, AllByRecursion, position_or_len}
use Rattle.std.specs.Option.{option_and_then}
use Rattle.std.specs.Str.{bytes_eq}
use Rattle.std.proofs.lemmas.Bool.{lt-ltb, ltb-false}
use Rattle.std.proofs.lemmas.Cmp.{nat_list_eq_equiv}
use Rattle.std.proofs.lemmas.List.{append-nil, get_or_append_left}
use Rattle.std.proofs.lemmas.List.Quantifiers.{position-Some}
use Rattle.std.proofs.lemmas.Map.Keys.{IsDistinct-head, IsDistinct-tail, IsDistinct-cons, apart_from_distinct}
use Rattle.std.proofs.lemmas.Option.{unwrap_or-slice_get, same_Some}
use Rattle.std.proofs.lemmas.Slice.Eq.{bytes_eq-Decides}
use Rattle.std.proofs.Math.Seq.{get_or-append_seam}
use Rattle.sk_base.specs.Names.{with_name, place_of_name}
use Rattle.sk_term.specs.Meets.{HasGrown}
use Rattle.sk_term.specs.Spelling.{word_at, with_words}
use Rattle.sk_term.proofs.Grown.{grown_more}

word_is : (names : List (List ℕ)) (place : ℕ) → word_at names place ≡ get_or names place []
word_is names place = unwrap_or-slice_get names place []

pub word_before : (front back : List (List ℕ)) (place : ℕ) → place < length front → word_at (front ++ back) place ≡ word_at front place
word_before front back place h = word_is (front ++ back) place ∙ get_or_append_left front back [] place h ∙ sym (word_is front place)

-- a word is the one at its place
pub found_there : (names : List (List ℕ)) (word : List ℕ) (place : ℕ) → place_of_name names word ≡ Some place → (place < length names) × (word_at names place ≡ word)
found_there names word place e =
    let h = position-Some (λ entry. bytes_eq word entry) names place [] e in
    (h.0, word_is names place ∙ sym ((bytes_eq-Decides word (get_or names place [])).0 h.1))

-- each of different words is found at its place
first_at : (names : List (List ℕ)) (place : ℕ) → IsDistinct bytes_eq names → place < length names → position_or_len (λ entry. bytes_eq (get_or names place []) entry) names ≡ place
first_at [] place h l = absurd (omega (arith, l))
first_at (x ∷ names) zero h l = ap (λ b. cond (not b) (1 + position_or_len (λ entry. bytes_eq x entry) names) 0) (nat_list_eq_equiv.refl x)
first_at (x ∷ names) (suc place) h l =
    let word = get_or names place [] in
    let other : bytes_eq word x ≡ false = nat_list_eq_equiv.symm word x ∙ apart_from_distinct bytes_eq (x ∷ names) 0 (suc place) [] h (omega arith) l in
    let later : 1 + position_or_len (λ entry. bytes_eq word entry) names ≡ suc place = omega (arith, first_at names place (IsDistinct-tail bytes_eq x names h) (omega (arith, l))) in
    ap (λ b. cond (not b) (1 + position_or_len (λ entry. bytes_eq word entry) names) 0) other ∙ later

own_place : (names : List (List ℕ)) (place : ℕ) → IsDistinct bytes_eq names → place < length names → place_of_name names (word_at names place) ≡ Some place
own_place names place h l =
    let word = word_at names place in
    let first : position_or_len (λ entry. bytes_eq word entry) names ≡ place = ap (λ w. position_or_len (λ entry. bytes_eq w entry) names) (word_is names place) ∙ first_at names place h l in
    let within : position_or_len (λ entry. bytes_eq word entry) names < length names = omega (arith, first, l) in
    ap (λ b. cond b (Some (position_or_len (λ entry. bytes_eq word entry) names)) None) (lt-ltb _ _ within) ∙ ap (λ n. Some n) first

-- A word that no name is.

none_passes : {A : Type 0} (p : A → Bool) (xs : List A) → length xs ≤ position_or_len p xs → AllByRecursion (λ x. p x ≡ false) xs
none_passes p [] h = tt
none_passes p (x ∷ xs) h = by (p x) refl h (none_passes p xs) where
  by : (b : Bool) → p x ≡ b → suc (length xs) ≤ cond (not b) (1 + position_or_len p xs) 0 → (length xs ≤ position_or_len p xs → AllByRecursion (λ x. p x ≡ false) xs) →
      (p x ≡ false) × AllByRecursion (λ x. p x ≡ false) xs
  by true e k later = absurd (omega (arith, k))
  by false e k later = (e, later (omega (arith, k)))

none_is : (names : List (List ℕ)) (word : List ℕ) → place_of_name names word ≡ None → AllByRecursion (λ entry. bytes_eq word entry ≡ false) names
none_is names word e = none_passes (λ entry. bytes_eq word entry) names (by (nat_lt first (length names)) refl e) where
  first : ℕ
  first = position_or_len (λ entry. bytes_eq word entry) names

  by : (b : Bool) → nat_lt first (length names) ≡ b → cond b (Some first) None ≡ None → length names ≤ first
  by true f h = absurd (cc)
  by false f h = ltb-false first (length names) f

all_push : {A : Type 0} (P : A → Type 0) (xs : List A) (x : A) → AllByRecursion P xs → P x → AllByRecursion P (xs ++ x ∷ [])
all_push P [] x h p = (p, tt)
all_push P (y ∷ xs) x h p = (h.0, all_push P xs x h.1 p)

push : (names : List (List ℕ)) (word : List ℕ) → IsDistinct bytes_eq names → AllByRecursion (λ entry. bytes_eq word entry ≡ false) names → IsDistinct bytes_eq (names ++ word ∷ [])
push [] word d h = IsDistinct-cons bytes_eq word [] tt d
push (x ∷ names) word d h =
    IsDistinct-cons bytes_eq x (names ++ word ∷ [])
    (all_push (λ y. bytes_eq x y ≡ false) names word (IsDistinct-head bytes_eq x names d) (nat_list_eq_equiv.symm x word ∙ h.0))
    (push names word (IsDistinct-tail bytes_eq x names d) h.1)

-- a word was added to names and has this place then
pub record IsAdded (names : List (List ℕ)) (word : List ℕ) (place : ℕ) (after : List (List ℕ)) : Type 0 where
  pub grown : HasGrown names after
  pub within : place < length after
  pub there : word_at after place ≡ word
  pub different : IsDistinct bytes_eq names → IsDistinct bytes_eq after

abbrev Added : Type 0
Added = Option (ℕ × List (List ℕ))

abbrev by_place : List (List ℕ) → List ℕ → Option ℕ → Added
by_place names word (Some place) = Some (place, names)
by_place names word None = cond {A = Added} (nat_lt (length names) 64) (Some (length names, names ++ word ∷ [])) None

abbrev place_in : Added → ℕ
place_in None = 0
place_in (Some pair) = pair.0

abbrev names_in : Added → List (List ℕ)
names_in None = []
names_in (Some pair) = pair.1

added_so : {names : List (List ℕ)} {word : List ℕ} {place : ℕ} {after : List (List ℕ)} (found : ℕ) (all : List (List ℕ)) → found ≡ place → all ≡ after → IsAdded names word found all → IsAdded names word place after
added_so {names = names} {word = word} {place = place} found all e f a =
    let P : ℕ → Type 0 = λ n. IsAdded names word n all in
    let Q : List (List ℕ) → Type 0 = λ ns. IsAdded names word place ns in
    subst Q f (subst P e a)

is_added : (names : List (List ℕ)) (word : List ℕ) (found : Option ℕ) (place : ℕ) (after : List (List ℕ)) → place_of_name names word ≡ found → by_place names word found ≡ Some (place, after) → IsAdded names word place after
is_added names word (Some at) place after e h =
    let f = found_there names word at e in
    added_so at names (ap place_in h) (ap names_in h) (record { grown = record { added = []; is = sym (append-nil names) }; within = f.0; there = f.1; different = λ d. d })
is_added names word None place after e h = by_room (nat_lt (length names) 64) h where
  by_room : (room : Bool) → cond {A = Added} room (Some (length names, names ++ word ∷ [])) None ≡ Some (place, after) → IsAdded names word place after
  by_room true k =
      added_so (length names) (names ++ word ∷ []) (ap place_in k) (ap names_in k) (record {
        grown = record { added = word ∷ []; is = refl };
        within = omega (arith, length-append names (word ∷ []));
        there = word_is (names ++ word ∷ []) (length names) ∙ get_or-append_seam names word [] [];
        different = λ d. push names word d (none_is names word e);
      })
  by_room false k = absurd (cc)

pub adds : (names : List (List ℕ)) (word : List ℕ) (place : ℕ) (after : List (List ℕ)) → with_name names word ≡ Some (place, after) → IsAdded names word place after
adds names word place after h = is_added names word (place_of_name names word) place after refl h

-- where a name's word is added, its place is the name's
pub place_is : (all now after : List (List ℕ)) (n place : ℕ) → IsDistinct bytes_eq all → n < length all → with_name now (word_at all n) ≡ Some (place, after) → HasGrown after all → place ≡ n
place_is all now after n place d l e g =
    let a = adds now (word_at all n) place after e in
    let there : word_at all place ≡ word_at all n = ap (λ names. word_at names place) g.is ∙ word_before after g.added place a.within ∙ a.there in
    let within : place < length all = omega (arith, a.within, ap length g.is, length-append after g.added) in
    same_Some place n (sym (own_place all place d within) ∙ ap (place_of_name all) there ∙ own_place all n d l)

-- Several words.

-- the first word is added, and then the others
pub record FirstAdded (names : List (List ℕ)) (word : List ℕ) (words after : List (List ℕ)) : Type 0 where
  pub place : ℕ
  pub next : List (List ℕ)
  pub first : with_name names word ≡ Some (place, next)
  pub others : with_words next words ≡ Some after

abbrev others_added : List (List ℕ) → Added → Option (List (List ℕ))
others_added words added = option_and_then (λ (pair : ℕ × List (List ℕ)). with_words pair.1 words) added

pub first_added : (names : List (List ℕ)) (word : List ℕ) (words after : List (List ℕ)) → with_words names (word ∷ words) ≡ Some after → FirstAdded names word words after
first_added names word words after h = by (with_name names word) refl h where
  by : (added : Added) → with_name names word ≡ added → others_added words added ≡ Some after → FirstAdded names word words after
  by None e k = absurd (cc)
  by (Some (place, next)) e k = record { place = place; next = next; first = e; others = k }

pub add_first : (names : List (List ℕ)) (word : List ℕ) (words : List (List ℕ)) (place : ℕ) (next after : List (List ℕ)) → with_name names word ≡ Some (place, next) → with_words next words ≡ Some after →
    with_words names (word ∷ words) ≡ Some after
add_first names word words place next after e h = ap (others_added words) e ∙ h

pub words_grow : (names words after : List (List ℕ)) → with_words names words ≡ Some after → HasGrown names after
words_grow names [] after h = record { added = []; is = sym (same_Some names after h) ∙ sym (append-nil names) }
words_grow names (word ∷ words) after h =
    let f = first_added names word words after h in
    grown_more (adds names word f.place f.next f.first).grown (words_grow f.next words after f.others)

pub words_differ : (names words after : List (List ℕ)) → with_words names words ≡ Some after → IsDistinct bytes_eq names → IsDistinct bytes_eq after
words_differ names [] after h d = subst (λ (ns : List (List ℕ)). IsDistinct bytes_eq ns) (same_Some names after h) d
words_differ names (word ∷ words) after h d =
    let f = first_added names word words after h in
    words_differ f.next words after f.others ((adds names word f.place f.next f.first).different d)

-- words, and then others
pub record FrontAdded (names front back after : List (List ℕ)) : Type 0 where
  pub middle : List (List ℕ)
  pub first : with_words names front ≡ Some middle
  pub others : with_words middle back ≡ Some after

pub front_added : (names front back after : List (List ℕ)) → with_words names (front ++ back) ≡ Some after → FrontAdded names front back after
front_added names [] back after h = record { middle = names; first = refl; others = h }
front_added names (word ∷ front) back after h =
    let f = first_added names word (front ++ back) after h in
    let r = front_added f.next front back after f.others in
    record { middle = r.middle; first = add_first names word front f.place f.next r.middle f.first r.first; others = r.others }

pub add_front : (names front back middle after : List (List ℕ)) → with_words names front ≡ Some middle → with_words middle back ≡ Some after → with_words names (front ++ back) ≡ Some after
add_front names [] back middle after h k = ap (λ ns. with_words ns back) (same_Some names middle h) ∙ k
add_front names (word ∷ front) back middle after h k =
    let f = first_added names word front middle h in
    add_first names word (front ++ back) f.place f.next after f.first (add_front f.next front back middle after f.others k)
