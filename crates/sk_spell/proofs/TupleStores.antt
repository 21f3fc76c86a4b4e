-- Stores in which entries set words.
use Rattle.std.proofs.Common.{◌≡◌, ℕ, zero, suc, ◌+◌, ◌-◌, ◌<◌, ◌≤◌, ◌⊎◌, inl, inr, Bool, true, false, cond, List, [], ◌∷◌, ◌++◌, length, map, replicate, get_or, refl, sym, ap, subst, ◌∙◌, arith, length-append, Option, Some, None}
use Rattle.std.specs.List.{IsDistinct, AllByRecursion}
use Rattle.std.specs.Str.{bytes_eq}
use Rattle.std.proofs.lemmas.Cmp.{nat_list_eq_equiv}
use Rattle.std.proofs.lemmas.List.{ext_get_or, get_or-map, get_or-set_same, get_or-set_other, length-replicate, length-map, length-set}
use Rattle.std.proofs.lemmas.Map.Keys.{IsDistinct-head, IsDistinct-tail, IsDistinct-cons, apart_from_distinct}
use Rattle.std.proofs.lemmas.Option.{unwrap_or-slice_get}
use Rattle.sk_base.specs.Names.{with_name}
use Rattle.sk_term.specs.Meets.{HasGrown}
use Rattle.sk_term.specs.Spelling.{word_at}
use Rattle.sk_term.proofs.Words.{adds, word_before}
use Rattle.sk_value.specs.Padding.{padded_store}
use Rattle.sk_value.specs.declared.value.Value.{Value}
use Rattle.sk_deriv.specs.Reading.{with_value}
use Rattle.sk_spell.specs.TupleSpelling.{Entry, value_for}

abbrev pub word_of_entry : Entry → List ℕ
word_of_entry entry = entry.0

-- where a word is added, it has that place from then on
pub placed : (now : List (List ℕ)) (word : List ℕ) (place : ℕ) (next all : List (List ℕ)) → with_name now word ≡ Some (place, next) → HasGrown next all → (place < length all) × (get_or all place [] ≡ word)
placed now word place next all e g =
    let a = adds now word place next e in
    let there : word_at all place ≡ word = ap (λ names. word_at names place) g.is ∙ word_before next g.added place a.within ∙ a.there in
    (omega (arith, a.within, ap length g.is, length-append next g.added), sym (unwrap_or-slice_get all place []) ∙ there)

-- Padding changes no place.

unset_get : (n q : ℕ) → get_or (replicate {A = Option Value} n None) q None ≡ None
unset_get zero q = refl
unset_get (suc n) zero = refl
unset_get (suc n) (suc q) = unset_get n q

gained_get : (s : List (Option Value)) (n q : ℕ) → get_or (s ++ replicate n None) q None ≡ get_or s q None
gained_get [] n q = unset_get n q
gained_get (x ∷ s) n zero = refl
gained_get (x ∷ s) n (suc q) = gained_get s n q

padded_get : (names : ℕ) (s : List (Option Value)) (q : ℕ) → get_or (padded_store names s) q None ≡ get_or s q None
padded_get names s q = gained_get s (names - length s) q

padded_length : (names : ℕ) (s : List (Option Value)) → length (padded_store names s) ≡ length s + (names - length s)
padded_length names s = omega (arith, length-append s (replicate {A = Option Value} (names - length s) None), length-replicate {A = Option Value} (names - length s) None)

-- A place that is set.

with_same : (s : List (Option Value)) (place : ℕ) (v : Value) → get_or (with_value s place v) place None ≡ Some v
with_same s place v = get_or-set_same (padded_store (place + 1) s) place (Some v) None (omega (arith, padded_length (place + 1) s))

with_other : (s : List (Option Value)) (place q : ℕ) (v : Value) → (q ≡ place → ⊥) → get_or (with_value s place v) q None ≡ get_or s q None
with_other s place q v h = get_or-set_other (padded_store (place + 1) s) place q (Some v) None h ∙ padded_get (place + 1) s q

with_length : (s : List (Option Value)) (place : ℕ) (v : Value) → length (with_value s place v) ≡ length s + ((place + 1) - length s)
with_length s place v = length-set (padded_store (place + 1) s) place (Some v) ∙ padded_length (place + 1) s

-- What entries set.

pub set_last : (front : List Entry) (word : List ℕ) (v : Value) → value_for front word ≡ None → value_for (front ++ (word, v) ∷ []) word ≡ Some v
set_last [] word v h = ap (λ b. cond b (Some v) None) (nat_list_eq_equiv.refl word)
set_last (entry ∷ front) word v h = by (bytes_eq entry.0 word) h (set_last front word v) where
  by : (b : Bool) → cond b (Some entry.1) (value_for front word) ≡ None → (value_for front word ≡ None → value_for (front ++ (word, v) ∷ []) word ≡ Some v) →
      cond b (Some entry.1) (value_for (front ++ (word, v) ∷ []) word) ≡ Some v
  by true k others = absurd (cc)
  by false k others = others k

pub others_stay : (front : List Entry) (word other : List ℕ) (v : Value) → bytes_eq word other ≡ false → value_for (front ++ (word, v) ∷ []) other ≡ value_for front other
others_stay [] word other v h = ap (λ b. cond b (Some v) None) h
others_stay (entry ∷ front) word other v h = ap (λ o. cond (bytes_eq entry.0 other) (Some entry.1) o) (others_stay front word other v h)

-- a word that entries don't set is no word of theirs
pub unset_word : (front : List Entry) (word : List ℕ) → value_for front word ≡ None → AllByRecursion (λ w. bytes_eq w word ≡ false) (map word_of_entry front)
unset_word [] word h = tt
unset_word (entry ∷ front) word h = by (bytes_eq entry.0 word) refl h (unset_word front word) where
  by : (b : Bool) → bytes_eq entry.0 word ≡ b → cond b (Some entry.1) (value_for front word) ≡ None → (value_for front word ≡ None → AllByRecursion (λ w. bytes_eq w word ≡ false) (map word_of_entry front)) →
      (bytes_eq entry.0 word ≡ false) × AllByRecursion (λ w. bytes_eq w word ≡ false) (map word_of_entry front)
  by true e k others = absurd (cc)
  by false e k others = (e, others k)

all_push : {A : Type 0} (P : A → Type 0) (xs : List A) (x : A) → AllByRecursion P xs → P x → AllByRecursion P (xs ++ x ∷ [])
all_push P [] x h p = (p, tt)
all_push P (y ∷ xs) x h p = (h.0, all_push P xs x h.1 p)

push : (ws : List (List ℕ)) (word : List ℕ) → IsDistinct bytes_eq ws → AllByRecursion (λ w. bytes_eq w word ≡ false) ws → IsDistinct bytes_eq (ws ++ word ∷ [])
push [] word d h = IsDistinct-cons bytes_eq word [] tt d
push (x ∷ ws) word d h =
    IsDistinct-cons bytes_eq x (ws ++ word ∷ []) (all_push (λ y. bytes_eq x y ≡ false) ws word (IsDistinct-head bytes_eq x ws d) h.0) (push ws word (IsDistinct-tail bytes_eq x ws d) h.1)

map_push : (front : List Entry) (entry : Entry) → map word_of_entry (front ++ entry ∷ []) ≡ map word_of_entry front ++ entry.0 ∷ []
map_push [] entry = refl
map_push (x ∷ front) entry = ap (λ ws. x.0 ∷ ws) (map_push front entry)

-- one more entry
pub set_once_more : (front : List Entry) (entry : Entry) → IsDistinct bytes_eq (map word_of_entry front) → value_for front entry.0 ≡ None → IsDistinct bytes_eq (map word_of_entry (front ++ entry ∷ []))
set_once_more front entry d h =
    subst (λ (ws : List (List ℕ)). IsDistinct bytes_eq ws) (sym (map_push front entry)) (push (map word_of_entry front) entry.0 d (unset_word front entry.0 h))

all_middle : (P : List ℕ → Type 0) (front : List Entry) (entry : Entry) (rest : List Entry) → AllByRecursion P (map word_of_entry (front ++ entry ∷ rest)) → P entry.0
all_middle P [] entry rest h = h.0
all_middle P (x ∷ front) entry rest h = all_middle P front entry rest h.1

-- where no word is set twice, those before an entry don't set its word
pub unset_before : (front : List Entry) (entry : Entry) (rest : List Entry) → IsDistinct bytes_eq (map word_of_entry (front ++ entry ∷ rest)) → value_for front entry.0 ≡ None
unset_before [] entry rest d = refl
unset_before (x ∷ front) entry rest d =
    let apart : bytes_eq x.0 entry.0 ≡ false = all_middle (λ y. bytes_eq x.0 y ≡ false) front entry rest (IsDistinct-head bytes_eq x.0 (map word_of_entry (front ++ entry ∷ rest)) d) in
    ap (λ b. cond b (Some x.1) (value_for front entry.0)) apart ∙ unset_before front entry rest (IsDistinct-tail bytes_eq x.0 (map word_of_entry (front ++ entry ∷ rest)) d)

-- Stores among names.

-- the store has the value that entries set at each name's place, as far as it goes
pub record Holds (all : List (List ℕ)) (entries : List Entry) (s : List (Option Value)) : Type 0 where
  pub short : length s ≤ length all
  pub there : (q : ℕ) → q < length all → get_or s q None ≡ value_for entries (get_or all q [])

pub holds_none : (all : List (List ℕ)) → Holds all [] []
holds_none all = record { short = omega arith; there = λ q l. refl }

other_word : (all : List (List ℕ)) (place q : ℕ) → IsDistinct bytes_eq all → place < length all → q < length all → (q < place) ⊎ (place < q) → bytes_eq (get_or all place []) (get_or all q []) ≡ false
other_word all place q d l k (inl h) = nat_list_eq_equiv.symm (get_or all place []) (get_or all q []) ∙ apart_from_distinct bytes_eq all q place [] d h l
other_word all place q d l k (inr h) = apart_from_distinct bytes_eq all place q [] d h k

data Order (a b : ℕ) : Type 0 where
  before : a < b → Order a b
  same : a ≡ b → Order a b
  behind : b < a → Order a b

later : (a b : ℕ) → Order a b → Order (suc a) (suc b)
later a b (before h) = before (omega (arith, h))
later a b (same h) = same (ap suc h)
later a b (behind h) = behind (omega (arith, h))

order : (a b : ℕ) → Order a b
order zero zero = same refl
order zero (suc b) = before (omega arith)
order (suc a) zero = behind (omega arith)
order (suc a) (suc b) = later a b (order a b)

-- one more entry, whose word the others don't set
pub holds_more : (all : List (List ℕ)) (front : List Entry) (s : List (Option Value)) (word : List ℕ) (v : Value) (place : ℕ) → IsDistinct bytes_eq all → Holds all front s → place < length all → get_or all place [] ≡ word →
    value_for front word ≡ None → Holds all (front ++ (word, v) ∷ []) (with_value s place v)
holds_more all front s word v place d h l t u = record {
  short = omega (arith, with_length s place v, h.short, l);
  there = λ q k. by q k (order q place);
} where
  differs : (q : ℕ) → q < length all → (q < place) ⊎ (place < q) → bytes_eq word (get_or all q []) ≡ false
  differs q k o = ap (λ w. bytes_eq w (get_or all q [])) (sym t) ∙ other_word all place q d l k o

  apart : (q : ℕ) → q < length all → (q ≡ place → ⊥) → (q < place) ⊎ (place < q) → get_or (with_value s place v) q None ≡ value_for (front ++ (word, v) ∷ []) (get_or all q [])
  apart q k n o = with_other s place q v n ∙ h.there q k ∙ sym (others_stay front word (get_or all q []) v (differs q k o))

  by : (q : ℕ) → q < length all → Order q place → get_or (with_value s place v) q None ≡ value_for (front ++ (word, v) ∷ []) (get_or all q [])
  by q k (before o) = apart q k (λ e. omega (arith, e, o)) (inl o)
  by q k (same e) = ap (λ n. get_or (with_value s place v) n None) e ∙ with_same s place v ∙ sym (set_last front word v u) ∙ ap (value_for (front ++ (word, v) ∷ [])) (sym t ∙ ap (λ n. get_or all n []) (sym e))
  by q k (behind o) = apart q k (λ e. omega (arith, e, o)) (inr o)

-- with a place for each name
pub padded_is : (all : List (List ℕ)) (entries : List Entry) (s : List (Option Value)) → Holds all entries s → padded_store (length all) s ≡ map (value_for entries) all
padded_is all entries s h =
    let long : length (padded_store (length all) s) ≡ length all = omega (arith, padded_length (length all) s, h.short) in
    ext_get_or None (padded_store (length all) s) (map (value_for entries) all) (long ∙ sym (length-map all (value_for entries)))
    (λ q k. let l : q < length all = omega (arith, k, long) in padded_get (length all) s q ∙ h.there q l ∙ sym (get_or-map (value_for entries) all q [] None l))
