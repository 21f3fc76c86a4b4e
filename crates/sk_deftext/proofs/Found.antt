-- What the names of a definition name.
use Rattle.std.proofs.Common.{◌≡◌, ◌⊎◌, inl, inr, ℕ, zero, suc, ◌+◌, ◌<◌, ◌≤◌, min, nat_lt, Bool, true, false, cond, not, ◌||◌, if◌then◌else◌, List, [], ◌∷◌, ◌++◌, length, map, take, refl, sym, ap, subst, ◌∙◌, arith, length-take, length-append, Some, None}
use Rattle.std.specs.Prelude.{codes, position, option_map, is_some}
use Rattle.std.specs.List.{position_or_len}
use Rattle.std.specs.Str.{bytes_eq}
use Rattle.std.proofs.lemmas.Bool.{lt-ltb, le-ltb, ltb-true, or_parts}
use Rattle.std.proofs.lemmas.Cmp.{nat_list_eq_equiv}
use Rattle.std.proofs.lemmas.List.{take_more, length-map}
use Rattle.std.proofs.Math.Seq.{take-append_seam}
use Rattle.std.proofs.lemmas.Option.{unwrap_or-slice_get}
use Rattle.sk_base.specs.Names.{place_of_name, with_name}
use Rattle.sk_def.specs.Fits.{ArgumentFits}
use Rattle.sk_def.specs.Named.{place_of_con, place_of_hook}
use Rattle.sk_def.specs.declared.sorts.ArgSort.{ArgSort}
use Rattle.sk_def.specs.declared.sorts.ArgSort.TheVariants as arg
use Rattle.sk_def.specs.declared.ids.SortId.{SortId}
use Rattle.sk_def.specs.declared.ids.Var.{Var}
use Rattle.sk_def.specs.declared.def.Con.{Con}
use Rattle.sk_def.specs.declared.def.Hook.{Hook}
use Rattle.sk_deftext.specs.Canonical.{name_at, arg_word, var_word}
use Rattle.sk_deftext.specs.Reading.{arg_sort_named, sort_named}
use Rattle.sk_deftext.specs.Words.{is_reserved, flow_sort_of}
use Rattle.sk_deftext.specs.Written.{AreNames, Appear}

module _ {A : Type 0} (p : A → Bool) where
  -- where the first entry of a front stands
  first_in_front : (xs : List A) (n : ℕ) → position_or_len p (take n xs) ≡ min n (position_or_len p xs)
  first_in_front [] zero = refl
  first_in_front [] (suc n) = omega arith
  first_in_front (x ∷ xs) zero = omega arith
  first_in_front (x ∷ xs) (suc n) = by (p x) (first_in_front xs n) where
    by : (b : Bool) → position_or_len p (take n xs) ≡ min n (position_or_len p xs) →
        cond (not b) (1 + position_or_len p (take n xs)) 0 ≡ min (suc n) (cond (not b) (1 + position_or_len p xs) 0)
    by true e = omega arith
    by false e = omega (arith, e)

  at_parts : (b : Bool) (k i : ℕ) → cond b (Some k) None ≡ Some i → (b ≡ true) × (k ≡ i)
  at_parts true k i e = (refl, cc)
  at_parts false k i e = absurd (cc)

  pub found_parts : (xs : List A) (i : ℕ) → position p xs ≡ Some i → (position_or_len p xs ≡ i) × (i < length xs)
  found_parts xs i e =
      let parts = at_parts (nat_lt (position_or_len p xs) (length xs)) (position_or_len p xs) i e in
      (parts.1, omega (arith, ltb-true (position_or_len p xs) (length xs) parts.0, parts.1))

  found_before : (xs : List A) (n i : ℕ) → position p xs ≡ Some i → i < n → position p (take n xs) ≡ Some i
  found_before xs n i e h =
      let at = found_parts xs i e in
      let here : position_or_len p (take n xs) ≡ i = omega (arith, first_in_front xs n, at.0, h) in
      let within : position_or_len p (take n xs) < length (take n xs) = omega (arith, here, length-take n xs, at.1, h) in
      ap (λ b. cond b (Some (position_or_len p (take n xs))) None) (lt-ltb _ _ within) ∙ ap (λ k. Some k) here

  found_later : (xs : List A) (n i : ℕ) → position p xs ≡ Some i → n ≤ i → position p (take n xs) ≡ None
  found_later xs n i e h =
      let at = found_parts xs i e in
      let past : length (take n xs) ≤ position_or_len p (take n xs) = omega (arith, first_in_front xs n, at.0, h, length-take n xs) in
      ap (λ b. cond b (Some (position_or_len p (take n xs))) None) (le-ltb _ _ past)

-- the place among entries is the one among their names
named_first : {A : Type 0} (name : A → List ℕ) (xs : List A) (word : List ℕ) → position_or_len (λ x. bytes_eq (name x) word) xs ≡ position_or_len (λ entry. bytes_eq word entry) (map name xs)
named_first name [] word = refl
named_first name (x ∷ xs) word =
    ap (λ b. cond (not b) (1 + position_or_len (λ x. bytes_eq (name x) word) xs) 0) (nat_list_eq_equiv.symm (name x) word)
    ∙ ap (λ n. cond (not (bytes_eq word (name x))) (1 + n) 0) (named_first name xs word)

named_place : {A : Type 0} (name : A → List ℕ) (xs : List A) (word : List ℕ) → position (λ x. bytes_eq (name x) word) xs ≡ place_of_name (map name xs) word
named_place name xs word =
    ap (λ k. cond (nat_lt k (length xs)) (Some k) None) (named_first name xs word)
    ∙ ap (λ n. cond (nat_lt (position_or_len (λ entry. bytes_eq word entry) (map name xs)) n) (Some (position_or_len (λ entry. bytes_eq word entry) (map name xs))) None) (sym (length-map xs name))

pub con_place : (cons : List Con) (word : List ℕ) → place_of_con cons word ≡ place_of_name (map (λ (con : Con). con.name) cons) word
con_place cons word = named_place (λ (con : Con). con.name) cons word

pub hook_place : (hooks : List Hook) (word : List ℕ) → place_of_hook hooks word ≡ place_of_name (map (λ (hook : Hook). hook.name) hooks) word
hook_place hooks word = named_place (λ (hook : Hook). hook.name) hooks word

-- a name is new after those that come before it
pub is_new : (names : List (List ℕ)) → AreNames names → (n : ℕ) → n < length names → place_of_name (take n names) (name_at names n) ≡ None
is_new names h n within = found_later (λ entry. bytes_eq (name_at names n) entry) names n n (h.found n within) (omega arith)

pub is_old : (names : List (List ℕ)) → AreNames names → (n i : ℕ) → i < n → i < length names → place_of_name (take n names) (name_at names i) ≡ Some i
is_old names h n i before within = found_before (λ entry. bytes_eq (name_at names i) entry) names n i (h.found i within) before

-- the name after a front, and the front
pub name_after : (front : List (List ℕ)) (name : List ℕ) (back : List (List ℕ)) → name_at (front ++ name ∷ back) (length front) ≡ name
name_after [] name back = refl
name_after (x ∷ front) name back = name_after front name back

pub after_front : (front : List (List ℕ)) (name : List ℕ) (back names : List (List ℕ)) → names ≡ front ++ name ∷ back → AreNames names → place_of_name front name ≡ None
after_front front name back names e h =
    let within : length front < length names = omega (arith, ap length e, length-append front (name ∷ back)) in
    let at : name_at names (length front) ≡ name = ap (λ ns. name_at ns (length front)) e ∙ name_after front name back in
    let before : take (length front) names ≡ front = ap (take (length front)) e ∙ take-append_seam front (name ∷ back) in
    let P : List (List ℕ) → Type 0 = λ ns. place_of_name ns name ≡ None in
    let Q : List ℕ → Type 0 = λ n. place_of_name (take (length front) names) n ≡ None in
    subst P before (subst Q at (is_new names h (length front) within))

-- Adding the names of variables in their order.

pub known_name : (names : List (List ℕ)) (word : List ℕ) (i : ℕ) → place_of_name names word ≡ Some i → with_name names word ≡ Some (i, names)
known_name names word i e = rw e

pub new_name : (names : List (List ℕ)) (word : List ℕ) → place_of_name names word ≡ None → length names < 64 → with_name names word ≡ Some (length names, names ++ word ∷ [])
new_name names word e h = rw (e, lt-ltb (length names) 64 h)

-- how many names have come after a variable that may come
abbrev pub Comes : ℕ → Var → ℕ → Type 0
Comes n v m = ((v.0 < n) × (n ≡ m)) ⊎ ((v.0 ≡ n) × (suc n ≡ m))

pub variable_comes : (names : List (List ℕ)) → AreNames names → length names ≤ 64 → (n m : ℕ) (v : Var) → Comes n v m → m ≤ length names →
    with_name (take n names) (var_word names v) ≡ Some (v.0, take m names)
variable_comes names h few n m v (inl c) most =
    known_name (take n names) (var_word names v) v.0 (is_old names h n v.0 c.0 (omega (arith, c.0, c.1, most))) ∙ ap (λ k. Some (v.0, take k names)) c.1
variable_comes names h few n m v (inr c) most =
    let within : n < length names = omega (arith, c.1, most) in
    let count : length (take n names) ≡ n = omega (arith, length-take n names, within) in
    let P : ℕ → Type 0 = λ k. place_of_name (take n names) (name_at names k) ≡ None in
    let new = subst P (sym c.0) (is_new names h n within) in
    let more : take n names ++ var_word names v ∷ [] ≡ take m names =
    ap (λ k. take n names ++ name_at names k ∷ []) c.0 ∙ ap (λ w. take n names ++ w ∷ []) (unwrap_or-slice_get names n [])
    ∙ sym (take_more names n [] within) ∙ ap (λ k. take k names) (omega (arith, c.1)) in
    new_name (take n names) (var_word names v) new (omega (arith, count, within, few))
    ∙ ap (λ k. Some (k, take n names ++ var_word names v ∷ [])) (count ∙ sym c.0) ∙ ap (λ ns. Some (v.0, ns)) more

-- Sorts.

pub sort_found : (sorts : List (List ℕ)) → AreNames sorts → (id : SortId) → id.0 < length sorts → sort_named sorts (name_at sorts id.0) ≡ Some id
sort_found sorts h id within = ap (λ o. option_map (λ place. record { 0 = place }) o) (h.found id.0 within)

reserved_parts : (word : List ℕ) → is_reserved word ≡ false → (bytes_eq word (codes "number") ≡ false) × (bytes_eq word (codes "name") ≡ false)
reserved_parts word h =
    let first = or_parts (bytes_eq word (codes "number") || bytes_eq word (codes "name")) (is_some (flow_sort_of word)) h in
    or_parts (bytes_eq word (codes "number")) (bytes_eq word (codes "name")) first.0

pub argument_found : (sorts : List (List ℕ)) → AreNames sorts → ((place : ℕ) → place < length sorts → is_reserved (name_at sorts place) ≡ false) →
    (argument : ArgSort) → ArgumentFits (length sorts) argument → arg_sort_named sorts (arg_word sorts argument) ≡ Some argument
argument_found sorts h own arg.Number p = refl
argument_found sorts h own arg.Name p = refl
argument_found sorts h own (arg.Term id) p =
    let plain = reserved_parts (name_at sorts id.0) (own id.0 p) in
    ap (λ b. if b then Some arg.Number else (if bytes_eq (name_at sorts id.0) (codes "name") then Some arg.Name else option_map arg.Term (sort_named sorts (name_at sorts id.0)))) plain.0
    ∙ ap (λ b. if b then Some arg.Name else option_map arg.Term (sort_named sorts (name_at sorts id.0))) plain.1
    ∙ ap (λ o. option_map arg.Term o) (sort_found sorts h id p)

-- Appearing.

pub appears : (n m : ℕ) (vs ws : List Var) → Appear n (vs ++ ws) m → (k : ℕ) × Appear n vs k × Appear k ws m
appears n m [] ws h = (n, refl, h)
appears n m (v ∷ vs) ws (inl h) = let later = appears n m vs ws h.1 in (later.0, inl (h.0, later.1), later.2)
appears n m (v ∷ vs) ws (inr h) = let later = appears (suc n) m vs ws h.1 in (later.0, inr (h.0, later.1), later.2)

pub appears_more : (n m : ℕ) (vs : List Var) → Appear n vs m → n ≤ m
appears_more n m [] h = omega (arith, h)
appears_more n m (v ∷ vs) (inl h) = appears_more n m vs h.1
appears_more n m (v ∷ vs) (inr h) = omega (arith, appears_more (suc n) m vs h.1)

pub first_comes : (n m : ℕ) (v : Var) (vs : List Var) → Appear n (v ∷ vs) m → (k : ℕ) × Comes n v k × Appear k vs m
first_comes n m v vs (inl h) = (n, inl (h.0, refl), h.1)
first_comes n m v vs (inr h) = (suc n, inr (h.0, refl), h.1)
