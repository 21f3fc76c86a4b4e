-- What was read of a tuple, and what its flows are.
use Rattle.std.proofs.Common.{◌≡◌, ℕ, ◌<◌, ◌≤◌, Bool, true, false, cond, not, List, [], ◌∷◌, ◌++◌, length, map, refl, sym, ap, ◌∙◌, arith, append_assoc, length-append, Option, Some, None, Result, Ok, Err}
use Rattle.std.specs.Prelude.{MatchResult, slice_get, ◌&&◌, ◌||◌}
use Rattle.std.specs.List.{list_any, list_all, IsDistinct}
use Rattle.std.specs.Str.{bytes_eq}
use Rattle.std.proofs.lemmas.Bool.{and_parts}
use Rattle.sk_base.specs.Answer.{◌>>=◌}
use Rattle.sk_base.specs.declared.flow.FlowSort.{FlowSort}
use Rattle.sk_lex.specs.Run.{Rules, run}
use Rattle.sk_lex.specs.Symbols.{Symbol}
use Rattle.sk_lattice.specs.Domain.{Domain}
use Rattle.sk_lattice.specs.DomainTexts.{DomainTexts}
use Rattle.sk_lattice.specs.Empty.{store_of, cell_is_empty, val_is_empty, flow_is_empty, flow_is_proper, is_proper}
use Rattle.sk_lattice.specs.Truth.{bool_is_empty}
use Rattle.sk_lattice.specs.Padding.{padded_flow}
use Rattle.sk_lattice.specs.declared.truth.AbsBool.{AbsBool}
use Rattle.sk_lattice.specs.declared.cell.AbsCell.{AbsCell}
use Rattle.sk_lattice.specs.declared.store.AbsStore.TheVariants as store
use Rattle.sk_lattice.specs.declared.flow.AbsFlow.{AbsFlow}
use Rattle.sk_lattice.specs.declared.flow.AbsFlow.TheVariants as flow
use Rattle.sk_table.specs.declared.fault.TableError.{TableError}
use Rattle.sk_table.specs.declared.fault.TableError.TheVariants as error
use Rattle.sk_table.specs.Tuples.{Reading, ReadTuple, whole}
use Rattle.sk_spell.specs.AbsTupleSpelling.{WrittenFlow, Number, Truths, Parts, Cells, NoStore, names_listed, cell_of, flow_of}

-- what is taken of a domain's texts is one symbol at least, and no more than there are
abbrev pub IsTaken : {D : Type 0} → DomainTexts D → Type 0
IsTaken t = (symbols : List Symbol) → MatchResult (t.taken symbols) (λ p. (0 < p.1) × (p.1 ≤ length symbols)) (λ count. count ≤ length symbols)

abbrev pub Answer : Type 0 → Type 0
Answer D = Result (Reading D × ℕ) (TableError × ℕ)

-- what was read so far
abbrev pub reached : {D : Type 0} → Bool → List FlowSort → List (AbsFlow D) → List (Option (AbsCell D)) → ℕ → D → AbsBool → List (List ℕ) → Reading D
reached known sorts flows cells place num truth names = record { sorts = sorts; flows = flows; cells = cells; name = place; num = num; truth = truth; known = known; names = names }

pub run_ends : {E S C : Type 0} (rules : Rules E S C) (at : ℕ) (state : S) (left : List Symbol) → run rules 0 at [] state left ≡ Ok (state, at)
run_ends rules at state [] = refl
run_ends rules at state (symbol ∷ left) = refl

abbrev pub head_of : List FlowSort → Option FlowSort
head_of [] = None
head_of (s ∷ sorts) = Some s

pub next_after : (done rest : List FlowSort) → slice_get (done ++ rest) (length done) ≡ head_of rest
next_after [] [] = refl
next_after [] (s ∷ rest) = refl
next_after (s ∷ done) rest = next_after done rest

-- the sorts of what is still to come
pub record Wants {D : Type 0} (sorts : List FlowSort) (flows : List (AbsFlow D)) (rest : List FlowSort) : Type 0 where
  pub front : List FlowSort
  pub are : sorts ≡ front ++ rest
  pub counted : length flows ≡ length front

pub next_is : {D : Type 0} (sorts : List FlowSort) (flows : List (AbsFlow D)) (rest : List FlowSort) → Wants sorts flows rest → slice_get sorts (length flows) ≡ head_of rest
next_is sorts flows rest w = ap (λ ss. slice_get ss (length flows)) w.are ∙ ap (slice_get (w.front ++ rest)) w.counted ∙ next_after w.front rest

pub wants_more : {D : Type 0} (sorts : List FlowSort) (flows : List (AbsFlow D)) (s : FlowSort) (rest : List FlowSort) (x : AbsFlow D) → Wants sorts flows (s ∷ rest) →
    Wants sorts (flows ++ x ∷ []) rest
wants_more sorts flows s rest x w = record {
  front = w.front ++ s ∷ [];
  are = w.are ∙ sym (append_assoc w.front (s ∷ []) rest);
  counted = omega (arith, w.counted, length-append flows (x ∷ []), length-append w.front (s ∷ []));
}

-- no name stands twice in a value
abbrev pub IsOnce : {D : Type 0} → WrittenFlow D → Type 0
IsOnce value = IsDistinct bytes_eq (names_listed value)

-- what callers are told of what was read
abbrev pub told : {D : Type 0} → Domain D → ℕ → Answer D → Result (ReadTuple D × ℕ) (TableError × ℕ)
told d at r = r >>= λ read. whole d (length read.0.names) at read.0.flows >>= λ tuple. Ok (record { tuple = tuple; names = read.0.names }, read.1)

abbrev pub read_to : {D : Type 0} → List (AbsFlow D) → List (List ℕ) → ℕ → Result (ReadTuple D × ℕ) (TableError × ℕ)
read_to tuple names end = Ok (record { tuple = tuple; names = names }, end)

pub told_is : {D : Type 0} (d : Domain D) (at : ℕ) (last : Reading D) (end : ℕ) (read : ReadTuple D) → list_any (flow_is_empty d) last.flows ≡ false →
    map (padded_flow d (length last.names)) last.flows ≡ read.tuple →
    told d at (Ok (last, end)) ≡ read_to read.tuple last.names end
told_is d at last end read full same =
    ap (λ c. cond c (Err (error.Empty, at)) (Ok (map (padded_flow d (length last.names)) last.flows)) >>= λ tuple. read_to tuple last.names end) full ∙ ap (λ tuple. read_to tuple last.names end) same

-- Empty flows.

pub padding_is_empty : {D : Type 0} (d : Domain D) (names : ℕ) (x : AbsFlow D) → flow_is_empty d (padded_flow d names x) ≡ flow_is_empty d x
padding_is_empty d names (flow.Int a) = refl
padding_is_empty d names (flow.Bool a) = refl
padding_is_empty d names (flow.Val a) = refl
padding_is_empty d names (flow.Store store.Empty) = refl
padding_is_empty d names (flow.Store (store.Cells cells)) = refl

pub paddings_are_empty : {D : Type 0} (d : Domain D) (names : ℕ) (xs : List (AbsFlow D)) → list_any (flow_is_empty d) (map (padded_flow d names) xs) ≡ list_any (flow_is_empty d) xs
paddings_are_empty d names [] = refl
paddings_are_empty d names (x ∷ xs) =
    ap (λ b. b || list_any (flow_is_empty d) (map (padded_flow d names) xs)) (padding_is_empty d names x) ∙ ap (λ b. flow_is_empty d x || b) (paddings_are_empty d names xs)

is_off : (b : Bool) → not b ≡ true → b ≡ false
is_off true h = absurd (cc)
is_off false h = refl

full_so : {D : Type 0} (d : Domain D) (x : AbsFlow D) → flow_is_proper d x ≡ true → flow_is_empty d x ≡ false
full_so d (flow.Int a) h = is_off (d.is_empty a) h
full_so d (flow.Bool a) h = is_off (bool_is_empty a) h
full_so d (flow.Val a) h = is_off (val_is_empty d a) h
full_so d (flow.Store store.Empty) h = absurd (cc h)
full_so d (flow.Store (store.Cells cells)) h = refl

-- no part of a tuple is empty, so none of its flows is
pub none_empty : {D : Type 0} (d : Domain D) (xs : List (AbsFlow D)) → is_proper d xs ≡ true → list_any (flow_is_empty d) xs ≡ false
none_empty d [] h = refl
none_empty d (x ∷ xs) h =
    let p = and_parts (flow_is_proper d x) (is_proper d xs) h in
    ap (λ b. b || list_any (flow_is_empty d) xs) (full_so d x p.0) ∙ none_empty d xs p.1

none_of : {A : Type 0} (p : A → Bool) (xs : List A) → list_any p xs ≡ false → list_all (λ x. not (p x)) xs ≡ true
none_of p [] h = refl
none_of p (x ∷ xs) h = by (p x) h (none_of p xs) where
  by : (b : Bool) → b || list_any p xs ≡ false → (list_any p xs ≡ false → list_all (λ x. not (p x)) xs ≡ true) → not b && list_all (λ x. not (p x)) xs ≡ true
  by true k later = absurd (cc)
  by false k later = later k

store_proper : {D : Type 0} (d : Domain D) (cells : List (AbsCell D)) → flow_is_empty d (flow.Store (store_of d cells)) ≡ false → flow_is_proper d (flow.Store (store_of d cells)) ≡ true
store_proper d cells h = by (list_any (cell_is_empty d) cells) refl h where
  by : (b : Bool) → list_any (cell_is_empty d) cells ≡ b → flow_is_empty d (flow.Store (cond b store.Empty (store.Cells cells))) ≡ false →
      flow_is_proper d (flow.Store (cond b store.Empty (store.Cells cells))) ≡ true
  by true e k = absurd (cc)
  by false e k = none_of (cell_is_empty d) cells e

proper_so : {D : Type 0} (d : Domain D) (names : List (List ℕ)) (value : WrittenFlow D) → flow_is_empty d (flow_of d names value) ≡ false → flow_is_proper d (flow_of d names value) ≡ true
proper_so d names (Number a) h = ap not h
proper_so d names (Truths a) h = ap not h
proper_so d names (Parts a) h = ap not h
proper_so d names (Cells entries) h = store_proper d (map (cell_of d entries) names) h
proper_so d names NoStore h = absurd (cc h)

or_parts : (a b : Bool) → a || b ≡ false → (a ≡ false) × (b ≡ false)
or_parts true b h = absurd (cc)
or_parts false b h = (refl, h)

both : (a b : Bool) → a ≡ true → b ≡ true → a && b ≡ true
both true b e h = h
both false b e h = absurd (cc)

-- no written value is empty, so no part of the tuple is
pub all_proper : {D : Type 0} (d : Domain D) (names : List (List ℕ)) (values : List (WrittenFlow D)) → list_any (flow_is_empty d) (map (flow_of d names) values) ≡ false →
    is_proper d (map (flow_of d names) values) ≡ true
all_proper d names [] h = refl
all_proper d names (value ∷ values) h =
    let p = or_parts (flow_is_empty d (flow_of d names value)) (list_any (flow_is_empty d) (map (flow_of d names) values)) h in
    both (flow_is_proper d (flow_of d names value)) (is_proper d (map (flow_of d names) values)) (proper_so d names value p.0) (all_proper d names values p.1)
