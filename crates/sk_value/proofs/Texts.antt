-- Texts that are put piece by piece.
use Rattle.std.proofs.Common.{◌≡◌, ℕ, zero, suc, ◌≤◌, Bool, true, false, List, [], ◌∷◌, ◌++◌, length, drop, Option, None, Some, Result, Ok, Err, refl, sym, ap, ◌∙◌, arith, append_assoc, append-nil}
use Rattle.std.specs.Prelude.{codes, slice_get, min, OnErr}
use Rattle.std.specs.List.{flat_map, join_by, cons_option}
use Rattle.std.specs.Option.{option_map}
use Rattle.sk_base.specs.Sink.{AppendsPrefix}
use Rattle.sk_value.specs.declared.value.Value.{Value}
use Rattle.sk_value.specs.Texts.{between, settings}

-- what was put so far is the front of the whole text, and the rest is to come
pub record Underway (old now rest whole : List ℕ) : Type 0 where
  pub front : List ℕ
  pub put : now ≡ old ++ front
  pub parts : whole ≡ front ++ rest

pub begun : (old whole : List ℕ) → Underway old old whole whole
begun old whole = record { front = []; put = sym (append-nil old); parts = refl }

-- one more piece was put
pub further : (old now next rest whole piece others : List ℕ) → Underway old now rest whole → rest ≡ piece ++ others → next ≡ now ++ piece → Underway old next others whole
further old now next rest whole piece others so_far is put = record {
  front = so_far.front ++ piece;
  put = put ∙ ap (λ l. l ++ piece) so_far.put ∙ append_assoc old so_far.front piece;
  parts = so_far.parts ∙ ap (λ l. so_far.front ++ l) is ∙ sym (append_assoc so_far.front piece others);
}

-- all is put
pub finished : (old now rest whole : List ℕ) → Underway old now rest whole → rest ≡ [] → now ≡ old ++ whole
finished old now rest whole so_far is = so_far.put ∙ ap (λ l. old ++ l) (sym (so_far.parts ∙ ap (λ l. so_far.front ++ l) is ∙ append-nil so_far.front))

-- a piece was put in part
pub stopped : (old now next rest whole piece others : List ℕ) → Underway old now rest whole → rest ≡ piece ++ others → AppendsPrefix (Some now) (Some next) piece → AppendsPrefix (Some old) (Some next) whole
stopped old now next rest whole piece others so_far is last = record {
  kept = so_far.front ++ last.kept;
  rest = last.rest ++ others;
  parts = so_far.parts ∙ ap (λ l. so_far.front ++ l) (is ∙ ap (λ l. l ++ others) last.parts ∙ append_assoc last.kept last.rest others)
      ∙ sym (append_assoc so_far.front last.kept (last.rest ++ others));
  appended = last.appended ∙ ap (λ l. l ++ last.kept) so_far.put ∙ append_assoc old so_far.front last.kept;
}

-- a piece was refused
pub refused : (old now next rest whole : List ℕ) → Underway old now rest whole → next ≡ now → AppendsPrefix (Some old) (Some next) whole
refused old now next rest whole so_far same = record { kept = so_far.front; rest = rest; parts = so_far.parts; appended = same ∙ so_far.put }

pub on_err : {T E P : Type 0} (r : Result T E) → P → OnErr r P
on_err (Ok x) p = tt
on_err (Err e) p = p

module _ {X : Type 0} (text : X → List ℕ) where
  -- the texts of these entries, of which the first stands first in its list or not
  abbrev pub entries_text : Bool → List X → List ℕ
  entries_text true entries = join_by text (codes ", ") entries
  entries_text false entries = flat_map (λ entry. codes ", " ++ text entry) entries

  pub entries_step : (is_first : Bool) (entry : X) (entries : List X) → entries_text is_first (entry ∷ entries) ≡ between is_first ++ (text entry ++ entries_text false entries)
  entries_step true entry entries = refl
  entries_step false entry entries = refl

  pub entries_done : (is_first : Bool) → entries_text is_first [] ≡ []
  entries_done true = refl
  entries_done false = refl

pub settings_step : (names : List (List ℕ)) (store : List (Option Value)) (at : ℕ) (name : List ℕ) (place : Option Value) → slice_get names at ≡ Some name → slice_get store at ≡ Some place
    → settings (drop at names) (drop at store) ≡ cons_option (option_map (λ v. (name, v)) place) (settings (drop (suc at) names) (drop (suc at) store))
settings_step [] store at name place e f = absurd (cc)
settings_step (x ∷ names) [] at name place e f = absurd (cc)
settings_step (x ∷ names) (y ∷ store) zero name place e f = let p : x ≡ name = cc in let q : y ≡ place = cc in rw (p, q) refl
settings_step (x ∷ names) (y ∷ store) (suc at) name place e f = settings_step names store at name place e f

pub settings_skip : (names : List (List ℕ)) (store : List (Option Value)) (at : ℕ) → slice_get store at ≡ Some None → settings (drop at names) (drop at store) ≡ settings (drop (suc at) names) (drop (suc at) store)
settings_skip [] store zero e = refl
settings_skip [] store (suc at) e = refl
settings_skip (x ∷ names) [] at e = absurd (cc)
settings_skip (x ∷ names) (y ∷ store) zero e = let q : y ≡ None = cc in rw q refl
settings_skip (x ∷ names) (y ∷ store) (suc at) e = settings_skip names store at e

settings_none : (names : List (List ℕ)) → settings names [] ≡ []
settings_none [] = refl
settings_none (x ∷ names) = refl

pub settings_done : (names : List (List ℕ)) (store : List (Option Value)) (at : ℕ) → min (length store) (length names) ≤ at → settings (drop at names) (drop at store) ≡ []
settings_done [] store zero le = refl
settings_done [] store (suc at) le = refl
settings_done (x ∷ names) [] zero le = refl
settings_done (x ∷ names) [] (suc at) le = settings_none (drop at names)
settings_done (x ∷ names) (y ∷ store) zero le = absurd (omega arith)
settings_done (x ∷ names) (y ∷ store) (suc at) le = settings_done names store at (omega arith)

module _ {X : Type 0} (text : X → List ℕ) (old now mid next : List ℕ) (is_first : Bool) (entries : List X) (entry : X) (others : List X) (tail whole : List ℕ) where
  entry_first : entries ≡ entry ∷ others → entries_text text is_first entries ++ tail ≡ between is_first ++ (text entry ++ (entries_text text false others ++ tail))
  entry_first is =
      ap (λ es. entries_text text is_first es ++ tail) is ∙ ap (λ l. l ++ tail) (entries_step text is_first entry others)
      ∙ append_assoc (between is_first) (text entry ++ entries_text text false others) tail ∙ ap (λ l. between is_first ++ l) (append_assoc (text entry) (entries_text text false others) tail)

  -- an entry was put, after what stands before it
  pub entry_put : Underway old now (entries_text text is_first entries ++ tail) whole → entries ≡ entry ∷ others → mid ≡ now ++ between is_first → next ≡ mid ++ text entry
      → Underway old next (entries_text text false others ++ tail) whole
  entry_put so_far is before after = further old mid next _ whole (text entry) _ (further old now mid _ whole (between is_first) _ so_far (entry_first is) before) refl after

  -- an entry was put in part
  pub entry_stopped : Underway old now (entries_text text is_first entries ++ tail) whole → entries ≡ entry ∷ others → mid ≡ now ++ between is_first → AppendsPrefix (Some mid) (Some next) (text entry)
      → AppendsPrefix (Some old) (Some next) whole
  entry_stopped so_far is before after = stopped old mid next _ whole (text entry) _ (further old now mid _ whole (between is_first) _ so_far (entry_first is) before) refl after

-- the same with other names for what was put and for whether an entry is the first
pub renamed : {X : Type 0} (text : X → List ℕ) (old now next : List ℕ) (is_first was_first : Bool) (entries others : List X) (tail whole : List ℕ) → Underway old now (entries_text text was_first entries ++ tail) whole
    → next ≡ now → is_first ≡ was_first → others ≡ entries → Underway old next (entries_text text is_first others ++ tail) whole
renamed text old now next is_first was_first entries others tail whole so_far same first is = rw (same, first, is) so_far

-- no entry is left, and the end was put
pub entries_end : {X : Type 0} (text : X → List ℕ) (old now next : List ℕ) (is_first : Bool) (entries : List X) (tail whole : List ℕ) → Underway old now (entries_text text is_first entries ++ tail) whole
    → entries ≡ [] → next ≡ now ++ tail → next ≡ old ++ whole
entries_end text old now next is_first entries tail whole so_far is after =
    let rest : entries_text text is_first entries ++ tail ≡ tail ++ [] = ap (λ es. entries_text text is_first es ++ tail) is ∙ ap (λ l. l ++ tail) (entries_done text is_first) ∙ sym (append-nil tail) in
    finished old next [] whole (further old now next _ whole tail [] so_far rest after) refl
