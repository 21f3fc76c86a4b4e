-- What a table answers, accepted tables, and what they say of derivations.
use Rattle.std.specs.Prelude.{◌≡◌, Bool, true, false, ◌==◌, ◌&&◌, if◌then◌else◌, List, [], ◌∷◌, map, filter, Option, Some, None, All}
use Rattle.std.specs.List.{list_any}
use Rattle.std.specs.Option.{option_map_or}
use Rattle.sk_deriv.specs.Tree.{Derivation, hook_of, point_of, ins_of, outs_of}
use Rattle.sk_deriv.specs.Moves.{Setting, IsValid}
use Rattle.sk_lattice.specs.Domain.{Domain}
use Rattle.sk_lattice.specs.Order.{tuple_leq, tuples_fit}
use Rattle.sk_lattice.specs.Covers.{tuple_covers}
use Rattle.sk_lattice.specs.Merge.{tuple_meet}
use Rattle.sk_absfilter.specs.Abstract.{Outcome}
use Rattle.sk_absfilter.specs.Laws.{outcome_covers, outcome_leq}
use Rattle.sk_table.specs.declared.triple.Triple.{Triple}
use Rattle.sk_table.specs.declared.triple.Cover.{Cover}
use Rattle.sk_abswalk.specs.Walk.{Flows, Ends, uncovered, ill, with, Answers, abstract_outputs}

-- whether the triple is of the call's hook and point, and its inputs lie above the call's
abbrev pub is_above : {D : Type 0} → Domain D → Cover D → Triple D → Bool
is_above d c triple = (triple.hook.0 == c.hook.0) && ((triple.point == c.point) && tuple_leq d c.ins triple.ins)

-- the meet of two outcomes; tuples of two sorts have nothing in common
abbrev pub outcome_meet : {D : Type 0} → Domain D → Outcome D → Outcome D → Outcome D
outcome_meet d (Some a) (Some b) = if tuples_fit a b then tuple_meet d a b else None
outcome_meet d _ _ = None

-- the meet of outcomes and of what was met before, if there is any of them
abbrev pub meet_from : {D : Type 0} → Domain D → Option (Outcome D) → List (Outcome D) → Option (Outcome D)
meet_from d met [] = met
meet_from d met (o ∷ os) = meet_from d (Some (option_map_or (λ m. outcome_meet d m o) met o)) os

-- a table's answer to a call: the meet of the outputs of all triples above it, and nothing where there is none
abbrev pub table_answer : {D : Type 0} → Domain D → List (Triple D) → Answers D
table_answer d table c = meet_from d None (map (λ triple. triple.outs) (filter (is_above d c) table))

-- the call of a triple's inputs
abbrev pub call_of : {D : Type 0} → Triple D → Cover D
call_of triple = record { hook = triple.hook; point = triple.point; ins = triple.ins }

-- whether a walk has an end, which lies below the outcome
abbrev pub lies_below : {D : Type 0} → Domain D → Ends D (Flows D) → Outcome D → Bool
lies_below d (uncovered c) outs = false
lies_below d ill outs = false
lies_below d (with o) outs = outcome_leq d o outs

-- whether the walk from a triple's inputs, answered from the table, ends below the triple's outputs
abbrev pub is_justified : {D : Type 0} → Domain D → Setting → List (Triple D) → Triple D → Bool
is_justified d s table triple = lies_below d (abstract_outputs d (table_answer d table) s (call_of triple)) triple.outs

-- whether a cover line lies below a triple of the table
abbrev pub is_covered : {D : Type 0} → Domain D → List (Triple D) → Cover D → Bool
is_covered d table line = list_any (is_above d line) table

-- all triples are justified, and all cover lines lie below some triple
pub record IsAccepted {D : Type 0} (d : Domain D) (s : Setting) (covers : List (Cover D)) (table : List (Triple D)) : Type 0 where
  pub justified : All (λ triple. is_justified d s table triple ≡ true) table
  pub covered : All (λ line. is_covered d table line ≡ true) covers

-- a valid derivation of the call's hook and point, of any height, from inputs that the call's inputs cover
pub record IsCovered {D : Type 0} (d : Domain D) (s : Setting) (c : Cover D) (t : Derivation) : Type 0 where
  pub valid : IsValid s t
  pub same_hook : hook_of t ≡ c.hook
  pub same_point : point_of t ≡ c.point
  pub from_covered : tuple_covers d c.ins (ins_of t) ≡ true

-- What these outputs say of a call: each derivation that it covers ends in outputs that they cover. Where they are none
-- there is no such derivation.
pub record Bounds {D : Type 0} (d : Domain D) (s : Setting) (c : Cover D) (outs : Outcome D) : Type 0 where
  pub covers : (t : Derivation) → IsCovered d s c t → outcome_covers d outs (outs_of t) ≡ true
  pub none : outs ≡ None → (t : Derivation) → ¬ IsCovered d s c t

-- the table answers the call, and what it answers is so
pub record IsBounded {D : Type 0} (d : Domain D) (s : Setting) (table : List (Triple D)) (c : Cover D) : Type 0 where
  pub outs : Outcome D
  pub is_answer : table_answer d table c ≡ Some outs
  pub bounds : Bounds d s c outs

-- the triple's outputs bound the call of its inputs
abbrev pub IsSound : {D : Type 0} → Domain D → Setting → Triple D → Type 0
IsSound d s triple = Bounds d s (call_of triple) triple.outs

-- The law of tables: all triples of an accepted table are sound, and all that it answers is so; and it answers each
-- cover line.
abbrev pub AcceptedAreSound : {D : Type 0} → Domain D → Type 0
AcceptedAreSound {D} d =
    (s : Setting) (covers : List (Cover D)) (table : List (Triple D)) → IsAccepted d s covers table →
    All (IsSound d s) table × All (IsBounded d s table) covers
