-- The order of calls, answers and walks, and the laws of walks.
use Rattle.std.specs.Prelude.{◌≡◌, ◌⊎◌, true, List, [], ◌∷◌, Option, Some, None, ℕ, ◌≤◌, length}
use Rattle.std.specs.List.{AllByRecursion}
use Rattle.sk_def.specs.declared.bone.Bone.{Bone}
use Rattle.sk_deriv.specs.Moves.{Setting}
use Rattle.sk_lattice.specs.Domain.{Domain}
use Rattle.sk_lattice.specs.Empty.{is_proper}
use Rattle.sk_lattice.specs.Order.{tuple_leq}
use Rattle.sk_absfilter.specs.Abstract.{Outcome}
use Rattle.sk_absfilter.specs.Laws.{outcome_leq}
use Rattle.sk_table.specs.declared.triple.Cover.{Cover}
use Rattle.sk_abswalk.specs.Walk.{AbsEnv, Flows, abstract_world, Ends, uncovered, ill, with, Walk, Answers, abstract_walk}

-- a call lies below another one of its hook and point
pub record CallLeq {D : Type 0} (d : Domain D) (c greater : Cover D) : Type 0 where
  pub same_hook : c.hook ≡ greater.hook
  pub same_point : c.point ≡ greater.point
  pub ins_leq : tuple_leq d c.ins greater.ins ≡ true

-- the call lies below one of the list
abbrev pub IsBelowOne : {D : Type 0} → Domain D → List (Cover D) → Cover D → Type 0
IsBelowOne d [] c = ⊥
IsBelowOne d (greater ∷ calls) c = CallLeq d c greater ⊎ IsBelowOne d calls c

-- an answer that lies below an outcome
pub record AnswerBelow {D : Type 0} (d : Domain D) (answers : Answers D) (c : Cover D) (greater : Outcome D) : Type 0 where
  pub outs : Outcome D
  pub is : answers c ≡ Some outs
  pub leq : outcome_leq d outs greater ≡ true

-- lesser calls have lesser answers, where the greater call is covered
abbrev pub AnswersLeq : {D : Type 0} → Domain D → Answers D → Answers D → Type 0
AnswersLeq {D} d answers greater = (c e : Cover D) → CallLeq d c e → (o : Outcome D) → greater e ≡ Some o → AnswerBelow d answers c o

-- a walk got to an end
abbrev pub GotThere : {D X : Type 0} → Ends D X → Type 0
GotThere (uncovered c) = ⊥
GotThere ill = ⊥
GotThere (with o) = Unit {0}

-- where the greater walk gets to an end, so does the lesser one, and the relation holds of the ends
abbrev pub EndsLeq : {D X : Type 0} → (Option X → Option X → Type 0) → Ends D X → Ends D X → Type 0
EndsLeq P e (uncovered c) = Unit {0}
EndsLeq P e ill = Unit {0}
EndsLeq P (uncovered c) (with o) = ⊥
EndsLeq P ill (with o) = ⊥
EndsLeq P (with l) (with o) = P l o

-- the same, and then each call of the lesser walk lies below one of the greater's
pub record WalkLeq {D X : Type 0} (d : Domain D) (P : Option X → Option X → Type 0) (w greater : Walk D X) : Type 0 where
  pub ends : EndsLeq P w.ends greater.ends
  pub calls : GotThere greater.ends → AllByRecursion (IsBelowOne d greater.asked) w.asked

-- the law of monotone walks: a lesser call with lesser answers leads to a lesser outcome, by lesser calls
abbrev pub WalksAreMonotone : {D : Type 0} → Domain D → Type 0
WalksAreMonotone {D} d =
    (s : Setting) (answers greater : Answers D) → AnswersLeq d answers greater → (c e : Cover D) → CallLeq d c e →
    WalkLeq d (λ l o. outcome_leq d l o ≡ true) (abstract_walk d answers s c) (abstract_walk d greater s e)

-- the law of agreement: answers that agree on the calls that a walk asks give the same walk
abbrev pub WalksAgree : {D : Type 0} → Domain D → Type 0
WalksAgree {D} d =
    (s : Setting) (answers other : Answers D) (c : Cover D) →
    AllByRecursion (λ e. other e ≡ answers e) (abstract_walk d answers s c).asked → abstract_walk d other s c ≡ abstract_walk d answers s c

-- the law of bounds: a bound of as many as there are bones, or more, gives one walk
abbrev pub BoundsDoNotMatter : {D : Type 0} → Domain D → Type 0
BoundsDoNotMatter {D} d =
    (answers : Answers D) (names point bound : ℕ) (bones : List Bone) (env : AbsEnv D) →
    length bones ≤ bound → abstract_world d answers names point bound bones env ≡ abstract_world d answers names point (length bones) bones env

-- whether no part of an outcome is empty
abbrev pub IsProperOutcome : {D : Type 0} → Domain D → Outcome D → Type 0
IsProperOutcome d None = Unit {0}
IsProperOutcome d (Some a) = is_proper d a ≡ true

-- where it ends, with a proper outcome, and all calls asked have proper inputs
pub record IsProperWalk {D : Type 0} (d : Domain D) (w : Walk D (Flows D)) : Type 0 where
  pub ends : (o : Outcome D) → w.ends ≡ with o → IsProperOutcome d o
  pub calls : AllByRecursion (λ c. is_proper d c.ins ≡ true) w.asked

-- the law of proper walks: from proper inputs, with proper answers to proper calls
abbrev pub WalksAreProper : {D : Type 0} → Domain D → Type 0
WalksAreProper {D} d =
    (s : Setting) (answers : Answers D) → ((c : Cover D) → is_proper d c.ins ≡ true → (o : Outcome D) → answers c ≡ Some o → IsProperOutcome d o) →
    (c : Cover D) → is_proper d c.ins ≡ true → IsProperWalk d (abstract_walk d answers s c)
