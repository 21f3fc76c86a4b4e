-- What a table answers, said of its triples above the call.
use Rattle.std.specs.Prelude.{◌≡◌, ◌↔◌, true, false, List, Some, None, All}
use Rattle.std.specs.List.{Contains}
use Rattle.sk_lattice.specs.Domain.{Domain}
use Rattle.sk_absfilter.specs.Abstract.{Outcome}
use Rattle.sk_absfilter.specs.Laws.{outcome_leq}
use Rattle.sk_table.specs.declared.triple.Triple.{Triple}
use Rattle.sk_table.specs.declared.triple.Cover.{Cover}
use Rattle.sk_abswalk.specs.Tables.{is_above, table_answer}
use Rattle.sk_abswalk.specs.Order.{IsProperOutcome, AnswersLeq}

-- the outcome lies below the outputs of each triple of the table that is above the call
abbrev pub IsLowerBound : {D : Type 0} → Domain D → List (Triple D) → Cover D → Outcome D → Type 0
IsLowerBound d table c o = All (λ triple. is_above d c triple ≡ true → outcome_leq d o triple.outs ≡ true) table

-- so do these outputs, and each outcome with no empty part that does so lies below them
pub record IsGreatestBound {D : Type 0} (d : Domain D) (table : List (Triple D)) (c : Cover D) (outs : Outcome D) : Type 0 where
  pub below : IsLowerBound d table c outs
  pub greatest : (o : Outcome D) → IsProperOutcome d o → IsLowerBound d table c o → outcome_leq d o outs ≡ true

-- no triple has outputs with an empty part
abbrev pub IsProperTable : {D : Type 0} → Domain D → List (Triple D) → Type 0
IsProperTable d table = All (λ triple. IsProperOutcome d triple.outs) table

-- each triple of the table that is above the call stands in the other one too
abbrev pub StandIn : {D : Type 0} → Domain D → Cover D → List (Triple D) → List (Triple D) → Type 0
StandIn d c other table = All (λ triple. is_above d c triple ≡ true → Contains other triple) table

-- The law of answers, of all tables and calls: there is none exactly where no triple is above the call. Else it is the
-- greatest of what lies below the outputs of all triples above the call, and has no empty part where they have none. So
-- it doesn't matter in what order the triples stand, nor how often.
pub record AnswersAreMeets {D : Type 0} (d : Domain D) : Type 0 where
  pub none : (table : List (Triple D)) (c : Cover D) → (table_answer d table c ≡ None) ↔ All (λ triple. is_above d c triple ≡ false) table
  pub greatest : (table : List (Triple D)) (c : Cover D) (outs : Outcome D) → table_answer d table c ≡ Some outs → IsGreatestBound d table c outs
  pub proper : (table : List (Triple D)) → IsProperTable d table → (c : Cover D) (outs : Outcome D) → table_answer d table c ≡ Some outs → IsProperOutcome d outs
  pub same : (table other : List (Triple D)) → IsProperTable d table → (c : Cover D) → StandIn d c other table → StandIn d c table other → table_answer d table c ≡ table_answer d other c

-- The law of lesser calls: a table answers them with lesser outputs.
abbrev pub AnswersAreMonotone : {D : Type 0} → Domain D → Type 0
AnswersAreMonotone {D} d = (table : List (Triple D)) → IsProperTable d table → AnswersLeq d (table_answer d table) (table_answer d table)
