-- What the reading of rules is to the rounds.
use Rattle.std.specs.Prelude.{◌≡◌, ◌≤◌, ℕ, Bool, true, ℤ, List}
use Rattle.sk_def.specs.declared.def.Def.{Def}
use Rattle.sk_sort.specs.Definition.{IsWellSorted}
use Rattle.sk_term.specs.Program.{Program, IsProgramOf}
use Rattle.sk_deriv.specs.Moves.{setting_of}
use Rattle.sk_lattice.specs.Domain.{Domain}
use Rattle.sk_lattice.specs.Thresholds.{IsThresholds}
use Rattle.sk_table.specs.declared.triple.Cover.{Cover}
use Rattle.sk_rounds.specs.Walks.{WalksLaws}
use Rattle.sk_rounds.specs.Walks.{Table}
use Rattle.sk_rounds.specs.Rounds.{IsAnalysed, round_bound}
use Rattle.sk_rounds.specs.Accepted.{AskLaws}
use Rattle.sk_abswalk.specs.Walk.{Flows}
use Rattle.sk_abswalk.specs.Tables.{IsAccepted}
use Rattle.sk_abswalk.specs.Reading.{Key, CoversFit, walks_of, asks_of, triples_of}
use Rattle.sk_abswalk.specs.LeastTable.{IsLeastTable, HasOnePerKey, TriplesFit}

-- the law of readings: the walks of a well-sorted definition over a program are what the rounds ask for
abbrev pub ReadingsAreWalks : {D : Type 0} → Domain D → Bool → Type 0
ReadingsAreWalks {D} d finite =
    (def : Def) (program : Program) (covers : List (Cover D)) (marks : List ℤ) → IsWellSorted def → IsProgramOf def program → IsThresholds marks →
    CoversFit d (setting_of def program) covers → WalksLaws (walks_of d finite marks (setting_of def program) covers)

-- the law of answers: a walk under a table's answers is that under the answers of its keys
abbrev pub ReadingsAsk : {D : Type 0} → Domain D → Bool → Type 0
ReadingsAsk {D} d finite =
    (def : Def) (program : Program) (covers : List (Cover D)) (marks : List ℤ) → IsWellSorted def → IsProgramOf def program →
    AskLaws (walks_of d finite marks (setting_of def program) covers) (asks_of d (setting_of def program))

-- what the analyser's table is, as a list of triples
pub record AnalysedTables {D : Type 0} (d : Domain D) (finite : Bool) (def : Def) (program : Program) (covers : List (Cover D)) (marks : List ℤ) (table : Table Key (Flows D)) (rounds : ℕ) : Type 0 where
  pub in_time : rounds ≤ round_bound (walks_of d finite marks (setting_of def program) covers)
  pub fits : TriplesFit d (setting_of def program) (triples_of (walks_of d finite marks (setting_of def program) covers) table)
  pub one_per_key : HasOnePerKey (triples_of (walks_of d finite marks (setting_of def program) covers) table)
  pub accepted : IsAccepted d (setting_of def program) covers (triples_of (walks_of d finite marks (setting_of def program) covers) table)
  pub least : finite ≡ true → IsLeastTable d (setting_of def program) covers (triples_of (walks_of d finite marks (setting_of def program) covers) table)

-- The law of the analyser: the table at the first round that changes nothing comes within the bound, is accepted, and on
-- finite domains the least.
abbrev pub AnalysedTablesAreAccepted : {D : Type 0} → Domain D → Bool → Type 0
AnalysedTablesAreAccepted {D} d finite =
    (def : Def) (program : Program) (covers : List (Cover D)) (marks : List ℤ) → IsWellSorted def → IsProgramOf def program → IsThresholds marks →
    CoversFit d (setting_of def program) covers → (table : Table Key (Flows D)) (rounds : ℕ) →
    IsAnalysed (walks_of d finite marks (setting_of def program) covers) table rounds → AnalysedTables d finite def program covers marks table rounds
