-- What an analysis is of, its tables by the slots that hold them, and its answer.
use Rattle.std.specs.Prelude.{◌≡◌, ◌≤◌, ℕ, suc, Bool, ◌&&◌, length, map}
use Rattle.sk_term.specs.Program.{IsProgramOf}
use Rattle.sk_deriv.specs.Moves.{Setting, setting_of}
use Rattle.sk_lattice.specs.Domain.{Domain}
use Rattle.sk_absfilter.specs.Laws.{outcome_leq}
use Rattle.sk_rounds.specs.Walks.{Inputs, Outputs, Table, Walks, WalksLaws}
use Rattle.sk_rounds.specs.Rounds.{Told, table_after, IsAnalysed}
use Rattle.sk_abswalk.specs.Walk.{Flows}
use Rattle.sk_abswalk.specs.Reading.{Key, CoversFit, keyed, walks_of, triples_of}
use Rattle.sk_analyse.specs.declared.job.Job.{Job}
use Rattle.sk_analyse.specs.declared.sides.Sides.{Sides}
use Rattle.sk_analyse.specs.declared.rounds.Analysis.{Analysis}
use Rattle.sk_analyse.specs.declared.told.KeyTold.{KeyTold}
use Rattle.sk_analyse.specs.Tabled.{tabled, HasAllSlots}

abbrev pub setting_of_job : {D : Type 0} → Job D → Setting
setting_of_job job = setting_of job.checked.now job.arena.now

abbrev pub walks_of_job : {D : Type 0} → Domain D → Bool → Job D → Walks Key (Flows D)
walks_of_job d finite job = walks_of d finite job.marks.now (setting_of_job job) job.covers.now

-- the program is the definition's, and its walks are what the rounds ask for
pub record JobFits {D : Type 0} (d : Domain D) (finite : Bool) (job : Job D) : Type 0 where
  pub program : IsProgramOf job.checked.now job.arena.now
  pub few_hooks : length job.checked.now.hooks ≤ 8
  pub covers_fit : CoversFit d (setting_of_job job) job.covers.now
  pub laws : WalksLaws (walks_of_job d finite job)

-- the sides are the table after so many rounds
pub record AreAfter {D : Type 0} (d : Domain D) (finite : Bool) (job : Job D) (made : ℕ) (sides : Sides D) : Type 0 where
  pub slots : HasAllSlots (setting_of_job job) sides
  pub table : tabled sides ≡ table_after (walks_of_job d finite job) made

-- whether what is demanded of a key lies below what it has
abbrev pub still_at : {D : Type 0} → Domain D → Table Key (Flows D) → Table Key (Flows D) → Key → Bool
still_at d table demanded k = outcome_leq d (demanded k Inputs) (table k Inputs) && outcome_leq d (demanded k Outputs) (table k Outputs)

-- what the walk of a key tells, as the rounds see it
abbrev pub seen_told : {D : Type 0} → KeyTold D → Told Key (Flows D)
seen_told t = record { gives = t.gives; calls = map keyed t.calls }

-- the sides are the table before this round
pub record AreBefore {D : Type 0} (d : Domain D) (finite : Bool) (job : Job D) (round : ℕ) (sides : Sides D) : Type 0 where
  pub made : ℕ
  pub round_is : round ≡ suc made
  pub are : AreAfter d finite job made sides

-- the triples are those of the table at the first round that changes nothing, and the rounds are the number of that round
pub record IsAnalysis {D : Type 0} (w : Walks Key (Flows D)) (analysis : Analysis D) : Type 0 where
  pub table : Table Key (Flows D)
  pub triples_are : analysis.table ≡ triples_of w table
  pub analysed : IsAnalysed w table analysis.rounds
