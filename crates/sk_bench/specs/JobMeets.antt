-- What the reader of a job's lines keeps.
use Rattle.std.specs.Prelude.{◌≡◌, ◌≤◌, ℕ, All, IfSome, length}
use Rattle.sk_term.specs.Meets.{HasGrown}
use Rattle.sk_table.specs.declared.triple.Cover.{Cover}
use Rattle.sk_bench.specs.declared.job.Start.{Start}
use Rattle.sk_bench.specs.Jobs.{Lines, StartFits, CoverFits}

-- the definition and the program stay, and names were added
pub record Keeps (before now : Lines) : Type 0 where
  pub definition : now.def ≡ before.def
  pub program : now.nodes ≡ before.nodes
  pub names : HasGrown before.names now.names

-- the call fits over the names that stood when it was read
abbrev pub StartFitsOnce : Lines → Start → Type 0
StartFitsOnce state start = (names : ℕ) × (names ≤ length state.names) × StartFits state.def state.nodes names start

abbrev pub CoverFitsOnce : {D : Type 0} → Lines → Cover D → Type 0
CoverFitsOnce state cover = (names : ℕ) × (names ≤ length state.names) × CoverFits state.def state.nodes names cover

-- all calls that were read fit so
pub record LinesFit (state : Lines) : Type 0 where
  pub start : IfSome state.start (StartFitsOnce state)
  pub sign : All (CoverFitsOnce state) state.sign
  pub interval : All (CoverFitsOnce state) state.interval
