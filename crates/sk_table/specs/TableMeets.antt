-- What the code of a table's reader means.
use Rattle.std.specs.Prelude.{◌≡◌}
use Rattle.sk_def.specs.Fits.{DefinitionFits}
use Rattle.sk_table.specs.Tables.{TableReading}

-- the definition, the program and the names stay
pub record Stays {D : Type 0} (before now : TableReading D) : Type 0 where
  pub def : now.def ≡ before.def
  pub program : now.program ≡ before.program
  pub names : now.names ≡ before.names

-- the definition is within its limits
abbrev pub IsSound : {D : Type 0} → TableReading D → Type 0
IsSound state = DefinitionFits state.def
