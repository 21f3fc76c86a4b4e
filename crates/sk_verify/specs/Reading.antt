-- Tables that were read, and what walks ask of tables.
use Rattle.std.specs.Prelude.{List, All}
use Rattle.sk_def.specs.declared.def.Def.{Def}
use Rattle.sk_term.specs.Program.{Program, IsProgramOf}
use Rattle.sk_deriv.specs.Moves.{setting_of}
use Rattle.sk_table.specs.declared.triple.Triple.{Triple}
use Rattle.sk_table.specs.Fits.{TripleFits}
use Rattle.sk_abswalk.specs.Fits.{TableFits}

-- the law of reading: triples that fit a program, its definition and its names make a table that fits walks
abbrev pub ReadTablesFit : Type 0 → Type 0
ReadTablesFit D =
    (def : Def) (program : Program) (table : List (Triple D)) → IsProgramOf def program → All (TripleFits def program program.names) table →
    TableFits (setting_of def program) table
