-- Which tables a text can say.
use Rattle.std.specs.Prelude.{◌≡◌, ℕ, ◌≤◌, true, List, length, map, All, IfSome}
use Rattle.std.specs.List.{IsDistinct}
use Rattle.std.specs.Str.{bytes_eq}
use Rattle.sk_def.specs.declared.def.Def.{Def}
use Rattle.sk_def.specs.declared.def.Hook.{Hook}
use Rattle.sk_deftext.specs.Written.{IsWord, AreNames}
use Rattle.sk_term.specs.Program.{Program}
use Rattle.sk_lattice.specs.Domain.{Domain}
use Rattle.sk_lattice.specs.Empty.{is_proper}
use Rattle.sk_table.specs.Fits.{TripleFits}
use Rattle.sk_table.specs.declared.triple.Triple.{Triple}

-- no part of a triple's inputs or outputs is empty
pub record IsProper {D : Type 0} (d : Domain D) (triple : Triple D) : Type 0 where
  pub ins : is_proper d triple.ins ≡ true
  pub outs : IfSome triple.outs (λ outs. is_proper d outs ≡ true)

-- at most 32,768 triples that fit, no part of which is empty
pub record IsTable {D : Type 0} (d : Domain D) (def : Def) (program : Program) (names : ℕ) (table : List (Triple D)) : Type 0 where
  pub few : length table ≤ 32768
  pub fit : All (TripleFits def program names) table
  pub proper : All (IsProper d) table

-- different words
pub record AreWords (names : List (List ℕ)) : Type 0 where
  pub each : All IsWord names
  pub different : IsDistinct bytes_eq names

-- A table that a text can say: its hooks have the names of a definition that was read, its program is within the
-- limit, and its names are different words.
pub record HasText {D : Type 0} (d : Domain D) (def : Def) (program : Program) (names : List (List ℕ)) (triples : List (Triple D)) : Type 0 where
  pub hooks : AreNames (map (λ (hook : Hook). hook.name) def.hooks)
  pub few_points : length program.nodes ≤ 4096
  pub words : AreWords names
  pub table : IsTable d def program (length names) triples
