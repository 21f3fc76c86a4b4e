-- Triples and cover lines that fit a definition, a program and a number of names.
use Rattle.std.specs.Prelude.{◌≡◌, ℕ, true, Some, IfSome, slice_get}
use Rattle.sk_def.specs.declared.def.Def.{Def}
use Rattle.sk_def.specs.declared.def.Hook.{Hook}
use Rattle.sk_lattice.specs.Shapes.{has_sorts}
use Rattle.sk_term.specs.Program.{Program}
use Rattle.sk_table.specs.Tables.{has_sort_at}
use Rattle.sk_table.specs.declared.triple.Cover.{Cover}
use Rattle.sk_table.specs.declared.triple.Triple.{Triple}

-- the hook is declared, the point has its sort, and the inputs and outputs have its sorts
pub record TripleFits {D : Type 0} (def : Def) (program : Program) (names : ℕ) (triple : Triple D) : Type 0 where
  pub hook : Hook
  pub hook_is : slice_get def.hooks triple.hook.0 ≡ Some hook
  pub point_fits : has_sort_at program hook.sort triple.point ≡ true
  pub ins_fit : has_sorts names hook.inputs triple.ins ≡ true
  pub outs_fit : IfSome triple.outs (λ outs. has_sorts names hook.outputs outs ≡ true)

-- the same of a cover line
pub record CoverFits {D : Type 0} (def : Def) (program : Program) (names : ℕ) (cover : Cover D) : Type 0 where
  pub hook : Hook
  pub hook_is : slice_get def.hooks cover.hook.0 ≡ Some hook
  pub point_fits : has_sort_at program hook.sort cover.point ≡ true
  pub ins_fit : has_sorts names hook.inputs cover.ins ≡ true
