-- What the two sides of all keys say as a table of the rounds.
use Rattle.std.specs.Prelude.{◌≡◌, ◌*◌, length}
use Rattle.sk_deriv.specs.Moves.{Setting}
use Rattle.sk_rounds.specs.Walks.{Inputs, Outputs, Table}
use Rattle.sk_abswalk.specs.Walk.{Flows}
use Rattle.sk_abswalk.specs.Reading.{Key}
use Rattle.sk_analyse.specs.declared.sides.Sides.{Sides}
use Rattle.sk_analyse.specs.Sides.{side_of}

abbrev pub tabled : {D : Type 0} → Sides D → Table Key (Flows D)
tabled sides k Inputs = side_of sides.ins.hooks sides.ins.slots k
tabled sides k Outputs = side_of sides.outs.hooks sides.outs.slots k

-- both sides have a slot for each pair of a hook and a point
pub record HasAllSlots {D : Type 0} (s : Setting) (sides : Sides D) : Type 0 where
  pub ins_hooks : sides.ins.hooks ≡ length s.def.hooks
  pub outs_hooks : sides.outs.hooks ≡ length s.def.hooks
  pub ins_size : length sides.ins.slots ≡ length s.def.hooks * length s.nodes
  pub outs_size : length sides.outs.slots ≡ length s.def.hooks * length s.nodes
