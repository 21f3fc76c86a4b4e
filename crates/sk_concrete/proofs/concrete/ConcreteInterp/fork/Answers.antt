use Rattle.std.proofs.Common.{◌∙◌, ap, ap₂, List}
use Rattle.sk_def.specs.Sorts.{Sorts}
use Rattle.sk_concrete.specs.declared.world.World.{World}
use Rattle.sk_concrete.specs.Worlds.{forked}
use Rattle.sk_concrete.specs.Fitting.{worlds_fit}
use Rattle.sk_concrete.proofs.WorldsFit.{forked_fit}
use Rattle.sk_concrete.proofs.concrete.ConcreteInterp.fork.Goals as goal

pub invariant_of-result : goal.invariant_of-result
invariant_of-result c = record {
  fit = ap₂ (λ (g : Sorts). λ (ws : List World). worlds_fit g ws) (c.in_ok-sorts.ensures ∙ c.as_slice-2.ensures)
      (c.in_ok-list.ensures ∙ ap (forked c.in-Ok.branch 0) c.as_slice.ensures)
      ∙ forked_fit c.in-Ok.branch 0 c.args.world.now.sorts c.args.world.now.list c.args.world.now.fit;
}
