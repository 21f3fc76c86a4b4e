use Rattle.std.proofs.Common.{◌∙◌, ap, ap₂, refl, List}
use Rattle.sk_def.specs.Sorts.{Sorts, after_filter}
use Rattle.sk_concrete.specs.declared.world.World.{World}
use Rattle.sk_concrete.specs.Fitting.{worlds_fit}
use Rattle.sk_concrete.proofs.WorldsFit.{args_taken, filtered_fit}
use Rattle.sk_concrete.proofs.concrete.ConcreteInterp.filter.Goals as goal

pub filtered-requires : goal.filtered-requires
filtered-requires c =
    rw (c.as_slice.ensures, c.as_slice-3.ensures)
    (args_taken c.args.filter c.args.args.now c.args.outs.now c.args.world.sorts c.args.world.list (c.requires.passes refl) c.args.world.fit)

pub invariant_of-result : goal.invariant_of-result
invariant_of-result c = record {
  fit = ap₂ (λ (g : Sorts). λ (ws : List World). worlds_fit g ws) (c.define_results.ensures ∙ ap (after_filter c.args.world.sorts c.args.filter) c.as_slice-4.ensures)
      (rw (c.as_slice.ensures, c.as_slice-2.ensures, c.as_slice-3.ensures) at c.in_ok-list.ensures)
      ∙ filtered_fit c.args.self.now.names c.args.filter c.args.args.now c.args.outs.now c.args.world.sorts c.args.world.list c.args.world.fit;
}
