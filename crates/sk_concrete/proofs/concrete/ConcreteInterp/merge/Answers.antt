use Rattle.std.proofs.Common.{◌≡◌, ◌∙◌, ap₂, refl, map, List}
use Rattle.sk_def.specs.Sorts.{Sorts, after_merge}
use Rattle.sk_concrete.specs.declared.world.World.{World}
use Rattle.sk_concrete.specs.declared.worlds.Worlds.{Worlds}
use Rattle.sk_concrete.specs.Fitting.{worlds_fit}
use Rattle.sk_concrete.proofs.WorldsFit.{merged_fit, sorts_of_first}
use Rattle.sk_concrete.proofs.concrete.ConcreteInterp.merge.Goals as goal

pub invariant_of-result : goal.invariant_of-result
invariant_of-result c =
    let sorts : c.define_exports.new.world ≡ after_merge c.args.before.sorts c.args.exports.now (map (λ (end : Worlds). end.sorts) c.args.ends.items) =
    (rw c.as_slice-4.ensures at c.define_exports.ensures)
    ∙ sorts_of_first c.args.before.sorts c.args.exports.now c.args.ends.items c.index.result.now c.as_slice-5.result.now c.requires.some_end c.index.ensures c.as_slice-5.ensures in
    record {
      fit = ap₂ (λ (g : Sorts). λ (ws : List World). worlds_fit g ws) sorts (rw (c.as_slice.ensures, c.as_slice-2.ensures.value, c.as_slice-3.ensures) at c.in_ok-list.ensures)
          ∙ merged_fit c.args.before.sorts c.args.exports.now c.args.before.list c.args.ends.items c.requires.some_end (c.requires.passes refl) c.args.before.fit;
    }
