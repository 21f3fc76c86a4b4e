use Rattle.std.proofs.Common.{◌∙◌, ap, sym, map, List, Option, Some}
use Rattle.std.proofs.lemmas.Simd.{map-map}
use Rattle.sk_def.specs.declared.sorts.VarSort.{VarSort}
use Rattle.sk_def.specs.declared.sorts.VarSort.TheVariants.{Flow}
use Rattle.sk_def.specs.Sorts.{define}
use Rattle.sk_sort.proofs.defines.define_results.Goals as goal

pub returns : goal.returns
returns c =
    let e = ap (λ (ss : List VarSort). map Some ss) c.results.ensures.sorts in
    let f = sym (map-map Some Flow c.results.result.now) ∙ e in
    c.define_flows.ensures ∙ ap (λ (ss : List (Option VarSort)). define c.args.world.now c.args.outs.now ss) f
