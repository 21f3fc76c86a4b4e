use Rattle.std.proofs.Common.{◌≡◌, ◌∙◌, ap, length, map, Some}
use Rattle.sk_def.specs.declared.sorts.ArgSort.{ArgSort}
use Rattle.sk_def.specs.Sorts.{Sorts}
use Rattle.sk_sort.specs.Rules.{arg_sort}
use Rattle.sk_sort.proofs.RuleParts.{arguments_long}
use Rattle.sk_sort.proofs.header.define_header.Goals as goal

pub define_flows-requires-clause-below : goal.define_flows-requires-clause-below
define_flows-requires-clause-below c =
    let e : length c.define_arguments.new.world ≡ length c.args.rule.now.vars =
    ap (λ (g : Sorts). length g) c.define_arguments.ensures
    ∙ arguments_long c.args.rule.now c.args.world.now c.as_slice.result.now (map (λ (a : ArgSort). Some (arg_sort a)) c.as_slice-2.result.now) c.requires.undefined in
    rw (e, c.as_slice-3.ensures) c.requires.inputs_below
