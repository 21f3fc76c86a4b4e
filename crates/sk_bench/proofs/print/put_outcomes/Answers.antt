use Rattle.std.proofs.Common.{◌+◌, drop, ap, get_or, arith}
use Rattle.std.proofs.lemmas.List.{drop_all}
use Rattle.sk_value.proofs.Texts.{begun, further, finished}
use Rattle.sk_deriv.specs.Forest.{tree_at}
use Rattle.sk_deriv.specs.Tree.{outs_of}
use Rattle.sk_bench.specs.Outcomes.{outcome_lines}
use Rattle.sk_bench.proofs.Printed.{lines_at, lines_next}
use Rattle.sk_bench.proofs.print.put_outcomes.Goals as goal

pub loop-place-init : goal.loop-place-init
loop-place-init c = begun c.args.out.now.items (lines_at c.args.def.now c.args.names.now c.args.forest.now 1 c.args.roots.now)

pub loop-place-preserved : goal.loop-place-preserved
loop-place-preserved c =
    let nodes = c.args.forest.now in
    let at = c.loop-place.place in
    let root = get_or c.args.roots.now at 0 in
    further c.args.out.now.items c.loop-place.out.items c.put_outcome.new.out.items
    (lines_at c.args.def.now c.args.names.now nodes (at + 1) (drop at c.args.roots.now))
    (lines_at c.args.def.now c.args.names.now nodes 1 c.args.roots.now)
    (outcome_lines c.args.def.now c.args.names.now (at + 1) (outs_of (tree_at nodes root), tree_at nodes root))
    (lines_at c.args.def.now c.args.names.now nodes (at + 1 + 1) (drop (at + 1) c.args.roots.now))
    c.loop-place.invariant
    (lines_next c.args.def.now c.args.names.now nodes c.args.roots.now at 0 (omega arith))
    c.in_ok-put_outcome.ensures

pub returns : goal.returns
returns c =
    finished c.args.out.now.items c.loop-place.out.items (lines_at c.args.def.now c.args.names.now c.args.forest.now (c.loop-place.place + 1) (drop c.loop-place.place c.args.roots.now))
    (lines_at c.args.def.now c.args.names.now c.args.forest.now 1 c.args.roots.now) c.loop-place.invariant
    (ap (λ roots. lines_at c.args.def.now c.args.names.now c.args.forest.now (c.loop-place.place + 1) roots) (drop_all c.loop-place.place c.args.roots.now c.loop-place-test.false))
