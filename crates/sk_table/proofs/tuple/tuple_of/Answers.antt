use Rattle.std.proofs.Common.{◌≡◌, ◌∷◌, length, ap, sym, arith}
use Rattle.std.specs.Vec.Iter.{into_iter_items}
use Rattle.sk_lattice.specs.Empty.{flow_is_empty}
use Rattle.sk_table.specs.Meets.{is_clean}
use Rattle.sk_table.proofs.TupleParts.{rest_clean, none_more, moved}
use Rattle.sk_table.proofs.tuple.tuple_of.Goals as goal

pub loop-flow-preserved : goal.loop-flow-preserved
loop-flow-preserved g c =
    let at = c.loop-flow.invariant in
    let steps : into_iter_items c.loop-flow.flow-iterator ≡ c.in-Some.flow ∷ into_iter_items c.next.new.self = c.in-Some.ensures.steps.0 in
    let pushed = c.in_ok-push.ensures.ok in
    record {
      parts = moved _ _ _ _ _ _ at.parts steps pushed;
      left =
          let was = at.left in
          let gone = c.in-Some.ensures.steps.1 in
          let short = ap length steps in
          omega arith;
      clean = rest_clean (is_clean g.D.NumDom.domain) _ _ _ steps at.clean;
      none_empty = none_more (flow_is_empty g.D.NumDom.domain) _ _ _ at.none_empty (sym c.if-is_empty.ensures) pushed;
    }
