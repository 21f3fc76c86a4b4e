-- The code's ends are those of the definition.
use Rattle.std.proofs.Common.{rules, ◌∙◌}
use mir.Syntax.{w128}
use mir.Val.{SFits}
use Rattle.std.specs.Prelude.{int_div}
use Rattle.std.proofs.lemmas.Int.{to_z-of_z}
use Rattle.sk_interval.specs.Laws.Sets.{corners_are}
use Rattle.sk_interval.proofs.span.quotients.Goals as goal

pub returns : goal.returns
returns c =
    let a_low = c.args.a.low_fits in
    let a_high = c.args.a.high_fits in
    let low = c.ranges.low in
    let high = c.ranges.high in
    let p : SFits w128 c.quotient.result = search rules in
    let q : SFits w128 c.quotient-2.result = search rules in
    let r : SFits w128 c.quotient-3.result = search rules in
    let s : SFits w128 c.quotient-4.result = search rules in
    let e = simp to_z-of_z at c.quotient.ensures in
    let g = simp to_z-of_z at c.quotient-2.ensures in
    let h = simp to_z-of_z at c.quotient-3.ensures in
    let i = simp to_z-of_z at c.quotient-4.ensures in
    rw (c.hull.ensures, c.between-least.ensures, c.between-greatest.ensures)
    (corners_are int_div c.args.a.low c.args.a.high c.args.low c.args.high _ _ _ _
    (to_z-of_z w128 c.quotient.result p ∙ e) (to_z-of_z w128 c.quotient-2.result q ∙ g) (to_z-of_z w128 c.quotient-3.result r ∙ h) (to_z-of_z w128 c.quotient-4.result s ∙ i))
