-- The code's ends are those of the definition.
use Rattle.std.proofs.Common.{rules, ◌∙◌, ◌*ℤ◌}
use mir.Syntax.{w128}
use mir.Val.{SFits}
use Rattle.std.proofs.lemmas.Int.{to_z-of_z}
use Rattle.sk_interval.specs.Laws.Sets.{corners_are}
use Rattle.sk_interval.proofs.span.products.Goals as goal

pub returns : goal.returns
returns c =
    let a_low = c.args.a.low_fits in
    let a_high = c.args.a.high_fits in
    let b_low = c.args.b.low_fits in
    let b_high = c.args.b.high_fits in
    let p : SFits w128 c.product.result = search rules in
    let q : SFits w128 c.product-2.result = search rules in
    let r : SFits w128 c.product-3.result = search rules in
    let s : SFits w128 c.product-4.result = search rules in
    let e = simp to_z-of_z at c.product.ensures in
    let g = simp to_z-of_z at c.product-2.ensures in
    let h = simp to_z-of_z at c.product-3.ensures in
    let i = simp to_z-of_z at c.product-4.ensures in
    rw (c.hull.ensures, c.between-low.ensures, c.between-high.ensures)
    (corners_are (λ m n. m *ℤ n) c.args.a.low c.args.a.high c.args.b.low c.args.b.high _ _ _ _
    (to_z-of_z w128 c.product.result p ∙ e) (to_z-of_z w128 c.product-2.result q ∙ g) (to_z-of_z w128 c.product-3.result r ∙ h) (to_z-of_z w128 c.product-4.result s ∙ i))
