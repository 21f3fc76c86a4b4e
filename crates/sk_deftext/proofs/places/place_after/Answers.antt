use Rattle.std.proofs.Common.{◌+◌, ◌-◌, ap, ◌∙◌}
use Rattle.sk_deftext.proofs.Columns.{place_on, both_parts}
use Rattle.sk_deftext.proofs.places.place_after.Goals as goal

pub returns : goal.returns
returns c =
    ap (λ n. record { line = c.args.cursor.place.line + (c.place_of-end.result.line - 1); column = n }) c.column_after.ensures
    ∙ place_on c.args.text.now c.args.cursor.at c.args.to c.args.cursor.place c.place_of-end.result c.requires.order c.requires.within c.requires.stands.place_is
    (both_parts _ _ c.place_of-end.ensures.line c.place_of-end.ensures.column)
