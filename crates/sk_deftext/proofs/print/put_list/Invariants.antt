use Rattle.std.proofs.Common.{◌≡◌, ◌++◌, drop}
use Rattle.std.specs.Prelude.{flat_map, codes}
use Rattle.sk_deftext.proofs.print.put_list.Given as goal

abbrev pub invariant-loop-entry : goal.invariant-loop-entry
invariant-loop-entry g l =
    l.out.items ++ flat_map (λ y. codes ", " ++ g.E.Entry.word l.names y) (drop l.entry-index l.others) ≡ l.initial.out.items ++ flat_map (λ y. codes ", " ++ g.E.Entry.word l.names y) l.others
