use Rattle.std.proofs.Common.{◌≡◌, ◌++◌, drop}
use Rattle.std.specs.List.{flat_map}
use Rattle.sk_constr.specs.Texts.{cover_text}
use Rattle.sk_constr.proofs.print.put_covers.Given as goal

abbrev pub invariant-loop-cover : goal.invariant-loop-cover
invariant-loop-cover g l =
    let text = cover_text g.D.NumDom.domain g.D.NumDom.texts l.def l.names in
    l.out.items ++ flat_map text (drop l.cover-index l.covers) ≡ l.fn.out.items ++ flat_map text l.covers
