use Rattle.std.proofs.Common.{ℕ, List, subst, sym}
use Rattle.std.specs.Io.KnownBytes.{Appends}
use Rattle.sk_base.proofs.Writing.{front_more}
use Rattle.sk_base.proofs.std_sink.write_whole.Goals as goal

pub loop-rest-preserved : goal.loop-rest-preserved
loop-rest-preserved g c =
    let took : List ℕ → Type 0 = λ piece. Appends (g.W.Write.contents c.loop-rest.out) (g.W.Write.contents c.write_some.new.out) piece in
    front_more _ _ _ _ _ _ _ c.loop-rest.invariant c.split_at.ensures.by_index.0 (subst took (sym c.split_at.ensures.front) c.in-Some.ensures.2)
