use Rattle.std.proofs.Common.{List, sym, subst}
use Rattle.std.specs.Prelude.{All}
use Rattle.sk_term.specs.declared.node.TermNode.{TermNode}
use Rattle.sk_term.proofs.Programs.{IsDeclared, nodes_are_declared}
use Rattle.sk_term.proofs.arena.Arena.of.Goals as goal

pub sorts_of-requires : goal.sorts_of-requires
sorts_of-requires c =
    let P : List TermNode → Type 0 = λ ns. All (IsDeclared c.args.def.now) ns in
    subst P (sym c.as_slice.ensures) (nodes_are_declared c.requires)
