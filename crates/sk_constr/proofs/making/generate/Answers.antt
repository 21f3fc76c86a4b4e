use Rattle.sk_constr.proofs.ListFits.{constraints_fit}
use Rattle.sk_constr.proofs.making.generate.Goals as goal

pub of-requires : goal.of-requires
of-requires g c =
    constraints_fit c.args.checked.now c.args.arena.now c.args.covers.now _ c.def-sorted.ensures.sorted c.requires.program
    (record { names_are = c.names.ensures; covers_are = c.in_ok-covers.ensures; keys_are = c.in_ok-keys.ensures }) c.requires.fit
