use Rattle.std.proofs.Common.{◌≡◌, drop}
use Rattle.sk_deriv.specs.Env.{bind_children}
use Rattle.sk_term.specs.Program.{children_of_point}
use Rattle.sk_concrete.proofs.start.bind_children.Given as goal

abbrev pub invariant-loop-place : goal.invariant-loop-place
invariant-loop-place l =
    bind_children l.env (drop l.place l.terms) (drop l.place (children_of_point l.arena.nodes l.point))
    ≡ bind_children l.fn.env l.terms (children_of_point l.arena.nodes l.point)
