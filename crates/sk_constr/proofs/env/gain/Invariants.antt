use Rattle.std.proofs.Common.{◌≡◌, drop}
use Rattle.sk_deriv.specs.Env.{gain}
use Rattle.sk_constr.specs.Operands.{places_from}
use Rattle.sk_constr.proofs.env.gain.Given as goal

abbrev pub invariant-loop-place : goal.invariant-loop-place
invariant-loop-place l =
    gain l.env (drop l.place l.variables) (places_from l.position l.place (drop l.place l.variables))
    ≡ gain l.fn.env l.variables (places_from l.position 0 l.variables)
