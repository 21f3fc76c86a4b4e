use Rattle.std.proofs.Common.{◌≡◌, ◌+◌, drop}
use Rattle.std.specs.Option.{option_map}
use Rattle.sk_solve.specs.Solves.{is_of_key}
use Rattle.sk_solve.specs.Climbing.{first_place}
use Rattle.sk_solve.proofs.slot.place_of.Given as goal

abbrev pub invariant-loop-place : goal.invariant-loop-place
invariant-loop-place g l =
    first_place (is_of_key l.hook l.point) l.found ≡ option_map (λ n. l.place + n) (first_place (is_of_key l.hook l.point) (drop l.place l.found))
