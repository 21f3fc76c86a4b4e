use Rattle.std.proofs.Common.{◌≡◌, drop}
use Rattle.sk_concrete.specs.Worlds.{after_worlds, answers_in_order}
use Rattle.sk_concrete.proofs.hooks.answered.Given as goal

abbrev pub invariant-loop-world : goal.invariant-loop-world
invariant-loop-world l =
    answers_in_order l.point l.hook l.target l.args l.outs l.handed l.worlds
    ≡ after_worlds l.list (answers_in_order l.point l.hook l.target l.args l.outs l.left (drop l.world-index l.worlds))
