use Rattle.sk_deriv.specs.Moves.{setting_of}
use Rattle.sk_abswalk.proofs.OwnOutputs.{own_outputs_fit}
use Rattle.sk_abswalk.proofs.collect_walk.walk_collect.Goals as goal

pub walk_by_key-requires-clause-outputs : goal.walk_by_key-requires-clause-outputs
walk_by_key-requires-clause-outputs g c = own_outputs_fit (setting_of c.args.checked.now c.args.arena.now) c.args.table.now c.requires.table
