use Rattle.sk_spell.proofs.TupleOnly.{only_tuples_are_read}
use Rattle.sk_spell.proofs.TupleSpelled.{tuples_are_read}
use Rattle.sk_spell.proofs.laws.tuples_are_read_exactly.Goals as goal

pub returns : goal.returns
returns c = λ sorts names at symbols read end different. (only_tuples_are_read sorts names at symbols read end different, tuples_are_read sorts names at symbols read end different)
