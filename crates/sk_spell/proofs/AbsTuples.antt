-- Abstract tuples are read exactly.
use Rattle.sk_lattice.specs.Domain.{Domain}
use Rattle.sk_lattice.specs.DomainTexts.{DomainTexts, TextLaws}
use Rattle.sk_spell.specs.AbsTupleSpelling.{AbsTuplesAreReadExactly}
use Rattle.sk_spell.proofs.AbsTupleOnly.{only_abs_tuples_are_read}
use Rattle.sk_spell.proofs.AbsTupleSpelled.{abs_tuples_are_read}

pub abs_tuples_are_read_exactly : {D : Type 0} (d : Domain D) (t : DomainTexts D) → TextLaws d t → AbsTuplesAreReadExactly d t
abs_tuples_are_read_exactly d t laws known sorts names at symbols read end different =
    (only_abs_tuples_are_read d t laws.within known sorts names at symbols read end different, abs_tuples_are_read d t laws.within known sorts names at symbols read end different)
