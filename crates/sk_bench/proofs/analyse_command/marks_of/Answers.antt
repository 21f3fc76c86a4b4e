use Rattle.std.proofs.Common.{◌≡◌, ◌∙◌, ◌^◌, ◌<◌, List, ℤ, length, subst, sym}
use Rattle.sk_term.specs.Program.{number_leaves}
use Rattle.sk_bench.proofs.Leaves.{few_literals}
use Rattle.sk_bench.proofs.analyse_command.marks_of.Goals as goal

pub from_literals-requires : goal.from_literals-requires
from_literals-requires c =
    subst (λ (l : List ℤ). length l < 2 ^ 30) (sym (c.as_slice.ensures.value ∙ c.in_ok-literals.ensures))
    (few_literals c.args.checked.now c.args.arena.now c.def-def.ensures.sorted.well_sorted.fits c.requires)
