use Rattle.std.proofs.Common.{ap, ◌∙◌}
use Rattle.sk_term.specs.Program.{Program, number_leaves}
use Rattle.sk_term.proofs.Programs.{leaves_are_kept}
use Rattle.sk_term.proofs.arena.Arena.literals.Goals as goal

pub returns : goal.returns
returns c = c.in_ok-from_slice.ensures.items ∙ c.as_slice.ensures ∙ leaves_are_kept c.self.invariant.0 ∙ ap (λ (p : Program). number_leaves p.nodes) c.self.view_is
