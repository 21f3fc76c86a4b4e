use Rattle.std.proofs.Common.{◌≤◌, sym, ap, subst, arith}
use Rattle.sk_term.specs.Program.{Program, IsProgramOf}
use Rattle.sk_term.proofs.Programs.{by_more_names, program_by_more_names}
use Rattle.sk_term.proofs.arena.Arena.set_names.Goals as goal

pub invariant_of-self : goal.invariant_of-self
invariant_of-self c =
    let few : c.self.inside.names ≤ c.args.names = omega (arith, ap (λ (p : Program). p.names) c.self.view_is) in
    (by_more_names c.args.names few c.self.invariant.0, c.self.invariant.1)

pub returns-clause-kept : goal.returns-clause-kept
returns-clause-kept c d h =
    let few : c.self.inside.names ≤ c.args.names = omega (arith, ap (λ (p : Program). p.names) c.self.view_is) in
    let P : Program → Type 0 = λ p. IsProgramOf d p in
    program_by_more_names d _ c.args.names few (subst P (sym c.self.view_is) h)
