use Rattle.std.proofs.Common.{◌≡◌, false, sym, ◌∙◌, ap₂}
use Rattle.sk_lattice.specs.Order.{tuple_leq}
use Rattle.sk_absfilter.specs.Laws.{outcome_leq}
use Rattle.sk_analyse.proofs.Raising.{raised_is}
use Rattle.sk_analyse.proofs.side.raise.Goals as goal

pub returns-in_ok-stretch-in-Some-Some : goal.returns-in_ok-stretch-in-Some-Some
returns-in_ok-stretch-in-Some-Some g c = λ s covers.
    let higher : tuple_leq g.D.NumDom.domain c.in-Some-Some.new c.in-Some-Some.old ≡ false =
    sym (ap₂ (outcome_leq g.D.NumDom.domain) (c.as_ref.ensures.value ∙ c.in-Some-Some.is-1) (c.as_ref-2.ensures.value ∙ c.in-Some-Some.is-0)) ∙ sym c.lies_below.ensures ∙ c.if-lies_below.false in
    raised_is _ g.D.NumDom.domain g.D.NumDom.FINITE c.args.marks.now c.args.round s covers c.args.old c.args.new c.in-Some-Some.old c.in-Some-Some.new
    c.in_ok-stretch-in-Some-Some.field-0 c.in-Some-Some.is-0 c.in-Some-Some.is-1 higher (c.in_ok-stretch-in-Some-Some.ensures s covers)
