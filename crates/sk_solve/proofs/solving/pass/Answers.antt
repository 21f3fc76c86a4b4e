use Rattle.std.proofs.Common.{length}
use Rattle.sk_solve.specs.Solves.{Solves}
use Rattle.sk_solve.specs.Climbing.{CoversHold, KeysHold}
use Rattle.sk_solve.proofs.Passes.{all_hold}
use Rattle.sk_solve.proofs.Steps.{step_more, two_steps}
use Rattle.sk_solve.proofs.solving.pass.Goals as goal

pub returns : goal.returns
returns g c =
    let d = g.D.NumDom.domain in
    let list = c.args.list.now in
    step_more _ d list (λ x. CoversHold d list.names list.covers x × KeysHold d list (length list.keys) x) (Solves d list) c.args.found.now c.raise_keys.new.found _
    (λ h. all_hold _ d list c.args.found.now c.requires.underway.assigns h.0 h.1)
    (two_steps _ d list (CoversHold d list.names list.covers) (KeysHold d list (length list.keys)) c.args.found.now c.raise_covers.new.found c.raise_keys.new.found c.in_ok-covers.covers c.in_ok-lines.lines c.in_ok-covers.ensures c.in_ok-lines.ensures)
