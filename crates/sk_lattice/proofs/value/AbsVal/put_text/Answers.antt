use Rattle.std.specs.Prelude.{codes}
use Rattle.sk_value.proofs.Texts.{on_err}
use Rattle.sk_lattice.specs.Texts.{bool_text}
use Rattle.sk_lattice.proofs.TextLemmas.{first_stopped, second_refused}
use Rattle.sk_lattice.proofs.value.AbsVal.put_text.Goals as goal

pub returns-in_err-put_text-clause-err : goal.returns-in_err-put_text-clause-err
returns-in_err-put_text-clause-err g c =
    on_err c.from_residual.result (first_stopped _ _ (g.D.NumDom.texts.text c.args.self.now.num) (codes "/") (bool_text c.args.self.now.truth) c.in_err-put_text.ensures.err)

pub returns-in_err-put_bytes-clause-err : goal.returns-in_err-put_bytes-clause-err
returns-in_err-put_bytes-clause-err g c =
    on_err c.from_residual-in_err-put_bytes.result
    (second_refused _ _ _ (g.D.NumDom.texts.text c.args.self.now.num) (codes "/") (bool_text c.args.self.now.truth) c.in_ok-put_text.ensures.ok c.in_err-put_bytes.ensures.err)
