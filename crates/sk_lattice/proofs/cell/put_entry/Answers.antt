use Rattle.std.proofs.Common.{◌++◌, ◌∙◌, ap}
use Rattle.std.specs.Prelude.{codes}
use Rattle.sk_value.proofs.Texts.{on_err}
use Rattle.sk_lattice.specs.Texts.{val_text, mark_text}
use Rattle.sk_lattice.proofs.TextLemmas.{second_of_four_refused, third_of_four_stopped}
use Rattle.sk_lattice.proofs.cell.put_entry.Goals as goal

pub returns-in_err-put_bytes-2-clause-err : goal.returns-in_err-put_bytes-2-clause-err
returns-in_err-put_bytes-2-clause-err g c =
    on_err c.from_residual-in_err-put_bytes-2.result
    (second_of_four_refused _ _ _ c.args.name.now (codes "=") (val_text g.D.NumDom.texts c.args.cell.now.val) (mark_text c.args.cell.now.unset)
    (c.in_ok-put_bytes.ensures.ok ∙ ap (λ l. c.args.out.now.items ++ l) c.as_bytes.ensures.bytes) c.in_err-put_bytes-2.ensures.err)

pub returns-in_err-put_text-clause-err : goal.returns-in_err-put_text-clause-err
returns-in_err-put_text-clause-err g c =
    on_err c.from_residual-in_err-put_text.result
    (third_of_four_stopped _ _ _ _ c.args.name.now (codes "=") (val_text g.D.NumDom.texts c.args.cell.now.val) (mark_text c.args.cell.now.unset)
    (c.in_ok-put_bytes.ensures.ok ∙ ap (λ l. c.args.out.now.items ++ l) c.as_bytes.ensures.bytes) c.in_ok-put_bytes-2.ensures.ok c.in_err-put_text.ensures.err)
