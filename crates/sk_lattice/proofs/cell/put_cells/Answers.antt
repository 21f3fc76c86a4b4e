use Rattle.std.proofs.Common.{suc, drop, refl, sym, ap, ◌∙◌, add-one, arith}
use Rattle.std.proofs.lemmas.Result.{on_ok_weaker, on_err_weaker}
use Rattle.sk_value.proofs.Texts.{on_err, refused, entry_put, entry_stopped, entries_end, renamed}
use Rattle.sk_lattice.specs.Texts.{entries, entry_text}
use Rattle.sk_lattice.proofs.TextLemmas.{entries_step, entries_skip, entries_done}
use Rattle.sk_lattice.proofs.cell.put_cells.Goals as goal
use Rattle.sk_lattice.proofs.cell.put_cells.Goals.{then-not-is_empty+in_ok-put_between+in_ok-put_entry, else-not-is_empty}

pub returns-in_err-put_between-clause-err : goal.returns-in_err-put_between-clause-err
returns-in_err-put_between-clause-err g c = on_err c.from_residual-in_err-put_between.result (refused _ _ _ _ _ c.loop-at.invariant c.in_err-put_between.ensures.err)

pub returns-in_err-put_entry-clause-err : goal.returns-in_err-put_entry-clause-err
returns-in_err-put_entry-clause-err g c =
    on_err c.from_residual-in_err-put_entry.result
    (entry_stopped (entry_text g.D.NumDom.texts) _ _ _ _ c.loop-at.is_first _ (c.name.result.now, c.get-cell.result.now) _ _ _ c.loop-at.invariant
    (entries_step _ g.D.NumDom.domain c.args.names.now c.args.cells.now c.loop-at.at c.name.result.now c.get-cell.result.now c.name.ensures c.get-cell.ensures (sym c.is_empty.ensures ∙ c.if-not-is_empty.true))
    c.in_ok-put_between.ensures.ok c.in_err-put_entry.ensures.err)

pub loop-at-preserved : goal.loop-at-preserved
loop-at-preserved g c =
    elim c.if-not-is_empty.branch [
      | then-not-is_empty+in_ok-put_between+in_ok-put_entry w ↦
          renamed (entry_text g.D.NumDom.texts) _ _ _ _ _ (entries g.D.NumDom.domain (drop (suc c.loop-at.at) c.args.names.now) (drop (suc c.loop-at.at) c.args.cells.now)) _ _ _
          (entry_put (entry_text g.D.NumDom.texts) _ _ _ _ c.loop-at.is_first _ (w.name.result.now, c.get-cell.result.now) _ _ _ c.loop-at.invariant
          (entries_step _ g.D.NumDom.domain c.args.names.now c.args.cells.now c.loop-at.at w.name.result.now c.get-cell.result.now w.name.ensures c.get-cell.ensures (sym c.is_empty.ensures ∙ w.if-not-is_empty.true))
          w.in_ok-put_between.ensures.ok w.in_ok-put_entry.ensures.ok)
          (ap (λ v. v.items) w.out-is) w.is_first-is (rw add-one refl)
      | else-not-is_empty w ↦
          renamed (entry_text g.D.NumDom.texts) _ _ _ _ _ _ _ _ _ c.loop-at.invariant (ap (λ v. v.items) w.out-is) w.is_first-is
          (rw add-one (sym (entries_skip _ g.D.NumDom.domain c.args.names.now c.args.cells.now c.loop-at.at c.get-cell.result.now c.get-cell.ensures (sym c.is_empty.ensures ∙ w.if-not-is_empty.false))))
    ]

pub returns-clause-ok : goal.returns-clause-ok
returns-clause-ok g c =
    on_ok_weaker c.put_bytes-2.result
    (λ put. entries_end (entry_text g.D.NumDom.texts) _ _ _ c.loop-at.is_first _ _ _ c.loop-at.invariant (entries_done _ g.D.NumDom.domain c.args.names.now c.args.cells.now c.loop-at.at (omega arith)) put)
    c.put_bytes-2.ensures.ok

pub returns-clause-err : goal.returns-clause-err
returns-clause-err g c = on_err_weaker c.put_bytes-2.result (λ same. refused _ _ _ _ _ c.loop-at.invariant same) c.put_bytes-2.ensures.err
