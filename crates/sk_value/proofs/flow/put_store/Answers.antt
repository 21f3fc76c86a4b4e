use Rattle.std.proofs.Common.{suc, drop, Some, refl, sym, ap, ◌∙◌, add-one, arith}
use Rattle.std.proofs.lemmas.Result.{on_ok_weaker, on_err_weaker}
use Rattle.sk_value.specs.Texts.{setting_text, settings}
use Rattle.sk_value.proofs.Texts.{on_err, refused, entry_put, entry_stopped, entries_end, renamed, settings_step, settings_skip, settings_done}
use Rattle.sk_value.proofs.flow.put_store.Goals as goal
use Rattle.sk_value.proofs.flow.put_store.Goals.{in-Some+in_ok-put_between+in_ok-put_setting, in_default}

pub returns-in_err-put_between-clause-err : goal.returns-in_err-put_between-clause-err
returns-in_err-put_between-clause-err c = on_err c.from_residual-in_err-put_between.result (refused _ _ _ _ _ c.loop-at.invariant c.in_err-put_between.ensures.err)

pub returns-in_err-put_setting-clause-err : goal.returns-in_err-put_setting-clause-err
returns-in_err-put_setting-clause-err c = on_err c.from_residual-in_err-put_setting.result
    (entry_stopped setting_text _ _ _ _ c.loop-at.is_first _ (c.name.result.now, c.in-Some.value) _ _ _ c.loop-at.invariant
    (settings_step c.args.names.now c.args.store.now c.loop-at.at c.name.result.now (Some c.in-Some.value) c.name.ensures (c.get.ensures ∙ ap Some c.in-Some.is))
    c.in_ok-put_between.ensures.ok c.in_err-put_setting.ensures.err)

pub loop-at-preserved : goal.loop-at-preserved
loop-at-preserved c =
    elim c.match-get.branch [
      | in-Some+in_ok-put_between+in_ok-put_setting w ↦
          renamed setting_text _ _ _ _ _ (settings (drop (suc c.loop-at.at) c.args.names.now) (drop (suc c.loop-at.at) c.args.store.now)) _ _ _
          (entry_put setting_text _ _ _ _ c.loop-at.is_first _ (w.name.result.now, w.in-Some.value) _ _ _ c.loop-at.invariant
          (settings_step c.args.names.now c.args.store.now c.loop-at.at w.name.result.now (Some w.in-Some.value) w.name.ensures (c.get.ensures ∙ ap Some w.in-Some.is))
          w.in_ok-put_between.ensures.ok w.in_ok-put_setting.ensures.ok)
          (ap (λ v. v.items) w.out-is) w.is_first-is (rw add-one refl)
      | in_default w ↦
          renamed setting_text _ _ _ _ _ _ _ _ _ c.loop-at.invariant (ap (λ v. v.items) w.out-is) w.is_first-is
          (rw add-one (sym (settings_skip c.args.names.now c.args.store.now c.loop-at.at (c.get.ensures ∙ ap Some w.in_default.is))))
    ]

pub returns-clause-ok : goal.returns-clause-ok
returns-clause-ok c = on_ok_weaker c.put_bytes-2.result
    (λ put. entries_end setting_text _ _ _ c.loop-at.is_first _ _ _ c.loop-at.invariant (settings_done c.args.names.now c.args.store.now c.loop-at.at (omega arith)) put)
    c.put_bytes-2.ensures.ok

pub returns-clause-err : goal.returns-clause-err
returns-clause-err c = on_err_weaker c.put_bytes-2.result (λ same. refused _ _ _ _ _ c.loop-at.invariant same) c.put_bytes-2.ensures.err
