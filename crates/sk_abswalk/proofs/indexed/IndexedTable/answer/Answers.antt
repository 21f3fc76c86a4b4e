use Rattle.std.proofs.Common.{rules, ◌≡◌, ◌<◌, map, length, ap, subst, ◌∙◌, arith}
use Rattle.std.specs.Prelude.{IfOk}
use Rattle.sk_abswalk.specs.Tables.{table_answer}
use Rattle.sk_abswalk.proofs.KeyIndex.{answer_in_slot}
use Rattle.sk_abswalk.proofs.indexed.IndexedTable.answer.Goals as goal

pub returns-then-slot-len : goal.returns-then-slot-len
returns-then-slot-len g c =
    let d = g.D.NumDom.domain in
    let call = c.args.call.now in
    let hook : call.hook.0 < c.self.inside.hooks = search (rules, arith) in
    let within : c.slot_of-slot.result < length c.self.inside.slots.items = search (rules, arith) in
    let whole : c.self.inside.table.now ≡ c.args.self.now = search rules in
    subst (λ answer. IfOk c.answer_among.result (λ a. a ≡ answer))
    (ap (λ l. table_answer d (map (λ triple. triple.now) l) call) c.as_slice.ensures.value
    ∙ answer_in_slot (λ slot. map (λ triple. triple.now) slot.items) c.self.inside.hooks c.self.inside.slots.items c.self.inside.table.now c.self.invariant.indexed c.slot_of-slot.result c.index.result.now within c.index.ensures d call hook c.slot_of-slot.ensures
    ∙ ap (λ l. table_answer d l call) whole)
    c.answer_among.ensures
