use Rattle.std.proofs.Common.{◌≡◌, ◌∙◌, ◌++◌, List, sym, ap, length, get_or, ◌<◌}
use Rattle.sk_def.specs.declared.def.Def.{Def}
use Rattle.sk_term.proofs.Keys.{takes_is, later}
use Rattle.sk_abswalk.specs.Reading.{Key}
use Rattle.sk_analyse.proofs.KeyList.{push_turn, pass_turn}
use Rattle.sk_analyse.proofs.key_list.push_keys_at.Goals.{then-takes+in_ok-push, else-takes}
use Rattle.sk_analyse.proofs.key_list.push_keys_at.Goals as goal

pub loop-place-preserved : goal.loop-place-preserved
loop-place-preserved c =
    λ node at.
    let d = c.args.checked.now in
    let nodes = c.args.arena.now.nodes in
    let items-are = c.as_slice-hook-items.ensures ∙ ap (λ (d : Def). d.hooks) c.def.ensures.is in
    let item-is : c.hook-item.result ≡ get_or d.hooks c.loop-place.place c.hook-item.result = rw items-are at c.hook-item.is in
    let within : c.loop-place.place < length d.hooks = rw items-are at c.loop-place-test.true in
    let takes = takes_is d nodes c.args.point c.sort_at-sort.result (c.sort_at-sort.ensures.declared d c.requires.program) node c.hook-item.result at ∙ sym c.takes.ensures in
    let rest = later d node c.args.point d.hooks c.loop-place.place c.hook-item.result within item-is in
    elim c.if-takes.branch [
      | then-takes+in_ok-push w ↦
          ap (λ (ls : List Key). ls ++ rest) (w.list-is ∙ w.in_ok-push.ensures.ok)
          ∙ push_turn d node c.args.point d.hooks c.loop-place.place c.hook-item.result within item-is (takes ∙ w.if-takes.true) c.loop-place.list
          ∙ c.loop-place.invariant node at
      | else-takes w ↦
          ap (λ (ls : List Key). ls ++ rest) w.list-is
          ∙ pass_turn d node c.args.point d.hooks c.loop-place.place c.hook-item.result within item-is (takes ∙ w.if-takes.false) c.loop-place.list
          ∙ c.loop-place.invariant node at
    ]
