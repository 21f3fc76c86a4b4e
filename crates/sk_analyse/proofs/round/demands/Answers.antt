use Rattle.std.proofs.Common.{rules, ◌≡◌, ◌+◌, [], drop, get_or, sym, subst, arith}
use Rattle.std.proofs.lemmas.List.{drop_all}
use Rattle.sk_analyse.specs.Jobs.{setting_of_job}
use Rattle.sk_analyse.specs.Tabled.{tabled}
use Rattle.sk_analyse.proofs.Filling.{key_split}
use Rattle.sk_analyse.proofs.KeyList.{key_within}
use Rattle.sk_analyse.proofs.Demanding.{Heard, good_table, begins, goes_on, ends}
use Rattle.sk_analyse.proofs.round.demands.Goals as goal

pub loop-key-init : goal.loop-key-init
loop-key-init g c =
    let d = g.D.NumDom.domain in
    let fin = g.D.NumDom.FINITE in
    let job = c.args.job.now in
    let s = setting_of_job job in
    let T = tabled c.args.sides.now in
    let good = good_table _ d fin job.marks.now s job.covers.now c.requires.job.laws c.requires.made.0 T c.requires.made.1.table in
    subst (Heard _ d fin job.marks.now s job.covers.now T c.in_ok-heard.heard) (sym c.requires.list)
    (begins _ d fin job.marks.now s job.covers.now c.requires.job.laws T good c.in_ok-heard.heard c.in_ok-heard.ensures.slots c.in_ok-heard.ensures.table)

pub hear_key-requires-clause-fits : goal.hear_key-requires-clause-fits
hear_key-requires-clause-fits g c =
    let job = c.args.job.now in
    (good_table _ g.D.NumDom.domain g.D.NumDom.FINITE job.marks.now (setting_of_job job) job.covers.now c.requires.job.laws c.requires.made.0 (tabled c.args.sides.now) c.requires.made.1.table).fits

pub hear_key-requires-clause-hook : goal.hear_key-requires-clause-hook
hear_key-requires-clause-hook g c =
    (key_within c.args.job.now.checked.now c.args.job.now.arena.now.nodes c.as_slice-key-items.result.now c.args.list.now c.loop-key.key-index (record { 0 = 0 }, 0) c.as_slice-key-items.ensures c.requires.list c.loop-key-test.true).0

pub hear_key-requires-clause-point : goal.hear_key-requires-clause-point
hear_key-requires-clause-point g c =
    (key_within c.args.job.now.checked.now c.args.job.now.arena.now.nodes c.as_slice-key-items.result.now c.args.list.now c.loop-key.key-index (record { 0 = 0 }, 0) c.as_slice-key-items.ensures c.requires.list c.loop-key-test.true).1

pub loop-key-preserved : goal.loop-key-preserved
loop-key-preserved g c =
    let d = g.D.NumDom.domain in
    let fin = g.D.NumDom.FINITE in
    let job = c.args.job.now in
    let s = setting_of_job job in
    let T = tabled c.args.sides.now in
    let i = c.loop-key.key-index in
    let good = good_table _ d fin job.marks.now s job.covers.now c.requires.job.laws c.requires.made.0 T c.requires.made.1.table in
    goes_on _ d fin job.marks.now s job.covers.now c.requires.job.laws T good c.loop-key.heard c.hear_key.new.heard (get_or c.as_slice-key-items.result.now i (record { 0 = 0 }, 0)) (drop (i + 1) c.args.list.now)
    (subst (Heard _ d fin job.marks.now s job.covers.now T c.loop-key.heard) (key_split c.as_slice-key-items.result.now c.args.list.now i (record { 0 = 0 }, 0) c.as_slice-key-items.ensures c.loop-key-test.true) c.loop-key.invariant)
    c.in_ok-hear_key.ensures.slots c.in_ok-hear_key.ensures.inputs c.in_ok-hear_key.ensures.outputs

pub returns-clause-table : goal.returns-clause-table
returns-clause-table g c =
    let d = g.D.NumDom.domain in
    let fin = g.D.NumDom.FINITE in
    let job = c.args.job.now in
    let s = setting_of_job job in
    let T = tabled c.args.sides.now in
    let i = c.loop-key.key-index in
    let none : drop i c.as_slice-key-items.result.now ≡ [] = drop_all i c.as_slice-key-items.result.now (search (rules, arith)) in
    let left : drop i c.args.list.now ≡ [] = subst (λ l. drop i l ≡ []) c.as_slice-key-items.ensures none in
    ends _ d fin job.marks.now s job.covers.now T c.loop-key.heard (subst (Heard _ d fin job.marks.now s job.covers.now T c.loop-key.heard) left c.loop-key.invariant)
