use Rattle.std.proofs.Common.{rules, ◌≡◌, ◌∷◌, [], Some, None, Err, length, map, subst, sym}
use Rattle.std.specs.Prelude.{slice_get, slice_set}
use Rattle.sk_deriv.specs.declared.entry.Entry.{Entry}
use Rattle.sk_abswalk.specs.Walk.{with, join_exports}
use Rattle.sk_abswalk.specs.FromTable.{Gives, Gains}
use Rattle.sk_abswalk.specs.Branches.{env_of}
use Rattle.sk_abswalk.proofs.ProperEnvs.{flow_of_tuple}
use Rattle.sk_abswalk.proofs.BranchEnds.{whole_is, single, some_there, single_there, one_long, not_none, stops_whole, gains_whole, gains_nothing}
use Rattle.sk_abswalk.proofs.branches.+gain_joined.Goals as goal

pub returns-in_default : goal.returns-in_default
returns-in_default g t c =
    let e : length c.args.exports.now ≡ 0 = search rules in
    gains_nothing _ g.D.NumDom.domain c.args.exports.now c.args.env.now c.args.ends.now e c.requires

pub returns-in-Err : goal.returns-in-Err
returns-in-Err g t c =
    let e : c.args.exports.now ≡ c.in-Some.variable.now ∷ c.in-Some.exports.now = search rules in
    let s : Gives (join_exports g.D.NumDom.domain (c.in-Some.variable.now ∷ []) None (map env_of c.args.ends.now)) (Err c.in-Err.stop) = search rules in
    subst (λ vs. Gains (join_exports g.D.NumDom.domain vs None (map env_of c.args.ends.now)) vs c.args.env.now c.args.env.now (Err c.in-Err.stop)) (sym e)
    (stops_whole _ g.D.NumDom.domain _ _ _ (c.in-Some.variable.now ∷ c.in-Some.exports.now) c.args.env.now c.in-Err.stop (whole_is _ g.D.NumDom.domain c.in-Some.variable.now c.in-Some.exports.now c.args.ends.now c.requires) (single _ g.D.NumDom.domain c.in-Some.variable.now c.args.ends.now c.requires) s)

pub returns-in-Ok-None : goal.returns-in-Ok-None
returns-in-Ok-None g t c =
    let e : join_exports g.D.NumDom.domain (c.in-Some.variable.now ∷ []) None (map env_of c.args.ends.now) ≡ with None = search rules in
    absurd (not_none _ g.D.NumDom.domain _ (single_there _ g.D.NumDom.domain _ (single _ g.D.NumDom.domain c.in-Some.variable.now c.args.ends.now c.requires)) e)

pub get-requires : goal.get-requires
get-requires g t c =
    let e : join_exports g.D.NumDom.domain (c.in-Some.variable.now ∷ []) None (map env_of c.args.ends.now) ≡ with (Some c.in-Ok-Some.tuple) = search rules in
    one_long _ g.D.NumDom.domain _ c.in-Ok-Some.tuple (single _ g.D.NumDom.domain c.in-Some.variable.now c.args.ends.now c.requires) e

pub put_flow-requires : goal.put_flow-requires
put_flow-requires g t c =
    let e : slice_get c.in-Ok-Some.tuple 0 ≡ Some c.in_ok-copy.field-0 = search rules in
    flow_of_tuple _ g.D.NumDom.domain c.in-Ok-Some.tuple 0 c.in_ok-copy.field-0 (rw c.tuple.view_is at c.tuple.invariant) e

pub returns : goal.returns
returns g t c =
    let v : c.args.exports.now ≡ c.in-Some.variable.now ∷ c.in-Some.exports.now = search rules in
    let e : join_exports g.D.NumDom.domain (c.in-Some.variable.now ∷ []) None (map env_of c.args.ends.now) ≡ with (Some c.in-Ok-Some.tuple) = search rules in
    let a : slice_get c.in-Ok-Some.tuple 0 ≡ Some c.in_ok-copy.field-0 = search rules in
    let p : c.put_flow.new.self ≡ slice_set c.args.env.now c.in-Some.variable.now.0 (Some (Entry.Flow c.in_ok-copy.field-0)) = search rules in
    subst (λ vs. Gains (join_exports g.D.NumDom.domain vs None (map env_of c.args.ends.now)) vs c.args.env.now c.gain_joined.new.env c.gain_joined.result) (sym v)
    (gains_whole _ g.D.NumDom.domain _ _ _ c.in-Some.variable.now c.in-Some.exports.now c.args.env.now c.put_flow.new.self c.gain_joined.new.env c.in-Ok-Some.tuple c.in_ok-copy.field-0 c.gain_joined.result
    (whole_is _ g.D.NumDom.domain c.in-Some.variable.now c.in-Some.exports.now c.args.ends.now c.requires) (single _ g.D.NumDom.domain c.in-Some.variable.now c.args.ends.now c.requires) (some_there _ g.D.NumDom.domain c.in-Some.exports.now c.args.ends.now c.requires) e a p c.gain_joined.ensures)
