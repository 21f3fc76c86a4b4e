use Rattle.std.proofs.Common.{[], ◌++◌, subst}
use Rattle.std.specs.Prelude.{IsTrue, ◌↔◌}
use Rattle.sk_deriv.specs.Tree.{word, IsBefore}
use Rattle.sk_deriv.specs.Forest.{tree_at}
use Rattle.sk_deriv.proofs.Cursors.{word_by, word_from}
use Rattle.sk_deriv.proofs.forest.Forest.less.Goals as goal

pub returns : goal.returns
returns c =
    let nodes = c.args.self.now in
    subst (λ w. IsTrue c.is_before.result ↔ IsBefore (word (tree_at nodes c.args.a)) w)
    (word_from nodes c.get.ensures.forest c.args.b c.get-2.result.now c.get-2.ensures.node c.as_slice-2.result.now c.as_slice-2.ensures)
    (subst (λ w. IsTrue c.is_before.result ↔ IsBefore w (word_by nodes c.as_slice-2.result.now ++ []))
    (word_from nodes c.get.ensures.forest c.args.a c.get.result.now c.get.ensures.node c.as_slice.result.now c.as_slice.ensures)
    c.is_before.ensures)
