-- Steps of a walk along a word.
use Rattle.std.proofs.Common.{◌≡◌, ℕ, ◌+◌, ◌<◌, ◌≤◌, List, [], ◌∷◌, ◌++◌, length, get_or, Some, Bor, refl, sym, ap, subst, ◌∙◌, arith, append_assoc, append-nil}
use Rattle.std.specs.List.{All, slice_get}
use Rattle.std.proofs.lemmas.List.Elements.{All-head, All-tail}
use Rattle.sk_deriv.specs.declared.forest.Step.{Step}
use Rattle.sk_deriv.specs.declared.forest.Node.{Node}
use Rattle.sk_deriv.specs.declared.order.Cursor.{Cursor, End, Within'}
use Rattle.sk_deriv.specs.declared.order.Next.TheVariants as next
use Rattle.sk_deriv.specs.Tree.{word, word_of_steps}
use Rattle.sk_deriv.specs.Forest.{IsBelow, ChildrenFirst, steps_with, tree_at}
use Rattle.sk_deriv.specs.Cursors.{Comes, IsInForest, rest_word, walk_size, steps_size, cursor_size}
use Rattle.sk_deriv.proofs.ForestLemmas.{nodes_are_trees}

below_more : (n child : ℕ) (step : Step) → child < n → IsBelow child step → IsBelow n step
below_more n child (Step.Pick k) l h = tt
below_more n child (Step.Sub c) l h = omega arith

module _ (nodes : List Node) where
  -- the word of steps, and how long the walk through them is
  abbrev pub word_by : List Step → List ℕ
  word_by steps = word_of_steps (steps_with (tree_at nodes) steps)

  abbrev pub size_by : List Step → ℕ
  size_by steps = steps_size (steps_with (tree_at nodes) steps)

  pub up_word : (c : Cursor) (up : Bor Cursor) → Comes c (next.Up up) → rest_word nodes c ≡ rest_word nodes up.now
  up_word End up h = absurd h
  up_word (Within' steps place above) up h = rw (h.0, h.1) refl

  pub up_size : (c : Cursor) (up : Bor Cursor) → Comes c (next.Up up) → cursor_size nodes up.now < cursor_size nodes c
  up_size End up h = absurd h
  up_size (Within' steps place above) up h = omega (arith, ap (cursor_size nodes) h.1)

  pub pick_word : (c : Cursor) (k : ℕ) (rest : Bor (List Step)) (up : Bor Cursor) → Comes c (next.Pick k rest up) → rest_word nodes c ≡ k ∷ (word_by rest.now ++ rest_word nodes up.now)
  pick_word End k rest up h = absurd h
  pick_word (Within' steps place above) k rest up h = rw (h.0, h.1) refl

  pub pick_size : (c : Cursor) (k : ℕ) (rest : Bor (List Step)) (up : Bor Cursor) → Comes c (next.Pick k rest up) → size_by rest.now + cursor_size nodes up.now + 1 < cursor_size nodes c
  pick_size End k rest up h = absurd h
  pick_size (Within' steps place above) k rest up h = omega (arith, ap size_by h.0, ap (cursor_size nodes) h.1)

  -- what the walk after a pick asks: it is shorter, and what is left of it is there
  pub pick_into : (c : Cursor) (k : ℕ) (rest : Bor (List Step)) (up : Bor Cursor) → Comes c (next.Pick k rest up) → IsInForest nodes c
      → (size_by rest.now + cursor_size nodes up.now + 1 < cursor_size nodes c) × (All (IsBelow (length nodes)) rest.now × IsInForest nodes up.now)
  pick_into End k rest up h fits = absurd h
  pick_into (Within' steps place above) k rest up h fits =
      let steps_fit : All (IsBelow (length nodes)) (Step.Pick k ∷ rest.now) = subst (All (IsBelow (length nodes))) h.0 fits.0 in
      (pick_size (Within' steps place above) k rest up h, (All-tail (IsBelow (length nodes)) (Step.Pick k) rest.now steps_fit, subst (IsInForest nodes) h.1 fits.1))

  module _ (first : ChildrenFirst nodes) (child : ℕ) (node : Node) (is : slice_get nodes child ≡ Some node) where
    child_word : word (tree_at nodes child) ≡ word_by node.steps
    child_word = ap word (nodes_are_trees nodes child node first is)

    child_size : walk_size (tree_at nodes child) ≡ size_by node.steps
    child_size = ap walk_size (nodes_are_trees nodes child node first is)

    pub sub_word : (c : Cursor) (rest : Bor (List Step)) (up : Bor Cursor) → Comes c (next.Sub child rest up) → rest_word nodes c ≡ word_by node.steps ++ (word_by rest.now ++ rest_word nodes up.now)
    sub_word End rest up h = absurd h
    sub_word (Within' steps place above) rest up h =
        rw (h.0, h.1) (append_assoc (word (tree_at nodes child)) (word_by rest.now) (rest_word nodes up.now) ∙ ap (λ w. w ++ (word_by rest.now ++ rest_word nodes up.now)) child_word)

    pub sub_size : (c : Cursor) (rest : Bor (List Step)) (up : Bor Cursor) → Comes c (next.Sub child rest up) → size_by node.steps + (size_by rest.now + cursor_size nodes up.now + 1) + 1 < cursor_size nodes c
    sub_size End rest up h = absurd h
    sub_size (Within' steps place above) rest up h = omega (arith, ap size_by h.0, ap (cursor_size nodes) h.1, child_size)

    -- what a walk into a subtree asks: it is shorter, and what is left of it is there
    pub sub_into : (c : Cursor) (rest : Bor (List Step)) (up : Bor Cursor) (inner : List Step) (bound : ℕ) → Comes c (next.Sub child rest up) → IsInForest nodes c → inner ≡ node.steps → All (IsBelow child) node.steps
        → child < length nodes → cursor_size nodes c ≤ bound
        → (size_by inner + (size_by rest.now + cursor_size nodes up.now + 1) + 1 < bound) × (All (IsBelow (length nodes)) inner × (All (IsBelow (length nodes)) rest.now × IsInForest nodes up.now))
    sub_into End rest up inner bound h fits same below there le = absurd h
    sub_into (Within' steps place above) rest up inner bound h fits same below there le =
        let size = sub_size (Within' steps place above) rest up h in
        let steps_fit : All (IsBelow (length nodes)) (Step.Sub child ∷ rest.now) = subst (All (IsBelow (length nodes))) h.0 fits.0 in (
          omega (arith, ap size_by same),
          (
            subst (All (IsBelow (length nodes))) (sym same) (λ k d l. below_more (length nodes) child (get_or node.steps k d) there (below k d l)),
            (All-tail (IsBelow (length nodes)) (Step.Sub child) rest.now steps_fit, subst (IsInForest nodes) h.1 fits.1),
          ),
        )

    pub sub_below : (c : Cursor) (rest : Bor (List Step)) (up : Bor Cursor) → Comes c (next.Sub child rest up) → IsInForest nodes c → child < length nodes
    sub_below End rest up h fits = absurd h
    sub_below (Within' steps place above) rest up h fits =
        let steps_fit : All (IsBelow (length nodes)) (Step.Sub child ∷ rest.now) = subst (All (IsBelow (length nodes))) h.0 fits.0 in
        All-head (IsBelow (length nodes)) (Step.Sub child) rest.now steps_fit

    -- what is left of the word before a walk into a subtree is left in it
    pub word_into : (c : Cursor) (rest : Bor (List Step)) (up : Bor Cursor) (inner : List Step) → Comes c (next.Sub child rest up) → inner ≡ node.steps
        → rest_word nodes c ≡ word_by inner ++ (word_by rest.now ++ rest_word nodes up.now)
    word_into c rest up inner h same = sub_word c rest up h ∙ ap (λ steps. word_by steps ++ (word_by rest.now ++ rest_word nodes up.now)) (sym same)

    -- at the root of a derivation its word is left
    pub word_from : (inner : List Step) → inner ≡ node.steps → word_by inner ++ [] ≡ word (tree_at nodes child)
    word_from inner same = append-nil (word_by inner) ∙ ap word_by same ∙ sym child_word
