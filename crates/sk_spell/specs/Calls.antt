-- How calls are written: the name of a hook, and the number of a point.
use Rattle.std.specs.Prelude.{◌≡◌, ◌<◌, ℕ, pos, List, ◌∷◌, length, Some, slice_get}
use Rattle.sk_lex.specs.Symbols.{Symbol, Named, Plain}
use Rattle.sk_lex.specs.declared.token.TokenKind.TheVariants as token
use Rattle.sk_def.specs.declared.ids.HookId.{HookId}
use Rattle.sk_def.specs.declared.ids.SortId.{SortId}
use Rattle.sk_def.specs.declared.def.Def.{Def}
use Rattle.sk_def.specs.declared.def.Hook.{Hook}
use Rattle.sk_term.specs.Program.{Program}
use Rattle.sk_term.specs.Terms.{sort_of_node}
use Rattle.sk_term.specs.declared.node.TermNode.{TermNode}

-- this is the declaration of a hook, and none before it has its name
pub record IsDeclared (def : Def) (hook : HookId) (declared : Hook) : Type 0 where
  pub is : slice_get def.hooks hook.0 ≡ Some declared
  pub first : (place : ℕ) (other : Hook) → place < hook.0 → slice_get def.hooks place ≡ Some other → ¬ (other.name ≡ declared.name)

-- the program has such a point, of this sort
pub record IsPointOf (program : Program) (sort : SortId) (point : ℕ) : Type 0 where
  pub below : point < length program.nodes
  pub sort_is : slice_get program.sorts point ≡ Some sort

-- one of these nodes is such a point
pub record IsNodeOf (def : Def) (nodes : List TermNode) (sort : SortId) (point : ℕ) : Type 0 where
  pub node : TermNode
  pub is : slice_get nodes point ≡ Some node
  pub sort_is : sort_of_node def node ≡ Some sort

-- Symbols begin with a call: the name of a hook that is declared so, and the number of a point of the hook's sort, given
-- what the points of a sort are. These are left after it.
pub record CallAt (def : Def) (IsPoint : SortId → ℕ → Type 0) (hook : HookId) (declared : Hook) (point : ℕ) (symbols left : List Symbol) : Type 0 where
  pub called : IsDeclared def hook declared
  pub pointed : IsPoint declared.sort point
  pub symbols_are : symbols ≡ Named declared.name ∷ Plain (token.Number (pos point)) ∷ left
