-- The keys of a point: which hooks take its node, and turns of loops over hooks and points.
use Rattle.std.proofs.Common.{◌≡◌, ℕ, suc, ◌+◌, ◌<◌, true, false, eqb, List, ◌∷◌, length, drop, get_or, Option, Some, refl, ap, sym, ◌∙◌, add-one, drop-cons}
use Rattle.std.specs.List.{slice_get, flat_map, enumerate_from}
use Rattle.std.specs.Option.{option_map, option_map_or}
use Rattle.std.proofs.lemmas.Option.{get_or_from_slice_get, same_Some}
use Rattle.sk_def.specs.declared.ids.HookId.{HookId}
use Rattle.sk_def.specs.declared.ids.SortId.{SortId}
use Rattle.sk_def.specs.declared.def.Def.{Def}
use Rattle.sk_def.specs.declared.def.Hook.{Hook}
use Rattle.sk_term.specs.declared.node.TermNode.{TermNode}
use Rattle.sk_term.specs.Program.{IsSortOfPoint}
use Rattle.sk_term.specs.Terms.{keys_at, takes_node, sort_of_node}

-- whether a hook takes a node whose sort is known
node_takes : (h : Hook) (o : Option SortId) (s : SortId) → o ≡ Some s → option_map_or (λ (found : SortId). eqb found.0 h.sort.0) o false ≡ eqb s.0 h.sort.0
node_takes h o s e = rw e refl

pub takes_is : (d : Def) (nodes : List TermNode) (point : ℕ) (s : SortId) → IsSortOfPoint d nodes point s → (node : TermNode) (h : Hook) → slice_get nodes point ≡ Some node → takes_node d node h ≡ eqb s.0 h.sort.0
takes_is d nodes point s is node h at =
    let e : sort_of_node d node ≡ Some s = same_Some (sort_of_node d node) (Some s) (ap (option_map (sort_of_node d)) (sym at) ∙ is) in
    node_takes h (sort_of_node d node) s e

module _ (d : Def) (node : TermNode) (point : ℕ) (hooks : List Hook) (place : ℕ) (h : Hook) (l : place < length hooks) (is : h ≡ get_or hooks place h) where
  at_turn : keys_at d node point place (drop place hooks) ≡ keys_at d node point place (h ∷ drop (place + 1) hooks)
  at_turn =
      ap (keys_at d node point place) (drop-cons hooks place h l)
      ∙ ap (λ x. keys_at d node point place (x ∷ drop (suc place) hooks)) (sym is)
      ∙ ap (λ k. keys_at d node point place (h ∷ drop k hooks)) (sym (add-one place))

  abbrev pub later : List (HookId × ℕ)
  later = keys_at d node point (place + 1) (drop (place + 1) hooks)

  first_taken : takes_node d node h ≡ true → keys_at d node point place (h ∷ drop (place + 1) hooks) ≡ (record { 0 = place }, point) ∷ later
  first_taken e = rw e refl

  first_passed : takes_node d node h ≡ false → keys_at d node point place (h ∷ drop (place + 1) hooks) ≡ later
  first_passed e = rw e refl

  pub taken : takes_node d node h ≡ true → keys_at d node point place (drop place hooks) ≡ (record { 0 = place }, point) ∷ later
  taken e = at_turn ∙ first_taken e

  pub passed : takes_node d node h ≡ false → keys_at d node point place (drop place hooks) ≡ later
  passed e = at_turn ∙ first_passed e

-- the keys of the points from this one on
abbrev pub keys_from : Def → ℕ → List TermNode → List (HookId × ℕ)
keys_from d point nodes = flat_map (λ at. keys_at d at.1 at.0 0 d.hooks) (enumerate_from point nodes)

pub node_first : (nodes : List TermNode) (point : ℕ) (node : TermNode) → slice_get nodes point ≡ Some node → point < length nodes → drop point nodes ≡ node ∷ drop (point + 1) nodes
node_first nodes point node at l =
    drop-cons nodes point node l ∙ ap (λ x. x ∷ drop (suc point) nodes) (get_or_from_slice_get nodes point node node at) ∙ ap (λ k. node ∷ drop k nodes) (sym (add-one point))
