-- Turns of the loops over points and hooks.
use Rattle.std.proofs.Common.{◌≡◌, ℕ, ◌+◌, ◌<◌, true, false, eqb, List, [], ◌∷◌, ◌++◌, length, drop, get_or, map, Some, ap, sym, ◌∙◌, append_assoc}
use Rattle.std.specs.List.{slice_get}
use Rattle.std.proofs.lemmas.List.{map-append}
use Rattle.std.proofs.lemmas.Option.{get_or_from_slice_get}
use Rattle.sk_def.specs.declared.ids.SortId.{SortId}
use Rattle.sk_def.specs.declared.def.Def.{Def}
use Rattle.sk_def.specs.declared.def.Hook.{Hook}
use Rattle.sk_term.specs.declared.node.TermNode.{TermNode}
use Rattle.sk_term.specs.Program.{IsSortOfPoint}
use Rattle.sk_term.specs.Terms.{keys_at, takes_node}
use Rattle.sk_term.proofs.Keys.{takes_is, later, taken, passed, keys_from, node_first}
use Rattle.sk_constr.specs.declared.line.KeyLines.{KeyLines}
use Rattle.sk_constr.specs.Keys.{lines_of_key}

pub takes_here : (d : Def) (nodes : List TermNode) (point : ℕ) (s : SortId) → IsSortOfPoint d nodes point s → (place : ℕ) (item : Hook) → item ≡ get_or d.hooks place item → true ≡ eqb s.0 item.sort.0 →
    (node : TermNode) (h : Hook) → slice_get nodes point ≡ Some node → slice_get d.hooks place ≡ Some h → takes_node d node h ≡ true
takes_here d nodes point s is place item item-is e node h at h-at =
    let same : h ≡ item = sym (item-is ∙ get_or_from_slice_get d.hooks place h item h-at) in
    takes_is d nodes point s is node h at ∙ ap (λ (k : Hook). eqb s.0 k.sort.0) same ∙ sym e

module _ (d : Def) (nodes : List TermNode) (node : TermNode) (point : ℕ) (hooks : List Hook) (place : ℕ) (h : Hook) (l : place < length hooks) (is : h ≡ get_or hooks place h) where
  pub push_turn : takes_node d node h ≡ true → (list : List KeyLines) (lines : KeyLines) → lines_of_key d nodes (record { 0 = place }, point) ≡ Some lines →
      map Some (list ++ lines ∷ []) ++ map (lines_of_key d nodes) (later d node point hooks place h l is) ≡ map Some list ++ map (lines_of_key d nodes) (keys_at d node point place (drop place hooks))
  push_turn e list lines found =
      let rest = later d node point hooks place h l is in
      ap (λ xs. xs ++ map (lines_of_key d nodes) rest) (map-append Some list (lines ∷ []))
      ∙ append_assoc (map Some list) (Some lines ∷ []) (map (lines_of_key d nodes) rest)
      ∙ ap (λ x. map Some list ++ (x ∷ map (lines_of_key d nodes) rest)) (sym found)
      ∙ ap (λ ks. map Some list ++ map (lines_of_key d nodes) ks) (sym (taken d node point hooks place h l is e))

  pub pass_turn : takes_node d node h ≡ false → (list : List KeyLines) →
      map Some list ++ map (lines_of_key d nodes) (later d node point hooks place h l is) ≡ map Some list ++ map (lines_of_key d nodes) (keys_at d node point place (drop place hooks))
  pass_turn e list = ap (λ ks. map Some list ++ map (lines_of_key d nodes) ks) (sym (passed d node point hooks place h l is e))

pub point_turn : (d : Def) (nodes : List TermNode) (point : ℕ) (node : TermNode) (old new : List KeyLines) → slice_get nodes point ≡ Some node → point < length nodes →
    map Some new ≡ map Some old ++ map (lines_of_key d nodes) (keys_at d node point 0 d.hooks) →
    map Some new ++ map (lines_of_key d nodes) (keys_from d (point + 1) (drop (point + 1) nodes)) ≡ map Some old ++ map (lines_of_key d nodes) (keys_from d point (drop point nodes))
point_turn d nodes point node old new at l e =
    let f = lines_of_key d nodes in
    let here = keys_at d node point 0 d.hooks in
    let later = keys_from d (point + 1) (drop (point + 1) nodes) in
    ap (λ xs. xs ++ map f later) e
    ∙ append_assoc (map Some old) (map f here) (map f later)
    ∙ ap (λ xs. map Some old ++ xs) (sym (map-append f here later))
    ∙ ap (λ ns. map Some old ++ map f (keys_from d point ns)) (sym (node_first nodes point node at l))
