-- The list of constraints of a program of a well-sorted definition fits.
use Rattle.std.proofs.Common.{◌≡◌, ℕ, zero, suc, ◌+◌, ◌≤◌, ◌&&◌, Bool, true, false, cond, List, [], ◌∷◌, ◌++◌, map, length, Option, Some, None, refl, sym, ◌∙◌, ap, subst, arith, eqb, inl, inr}
use Rattle.std.specs.Prelude.{slice_get, find, All, nat_lt}
use Rattle.std.specs.List.{AllByRecursion, AllZip, filter, flat_map, enumerate_from}
use Rattle.std.specs.Option.{option_map, option_map_or, option_and_then}
use Rattle.std.proofs.lemmas.Bool.{and_parts, and_from, eqb-true, eq-eqb, cases_Bool, cond-true, cond-false, false≢true}
use Rattle.std.proofs.lemmas.List.{append-nil}
use Rattle.std.proofs.lemmas.Option.{slice_get_within, same_Some}
use Rattle.std.proofs.lemmas.List.Elements.{recursion_from_All}
use Rattle.sk_def.specs.declared.ids.HookId.{HookId}
use Rattle.sk_def.specs.declared.ids.SortId.{SortId}
use Rattle.sk_def.specs.declared.def.Def.{Def}
use Rattle.sk_def.specs.declared.def.Rule.{Rule}
use Rattle.sk_def.specs.declared.def.Hook.{Hook}
use Rattle.sk_def.specs.declared.def.Con.{Con}
use Rattle.sk_def.specs.Fits.{HookFits, ListsAreShort, RuleIsShort}
use Rattle.sk_def.specs.Rules.{rule_of}
use Rattle.sk_sort.specs.Definition.{DefinitionIsSorted}
use Rattle.sk_sort.specs.Rules.{header_sorts}
use Rattle.sk_term.specs.declared.node.TermNode.{TermNode}
use Rattle.sk_term.specs.Program.{Program, IsProgramOf, IsSortOfPoint, ChildrenFit, children_of_point}
use Rattle.sk_term.specs.Terms.{takes_node, sort_of_node, arguments_of, keys}
use Rattle.sk_term.proofs.Entries.{entries_fit}
use Rattle.sk_term.proofs.Keys.{takes_is}
use Rattle.sk_table.specs.Fits.{CoverFits}
use Rattle.sk_table.specs.Tables.{has_sort_at}
use Rattle.sk_table.specs.declared.triple.Cover.{Cover}
use Rattle.sk_constr.specs.declared.line.KeyLines.{KeyLines}
use Rattle.sk_constr.specs.declared.constraint_list.ConstraintList.{ConstraintList}
use Rattle.sk_constr.specs.Positions.{positions_of}
use Rattle.sk_constr.specs.Lines.{env_after, lines_of}
use Rattle.sk_constr.specs.Keys.{first_env, AreConstraints, RuleOfKey, key_by_rule, lines_of_key}
use Rattle.sk_constr.specs.Fits.{is_lines_of, IsCalled, LineFits, LinesFit, CoverLineFits, CoverLinesFit, ConstraintsFit}
use Rattle.sk_constr.proofs.EnvFits.{start_fits}
use Rattle.sk_constr.proofs.LinesFit.{Stands, fine, values_fit}
use Rattle.sk_constr.proofs.RulesFound.{all_at, Takes, key_parts, rule_of_parts}

-- a key of a program has a node and a hook that takes it
record IsKeyOf (d : Def) (nodes : List TermNode) (k : HookId × ℕ) : Type 0 where
  node : TermNode
  node_is : slice_get nodes k.1 ≡ Some node
  hook : Hook
  hook_is : slice_get d.hooks k.0.0 ≡ Some hook
  takes : takes_node d node hook ≡ true

each_append : {A : Type 0} (P : A → Type 0) (xs ys : List A) → AllByRecursion P xs → AllByRecursion P ys → AllByRecursion P (xs ++ ys)
each_append P [] ys h k = k
each_append P (x ∷ xs) ys h k = (h.0, each_append P xs ys h.1 k)

each_flat : {A B : Type 0} (P : B → Type 0) (f : ℕ × A → List B) (n : ℕ) (xs : List A) → ((i : ℕ) (x : A) → slice_get xs i ≡ Some x → AllByRecursion P (f (n + i, x))) → AllByRecursion P (flat_map f (enumerate_from n xs))
each_flat P f n [] h = tt
each_flat P f n (x ∷ xs) h =
    let here : n + 0 ≡ n = omega arith in
    each_append P (f (n, x)) (flat_map f (enumerate_from (n + 1) xs)) (subst (λ m. AllByRecursion P (f (m, x))) here (h 0 x refl))
    (each_flat P f (n + 1) xs (λ i y e. let next : n + suc i ≡ n + 1 + i = omega arith in subst (λ m. AllByRecursion P (f (m, y))) next (h (suc i) y e)))

each_kept : {A B : Type 0} (P : B → Type 0) (f : ℕ × A → B) (keep : ℕ × A → Bool) (n : ℕ) (xs : List A) → ((i : ℕ) (x : A) → slice_get xs i ≡ Some x → keep (n + i, x) ≡ true → P (f (n + i, x))) → AllByRecursion P (map f (filter keep (enumerate_from n xs)))
each_kept P f keep n [] h = tt
each_kept P f keep n (x ∷ xs) h =
    let rest = each_kept P f keep (n + 1) xs (λ i y e. let next : n + suc i ≡ n + 1 + i = omega arith in subst (λ m. keep (m, y) ≡ true → P (f (m, y))) next (h (suc i) y e)) in
    let here : n + 0 ≡ n = omega arith in
    elim (cases_Bool (keep (n, x))) [
      | inl e ↦ subst (λ l. AllByRecursion P (map f l)) (sym (cond-true (keep (n, x)) ((n, x) ∷ filter keep (enumerate_from (n + 1) xs)) (filter keep (enumerate_from (n + 1) xs)) e))
          (subst (λ m. keep (m, x) ≡ true → P (f (m, x))) here (h 0 x refl) e, rest)
      | inr e ↦ subst (λ l. AllByRecursion P (map f l)) (sym (cond-false (keep (n, x)) ((n, x) ∷ filter keep (enumerate_from (n + 1) xs)) (filter keep (enumerate_from (n + 1) xs)) e)) rest
    ]

from_zero : (n : ℕ) → 0 + n ≡ n
from_zero n = omega arith

keys_are : (d : Def) (nodes : List TermNode) → AllByRecursion (IsKeyOf d nodes) (keys d nodes)
keys_are d nodes =
    each_flat (IsKeyOf d nodes) _ 0 nodes
    (λ p node at. each_kept (IsKeyOf d nodes) (λ (h : ℕ × Hook). (record { 0 = h.0 }, 0 + p)) (λ h. takes_node d node h.1) 0 d.hooks
    (λ i hook declared takes. record {
      node = node;
      node_is = subst (λ m. slice_get nodes m ≡ Some node) (sym (from_zero p)) at;
      hook = hook;
      hook_is = subst (λ m. slice_get d.hooks m ≡ Some hook) (sym (from_zero i)) declared;
      takes = takes;
    }))

-- what all keys have, a point with a hook of its sort has
flat_at : {A B : Type 0} (P : B → Type 0) (f : ℕ × A → List B) (n : ℕ) (xs : List A) (i : ℕ) (x : A) → AllByRecursion P (flat_map f (enumerate_from n xs)) → slice_get xs i ≡ Some x → AllByRecursion P (f (n + i, x))
flat_at P f n [] i x h e = absurd cc
flat_at P f n (y ∷ xs) zero x h e =
    let same : y ≡ x = same_Some y x e in
    let here : n ≡ n + 0 = omega arith in
    subst (λ m. AllByRecursion P (f (m, x))) here (subst (λ z. AllByRecursion P (f (n, z))) same (left (f (n, y)) (flat_map f (enumerate_from (n + 1) xs)) h))
  where
    left : (us vs : List _) → AllByRecursion P (us ++ vs) → AllByRecursion P us
    left [] vs q = tt
    left (u ∷ us) vs q = (q.0, left us vs q.1)
flat_at P f n (y ∷ xs) (suc i) x h e =
    let next : n + 1 + i ≡ n + suc i = omega arith in
    subst (λ m. AllByRecursion P (f (m, x))) next (flat_at P f (n + 1) xs i x (right (f (n, y)) (flat_map f (enumerate_from (n + 1) xs)) h) e)
  where
    right : (us vs : List _) → AllByRecursion P (us ++ vs) → AllByRecursion P vs
    right [] vs q = q
    right (u ∷ us) vs q = right us vs q.1

kept_at : {A B : Type 0} (P : B → Type 0) (f : ℕ × A → B) (keep : ℕ × A → Bool) (n : ℕ) (xs : List A) (i : ℕ) (x : A) → AllByRecursion P (map f (filter keep (enumerate_from n xs))) → slice_get xs i ≡ Some x → keep (n + i, x) ≡ true → P (f (n + i, x))
kept_at P f keep n [] i x h e k = absurd cc
kept_at P f keep n (y ∷ xs) zero x h e k =
    let same : y ≡ x = same_Some y x e in
    let here : n ≡ n + 0 = omega arith in
    let k2 : keep (n, y) ≡ true = subst (λ z. keep (n, z) ≡ true) (sym same) (subst (λ m. keep (m, x) ≡ true) (sym here) k) in
    let h2 : AllByRecursion P (f (n, y) ∷ map f (filter keep (enumerate_from (n + 1) xs))) =
    subst (λ l. AllByRecursion P (map f l)) (cond-true (keep (n, y)) ((n, y) ∷ filter keep (enumerate_from (n + 1) xs)) (filter keep (enumerate_from (n + 1) xs)) k2) h in
    subst (λ m. P (f (m, x))) here (subst (λ z. P (f (n, z))) same h2.0)
kept_at P f keep n (y ∷ xs) (suc i) x h e k =
    let next : n + 1 + i ≡ n + suc i = omega arith in
    subst (λ m. P (f (m, x))) next (kept_at P f keep (n + 1) xs i x (later (keep (n, y)) refl) e (subst (λ m. keep (m, x) ≡ true) (sym next) k))
  where
    later : (b : Bool) → keep (n, y) ≡ b → AllByRecursion P (map f (filter keep (enumerate_from (n + 1) xs)))
    later true q = (subst (λ l. AllByRecursion P (map f l)) (cond-true (keep (n, y)) ((n, y) ∷ filter keep (enumerate_from (n + 1) xs)) (filter keep (enumerate_from (n + 1) xs)) q) h).1
    later false q = subst (λ l. AllByRecursion P (map f l)) (cond-false (keep (n, y)) ((n, y) ∷ filter keep (enumerate_from (n + 1) xs)) (filter keep (enumerate_from (n + 1) xs)) q) h

key_at : (d : Def) (nodes : List TermNode) (P : HookId × ℕ → Type 0) (id : HookId) (p : ℕ) (node : TermNode) (hook : Hook) → AllByRecursion P (keys d nodes) → slice_get nodes p ≡ Some node → slice_get d.hooks id.0 ≡ Some hook → takes_node d node hook ≡ true → P (id, p)
key_at d nodes P id p node hook all at declared takes =
    let of_point = flat_at P _ 0 nodes p node all at in
    let of_hook = kept_at P (λ (h : ℕ × Hook). (record { 0 = h.0 }, 0 + p)) (λ h. takes_node d node h.1) 0 d.hooks id.0 hook of_point declared takes in
    subst (λ m. P (record { 0 = m }, p)) (from_zero id.0) (subst (λ m. P (record { 0 = 0 + id.0 }, m)) (from_zero p) of_hook)

-- The key that lines are of.

then_some : {A B : Type 0} (f : A → Option B) (o : Option A) (y : B) → option_and_then f o ≡ Some y → (x : A) × (o ≡ Some x) × (f x ≡ Some y)
then_some f None y e = absurd cc
then_some f (Some x) y e = (x, refl, e)

map_some : {A B : Type 0} (f : A → B) (o : Option A) (y : B) → option_map f o ≡ Some y → (x : A) × (o ≡ Some x) × (f x ≡ y)
map_some f None y e = absurd cc
map_some f (Some x) y e = (x, refl, same_Some (f x) y e)

-- lines are those of a key, by its rule
record Made (d : Def) (nodes : List TermNode) (k : HookId × ℕ) (key : KeyLines) : Type 0 where
  rule : Rule
  hook : Hook
  con : Con
  of : RuleOfKey d nodes k.0 k.1 rule hook con
  is : key ≡ key_by_rule d k.0 k.1 of.node rule hook con

children_many : (d : Def) (nodes : List TermNode) (names : ℕ) (cs : List _) (args : List _) → ChildrenFit d nodes names cs args → length cs ≡ length args
children_many d nodes names [] [] h = refl
children_many d nodes names [] (a ∷ args) h = absurd h
children_many d nodes names (c ∷ cs) [] h = absurd h
children_many d nodes names (c ∷ cs) (a ∷ args) h = ap (λ n. suc n) (children_many d nodes names cs args h.1)

made : (d : Def) (program : Program) → DefinitionIsSorted d → IsProgramOf d program → (k : HookId × ℕ) (key : KeyLines) → IsKeyOf d program.nodes k → lines_of_key d program.nodes k ≡ Some key → Made d program.nodes k key
made d program sorted is_program k key of e =
    let n = then_some _ (slice_get program.nodes k.1) key e in
    let r = then_some _ (rule_of d k.0 n.0.con) key n.2 in
    let h = then_some _ (slice_get d.hooks k.0.0) key r.2 in
    let c = map_some (key_by_rule d k.0 k.1 n.0 r.0 h.0) (slice_get d.cons n.0.con.0) key h.2 in
    let takes : Takes d program.nodes k.0 k.1 = λ node hook at declared.
    subst (λ z. takes_node d z hook ≡ true) (same_Some of.node node (sym of.node_is ∙ at)) (subst (λ z. takes_node d of.node z ≡ true) (same_Some of.hook hook (sym of.hook_is ∙ declared)) of.takes) in
    let p = key_parts d program.nodes k.0 k.1 n.0.con (ap (option_map (λ (z : TermNode). z.con)) n.1) (slice_get_within d.hooks k.0.0 of.hook of.hook_is) takes in
    let rule = rule_of_parts d program.nodes k.0 k.1 n.0.con r.0 h.0 c.0 sorted p r.1 h.1 c.1 (children_many d program.nodes program.names _ _ (entries_fit d program k.1 n.0 is_program n.1)) in
    record {
      rule = r.0;
      hook = h.0;
      con = c.0;
      of = rule;
      is = sym c.2 ∙ ap (λ z. key_by_rule d k.0 k.1 z r.0 h.0 c.0) (same_Some n.0 rule.node (sym n.1 ∙ rule.node_is));
    }

-- The constraints of a program.

zip_from_maps : {A B : Type 0} (f : A → Option B) (xs : List A) (ys : List B) → map Some ys ≡ map f xs → AllZip (λ x y. f x ≡ Some y) xs ys
zip_from_maps f [] [] e = tt
zip_from_maps f [] (y ∷ ys) e = absurd cc
zip_from_maps f (x ∷ xs) [] e = absurd cc
zip_from_maps f (x ∷ xs) (y ∷ ys) e = let first : Some y ≡ f x = cc in let rest : map Some ys ≡ map f xs = cc in (sym first, zip_from_maps f xs ys rest)

same_eqb : (n : ℕ) → eqb n n ≡ true
same_eqb n = eq-eqb n n refl

-- the node of a point whose sort is known
node_of : (d : Def) (nodes : List TermNode) (p : ℕ) (sort : SortId) → IsSortOfPoint d nodes p sort → (node : TermNode) × (slice_get nodes p ≡ Some node)
node_of d nodes p sort h = let n = map_some (sort_of_node d) (slice_get nodes p) (Some sort) h in (n.0, n.1)

module _ (d : Def) (program : Program) (sorted : DefinitionIsSorted d) (is_program : IsProgramOf d program) (list : List KeyLines) (are : map Some list ≡ map (lines_of_key d program.nodes) (keys d program.nodes)) where
  all_made : AllZip (Made d program.nodes) (keys d program.nodes) list
  all_made = go (keys d program.nodes) list (keys_are d program.nodes) (zip_from_maps (lines_of_key d program.nodes) (keys d program.nodes) list are)
    where
      go : (ks : List (HookId × ℕ)) (ls : List KeyLines) → AllByRecursion (IsKeyOf d program.nodes) ks → AllZip (λ k key. lines_of_key d program.nodes k ≡ Some key) ks ls → AllZip (Made d program.nodes) ks ls
      go [] [] a z = tt
      go [] (l ∷ ls) a z = absurd z
      go (k ∷ ks) [] a z = absurd z
      go (k ∷ ks) (l ∷ ls) a z = (made d program sorted is_program k l a.0 z.0, go ks ls a.1 z.1)

  -- where none of the lists is of a key, the key isn't there
  none_is : (id : HookId) (p : ℕ) (ks : List (HookId × ℕ)) (ls : List KeyLines) → AllZip (Made d program.nodes) ks ls → find (is_lines_of id p) ls ≡ None → AllByRecursion (λ k. (eqb k.0.0 id.0 && eqb k.1 p) ≡ false) ks
  none_is id p [] ls z e = tt
  none_is id p (k ∷ ks) [] z e = absurd z
  none_is id p (k ∷ ks) (l ∷ ls) z e = by (is_lines_of id p l) refl (none_is id p ks ls z.1)
    where
      by : (b : Bool) → is_lines_of id p l ≡ b → (find (is_lines_of id p) ls ≡ None → AllByRecursion (λ k. (eqb k.0.0 id.0 && eqb k.1 p) ≡ false) ks) → AllByRecursion (λ k. (eqb k.0.0 id.0 && eqb k.1 p) ≡ false) (k ∷ ks)
      by true t later =
          let here : cond (is_lines_of id p l) (Some l) (find (is_lines_of id p) ls) ≡ None = e in
          let there : Some l ≡ None = rw t at here in
          absurd cc
      by false t later =
          let here : cond (is_lines_of id p l) (Some l) (find (is_lines_of id p) ls) ≡ None = e in
          (subst (λ (key : KeyLines). is_lines_of id p key ≡ false) z.0.is t, later (rw t at here))

  -- the lists that are found are of the key
  found_is : (id : HookId) (p : ℕ) (h : Hook) (ks : List (HookId × ℕ)) (ls : List KeyLines) (called : KeyLines) → AllZip (Made d program.nodes) ks ls → slice_get d.hooks id.0 ≡ Some h → find (is_lines_of id p) ls ≡ Some called →
      (slice_get called.positions 0 ≡ Some h.inputs) × (called.outputs ≡ h.outputs)
  found_is id p h [] [] called z declared e = absurd cc
  found_is id p h [] (l ∷ ls) called z declared e = absurd z
  found_is id p h (k ∷ ks) [] called z declared e = absurd z
  found_is id p h (k ∷ ks) (l ∷ ls) called z declared e = by (is_lines_of id p l) refl (found_is id p h ks ls called z.1 declared)
    where
      by : (b : Bool) → is_lines_of id p l ≡ b → (find (is_lines_of id p) ls ≡ Some called → (slice_get called.positions 0 ≡ Some h.inputs) × (called.outputs ≡ h.outputs)) → (slice_get called.positions 0 ≡ Some h.inputs) × (called.outputs ≡ h.outputs)
      by true t later =
          let here : cond (is_lines_of id p l) (Some l) (find (is_lines_of id p) ls) ≡ Some called = e in
          let same : l ≡ called = same_Some l called (rw t at here) in
          let m = z.0 in
          let of_key : is_lines_of id p (key_by_rule d k.0 k.1 m.of.node m.rule m.hook m.con) ≡ true = subst (λ (key : KeyLines). is_lines_of id p key ≡ true) m.is t in
          let ids = and_parts (eqb k.0.0 id.0) (eqb k.1 p) of_key in
          let same_hook : m.hook ≡ h = same_Some m.hook h (sym m.of.hook_is ∙ ap (slice_get d.hooks) (eqb-true k.0.0 id.0 ids.0) ∙ declared) in
          let is : called ≡ key_by_rule d k.0 k.1 m.of.node m.rule m.hook m.con = sym same ∙ m.is in
          (ap (λ (key : KeyLines). slice_get key.positions 0) is ∙ ap (λ (hook : Hook). Some hook.inputs) same_hook, ap (λ (key : KeyLines). key.outputs) is ∙ ap (λ (hook : Hook). hook.outputs) same_hook)
      by false t later =
          let here : cond (is_lines_of id p l) (Some l) (find (is_lines_of id p) ls) ≡ Some called = e in
          later (rw t at here)

  called_there : (id : HookId) (p : ℕ) (h : Hook) → slice_get d.hooks id.0 ≡ Some h → IsSortOfPoint d program.nodes p h.sort → IsCalled list id p h.inputs h.outputs
  called_there id p h declared at = by (find (is_lines_of id p) list) refl
    where
      by : (o : Option KeyLines) → find (is_lines_of id p) list ≡ o → IsCalled list id p h.inputs h.outputs
      by None e =
          let node = node_of d program.nodes p h.sort at in
          let takes = takes_is d program.nodes p h.sort at node.0 h node.1 ∙ same_eqb h.sort.0 in
          let not_there = key_at d program.nodes (λ k. (eqb k.0.0 id.0 && eqb k.1 p) ≡ false) id p node.0 h (none_is id p (keys d program.nodes) list all_made e) node.1 declared takes in
          let there : (eqb id.0 id.0 && eqb p p) ≡ true = and_from (eqb id.0 id.0) (eqb p p) (same_eqb id.0) (same_eqb p) in
          absurd (false≢true (sym not_there ∙ there))
      by (Some called) e = let f = found_is id p h (keys d program.nodes) list called all_made declared e in record { called = called; called_is = e; inputs_are = f.0; outputs_are = f.1 }

  few_flows : (id : HookId) (h : Hook) → slice_get d.hooks id.0 ≡ Some h → (length h.inputs ≤ 8) × (length h.outputs ≤ 8)
  few_flows id h e = let f = all_at (HookFits (length d.sorts)) d.hooks id.0 h sorted.well_sorted.fits.hooks_fit e in (omega (arith, f.few_inputs), omega (arith, f.few_outputs))

  -- the lines of a key fit
  lines_fit : (k : HookId × ℕ) (key : KeyLines) → Made d program.nodes k key → LinesFit program.names list key
  lines_fit k key m = subst (LinesFit program.names list) (sym m.is) (by_rule (key_by_rule d k.0 k.1 m.of.node m.rule m.hook m.con) refl)
    where
      by_rule : (made : KeyLines) → made ≡ key_by_rule d k.0 k.1 m.of.node m.rule m.hook m.con → LinesFit program.names list (key_by_rule d k.0 k.1 m.of.node m.rule m.hook m.con)
      by_rule made e =
          let size = length m.rule.bones in
          let key = key_by_rule d k.0 k.1 m.of.node m.rule m.hook m.con in
          let own : IsSortOfPoint d program.nodes k.1 m.con.sort = ap (option_map (sort_of_node d)) m.of.node_is ∙ ap (λ o. Some (option_map (λ (c : Con). c.sort) o)) m.of.con_is in
          let arguments : arguments_of d m.of.node.con ≡ m.con.args = ap (λ (o : Option Con). option_map_or (λ (c : Con). c.args) o []) m.of.con_is in
          let entries : children_of_point program.nodes k.1 ≡ m.of.node.children = rw m.of.node_is refl in
          let children : ChildrenFit d program.nodes program.names m.of.node.children m.con.args =
          subst (λ l. ChildrenFit d program.nodes program.names m.of.node.children l) arguments
          (subst (λ l. ChildrenFit d program.nodes program.names l (arguments_of d m.of.node.con)) entries (entries_fit d program k.1 m.of.node is_program m.of.node_is)) in
          let start = start_fits d program.nodes program.names key.positions m.rule m.hook m.con m.of.node children refl m.of.inputs_counted in
          let stands : Stands key.positions 1 (positions_of d size (header_sorts m.rule m.hook m.con) m.rule.bones) = record { rest = []; is = sym (append-nil (positions_of d size (header_sorts m.rule m.hook m.con) m.rule.bones)) } in
          let short : RuleIsShort m.rule = all_at RuleIsShort d.rules m.of.place m.rule sorted.well_sorted.fits.rules_short m.of.stands in
          let lists_short = recursion_from_All ListsAreShort m.rule.bones short.lists_short in
          let whole = fine d program.nodes program.names list key m.con.sort k.1 (length d.hooks) (length m.rule.vars) own called_there (λ id h declared. (few_flows id h declared).0)
          size 1 0 (header_sorts m.rule m.hook m.con) m.of.after (first_env m.rule m.of.node) m.rule.bones 8 (omega arith) m.of.bones_fit lists_short m.of.bones_sorted start stands (slice_get_within key.positions 0 m.hook.inputs refl) in
          each_append (LineFits program.names list key) (lines_of k.1 size 1 0 (first_env m.rule m.of.node) m.rule.bones) _ whole.lines (
            record {
              from_there = whole.last_there;
              part_fits = values_fit d program.nodes program.names list key m.con.sort k.1 (length d.hooks) (length m.rule.vars) own called_there (λ id h declared. (few_flows id h declared).0)
                  m.of.after (env_after size 1 (first_env m.rule m.of.node) m.rule.bones) m.rule.outputs m.hook.outputs whole.ends_fit (few_flows k.0 m.hook m.of.hook_is).1 m.of.outputs_sorted;
            },
            tt,
          )

  all_lines_fit : AllByRecursion (LinesFit program.names list) list
  all_lines_fit = go (keys d program.nodes) list all_made
    where
      go : (ks : List (HookId × ℕ)) (ls : List KeyLines) → AllZip (Made d program.nodes) ks ls → AllByRecursion (LinesFit program.names list) ls
      go [] [] z = tt
      go [] (l ∷ ls) z = absurd z
      go (k ∷ ks) [] z = absurd z
      go (k ∷ ks) (l ∷ ls) z = (lines_fit k l z.0, go ks ls z.1)

  -- the point of a cover line has its hook's sort
  sort_at_point : (sort : SortId) (p : ℕ) → has_sort_at program sort p ≡ true → IsSortOfPoint d program.nodes p sort
  sort_at_point sort p h = go (and_parts (nat_lt p (length program.nodes)) (option_map_or (λ (s : SortId). eqb s.0 sort.0) (slice_get program.sorts p) false) h).1
    where
      found : (o : Option SortId) → option_map_or (λ (s : SortId). eqb s.0 sort.0) o false ≡ true → o ≡ Some sort
      found None e = absurd cc
      found (Some s) e = λ i. Some (record { 0 = eqb-true s.0 sort.0 e i })

      moved : (ss : List SortId) (ns : List TermNode) (q : ℕ) → map Some ss ≡ map (sort_of_node d) ns → slice_get ss q ≡ Some sort → option_map (sort_of_node d) (slice_get ns q) ≡ Some (Some sort)
      moved [] ns q e k = absurd cc
      moved (s ∷ ss) [] q e k = absurd cc
      moved (s ∷ ss) (n ∷ ns) zero e k = let first : Some s ≡ sort_of_node d n = cc in ap Some (sym first ∙ k)
      moved (s ∷ ss) (n ∷ ns) (suc q) e k = let rest : map Some ss ≡ map (sort_of_node d) ns = cc in moved ss ns q rest k

      go : option_map_or (λ (s : SortId). eqb s.0 sort.0) (slice_get program.sorts p) false ≡ true → IsSortOfPoint d program.nodes p sort
      go e = moved program.sorts program.nodes p is_program.sorts_are (found (slice_get program.sorts p) e)

  cover_fits : {D : Type 0} (cover : Cover D) → CoverFits d program program.names cover → CoverLineFits program.names list cover
  cover_fits cover f = record { inputs = f.hook.inputs; outputs = f.hook.outputs; called = called_there cover.hook cover.point f.hook f.hook_is (sort_at_point f.hook.sort cover.point f.point_fits); ins_fit = f.ins_fit }

  covers_fit : {D : Type 0} (covers : List (Cover D)) → AllByRecursion (CoverFits d program program.names) covers → CoverLinesFit program.names list covers
  covers_fit [] h = tt
  covers_fit (cover ∷ covers) h = (cover_fits cover h.0, covers_fit covers h.1)

pub constraints_fit : {D : Type 0} (d : Def) (program : Program) (covers : List (Cover D)) (list : ConstraintList D) → DefinitionIsSorted d → IsProgramOf d program → AreConstraints d program covers list →
    All (CoverFits d program program.names) covers → ConstraintsFit list
constraints_fit d program covers list sorted is_program are fit =
    record {
      covers_fit = subst (λ cs. CoverLinesFit list.names list.keys cs) (sym are.covers_are)
          (subst (λ n. CoverLinesFit n list.keys covers) (sym are.names_are) (covers_fit d program sorted is_program list.keys are.keys_are covers (recursion_from_All (CoverFits d program program.names) covers fit)));
      lines_fit = subst (λ n. AllByRecursion (LinesFit n list.keys) list.keys) (sym are.names_are) (all_lines_fit d program sorted is_program list.keys are.keys_are);
    }
