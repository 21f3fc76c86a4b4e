-- Words, hooks and points: what a symbol is told to be, and the other way round.
use Rattle.std.proofs.Common.{◌≡◌, ℕ, ℤ, pos, negsuc, ◌+◌, Bool, true, false, cond, List, [], ◌∷◌, drop, refl, sym, ap, subst, ◌∙◌, Option, Some, None, Result, Ok, Err}
use Rattle.std.specs.Prelude.{slice_get, ◌==◌}
use Rattle.std.specs.Option.{option_map, option_map_or}
use Rattle.std.proofs.lemmas.Bool.{eqb-true, eq-eqb}
use Rattle.std.proofs.lemmas.Bool.Decides.{Decides-int_eq}
use Rattle.std.proofs.lemmas.Option.{same_Some}
use Rattle.std.proofs.lemmas.Slice.Eq.{bytes_eq-Decides}
use Rattle.sk_base.specs.Answer.{◌>>=◌}
use Rattle.sk_lex.specs.Symbols.{Symbol, Named, Plain, number_of}
use Rattle.sk_lex.specs.declared.token.TokenKind.TheVariants as token
use Rattle.sk_def.specs.Named.{hook_named}
use Rattle.sk_def.specs.declared.ids.HookId.{HookId}
use Rattle.sk_def.specs.declared.ids.SortId.{SortId}
use Rattle.sk_def.specs.declared.def.Hook.{Hook}
use Rattle.sk_def.specs.declared.def.Def.{Def}
use Rattle.sk_term.specs.Terms.{sort_of_node}
use Rattle.sk_term.specs.declared.node.TermNode.{TermNode}
use Rattle.sk_bench.specs.declared.job.JobError.{JobError}
use Rattle.sk_bench.specs.declared.job.JobError.TheVariants.{WrongPoint}
use Rattle.sk_bench.specs.Jobs.{Met, placed, at_front, mark, is_word, is_one, named_hook, hook_of, inputs_of, has_sort_of, is_point, point_of}
use Rattle.sk_bench.specs.Jobs as job
use Rattle.sk_spell.specs.Calls.{IsDeclared, IsNodeOf, CallAt}
use Rattle.sk_spell.proofs.CallsFound.{found_is_called, hook_is_found}
use Rattle.sk_spell.proofs.JobReaders.{bound_so}

-- What is chosen by a test.

pub true_so : {A E : Type 0} (b : Bool) (x y : A) (e : E) → cond {A = Result A E} b (Ok x) (Err e) ≡ Ok y → (b ≡ true) × (x ≡ y)
true_so true x y e h = (refl, cc h)
true_so false x y e h = absurd (cc h)

pub mark_so : (b : Bool) → mark b ≡ Ok tt → b ≡ true
mark_so true h = refl
mark_so false h = absurd (cc h)

pub word_so : (word : List ℕ) (symbol : Symbol) → is_word word symbol ≡ true → symbol ≡ Named word
word_so word (Named bytes) h = ap Named ((bytes_eq-Decides bytes word).0 h)
word_so word (Plain kind) h = absurd (cc)

pub word_is : (word : List ℕ) → is_word word (Named word) ≡ true
word_is word = (bytes_eq-Decides word word).1 refl

pub one_so : (symbol : Symbol) → is_one (number_of symbol) ≡ true → symbol ≡ Plain (token.Number (pos 1))
unfolding is_one
one_so (Plain (token.Number value)) h = ap (λ (v : ℤ). Plain (token.Number v)) ((Decides-int_eq value (pos 1)).0 h)
one_so symbol h = absurd (cc)

-- The symbol at a place.

pub placed_so : {A : Type 0} (at : ℕ) (r : Result A JobError) (x : A) → placed at r ≡ Ok x → r ≡ Ok x
placed_so at (Ok y) x h = let same : y ≡ x = cc h in ap (λ v. Ok v) same
placed_so at (Err e) x h = absurd (cc h)

pub front_so : {A : Type 0} (at : ℕ) (reads : Symbol → Result A JobError) (symbols : List Symbol) (x : A) → at_front at reads symbols ≡ Ok x →
    (symbol : Symbol) × (left : List Symbol) × (symbols ≡ symbol ∷ left) × (reads symbol ≡ Ok x)
front_so at reads [] x h = absurd (cc h)
front_so at reads (symbol ∷ left) x h = (symbol, left, refl, placed_so at (reads symbol) x h)

-- Hooks.

named_so : (found : Option HookId) (hook : HookId) → named_hook found ≡ Ok hook → found ≡ Some hook
named_so (Some x) hook h = let same : x ≡ hook = cc h in ap (λ v. Some v) same
named_so None hook h = absurd (cc h)

hook_so : (d : Def) (symbol : Symbol) (hook : HookId) → hook_of d symbol ≡ Ok hook → (word : List ℕ) × (symbol ≡ Named word) × (hook_named d word ≡ Some hook)
hook_so d (Named word) hook h = (word, refl, named_so (hook_named d word) hook h)
hook_so d (Plain kind) hook h = absurd (cc h)

hook_is : (d : Def) (word : List ℕ) (hook : HookId) → hook_named d word ≡ Some hook → hook_of d (Named word) ≡ Ok hook
hook_is d word hook h = ap named_hook h

-- Points.

module _ (d : Def) (nodes : List TermNode) (hook : HookId) where
  -- a point of the hook's sort
  pub record Fits (point : ℕ) : Type 0 where
    pub entry : Hook
    pub node : TermNode
    pub entry_is : slice_get d.hooks hook.0 ≡ Some entry
    pub node_is : slice_get nodes point ≡ Some node
    pub sort_is : sort_of_node d node ≡ Some entry.sort

  sorts_same : (a b : SortId) → (a.0 == b.0) ≡ true → a ≡ b
  sorts_same a b e = let h : a.0 ≡ b.0 = eqb-true a.0 b.0 e in λ i. record { 0 = h i }

  sort_so : (sort : SortId) (found : Option Hook) → option_map_or (λ (h : Hook). sort.0 == h.sort.0) found false ≡ true → (entry : Hook) × (found ≡ Some entry) × (sort ≡ entry.sort)
  sort_so sort (Some entry) h = (entry, refl, sorts_same sort entry.sort h)
  sort_so sort None h = absurd (cc)

  node_so : (point : ℕ) (found : Option TermNode) (sort : Option (Option SortId)) → slice_get nodes point ≡ found → option_map (sort_of_node d) found ≡ sort → has_sort_of d hook sort ≡ true → Fits point
  node_so point (Some node) (Some (Some sort)) f s h =
      let e = sort_so sort (slice_get d.hooks hook.0) h in
      let own : sort_of_node d node ≡ Some sort = cc s in
      record { entry = e.0; node = node; entry_is = e.1; node_is = f; sort_is = own ∙ ap (λ (v : SortId). Some v) e.2 }
  node_so point (Some node) (Some None) f s h = absurd (cc)
  node_so point (Some node) None f s h = absurd (cc)
  node_so point None (Some sort) f s h = absurd (cc s)
  node_so point None None f s h = absurd (cc)

  fits_so : (point : ℕ) → is_point d nodes hook point ≡ true → Fits point
  fits_so point h = node_so point (slice_get nodes point) (option_map (sort_of_node d) (slice_get nodes point)) refl refl h

  fits_is : (point : ℕ) → Fits point → is_point d nodes hook point ≡ true
  fits_is point f =
      ap (λ (o : Option TermNode). has_sort_of d hook (option_map (sort_of_node d) o)) f.node_is ∙ ap (λ (o : Option SortId). has_sort_of d hook (Some o)) f.sort_is
      ∙ ap (λ (o : Option Hook). option_map_or (λ (h : Hook). f.entry.sort.0 == h.sort.0) o false) f.entry_is ∙ eq-eqb f.entry.sort.0 f.entry.sort.0 refl

  pub inputs_are : (declared : Hook) → IsDeclared d hook declared → inputs_of d hook ≡ declared.inputs
  inputs_are declared h = ap (λ (o : Option Hook). option_map_or (λ (h : Hook). h.inputs) o []) h.is

  -- a node that is a point of a declared hook's sort, both ways
  fits_node : (declared : Hook) (point : ℕ) → IsDeclared d hook declared → Fits point → IsNodeOf d nodes declared.sort point
  fits_node declared point h f =
      let same : f.entry ≡ declared = same_Some f.entry declared (sym f.entry_is ∙ h.is) in
      record { node = f.node; is = f.node_is; sort_is = f.sort_is ∙ ap (λ (entry : Hook). Some entry.sort) same }

  node_fits : (declared : Hook) (point : ℕ) → IsDeclared d hook declared → IsNodeOf d nodes declared.sort point → Fits point
  node_fits declared point h n = record { entry = declared; node = n.node; entry_is = h.is; node_is = n.is; sort_is = n.sort_is }

  point_so : (symbol : Symbol) (point : ℕ) → point_of d nodes hook (number_of symbol) ≡ Ok point → (symbol ≡ Plain (token.Number (pos point))) × Fits point
  unfolding point_of job.numbered_point
  point_so (Plain (token.Number (pos n))) point h =
      let t = true_so (is_point d nodes hook n) n point WrongPoint h in
      (ap (λ (m : ℕ). Plain (token.Number (pos m))) t.1, subst Fits t.1 (fits_so n t.0))
  point_so (Plain (token.Number (negsuc n))) point h = absurd (cc h)
  point_so symbol point h = absurd (cc h)

  point_is : (point : ℕ) → Fits point → point_of d nodes hook (number_of (Plain (token.Number (pos point)))) ≡ Ok point
  unfolding point_of job.numbered_point
  point_is point f = ap (λ b. cond {A = Result ℕ JobError} b (Ok point) (Err WrongPoint)) (fits_is point f)

-- A hook and a point.

module _ (d : Def) (nodes : List TermNode) where
  -- the symbols begin with a call, and those after it
  pub record Heads (symbols : List Symbol) (hook : HookId) (point : ℕ) : Type 0 where
    pub declared : Hook
    pub inside : List Symbol
    pub call : CallAt d (IsNodeOf d nodes) hook declared point symbols inside

  abbrev pub headed : {B : Type 0} → ℕ → (HookId → ℕ → List Symbol → Met B) → List Symbol → Met B
  headed at inner symbols =
      at_front at (hook_of d) symbols >>= λ hook.
      (at_front (at + 1) (λ symbol. point_of d nodes hook (number_of symbol)) (drop 1 symbols) >>= λ point. inner hook point (drop 2 symbols))

  pub heads_so : {B : Type 0} (at : ℕ) (inner : HookId → ℕ → List Symbol → Met B) (symbols : List Symbol) (x : B) → headed at inner symbols ≡ Ok x →
      (hook : HookId) × (point : ℕ) × (h : Heads symbols hook point) × (inner hook point h.inside ≡ Ok x)
  heads_so at inner [] x h = absurd (cc h)
  heads_so at inner (one ∷ []) x h =
      let b = bound_so (at_front at (hook_of d) (one ∷ [])) _ x h in
      absurd (cc b.2)
  heads_so at inner (one ∷ two ∷ inside) x h =
      let b = bound_so (at_front at (hook_of d) (one ∷ two ∷ inside)) (λ hook. (at_front (at + 1) (λ symbol. point_of d nodes hook (number_of symbol)) (two ∷ inside) >>= λ point. inner hook point inside)) x h in
      let c = bound_so (at_front (at + 1) (λ symbol. point_of d nodes b.0 (number_of symbol)) (two ∷ inside)) (λ point. inner b.0 point inside) x b.2 in
      let w = hook_so d one b.0 (placed_so at (hook_of d one) b.0 b.1) in
      let p = point_so d nodes b.0 two c.0 (placed_so (at + 1) (point_of d nodes b.0 (number_of two)) c.0 c.1) in
      let k = found_is_called d w.0 b.0 w.2 in
      let same : one ∷ two ∷ inside ≡ Named k.declared.name ∷ Plain (token.Number (pos c.0)) ∷ inside =
      ap (λ s. s ∷ two ∷ inside) (w.1 ∙ ap Named (sym k.named)) ∙ ap (λ s. Named k.declared.name ∷ s ∷ inside) p.0 in
      let call : CallAt d (IsNodeOf d nodes) b.0 k.declared c.0 (one ∷ two ∷ inside) inside =
      record { called = k.called; pointed = fits_node d nodes b.0 k.declared c.0 k.called p.1; symbols_are = same } in
      (b.0, c.0, record { declared = k.declared; inside = inside; call = call }, c.2)

  pub heads_are : {B : Type 0} (at : ℕ) (inner : HookId → ℕ → List Symbol → Met B) (symbols : List Symbol) (hook : HookId) (point : ℕ) (h : Heads symbols hook point) → headed at inner symbols ≡ inner hook point h.inside
  heads_are at inner symbols hook point h =
      ap (headed at inner) h.call.symbols_are
      ∙ ap (λ r. placed at r >>= λ hook. (placed (at + 1) (point_of d nodes hook (number_of (Plain (token.Number (pos point))))) >>= λ point. inner hook point h.inside)) (hook_is d h.declared.name hook (hook_is_found d hook h.declared h.call.called))
      ∙ ap (λ r. placed (at + 1) r >>= λ point. inner hook point h.inside) (point_is d nodes hook point (node_fits d nodes hook h.declared point h.call.called h.call.pointed))
