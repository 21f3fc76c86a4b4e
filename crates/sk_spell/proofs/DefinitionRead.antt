-- What is spelled as a definition is read as this definition.
use Rattle.std.proofs.Common.{◌≡◌, ℕ, zero, suc, ◌<◌, false, List, [], ◌∷◌, ◌++◌, length, map, take, refl, sym, ap, subst, ◌∙◌, arith, append_assoc, length-append, Some, None}
use Rattle.std.specs.Prelude.{All}
use Rattle.std.proofs.lemmas.List.{append-nil, map-append}
use Rattle.std.proofs.lemmas.List.Elements.{All-take}
use Rattle.std.proofs.Math.Seq.{take-append_seam}
use Rattle.sk_base.specs.Names.{place_of_name}
use Rattle.sk_lex.specs.Run.{IsFrontOf}
use Rattle.sk_lex.specs.Symbols.{Symbol, symbols}
use Rattle.sk_def.specs.Filters.{filter_named}
use Rattle.sk_def.specs.Named.{place_of_con, place_of_hook}
use Rattle.sk_def.specs.declared.def.Con.{Con}
use Rattle.sk_def.specs.declared.def.Hook.{Hook}
use Rattle.sk_def.specs.declared.def.Def.{Def}
use Rattle.sk_deftext.specs.Canonical.{name_at}
use Rattle.sk_deftext.specs.Spelling.{no_declaration, with_sort, with_con, with_hook, with_rule}
use Rattle.sk_deftext.specs.Words.{is_reserved}
use Rattle.sk_deftext.specs.Written.{IsName, AreNames, RuleHasNames, IsInOrder, HasText, Says}
use Rattle.sk_deftext.proofs.Found.{con_place, hook_place, after_front, is_old}
use Rattle.sk_deftext.proofs.Items.{Idle, ReadsAs, member, names_split, sort_get, con_get, hook_get, rule_get, items_read, text_read}
use Rattle.sk_deftext.proofs.Steps.{Answer}
use Rattle.sk_spell.specs.DefinitionSpelling.{ItemsLead, DefinitionIs, no_item, sort_item, con_item, hook_item, rule_item}
use Rattle.sk_spell.specs.Texts.{TokensAre}

-- each of a definition's lists goes on from what is declared
pub record LeadsTo (now d : Def) : Type 0 where
  pub sorts : IsFrontOf now.sorts d.sorts
  pub cons : IsFrontOf now.cons d.cons
  pub hooks : IsFrontOf now.hooks d.hooks
  pub rules : IsFrontOf now.rules d.rules

front_itself : {A : Type 0} (xs : List A) → IsFrontOf xs xs
front_itself xs = record { more = []; is = sym (append-nil xs) }

-- a front without its last entry
front_before : {A : Type 0} (xs all : List A) (x : A) → IsFrontOf (xs ++ x ∷ []) all → IsFrontOf xs all
front_before xs all x f = record { more = x ∷ f.more; is = f.is ∙ append_assoc xs (x ∷ []) f.more }

-- items lead on from what is declared before them
leads : (d now : Def) (items : List Symbol) → ItemsLead d now items → LeadsTo now d
leads d now items no_item = record { sorts = front_itself d.sorts; cons = front_itself d.cons; hooks = front_itself d.hooks; rules = front_itself d.rules }
leads d now items (sort_item {left = left} name later) =
    let l = leads d (with_sort now name) left later in
    record { sorts = front_before now.sorts d.sorts name l.sorts; cons = l.cons; hooks = l.hooks; rules = l.rules }
leads d now items (con_item {left = left} con fits later) =
    let l = leads d (with_con now con) left later in
    record { sorts = l.sorts; cons = front_before now.cons d.cons con l.cons; hooks = l.hooks; rules = l.rules }
leads d now items (hook_item {left = left} hook fits later) =
    let l = leads d (with_hook now hook) left later in
    record { sorts = l.sorts; cons = l.cons; hooks = front_before now.hooks d.hooks hook l.hooks; rules = l.rules }
leads d now items (rule_item {left = left} rule fits later) =
    let l = leads d (with_rule now rule) left later in
    record { sorts = l.sorts; cons = l.cons; hooks = l.hooks; rules = front_before now.rules d.rules rule l.rules }

-- a front of names

name_in_front : (front more : List (List ℕ)) (place : ℕ) → place < length front → name_at (front ++ more) place ≡ name_at front place
name_in_front [] more place within = absurd (omega (arith, within))
name_in_front (x ∷ front) more zero within = refl
name_in_front (x ∷ front) more (suc place) within = name_in_front front more place (omega (arith, within))

front_of_all : {A : Type 0} (P : A → Type 0) (front all : List A) → IsFrontOf front all → All P all → All P front
front_of_all {A} P front all f h =
    let Q : List A → Type 0 = All P in
    subst Q (ap (take (length front)) f.is ∙ take-append_seam front f.more) (All-take P (length front) all h)

front_of_names : (front names : List (List ℕ)) → IsFrontOf front names → AreNames names → AreNames front
front_of_names front names f h = record {
  each = front_of_all IsName front names f h.each;
  found = λ place within.
      let inside : place < length names = omega (arith, within, ap length f.is, length-append front f.more) in
      let here : name_at names place ≡ name_at front place = ap (λ ns. name_at ns place) f.is ∙ name_in_front front f.more place within in
      let P : List (List ℕ) → Type 0 = λ ns. place_of_name ns (name_at front place) ≡ Some place in
      let Q : List ℕ → Type 0 = λ name. place_of_name (take (length front) names) name ≡ Some place in
      subst P (ap (take (length front)) f.is ∙ take-append_seam front f.more) (subst Q here (is_old names h (length front) place within inside));
}

front_of_map : {A B : Type 0} (f : A → B) (front all : List A) → IsFrontOf front all → IsFrontOf (map f front) (map f all)
front_of_map f front all h = record { more = map f h.more; is = ap (map f) h.is ∙ map-append f front h.more }

-- Items that lead to a definition which has a text are read, one after the other.
module _ {from : Answer} {total : ℕ} (d : Def) (h : HasText d) where
  items_get : (now : Def) (items : List Symbol) → ItemsLead d now items → Idle from total now items → Idle from total d []
  items_get now items no_item i = i
  items_get now items (sort_item {left = left} name later) i =
      let f = (leads d (with_sort now name) left later).sorts in
      let e : d.sorts ≡ now.sorts ++ name ∷ f.more = f.is ∙ append_assoc now.sorts (name ∷ []) f.more in
      let few : length now.sorts < 16 = omega (arith, ap length e, length-append now.sorts (name ∷ f.more), h.fits.few_sorts) in
      let plain = (member IsName d.sorts now.sorts f.more name e h.named.sorts.each).plain in
      let own = member (λ (name : List ℕ). is_reserved name ≡ false) d.sorts now.sorts f.more name e h.named.own_sorts in
      items_get (with_sort now name) left later (sort_get now name left few plain own (after_front now.sorts name f.more d.sorts e h.named.sorts) i)
  items_get now items (con_item {left = left} con fits later) i =
      let l = leads d (with_con now con) left later in
      let f = l.cons in
      let name = λ (con : Con). con.name in
      let e : d.cons ≡ now.cons ++ con ∷ f.more = f.is ∙ append_assoc now.cons (con ∷ []) f.more in
      let few : length now.cons < 128 = omega (arith, ap length e, length-append now.cons (con ∷ f.more), h.fits.few_constructors) in
      let split = names_split name d.cons now.cons f.more con e in
      let plain = (member IsName (map name d.cons) (map name now.cons) (map name f.more) con.name split h.named.cons.each).plain in
      let new : place_of_con now.cons con.name ≡ None = con_place now.cons con.name ∙ after_front (map name now.cons) con.name (map name f.more) (map name d.cons) split h.named.cons in
      let sort_names = front_of_names now.sorts d.sorts l.sorts h.named.sorts in
      let own = front_of_all (λ (name : List ℕ). is_reserved name ≡ false) now.sorts d.sorts l.sorts h.named.own_sorts in
      items_get (with_con now con) left later (con_get now sort_names con left own few plain new fits i)
  items_get now items (hook_item {left = left} hook fits later) i =
      let l = leads d (with_hook now hook) left later in
      let f = l.hooks in
      let name = λ (hook : Hook). hook.name in
      let e : d.hooks ≡ now.hooks ++ hook ∷ f.more = f.is ∙ append_assoc now.hooks (hook ∷ []) f.more in
      let few : length now.hooks < 8 = omega (arith, ap length e, length-append now.hooks (hook ∷ f.more), h.fits.few_hooks) in
      let split = names_split name d.hooks now.hooks f.more hook e in
      let plain = (member IsName (map name d.hooks) (map name now.hooks) (map name f.more) hook.name split h.named.hooks.each).plain in
      let own = member (λ (hook : Hook). filter_named hook.name ≡ None) d.hooks now.hooks f.more hook e h.named.own_hooks in
      let new : place_of_hook now.hooks hook.name ≡ None = hook_place now.hooks hook.name ∙ after_front (map name now.hooks) hook.name (map name f.more) (map name d.hooks) split h.named.hooks in
      let sort_names = front_of_names now.sorts d.sorts l.sorts h.named.sorts in
      items_get (with_hook now hook) left later (hook_get now sort_names hook left few plain own new fits i)
  items_get now items (rule_item {left = left} rule fits later) i =
      let l = leads d (with_rule now rule) left later in
      let f = l.rules in
      let e : d.rules ≡ now.rules ++ rule ∷ f.more = f.is ∙ append_assoc now.rules (rule ∷ []) f.more in
      let hook_name = λ (hook : Hook). hook.name in
      let con_name = λ (con : Con). con.name in
      let hook_names = front_of_names (map hook_name now.hooks) (map hook_name d.hooks) (front_of_map hook_name now.hooks d.hooks l.hooks) h.named.hooks in
      let con_names = front_of_names (map con_name now.cons) (map con_name d.cons) (front_of_map con_name now.cons d.cons l.cons) h.named.cons in
      let own = front_of_all (λ (hook : Hook). filter_named hook.name ≡ None) now.hooks d.hooks l.hooks h.named.own_hooks in
      let has = member RuleHasNames d.rules now.rules f.more rule e h.named.rules in
      let order = member IsInOrder d.rules now.rules f.more rule e h.in_order in
      items_get (with_rule now rule) left later (rule_get now hook_names con_names rule left own fits has order i)

-- the symbols of a definition read as this definition
spelled_reads : (d : Def) → HasText d → (ss : List Symbol) → DefinitionIs d ss → ReadsAs ss d
spelled_reads d h ss s =
    let P : List Symbol → Type 0 = λ ss. ReadsAs ss d in
    subst P (sym s.symbols_are) (items_read d s.items (λ from total. items_get {from = from} {total = total} d h no_declaration s.items s.lead))

-- a text whose tokens are those of a definition that has a text says this definition
pub spelled_says : (text : List ℕ) (d : Def) → HasText d → TokensAre (DefinitionIs d) text → Says text d
spelled_says text d h t = text_read text d t.tokens (symbols text t.tokens) t.are refl (spelled_reads d h (symbols text t.tokens) t.holds)
