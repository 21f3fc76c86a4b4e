-- What the canonical text of a definition spells.
use Rattle.std.proofs.Common.{◌≡◌, ℕ, zero, suc, ◌+◌, ◌<◌, ◌≤◌, true, List, [], ◌∷◌, ◌++◌, length, map, take, drop, get_or, refl, sym, ap, subst, ◌∙◌, arith, append_assoc, Some, length-take, length-drop}
use Rattle.std.specs.Prelude.{codes, flat_map, sum, unwrap_or, All, pos}
use Rattle.std.specs.List.{join_by}
use Rattle.std.proofs.lemmas.List.{append-nil, take-take, drop-take, length-map, get_or-map}
use Rattle.std.proofs.lemmas.List.Elements.{All-head, All-tail, All-nil, All-cons, All-weaker, All-get_or}
use Rattle.std.proofs.lemmas.List.Sums.{sum_by-cons}
use Rattle.std.proofs.lemmas.Option.{slice_get-map, unwrap_or-slice_get}
use Rattle.sk_base.specs.declared.flow.FlowSort.{FlowSort}
use Rattle.sk_base.specs.declared.flow.FlowSort.TheVariants.{Int, Bool as Truth, Val, Store}
use Rattle.sk_lex.specs.Spelling.{Anything, is_plain_word}
use Rattle.sk_lex.specs.Symbols.{Symbol, Named, Plain}
use Rattle.sk_lex.specs.declared.token.TokenKind.TheVariants.{Number, LeftParen, RightParen, LeftBrace, RightBrace, Comma, Colon, Arrow}
use Rattle.sk_def.specs.Filters.{filter_word, filter_named}
use Rattle.sk_def.specs.Fits.{ArgumentFits, RuleFits}
use Rattle.sk_def.specs.Layout.{AreBelow, TargetIsBelow, BonesFit, BranchesFit, filter_bone, hook_bone, branch_bone, one_branch, after_branches}
use Rattle.sk_def.specs.declared.filter.Filter.{Filter}
use Rattle.sk_def.specs.declared.filter.Filter.TheVariants as filter
use Rattle.sk_def.specs.declared.sorts.ArgSort.{ArgSort}
use Rattle.sk_def.specs.declared.sorts.ArgSort.TheVariants as arg
use Rattle.sk_def.specs.declared.ids.Var.{Var}
use Rattle.sk_def.specs.declared.ids.HookId.{HookId}
use Rattle.sk_def.specs.declared.ids.ConId.{ConId}
use Rattle.sk_def.specs.declared.bone.Target.{Target}
use Rattle.sk_def.specs.declared.bone.Target.TheVariants.{Own, Sub}
use Rattle.sk_def.specs.declared.bone.Bone.{Bone}
use Rattle.sk_def.specs.declared.bone.Bone.TheVariants.{Apply, Call, Either}
use Rattle.sk_def.specs.declared.def.Con.{Con}
use Rattle.sk_def.specs.declared.def.Hook.{Hook}
use Rattle.sk_def.specs.declared.def.Rule.{Rule}
use Rattle.sk_def.specs.declared.def.Def.{Def}
use Rattle.sk_deftext.specs.Canonical.{name_at, hook_word, con_word, flow_word, arg_word, var_word, target_word, list_text, vars_text, sort_line, con_line, hook_line, indent, branches, filter_line, call_line, or_line, with_line, bones_text, rule_text, definition_text}
use Rattle.sk_deftext.specs.Spelling.{more_symbols, list_symbols, sort_symbols, con_symbols, hook_symbols, bones_symbols, rule_symbols}
use Rattle.sk_deftext.specs.Written.{IsWord, IsName, HasText, RuleHasNames}
use Rattle.sk_deftext.proofs.Spelled.{Writes, EndsWord, both, and_then, nothing_writes, open_writes, close_writes, comma_writes, blank_writes, newline_writes, colon_writes, left_brace_writes, right_brace_writes, arrow_writes, version_writes, word_writes, plain_is_word, key_writes}

-- The symbols of the canonical text.

abbrev pub definition_symbols : Def → List Symbol
definition_symbols d =
    Named (codes "skel") ∷ Plain (Number (pos 1)) ∷ (flat_map sort_symbols d.sorts ++ (flat_map (con_symbols d.sorts) d.cons
    ++ (flat_map (hook_symbols d.sorts) d.hooks ++ flat_map (rule_symbols d) d.rules)))

-- The texts spell them.

same : {follows : List ℕ → Type 0} {s t : List ℕ} {a b : List Symbol} → Writes follows s a → s ≡ t → a ≡ b → Writes follows t b
same {follows} {s} {t} {a} {b} w e f =
    let P : List ℕ → Type 0 = λ text. Writes follows text b in
    let Q : List Symbol → Type 0 = λ ss. Writes follows s ss in
    subst P e (subst Q f w)

-- a blank or the line's end after a text
blank_after : {s : List ℕ} {a : List Symbol} → Writes Anything s a → Writes Anything (s ++ codes " ") a
blank_after {s} {a} w = same (and_then w blank_writes) refl (append-nil a)

newline_after : {s : List ℕ} {a : List Symbol} → Writes Anything s a → Writes Anything (s ++ codes "\n") a
newline_after {s} {a} w = same (and_then w newline_writes) refl (append-nil a)

module _ {A : Type 0} (word : A → List ℕ) where
  abbrev after_comma : A → List ℕ
  after_comma y = codes ", " ++ word y

  more_ends : (xs : List A) (rest : List ℕ) → EndsWord ((flat_map after_comma xs ++ codes ")") ++ rest)
  more_ends [] rest = refl
  more_ends (x ∷ xs) rest = refl

  more_writes : (xs : List A) → All (λ x. IsWord (word x)) xs → Writes Anything (flat_map after_comma xs ++ codes ")") (more_symbols word xs)
  more_writes [] h = close_writes
  more_writes (x ∷ xs) h =
      let one = word_writes (word x) (All-head (λ x. IsWord (word x)) x xs h) in
      let others = more_writes xs (All-tail (λ x. IsWord (word x)) x xs h) in
      let text : codes ", " ++ (word x ++ (flat_map after_comma xs ++ codes ")")) ≡ flat_map after_comma (x ∷ xs) ++ codes ")" =
      ap (λ t. codes ", " ++ t) (sym (append_assoc (word x) (flat_map after_comma xs) (codes ")"))) in
      same (and_then (and_then comma_writes blank_writes) (both one others (λ rest ok. more_ends xs rest))) text refl

  pub list_writes : (xs : List A) → All (λ x. IsWord (word x)) xs → Writes Anything (list_text word xs) (list_symbols word xs)
  list_writes [] h = and_then open_writes close_writes
  list_writes (x ∷ xs) h =
      let one = word_writes (word x) (All-head (λ x. IsWord (word x)) x xs h) in
      let others = more_writes xs (All-tail (λ x. IsWord (word x)) x xs h) in
      let text : codes "(" ++ (word x ++ (flat_map after_comma xs ++ codes ")")) ≡ list_text word (x ∷ xs) =
      ap (λ t. codes "(" ++ t) (sym (append_assoc (word x) (flat_map after_comma xs) (codes ")"))) in
      same (and_then open_writes (both one others (λ rest ok. more_ends xs rest))) text refl

pub lines_write : {A : Type 0} (text : A → List ℕ) (spelled : A → List Symbol) (xs : List A) → All (λ x. Writes Anything (text x) (spelled x)) xs → Writes Anything (flat_map text xs) (flat_map spelled xs)
lines_write text spelled [] h = nothing_writes
lines_write text spelled (x ∷ xs) h =
    and_then (All-head (λ x. Writes Anything (text x) (spelled x)) x xs h) (lines_write text spelled xs (All-tail (λ x. Writes Anything (text x) (spelled x)) x xs h))

-- Words.

pub name_at_word : (names : List (List ℕ)) (place : ℕ) → All IsName names → place < length names → IsName (name_at names place)
name_at_word names place all within =
    let P : List ℕ → Type 0 = IsName in
    subst P (sym (unwrap_or-slice_get names place [])) (All-get_or IsName names place [] within all)

pub flow_is_word : (sort : FlowSort) → IsWord (flow_word sort)
flow_is_word Int = plain_is_word (codes "int") refl
flow_is_word Truth = plain_is_word (codes "bool") refl
flow_is_word Val = plain_is_word (codes "val") refl
flow_is_word Store = plain_is_word (codes "store") refl

arg_is_word : (sorts : List (List ℕ)) → All IsName sorts → (argument : ArgSort) → ArgumentFits (length sorts) argument → IsWord (arg_word sorts argument)
arg_is_word sorts all arg.Number p = plain_is_word (codes "number") refl
arg_is_word sorts all arg.Name p = plain_is_word (codes "name") refl
arg_is_word sorts all (arg.Term sort) p = (name_at_word sorts sort.0 all p).word

var_is_word : (vars : List (List ℕ)) → All IsName vars → (v : Var) → v.0 < length vars → IsWord (var_word vars v)
var_is_word vars all v p = (name_at_word vars v.0 all p).word

target_is_word : (vars : List (List ℕ)) → All IsName vars → (target : Target) → TargetIsBelow (length vars) target → IsWord (target_word vars target)
target_is_word vars all Own p = plain_is_word (codes "self") refl
target_is_word vars all (Sub v) p = var_is_word vars all v p

pub hook_word_is : (hooks : List Hook) (id : HookId) → hook_word hooks id ≡ name_at (map (λ (hook : Hook). hook.name) hooks) id.0
hook_word_is hooks id = ap (λ o. unwrap_or o []) (sym (slice_get-map (λ (hook : Hook). hook.name) hooks id.0))

pub con_word_is : (cons : List Con) (id : ConId) → con_word cons id ≡ name_at (map (λ (con : Con). con.name) cons) id.0
con_word_is cons id = ap (λ o. unwrap_or o []) (sym (slice_get-map (λ (con : Con). con.name) cons id.0))

-- the word of a filter is a word of letters and names it
pub filter_facts : (f : Filter) → (is_plain_word (filter_word f) ≡ true) × (filter_named (filter_word f) ≡ Some f)
filter_facts filter.Lit = (refl, refl)
filter_facts filter.Zero = (refl, refl)
filter_facts filter.One = (refl, refl)
filter_facts filter.Yes = (refl, refl)
filter_facts filter.No = (refl, refl)
filter_facts filter.Add = (refl, refl)
filter_facts filter.Sub = (refl, refl)
filter_facts filter.Mul = (refl, refl)
filter_facts filter.Neg = (refl, refl)
filter_facts filter.Div = (refl, refl)
filter_facts filter.Rem = (refl, refl)
filter_facts filter.Lt = (refl, refl)
filter_facts filter.Le = (refl, refl)
filter_facts filter.Eq = (refl, refl)
filter_facts filter.Not = (refl, refl)
filter_facts filter.And = (refl, refl)
filter_facts filter.Or = (refl, refl)
filter_facts filter.IsTrue = (refl, refl)
filter_facts filter.IsFalse = (refl, refl)
filter_facts filter.IsZero = (refl, refl)
filter_facts filter.NonZero = (refl, refl)
filter_facts filter.IsPos = (refl, refl)
filter_facts filter.IsNeg = (refl, refl)
filter_facts filter.Below = (refl, refl)
filter_facts filter.AtLeast = (refl, refl)
filter_facts filter.Same = (refl, refl)
filter_facts filter.Differ = (refl, refl)
filter_facts filter.OfInt = (refl, refl)
filter_facts filter.OfBool = (refl, refl)
filter_facts filter.AsInt = (refl, refl)
filter_facts filter.AsBool = (refl, refl)
filter_facts filter.Empty = (refl, refl)
filter_facts filter.Read = (refl, refl)
filter_facts filter.Write = (refl, refl)
filter_facts filter.Forget = (refl, refl)
filter_facts filter.Bound = (refl, refl)
filter_facts filter.KeepInt = (refl, refl)
filter_facts filter.KeepBool = (refl, refl)
filter_facts filter.KeepVal = (refl, refl)
filter_facts filter.KeepStore = (refl, refl)
filter_facts filter.AnyBool = (refl, refl)
filter_facts filter.Pick = (refl, refl)

-- Lines.

arrow_text : Writes Anything (codes " -> ") (Plain Arrow ∷ [])
arrow_text = and_then blank_writes (and_then arrow_writes blank_writes)

colon_text : Writes Anything (codes " : ") (Plain Colon ∷ [])
colon_text = and_then blank_writes (and_then colon_writes blank_writes)

sort_writes : (name : List ℕ) → IsWord name → Writes Anything (sort_line name) (sort_symbols name)
sort_writes name w = both (and_then (key_writes (codes "sort") refl) (word_writes name w)) newline_writes (λ rest ok. refl)

con_writes : (sorts : List (List ℕ)) (con : Con) → IsWord con.name → IsWord (name_at sorts con.sort.0) → All (λ a. IsWord (arg_word sorts a)) con.args → Writes Anything (con_line sorts con) (con_symbols sorts con)
con_writes sorts con name sort args =
    let named = both (and_then (key_writes (codes "con") refl) (word_writes con.name name)) colon_text (λ rest ok. refl) in
    let sorted = both (and_then named (word_writes (name_at sorts con.sort.0) sort)) (list_writes (arg_word sorts) con.args args) (λ rest ok. refl) in
    newline_after sorted

hook_writes : (sorts : List (List ℕ)) (hook : Hook) → IsWord hook.name → IsWord (name_at sorts hook.sort.0) → Writes Anything (hook_line sorts hook) (hook_symbols sorts hook)
hook_writes sorts hook name sort =
    let flows = λ (list : List FlowSort). list_writes flow_word list (λ k d within. flow_is_word (get_or list k d)) in
    let named = both (and_then (key_writes (codes "hook") refl) (word_writes hook.name name)) (flows hook.inputs) (λ rest ok. refl) in
    let sorted = both (and_then (blank_after named) (word_writes (name_at sorts hook.sort.0) sort)) arrow_text (λ rest ok. refl) in
    same (newline_after (and_then sorted (flows hook.outputs))) refl (simp append_assoc)

indent_writes : (level : ℕ) → Writes Anything (indent level) []
indent_writes zero = nothing_writes
indent_writes (suc level) = and_then (and_then blank_writes blank_writes) (indent_writes level)

-- texts with others between
join_writes : {A : Type 0} (text : A → List ℕ) (spelled : A → List Symbol) {between : List ℕ} {sep : List Symbol} → Writes Anything between sep → (xs : List A) → All (λ x. Writes Anything (text x) (spelled x)) xs →
    Writes Anything (join_by text between xs) (join_by spelled sep xs)
join_writes text spelled w [] h = nothing_writes
join_writes {A = A} text spelled {between = between} {sep = sep} w (x ∷ xs) h =
    let P : A → Type 0 = λ x. Writes Anything (text x) (spelled x) in
    let Q : A → Type 0 = λ y. Writes Anything (between ++ text y) (sep ++ spelled y) in
    and_then (All-head P x xs h)
    (lines_write (λ y. between ++ text y) (λ y. sep ++ spelled y) xs (All-weaker P Q (λ (y : A) (p : P y). and_then w p) xs (All-tail P x xs h)))

either_text : Writes Anything (codes "either {\n") (Named (codes "either") ∷ Plain LeftBrace ∷ [])
either_text = and_then (key_writes (codes "either") refl) (and_then left_brace_writes newline_writes)

or_writes : (level : ℕ) → Writes Anything (or_line level) (Plain RightBrace ∷ Named (codes "or") ∷ Plain LeftBrace ∷ [])
or_writes level =
    and_then (indent_writes level) (and_then right_brace_writes (and_then blank_writes (and_then (key_writes (codes "or") refl) (and_then left_brace_writes newline_writes))))

with_text : Writes Anything (codes "} with ") (Plain RightBrace ∷ Named (codes "with") ∷ [])
with_text = and_then right_brace_writes (and_then blank_writes (key_writes (codes "with") refl))

-- where branches lie as they must among the bones after a branch bone, each of them does
pub branches_fit : {hooks vars n : ℕ} (counts : List ℕ) (bones : List Bone) → BranchesFit hooks vars n counts (take (sum counts) bones) → All (BonesFit hooks vars n) (branches counts bones)
branches_fit {hooks} {vars} {n} [] bones f = All-nil (BonesFit hooks vars n)
branches_fit {hooks} {vars} {n} (count ∷ counts) bones (one_branch p q) =
    let total : sum (count ∷ counts) ≡ count + sum counts = sum_by-cons (λ (n : ℕ). n) count counts in
    let P : List Bone → Type 0 = BonesFit hooks vars n in
    let Q : List Bone → Type 0 = BranchesFit hooks vars n counts in
    let front : take count (take (sum (count ∷ counts)) bones) ≡ take count bones = ap (λ k. take count (take k bones)) total ∙ take-take count (count + sum counts) bones (omega arith) in
    let back : drop count (take (sum (count ∷ counts)) bones) ≡ take (sum counts) (drop count bones) = ap (λ k. drop count (take k bones)) total ∙ drop-take count (sum counts) bones in
    All-cons (BonesFit hooks vars n) (take count bones) (branches counts (drop count bones)) (subst P front p) (branches_fit counts (drop count bones) (subst Q back q))

pub branches_few : (counts : List ℕ) (bones : List Bone) (size : ℕ) → length bones ≤ size → All (λ branch. length branch ≤ size) (branches counts bones)
branches_few [] bones size h = All-nil (λ (branch : List Bone). length branch ≤ size)
branches_few (count ∷ counts) bones size h =
    All-cons (λ branch. length branch ≤ size) (take count bones) (branches counts (drop count bones)) (omega (arith, h, length-take count bones))
    (branches_few counts (drop count bones) size (omega (arith, h, length-drop count bones)))

module _ (hooks : List Hook) (vars : List (List ℕ)) (hook_names : All IsName (map (λ (hook : Hook). hook.name) hooks)) (names : All IsName vars) where
  vars_write : (list : List Var) → AreBelow (length vars) list → Writes Anything (vars_text vars list) (list_symbols (var_word vars) list)
  vars_write list below = list_writes (var_word vars) list (All-weaker (λ (v : Var). v.0 < length vars) (λ v. IsWord (var_word vars v)) (var_is_word vars names) list below)

  hook_is_word : (id : HookId) → id.0 < length hooks → IsWord (hook_word hooks id)
  hook_is_word id p =
      let P : List ℕ → Type 0 = IsWord in
      subst P (sym (hook_word_is hooks id)) (name_at_word (map (λ (hook : Hook). hook.name) hooks) id.0 hook_names (omega (arith, p, length-map hooks (λ (hook : Hook). hook.name)))).word

  filter_writes : (f : Filter) (args outs : List Var) → AreBelow (length vars) args → AreBelow (length vars) outs →
      Writes Anything (filter_line vars f args outs) (Named (filter_word f) ∷ (list_symbols (var_word vars) args ++ (Plain Arrow ∷ list_symbols (var_word vars) outs)))
  filter_writes f args outs p q =
      let head = both (word_writes (filter_word f) (plain_is_word (filter_word f) (filter_facts f).0)) (vars_write args p) (λ rest ok. refl) in
      same (newline_after (and_then (and_then head arrow_text) (vars_write outs q))) refl (simp append_assoc)

  call_writes : (hook : List ℕ) (args : List Var) (target : Target) (outs : List Var) → IsWord hook → AreBelow (length vars) args → TargetIsBelow (length vars) target → AreBelow (length vars) outs →
      Writes Anything (call_line vars hook args target outs)
      (Named hook ∷ (list_symbols (var_word vars) args ++ (Named (target_word vars target) ∷ Plain Arrow ∷ list_symbols (var_word vars) outs)))
  call_writes hook args target outs w p t q =
      let head = both (word_writes hook w) (vars_write args p) (λ rest ok. refl) in
      let whole = both (and_then (blank_after head) (word_writes (target_word vars target) (target_is_word vars names target t))) arrow_text (λ rest ok. refl) in
      same (newline_after (and_then whole (vars_write outs q))) refl (simp append_assoc)

  with_writes : (level : ℕ) (exports : List Var) → AreBelow (length vars) exports →
      Writes Anything (with_line vars level exports) (Plain RightBrace ∷ Named (codes "with") ∷ list_symbols (var_word vars) exports)
  with_writes level exports p =
      newline_after (and_then (and_then (indent_writes level) with_text) (vars_write exports p))

  pub bones_write : (size level n : ℕ) (bones : List Bone) → length bones ≤ size → BonesFit (length hooks) (length vars) n bones →
      Writes Anything (bones_text hooks vars size level bones) (bones_symbols hooks vars size bones)
  bones_write size level n [] few fits = nothing_writes
  bones_write zero level n (bone ∷ bones) few fits = nothing_writes
  bones_write (suc size) level n (Apply f args outs ∷ bones) few (filter_bone p q r) =
      same (and_then (and_then (indent_writes level) (filter_writes f args outs p q)) (bones_write size level n bones (omega (arith, few)) r)) refl (simp append_assoc)
  bones_write (suc size) level n (Call hook args target outs ∷ bones) few (hook_bone d p t q r) =
      same (and_then (and_then (indent_writes level) (call_writes (hook_word hooks hook) args target outs (hook_is_word hook d) p t q)) (bones_write size level n bones (omega (arith, few)) r)) refl (simp append_assoc)
  bones_write (suc size) level zero (Either counts exports ∷ bones) few fits = elim fits [ ]
  bones_write (suc size) level (suc n) (Either counts exports ∷ bones) few (branch_bone two within p b r) =
      let most : length bones ≤ size = omega (arith, few) in
      let F = BonesFit (length hooks) (length vars) n in
      let inner : All (λ branch. Writes Anything (bones_text hooks vars size (suc level) branch) (bones_symbols hooks vars size branch)) (branches counts bones) =
      λ k d inside. bones_write size (suc level) n (get_or (branches counts bones) k d) (branches_few counts bones size most k d inside) (branches_fit counts bones b k d inside) in
      let joined = join_writes (bones_text hooks vars size (suc level)) (bones_symbols hooks vars size) (or_writes level) (branches counts bones) inner in
      same (and_then (and_then (and_then (and_then (indent_writes level) either_text) joined) (with_writes level exports p))
      (bones_write size level (suc n) (after_branches counts bones) (omega (arith, most, length-drop (sum counts) bones)) r))
      refl (simp append_assoc)

con_is_word : (cons : List Con) → All IsName (map (λ (con : Con). con.name) cons) → (id : ConId) → id.0 < length cons → IsWord (con_word cons id)
con_is_word cons names id p =
    let P : List ℕ → Type 0 = IsWord in
    subst P (sym (con_word_is cons id)) (name_at_word (map (λ (con : Con). con.name) cons) id.0 names (omega (arith, p, length-map cons (λ (con : Con). con.name)))).word

open_text : Writes Anything (codes " {\n") (Plain LeftBrace ∷ [])
open_text = and_then blank_writes (and_then left_brace_writes newline_writes)

close_text : Writes Anything (codes "} -> ") (Plain RightBrace ∷ Plain Arrow ∷ [])
close_text = and_then right_brace_writes arrow_text

rule_writes : (d : Def) → HasText d → (rule : Rule) → RuleFits d rule → RuleHasNames rule → Writes Anything (rule_text d rule) (rule_symbols d rule)
rule_writes d h rule fits has =
    let vars = λ (list : List Var) (below : AreBelow (length rule.vars) list). vars_write d.hooks rule.vars h.named.hooks.each has.names.each list below in
    let hooked = both (and_then (key_writes (codes "rule") refl) (word_writes (hook_word d.hooks rule.hook) (hook_is_word d.hooks rule.vars h.named.hooks.each has.names.each rule.hook fits.hook_declared))) blank_writes (λ rest ok. refl) in
    let headed = both (and_then hooked (word_writes (con_word d.cons rule.con) (con_is_word d.cons h.named.cons.each rule.con fits.con_declared))) (vars rule.terms fits.terms_below) (λ rest ok. refl) in
    let opened = and_then (and_then (blank_after headed) (vars rule.inputs fits.inputs_below)) open_text in
    let filled = and_then opened (bones_write d.hooks rule.vars h.named.hooks.each has.names.each (length rule.bones) 1 8 rule.bones (omega arith) fits.bones_fit) in
    let closed = and_then filled close_text in
    same (newline_after (and_then closed (vars rule.outputs fits.outputs_below))) refl (simp append_assoc)

con_name_word : (d : Def) → HasText d → (k : ℕ) (x : Con) → k < length d.cons → IsWord (get_or d.cons k x).name
con_name_word d h k x inside =
    let name = λ (con : Con). con.name in
    let P : List ℕ → Type 0 = IsWord in
    subst P (get_or-map name d.cons k x (name x) inside) (h.named.cons.each k (name x) (omega (arith, inside, length-map d.cons name))).word

hook_name_word : (d : Def) → HasText d → (k : ℕ) (x : Hook) → k < length d.hooks → IsWord (get_or d.hooks k x).name
hook_name_word d h k x inside =
    let name = λ (hook : Hook). hook.name in
    let P : List ℕ → Type 0 = IsWord in
    subst P (get_or-map name d.hooks k x (name x) inside) (h.named.hooks.each k (name x) (omega (arith, inside, length-map d.hooks name))).word

pub definition_writes : (d : Def) → HasText d → Writes Anything (definition_text d) (definition_symbols d)
definition_writes d h =
    let sorts = lines_write sort_line sort_symbols d.sorts (λ k x inside. sort_writes (get_or d.sorts k x) (h.named.sorts.each k x inside).word) in
    let con_names = λ (k : ℕ) (x : Con) (inside : k < length d.cons). con_name_word d h k x inside in
    let cons = lines_write (con_line d.sorts) (con_symbols d.sorts) d.cons
    (λ k x inside.
    let fits = h.fits.constructors_fit k x inside in
    con_writes d.sorts (get_or d.cons k x) (con_names k x inside) (name_at_word d.sorts (get_or d.cons k x).sort.0 h.named.sorts.each fits.sort_declared).word
    (All-weaker (ArgumentFits (length d.sorts)) (λ a. IsWord (arg_word d.sorts a)) (arg_is_word d.sorts h.named.sorts.each) (get_or d.cons k x).args fits.arguments_declared)) in
    let hooks = lines_write (hook_line d.sorts) (hook_symbols d.sorts) d.hooks
    (λ k x inside.
    let fits = h.fits.hooks_fit k x inside in
    hook_writes d.sorts (get_or d.hooks k x) (hook_name_word d h k x inside) (name_at_word d.sorts (get_or d.hooks k x).sort.0 h.named.sorts.each fits.sort_declared).word) in
    let rules = lines_write (rule_text d) (rule_symbols d) d.rules (λ k x inside. rule_writes d h (get_or d.rules k x) (h.fits.rules_fit k x inside) (h.named.rules k x inside)) in
    same (and_then (and_then (and_then (and_then (and_then (key_writes (codes "skel") refl) version_writes) sorts) cons) hooks) rules) refl (simp append_assoc)
