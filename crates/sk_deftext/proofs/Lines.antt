-- Turns of the functions that append lines.
use Rattle.std.proofs.Common.{◌≡◌, ℕ, zero, suc, ◌+◌, ◌-◌, ◌<◌, ◌≤◌, Bool, true, false, List, [], ◌∷◌, ◌++◌, length, take, drop, get_or, refl, sym, ap, ◌∙◌, arith, append_assoc, add-one, drop-cons, length-drop, Result, Ok, Err, OnOk, if◌then◌else◌}
use Rattle.std.specs.Prelude.{codes, flat_map, sum}
use Rattle.std.specs.List.{join_by}
use Rattle.std.proofs.lemmas.List.{drop-drop}
use Rattle.std.proofs.lemmas.List.Sums.{sum_by-cons}
use Rattle.sk_def.specs.Layout.{after_branches}
use Rattle.sk_def.specs.declared.filter.Filter.{Filter}
use Rattle.sk_def.specs.declared.ids.HookId.{HookId}
use Rattle.sk_def.specs.declared.ids.Var.{Var}
use Rattle.sk_def.specs.declared.def.Hook.{Hook}
use Rattle.sk_def.specs.declared.bone.Target.{Target}
use Rattle.sk_def.specs.declared.bone.Bone.{Bone}
use Rattle.sk_def.specs.declared.bone.Bone.TheVariants.{Apply, Call, Either}
use Rattle.sk_deftext.specs.Canonical.{hook_word, filter_line, call_line, or_line, with_line, indent, branches, bones_text}

-- one level of the indent
pub indent_turn : (out front : List ℕ) (level at : ℕ) → at < level → out ++ indent (level - at) ≡ front → (out ++ codes "  ") ++ indent (level - (at + 1)) ≡ front
indent_turn out front level at less e =
    let one : level - at ≡ suc (level - (at + 1)) = omega (arith, less) in
    append_assoc out (codes "  ") (indent (level - (at + 1))) ∙ ap (λ n. out ++ indent n) (sym one) ∙ e

-- what branches still to come give, after what stands before all but the first
abbrev pub more_branches : (List Bone → List ℕ) → List ℕ → Bool → List ℕ → List Bone → List ℕ
more_branches text between true counts left = join_by text between (branches counts left)
more_branches text between false counts left = flat_map (λ bones. between ++ text bones) (branches counts left)

one_branch : (text : List Bone → List ℕ) (between : List ℕ) (b : Bool) (count : ℕ) (counts : List ℕ) (left : List Bone) →
    more_branches text between b (count ∷ counts) left ≡ ((if b then [] else between) ++ text (take count left)) ++ more_branches text between false counts (drop count left)
one_branch text between true count counts left = refl
one_branch text between false count counts left = refl

pub no_more : (text : List Bone → List ℕ) (between : List ℕ) (b : Bool) (left : List Bone) → more_branches text between b [] left ≡ []
no_more text between true left = refl
no_more text between false left = refl

pub branch_turn : (text : List Bone → List ℕ) (between : List ℕ) (b : Bool) (place count : ℕ) (counts : List ℕ) (left : List Bone) (out later front : List ℕ) →
    place < length counts → count ≡ get_or counts place 0 → later ≡ (out ++ (if b then [] else between)) ++ text (take count left) →
    out ++ more_branches text between b (drop place counts) left ≡ front → later ++ more_branches text between false (drop (place + 1) counts) (drop count left) ≡ front
branch_turn text between b place count counts left out later front within is l e =
    let more : drop place counts ≡ count ∷ drop (place + 1) counts = rw (is, add-one) (drop-cons counts place 0 within) in
    let rest = more_branches text between false (drop (place + 1) counts) (drop count left) in
    let sep : List ℕ = if b then [] else between in
    ap (λ xs. xs ++ rest) l ∙ append_assoc (out ++ sep) (text (take count left)) rest ∙ append_assoc out sep (text (take count left) ++ rest)
    ∙ ap (λ xs. out ++ xs) (sym (one_branch text between b count (drop (place + 1) counts) left ∙ append_assoc sep (text (take count left)) rest))
    ∙ ap (λ cs. out ++ more_branches text between b cs left) (sym more) ∙ e

-- what is left after a branch
pub left_turn : (place count : ℕ) (counts : List ℕ) (left bones : List Bone) → place < length counts → count ≡ get_or counts place 0 →
    drop (sum (drop place counts)) left ≡ bones → drop (sum (drop (place + 1) counts)) (drop count left) ≡ bones
left_turn place count counts left bones within is e =
    let more : drop place counts ≡ count ∷ drop (place + 1) counts = rw (is, add-one) (drop-cons counts place 0 within) in
    drop-drop (sum (drop (place + 1) counts)) count left
    ∙ ap (λ n. drop n left) (sym (ap (λ (ns : List ℕ). sum ns) more ∙ sum_by-cons (λ (n : ℕ). n) count (drop (place + 1) counts))) ∙ e

on_ok : {T E : Type 0} {P Q : Type 0} (r : Result T E) → (P → Q) → OnOk r P → OnOk r Q
on_ok (Ok x) f p = f p
on_ok (Err e) f p = tt

module _ (hooks : List Hook) (vars : List (List ℕ)) {T E : Type 0} (r : Result T E) (level : ℕ) (old mid new : List ℕ) (bones rest : List Bone) where
  -- a bone's line, and then the others
  turn : (line : List ℕ) → length bones ≡ suc (length rest) → mid ≡ (old ++ indent level) ++ line →
      ((size : ℕ) → bones_text hooks vars (suc size) level bones ≡ indent level ++ (line ++ bones_text hooks vars size level rest)) →
      ((size : ℕ) → length rest ≤ size → OnOk r (new ≡ mid ++ bones_text hooks vars size level rest)) →
      (size : ℕ) → length bones ≤ size → OnOk r (new ≡ old ++ bones_text hooks vars size level bones)
  turn line one m shape ih zero h = absurd (omega (arith, one, h))
  turn line one m shape ih (suc size) h =
      let more = bones_text hooks vars size level rest in
      let same : mid ++ more ≡ old ++ bones_text hooks vars (suc size) level bones =
      ap (λ xs. xs ++ more) m ∙ append_assoc (old ++ indent level) line more ∙ append_assoc old (indent level) (line ++ more) ∙ ap (λ xs. old ++ xs) (sym (shape size)) in
      on_ok r (λ (p : new ≡ mid ++ more). p ∙ same) (ih size (omega (arith, one, h)))

  pub filter_turn : (filter : Filter) (args outs : List Var) → bones ≡ Apply filter args outs ∷ rest →
      mid ≡ (old ++ indent level) ++ (filter_line vars filter args outs) →
      ((size : ℕ) → length rest ≤ size → OnOk r (new ≡ mid ++ bones_text hooks vars size level rest)) →
      (size : ℕ) → length bones ≤ size → OnOk r (new ≡ old ++ bones_text hooks vars size level bones)
  filter_turn filter args outs e m = turn _ (ap length e) m (λ size. ap (bones_text hooks vars (suc size) level) e ∙ simp append_assoc)

  pub call_turn : (hook : HookId) (args : List Var) (target : Target) (outs : List Var) → bones ≡ Call hook args target outs ∷ rest →
      mid ≡ (old ++ indent level) ++ (call_line vars (hook_word hooks hook) args target outs) →
      ((size : ℕ) → length rest ≤ size → OnOk r (new ≡ mid ++ bones_text hooks vars size level rest)) →
      (size : ℕ) → length bones ≤ size → OnOk r (new ≡ old ++ bones_text hooks vars size level bones)
  call_turn hook args target outs e m = turn _ (ap length e) m (λ size. ap (bones_text hooks vars (suc size) level) e ∙ simp append_assoc)

  -- a branch bone with its branches, and then the others
  pub either_turn : (counts : List ℕ) (exports : List Var) (later : List Bone) (inner : List ℕ) → bones ≡ Either counts exports ∷ rest → later ≡ after_branches counts rest →
      ((size : ℕ) → length rest ≤ size →
      inner ≡ ((old ++ indent level) ++ codes "either {\n") ++ join_by (bones_text hooks vars size (suc level)) (or_line level) (branches counts rest)) →
      mid ≡ inner ++ with_line vars level exports →
      ((size : ℕ) → length later ≤ size → OnOk r (new ≡ mid ++ bones_text hooks vars size level later)) →
      (size : ℕ) → length bones ≤ size → OnOk r (new ≡ old ++ bones_text hooks vars size level bones)
  either_turn counts exports later inner e l b m ih zero h = absurd (omega (arith, ap length e, h))
  either_turn counts exports later inner e l b m ih (suc size) h =
      let few : length rest ≤ size = omega (arith, ap length e, h) in
      let end = with_line vars level exports in
      let fewer : length later ≤ size = omega (arith, ap length l, length-drop (sum counts) rest, few) in
      let shape : old ++ bones_text hooks vars (suc size) level (Either counts exports ∷ rest) ≡ old ++ bones_text hooks vars (suc size) level bones = ap (λ bs. old ++ bones_text hooks vars (suc size) level bs) (sym e) in
      let same : mid ++ bones_text hooks vars size level later ≡ old ++ bones_text hooks vars (suc size) level bones =
      ap (λ bs. mid ++ bones_text hooks vars size level bs) l ∙ ap (λ xs. xs ++ bones_text hooks vars size level (after_branches counts rest)) m
      ∙ ap (λ xs. (xs ++ end) ++ bones_text hooks vars size level (after_branches counts rest)) (b size few) ∙ (simp append_assoc) ∙ shape in
      on_ok r (λ (p : new ≡ mid ++ bones_text hooks vars size level later). p ∙ same) (ih size fewer)
