-- The keys of a program with their rules and lines, and what an assignment gives them.
use Rattle.std.proofs.Common.{◌≡◌, ℕ, suc, ◌+◌, Bool, true, List, [], ◌∷◌, map, filter, flat_map, Option, Some, refl, sym, ◌∙◌, ap, subst, arith, eqb}
use Rattle.std.specs.Prelude.{slice_get, find}
use Rattle.std.specs.List.{AllByRecursion, AllZip, list_all, enumerate_from}
use Rattle.std.specs.Option.{option_map}
use Rattle.std.proofs.lemmas.Bool.{and_parts, cond_both, eqb-true}
use Rattle.std.proofs.lemmas.Option.{same_Some, slice_get_within}
use Rattle.sk_def.specs.declared.ids.HookId.{HookId}
use Rattle.sk_def.specs.declared.def.Def.{Def}
use Rattle.sk_def.specs.declared.def.Rule.{Rule}
use Rattle.sk_def.specs.declared.def.Hook.{Hook}
use Rattle.sk_def.specs.declared.def.Con.{Con}
use Rattle.sk_sort.specs.Definition.{IsWellSorted, DefinitionIsSorted, RuleFound}
use Rattle.sk_sort.proofs.RuleFound.{rule_found}
use Rattle.sk_sort.proofs.RulesSorted.{rules_sorted}
use Rattle.sk_term.specs.declared.node.TermNode.{TermNode}
use Rattle.sk_term.specs.Program.{Program, IsProgramOf}
use Rattle.sk_term.specs.Terms.{keys, takes_node}
use Rattle.sk_term.proofs.Entries.{as_many_entries}
use Rattle.sk_deriv.specs.Moves.{setting_of}
use Rattle.sk_lattice.specs.Domain.{Domain}
use Rattle.sk_table.specs.declared.triple.Cover.{Cover}
use Rattle.sk_rounds.proofs.Lists.{all_append}
use Rattle.sk_abswalk.specs.Reading.{Key}
use Rattle.sk_abswalk.proofs.Keys.{IsKey}
use Rattle.sk_constr.specs.declared.line.KeyLines.{KeyLines}
use Rattle.sk_constr.specs.declared.constraint_list.ConstraintList.{ConstraintList}
use Rattle.sk_constr.specs.Keys.{RuleOfKey, AreConstraints, key_by_rule, lines_of_key, lines_of_rule}
use Rattle.sk_constr.proofs.RulesFound.{KeyParts, key_parts, rule_of_parts}
use Rattle.sk_solve.specs.declared.assignment.Solved.{Solved}
use Rattle.sk_solve.specs.Solves.{is_of_key, line_holds, IsOfKey, Solves}
use Rattle.sk_agree.proofs.Relations.{zip_from_map}

-- Lists.

-- what stands in a list with its place
numbered : {A : Type 0} (get : ℕ → Option A) (n : ℕ) (xs : List A) → ((i : ℕ) → get (n + i) ≡ slice_get xs i) → AllByRecursion (λ (p : ℕ × A). get p.0 ≡ Some p.1) (enumerate_from n xs)
numbered get n [] h = tt
numbered get n (x ∷ xs) h =
    let here : n + 0 ≡ n = omega arith in
    (subst (λ j. get j ≡ Some x) here (h 0), numbered get (n + 1) xs (λ i. let next : n + suc i ≡ n + 1 + i = omega arith in subst (λ j. get j ≡ slice_get xs i) next (h (suc i))))

places_are : {A : Type 0} (xs : List A) → AllByRecursion (λ (p : ℕ × A). slice_get xs p.0 ≡ Some p.1) (enumerate_from 0 xs)
places_are xs = numbered (slice_get xs) 0 xs (λ i. let same : 0 + i ≡ i = omega arith in ap (slice_get xs) same)

all_kept : {A : Type 0} (P : A → Type 0) (test : A → Bool) (xs : List A) → AllByRecursion P xs → AllByRecursion (λ x. P x × (test x ≡ true)) (filter test xs)
all_kept P test [] h = tt
all_kept P test (x ∷ xs) h =
    cond_both (test x) (x ∷ filter test xs) (filter test xs) (AllByRecursion (λ x. P x × (test x ≡ true))) (λ e. ((h.0, e), all_kept P test xs h.1)) (λ _. all_kept P test xs h.1)

pub all_mapped : {A B : Type 0} (P : A → Type 0) (Q : B → Type 0) (f : A → B) → ((x : A) → P x → Q (f x)) → (xs : List A) → AllByRecursion P xs → AllByRecursion Q (map f xs)
all_mapped P Q f step [] h = tt
all_mapped P Q f step (x ∷ xs) h = (step x h.0, all_mapped P Q f step xs h.1)

all_flat : {A B : Type 0} (P : A → Type 0) (Q : B → Type 0) (f : A → List B) → ((x : A) → P x → AllByRecursion Q (f x)) → (xs : List A) → AllByRecursion P xs → AllByRecursion Q (flat_map f xs)
all_flat P Q f step [] h = tt
all_flat P Q f step (x ∷ xs) h = all_append Q (f x) (flat_map f xs) (step x h.0) (all_flat P Q f step xs h.1)

-- lists that are related one after another
put_together : {A B C : Type 0} (P : A → Type 0) (Q : A → B → Type 0) (R S : B → C → Type 0) (T : A → C → Type 0) → ((x : A) (y : B) (z : C) → P x → Q x y → R y z → S y z → T x z) →
    (xs : List A) (ys : List B) (zs : List C) → AllByRecursion P xs → AllZip Q xs ys → AllZip R ys zs → AllZip S ys zs → AllZip T xs zs
put_together P Q R S T step [] [] [] p q r s = tt
put_together P Q R S T step [] [] (z ∷ zs) p q r s = absurd r
put_together P Q R S T step [] (y ∷ ys) zs p q r s = absurd q
put_together P Q R S T step (x ∷ xs) [] zs p q r s = absurd q
put_together P Q R S T step (x ∷ xs) (y ∷ ys) [] p q r s = absurd r
put_together P Q R S T step (x ∷ xs) (y ∷ ys) (z ∷ zs) p q r s = (step x y z p.0 q.0 r.0 s.0, put_together P Q R S T step xs ys zs p.1 q.1 r.1 s.1)

-- what is found in the second list, with what it is related to
found_in : {A B : Type 0} (R : A → B → Type 0) (test : B → Bool) (xs : List A) (ys : List B) → AllZip R xs ys → (y : B) → find test ys ≡ Some y → (x : A) × R x y × (test y ≡ true)
found_in R test [] [] h y e = absurd cc
found_in R test [] (z ∷ ys) h y e = absurd h
found_in R test (x ∷ xs) [] h y e = absurd h
found_in {A} {B} R test (x ∷ xs) (z ∷ ys) h y e =
    cond_both (test z) (Some z) (find test ys) (λ o. o ≡ Some y → (x : A) × R x y × (test y ≡ true))
    (λ yes k. let same : z ≡ y = same_Some z y k in (x, subst (R x) same h.0, subst (λ z. test z ≡ true) same yes))
    (λ no k. found_in R test xs ys h.1 y k) e

-- The keys of a program.

module _ (def : Def) (program : Program) where
  abbrev pub OfProgram : Key → Type 0
  OfProgram k = (hook : Hook) × IsKey (setting_of def program) k hook

  keys_at : (at : ℕ × TermNode) → slice_get program.nodes at.0 ≡ Some at.1 → AllByRecursion OfProgram (map (λ (h : ℕ × Hook). (record { 0 = h.0 }, at.0)) (filter (λ h. takes_node def at.1 h.1) (enumerate_from 0 def.hooks)))
  keys_at at e =
      all_mapped (λ (h : ℕ × Hook). (slice_get def.hooks h.0 ≡ Some h.1) × (takes_node def at.1 h.1 ≡ true)) OfProgram (λ (h : ℕ × Hook). (record { 0 = h.0 }, at.0))
      (λ h p. (h.1, record { node = at.1; at = e; declared = p.0; takes = p.1 })) (filter (λ h. takes_node def at.1 h.1) (enumerate_from 0 def.hooks))
      (all_kept (λ (h : ℕ × Hook). slice_get def.hooks h.0 ≡ Some h.1) (λ h. takes_node def at.1 h.1) (enumerate_from 0 def.hooks) (places_are def.hooks))

  pub keys_are : AllByRecursion OfProgram (keys def program.nodes)
  keys_are = all_flat (λ (at : ℕ × TermNode). slice_get program.nodes at.0 ≡ Some at.1) OfProgram _ keys_at (enumerate_from 0 program.nodes) (places_are program.nodes)

-- a key with its rule, and the lines that it has
pub record KeyRule (def : Def) (program : Program) (k : Key) : Type 0 where
  pub rule : Rule
  pub hook : Hook
  pub con : Con
  pub is_key : IsKey (setting_of def program) k hook
  pub parts : RuleOfKey def program.nodes k.0 k.1 rule hook con
  pub lines_are : lines_of_key def program.nodes k ≡ Some (key_by_rule def k.0 k.1 parts.node rule hook con)

key_lines : (def : Def) (nodes : List TermNode) (k : Key) (rule : Rule) (hook : Hook) (con : Con) (p : RuleOfKey def nodes k.0 k.1 rule hook con) → lines_of_key def nodes k ≡ Some (key_by_rule def k.0 k.1 p.node rule hook con)
key_lines def nodes k rule hook con p = rw (p.node_is, p.rule_is, p.hook_is, p.con_is) refl

pub key_rule : (def : Def) (program : Program) → IsWellSorted def → IsProgramOf def program → (k : Key) (hook : Hook) → IsKey (setting_of def program) k hook → KeyRule def program k
key_rule def program sorted is_program k hook is =
    let all_sorted : DefinitionIsSorted def = record { well_sorted = sorted; rules_sorted = rules_sorted def sorted } in
    let p : KeyParts def program.nodes k.0 k.1 is.node.con =
    key_parts def program.nodes k.0 k.1 is.node.con (ap (option_map (λ (n : TermNode). n.con)) is.at) (slice_get_within def.hooks k.0.0 hook is.declared)
    (λ node other e f. let same : is.node ≡ node = same_Some is.node node (sym is.at ∙ e) in let same_hook : hook ≡ other = same_Some hook other (sym is.declared ∙ f) in
    subst (λ n. takes_node def n other ≡ true) same (subst (λ h. takes_node def is.node h ≡ true) same_hook is.takes)) in
    let found : RuleFound def k.0 is.node.con = rule_found def all_sorted k.0 is.node.con p.hook p.entry p.hook_is p.entry_is p.same_sort in
    let parts = rule_of_parts def program.nodes k.0 k.1 is.node.con found.rule p.hook p.entry all_sorted p found.is_first p.hook_is p.entry_is (as_many_entries def program k.1 is.node is_program is.at) in
    record {
      rule = found.rule;
      hook = p.hook;
      con = p.entry;
      is_key = record { node = is.node; at = is.at; declared = p.hook_is; takes = subst (λ h. takes_node def is.node h ≡ true) (same_Some hook p.hook (sym is.declared ∙ p.hook_is)) is.takes };
      parts = parts;
      lines_are = key_lines def program.nodes k found.rule p.hook p.entry parts;
    }

-- what an assignment that satisfies a program's constraints gives a key
pub record SolvedKey {D : Type 0} (d : Domain D) (def : Def) (program : Program) (a : List (Solved D)) (k : Key) (s : Solved D) : Type 0 where
  pub key : KeyRule def program k
  pub is_of : IsOfKey d program.names (key_by_rule def k.0 k.1 key.parts.node key.rule key.hook key.con) s
  pub lines : list_all (line_holds d program.names a s) (lines_of_rule k.1 key.rule key.parts.node) ≡ true

module _ (D : Type 0) (d : Domain D) (def : Def) (program : Program) (sorted : IsWellSorted def) (is_program : IsProgramOf def program) (covers : List (Cover D)) (list : ConstraintList D) (are : AreConstraints def program covers list) (a : List (Solved D)) (solves : Solves d list a) where
  solved_key : (k : Key) (key : KeyLines) (s : Solved D) → OfProgram def program k → lines_of_key def program.nodes k ≡ Some key → IsOfKey d list.names key s → list_all (line_holds d list.names a s) key.lines ≡ true → SolvedKey d def program a k s
  solved_key k key s of e is_of lines =
      let r = key_rule def program sorted is_program k of.0 of.1 in
      let same : key ≡ key_by_rule def k.0 k.1 r.parts.node r.rule r.hook r.con = same_Some key _ (sym e ∙ r.lines_are) in
      record {
        key = r;
        is_of = subst (λ n. IsOfKey d n (key_by_rule def k.0 k.1 r.parts.node r.rule r.hook r.con) s) are.names_are (subst (λ (x : KeyLines). IsOfKey d list.names x s) same is_of);
        lines = subst (λ n. list_all (line_holds d n a s) (lines_of_rule k.1 r.rule r.parts.node) ≡ true) are.names_are (subst (λ (x : KeyLines). list_all (line_holds d list.names a s) x.lines ≡ true) same lines);
      }

  -- each key of the program, in order
  pub solved_keys : AllZip (SolvedKey d def program a) (keys def program.nodes) a
  solved_keys =
      put_together (OfProgram def program) (λ k key. lines_of_key def program.nodes k ≡ Some key) (IsOfKey d list.names) (λ (key : KeyLines) s. list_all (line_holds d list.names a s) key.lines ≡ true) (SolvedKey d def program a) solved_key
      (keys def program.nodes) list.keys a (keys_are def program) (zip_from_map (lines_of_key def program.nodes) (keys def program.nodes) list.keys (sym are.keys_are)) solves.assigns solves.lines_hold

same_keys : (j k : Key) → j.0.0 ≡ k.0.0 → j.1 ≡ k.1 → j ≡ k
same_keys j k e f = λ i. (record { 0 = e i }, f i)

-- what is found for a key in an assignment is of the key
pub found_key : {D : Type 0} (R : Key → Solved D → Type 0) → ((k : Key) (s : Solved D) → R k s → (s.hook ≡ k.0) × (s.point ≡ k.1)) → (ks : List Key) (a : List (Solved D)) → AllZip R ks a →
    (k : Key) (s : Solved D) → find (is_of_key k.0 k.1) a ≡ Some s → R k s
found_key R own ks a h k s e =
    let found = found_in R (is_of_key k.0 k.1) ks a h s e in
    let ids = and_parts (eqb s.hook.0 k.0.0) (eqb s.point k.1) found.2 in
    let of = own found.0 s found.1 in
    let same : found.0 ≡ k = same_keys found.0 k (sym (ap (λ (i : HookId). i.0) of.0) ∙ eqb-true s.hook.0 k.0.0 ids.0) (sym of.1 ∙ eqb-true s.point k.1 ids.1) in
    subst (λ j. R j s) same found.1
