-- Symbols of terms with what follows them, and how far a reading has come.
use Rattle.std.proofs.Common.{◌≡◌, ℕ, ◌+◌, ℤ, List, [], ◌∷◌, ◌++◌, length, refl, sym, ap, ◌∙◌, arith, append_assoc, length-append, Option, Some, None, Result, Ok}
use Rattle.std.specs.Prelude.{slice_get, slice_set}
use Rattle.std.specs.List.{flat_map, join_by}
use Rattle.std.proofs.lemmas.List.{append-nil}
use Rattle.std.proofs.Math.Seq.{set-append_seam}
use Rattle.sk_base.specs.Answer.{◌>>=◌}
use Rattle.sk_lex.specs.Run.{run}
use Rattle.sk_lex.specs.Symbols.{Symbol, Named, Plain}
use Rattle.sk_lex.specs.declared.token.TokenKind.TheVariants as token
use Rattle.sk_def.specs.declared.ids.ConId.{ConId}
use Rattle.sk_def.specs.declared.sorts.ArgSort.{ArgSort}
use Rattle.sk_def.specs.declared.def.Def.{Def}
use Rattle.sk_term.specs.declared.expected.Expected.{Expected}
use Rattle.sk_term.specs.declared.expected.OpenTerm.{OpenTerm}
use Rattle.sk_term.specs.declared.fault.TermError.{TermError}
use Rattle.sk_term.specs.declared.node.Child.{Child}
use Rattle.sk_term.specs.declared.node.Child.TheVariants.{Number, Name, Point}
use Rattle.sk_term.specs.declared.node.TermNode.{TermNode}
use Rattle.sk_term.specs.Terms.{Term, con, Args, none, number, name, term, node_count, children_from, nodes_from, nodes_of_args, arguments_of}
use Rattle.sk_term.specs.Reading.{Reading, ReadTerm, node_begun, next_sort, term_rules}
use Rattle.sk_term.specs.Spelling.{con_name, word_at, spelling, spellings}
use Rattle.sk_term.proofs.Nodes.{length-nodes}

abbrev mutual
  -- the symbols of a term, and then others
  pub spelled : Def → List (List ℕ) → Term → List Symbol → List Symbol
  spelled d names (con c args) left = Named (con_name d c) ∷ Plain token.LeftParen ∷ inside d names args left

  -- those of arguments after the `(`
  pub inside : Def → List (List ℕ) → Args → List Symbol → List Symbol
  inside d names none left = Plain token.RightParen ∷ left
  inside d names (number z rest) left = Plain (token.Number z) ∷ more d names rest left
  inside d names (name n rest) left = Named (word_at names n) ∷ more d names rest left
  inside d names (term t rest) left = spelled d names t (more d names rest left)

  -- those of arguments after others
  pub more : Def → List (List ℕ) → Args → List Symbol → List Symbol
  more d names none left = Plain token.RightParen ∷ left
  more d names (number z rest) left = Plain token.Comma ∷ Plain (token.Number z) ∷ more d names rest left
  more d names (name n rest) left = Plain token.Comma ∷ Named (word_at names n) ∷ more d names rest left
  more d names (term t rest) left = Plain token.Comma ∷ spelled d names t (more d names rest left)

abbrev apart : List (List Symbol) → List Symbol
apart pieces = flat_map (λ piece. Plain token.Comma ∷ piece) pieces

-- a piece before others
joins : (one others left last whole : List Symbol) → (others ++ Plain token.RightParen ∷ []) ++ left ≡ last → one ++ last ≡ whole → ((one ++ others) ++ Plain token.RightParen ∷ []) ++ left ≡ whole
joins one others left last whole e f =
    ap (λ ss. ss ++ left) (append_assoc one others (Plain token.RightParen ∷ [])) ∙ append_assoc one (others ++ Plain token.RightParen ∷ []) left ∙ ap (λ ss. one ++ ss) e ∙ f

mutual
  pub spelling_then : (d : Def) (names : List (List ℕ)) (t : Term) (left : List Symbol) → spelling d names t ++ left ≡ spelled d names t left
  spelling_then d names (con c args) left = ap (λ ss. Named (con_name d c) ∷ Plain token.LeftParen ∷ ss) (inside_then d names args left)

  inside_then : (d : Def) (names : List (List ℕ)) (args : Args) (left : List Symbol) →
      (join_by (λ argument. argument) (Plain token.Comma ∷ []) (spellings d names args) ++ Plain token.RightParen ∷ []) ++ left ≡ inside d names args left
  inside_then d names none left = refl
  inside_then d names (number z rest) left = ap (λ ss. Plain (token.Number z) ∷ ss) (more_then d names rest left)
  inside_then d names (name n rest) left = ap (λ ss. Named (word_at names n) ∷ ss) (more_then d names rest left)
  inside_then d names (term t rest) left =
      joins (spelling d names t) (apart (spellings d names rest)) left (more d names rest left) (spelled d names t (more d names rest left)) (more_then d names rest left) (spelling_then d names t (more d names rest left))

  more_then : (d : Def) (names : List (List ℕ)) (args : Args) (left : List Symbol) → (apart (spellings d names args) ++ Plain token.RightParen ∷ []) ++ left ≡ more d names args left
  more_then d names none left = refl
  more_then d names (number z rest) left = ap (λ ss. Plain token.Comma ∷ Plain (token.Number z) ∷ ss) (more_then d names rest left)
  more_then d names (name n rest) left = ap (λ ss. Plain token.Comma ∷ Named (word_at names n) ∷ ss) (more_then d names rest left)
  more_then d names (term t rest) left =
      ap (λ ss. Plain token.Comma ∷ ss)
      (joins (spelling d names t) (apart (spellings d names rest)) left (more d names rest left) (spelled d names t (more d names rest left)) (more_then d names rest left) (spelling_then d names t (more d names rest left)))

-- A reading.

abbrev pub Answer : Type 0
Answer = Result (Reading × ℕ) (TermError × ℕ)

-- what callers are told of what was read
abbrev pub told : Answer → Result (ReadTerm × ℕ) (TermError × ℕ)
told r = r >>= λ read. Ok (record { nodes = read.0.nodes; names = read.0.names }, read.1)

-- a reading of so many symbols comes to this state, where this is expected and these symbols are left
pub record Comes (from : Answer) (total : ℕ) (expected : List Expected) (state : Reading) (left : List Symbol) : Type 0 where
  pub at : ℕ
  pub is : from ≡ run term_rules 0 at expected state left
  pub place : at + length left ≡ total

-- a term is open, with these nodes and leaves before
abbrev pub within : Def → List TermNode → List ℤ → OpenTerm → List OpenTerm → List (List ℕ) → Reading
within d here leaves o outer names = record { def = d; nodes = here; literals = leaves; unclosed = o ∷ outer; names = names }

-- as many terms are open as before
abbrev pub outside : Def → List TermNode → List ℤ → List OpenTerm → List (List ℕ) → Reading
outside d here leaves outer names = record { def = d; nodes = here; literals = leaves; unclosed = outer; names = names }

-- the nodes once an open term has ended with these arguments
abbrev pub closed : List TermNode → OpenTerm → Args → List TermNode
closed here o args =
    slice_set (here ++ nodes_of_args (length here) args) o.point (record { con = o.node.con; children = o.node.children ++ children_from (length here) args })

-- a term with one entry more
abbrev pub grown : OpenTerm → Child → OpenTerm
grown o child = record { point = o.point; node = record { con = o.node.con; children = o.node.children ++ child ∷ [] } }

pub closed_none : (here : List TermNode) (o : OpenTerm) → slice_set here o.point o.node ≡ closed here o none
closed_none here o =
    ap (λ ns. slice_set ns o.point o.node) (sym (append-nil here))
    ∙ ap (λ cs. slice_set (here ++ []) o.point (record { con = o.node.con; children = cs })) (sym (append-nil o.node.children))

pub closed_number : (here : List TermNode) (o : OpenTerm) (z : ℤ) (rest : Args) → closed here (grown o (Number z)) rest ≡ closed here o (number z rest)
closed_number here o z rest =
    ap (λ cs. slice_set (here ++ nodes_of_args (length here) rest) o.point (record { con = o.node.con; children = cs }))
    (append_assoc o.node.children (Number z ∷ []) (children_from (length here) rest))

pub closed_name : (here : List TermNode) (o : OpenTerm) (n : ℕ) (rest : Args) → closed here (grown o (Name n)) rest ≡ closed here o (name n rest)
closed_name here o n rest =
    ap (λ cs. slice_set (here ++ nodes_of_args (length here) rest) o.point (record { con = o.node.con; children = cs }))
    (append_assoc o.node.children (Name n ∷ []) (children_from (length here) rest))

pub closed_term : (here : List TermNode) (o : OpenTerm) (t : Term) (rest : Args) →
    closed (here ++ nodes_from (length here) t) (grown o (Point (length here))) rest ≡ closed here o (term t rest)
closed_term here o t rest =
    let front = here ++ nodes_from (length here) t in
    let long : length front ≡ length here + node_count t = omega (arith, length-append here (nodes_from (length here) t), length-nodes (length here) t) in
    ap (λ n. slice_set (front ++ nodes_of_args n rest) o.point (record { con = o.node.con; children = (o.node.children ++ Point (length here) ∷ []) ++ children_from n rest })) long
    ∙ ap (λ ns. slice_set ns o.point (record { con = o.node.con; children = (o.node.children ++ Point (length here) ∷ []) ++ children_from (length here + node_count t) rest }))
    (append_assoc here (nodes_from (length here) t) (nodes_of_args (length here + node_count t) rest))
    ∙ ap (λ cs. slice_set (here ++ nodes_of_args (length here) (term t rest)) o.point (record { con = o.node.con; children = cs }))
    (append_assoc o.node.children (Point (length here) ∷ []) (children_from (length here + node_count t) rest))

-- a term that begins at a point
abbrev pub opened : ℕ → ConId → OpenTerm
opened point c = record { point = point; node = node_begun c }

pub whole_is : (here : List TermNode) (c : ConId) (args : Args) → length (here ++ node_begun c ∷ []) ≡ length here + 1 →
    closed (here ++ node_begun c ∷ []) (opened (length here) c) args ≡ here ++ nodes_from (length here) (con c args)
whole_is here c args long =
    ap (λ n. slice_set ((here ++ node_begun c ∷ []) ++ nodes_of_args n args) (length here) (record { con = c; children = children_from n args })) long
    ∙ ap (λ ns. slice_set ns (length here) (record { con = c; children = children_from (length here + 1) args })) (append_assoc here (node_begun c ∷ []) (nodes_of_args (length here + 1) args))
    ∙ set-append_seam here (node_begun c) (nodes_of_args (length here + 1) args) (record { con = c; children = children_from (length here + 1) args })

-- The sort of the next argument.

-- the arguments that an open term still has to get have these sorts
pub record Awaits (d : Def) (o : OpenTerm) (sorts : List ArgSort) : Type 0 where
  pub front : List ArgSort
  pub arguments : arguments_of d o.node.con ≡ front ++ sorts
  pub counted : length o.node.children ≡ length front

abbrev pub head_of : List ArgSort → Option ArgSort
head_of [] = None
head_of (s ∷ rest) = Some s

after_front : (front rest : List ArgSort) → slice_get (front ++ rest) (length front) ≡ head_of rest
after_front [] [] = refl
after_front [] (s ∷ rest) = refl
after_front (s ∷ front) rest = after_front front rest

pub awaited : {d : Def} {o : OpenTerm} {sorts : List ArgSort} (outer : List OpenTerm) → Awaits d o sorts → next_sort d (o ∷ outer) ≡ head_of sorts
awaited {o = o} {sorts = sorts} outer a =
    ap (λ all. slice_get all (length o.node.children)) a.arguments ∙ ap (slice_get (a.front ++ sorts)) a.counted ∙ after_front a.front sorts

pub got : {d : Def} {o : OpenTerm} {s : ArgSort} {sorts : List ArgSort} (child : Child) → Awaits d o (s ∷ sorts) → Awaits d (grown o child) sorts
got {o = o} {s = s} {sorts = sorts} child a = record {
  front = a.front ++ s ∷ [];
  arguments = a.arguments ∙ sym (append_assoc a.front (s ∷ []) sorts);
  counted = omega (arith, a.counted, length-append o.node.children (child ∷ []), length-append a.front (s ∷ []));
}
