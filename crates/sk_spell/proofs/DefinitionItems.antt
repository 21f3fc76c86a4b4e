-- What is read as an item of a definition is spelled so.
use Rattle.std.proofs.Common.{◌≡◌, ℕ, ◌<◌, nat_lt, Bool, true, false, ◌||◌, if◌then◌else◌, List, [], ◌∷◌, ◌++◌, length, refl, sym, ap, ◌∙◌, arith, append_assoc, length-append, Option, Some, None, Ok, Err}
use Rattle.std.specs.Prelude.{codes, is_some}
use Rattle.sk_base.specs.declared.flow.FlowSort.{FlowSort}
use Rattle.sk_lex.specs.Run.{Turn}
use Rattle.sk_lex.specs.Symbols.{Symbol, Named, Plain, word_of}
use Rattle.sk_lex.specs.declared.token.TokenKind.TheVariants.{Colon, Arrow as Points}
use Rattle.sk_def.specs.Filters.{filter_named}
use Rattle.sk_def.specs.Fits.{ConstructorFits, HookFits}
use Rattle.sk_def.specs.Named.{place_of_con, place_of_hook}
use Rattle.sk_def.specs.declared.sorts.ArgSort.{ArgSort}
use Rattle.sk_def.specs.declared.ids.SortId.{SortId}
use Rattle.sk_def.specs.declared.def.Con.{Con}
use Rattle.sk_def.specs.declared.def.Hook.{Hook}
use Rattle.sk_def.specs.declared.def.Def.{Def}
use Rattle.sk_deftext.specs.Canonical.{name_at, flow_word, arg_word}
use Rattle.sk_deftext.specs.Met.{Met, met}
use Rattle.sk_deftext.specs.Words.{plain_word, is_reserved}
use Rattle.sk_deftext.specs.Reading as read
use Rattle.sk_deftext.specs.Reading.{step, closed, sort_name, con_name, hook_name, sort_used, sort_named}
use Rattle.sk_deftext.specs.Spelling.{with_sort, with_con, with_hook, sort_symbols, con_symbols, hook_symbols, list_symbols}
use Rattle.sk_deftext.specs.declared.draft.Draft.{Draft}
use Rattle.sk_deftext.specs.declared.expected.Expected.{Expected}
use Rattle.sk_deftext.specs.declared.expected.Expected.TheVariants as expected
use Rattle.sk_deftext.specs.declared.expected.Listed.TheVariants as listed
use Rattle.sk_deftext.specs.declared.fault.DefError.{DefError}
use Rattle.sk_deftext.specs.declared.fault.DefError.TheVariants.{Duplicate, TooMany}
use Rattle.sk_deftext.specs.declared.fault.Which.TheVariants as which
use Rattle.sk_deftext.proofs.Items.{idle, member}
use Rattle.sk_spell.proofs.DefinitionRuns.{Final, Reads, took, goes_on, ends_so}
use Rattle.sk_spell.proofs.SymbolForms.{word_is}
use Rattle.sk_spell.proofs.DefinitionSymbols.{plain_is, colon_taken, arrow_taken}
use Rattle.sk_spell.proofs.DefinitionLists.{first_so, others_so, list_read, sort_word, argument_entered, input_entered, output_entered}

-- a sort was read after its first word
pub record SortRead (final : Final) (now : Def) (symbols : List Symbol) : Type 0 where
  pub name : List ℕ
  pub left : List Symbol
  pub other : Draft
  pub symbols_are : Named (codes "sort") ∷ symbols ≡ sort_symbols name ++ left
  pub reads : Reads final (expected.Item ∷ []) (idle (with_sort now name) other) left
  pub less : length left < length symbols

-- a constructor was read after its first word, and it fits
pub record ConRead (final : Final) (now : Def) (symbols : List Symbol) : Type 0 where
  pub con : Con
  pub left : List Symbol
  pub other : Draft
  pub symbols_are : Named (codes "con") ∷ symbols ≡ con_symbols now.sorts con ++ left
  pub fits : ConstructorFits (length now.sorts) con
  pub reads : Reads final (expected.Item ∷ []) (idle (with_con now con) other) left
  pub less : length left < length symbols

-- a hook was read after its first word, and it fits
pub record HookRead (final : Final) (now : Def) (symbols : List Symbol) : Type 0 where
  pub hook : Hook
  pub left : List Symbol
  pub other : Draft
  pub symbols_are : Named (codes "hook") ∷ symbols ≡ hook_symbols now.sorts hook ++ left
  pub fits : HookFits (length now.sorts) hook
  pub reads : Reads final (expected.Item ∷ []) (idle (with_hook now hook) other) left
  pub less : length left < length symbols

-- Names.

is_declared : (count most : ℕ) (too_many : DefError) (taken : Bool) (m : Met) (turn : Turn Expected Draft) → read.declared count most too_many taken m ≡ Ok turn → m ≡ Ok turn
is_declared count most too_many taken m turn h = by (nat_lt count most) taken h where
  by : (a b : Bool) → (if a then (if b then Err Duplicate else m) else Err too_many) ≡ Ok turn → m ≡ Ok turn
  by true false h = h
  by true true h = absurd (cc h)
  by false b h = absurd (cc h)

sort_declared : (draft : Draft) (word : Option (List ℕ)) (turn : Turn Expected Draft) → sort_name draft word ≡ Ok turn →
    (name : List ℕ) × (word ≡ Some name) × (met (record draft { def = record draft.def { sorts = draft.def.sorts ++ name ∷ [] } }) [] ≡ Ok turn)
unfolding sort_name
sort_declared draft None turn h = absurd (cc h)
sort_declared draft (Some name) turn h =
    let m = met (record draft { def = record draft.def { sorts = draft.def.sorts ++ name ∷ [] } }) [] in
    (name, refl, is_declared (length draft.def.sorts) 16 (TooMany which.Sorts) (is_reserved name || read.has_name draft.def.sorts name) m turn h)

con_declared : (draft : Draft) (word : Option (List ℕ)) (turn : Turn Expected Draft) → con_name draft word ≡ Ok turn →
    (name : List ℕ) × (word ≡ Some name) × (met (record draft { con_name = Some name }) [] ≡ Ok turn)
unfolding con_name
con_declared draft None turn h = absurd (cc h)
con_declared draft (Some name) turn h =
    (name, refl, is_declared (length draft.def.cons) 128 (TooMany which.Constructors) (is_some (place_of_con draft.def.cons name)) (met (record draft { con_name = Some name }) []) turn h)

hook_declared : (draft : Draft) (word : Option (List ℕ)) (turn : Turn Expected Draft) → hook_name draft word ≡ Ok turn →
    (name : List ℕ) × (word ≡ Some name) × (met (record draft { hook_name = Some name }) [] ≡ Ok turn)
unfolding hook_name
hook_declared draft None turn h = absurd (cc h)
hook_declared draft (Some name) turn h =
    let m = met (record draft { hook_name = Some name }) [] in
    (name, refl, is_declared (length draft.def.hooks) 8 (TooMany which.Hooks) (is_some (filter_named name) || is_some (place_of_hook draft.def.hooks name)) m turn h)

sort_met : (draft : Draft) (at : ℕ) (symbol : Symbol) (turn : Turn Expected Draft) → step draft expected.SortName at symbol ≡ Ok turn →
    (name : List ℕ) × (symbol ≡ Named name) × (met (record draft { def = record draft.def { sorts = draft.def.sorts ++ name ∷ [] } }) [] ≡ Ok turn)
unfolding step
sort_met draft at symbol turn h = let named = sort_declared draft (plain_word (word_of symbol)) turn h in (named.0, (plain_is symbol named.0 named.1).0, named.2)

con_met : (draft : Draft) (at : ℕ) (symbol : Symbol) (turn : Turn Expected Draft) → step draft expected.ConName at symbol ≡ Ok turn →
    (name : List ℕ) × (symbol ≡ Named name) × (met (record draft { con_name = Some name }) [] ≡ Ok turn)
unfolding step
con_met draft at symbol turn h = let named = con_declared draft (plain_word (word_of symbol)) turn h in (named.0, (plain_is symbol named.0 named.1).0, named.2)

hook_met : (draft : Draft) (at : ℕ) (symbol : Symbol) (turn : Turn Expected Draft) → step draft expected.HookName at symbol ≡ Ok turn →
    (name : List ℕ) × (symbol ≡ Named name) × (met (record draft { hook_name = Some name }) [] ≡ Ok turn)
unfolding step
hook_met draft at symbol turn h = let named = hook_declared draft (plain_word (word_of symbol)) turn h in (named.0, (plain_is symbol named.0 named.1).0, named.2)

-- The sort of a constructor or a hook.

some_sort : (draft : Draft) (sort : Option SortId) (turn : Turn Expected Draft) → read.with_sort draft sort ≡ Ok turn →
    (id : SortId) × (sort ≡ Some id) × (met (record draft { sort = Some id }) [] ≡ Ok turn)
some_sort draft None turn h = absurd (cc h)
some_sort draft (Some id) turn h = (id, refl, h)

used_word : (draft : Draft) (word : Option (List ℕ)) (turn : Turn Expected Draft) → sort_used draft word ≡ Ok turn →
    (id : SortId) × (word ≡ Some (name_at draft.def.sorts id.0)) × (met (record draft { sort = Some id }) [] ≡ Ok turn)
unfolding sort_used
used_word draft None turn h = absurd (cc h)
used_word draft (Some word) turn h = let found = some_sort draft (sort_named draft.def.sorts word) turn h in (found.0, ap Some (sort_word draft.def.sorts word found.0 found.1), found.2)

used_met : (draft : Draft) (at : ℕ) (symbol : Symbol) (turn : Turn Expected Draft) → step draft expected.SortUsed at symbol ≡ Ok turn →
    (id : SortId) × (symbol ≡ Named (name_at draft.def.sorts id.0)) × (met (record draft { sort = Some id }) [] ≡ Ok turn)
unfolding step
used_met draft at symbol turn h = let used = used_word draft (word_of symbol) turn h in (used.0, word_is symbol (name_at draft.def.sorts used.0.0) used.1, used.2)

-- the sort's name was taken
record SortTaken (final : Final) (below : List Expected) (draft : Draft) (symbols : List Symbol) : Type 0 where
  sort : SortId
  left : List Symbol
  symbols_are : symbols ≡ Named (name_at draft.def.sorts sort.0) ∷ left
  reads : Reads final below (record draft { sort = Some sort }) left

sort_taken : {final : Final} {below : List Expected} {draft : Draft} {symbols : List Symbol} → Reads final (expected.SortUsed ∷ below) draft symbols → SortTaken final below draft symbols
sort_taken {draft = draft} r =
    let t = took refl r in
    let used = used_met draft t.at t.symbol t.turn t.met_is in
    record { sort = used.0; left = t.left; symbols_are = first_so t.symbols_are used.1; reads = goes_on t (record draft { sort = Some used.0 }) [] (t.met_is ∙ sym used.2) }

-- Ends of items.

inputs_close : (draft : Draft) → closed draft listed.Inputs ≡ met draft []
unfolding closed
inputs_close draft = refl

con_closes : (draft : Draft) → closed draft listed.Arguments ≡ read.finished_con draft draft.con_name draft.sort
unfolding closed
con_closes draft = refl

hook_closes : (draft : Draft) → closed draft listed.Outputs ≡ read.finished_hook draft draft.hook_name draft.sort
unfolding closed
hook_closes draft = refl

sort_less : {symbols left : List Symbol} {name : Symbol} → symbols ≡ name ∷ left → length left < length symbols
sort_less e = omega (arith, ap length e)

con_less : {symbols : List Symbol} (words left : List Symbol) {name colon sort : Symbol} → symbols ≡ name ∷ colon ∷ sort ∷ (words ++ left) → length left < length symbols
con_less words left e = omega (arith, ap length e, length-append words left)

hook_less : {symbols : List Symbol} (taken given left : List Symbol) (name sort arrow : Symbol) → symbols ≡ name ∷ (taken ++ (sort ∷ arrow ∷ (given ++ left))) →
    length left < length symbols
hook_less taken given left name sort arrow e =
    omega (arith, ap length e, length-append taken (sort ∷ arrow ∷ (given ++ left)), length-append given left)

-- what is expected after the first word of a sort, a constructor and a hook
abbrev pub sort_form : List Expected
sort_form = expected.SortName ∷ expected.Item ∷ []

abbrev pub con_form : List Expected
con_form = expected.ConName ∷ expected.Colon ∷ expected.SortUsed ∷ expected.Open ∷ expected.First listed.Arguments ∷ expected.Item ∷ []

abbrev pub hook_form : List Expected
hook_form = expected.HookName ∷ expected.Open ∷ expected.First listed.Inputs ∷ expected.SortUsed ∷ expected.Arrow ∷ expected.Open ∷ expected.First listed.Outputs ∷ expected.Item ∷ []

module _ {final : Final} (now : Def) (other : Draft) {symbols : List Symbol} where
  -- a sort was read
  pub sort_read : Reads final sort_form (idle now other) symbols → SortRead final now symbols
  sort_read r =
      let t = took refl r in
      let named = sort_met (idle now other) t.at t.symbol t.turn t.met_is in
      let symbols_are = first_so t.symbols_are named.1 in
      record {
        name = named.0;
        left = t.left;
        other = other;
        symbols_are = ap (λ symbols. Named (codes "sort") ∷ symbols) symbols_are;
        reads = goes_on t (idle (with_sort now named.0) other) [] (t.met_is ∙ sym named.2);
        less = sort_less symbols_are;
      }

  -- a constructor was read
  pub con_read : Reads final con_form (idle now other) symbols → ConRead final now symbols
  con_read r =
      let t = took refl r in
      let first = idle now other in
      let named = con_met first t.at t.symbol t.turn t.met_is in
      let name = named.0 in
      let second = record first { con_name = Some name } in
      let coloned = colon_taken (goes_on t second [] (t.met_is ∙ sym named.2)) in
      let sorted = sort_taken coloned.2 in
      let third = record second { sort = Some sorted.sort } in
      let args = list_read listed.Arguments (arg_word now.sorts) (λ (args : List ArgSort). record third { args = args }) (argument_entered third) sorted.reads in
      let con : Con = record { name = name; sort = sorted.sort; args = args.entries } in
      let after = record other { sort = Some sorted.sort } in
      let reads = ends_so args.ended (idle (with_con now con) after) [] (con_closes (record third { args = args.entries })) in
      let words = list_symbols (arg_word now.sorts) args.entries in
      let symbols_are : symbols ≡ Named name ∷ Plain Colon ∷ Named (name_at now.sorts sorted.sort.0) ∷ (words ++ args.left) =
      others_so (first_so t.symbols_are named.1) (others_so coloned.1 (others_so sorted.symbols_are args.symbols_are)) in
      record {
        con = con;
        left = args.left;
        other = after;
        symbols_are = ap (λ symbols. Named (codes "con") ∷ symbols) symbols_are;
        fits = member (ConstructorFits (length now.sorts)) (now.cons ++ con ∷ []) now.cons [] con refl reads.stands.definition.constructors_fit;
        reads = reads;
        less = con_less words args.left symbols_are;
      }

  -- a hook was read
  pub hook_read : (at : ℕ) → Reads final hook_form (record (idle now other) { begun = at }) symbols → HookRead final now symbols
  hook_read at r =
      let t = took refl r in
      let first = record (idle now other) { begun = at } in
      let named = hook_met first t.at t.symbol t.turn t.met_is in
      let name = named.0 in
      let second = record first { hook_name = Some name } in
      let ins = list_read listed.Inputs flow_word (λ (flows : List FlowSort). record second { inputs = flows }) (input_entered second) (goes_on t second [] (t.met_is ∙ sym named.2)) in
      let third = record second { inputs = ins.entries } in
      let sorted = sort_taken (ends_so ins.ended third [] (inputs_close third)) in
      let fourth = record third { sort = Some sorted.sort } in
      let pointed = arrow_taken sorted.reads in
      let outs = list_read listed.Outputs flow_word (λ (flows : List FlowSort). record fourth { outputs = flows }) (output_entered fourth) pointed.2 in
      let hook : Hook = record { name = name; inputs = ins.entries; sort = sorted.sort; outputs = outs.entries } in
      let after = record other { begun = at; sort = Some sorted.sort; hooks = other.hooks ++ at ∷ [] } in
      let reads = ends_so outs.ended (idle (with_hook now hook) after) [] (hook_closes (record fourth { outputs = outs.entries })) in
      let taken = list_symbols flow_word ins.entries in
      let given = list_symbols flow_word outs.entries in
      let sort = Named (name_at now.sorts sorted.sort.0) in
      let symbols_are : symbols ≡ Named name ∷ (taken ++ (sort ∷ Plain Points ∷ (given ++ outs.left))) =
      others_so (first_so t.symbols_are named.1) (ins.symbols_are ∙ ap (λ symbols. taken ++ symbols) (others_so sorted.symbols_are (others_so pointed.1 outs.symbols_are))) in
      record {
        hook = hook;
        left = outs.left;
        other = after;
        symbols_are = ap (λ symbols. Named (codes "hook") ∷ symbols) (others_so symbols_are (sym (append_assoc taken (sort ∷ Plain Points ∷ given) outs.left)));
        fits = member (HookFits (length now.sorts)) (now.hooks ++ hook ∷ []) now.hooks [] hook refl reads.stands.definition.hooks_fit;
        reads = reads;
        less = hook_less taken given outs.left (Named name) sort (Plain Points) symbols_are;
      }
