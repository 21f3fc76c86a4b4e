-- What holds of every plan.
use Rattle.std.proofs.Common.{◌≡◌, ℕ, ◌<◌, ◌≤◌, Bool, IsTrue, IsFalse, List, length, Option, None, Some, IfSome, sym, ◌∙◌, subst, inl, inr, arith}
use Rattle.sk_base.specs.Files.{Folder, Progress, read_once, turn_after}
use Rattle.sk_bench.specs.declared.status.Ending.{Ending}
use Rattle.sk_bench.proofs.Answered.{one_answer}
use Rattle.sk_bench.specs.Plan.{Plan, Write, Read, WriteAnswer, Ended, Ends, Leads, Reaches, Stops, Agrees, IsTold, IsSteady, IsShaky, GaveTooMuch, IsTooLong, IsSteadyTooLong}

-- what agrees with told bytes is those bytes
agrees_told : (told : Option (List ℕ)) (bytes others : List ℕ) → IfSome told (λ xs. bytes ≡ xs) → told ≡ Some others → bytes ≡ others
agrees_told None bytes others agrees is = absurd (cc)
agrees_told (Some xs) bytes others agrees is = cc

at_told : (told : Option (List ℕ)) (bytes : List ℕ) (limit : ℕ) → IfSome told (λ xs. limit < length xs) → told ≡ Some bytes → limit < length bytes
at_told None bytes limit h is = absurd (cc)
at_told (Some xs) bytes limit h is = let same : xs ≡ bytes = cc in subst (λ l. limit < length l) same h

never_both : (b : Bool) → IsTrue b → IsFalse b → ⊥
never_both b p q = cc

module _ (folder : Folder) where
  -- a steady ending is told
  pub ends_steady : (plan : Plan) (ending : Ending) (text : List ℕ) → Ends (IsSteady folder) plan ending text → Ends (IsTold folder) plan ending text
  ends_steady (Write as_said said) ending text h = h
  ends_steady (Read name limit next) ending text (bytes, told, short, rest) = (bytes, told.1, short, ends_steady (next bytes) ending text rest)
  ends_steady (WriteAnswer asked) ending text h = h

  pub reaches_steady : (plan : Plan) → Reaches (IsSteady folder) (IsSteadyTooLong folder) plan → Reaches (IsTold folder) (IsTooLong folder) plan
  reaches_steady (Write as_said said) h = absurd h
  reaches_steady (Read name limit next) (inl long) = inl long.1
  reaches_steady (Read name limit next) (inr (bytes, told, short, rest)) = inr (bytes, told.1, short, reaches_steady (next bytes) rest)
  reaches_steady (WriteAnswer asked) h = absurd h

  -- where the files tell how the plan ends, it ended in no other way
  pub ends_told : (now was : Progress) (plan : Plan) (ending said_ending : Ending) (text said : List ℕ) → Ended folder now was plan ending text
      → Ends (IsTold folder) plan said_ending said → (ending ≡ said_ending) × (text ≡ said)
  ends_told now was (Write as_said said') ending said_ending text said h told = (h.0 ∙ sym told.0, h.1 ∙ sym told.1)
  ends_told now was (Read name limit next) ending said_ending text said (bytes, agrees, short, rest) (others, told, few, end) =
      let same : bytes ≡ others = agrees_told (folder.told name) bytes others agrees told in
      ends_told now (read_once was (length others)) (next others) ending said_ending text said (subst (λ l. Ended folder now (read_once was (length l)) (next l) ending text) same rest) end
  ends_told now was (WriteAnswer asked) ending said_ending text said (is, means, same) told = one_answer asked ending said_ending text said is told

  -- where they tell that it ends, no file gives too much
  pub ends_short : (given : ℕ) (plan : Plan) (ending : Ending) (text : List ℕ) → Ends (IsTold folder) plan ending text → Reaches (Agrees folder) (GaveTooMuch folder given) plan → ⊥
  ends_short given (Write as_said said) ending text h reaches = reaches
  ends_short given (Read name limit next) ending text (bytes, told, short, rest) (inl gave) =
      let long : limit < length bytes = at_told (folder.told name) bytes limit gave.1 told in omega arith
  ends_short given (Read name limit next) ending text (bytes, told, short, rest) (inr (others, agrees, few, reaches)) =
      let same : others ≡ bytes = agrees_told (folder.told name) others bytes agrees told in
      ends_short given (next bytes) ending text rest (subst (λ l. Reaches (Agrees folder) (GaveTooMuch folder given) (next l)) same reaches)
  ends_short given (WriteAnswer asked) ending text h reaches = reaches

  -- where they tell that a file is too long, the plan didn't end
  pub too_long_ends : (now was : Progress) (plan : Plan) (ending : Ending) (text : List ℕ) → Reaches (IsTold folder) (IsTooLong folder) plan
      → Ended folder now was plan ending text → ⊥
  too_long_ends now was (Write as_said said) ending text h ends = h
  too_long_ends now was (Read name limit next) ending text (inl (others, told, long)) (bytes, agrees, short, rest) =
      let same : bytes ≡ others = agrees_told (folder.told name) bytes others agrees told in
      let long' : limit < length bytes = subst (λ l. limit < length l) (sym same) long in omega arith
  too_long_ends now was (Read name limit next) ending text (inr (others, told, few, reaches)) (bytes, agrees, short, rest) =
      let same : bytes ≡ others = agrees_told (folder.told name) bytes others agrees told in
      too_long_ends now (read_once was (length others)) (next others) ending text reaches (subst (λ l. Ended folder now (read_once was (length l)) (next l) ending text) same rest)
  too_long_ends now was (WriteAnswer asked) ending text h ends = h

  -- where steady files tell how the plan ends, no other file has its turn
  pub ends_unshaken : (plan : Plan) (ending : Ending) (text : List ℕ) → Ends (IsSteady folder) plan ending text → Reaches (Agrees folder) (IsShaky folder) plan → ⊥
  ends_unshaken (Write as_said said) ending text h reaches = reaches
  ends_unshaken (Read name limit next) ending text (bytes, told, short, rest) (inl shaky) = never_both (folder.steady name) told.0 shaky
  ends_unshaken (Read name limit next) ending text (bytes, told, short, rest) (inr (others, agrees, few, reaches)) =
      let same : others ≡ bytes = agrees_told (folder.told name) others bytes agrees told.1 in
      ends_unshaken (next bytes) ending text rest (subst (λ l. Reaches (Agrees folder) (IsShaky folder) (next l)) same reaches)
  ends_unshaken (WriteAnswer asked) ending text h reaches = reaches

  pub too_long_unshaken : (plan : Plan) → Reaches (IsSteady folder) (IsSteadyTooLong folder) plan → Reaches (Agrees folder) (IsShaky folder) plan → ⊥
  too_long_unshaken (Write as_said said) h reaches = reaches
  too_long_unshaken (Read name limit next) (inl long) (inl shaky) = never_both (folder.steady name) long.0 shaky
  too_long_unshaken (Read name limit next) (inl (steady, (bytes, told, long))) (inr (others, agrees, few, reaches)) =
      let same : others ≡ bytes = agrees_told (folder.told name) others bytes agrees told in
      let long' : limit < length others = subst (λ l. limit < length l) (sym same) long in omega arith
  too_long_unshaken (Read name limit next) (inr (bytes, told, short, rest)) (inl shaky) = never_both (folder.steady name) told.0 shaky
  too_long_unshaken (Read name limit next) (inr (bytes, told, short, rest)) (inr (others, agrees, few, reaches)) =
      let same : others ≡ bytes = agrees_told (folder.told name) others bytes agrees told.1 in
      too_long_unshaken (next bytes) rest (subst (λ l. Reaches (Agrees folder) (IsShaky folder) (next l)) same reaches)
  too_long_unshaken (WriteAnswer asked) h reaches = reaches

  -- the files whose turns came before the one at which the plan stops
  pub stops_reaches : (Q : List ℕ → ℕ → Type 0) (now was : ℕ) (plan : Plan) → Stops folder Q now was plan → Reaches (Agrees folder) Q plan
  stops_reaches Q now was (Write as_said said) h = h
  stops_reaches Q now was (Read name limit next) (inl (here, turns)) = inl here
  stops_reaches Q now was (Read name limit next) (inr (bytes, agrees, short, rest)) = inr (bytes, agrees, short, stops_reaches Q now (turn_after was) (next bytes) rest)
  stops_reaches Q now was (WriteAnswer asked) h = h

  -- where steady files lead to the plan's end, no file that isn't steady has its turn, and none gives too much
  pub leads_unshaken : (room : ℕ) (plan : Plan) → Leads (IsSteady folder) room plan → Reaches (Agrees folder) (IsShaky folder) plan → ⊥
  leads_unshaken room (Write as_said said) h reaches = reaches
  leads_unshaken room (Read name limit next) (bytes, told, short, rest) (inl shaky) = never_both (folder.steady name) told.0 shaky
  leads_unshaken room (Read name limit next) (bytes, told, short, rest) (inr (others, agrees, few, reaches)) =
      let same : others ≡ bytes = agrees_told (folder.told name) others bytes agrees told.1 in
      leads_unshaken room (next bytes) rest (subst (λ l. Reaches (Agrees folder) (IsShaky folder) (next l)) same reaches)
  leads_unshaken room (WriteAnswer asked) h reaches = reaches

  pub leads_short : (room given : ℕ) (plan : Plan) → Leads (IsSteady folder) room plan → Reaches (Agrees folder) (GaveTooMuch folder given) plan → ⊥
  leads_short room given (Write as_said said) h reaches = reaches
  leads_short room given (Read name limit next) (bytes, told, short, rest) (inl gave) =
      let long : limit < length bytes = at_told (folder.told name) bytes limit gave.1 told.1 in omega arith
  leads_short room given (Read name limit next) (bytes, told, short, rest) (inr (others, agrees, few, reaches)) =
      let same : others ≡ bytes = agrees_told (folder.told name) others bytes agrees told.1 in
      leads_short room given (next bytes) rest (subst (λ l. Reaches (Agrees folder) (GaveTooMuch folder given) (next l)) same reaches)
  leads_short room given (WriteAnswer asked) h reaches = reaches

  -- the text with which the plan ended has room
  pub leads_room : (now was : Progress) (room : ℕ) (plan : Plan) (ending : Ending) (text : List ℕ) → Ended folder now was plan ending text → Leads (IsSteady folder) room plan → length text ≤ room
  leads_room now was room (Write as_said said) ending text h fits = subst (λ l. length l ≤ room) (sym h.1) fits
  leads_room now was room (Read name limit next) ending text (bytes, agrees, short, rest) (others, told, few, leads) =
      let same : bytes ≡ others = agrees_told (folder.told name) bytes others agrees told.1 in
      leads_room now (read_once was (length others)) room (next others) ending text (subst (λ l. Ended folder now (read_once was (length l)) (next l) ending text) same rest) leads
  leads_room now was room (WriteAnswer asked) ending text h fits = fits ending text h.0
