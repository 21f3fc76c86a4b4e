-- What follows for the top call, whatever the plan.
use Rattle.std.proofs.Common.{◌≡◌, ℕ, ◌≤◌, IfSome, List, [], ◌∷◌, length, Option, Some, Err, refl, sym, ap, subst, inl, inr}
use Rattle.sk_base.specs.Files.{Folder, Selection, Progress}
use Rattle.sk_base.specs.Sink.{PutFits}
use Rattle.sk_base.specs.declared.errors.Failed.{Failed}
use Rattle.sk_bench.specs.declared.status.Ending.{Ending}
use Rattle.sk_bench.specs.declared.status.Ending.TheVariants as ending
use Rattle.sk_bench.specs.declared.status.Status.{Status}
use Rattle.sk_bench.specs.declared.status.Status.TheVariants as status
use Rattle.sk_bench.specs.declared.status.Stop.{Stop}
use Rattle.sk_bench.specs.declared.status.Stop.TheVariants as stop
use Rattle.sk_bench.specs.declared.kinds.Command.{Command}
use Rattle.sk_bench.specs.Status.{status_of, stop_status}
use Rattle.sk_bench.specs.Plan.{Plan, Ended}
use Rattle.sk_bench.specs.Words.{command_of}
use Rattle.sk_bench.specs.Commands.{plan_of, planned}
use Rattle.sk_bench.specs.Following.{HasStopped}
use Rattle.sk_bench.specs.Headline.{EndsAsTold, StopsAsTold, IsComplete, IsCompleteTooLong, IsFaultless, IsOneOf}
use Rattle.sk_bench.proofs.Plans.{ends_steady, reaches_steady, ends_told, ends_short, too_long_ends, ends_unshaken, too_long_unshaken, stops_reaches, leads_unshaken, leads_short, leads_room}

-- what holds of the command's plan holds of the plan that the words ask for
pub if_planned : (words : List (List ℕ)) (command : Command) (P : Plan → Type 0) → command_of words ≡ Some command → P (plan_of words command) → IfSome (planned words) P
if_planned words command P is h = rw is h

-- no ending with a text is a fault, and want of memory is none
ends_well : (ending : Ending) → IsOneOf (status_of ending) (status.ReadFault ∷ status.WriteFault ∷ status.TooLong ∷ []) → ⊥
ends_well ending.Done (inl e) = absurd (cc e)
ends_well ending.Done (inr (inl e)) = absurd (cc e)
ends_well ending.Done (inr (inr (inl e))) = absurd (cc e)
ends_well ending.Done (inr (inr (inr h))) = h
ends_well ending.No (inl e) = absurd (cc e)
ends_well ending.No (inr (inl e)) = absurd (cc e)
ends_well ending.No (inr (inr (inl e))) = absurd (cc e)
ends_well ending.No (inr (inr (inr h))) = h
ends_well ending.Definition (inl e) = absurd (cc e)
ends_well ending.Definition (inr (inl e)) = absurd (cc e)
ends_well ending.Definition (inr (inr (inl e))) = absurd (cc e)
ends_well ending.Definition (inr (inr (inr h))) = h
ends_well ending.Job (inl e) = absurd (cc e)
ends_well ending.Job (inr (inl e)) = absurd (cc e)
ends_well ending.Job (inr (inr (inl e))) = absurd (cc e)
ends_well ending.Job (inr (inr (inr h))) = h
ends_well ending.Table (inl e) = absurd (cc e)
ends_well ending.Table (inr (inl e)) = absurd (cc e)
ends_well ending.Table (inr (inr (inl e))) = absurd (cc e)
ends_well ending.Table (inr (inr (inr h))) = h

starved_well : IsOneOf status.NoMemory (status.ReadFault ∷ status.WriteFault ∷ status.TooLong ∷ []) → ⊥
starved_well (inl e) = absurd (cc e)
starved_well (inr (inl e)) = absurd (cc e)
starved_well (inr (inr (inl e))) = absurd (cc e)
starved_well (inr (inr (inr h))) = h

module _ (folder : Folder) (plan : Plan) where
  module _ (now was : Progress) (ending : Ending) (text : List ℕ) (ends : Ended folder now was plan ending text) where
    -- the text was written
    pub written_exact : EndsAsTold folder plan (status_of ending)
    written_exact said_ending said told = inl (ap status_of (ends_told folder now was plan ending said_ending text said ends told).0)

    pub written_complete : (room : Option ℕ) → IsComplete folder plan room (status_of ending)
    written_complete room said_ending said space steady is fits =
        inl (ap status_of (ends_told folder now was plan ending said_ending text said ends (ends_steady folder plan said_ending said steady)).0)

    -- there was a text, so no file was too long
    pub made_limit : (answer : Status) → StopsAsTold folder plan answer
    made_limit answer reaches = absurd (too_long_ends folder now was plan ending text reaches ends)

    pub made_complete_too_long : (answer : Status) → IsCompleteTooLong folder plan answer
    made_complete_too_long answer reaches = absurd (too_long_ends folder now was plan ending text (reaches_steady folder plan reaches) ends)

    pub written_faultless : (room : Option ℕ) → IsFaultless folder plan room (status_of ending)
    written_faultless room told leads is one = ends_well ending one

    -- the sink failed, so its told room is too small
    pub failed_complete : (room next : Option ℕ) (failed : Failed) → PutFits {T = Unit {0}} {E = Failed} room next (Err failed) (length text) → IsComplete folder plan room status.WriteFault
    failed_complete room next failed fits said_ending said space steady is few =
        let same = (ends_told folder now was plan ending said_ending text said ends (ends_steady folder plan said_ending said steady)).1 in
        let put = subst (λ r. PutFits {T = Unit {0}} {E = Failed} r next (Err failed) (length text)) is fits in
        absurd (let h = (put (subst (λ l. length l ≤ space) (sym same) few)).0 in cc)

    pub failed_faultless : (room next : Option ℕ) (failed : Failed) → PutFits {T = Unit {0}} {E = Failed} room next (Err failed) (length text) → IsFaultless folder plan room status.WriteFault
    failed_faultless room next failed fits told leads is one =
        let put = subst (λ r. PutFits {T = Unit {0}} {E = Failed} r next (Err failed) (length text)) is fits in
        absurd (let h = (put (leads_room folder now was told plan ending text ends leads)).0 in cc)

  module _ (was now : Selection) (before after : ℕ) where
    -- the command stopped for a cause
    pub stopped_exact : (reason : Stop) → HasStopped folder was now before after plan reason → EndsAsTold folder plan (stop_status reason)
    stopped_exact stop.ReadFault cause ending text told = inr (inl refl)
    stopped_exact stop.TooLong cause ending text told = absurd (ends_short folder now.given plan ending text told (stops_reaches folder _ _ _ plan cause))
    stopped_exact stop.NoMemory cause ending text told = inr (inr (inr (inl refl)))

    pub stopped_limit : (reason : Stop) → StopsAsTold folder plan (stop_status reason)
    stopped_limit stop.ReadFault reaches = inr (inl refl)
    stopped_limit stop.TooLong reaches = inl refl
    stopped_limit stop.NoMemory reaches = inr (inr (inl refl))

    pub stopped_complete : (room : Option ℕ) (reason : Stop) → HasStopped folder was now before after plan reason → IsComplete folder plan room (stop_status reason)
    stopped_complete room stop.ReadFault cause ending text space steady is fits = absurd (ends_unshaken folder plan ending text steady (stops_reaches folder _ _ _ plan cause.1))
    stopped_complete room stop.TooLong cause ending text space steady is fits =
        absurd (ends_short folder now.given plan ending text (ends_steady folder plan ending text steady) (stops_reaches folder _ _ _ plan cause))
    stopped_complete room stop.NoMemory cause ending text space steady is fits = inr (inl refl)

    pub stopped_complete_too_long : (reason : Stop) → HasStopped folder was now before after plan reason → IsCompleteTooLong folder plan (stop_status reason)
    stopped_complete_too_long stop.ReadFault cause reaches = absurd (too_long_unshaken folder plan reaches (stops_reaches folder _ _ _ plan cause.1))
    stopped_complete_too_long stop.TooLong cause reaches = inl refl
    stopped_complete_too_long stop.NoMemory cause reaches = inr (inl refl)

    pub stopped_faultless : (room : Option ℕ) (reason : Stop) → HasStopped folder was now before after plan reason → IsFaultless folder plan room (stop_status reason)
    stopped_faultless room stop.ReadFault cause told leads is one = leads_unshaken folder told plan leads (stops_reaches folder _ _ _ plan cause.1)
    stopped_faultless room stop.TooLong cause told leads is one = leads_short folder told now.given plan leads (stops_reaches folder _ _ _ plan cause)
    stopped_faultless room stop.NoMemory cause told leads is one = starved_well one
